-- Facts on names that are no expression, and on what ends them.
use Rattle.std.proofs.Common.{◌≡◌, ℕ, Bool, true, false, cond, List, [], ◌∷◌, ◌++◌, Option, Some, None, codes, length}
use Rattle.std.proofs.Common.{map, ◌≤◌, refl, sym, ap, ◌∙◌, append-nil, append_assoc, arith}
use Rattle.std.specs.Prelude.{is_some}
use Rattle.java_lexer.specs.declared.token.Token.{Token}
use Rattle.java_tree.specs.declared.words.Spelled.{Spelled}
use Rattle.java_tree.specs.Brackets.{is_sign, is_keyword, is_word_name}
use Rattle.java_tree.specs.Trees.{Expr}
use Rattle.java_parser_types.specs.declared.error.ReadError.{ReadError}
use Rattle.java_parser_types.specs.declared.error.ReadError.TheVariants.{Memory, Unformed}
use Rattle.java_parser_grammar.specs.Taking.{◌>>=◌, match_option, after_sign, after_keyword, after_name}
use Rattle.java_parser_grammar.specs.BalancedReading.{Reading}
use Rattle.java_parser_grammar.specs.ExpressionReading.{NamesEnd, AtClass, AtThis, array_class_at, class_at, ended}
use Rattle.java_parser_grammar.specs.ExpressionReading.{name_with}
use Rattle.java_parser_expressions.specs.ClassFollows.{names_end_at, class_follows, class_behind}
use Rattle.java_parser_types.specs.Tokens.{spelled}
use Rattle.java_parser_types.specs.ReadAnswer.{Fails}

-- names with an end
abbrev Ended : Type 0
Ended = (List (List ℕ) × NamesEnd) × List Spelled

-- the same with one more name in front
abbrev one_more : List ℕ → Ended → Option Ended
one_more x xs = Some ((x ∷ xs.0.0, xs.0.1), xs.1)

abbrev no_names : NamesEnd × List Spelled → Option Ended
no_names e = Some (([], e.0), e.1)

-- ---- one step

abbrev no_tokens : List Spelled
no_tokens = []

-- the names from this one on, and from a point on
abbrev named : Option (List ℕ × List Spelled) → Option Ended
named o = o >>= λ y. class_at true y.1 >>= one_more y.0

abbrev pointed : Option (List Spelled) → Option Ended
pointed o = o >>= λ r. named (after_name r)

-- behind a point
abbrev word_end : List Spelled → Option (NamesEnd × List Spelled)
word_end r =
    match_option (after_keyword (codes "class") r)
    (match_option (after_keyword (codes "this") r) None (λ s. Some (AtThis, s))) (λ s. Some (AtClass, s))

by_end : (k h n : Bool) (x : List ℕ) (us : List Spelled) → cond k (Some (([], AtClass), us)) (cond h (Some (
  (
    [],
    AtThis,
  ),
  us,
)) (cond n (class_at true us >>= one_more x) None)) ≡ match_option (match_option (cond k (Some us) None)
    (match_option (cond h (Some us) None) None (λ s. Some (AtThis, s))) (λ s. Some (AtClass, s)))
    (named (cond n (Some (x, us)) None)) no_names
by_end true h n x us = refl
by_end false true n x us = refl
by_end false false true x us = refl
by_end false false false x us = refl

by_bracket : (e : Bool) (a : Option (NamesEnd × List Spelled)) → cond e (a >>= no_names) None ≡ match_option (cond e a
    None) None no_names
by_bracket true None = refl
by_bracket true (Some a) = refl
by_bracket false a = refl

-- the end of names, or one more name
pub class_step : (ts : List Spelled) → class_at true ts ≡ match_option (names_end_at ts) (pointed (after_sign
    (codes ".") ts)) no_names
unfolding class_at
class_step [] = refl
class_step (t ∷ []) = by_point (is_sign (codes ".") t) where
  by_point : (b : Bool) → cond b None (cond (is_sign (codes "[") t) (array_class_at (t ∷ []) >>= no_names) None)
      ≡ match_option (match_option (cond b (Some no_tokens) None) (cond (is_sign (codes "[") t) (array_class_at
      (t ∷ [])) None) word_end) (pointed (cond b (Some no_tokens) None)) no_names
  by_point true = refl
  by_point false = by_bracket (is_sign (codes "[") t) (array_class_at (t ∷ []))
class_step (t ∷ u ∷ us) = by_point (is_sign (codes ".") t) where
  by_point : (b : Bool) → cond b (class_at false (u ∷ us)) (cond (is_sign (codes "[") t) (array_class_at (t ∷ u ∷ us)
      >>= no_names) None) ≡ match_option (match_option (cond b (Some (u ∷ us)) None) (cond (is_sign (codes "[") t)
      (array_class_at (t ∷ u ∷ us)) None) word_end)
      (pointed (cond b (Some (u ∷ us)) None)) no_names
  by_point true = by_end (is_keyword (codes "class") u) (is_keyword (codes "this") u) (is_word_name u) u.text us
  by_point false = by_bracket (is_sign (codes "[") t) (array_class_at (t ∷ u ∷ us))

-- ---- whether they follow

pub follows_none : (ts : List Spelled) → class_follows ts ≡ false → class_at true ts ≡ None
follows_none ts h = none_of (class_at true ts) h where
  none_of : (o : Option Ended) → is_some o ≡ false → o ≡ None
  none_of None h = refl
  none_of (Some x) h = absurd cc

given : {Y Z : Type 0} (o : Option Y) (d : Option Z) (k : Y → Option Z) → is_some o ≡ true
    → match_option o d k ≡ (o >>= k)
given None d k h = absurd cc
given (Some y) d k h = refl

pub class_given : (read : ℕ → Reading Expr) (n : ℕ) (x : List ℕ) (ts : List Spelled) → class_follows ts ≡ true
    → name_with read n x ts ≡ class_behind (x ∷ []) (class_at true ts)
unfolding name_with
class_given read n x ts h = given (class_at true ts) _ (λ names. Some (ended (x ∷ names.0.0) names.0.1, names.1)) h

pub follows_end : (here : List Spelled) (e : NamesEnd × List Spelled) → names_end_at here ≡ Some e
    → class_follows here ≡ true
follows_end here e h = rw (class_step here, h) refl

pub follows_unpointed : (here : List Spelled) → names_end_at here ≡ None → after_sign (codes ".") here ≡ None
    → class_follows here ≡ false
follows_unpointed here h b = rw (class_step here, h, b) refl

pub follows_unnamed : (here after : List Spelled) → names_end_at here ≡ None → after_sign (codes ".") here ≡ Some after
    → after_name after ≡ None → class_follows here ≡ false
follows_unnamed here after h b n = rw (class_step here, h, b, n) refl

follows_more : (x : List ℕ) (o : Option Ended) → is_some (o >>= one_more x) ≡ is_some o
follows_more x None = refl
follows_more x (Some xs) = refl

pub follows_name : (here after rest : List Spelled) (x : List ℕ) → names_end_at here ≡ None
    → after_sign (codes ".") here ≡ Some after → after_name after ≡ Some (x, rest)
    → class_follows here ≡ class_follows rest
follows_name here after rest x h b n = rw (class_step here, h, b, n) (follows_more x (class_at true rest))

-- ---- the loop that reads them

regrouped : (front : List (List ℕ)) (x : List ℕ) (read : Option Ended) → class_behind front (read >>= one_more x)
    ≡ class_behind (front ++ x ∷ []) read
regrouped front x None = refl
regrouped front x (Some xs) = ap (λ (ys : List (List ℕ)). Some (ended ys xs.0.1, xs.1)) (simp append_assoc)

module _ (total : Option (Expr × List Spelled)) (front : List (List ℕ)) (here : List Spelled) where
  pub class_ends : (e : NamesEnd) (rest : List Spelled) → names_end_at here ≡ Some (e, rest)
      → class_behind front (class_at true here) ≡ total → total ≡ Some (ended front e, rest)
  class_ends e rest h so_far =
      let one : class_behind front (class_at true here) ≡ Some (ended front e, rest) =
      rw (class_step here, h) (ap (λ (ys : List (List ℕ)). Some (ended ys e, rest)) (append-nil front)) in
      sym so_far ∙ one

  pub class_unpointed : (e : ReadError) → names_end_at here ≡ None → Fails e (after_sign (codes ".") here)
      → class_behind front (class_at true here) ≡ total → Fails e total
  class_unpointed Memory h b so_far = tt
  class_unpointed Unformed h b so_far =
      let one : class_behind front (class_at true here) ≡ None = rw (class_step here, h, b) refl in
      sym so_far ∙ one

  pub class_fails : (e : ReadError) (after : List Spelled) → names_end_at here ≡ None
      → after_sign (codes ".") here ≡ Some after → Fails e (after_name after)
      → class_behind front (class_at true here) ≡ total → Fails e total
  class_fails Memory after h b n so_far = tt
  class_fails Unformed after h b n so_far =
      let one : class_behind front (class_at true here) ≡ None = rw (class_step here, h, b, n) refl in
      sym so_far ∙ one

  pub class_goes_on : (x : List ℕ) (after rest : List Spelled) → names_end_at here ≡ None
      → after_sign (codes ".") here ≡ Some after → after_name after ≡ Some (x, rest)
      → class_behind front (class_at true here) ≡ total
      → class_behind (front ++ x ∷ []) (class_at true rest) ≡ total
  class_goes_on x after rest h b n so_far =
      let one : class_behind front (class_at true here) ≡ class_behind (front ++ x ∷ []) (class_at true rest) =
      rw (class_step here, h, b, n) (regrouped front x (class_at true rest)) in
      sym one ∙ so_far

pub class_runs_out : (total : Option (Expr × List Spelled)) (front : List (List ℕ)) (rest : List Token)
    → length rest ≤ 0 → class_behind front (class_at true (map spelled rest)) ≡ total → total ≡ None
unfolding class_at
class_runs_out total front [] le so_far = sym so_far
class_runs_out total front (t ∷ rest) le so_far = absurd (omega arith)
