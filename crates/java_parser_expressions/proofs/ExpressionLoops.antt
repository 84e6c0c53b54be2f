-- The loops that read expressions: lengths, items of arrays and turns.
use Rattle.std.proofs.Common.{◌≡◌, ℕ, suc, ◌+◌, ◌-◌, ◌≤◌, ◌<◌, Bool, true, false, List, [], ◌∷◌, ◌++◌, length}
use Rattle.std.proofs.Common.{map, codes, Option, Some, None, refl, sym, ap, ◌∙◌}
use Rattle.std.proofs.Common.{append_assoc, append-nil, arith}
use Rattle.java_lexer.specs.declared.token.Token.{Token}
use Rattle.java_tree.specs.declared.words.Spelled.{Spelled}
use Rattle.java_tree.specs.Trees.{Expr, Init, Array, Braces, pack_inits}
use Rattle.java_parser_types.specs.declared.error.ReadError.{ReadError}
use Rattle.java_parser_types.specs.declared.error.ReadError.TheVariants.{Memory, Unformed}
use Rattle.java_parser_grammar.specs.Taking.{◌>>=◌, match_option, after_sign}
use Rattle.java_parser_grammar.specs.TypeReading.{after_brackets}
use Rattle.java_parser_grammar.specs.Leads.{lead}
use Rattle.java_parser_grammar.specs.BalancedReading.{Reading}
use Rattle.java_parser_grammar.specs.ExpressionReading.{Stop, Next, turn_with, climb_with, lengths_with}
use Rattle.java_parser_grammar.specs.ExpressionReading.{items_with}
use Rattle.java_parser_types.specs.Tokens.{spelled}
use Rattle.java_parser_types.specs.Finishing.{finished}
use Rattle.java_parser_types.specs.Endings.{length_behind, item_behind, items_close, items_end}
use Rattle.java_parser_types.specs.ReadAnswer.{Fails}
use Rattle.java_parser_types.proofs.ReadLoops.{some_left, none_left, regroup}

-- ---- lengths

by_brackets : {X : Type 0} (b o : Option (List Spelled)) (end : X) (go : List Spelled → X)
    → match_option b (match_option o end go) (λ r. end) ≡ match_option (match_option b o (λ r. None)) end go
by_brackets None o end go = refl
by_brackets (Some r) o end go = refl

module _ {B : Type 0} (read : Reading Expr) (finish : List Expr × List Spelled → Option B) (total : Option B)
    (tokens : List Token) (i : ℕ) (front : List Expr) (here : List Spelled) where
  one_length : (m : ℕ) → lengths_with read (suc m) here ≡ match_option (length_behind here) (Some ([], here))
      (λ r. read r >>= λ first. after_sign (codes "]") first.1 >>= λ s. lengths_with read m s >>= λ others. Some
      (first.0 ∷ others.0, others.1))
  unfolding lengths_with
  one_length m = by_brackets (after_brackets here) (after_sign (codes "[") here) (Some ([], here)) (λ r. read r >>=
      λ first. after_sign (codes "]") first.1 >>= λ s. lengths_with read m s >>= λ others. Some (
        first.0 ∷ others.0,
        others.1,
      ))

  pub length_goes_on : (x : Expr) (inside behind rest : List Spelled) → i < length tokens
      → length_behind here ≡ Some inside → read inside ≡ Some (x, behind) → after_sign (codes "]") behind ≡ Some rest
      → finished finish front (lengths_with read (length (map spelled tokens) - i) here) ≡ total
      → finished finish (front ++ x ∷ []) (lengths_with read (length (map spelled tokens) - (i + 1)) rest) ≡ total
  length_goes_on x inside behind rest lt g h c so_far =
      let k = some_left tokens i lt in
      let m = length (map spelled tokens) - (i + 1) in
      let one : finished finish front (lengths_with read (length (map spelled tokens) - i) here) ≡ finished finish
      (front ++ x ∷ []) (lengths_with read (length (map spelled tokens) - (i + 1)) rest) =
      rw (k, one_length m, g, h, c) (regroup finish front x (lengths_with read m rest)) in
      sym one ∙ so_far

  pub length_fails : (e : ReadError) (inside : List Spelled) → i < length tokens → length_behind here ≡ Some inside
      → Fails e (read inside) → finished finish front (lengths_with read (length (map spelled tokens) - i) here)
      ≡ total → Fails e total
  length_fails Memory inside lt g h so_far = tt
  length_fails Unformed inside lt g h so_far =
      let k = some_left tokens i lt in
      let one : finished finish front (lengths_with read (length (map spelled tokens) - i) here) ≡ None =
      rw (k, one_length (length (map spelled tokens) - (i + 1)), g, h) refl in
      sym so_far ∙ one

  pub length_unclosed : (e : ReadError) (x : Expr) (inside behind : List Spelled) → i < length tokens
      → length_behind here ≡ Some inside → read inside ≡ Some (x, behind) → Fails e (after_sign (codes "]") behind)
      → finished finish front (lengths_with read (length (map spelled tokens) - i) here) ≡ total → Fails e total
  length_unclosed Memory x inside behind lt g h c so_far = tt
  length_unclosed Unformed x inside behind lt g h c so_far =
      let k = some_left tokens i lt in
      let one : finished finish front (lengths_with read (length (map spelled tokens) - i) here) ≡ None =
      rw (k, one_length (length (map spelled tokens) - (i + 1)), g, h, c) refl in
      sym so_far ∙ one

  pub length_ends : i < length tokens → length_behind here ≡ None
      → finished finish front (lengths_with read (length (map spelled tokens) - i) here) ≡ total
      → total ≡ finish (front, here)
  length_ends lt g so_far =
      let k = some_left tokens i lt in
      let one : finished finish front (lengths_with read (length (map spelled tokens) - i) here) ≡ finish (
        front,
        here,
      ) = rw (k, one_length (length (map spelled tokens) - (i + 1)), g) (ap (λ (xs : List Expr). finish (
        xs,
        here,
      )) (append-nil front)) in
      sym so_far ∙ one

  pub length_runs_out : length tokens ≤ i → finished finish front (lengths_with read (length (map spelled tokens) - i)
      here) ≡ total → total ≡ finish (front, here)
  unfolding lengths_with
  length_runs_out le so_far =
      let k = none_left tokens i le in
      let one : finished finish front (lengths_with read (length (map spelled tokens) - i) here) ≡ finish (
        front,
        here,
      ) = rw k (ap (λ (xs : List Expr). finish (xs, here)) (append-nil front)) in
      sym so_far ∙ one

-- ---- items of arrays

regroup_items : (front : List Init) (x : Init) (read : Option (List Init × Bool × List Spelled))
    → items_end front (read >>= λ y. Some (x ∷ y.0, y.1, y.2)) ≡ items_end (front ++ x ∷ []) read
regroup_items front x (Some y) = ap (λ (xs : List Init). Some (Braces (pack_inits xs) y.1, y.2)) (simp append_assoc)
regroup_items front x None = refl

by_close : (b : Option (List Spelled)) (r : List Spelled) (go : List Spelled
    → Option (List Init × Bool × List Spelled)) → match_option b (go r) (λ s. Some ([], true, s)) ≡ match_option
    (match_option b (Some r) (λ s. None)) (b >>= λ s. Some ([], true, s)) go
by_close None r go = refl
by_close (Some s) r go = refl

by_comma : (o : Option (List Spelled)) (close : List Spelled → Option (List Spelled)) (end : Option (List Spelled))
    (go : List Spelled → Option (List Init × Bool × List Spelled)) →
    match_option o (end >>= λ r. Some ([], false, r)) (λ r. match_option (close r) (go r) (λ s. Some ([], true, s))) ≡
    match_option (match_option o None (λ r. match_option (close r) (Some r) (λ s. None)))
    (match_option o (end >>= λ r. Some ([], false, r)) (λ r. close r >>= λ s. Some ([], true, s))) go
by_comma None close end go = refl
by_comma (Some r) close end go = by_close (close r) r go

module _ (read : Reading Init) (total : Option (Array × List Spelled)) (tokens : List Token) (i : ℕ)
    (front : List Init) (here : List Spelled) where
  one_item : (m : ℕ) → items_with read (suc m) here ≡ match_option (item_behind here) (items_close here)
      (λ r. read r >>= λ first. items_with read m first.1 >>= λ others. Some (first.0 ∷ others.0, others.1, others.2))
  unfolding items_with
  one_item m = by_comma (after_sign (codes ",") here) (after_sign (codes "}")) (after_sign (codes "}") here)
      (λ r. read r >>= λ first. items_with read m first.1 >>= λ others. Some (first.0 ∷ others.0, others.1, others.2))

  pub item_goes_on : (x : Init) (after rest : List Spelled) → i < length tokens → item_behind here ≡ Some after
      → read after ≡ Some (x, rest) → items_end front (items_with read (length (map spelled tokens) - i) here) ≡ total
      → items_end (front ++ x ∷ []) (items_with read (length (map spelled tokens) - (i + 1)) rest) ≡ total
  item_goes_on x after rest lt g h so_far =
      let k = some_left tokens i lt in
      let m = length (map spelled tokens) - (i + 1) in
      let one : items_end front (items_with read (length (map spelled tokens) - i) here) ≡ items_end (front ++ x ∷ [])
      (items_with read (length (map spelled tokens) - (i + 1)) rest) =
      rw (k, one_item m, g, h) (regroup_items front x (items_with read m rest)) in
      sym one ∙ so_far

  pub item_fails : (e : ReadError) (after : List Spelled) → i < length tokens → item_behind here ≡ Some after
      → Fails e (read after) → items_end front (items_with read (length (map spelled tokens) - i) here) ≡ total
      → Fails e total
  item_fails Memory after lt g h so_far = tt
  item_fails Unformed after lt g h so_far =
      let k = some_left tokens i lt in
      let one : items_end front (items_with read (length (map spelled tokens) - i) here) ≡ None =
      rw (k, one_item (length (map spelled tokens) - (i + 1)), g, h) refl in
      sym so_far ∙ one

  pub items_stop : i < length tokens → item_behind here ≡ None
      → items_end front (items_with read (length (map spelled tokens) - i) here) ≡ total
      → total ≡ items_end front (items_close here)
  items_stop lt g so_far =
      let k = some_left tokens i lt in
      let one : items_end front (items_with read (length (map spelled tokens) - i) here) ≡ items_end front
      (items_close here) = rw (k, one_item (length (map spelled tokens) - (i + 1)), g) refl in
      sym so_far ∙ one

  pub items_run_out : length tokens ≤ i → items_end front (items_with read (length (map spelled tokens) - i) here)
      ≡ total → total ≡ None
  unfolding items_with
  items_run_out le so_far =
      let k = none_left tokens i le in
      let one : items_end front (items_with read (length (map spelled tokens) - i) here) ≡ None = rw k refl in
      sym so_far ∙ one

-- ---- turns

pub climbs_on : (read : ℕ → Reading Expr) (n l i : ℕ) (a t : Expr) (ts r : List Spelled) (total : Option (Expr
    × List Spelled)) → i < n + 1 → turn_with read n l a (lead ts) ≡ Some (Next t r)
    → climb_with read n l (suc n - i) a ts ≡ total → climb_with read n l (suc n - (i + 1)) t r ≡ total
unfolding climb_with
climbs_on read n l i a t ts r total lt e so_far =
    let k : suc n - i ≡ suc (suc n - (i + 1)) = omega arith in
    let one : climb_with read n l (suc n - i) a ts ≡ climb_with read n l (suc n - (i + 1)) t r = rw (k, e) refl in
    sym one ∙ so_far

pub climb_stops : (read : ℕ → Reading Expr) (n l i : ℕ) (a t : Expr) (ts : List Spelled) (total : Option (Expr
    × List Spelled)) → i < n + 1 → turn_with read n l a (lead ts) ≡ Some (Stop t)
    → climb_with read n l (suc n - i) a ts ≡ total → total ≡ Some (t, ts)
unfolding climb_with
climb_stops read n l i a t ts total lt e so_far =
    let k : suc n - i ≡ suc (suc n - (i + 1)) = omega arith in
    let one : climb_with read n l (suc n - i) a ts ≡ Some (t, ts) = rw (k, e) refl in
    sym so_far ∙ one

pub climb_runs_out : (read : ℕ → Reading Expr) (n l i : ℕ) (a : Expr) (ts : List Spelled) (total : Option (Expr
    × List Spelled)) → n + 1 ≤ i → climb_with read n l (suc n - i) a ts ≡ total → total ≡ None
unfolding climb_with
climb_runs_out read n l i a ts total le so_far =
    let k : suc n - i ≡ 0 = omega arith in
    let one : climb_with read n l (suc n - i) a ts ≡ None = rw k refl in
    sym so_far ∙ one
