-- Where another `(` is the first parenthesis behind a `(`, parentheses are read, and no operand behind them.
use Rattle.std.proofs.Common.{◌≡◌, ◌∙◌, ℕ, zero, suc, Bool, true, false, not, ◌&&◌, ◌||◌, cond, List, [], ◌∷◌, Option}
use Rattle.std.proofs.Common.{Some, None, refl, ap, codes}
use Rattle.std.specs.Prelude.{bytes_eq, if◌then◌else◌}
use Rattle.java_lexer.specs.declared.token.TokenKind.{TokenKind}
use Rattle.java_lexer.specs.declared.token.TokenKind.TheVariants as kind
use Rattle.java_tree.specs.declared.words.Spelled.{Spelled}
use Rattle.java_tree.specs.Words.{sign_glued}
use Rattle.java_tree.specs.Brackets.{is_keyword_kind, is_some_and}
use Rattle.java_tree.specs.Formed.{FormedTy, are_plain, is_plain_word}
use Rattle.java_tree.specs.Nesting.{most_over, ty_nesting}
use Rattle.java_tree.specs.Operators.{unary_level, is_prefix}
use Rattle.java_tree.specs.Trees.{Ty, Typed, Base, Plain, Named, Parts, no_part, part_then, Part, Bare, Generic}
use Rattle.java_tree.specs.Trees.{Arguments, Angled, ArgumentList, no_argument, argument_then, Argument, Exact, Any}
use Rattle.java_tree.specs.Trees.{Extends, Super, Expr, Cast, Paren}
use Rattle.java_tree.specs.Spelling.{brackets_onto, ty_onto, base_onto, parts_onto, more_parts_onto, part_onto}
use Rattle.java_tree.specs.Spelling.{angled_onto, arguments_onto, more_arguments_onto, argument_onto}
use Rattle.java_tree.specs.Spelling.{behind_sign, between_sign}
use Rattle.java_parser_grammar.specs.Taking.{◌>>=◌, after_sign}
use Rattle.java_parser_grammar.specs.TypeReading.{between_each, ty_at, made_base_at}
use Rattle.java_parser_grammar.specs.Leads.{behind, is_plain_cast, opens_operand, opens_signed, casts}
use Rattle.java_parser_grammar.specs.BalancedReading.{Reading}
use Rattle.java_parser_grammar.specs.ExpressionReading.{cast_with, lambda_level, parens_with, operand_of, read_at}
use Rattle.java_parser_grammar.specs.ExpressionReading.{array_at}
use Rattle.java_parser_grammar.proofs.Behind.{balanced}
use Rattle.java_parser_grammar.proofs.Ensuring.{Ensures, of_equation, weaker}
use Rattle.java_parser_grammar.proofs.SoundExpressions.{read_sound}
use Rattle.java_parser_grammar.proofs.SoundLists.{Got}
use Rattle.java_parser_grammar.proofs.SoundSteps.{GotOne, SomeOf, between_sound}
use Rattle.java_parser_grammar.proofs.SoundTypes.{GotTy, ty_sound}
use Rattle.java_parser_grammar.proofs.Taken.{after_sign_is}
use Rattle.java_parser_lookahead.specs.FirstParenthesis.{behind_first}
use Rattle.java_parser_expressions.specs.Closings.{lone_parens_with}

-- ---- types have no parentheses

brackets_passed : (m : ℕ) (rest : List Spelled) → behind_first (brackets_onto m rest) ≡ behind_first rest
unfolding behind_first
brackets_passed zero rest = refl
brackets_passed (suc m) rest = brackets_passed m rest

angle_passed : (glued : Bool) (rest : List Spelled) → behind_first (sign_glued glued (codes ">") ∷ rest) ≡ behind_first
    rest
unfolding behind_first
angle_passed true rest = refl
angle_passed false rest = refl

mutual
  unfolding behind_first

  ty_passed : (t : Ty) (rest : List Spelled) → behind_first (ty_onto t rest) ≡ behind_first rest
  ty_passed (Typed b m) rest = base_passed b _ ∙ brackets_passed m rest

  base_passed : (b : Base) (rest : List Spelled) → behind_first (base_onto b rest) ≡ behind_first rest
  base_passed (Plain text) rest = refl
  base_passed (Named ps) rest = parts_passed ps rest

  parts_passed : (ps : Parts) (rest : List Spelled) → behind_first (parts_onto ps rest) ≡ behind_first rest
  parts_passed no_part rest = refl
  parts_passed (part_then p ps) rest = part_passed p _ ∙ more_parts_passed ps rest

  more_parts_passed : (ps : Parts) (rest : List Spelled) → behind_first (more_parts_onto ps rest) ≡ behind_first rest
  more_parts_passed no_part rest = refl
  more_parts_passed (part_then p ps) rest = part_passed p _ ∙ more_parts_passed ps rest

  part_passed : (p : Part) (rest : List Spelled) → behind_first (part_onto p rest) ≡ behind_first rest
  part_passed (Bare x) rest = refl
  part_passed (Generic x a) rest = angled_passed a rest

  angled_passed : (a : Arguments) (rest : List Spelled) → behind_first (angled_onto a rest) ≡ behind_first rest
  angled_passed (Angled list g) rest = arguments_passed list _ ∙ angle_passed g rest

  arguments_passed : (list : ArgumentList) (rest : List Spelled) → behind_first (arguments_onto list rest)
      ≡ behind_first rest
  arguments_passed no_argument rest = refl
  arguments_passed (argument_then a others) rest = argument_passed a _ ∙ more_arguments_passed others rest

  more_arguments_passed : (list : ArgumentList) (rest : List Spelled) → behind_first (more_arguments_onto list rest)
      ≡ behind_first rest
  more_arguments_passed no_argument rest = refl
  more_arguments_passed (argument_then a others) rest = argument_passed a _ ∙ more_arguments_passed others rest

  argument_passed : (a : Argument) (rest : List Spelled) → behind_first (argument_onto a rest) ≡ behind_first rest
  argument_passed (Exact t) rest = ty_passed t rest
  argument_passed Any rest = refl
  argument_passed (Extends t) rest = ty_passed t rest
  argument_passed (Super t) rest = ty_passed t rest

signs_passed : (ts : List Ty) (rest : List Spelled) → behind_first (behind_sign (codes "&") ts rest) ≡ behind_first rest
unfolding behind_first
signs_passed [] rest = refl
signs_passed (t ∷ ts) rest = ty_passed t _ ∙ signs_passed ts rest

types_passed : (ts : List Ty) (rest : List Spelled) → behind_first (between_sign (codes "&") ts rest) ≡ behind_first
    rest
types_passed [] rest = refl
types_passed (t ∷ ts) rest = ty_passed t _ ∙ signs_passed ts rest

-- ---- where another one opens before

types_sound : (n : ℕ) (ts : List Spelled) → Ensures (GotOne (SomeOf FormedTy) (most_over ty_nesting) (between_sign
    (codes "&")) n ts) (between_each (codes "&") (ty_at n) ts)
types_sound n ts =
    between_sound FormedTy n (ty_at n) (λ r. weaker (GotTy n r) (GotOne FormedTy ty_nesting ty_onto n r) (ty_at n r)
    (λ t g. record { formed = g.formed; small = g.small; spelled = g.spelled }) (ty_sound n r)) (codes "&") ts

-- types and `)` are not in front
types_close : (n : ℕ) (ts r : List Spelled) (x : List Ty × List Spelled) → between_each (codes "&") (ty_at n) ts
    ≡ Some x → after_sign (codes ")") x.1 ≡ Some r → behind_first ts ≡ Some r
unfolding behind_first
types_close n ts r x e d =
    let got = of_equation (GotOne (SomeOf FormedTy) (most_over ty_nesting) (between_sign (codes "&")) n ts)
    (between_each (codes "&") (ty_at n) ts) x (types_sound n ts) e in
    ap behind_first got.spelled ∙ types_passed x.0 x.1 ∙ ap behind_first (after_sign_is (codes ")") x.1 r d)

abbrev cast_of : (ℕ → Reading Expr) → List Ty → List Spelled → Option (Expr × List Spelled)
cast_of read types r =
    read (if are_plain types then unary_level else lambda_level unary_level r) r >>= λ a. Some (Cast types a.0, a.1)

no_cast : (read : ℕ → Reading Expr) (n : ℕ) (ts : List Spelled) → behind_first ts ≡ None
    → cast_with read (ty_at n) ts ≡ None
no_cast read n ts none = by_types (between_each (codes "&") (ty_at n) ts) refl where
  by_close : (x : List Ty × List Spelled) (o : Option (List Spelled)) → between_each (codes "&") (ty_at n) ts ≡ Some x
      → after_sign (codes ")") x.1 ≡ o → (o >>= cast_of read x.0) ≡ None
  by_close x None e d = refl
  by_close x (Some r) e d = let closed = types_close n ts r x e d in absurd cc

  by_types : (o : Option (List Ty × List Spelled)) → between_each (codes "&") (ty_at n) ts ≡ o
      → (o >>= λ x. after_sign (codes ")") x.1 >>= cast_of read x.0) ≡ None
  by_types None e = refl
  by_types (Some x) e = by_close x (after_sign (codes ")") x.1) e refl

word_passed : (k : TokenKind) (text : List ℕ) (glued : Bool) (ts : List Spelled) → is_keyword_kind k ≡ true
    → behind_first (record { kind = k; text = text; glued = glued } ∷ ts) ≡ behind_first ts
unfolding behind_first
word_passed kind.Keyword text glued ts e = refl
word_passed _ text glued ts e = absurd cc

abbrev closes_word : Option (List ℕ × List Spelled) → Bool
closes_word o = is_some_and o (λ p. is_some_and (after_sign (codes ")") p.1) (λ r. true))

no_plain : (ts : List Spelled) → behind_first ts ≡ None → is_plain_cast ts ≡ false
unfolding behind_first
no_plain [] none = refl
no_plain (t ∷ us) none = by_word (is_keyword_kind t.kind) (not t.glued && is_plain_word t.text) refl where
  closed : (r : List Spelled) → is_keyword_kind t.kind ≡ true → after_sign (codes ")") us ≡ Some r → ⊥
  closed r k e =
      let passed = word_passed t.kind t.text t.glued us k in
      let at_end : behind_first us ≡ Some r = ap behind_first (after_sign_is (codes ")") us r e) in
      cc

  by_close : (o : Option (List Spelled)) → is_keyword_kind t.kind ≡ true → after_sign (codes ")") us ≡ o
      → is_some_and o (λ r. true) ≡ false
  by_close None k e = refl
  by_close (Some r) k e = absurd (closed r k e)

  by_word : (k w : Bool) → is_keyword_kind t.kind ≡ k
      → closes_word (cond (k && w) (Some (t.text, us)) None) ≡ false
  by_word false w e = refl
  by_word true false e = refl
  by_word true true e = by_close (after_sign (codes ")") us) e refl

pub parens_close : (n : ℕ) (ts : List Spelled) (x : Expr × List Spelled) → parens_with (read_at n) ts ≡ Some x
    → behind 0 ts ≡ x.1
unfolding behind
parens_close n ts x e = by_part (read_at n 0 ts) refl e where
  by_close : (a : Expr × List Spelled) (o : Option (List Spelled)) → read_at n 0 ts ≡ Some a
      → after_sign (codes ")") a.1 ≡ o → (o >>= λ r. Some (Paren a.0, r)) ≡ Some x → behind 0 ts ≡ x.1
  by_close a None d c h = absurd cc
  by_close a (Some r) d c h =
      let got = of_equation (Got n 0 ts) (read_at n 0 ts) a (read_sound n 0 ts) d in
      let same : r ≡ x.1 = cc in
      ap (behind 0) got.spelled ∙ balanced a.0 got.formed 0 a.1
      ∙ ap (behind 0) (after_sign_is (codes ")") a.1 r c) ∙ same

  by_part : (o : Option (Expr × List Spelled)) → read_at n 0 ts ≡ o
      → (o >>= λ a. after_sign (codes ")") a.1 >>= λ r. Some (Paren a.0, r)) ≡ Some x → behind 0 ts ≡ x.1
  by_part None d h = absurd cc
  by_part (Some a) d h = by_close a (after_sign (codes ")") a.1) d refl h

no_choice : {A : Type 0} (b c : Bool) (x : A) → cond (b || (false && c)) x x ≡ x
no_choice true c x = refl
no_choice false c x = refl

or_none : {A : Type 0} (b c : Bool) (x : A) → cond (b || (false && c)) None (Some x) ≡ cond b None (Some x)
or_none true c x = refl
or_none false c x = refl

-- then an operand behind the parentheses makes a cast of no type
no_operand_behind : (n : ℕ) (ts : List Spelled) → behind_first ts ≡ None
    → cond (casts ts) (cast_with (read_at n) (ty_at n) ts) (parens_with (read_at n) ts)
    ≡ lone_parens_with (read_at n) ts
unfolding casts
no_operand_behind n ts none =
    rw (no_plain ts none, no_cast (read_at n) n ts none) (by_parens (parens_with (read_at n) ts) refl) where
      by_parens : (o : Option (Expr × List Spelled)) → parens_with (read_at n) ts ≡ o
          → cond (opens_operand (behind 0 ts) || (false && opens_signed (behind 0 ts))) None o
          ≡ (o >>= λ x. cond (opens_operand x.1) None (Some x))
      by_parens None e = no_choice (opens_operand (behind 0 ts)) (opens_signed (behind 0 ts)) None
      by_parens (Some x) e = rw (parens_close n ts x e) (or_none (opens_operand x.1) (opens_signed x.1) x)

-- what is read behind the `(`
pub parens_alone : (n : ℕ) (text : List ℕ) (ts : List Spelled) → is_prefix text ≡ false
    → bytes_eq text (codes "(") ≡ true → behind_first ts ≡ None
    → operand_of (read_at n) n (made_base_at n) (array_at n) kind.Sign text ts ≡ lone_parens_with (read_at n) ts
parens_alone n text ts prefix round none = rw (prefix, round) (no_operand_behind n ts none)
