-- No part of a cut is empty, and none is longer than what is cut.
use Rattle.std.proofs.Common.{◌≡◌, ℕ, zero, suc, ◌-◌, ◌<◌, ◌≤◌, Bool, true, false, ◌&&◌, ◌||◌, not, cond, List, []}
use Rattle.std.proofs.Common.{◌∷◌, ◌++◌, map}
use Rattle.std.proofs.Common.{filter, length, take, length-append, refl, sym, ap, ◌∙◌, subst, arith, codes}
use Rattle.std.specs.Prelude.{◌==◌}
use Rattle.std.proofs.lemmas.Bool.{and_parts}
use Rattle.java_lexer.specs.declared.token.Token.{Token}
use Rattle.java_parser_grammar.specs.Tokens.{begins_sign}
use Rattle.java_parser_grammar.specs.Cuts.{with_cut, joined}
use Rattle.java_parser_grammar.specs.Brackets.{depth_behind}
use Rattle.java_parser_grammar.specs.Pieces.{Item, items_from, items_of, inside}
use Rattle.java_parser_grammar.specs.Declarations.{ends_first, is_type, types_among}
use Rattle.java_parser_grammar.specs.Members.{ends_member, cut_members, members_of, is_lone}
use Rattle.java_parser_grammar.specs.Units.{body_among}
use Rattle.java_parser_grammar.proofs.Joined.{joined_append, joined_items}
use Rattle.java_parser_grammar.proofs.OneCut.{joined_cut}

abbrev pub Filled : {A : Type 0} → List A → Type 0
Filled [] = ⊥
Filled (x ∷ xs) = Unit {0}

abbrev pub EachFilled : {A : Type 0} → List (List A) → Type 0
EachFilled [] = Unit {0}
EachFilled (p ∷ ps) = Filled p × EachFilled ps

cut-filled : {A : Type 0} (cut : Bool) (x : A) (ps : List (List A)) → EachFilled ps → EachFilled (with_cut cut x ps)
cut-filled true x ps h = (tt, h)
cut-filled false x [] h = (tt, tt)
cut-filled false x (p ∷ ps) h = (tt, h.1)

pub items-filled : (n : ℕ) (ts : List Token) → EachFilled (items_from n ts)
items-filled n [] = tt
items-filled n (t ∷ ts) =
    cut-filled (depth_behind n t == 0) t (items_from (depth_behind n t) ts) (items-filled (depth_behind n t) ts)

members-filled : (equals : Bool) (is : List Item) → EachFilled (cut_members equals is)
members-filled equals [] = tt
members-filled equals (i ∷ is) =
    let behind = not (ends_member equals i) && (equals || begins_sign (codes "=") i) in
    cut-filled (ends_member equals i) i (cut_members behind is)
    (members-filled (not (ends_member equals i) && (equals || begins_sign (codes "=") i)) is)

-- filled, and short
abbrev pub Good : ℕ → List Token → Type 0
Good n ts = Filled ts × (length ts < n)

abbrev pub EachGood : ℕ → List (List Token) → Type 0
EachGood n [] = Unit {0}
EachGood n (p ∷ ps) = Good n p × EachGood n ps

append-filled : {A : Type 0} (a b : List A) → Filled a → Filled (a ++ b)
append-filled [] b h = absurd h
append-filled (x ∷ a) b h = tt

append-filled-last : {A : Type 0} (a b : List A) → Filled b → Filled (a ++ b)
append-filled-last [] b h = h
append-filled-last (x ∷ a) b h = tt

each-behind : {A : Type 0} (ps qs : List (List A)) → EachFilled (ps ++ qs) → EachFilled qs
each-behind [] qs h = h
each-behind (p ∷ ps) qs h = each-behind ps qs h.1

first-filled : (p : List Item) (qs : List Item) → Filled p → EachFilled (p ++ qs) → Filled (joined p)
first-filled [] qs some h = absurd some
first-filled (i ∷ p) qs some h = append-filled i (joined p) h.0

first-short : (n : ℕ) (p : List Item) (ps : List (List Item)) → length (joined (joined (p ∷ ps))) < n
    → (length (joined p) < n) × (length (joined (joined ps)) < n)
first-short n p ps few =
    let whole : length (joined (p ++ joined ps)) ≡ length (joined p ++ joined (joined ps)) =
    ap (λ (l : List Token). length l) (joined_append p (joined ps)) in
    let both = length-append (joined p) (joined (joined ps)) in
    (omega (arith, few, whole, both), omega (arith, few, whole, both))

parts-good : (n : ℕ) (ps : List (List Item)) → EachFilled ps → EachFilled (joined ps) → length (joined (joined ps)) < n
    → EachGood n (map joined ps)
parts-good n [] h k few = tt
parts-good n (p ∷ ps) h k few =
    let short = first-short n p ps few in (
      (first-filled p (joined ps) h.0 k, short.0),
      parts-good n ps h.1 (each-behind p (joined ps) k) short.1,
    )

pub filter-good : (n : ℕ) (test : List Token → Bool) (ps : List (List Token)) → EachGood n ps
    → EachGood n (filter test ps)
filter-good n test [] h = tt
filter-good n test (p ∷ ps) h = by (test p) (filter-good n test ps h.1) where
  by : (b : Bool) → EachGood n (filter test ps) → EachGood n (cond b (p ∷ filter test ps) (filter test ps))
  by true k = (h.0, k)
  by false k = k

-- the members of a class
pub members-good : (n : ℕ) (body : List Token) → length body < n → EachGood n (members_of body)
members-good n body few =
    let all : joined (cut_members false (items_of body)) ≡ items_of body = joined_cut false (items_of body) in
    let whole : joined (joined (cut_members false (items_of body))) ≡ body = ap joined all ∙ joined_items 0 body in
    filter-good n (λ m. not (is_lone m)) (map joined (cut_members false (items_of body)))
    (parts-good n (cut_members false (items_of body)) (members-filled false (items_of body))
    (subst EachFilled (sym all) (items-filled 0 body))
    (subst (λ (l : List Token). length l < n) (sym whole) few))

-- ---- types

ends-filled : (d : List Item) → ends_first (begins_sign (codes "{")) d ≡ true → Filled (joined d)
ends-filled [] e = absurd cc
ends-filled ([] ∷ []) e = absurd cc
ends-filled ((t ∷ i) ∷ []) e = tt
ends-filled (i ∷ j ∷ is) e =
    append-filled-last i (joined (j ∷ is)) (ends-filled (j ∷ is) (and_parts (not (begins_sign (codes "{") i)) _ e).1)

pub types-good : (n : ℕ) (ds : List (List Item)) → length (joined (joined ds)) < n → EachGood n (types_among ds)
types-good n [] few = tt
types-good n (d ∷ ds) few =
    let short = first-short n d ds few in
    by (is_type d) refl short.0 (types-good n ds short.1) where
      by : (b : Bool) → is_type d ≡ b → length (joined d) < n → EachGood n (types_among ds)
          → EachGood n (map joined (cond b (d ∷ filter is_type ds) (filter is_type ds)))
      by true e short k = ((ends-filled d (and_parts _ _ e).1, short), k)
      by false e short k = k

-- ---- the body of a class

take-short : (n : ℕ) (ts : List Token) → length (take n ts) ≤ length ts
take-short zero ts = omega arith
take-short (suc n) [] = omega arith
take-short (suc n) (t ∷ ts) = omega (arith, take-short n ts)

inside-short : (ts : List Token) → length (inside ts) ≤ length ts
inside-short [] = omega arith
inside-short (t ∷ ts) = omega (arith, take-short (length ts - 1) ts)

pub body-short : (is : List Item) → length (body_among is) ≤ length (joined is)
body-short [] = omega arith
body-short (i ∷ []) = omega (arith, inside-short i, length-append i [])
body-short (i ∷ j ∷ is) = omega (arith, body-short (j ∷ is), length-append i (joined (j ∷ is)))
