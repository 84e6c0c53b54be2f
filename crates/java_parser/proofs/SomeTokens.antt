-- Each type of a file and each member of a class has a token.
use Rattle.std.proofs.Common.{◌≡◌, ℕ, zero, suc, ◌<◌, Bool, true, false, not, cond, List, [], ◌∷◌, ◌++◌}
use Rattle.std.proofs.Common.{map, filter, length}
use Rattle.std.proofs.Common.{refl, sym, subst, get_or, arith, IsTrue}
use Rattle.std.specs.Prelude.{◌==◌}
use Rattle.java_lexer.specs.declared.token.Token.{Token}
use Rattle.java_tree.specs.FormedModifiers.{Each, has_some}
use Rattle.java_parser_grammar.specs.Cuts.{with_cut, joined}
use Rattle.java_parser_grammar.specs.Brackets.{depth_behind}
use Rattle.java_parser_grammar.specs.Pieces.{Item, items_from, items_of}
use Rattle.java_parser_grammar.specs.Declarations.{is_type}
use Rattle.java_parser_grammar.specs.Members.{ends_member, cut_members, is_lone, members_of}
use Rattle.java_parser_grammar.proofs.OneCut.{joined_cut}
use Rattle.java_parser.specs.DeclaredTypes.{AreTypes}
use Rattle.java_parser.specs.ReadTypes.{HaveTokens}

-- ---- cuts

abbrev Have : {A : Type 0} → List (List A) → Type 0
Have = Each (λ p. IsTrue (has_some p))

with_cut_have : {A : Type 0} (cut : Bool) (x : A) (ps : List (List A)) → Have ps → Have (with_cut cut x ps)
with_cut_have true x ps h = (refl, h)
with_cut_have false x [] h = (refl, tt)
with_cut_have false x (p ∷ ps) h = (refl, h.1)

items_have : (n : ℕ) (ts : List Token) → Have (items_from n ts)
items_have n [] = tt
items_have n (t ∷ ts) =
    with_cut_have (depth_behind n t == 0) t (items_from (depth_behind n t) ts) (items_have (depth_behind n t) ts)

members_have : (is : List Item) (equals : Bool) → Have (cut_members equals is)
members_have [] equals = tt
members_have (i ∷ is) equals = with_cut_have (ends_member equals i) i _ (members_have is _)

-- ---- parts of parts

front_have : (d is : List Item) → Have (d ++ is) → Have d
front_have [] is h = tt
front_have (i ∷ d) is h = (h.0, front_have d is h.1)

behind_have : (d is : List Item) → Have (d ++ is) → Have is
behind_have [] is h = h
behind_have (i ∷ d) is h = behind_have d is h.1

parts_have : (ds : List (List Item)) → Have (joined ds) → Each Have ds
parts_have [] h = tt
parts_have (d ∷ ds) h = (front_have d (joined ds) h, parts_have ds (behind_have d (joined ds) h))

joined_has : (d : List Item) → IsTrue (has_some d) → Have d → IsTrue (has_some (joined d))
joined_has [] some h = absurd cc
joined_has ([] ∷ d) some h = absurd cc
joined_has ((t ∷ ts) ∷ d) some h = refl

all_joined : (ds : List (List Item)) → Have ds → Each Have ds → HaveTokens (map joined ds)
all_joined [] h k = tt
all_joined (d ∷ ds) h k = (joined_has d h.0 k.0, all_joined ds h.1 k.1)

kept_have : (test : List Token → Bool) (ps : List (List Token)) → HaveTokens ps → HaveTokens (filter test ps)
kept_have test [] h = tt
kept_have test (p ∷ ps) h =
    elim (test p) as (λ b. HaveTokens (cond b (p ∷ filter test ps) (filter test ps))) [
      | true ↦ (h.0, kept_have test ps h.1)
      | false ↦ kept_have test ps h.1
    ]

-- ---- members

pub members_have_tokens : (body : List Token) → HaveTokens (members_of body)
members_have_tokens body =
    let ds = cut_members false (items_of body) in
    kept_have (λ m. not (is_lone m)) (map joined ds)
    (all_joined ds (members_have (items_of body) false)
    (parts_have ds (subst Have (sym (joined_cut false (items_of body))) (items_have 0 body))))

-- ---- types

type_has : (d : List Item) → is_type d ≡ true → IsTrue (has_some d)
type_has [] e = absurd cc
type_has (i ∷ d) e = refl

types_have : (ds : List (List Item)) → Each Have ds → HaveTokens (map joined (filter is_type ds))
types_have [] h = tt
types_have (d ∷ ds) h = by_type (is_type d) refl (types_have ds h.1) where
  by_type : (b : Bool) → is_type d ≡ b → HaveTokens (map joined (filter is_type ds))
      → HaveTokens (map joined (cond b (d ∷ filter is_type ds) (filter is_type ds)))
  by_type true e others = (joined_has d (type_has d e) h.0, others)
  by_type false e others = others

pub types_have_tokens : (ts : List Token) (types : List (List Token)) → AreTypes (items_of ts) types → HaveTokens types
types_have_tokens ts types found =
    subst HaveTokens found.among
    (types_have found.all (parts_have found.all (subst Have (sym found.fit.together) (items_have 0 ts))))

-- ---- one of them

-- the one at an index, seen as tokens
pub one_has_tokens : {X : Type 0} (view : X → List Token) (xs : List X) (i : ℕ) (d x : X) → i < length xs
    → x ≡ get_or xs i d → HaveTokens (map view xs) → IsTrue (has_some (view x))
one_has_tokens {X} view xs i d x within is h =
    subst (λ (y : X). IsTrue (has_some (view y))) (sym is) (at_index xs i within h) where
      at_index : (xs : List X) (i : ℕ) → i < length xs → HaveTokens (map view xs)
          → IsTrue (has_some (view (get_or xs i d)))
      at_index [] i within h = absurd (omega arith)
      at_index (y ∷ ys) zero within h = h.0
      at_index (y ∷ ys) (suc i) within h = at_index ys i (omega arith) h.1
