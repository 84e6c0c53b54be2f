-- Members and declarations: nothing is lost in a cut, and there is one cut alone.
use Rattle.std.proofs.Common.{◌≡◌, Bool, true, false, not, ◌&&◌, ◌||◌, ◌⊎◌, inl, inr, List, [], ◌∷◌, ◌++◌, Option}
use Rattle.std.proofs.Common.{None}
use Rattle.std.proofs.Common.{Some, Result, Ok, Err, refl, ap, sym, ◌∙◌, codes}
use Rattle.std.specs.Prelude.{IsTrue, if◌then◌else◌}
use Rattle.std.proofs.lemmas.Bool.{and_parts, not-true}
use Rattle.java_tree.specs.FormedModifiers.{has_some}
use Rattle.java_parser_grammar.specs.Pieces.{Item}
use Rattle.java_parser_grammar.specs.Tokens.{begins_sign}
use Rattle.java_parser_grammar.specs.Cuts.{onto_first, with_cut, joined}
use Rattle.java_parser_grammar.specs.DeclarationWalk.{Seen, seen_with, is_whole, and_before, declarations}
use Rattle.java_parser_grammar.specs.Members.{ends_member, cut_members, is_endless}
use Rattle.java_parser_grammar.specs.MemberCuts.{is_ended, IsCut}
use Rattle.java_parser_grammar.proofs.Joined.{joined_one}

-- ---- nothing is lost

pub joined_cut : (equals : Bool) (is : List Item) → joined (cut_members equals is) ≡ is
joined_cut equals [] = refl
joined_cut equals (i ∷ is) =
    let behind = not (ends_member equals i) && (equals || begins_sign (codes "=") i) in
    joined_one (ends_member equals i) i (cut_members behind is) ∙ ap (λ js. i ∷ js) (joined_cut behind is)

-- ---- one cut

ending : (equals : Bool) (i : Item) (is : List Item) → ends_member equals i ≡ true
    → cut_members equals (i ∷ is) ≡ (i ∷ []) ∷ cut_members false is
ending equals i is e = ap (λ b. with_cut b i (cut_members (not b && (equals || begins_sign (codes "=") i)) is)) e

going_on : (equals : Bool) (i : Item) (is : List Item) → ends_member equals i ≡ false
    → cut_members equals (i ∷ is) ≡ onto_first i (cut_members (equals || begins_sign (codes "=") i) is)
going_on equals i is e = ap (λ b. with_cut b i (cut_members (not b && (equals || begins_sign (codes "=") i)) is)) e

append_nothing : (is : List Item) → is ++ [] ≡ is
append_nothing [] = refl
append_nothing (i ∷ is) = ap (λ js. i ∷ js) (append_nothing is)

first_piece : (equals : Bool) (p rest : List Item) → is_ended equals p ≡ true → cut_members equals (p ++ rest)
    ≡ p ∷ cut_members false rest
first_piece equals [] rest h = absurd cc
first_piece equals (i ∷ []) rest h = ending equals i rest h
first_piece equals (i ∷ j ∷ is) rest h =
    let behind = equals || begins_sign (codes "=") i in
    let parts = and_parts (not (ends_member equals i)) (is_ended behind (j ∷ is)) h in
    going_on equals i (j ∷ is ++ rest) (not-true (ends_member equals i) parts.0) ∙ ap (onto_first i) (first_piece behind
    (j ∷ is) rest parts.1)

last_piece : (equals : Bool) (i : Item) (is : List Item) → is_endless equals (i ∷ is) ≡ true
    → cut_members equals (i ∷ is) ≡ (i ∷ is) ∷ []
last_piece equals i [] h = going_on equals i [] (not-true (ends_member equals i) (and_parts (not
    (ends_member equals i)) true
    h).0)
last_piece equals i (j ∷ is) h =
    let behind = equals || begins_sign (codes "=") i in
    let parts = and_parts (not (ends_member equals i)) (is_endless behind (j ∷ is)) h in
    going_on equals i (j ∷ is) (not-true (ends_member equals i) parts.0) ∙ ap (onto_first i) (last_piece behind j is
    parts.1)

one_piece : (p : List Item) → (IsTrue (is_ended false p)) ⊎ (IsTrue (has_some p) × IsTrue (is_endless false p))
    → cut_members false (p ++ []) ≡ p ∷ []
one_piece p (inl h) = first_piece false p [] h
one_piece [] (inr h) = let none = h.0 in absurd cc
one_piece (i ∷ is) (inr h) = ap (cut_members false) (append_nothing (i ∷ is)) ∙ last_piece false i is h.1

pub cut_joined : (ps : List (List Item)) → IsCut ps → cut_members false (joined ps) ≡ ps
cut_joined [] h = refl
cut_joined (p ∷ []) h = one_piece p h
cut_joined (p ∷ q ∷ ps) h = first_piece false p (joined (q ∷ ps)) h.0 ∙ ap (λ rs. p ∷ rs) (cut_joined (q ∷ ps) h.1)

-- ---- each piece ends where a member first does

-- the same, where an `=` stood before the first piece or none
abbrev pub IsCutFrom : (equals : Bool) → List (List Item) → Type 0
IsCutFrom equals [] = Unit {0}
IsCutFrom equals (p ∷ []) = IsTrue (is_ended equals p) ⊎ (IsTrue (has_some p) × IsTrue (is_endless equals p))
IsCutFrom equals (p ∷ q ∷ ps) = IsTrue (is_ended equals p) × IsCut (q ∷ ps)

from_nothing : (ps : List (List Item)) → IsCutFrom false ps → IsCut ps
from_nothing [] h = tt
from_nothing (p ∷ []) h = h
from_nothing (p ∷ q ∷ ps) h = h

and_ended : (equals : Bool) (i : Item) (ps : List (List Item)) → ends_member equals i ≡ true → IsCut ps
    → IsCutFrom equals ((i ∷ []) ∷ ps)
and_ended equals i [] e h = inl e
and_ended equals i (q ∷ ps) e h = (e, h)

longer_ended : (equals : Bool) (i : Item) (p : List Item) → ends_member equals i ≡ false
    → is_ended (equals || begins_sign (codes "=") i) p ≡ true → is_ended equals (i ∷ p) ≡ true
longer_ended equals i [] e h = absurd cc
longer_ended equals i (j ∷ p) e h = rw e h

longer_endless : (equals : Bool) (i : Item) (p : List Item) → ends_member equals i ≡ false
    → is_endless (equals || begins_sign (codes "=") i) p ≡ true → is_endless equals (i ∷ p) ≡ true
longer_endless equals i p e h = rw e h

longer_one : (equals : Bool) (i : Item) (p : List Item) → ends_member equals i ≡ false
    → (IsTrue (is_ended (equals || begins_sign (codes "=") i) p)) ⊎ (IsTrue (has_some p)
    × IsTrue (is_endless (equals || begins_sign (codes "=") i) p))
    → (IsTrue (is_ended equals (i ∷ p))) ⊎ (IsTrue (has_some (i ∷ p)) × IsTrue (is_endless equals (i ∷ p)))
longer_one equals i p e (inl h) = inl (longer_ended equals i p e h)
longer_one equals i p e (inr h) = inr (refl, longer_endless equals i p e h.1)

longer : (equals : Bool) (i : Item) (ps : List (List Item)) → ends_member equals i ≡ false
    → IsCutFrom (equals || begins_sign (codes "=") i) ps → IsCutFrom equals (onto_first i ps)
longer equals i [] e h = inr (refl, longer_endless equals i [] e refl)
longer equals i (p ∷ []) e h = longer_one equals i p e h
longer equals i (p ∷ q ∷ ps) e h = (longer_ended equals i p e h.0, h.1)

by_end : (equals : Bool) (i : Item) (is : List Item) (b : Bool) → ends_member equals i ≡ b
    → ((q : Bool) → IsCutFrom q (cut_members q is))
    → IsCutFrom equals (with_cut b i (cut_members (not b && (equals || begins_sign (codes "=") i)) is))
by_end equals i is true e all = and_ended equals i (cut_members false is) e
    (from_nothing (cut_members false is) (all false))
by_end equals i is false e all =
    longer equals i (cut_members (equals || begins_sign (codes "=") i) is) e (all (equals || begins_sign (codes "=") i))

pub is_cut_from : (equals : Bool) (is : List Item) → IsCutFrom equals (cut_members equals is)
is_cut_from equals [] = tt
is_cut_from equals (i ∷ is) = by_end equals i is (ends_member equals i) refl (λ q. is_cut_from q is)

pub is_cut : (is : List Item) → IsCut (cut_members false is)
is_cut is = from_nothing (cut_members false is) (is_cut_from false is)

-- ---- declarations

joined_front : (whole : Bool) (i : Item) (is : List Item) (r : Result (List (List Item)) (List Item)) (ds : List
    (List Item))
    → ((es : List (List Item)) → r ≡ Ok es → joined es ≡ is) → and_before whole i r ≡ Ok ds → joined ds ≡ i ∷ is
joined_front whole i is (Ok es) ds all e =
    let same : with_cut whole i es ≡ ds = cc in
    ap joined (sym same) ∙ joined_one whole i es ∙ ap (λ js. i ∷ js) (all es refl)
joined_front whole i is (Err rest) ds all e = absurd cc

abbrev whole_so_far : Result (List (List Item)) (List Item)
whole_so_far = Ok []

abbrev not_whole : Result (List (List Item)) (List Item)
not_whole = Err []

pub joined_declarations : (seen : Seen) (is : List Item) (ds : List (List Item)) → declarations seen is ≡ Ok ds
    → joined ds ≡ is
joined_declarations seen [] ds e = at_end (is_whole seen) e where
  at_end : (b : Bool) → (if b then whole_so_far else not_whole) ≡ Ok ds → joined ds ≡ []
  at_end true h = let none : [] ≡ ds = cc in ap joined (sym none)
  at_end false h = absurd cc
joined_declarations seen (i ∷ is) ds e =
    by_next (seen_with seen i) e (λ more es k. joined_declarations more is es k) where
      by_next : (o : Option Seen)
          → (elim o as (λ _. Result (List (List Item)) (List Item)) [
            | None ↦ Err (i ∷ is)
            | (Some more) ↦ and_before (is_whole more) i (declarations more is)
          ]) ≡ Ok ds → ((more : Seen) (es : List (List Item)) → declarations more is ≡ Ok es → joined es ≡ is)
          → joined ds ≡ i ∷ is
      by_next None h all = absurd cc
      by_next (Some more) h all = joined_front (is_whole more) i is (declarations more is) ds (all more) h
