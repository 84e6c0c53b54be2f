-- The table of methods that are passed, and what is counted of its methods.
use Rattle.std.proofs.Common.{◌≡◌, ℕ, suc, ◌+◌, ◌<◌, ◌≤◌, Bool, true, false, cond, List, [], ◌∷◌, Option}
use Rattle.std.proofs.Common.{Some, zero, nat_eq, length, drop, get_or, refl, sym, ap, subst, ◌∙◌, arith}
use Rattle.std.proofs.lemmas.Bool.{eqb-true}
use Rattle.std.proofs.lemmas.List.{at_drop_more}
use Rattle.std.specs.BTreeMap.{BTreeMap, Updates, get}
use Rattle.std.specs.Cmp.{unsigned_ties}
use Rattle.std.specs.Option.{IfSome}
use Rattle.std.specs.Ordering.{nat_cmp}
use Rattle.racer_base.specs.declared.ids.MethodId.{MethodId}
use Rattle.core_code.specs.Calls.{rank_of}
use Rattle.core_code.specs.CallFacts.{has_ranks}
use Rattle.core_code.specs.Core.{Core}
use Rattle.core_code.proofs.KindLemmas.{same_method}
use Rattle.core_ways.specs.declared.counting.Passing.{Passing}
use Rattle.core_ways.specs.declared.part.WayPart.{WayPart}
use Rattle.core_ways.specs.Counts.{height_of, part_height}
use Rattle.core_ways.specs.Passings.{IsPassing, IsTable}
use Rattle.core_ways.specs.Ways.{Trip, joined, parts_of, trip_along, trip_of, trip_of_part}
use Rattle.core_ways.proofs.Callees.{lower-parts}
use Rattle.core_ways.proofs.Trips.{height-below, trip_of-parts}

-- one more method
pub kept-entry : (core : Core) (old new : BTreeMap ℕ Passing) (m : MethodId) (p : Passing) → IsTable core old →
    IsPassing core m p → Updates nat_cmp old new m.0 (Some p) → IsTable core new
kept-entry core old new m p table is updates n =
    let Right : Option Passing → Type 0 = λ o. IfSome o (λ q. IsPassing core n q) in
    subst Right
    (sym (updates.0 n.0 ∙ ap (λ (b : Bool). cond b (Some p) (get nat_cmp old n.0)) (sym (unsigned_ties m.0 n.0))))
    (elim (nat_eq m.0 n.0) as (λ b. nat_eq m.0 n.0 ≡ b → Right (cond b (Some p) (get nat_cmp old n.0))) [
      | true ↦ λ e. subst (λ (k : MethodId). IsPassing core k p) (same_method m n (eqb-true m.0 n.0 e)) is
      | false ↦ λ e. table n
    ] refl)

-- an entry is right
pub entry-right : (core : Core) (table : BTreeMap ℕ Passing) (m : MethodId) (p : Passing) → IsTable core table →
    get nat_cmp table m.0 ≡ Some p → IsPassing core m p
entry-right core table m p right is = subst (λ (o : Option Passing). IfSome o (λ q. IsPassing core m q)) is (right m)

-- what is passed of a method has a height of at most its rank
pub height-of-method : (core : Core) (m : MethodId) (parts : List WayPart) → has_ranks core ≡ true →
    parts ≡ parts_of core m → height_of core parts ≤ rank_of core m
height-of-method core m parts ranks is =
    subst (λ (ps : List WayPart). height_of core ps ≤ rank_of core m) (sym is)
    (height-below core (rank_of core m) (parts_of core m) (lower-parts core m ranks))

-- a part of a list is no higher than the list
pub part-within : (core : Core) (parts : List WayPart) (i : ℕ) (d : WayPart) → i < length parts →
    part_height core (get_or parts i d) ≤ height_of core parts
part-within core [] i d within = absurd (omega arith)
part-within core (p ∷ parts) zero d within = omega arith
part-within core (p ∷ parts) (suc i) d within =
    let rest = part-within core parts i d (omega arith) in omega arith

-- passing a method is passing its parts
pub trip-of-method : (core : Core) (m : MethodId) (parts : List WayPart) → has_ranks core ≡ true →
    parts ≡ parts_of core m → trip_of core m ≡ trip_along (trip_of core) parts
trip-of-method core m parts ranks is =
    trip_of-parts core m (lower-parts core m ranks) ∙ ap (trip_along (trip_of core)) (sym is)

-- one more part of what is left
pub next-part : (trips : MethodId → Trip) (parts : List WayPart) (i : ℕ) (d : WayPart) → i < length parts →
    trip_along trips (drop i parts) ≡
    joined (trip_of_part trips (get_or parts i d)) (trip_along trips (drop (i + 1) parts))
next-part trips parts i d within = at_drop_more (trip_along trips) parts i d within
