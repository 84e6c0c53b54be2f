-- What parts of a way make up.
use Rattle.std.proofs.Common.{◌≡◌, ℕ, suc, ◌<◌, ◌≤◌, List, [], ◌∷◌, ◌++◌}
use Rattle.std.proofs.Common.{refl, ap, arith, replicate, zero}
use Rattle.racer_base.specs.declared.ids.MethodId.{MethodId}
use Rattle.core_code.specs.Calls.{rank_of, known_below}
use Rattle.core_code.specs.Core.{Core}
use Rattle.core_code.proofs.ByRank.{known_below-lower}
use Rattle.core_ways.specs.declared.part.WayPart.{WayPart}
use Rattle.core_ways.specs.declared.part.WayPart.TheVariants.{Step, Branched, Passed, Unread}
use Rattle.core_ways.specs.Counts.{height_of}
use Rattle.core_ways.specs.Ways.{Trip, straight, joined, trip_of_part, trip_along, trip_of, trip_given, parts_of}

-- each method that is passed has this
abbrev pub EachPassed : (MethodId → Type 0) → List WayPart → Type 0
EachPassed P [] = Unit {0}
EachPassed P (Step ∷ parts) = EachPassed P parts
EachPassed P (Branched turn ∷ parts) = EachPassed P parts
EachPassed P (Passed m ∷ parts) = P m × EachPassed P parts
EachPassed P (Unread place ∷ parts) = EachPassed P parts

pub each-append : (P : MethodId → Type 0) (xs ys : List WayPart) → EachPassed P xs → EachPassed P ys →
    EachPassed P (xs ++ ys)
each-append P [] ys a b = b
each-append P (Step ∷ xs) ys a b = each-append P xs ys a b
each-append P (Branched turn ∷ xs) ys a b = each-append P xs ys a b
each-append P (Passed m ∷ xs) ys a b = (a.0, each-append P xs ys a.1 b)
each-append P (Unread place ∷ xs) ys a b = each-append P xs ys a b

pub each-steps : (P : MethodId → Type 0) (n : ℕ) → EachPassed P (replicate n Step)
each-steps P zero = tt
each-steps P (suc n) = each-steps P n

-- what parts make up depends on the methods that they pass alone
pub trip_along-same : (f g : MethodId → Trip) (parts : List WayPart) → EachPassed (λ m. f m ≡ g m) parts →
    trip_along f parts ≡ trip_along g parts
trip_along-same f g [] same = refl
trip_along-same f g (Step ∷ parts) same = ap (joined (straight 1)) (trip_along-same f g parts same)
trip_along-same f g (Branched turn ∷ parts) same =
    ap (joined (trip_of_part f (Branched turn))) (trip_along-same f g parts same)
trip_along-same f g (Passed m ∷ parts) same = (λ i.
    joined (joined (straight 1) (same.0 i)) (trip_along-same f g parts same.1 i))
trip_along-same f g (Unread place ∷ parts) same =
    ap (joined (trip_of_part f (Unread place))) (trip_along-same f g parts same)

each-map : (P Q : MethodId → Type 0) (parts : List WayPart) → ((m : MethodId) → P m → Q m) → EachPassed P parts →
    EachPassed Q parts
each-map P Q [] f a = tt
each-map P Q (Step ∷ parts) f a = each-map P Q parts f a
each-map P Q (Branched turn ∷ parts) f a = each-map P Q parts f a
each-map P Q (Passed m ∷ parts) f a = (f m a.0, each-map P Q parts f a.1)
each-map P Q (Unread place ∷ parts) f a = each-map P Q parts f a

-- passing a method is passing its parts
pub trip_of-parts : (core : Core) (m : MethodId) → EachPassed (λ n. rank_of core n < rank_of core m) (parts_of core m) →
    trip_of core m ≡ trip_along (trip_of core) (parts_of core m)
trip_of-parts core m lower =
    trip_along-same (known_below (straight 0) (trip_given core) core (rank_of core m)) (trip_of core) (parts_of core m)
    (each-map (λ n. rank_of core n < rank_of core m)
    (λ n. known_below (straight 0) (trip_given core) core (rank_of core m) n ≡ trip_of core n) (parts_of core m)
    (λ n low. known_below-lower (straight 0) (trip_given core) core (rank_of core m) n low) lower)

-- where each method that is passed has a rank below k
pub height-below : (core : Core) (k : ℕ) (parts : List WayPart) → EachPassed (λ n. rank_of core n < k) parts →
    height_of core parts ≤ k
height-below core k [] low = omega arith
height-below core k (Step ∷ parts) low = let rest = height-below core k parts low in omega arith
height-below core k (Branched turn ∷ parts) low = let rest = height-below core k parts low in omega arith
height-below core k (Passed m ∷ parts) low =
    let rest = height-below core k parts low.1 in let here = low.0 in omega arith
height-below core k (Unread place ∷ parts) low = let rest = height-below core k parts low in omega arith
