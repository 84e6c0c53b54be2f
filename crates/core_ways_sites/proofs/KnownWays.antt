-- What is known of methods, and going on from one to the next.
use Rattle.std.proofs.Common.{◌≡◌, ℕ, zero, suc, Bool, true, false, cond, List, [], ◌∷◌, ◌++◌}
use Rattle.std.proofs.Common.{Option, None, Some, is_some, slice_get, slice_set, refl, sym, ap, subst}
use Rattle.std.proofs.Common.{◌∙◌, append_assoc}
use Rattle.std.proofs.lemmas.List.{append-nil}
use Rattle.std.specs.BTreeMap.{BTreeMap}
use Rattle.std.specs.Option.{IfSome}
use Rattle.racer_base.specs.declared.ids.MethodId.{MethodId}
use Rattle.core_code.specs.CallFacts.{has_ranks}
use Rattle.core_code.specs.Core.{Core}
use Rattle.access_domain.specs.declared.access.Access.{Access}
use Rattle.access_domain.specs.OutcomeRecords.{record_at}
use Rattle.core_semantics.specs.declared.answer.Turn.{Turn}
use Rattle.core_ways.specs.declared.count.Count.{Count}
use Rattle.core_ways.specs.declared.part.WayPart.{WayPart}
use Rattle.core_ways.specs.declared.part.WayPart.TheVariants.{Step}
use Rattle.core_ways.specs.Going.{GoesOn, IsEntered}
use Rattle.core_ways.specs.Ways.{Trip, joined, reached, straight, trip_along, trip_of, way_of, way_parts}
use Rattle.core_ways.proofs.Alone.{along-both}
use Rattle.core_ways.proofs.Going.{goes-through}
use Rattle.core_ways.proofs.SitePaths.{has-found}
use Rattle.core_ways_sites.specs.declared.noting.Reached.{Reached}
use Rattle.core_ways_sites.specs.Gone.{IsGone, LeadsOn}
use Rattle.core_ways_sites.specs.Known.{AreFound, Goes, entering}
use Rattle.core_ways_sites.specs.Sites.{IsFound, IsSite}
use Rattle.core_ways_sites.proofs.LeadsOn.{arrives}

-- ---- a list of which each element is right at its place

each-pushed : {X : Type 0} (P : ℕ → X → Type 0) (xs : List X) (x : X) →
    ((k : ℕ) → IfSome (slice_get xs k) (P k)) → ((k : ℕ) → P k x) →
    (k : ℕ) → IfSome (slice_get (xs ++ x ∷ []) k) (P k)
each-pushed P [] x all one zero = one 0
each-pushed P [] x all one (suc k) = tt
each-pushed P (y ∷ xs) x all one zero = all 0
each-pushed P (y ∷ xs) x all one (suc k) =
    each-pushed (λ j. P (suc j)) xs x (λ j. all (suc j)) (λ j. one (suc j)) k

each-set : {X : Type 0} (P : ℕ → X → Type 0) (xs : List X) (n : ℕ) (x : X) →
    ((k : ℕ) → IfSome (slice_get xs k) (P k)) → P n x → (k : ℕ) → IfSome (slice_get (slice_set xs n x) k) (P k)
each-set P [] n x all one k = all k
each-set P (y ∷ xs) zero x all one zero = one
each-set P (y ∷ xs) zero x all one (suc k) = all (suc k)
each-set P (y ∷ xs) (suc n) x all one zero = all 0
each-set P (y ∷ xs) (suc n) x all one (suc k) =
    each-set (λ j. P (suc j)) xs n x (λ j. all (suc j)) one k

abbrev FoundWays : Type 0
FoundWays = Option (BTreeMap ℕ Reached)

abbrev right-at : Core → ℕ → FoundWays → Type 0
right-at core k o = IfSome o (IsFound core (record { 0 = k }))

pub found-pushed : (core : Core) (xs : List FoundWays) → AreFound core xs → AreFound core (xs ++ None ∷ [])
found-pushed core xs found =
    λ m. each-pushed (right-at core) xs None (λ k. found (record { 0 = k })) (λ k. tt) m.0

pub found-set : (core : Core) (xs : List FoundWays) (m : MethodId) (one : BTreeMap ℕ Reached) → AreFound core xs →
    IsFound core m one → AreFound core (slice_set xs m.0 (Some one))
found-set core xs m one found is =
    λ n. each-set (right-at core) xs m.0 (Some one) (λ k. found (record { 0 = k })) is n.0

-- ---- one method after another

alone : (trips : MethodId → Trip) (parts : List WayPart) →
    trip_along trips parts ≡ joined (trip_along trips parts) (straight 0)
alone trips parts = ap (trip_along trips) (sym (append-nil parts)) ∙ along-both trips parts []

-- the rest of a way is gone
pub ends-along : (core : Core) (m : MethodId) (i : ℕ) (parts : List WayPart) (count now : Count)
    (turns more : List Turn) (whole : Trip) → parts ≡ way_parts core m i →
    ((rest to : Trip) → LeadsOn count turns (joined (trip_along (trip_of core) parts) rest) to →
    LeadsOn now more rest to) → LeadsOn count turns (way_of core m i) whole → IsGone whole now more
ends-along core m i parts count now turns more whole is onward leads =
    arrives now more whole
    (onward (straight 0) whole
    (subst (λ (t : Trip). LeadsOn count turns t whole)
    (ap (trip_along (trip_of core)) (sym is) ∙ alone (trip_of core) parts) leads))

pub none-entered : (next : Option (MethodId × ℕ)) → next ≡ None → is_some next ≡ false
none-entered next none = ap is_some none

module _ (core : Core) (m : MethodId) (i : ℕ) (r : Access) (site : Reached) (below : Option ℕ)
    (ranks : has_ranks core ≡ true) (at : record_at core m i ≡ Some r) (same_below : r.below ≡ below)
    (is : IsSite core m r.site site) where
  abbrev to : List WayPart
  to = reached 0 r.site is.code

  goes-from : (next : Option (MethodId × ℕ)) →
      ((old : List WayPart) → IsEntered site.op below old (entering old next) next) →
      GoesOn core m i [] (entering to next) next
  goes-from next enters =
      let there = is.reached.there in
      goes-through core m i is.code r site.op [] to (entering to next) (Some site.op) next ranks is.is at there refl
      (sym (ap (λ (b : Bool). cond b to []) (has-found is.code r.site (Some site.op) true there refl)))
      (subst (λ (b : Option ℕ). IsEntered site.op b to (entering to next) next) (sym same_below) (enters to))

  pub goes-in : (next : Option (MethodId × ℕ)) (count there now : Count) (turns more : List Turn) (whole : Trip) →
      ((old : List WayPart) → IsEntered site.op below old (entering old next) next) →
      ((here rest to : Trip) → IsGone here site.count site.turns.items → LeadsOn count turns (joined here rest) to →
      LeadsOn there more rest to) →
      (next ≡ None → now ≡ there) →
      (is_some next ≡ true → (ts : List Turn) (rest to : Trip) → LeadsOn there ts (joined (straight 1) rest) to →
      LeadsOn now ts rest to) →
      LeadsOn count turns (way_of core m i) whole → Goes core m now more whole next
  goes-in None count there now turns more whole enters onward same step leads =
      let trips : MethodId → Trip = trip_of core in
      let parts : way_parts core m i ≡ to = sym (goes-from None enters) in
      subst (λ (c : Count). IsGone whole c more) (sym (same refl))
      (arrives there more whole
      (onward (trip_along trips to) (straight 0) whole is.reached.gone
      (subst (λ (t : Trip). LeadsOn count turns t whole) (ap (trip_along trips) parts ∙ alone trips to) leads)))
  goes-in (Some (n, j)) count there now turns more whole enters onward same step leads =
      let trips : MethodId → Trip = trip_of core in
      let rest : List WayPart = way_parts core n j in
      let on = goes-from (Some (n, j)) enters in
      let parts : way_parts core m i ≡ to ++ Step ∷ rest = sym on.0 ∙ append_assoc to (Step ∷ []) rest in (
        step refl more (way_of core n j) whole
            (onward (trip_along trips to) (joined (straight 1) (way_of core n j)) whole is.reached.gone
            (subst (λ (t : Trip). LeadsOn count turns t whole)
            (ap (trip_along trips) parts ∙ along-both trips to (Step ∷ rest)) leads)),
        on.1,
      )
