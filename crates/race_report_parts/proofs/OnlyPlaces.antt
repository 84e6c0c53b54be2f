-- There is one list of places at most that goes from a record's site down to its access.
use Rattle.std.proofs.Common.{◌≡◌, ℕ, List, [], ◌∷◌, Option, None, Some, sym, ap, subst, ◌∙◌}
use Rattle.racer_base.specs.declared.ids.MethodId.{MethodId}
use Rattle.racer_base.specs.declared.ids.Place.{Place}
use Rattle.racer_base.specs.declared.ids.Touch.{Touch}
use Rattle.racer_base.proofs.Lists.{same_given}
use Rattle.access_domain.specs.Origins.{touch_of}
use Rattle.core_code.specs.declared.code.Op.{Op as CoreOp}
use Rattle.core_code.specs.declared.code.Op.TheVariants.{Call}
use Rattle.core_code.specs.Core.{Core}
use Rattle.core_code.specs.Tree.{Operation}
use Rattle.race_report_parts.specs.Places.{OwnedRecord, callee_of, operation_at, owned_record_at}
use Rattle.race_report_parts.specs.Reaching.{DoesReach, IsAccessAt, IsCallAt}

same-place : (a b : Operation) (x y : Place) (o : Option Operation) → o ≡ Some a → o ≡ Some b → a.place ≡ x →
    b.place ≡ y → x ≡ y
same-place a b x y o is also one other = sym one ∙ ap (λ (q : Operation). q.place) (same_given a b o is also) ∙ other

-- an operation that touches a field calls nothing
touch-calls : (op : CoreOp) (kind : Touch) (m : MethodId) (n : ℕ) → touch_of op ≡ Some kind → op ≡ Call m n → ⊥
touch-calls op kind m n touches calls =
    let none : ◌≡◌ {A = Option Touch} None (Some kind) = sym (ap touch_of calls) ∙ touches in cc

not-both : (core : Core) (held : OwnedRecord) (at other : Place) (Rest : OwnedRecord → Type 0) →
    IsAccessAt core held at →
    IsCallAt core held other Rest → ⊥
not-both core held at other Rest access call =
    let same : access.operation ≡ call.operation =
    same_given access.operation call.operation (operation_at core held.method held.access.site) access.is call.is in
    touch-calls access.operation.op held.access.kind call.callee call.count access.touches
    (ap (λ (q : Operation). q.op) same ∙ call.calls)

same-lower : (core : Core) (held : OwnedRecord) (at other : Place) (P Q : OwnedRecord → Type 0)
    (a : IsCallAt core held at P)
    (b : IsCallAt core held other Q) →
    ◌≡◌ {A = OwnedRecord} (record { method = b.callee; access = b.lower })
    (record { method = a.callee; access = a.lower })
same-lower core held at other P Q a b =
    let same : a.operation ≡ b.operation =
    same_given a.operation b.operation (operation_at core held.method held.access.site) a.is b.is in
    let callee : a.callee ≡ b.callee =
    same_given a.callee b.callee (callee_of a.operation.op) (ap callee_of a.calls)
    (ap (λ (q : Operation). callee_of q.op) same ∙ ap callee_of b.calls) in
    let index : a.index ≡ b.index = same_given a.index b.index held.access.below a.below b.below in
    same_given (record { method = b.callee; access = b.lower }) (record { method = a.callee; access = a.lower })
    (owned_record_at core b.callee b.index) b.has ((λ i. owned_record_at core (sym callee i) (sym index i)) ∙ a.has)

pub only-places : (core : Core) (held : OwnedRecord) (xs ys : List Place) → DoesReach core held xs →
    DoesReach core held ys →
    xs ≡ ys
only-places core held [] ys one other = absurd one
only-places core held (x ∷ []) [] one other = absurd other
only-places core held (x ∷ next ∷ more) [] one other = absurd other
only-places core held (x ∷ []) (y ∷ []) one other =
    ap (λ (p : Place). p ∷ []) (same-place one.operation other.operation x y
    (operation_at core held.method held.access.site) one.is other.is one.place other.place)
only-places core held (x ∷ []) (y ∷ next ∷ more) one other =
    absurd (not-both core held x y (λ lower. DoesReach core lower (next ∷ more)) one other)
only-places core held (x ∷ next ∷ more) (y ∷ []) one other =
    absurd (not-both core held y x (λ lower. DoesReach core lower (next ∷ more)) other one)
only-places core held (x ∷ next ∷ more) (y ∷ after ∷ others) one other =
    let P : OwnedRecord → Type 0 = λ lower. DoesReach core lower (next ∷ more) in
    let Q : OwnedRecord → Type 0 = λ lower. DoesReach core lower (after ∷ others) in
    let rest : next ∷ more ≡ after ∷ others =
    only-places core (record { method = one.callee; access = one.lower }) (next ∷ more) (after ∷ others) one.rest
    (subst Q (same-lower core held x y P Q one other) other.rest) in
    let place : x ≡ y = same-place one.operation other.operation x y
    (operation_at core held.method held.access.site) one.is other.is one.place other.place in
    (λ i. place i ∷ rest i)
