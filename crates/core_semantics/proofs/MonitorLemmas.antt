-- The set beside the monitors that are held.
use Rattle.std.proofs.Common.{◌≡◌, Bool, true, false, cond, not, ◌||◌, List, [], ◌∷◌, drop, reverse}
use Rattle.std.proofs.Common.{refl, sym, ap, subst, ◌∙◌}
use Rattle.std.specs.BTreeSet.{BTreeSet, Updates, contains}
use Rattle.std.specs.List.{list_any}
use Rattle.std.specs.BTreeMap.{is_at}
use Rattle.std.proofs.lemmas.Bool.{and_parts}
use Rattle.core_code.specs.declared.code.LockKind.{LockKind}
use Rattle.core_code.specs.declared.code.LockKind.TheVariants.{Own, Explicit}
use Rattle.core_semantics.specs.declared.answer.Holder.{Holder}
use Rattle.core_semantics.specs.declared.answer.Holder.TheVariants.{Object as Of, Outside}
use Rattle.core_semantics.specs.declared.monitors.HeldMonitor.{HeldMonitor}
use Rattle.core_semantics.specs.Monitors.{AreFirsts, HasMonitorsOf, HasPopped, HasPushed, IsAsBefore, IsIndexed}
use Rattle.core_semantics.specs.Monitors.{IsPopped}
use Rattle.core_semantics.specs.Monitors.{IsWithout, is_held, monitors_in}
use Rattle.core_semantics.specs.Objects.{same_lock_kind, same_monitor, same_object}
use Rattle.core_semantics.specs.Order.{holder_cmp}
use Rattle.core_semantics.specs.Same.{equal_of_same}
use Rattle.core_semantics.specs.SameMonitor.{monitors_tied}

equal_kinds : (j k : LockKind) → same_lock_kind j k ≡ true → j ≡ k
equal_kinds Own Own e = refl
equal_kinds Explicit Explicit e = refl
equal_kinds _ _ e = absurd cc

equal_monitors : (a b : Holder) → same_monitor a b ≡ true → a ≡ b
equal_monitors (Of j a) (Of k b) e =
    let kinds = equal_kinds j k (and_parts (same_lock_kind j k) (same_object a b) e).0 in
    let objects = equal_of_same a b (and_parts (same_lock_kind j k) (same_object a b) e).1 in
    (λ i. Of (kinds i) (objects i))
equal_monitors (Of j a) (Outside k) e = absurd cc
equal_monitors (Outside j) (Of k b) e = absurd cc
equal_monitors (Outside j) (Outside k) e = ap Outside (equal_kinds j k e)

either : (a b : Bool) → cond a true b ≡ (a || b)
either true b = refl
either false b = refl

pub pushed-on : (old new : BTreeSet Holder) (held : List HeldMonitor) (m copy : Holder) → copy ≡ m →
    IsIndexed old held →
    Updates holder_cmp old new copy true →
    IsIndexed new (record { monitor = m; is_first = not (contains holder_cmp old copy) } ∷ held)
pushed-on old new held m copy same has updates =
    let there : (x : Holder) → contains holder_cmp new x ≡ (same_monitor m x || is_held (monitors_in held) x) = λ x.
    updates.0 x
    ∙ ap (λ b. cond b true (contains holder_cmp old x)) (monitors_tied copy x)
    ∙ ap (λ c. cond (same_monitor c x) true (contains holder_cmp old x)) same
    ∙ ap (λ b. cond (same_monitor m x) true b) (has.0 x)
    ∙ either (same_monitor m x) (is_held (monitors_in held) x) in
    let first : not (contains holder_cmp old copy) ≡ not (is_held (monitors_in held) m) =
    ap (λ c. not (contains holder_cmp old c)) same ∙ ap not (has.0 m) in
    (there, (first, has.1))

-- a first one is taken away
left-out : (s r : Bool) → (s ≡ true → r ≡ false) → cond s false (s || r) ≡ r
left-out true r none = sym (none refl)
left-out false r none = refl

-- one that is there once more stays
stays : (s r : Bool) → (s ≡ true → r ≡ true) → (s || r) ≡ r
stays true r some = sym (some refl)
stays false r some = refl

not-true : (b : Bool) → true ≡ not b → b ≡ false
not-true true e = absurd cc
not-true false e = refl

not-false : (b : Bool) → false ≡ not b → b ≡ true
not-false true e = refl
not-false false e = absurd cc

popped-by : (first : Bool) (old new : BTreeSet Holder) (held : List HeldMonitor) (m : Holder) →
    ((x : Holder) → contains holder_cmp old x ≡ (same_monitor m x || is_held (monitors_in held) x)) →
    first ≡ not (is_held (monitors_in held) m) → IsWithout first m old new →
    (x : Holder) → contains holder_cmp new x ≡ is_held (monitors_in held) x
popped-by true old new held m has first updates x =
    updates.0 x
    ∙ ap (λ b. cond b false (contains holder_cmp old x)) (monitors_tied m x)
    ∙ ap (λ b. cond (same_monitor m x) false b) (has x)
    ∙ left-out (same_monitor m x) (is_held (monitors_in held) x)
    (λ e. ap (is_held (monitors_in held)) (sym (equal_monitors m x e)) ∙ not-true (is_held (monitors_in held) m) first)
popped-by false old new held m has first same x =
    ap (λ ks. list_any (is_at (holder_cmp x)) ks) same
    ∙ has x
    ∙ stays (same_monitor m x) (is_held (monitors_in held) x)
    (λ e. ap (is_held (monitors_in held)) (sym (equal_monitors m x e)) ∙ not-false (is_held (monitors_in held) m) first)

kept-keys : (old new : BTreeSet Holder) (held held2 : List HeldMonitor) → held2 ≡ held → new.keys ≡ old.keys →
    IsIndexed old held → IsIndexed new held2
kept-keys old new held held2 is same has =
    let there : (x : Holder) → contains holder_cmp new x ≡ is_held (monitors_in held2) x = λ x.
    ap (λ ks. list_any (is_at (holder_cmp x)) ks) same
    ∙ has.0 x
    ∙ ap (λ h. is_held (monitors_in h) x) (sym is) in
    (there, subst AreFirsts (sym is) has.1)

popped-on : (old new : BTreeSet Holder) (held left : List HeldMonitor) → IsIndexed old held →
    IsPopped held old left new →
    IsIndexed new left
popped-on old new [] left has popped = kept-keys old new [] left popped.0 popped.1 has
popped-on old new (h ∷ held) left has popped =
    let there : (x : Holder) → contains holder_cmp new x ≡ is_held (monitors_in left) x = λ x.
    popped-by h.is_first old new held h.monitor has.0 has.1.0 popped.1 x
    ∙ ap (λ hs. is_held (monitors_in hs) x) (sym popped.0) in
    (there, subst AreFirsts (sym popped.0) has.1.1)

-- what is put, what stays, what is taken

pub has_pushed : (old new : BTreeSet Holder) (held more : List HeldMonitor) (m copy : Holder) → copy ≡ m →
    HasMonitorsOf old held → HasPushed held old more new m copy → HasMonitorsOf new more
has_pushed old new held more m copy same has pushed =
    subst (IsIndexed new) (sym pushed.0) (pushed-on old new (reverse held) m copy same has pushed.1)

pub has_as_before : (old new : BTreeSet Holder) (held held2 : List HeldMonitor) → HasMonitorsOf old held →
    IsAsBefore held old held2 new → HasMonitorsOf new held2
has_as_before old new held held2 has same =
    kept-keys old new (reverse held) (reverse held2) (ap reverse same.0) same.1 has

pub has_popped : (old new : BTreeSet Holder) (held left : List HeldMonitor) → HasMonitorsOf old held →
    HasPopped held old left new → HasMonitorsOf new left
has_popped old new held left has popped = popped-on old new (reverse held) (reverse left) has popped

pub seen-popped : (old new : BTreeSet Holder) (held left : List HeldMonitor) → IsPopped held old left new →
    monitors_in left ≡ drop 1 (monitors_in held)
seen-popped old new [] left popped = ap monitors_in popped.0
seen-popped old new (h ∷ held) left popped = ap monitors_in popped.0

pub has_none : (index : BTreeSet Holder) (held : List HeldMonitor) → index.keys ≡ [] → held ≡ [] →
    HasMonitorsOf index held
has_none index held no_keys none =
    let there : (m : Holder) → contains holder_cmp index m ≡ is_held (monitors_in (reverse held)) m = λ m.
    ap (λ ks. list_any (is_at (holder_cmp m)) ks) no_keys
    ∙ ap (λ (hs : List HeldMonitor). is_held (monitors_in (reverse hs)) m) (sym none) in
    (there, subst (λ (hs : List HeldMonitor). AreFirsts (reverse hs)) (sym none) tt)
