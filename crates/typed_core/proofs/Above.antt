-- Code without loops finds the same over the upper kinds of a stack as over all, where it does not reach the others.
use Rattle.std.proofs.Common.{◌≡◌, ℕ, zero, suc, ◌+◌, ◌-◌, ◌<◌, ◌≤◌, Bool, true, false, cond, not, ◌||◌, ◌&&◌, List, [], ◌∷◌}
use Rattle.std.proofs.Common.{Option, None, Some, length, drop, reverse, nat_le, is_some, ◌++◌, refl, sym, ap, subst, ◌∙◌, arith}
use Rattle.std.specs.Prelude.{option_map, slice_index_or, slice_set, take, Result, Ok, Err, IfOk, OnOk, Vec}
use Rattle.std.specs.Global.{Global}
use Rattle.std.proofs.lemmas.List.{append-nil, drop-append-le, length-take-le, take-append-drop, take-append-le}
use Rattle.std.proofs.lemmas.Bool.{leb-true}
use Rattle.racer_base.specs.declared.ids.FieldId.{FieldId}
use Rattle.racer_base.specs.declared.ids.Place.{Place}
use Rattle.core_code.specs.Tree.{LockAt, Tree, Op, Skip, Seq, Choice, Loop, Sync}
use Rattle.core_code.specs.Core.{Core, Method}
use Rattle.core_code.specs.Calls.{method_at, taken_by}
use Rattle.core_code.specs.KindCheck.{field_at}
use Rattle.core_code.specs.Facts.{pops, pushes, height_after}
use Rattle.core_code.specs.declared.code.Op.{Op as CoreOp}
use Rattle.core_code.specs.declared.code.Op.TheVariants.{Push, PushClass, PushPrim, PushNull, New, Dup, Drop, Get, Put}
use Rattle.core_code.specs.declared.code.Op.TheVariants.{Set, Prim as PrimOp, Outside, Call, Unread, Ret, Throw}
use Rattle.core_code.specs.declared.parts.FieldCore.{FieldCore}
use Rattle.transfer_bodies.specs.Reaching.{IsWithin}
use Rattle.transfer_loops.specs.Resuming.{loops}
use Rattle.transfer_loops.proofs.Heights.{then_heights, either_heights, held_heights}
use Rattle.typed_core.specs.declared.kinds.TypedKind.{TypedKind}
use Rattle.typed_core.specs.declared.kinds.TypedKind.TheVariants as kind
use Rattle.typed_core.specs.declared.states.KindState.{KindState}
use Rattle.typed_core.specs.declared.doubts.Doubt.TheVariants.{Always}
use Rattle.typed_core.specs.Kinds.{joined_kind, fits, do_fit, is_reference, same_kind}
use Rattle.typed_core.specs.States.{above, joined_kinds, joined_next, passed, popped, pushed, replaced, slot_of}
use Rattle.typed_core.specs.Needs.{kinds_behind, field_kind, result_kind, is_met, is_read_met, is_store_met, is_call_met}
use Rattle.typed_core.specs.Needs.{op_doubts, lock_doubts, is_refused, makes, base_of}
use Rattle.typed_core.specs.Lifts.{found_above, IsLifted}
use Rattle.typed_core.specs.Check.{check}
use Rattle.typed_core.specs.Resuming.{Heads, Resumed, resumed}
use Rattle.typed_core.proofs.Order.{joined-itself}
use Rattle.typed_core.proofs.Ends.{end, none-end}
use Rattle.typed_core.proofs.Sizes.{IsSized, check-sized}
use Rattle.typed_core.proofs.Resumed.{unreached}

less : (n m : ℕ) → suc n ≡ suc m → n ≡ m
less n m e = omega arith

joined-kinds-itself : (us : List TypedKind) → joined_kinds us us ≡ us
joined-kinds-itself [] = refl
joined-kinds-itself (u ∷ us) = (λ i. joined-itself u i ∷ joined-kinds-itself us i)

joined-above : (us xs ys : List TypedKind) → length xs ≡ length ys →
    joined_kinds (xs ++ us) (ys ++ us) ≡ joined_kinds xs ys ++ us
joined-above us [] [] e = joined-kinds-itself us
joined-above us [] (y ∷ ys) e = absurd (let z : 0 ≡ suc (length ys) = e in omega arith)
joined-above us (x ∷ xs) [] e = absurd (let z : suc (length xs) ≡ 0 = e in omega arith)
joined-above us (x ∷ xs) (y ∷ ys) e =
    ap (λ (vs : List TypedKind). joined_kind x y ∷ vs) (joined-above us xs ys (less (length xs) (length ys) e))

slot-above : (us xs : List TypedKind) (n : ℕ) (v : TypedKind) → n < length xs →
    slice_index_or (xs ++ us) n v ≡ slice_index_or xs n v
slot-above us [] n v low = absurd (let z : n < 0 = low in omega arith)
slot-above us (x ∷ xs) zero v low = refl
slot-above us (x ∷ xs) (suc n) v low = slot-above us xs n v (let z : suc n < suc (length xs) = low in omega arith)

is_low : (a h x k : ℕ) → cond (nat_le a h) (Some x) None ≡ Some k → a ≤ h
is_low a h x k e =
    leb-true a h (elim (nat_le a h) as (λ b. cond b (Some x) None ≡ Some k → b ≡ true) [
      | true ↦ λ f. refl
      | false ↦ λ f. cc
    ] e)

-- ---- operations
module _ (us : List TypedKind) (s : KindState) where
  popped-above : (n : ℕ) → n ≤ length s.stack → popped (above us s) n ≡ above us (popped s n)
  popped-above n low = (λ i. record { vars = s.vars; stack = drop-append-le n s.stack us low i })

  replaced-above : (n : ℕ) (v : TypedKind) → n ≤ length s.stack →
      Some (replaced (above us s) n v) ≡ Some (above us (replaced s n v))
  replaced-above n v low = ap (λ (t : KindState). Some (pushed t v)) (popped-above n low)

  slot_is : (n : ℕ) → n < length s.stack → slot_of (above us s) n ≡ slot_of s n
  slot_is n low = slot-above us s.stack n kind.Unset low

  passed_is : (n : ℕ) → n ≤ length s.stack → passed (above us s) n ≡ passed s n
  passed_is n low = ap reverse (take-append-le n s.stack us low)

  put-above : (core : Core) (f : FieldId) → 2 ≤ length s.stack →
      kinds_behind core (Put f) (above us s) ≡ option_map (above us) (kinds_behind core (Put f) s)
  put-above core f low =
      let value = slot_is 0 (let z : 2 ≤ length s.stack = low in omega arith) in
      let rest = popped-above 2 low in
      (λ i. Some (pushed (rest i) (value i)))

  kinds-above : (core : Core) (op : CoreOp) → pops op ≤ length s.stack →
      kinds_behind core op (above us s) ≡ option_map (above us) (kinds_behind core op s)
  kinds-above core (Push v) low = refl
  kinds-above core (PushClass c) low = refl
  kinds-above core PushPrim low = refl
  kinds-above core PushNull low = refl
  kinds-above core (New c) low = refl
  kinds-above core Dup low = ap (λ (v : TypedKind). Some (pushed (above us s) v)) (slot_is 0 low)
  kinds-above core Drop low = ap Some (popped-above 1 low)
  kinds-above core (Get f) low = replaced-above 1 (field_kind core f) low
  kinds-above core (Put f) low = put-above core f low
  kinds-above core (Set x) low =
      (λ i. Some (let made : KindState =
      record { vars = slice_set s.vars x.0 (slot_is 0 low i); stack = s.stack ++ us } in made))
  kinds-above core (PrimOp n) low = replaced-above n kind.Plain low
  kinds-above core (Outside n) low = replaced-above n kind.Other low
  kinds-above core (Call m n) low = replaced-above n (result_kind core m) low
  kinds-above core (Unread m n) low = replaced-above n kind.Other low
  kinds-above core Throw low = refl
  kinds-above core Ret low = refl

  read-met : (o : Option FieldCore) → 1 ≤ length s.stack → is_read_met o (above us s) ≡ is_read_met o s
  read-met None low = refl
  read-met (Some field) low = ap (same_kind (base_of field)) (slot_is 0 low)

  store-met : (o : Option FieldCore) → 2 ≤ length s.stack → is_store_met o (above us s) ≡ is_store_met o s
  store-met None low = refl
  store-met (Some field) low =
      let value = slot_is 0 (let z : 2 ≤ length s.stack = low in omega arith) in
      let base = slot_is 1 low in
      (λ i. same_kind (base_of field) (base i) && fits field.kind (value i))

  call-met : (o : Option Method) (n : ℕ) → n ≤ length s.stack → is_call_met o n (above us s) ≡ is_call_met o n s
  call-met None n low = refl
  call-met (Some callee) n low = ap (do_fit (taken_by callee)) (passed_is n low)

  met-above : (core : Core) (m : Method) (op : CoreOp) → pops op ≤ length s.stack →
      is_met core m op (above us s) ≡ is_met core m op s
  met-above core m (Get f) low = read-met (field_at core f) low
  met-above core m (Put f) low = store-met (field_at core f) low
  met-above core m (Call n k) low = call-met (method_at core n) k low
  met-above core m Ret low = ap (fits m.result) (slot_is 0 low)
  met-above core m (Push v) low = refl
  met-above core m (PushClass c) low = refl
  met-above core m PushPrim low = refl
  met-above core m PushNull low = refl
  met-above core m (New c) low = refl
  met-above core m Dup low = refl
  met-above core m Drop low = refl
  met-above core m (Set x) low = refl
  met-above core m (PrimOp n) low = refl
  met-above core m (Outside n) low = refl
  met-above core m (Unread n k) low = refl
  met-above core m Throw low = refl

  doubts-above : (core : Core) (m : Method) (place : Place) (op : CoreOp) → pops op ≤ length s.stack →
      op_doubts core m place op (Some (above us s)) ≡ op_doubts core m place op (Some s)
  doubts-above core m place op low =
      ap (λ (b : Bool). cond (is_refused core op || not b) (Always place ∷ []) (makes op place)) (met-above core m op low)

  lock-above : (place : Place) → 1 ≤ length s.stack →
      lock_doubts place (Some (above us s)) ≡ lock_doubts place (Some s)
  lock-above place low =
      ap (λ (v : TypedKind). cond (not (is_reference v)) (Always place ∷ []) []) (slot_is 0 low)

-- ---- parts
ends-joined : (us : List TypedKind) (a b : Option KindState) (k : ℕ) →
    ((s : KindState) → a ≡ Some s → length s.stack ≡ k) → ((s : KindState) → b ≡ Some s → length s.stack ≡ k) →
    joined_next (option_map (above us) a) (option_map (above us) b) ≡ option_map (above us) (joined_next a b)
ends-joined us None b k on_left on_right = refl
ends-joined us (Some s) None k on_left on_right = refl
ends-joined us (Some s) (Some t) k on_left on_right =
    let long : length s.stack ≡ length t.stack = on_left s refl ∙ sym (on_right t refl) in
    (λ i. Some (record { vars = joined_kinds s.vars t.vars; stack = joined-above us s.stack t.stack long i }))

nothing_left : (a b : ℕ) → a + b ≡ 0 → (a ≡ 0) × (b ≡ 0)
nothing_left a b e = (omega arith, omega arith)

held_some : (lock : LockAt) (body : Tree) (h k : ℕ) → height_after (Sync lock body) h ≡ Some k → 1 ≤ h
held_some lock body h k e =
    leb-true 1 h (elim (nat_le 1 h) as (λ b. cond b (height_after body (h - 1)) None ≡ Some k → b ≡ true) [
      | true ↦ λ f. refl
      | false ↦ λ f. cc
    ] e)

sized : (s : KindState) (h : ℕ) → length s.stack ≡ h → IsSized (length s.vars) h s
sized s h long = record { vars = refl; stack = long }

less_long : (xs : List TypedKind) (h : ℕ) → length xs ≡ h → length (drop 1 xs) ≡ h - 1
less_long [] h e = let z : 0 ≡ h = e in omega arith
less_long (x ∷ xs) h e = let z : suc (length xs) ≡ h = e in omega arith

-- the end of the rest, and that no head changes, where this holds wherever the rest is come to
rest-ended : (core : Core) (m : Method) (rest : Tree) (i : ℕ) (hs js : Heads) (o e : Option KindState) →
    ((t : KindState) → ((resumed core m rest i js (Some t)).next ≡ end core m rest t)
    × ((resumed core m rest i js (Some t)).heads ≡ js)) → o ≡ e → js ≡ hs →
    ((resumed core m rest i js o).next ≡ (check core m rest e).next) × ((resumed core m rest i js o).heads ≡ hs)
rest-ended core m rest i hs js None e go is same = (
  ap (λ (r : Resumed). r.next) (unreached core m rest i js) ∙ sym (none-end core m rest)
      ∙ ap (λ (x : Option KindState). (check core m rest x).next) is,
  ap (λ (r : Resumed). r.heads) (unreached core m rest i js) ∙ same,
)
rest-ended core m rest i hs js (Some t) e go is same = (
  (go t).0 ∙ ap (λ (x : Option KindState). (check core m rest x).next) is,
  (go t).1 ∙ same,
)

-- without loops the end is that of the check, and no head changes
no-loops : (core : Core) (m : Method) (code : Tree) (j : ℕ) (hs : Heads) (s : KindState) → loops code ≡ 0 →
    ((resumed core m code j hs (Some s)).next ≡ end core m code s)
    × ((resumed core m code j hs (Some s)).heads ≡ hs)
no-loops core m (Op site place op) j hs s none = (refl, refl)
no-loops core m Skip j hs s none = (refl, refl)
no-loops core m (Seq first rest) j hs s none =
    let no = nothing_left (loops first) (loops rest) none in
    let one = no-loops core m first j hs s no.0 in
    let js = (resumed core m first j hs (Some s)).heads in
    rest-ended core m rest (j + loops first) hs js (resumed core m first j hs (Some s)).next (end core m first s)
    (λ t. no-loops core m rest (j + loops first) js t no.1) one.0 one.1
no-loops core m (Choice left right) j hs s none =
    let no = nothing_left (loops left) (loops right) none in
    let one = no-loops core m left j hs s no.0 in
    let js = (resumed core m left j hs (Some s)).heads in
    let two = no-loops core m right (j + loops left) js s no.1 in
    ((λ i. joined_next (one.0 i) (two.0 i)), two.1 ∙ one.1)
no-loops core m (Loop body) j hs s none = absurd (let z : suc (loops body) ≡ 0 = none in omega arith)
no-loops core m (Sync lock body) j hs s none = no-loops core m body j hs (popped s 1) none

found-above : (core : Core) (m : Method) (code : Tree) (us : List TypedKind) (h k j : ℕ) (hs : Heads) (s : KindState) →
    loops code ≡ 0 → height_after code h ≡ Some k → length s.stack ≡ h →
    resumed core m code j hs (Some (above us s)) ≡ found_above us (resumed core m code j hs (Some s))
found-above core m (Op site place op) us h k j hs s none high long =
    let low = subst (λ (n : ℕ). pops op ≤ n) (sym long) (is_low (pops op) h (h - pops op + pushes op) k high) in
    (λ i. record {
      next = kinds-above us s core op low i;
      heads = hs;
      doubts = doubts-above us s core m place op low i;
    })
found-above core m Skip us h k j hs s none high long = refl
found-above core m (Seq first rest) us h k j hs s none high long =
    let no = nothing_left (loops first) (loops rest) none in
    let at = then_heights first rest h k high in
    let one = resumed core m first j hs (Some s) in
    let i = j + loops first in
    let with_rest : Resumed → Resumed = λ r.
    (let two = resumed core m rest i r.heads r.next in
    let all : Resumed = record { next = two.next; heads = two.heads; doubts = r.doubts ++ two.doubts } in all) in
    let rest_above : (o : Option KindState) → one.next ≡ o →
    resumed core m rest i one.heads (option_map (above us) o) ≡ found_above us (resumed core m rest i one.heads o) =
    λ o. elim o as (λ o. one.next ≡ o →
    resumed core m rest i one.heads (option_map (above us) o) ≡ found_above us (resumed core m rest i one.heads o)) [
      | None ↦ λ is. unreached core m rest i one.heads ∙ sym (ap (found_above us) (unreached core m rest i one.heads))
      | Some t ↦ λ is. found-above core m rest us at.0 k i one.heads t no.1 at.2
          (check-sized core m first (length s.vars) h at.0 s t at.1 (sized s h long)
          (sym (no-loops core m first j hs s no.0).0 ∙ is)).stack
    ] in
    ap with_rest (found-above core m first us h at.0 j hs s no.0 at.1 long)
    ∙ ap (λ (two : Resumed).
    (let all : Resumed = record { next = two.next; heads = two.heads; doubts = one.doubts ++ two.doubts } in all))
    (rest_above one.next refl)
found-above core m (Choice left right) us h k j hs s none high long =
    let no = nothing_left (loops left) (loops right) none in
    let at = either_heights left right h k high in
    let one = resumed core m left j hs (Some s) in
    let i = j + loops left in
    let two = resumed core m right i one.heads (Some s) in
    let left_above = found-above core m left us h k j hs s no.0 at.0 long in
    let right_above = found-above core m right us h k i one.heads s no.1 at.1 long in
    let joined : Resumed → Resumed → Resumed = λ a b.
    (let all : Resumed =
    record { next = joined_next a.next b.next; heads = b.heads; doubts = a.doubts ++ b.doubts } in all) in
    ap (λ (r : Resumed). joined r (resumed core m right i r.heads (Some (above us s)))) left_above
    ∙ ap (joined (found_above us one)) right_above
    ∙ (λ n. record {
      next = ends-joined us one.next two.next k
          (λ t is. (check-sized core m left (length s.vars) h k s t at.0 (sized s h long)
          (sym (no-loops core m left j hs s no.0).0 ∙ is)).stack)
          (λ t is. (check-sized core m right (length s.vars) h k s t at.1 (sized s h long)
          (sym (no-loops core m right i one.heads s no.1).0 ∙ is)).stack) n;
      heads = two.heads;
      doubts = one.doubts ++ two.doubts;
    })
found-above core m (Loop body) us h k j hs s none high long =
    absurd (let z : suc (loops body) ≡ 0 = none in omega arith)
found-above core m (Sync lock body) us h k j hs s none high long =
    let low : 1 ≤ length s.stack = subst (λ (n : ℕ). 1 ≤ n) (sym long) (held_some lock body h k high) in
    let body_above = ap (λ (t : KindState). resumed core m body j hs (Some t)) (popped-above us s 1 low)
    ∙ found-above core m body us (h - 1) k j hs (popped s 1) none (held_heights lock body h k high)
    (less_long s.stack h long) in
    (λ i. record {
      next = (body_above i).next;
      heads = (body_above i).heads;
      doubts = lock-above us s lock.place low i ++ (body_above i).doubts;
    })

-- what is taken from under code
pub lifted-is : (code : Tree) (us : List TypedKind) (h : ℕ) (old new : KindState) → old ≡ above us new →
    loops code ≡ 0 → is_some (height_after code h) ≡ true → length new.stack ≡ h → IsLifted code us old new
lifted-is code us h old new is none high long =
    elim (height_after code h) as (λ o. height_after code h ≡ o → is_some o ≡ true → IsLifted code us old new) [
      | None ↦ λ e some. cc
      | Some k ↦ λ e some. record {
        is = is;
        found = λ core m j hs. ap (λ (t : KindState). resumed core m code j hs (Some t)) is
            ∙ found-above core m code us h k j hs new none e long;
      }
    ] refl high

-- where nothing is taken
pub not-lifted : (code : Tree) (s : KindState) → IsLifted code [] s s
not-lifted code s =
    record {
      is = sym (all-above s);
      found = λ core m j hs. (λ i. record {
        next = sym (ends-above (resumed core m code j hs (Some s)).next) i;
        heads = (resumed core m code j hs (Some s)).heads;
        doubts = (resumed core m code j hs (Some s)).doubts;
      });
    }
  where
    all-above : (t : KindState) → above [] t ≡ t
    all-above t = (λ i. record { vars = t.vars; stack = append-nil t.stack i })

    ends-above : (o : Option KindState) → option_map (above []) o ≡ o
    ends-above None = refl
    ends-above (Some t) = ap Some (all-above t)

-- what is taken is all that lies below the upper eight kinds
pub lifted-returns : {E : Type 0} (r : Result (Vec TypedKind Global) E) (code : Tree) (old new : KindState) →
    IfOk r (λ under. reverse under.items ≡ drop 8 old.stack) →
    OnOk r (new ≡ (let made : KindState = record { vars = old.vars; stack = take 8 old.stack } in made)) →
    IsWithin 8 code → 64 < length old.stack → IfOk r (λ under. IsLifted code (reverse under.items) old new)
lifted-returns (Err e) code old new u n within tall = tt
lifted-returns (Ok under) code old new u n within tall =
    let rest = drop 8 old.stack in
    let whole : old ≡ above rest new =
    (λ i. record { vars = old.vars; stack = sym (take-append-drop 8 old.stack) i }) ∙ sym (ap (above rest) n) in
    let long : length new.stack ≡ 8 =
    ap (λ (s : KindState). length s.stack) n ∙ length-take-le 8 old.stack (omega arith) in
    subst (λ (us : List TypedKind). IsLifted code us old new) (sym u)
    (lifted-is code rest 8 old new whole within.none within.high long)
