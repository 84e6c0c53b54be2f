-- Over any kinds: a step of a thread keeps the invariant, and is stuck only where the kinds allow it.
use Rattle.std.proofs.Common.{◌≡◌, ℕ, true, false, cond, ◌&&◌, List, [], ◌∷◌, Option, None, Some}
use Rattle.std.proofs.Common.{nat_lt, slice_index_or, refl, sym, subst}
use Rattle.std.specs.Prelude.{Result, Ok, Err}
use Rattle.std.specs.List.{list_any}
use Rattle.racer_base.specs.declared.ids.MethodId.{MethodId}
use Rattle.core_code.specs.declared.code.Op.{Op as CoreOp}
use Rattle.core_code.specs.declared.code.Op.TheVariants.{Push, PushClass, PushPrim, PushNull, New, Dup, Drop, Get, Put}
use Rattle.core_code.specs.declared.code.Op.TheVariants.{Set, Prim, Outside, Call, Unread, Ret, Throw}
use Rattle.core_code.specs.Core.{Core, Method}
use Rattle.core_code.specs.Tree.{Tree, is_return}
use Rattle.core_semantics.specs.declared.answer.Holder.{Holder}
use Rattle.core_semantics.specs.declared.answer.Turn.{Turn}
use Rattle.core_semantics.specs.declared.answer.Turn.TheVariants.{Left, Right}
use Rattle.core_semantics.specs.declared.answer.Why.{Why}
use Rattle.core_semantics.specs.declared.answer.Why.TheVariants.{UnreadCall}
use Rattle.core_semantics.specs.declared.object.Object.{Object}
use Rattle.core_semantics.specs.declared.object.Value.TheVariants.{Null}
use Rattle.core_semantics.specs.Objects.{same_monitor}
use Rattle.core_semantics.specs.State.{Frame, Store, Todo, Op, Choice, Loop, Sync, Unlock, before}
use Rattle.core_semantics.specs.Steps.{After, Inner, Next, Goes, Sticks, Waits, Ends, Spot, after, base_of}
use Rattle.core_semantics.specs.Steps.{called_method, chosen, entering, inner, inner_step, lock_with, locking}
use Rattle.core_semantics.specs.Steps.{monitor_of, on_base}
use Rattle.core_semantics.specs.Steps.{op_step, operated, passed_from, returned, thread_step, todo_step, top, unlocked}
use Rattle.core_semantics.specs.Steps.{with_inner, with_lock, with_todo, within}
use Rattle.core_semantics_kinds.specs.Kinding.{AreFrames, AreWaiting, CanDo, StepKeeps, HasMonitor, HasObject}
use Rattle.core_semantics_kinds.specs.Kinding.{IsCalled, IsInner}
use Rattle.core_semantics_kinds.specs.Kinding.{IsKept, IsLocked, Keeps, Kinding, Leads, is_inner}
use Rattle.core_semantics_kinds.proofs.KindedCode.{before-does, left-side, loop-left, once-more, right-side}
use Rattle.core_semantics_kinds.proofs.KindedCode.{within-lock}

-- a frame of a method of which this is known, over its callers
record IsAt (core : Core) (k : Kinding core) (method : Method) (known : k.Known) (s : Spot) : Type 0 where
  stored : k.IsStored s.store
  so : k.IsSo method known s.frame.vars s.frame.stack
  waiting : AreWaiting core k method s.callers

module _ {core : Core} {k : Kinding core} (keeps : Keeps core k) where
  -- a frame that goes on
  goes-on : (method : Method) (known : k.Known) (s : Spot) → IsAt core k method known s →
      CanDo core k method s.frame.todo known → IsKept core k (after s)
  goes-on method known s at todo =
      record {
        stored = at.stored;
        frames = (record { method = method; known = known; so = at.so; todo = todo }, at.waiting);
      }

  -- ---- operations in one frame

  inner-next : (method : Method) (known : k.Known) (s : Spot) (next : Next Inner) →
      StepKeeps core k (IsInner core k method known s.frame.todo) next → AreWaiting core k method s.callers →
      CanDo core k method s.frame.todo known →
      StepKeeps core k (IsKept core k) (within (λ i. after (with_inner s i)) next)
  inner-next method known s (Goes i) h waiting todo =
      goes-on method known (with_inner s i) (record { stored = h.stored; so = h.so; waiting = waiting })
      (subst (λ (t : List Todo). CanDo core k method t known) (sym h.todo_stays) todo)
  inner-next method known s (Sticks why) h waiting todo = h
  inner-next method known s (Waits monitor) h waiting todo = tt
  inner-next method known s Ends h waiting todo = tt

  inner-op : (method : Method) (a b : k.Known) (s : Spot) (op : CoreOp) → is_inner op ≡ true → k.IsAfter method op a b →
      IsAt core k method a s → CanDo core k method s.frame.todo b →
      StepKeeps core k (IsKept core k) (within (λ i. after (with_inner s i)) (inner_step core (inner s) op))
  inner-op method a b s op is step at todo =
      inner-next method b s (inner_step core (inner s) op)
      (keeps.inner method (inner s) op a b is step at.stored at.so) at.waiting todo

  -- ---- calls and returns

  entered-kept : (method : Method) (m : MethodId) (n : ℕ) (a b : k.Known) (s : Spot) → IsAt core k method a s →
      CanDo core k method s.frame.todo b → (c : IsCalled core k method m n b s.frame.vars s.frame.stack) →
      StepKeeps core k (IsKept core k) (entering s c.callee n)
  entered-kept method m n a b s at todo c =
      record {
        stored = at.stored;
        frames = (
          record {
            method = c.callee;
            known = k.at_entry c.callee;
            so = c.passed;
            todo = before-does k c.callee c.callee.code [] (k.at_entry c.callee) c.code.ends c.code.leads tt;
          },
          (record { method = method; known = b; so = c.back; todo = todo }, at.waiting),
        );
      }

  received : (s : Spot) (callee : Method) (n : ℕ) (r : Result Object Why) → HasObject core k r →
      StepKeeps core k (IsKept core k) (entering s callee n) →
      StepKeeps core k (IsKept core k) (on_base r (λ o. entering s callee n))
  received s callee n (Ok o) has h = h
  received s callee n (Err why) has h = has

  called-kept : (s : Spot) (callee : Method) (n : ℕ) →
      (callee.is_static ≡ false → HasObject core k (base_of (slice_index_or (passed_from s.frame n) 0 Null))) →
      StepKeeps core k (IsKept core k) (entering s callee n) →
      StepKeeps core k (IsKept core k) (called_method s callee n)
  called-kept s callee n has h =
      (elim callee.is_static as (λ b. callee.is_static ≡ b →
      StepKeeps core k (IsKept core k) (cond b (entering s callee n)
      (on_base (base_of (slice_index_or (passed_from s.frame n) 0 Null)) (λ o. entering s callee n)))) [
        | true ↦ λ e. h
        | false ↦ λ e. received s callee n (base_of (slice_index_or (passed_from s.frame n) 0 Null)) (has e) h
      ]) refl

  call-kept : (method : Method) (m : MethodId) (n : ℕ) (a b : k.Known) (s : Spot) → IsAt core k method a s →
      CanDo core k method s.frame.todo b → IsCalled core k method m n b s.frame.vars s.frame.stack →
      StepKeeps core k (IsKept core k) (op_step core s (Call m n))
  call-kept method m n a b s at todo c =
      subst (λ (o : Option Method). StepKeeps core k (IsKept core k) (elim o as (λ _. Next After) [
        | None ↦ Sticks UnreadCall
        | Some callee ↦ called_method s callee n
      ])) (sym c.there) (called-kept s c.callee n c.receiver (entered-kept method m n a b s at todo c))

  returned-kept : (method : Method) (known : k.Known) (store : Store) (frame : Frame) (callers : List Frame)
      (locks : List Holder) → k.IsResult method (top frame) →
      (let s : Spot = record { store = store; frame = frame; callers = callers; locks = locks } in
      IsAt core k method known s → StepKeeps core k (IsKept core k) (returned s))
  returned-kept method known store frame [] locks value at = record { stored = at.stored; frames = tt }
  returned-kept method known store frame (caller ∷ callers) locks value at =
      record {
        stored = at.stored;
        frames = (
          record {
            method = at.waiting.0.method;
            known = at.waiting.0.known;
            so = at.waiting.0.so (top frame) value;
            todo = at.waiting.0.todo;
          },
          at.waiting.1,
        );
      }

  op-kept : (method : Method) (a b : k.Known) (s : Spot) (op : CoreOp) → k.IsAfter method op a b →
      IsAt core k method a s → CanDo core k method s.frame.todo b → StepKeeps core k (IsKept core k) (op_step core s op)
  op-kept method a b s (Push v) step at todo = inner-op method a b s (Push v) refl step at todo
  op-kept method a b s (PushClass c) step at todo = inner-op method a b s (PushClass c) refl step at todo
  op-kept method a b s PushPrim step at todo = inner-op method a b s PushPrim refl step at todo
  op-kept method a b s PushNull step at todo = inner-op method a b s PushNull refl step at todo
  op-kept method a b s (New c) step at todo = inner-op method a b s (New c) refl step at todo
  op-kept method a b s Dup step at todo = inner-op method a b s Dup refl step at todo
  op-kept method a b s Drop step at todo = inner-op method a b s Drop refl step at todo
  op-kept method a b s (Get f) step at todo = inner-op method a b s (Get f) refl step at todo
  op-kept method a b s (Put f) step at todo = inner-op method a b s (Put f) refl step at todo
  op-kept method a b s (Set v) step at todo = inner-op method a b s (Set v) refl step at todo
  op-kept method a b s (Prim n) step at todo = inner-op method a b s (Prim n) refl step at todo
  op-kept method a b s (Outside n) step at todo = inner-op method a b s (Outside n) refl step at todo
  op-kept method a b s (Call m n) step at todo =
      call-kept method m n a b s at todo (keeps.call method m n a b s.frame.vars s.frame.stack step at.so)
  op-kept method a b s (Unread m n) step at todo = inner-op method a b s (Unread m n) refl step at todo
  op-kept method a b s Throw step at todo = inner-op method a b s Throw refl step at todo
  op-kept method a b s Ret step at todo =
      returned-kept method a s.store s.frame s.callers s.locks
      (keeps.result method a b s.frame.vars s.frame.stack step at.so) at

  operated-kept : (method : Method) (known a b : k.Known) (s : Spot) (rest : List Todo) (op : CoreOp) →
      k.IsAfter method op a b → IsAt core k method known s → IsAt core k method a s →
      CanDo core k method s.frame.todo known → CanDo core k method rest b →
      StepKeeps core k (IsKept core k) (operated core s rest op)
  operated-kept method known a b s rest op step at from_at whole todo =
      elim (is_return op && nat_lt 0 s.frame.locked) as (λ x.
      StepKeeps core k (IsKept core k) (cond x (Goes (after (unlocked s))) (op_step core (with_todo s rest) op))) [
        | true ↦
            goes-on method known (unlocked s) (record { stored = at.stored; so = at.so; waiting = at.waiting }) whole
        | false ↦
            op-kept method a b (with_todo s rest) op step
            (record { stored = from_at.stored; so = from_at.so; waiting = from_at.waiting }) todo
      ]

  -- ---- locks

  locking-kept : (others : List Holder) (s : Spot) (body : Tree) (monitor : Holder) →
      IsKept core k (after (with_lock s body monitor)) →
      StepKeeps core k (IsKept core k) (locking others s body monitor)
  locking-kept others s body monitor h =
      elim (list_any (λ held. same_monitor held monitor) others) as (λ b.
      StepKeeps core k (IsKept core k) (cond b (Waits monitor) (Goes (after (with_lock s body monitor))))) [
        | true ↦ tt
        | false ↦ h
      ]

  lock-kept : (others : List Holder) (s : Spot) (body : Tree) (r : Result Holder Why) → HasMonitor core k r →
      ((monitor : Holder) → IsKept core k (after (with_lock s body monitor))) →
      StepKeeps core k (IsKept core k) (lock_with others s body r)
  lock-kept others s body (Ok monitor) has h = locking-kept others s body monitor (h monitor)
  lock-kept others s body (Err why) has h = has

  held-kept : (method : Method) (under b : k.Known) (s : Spot) (body : Tree) (rest : List Todo) (monitor : Holder) →
      Leads core k method body under b → IsLocked core k method under s.frame.vars s.frame.stack →
      k.IsStored s.store → AreWaiting core k method s.callers → CanDo core k method rest b →
      IsKept core k (after (with_lock (with_todo s rest) body monitor))
  held-kept method under b s body rest monitor leads locked stored waiting todo =
      goes-on method under (with_lock (with_todo s rest) body monitor)
      (record { stored = stored; so = locked.so; waiting = waiting })
      (within-lock k method body rest under b leads todo)

  -- ---- a step of a frame

  chosen-kept : (turn : Turn) (method : Method) (known : k.Known) (s : Spot) (left right : List Todo) →
      IsAt core k method known s → CanDo core k method left known → CanDo core k method right known →
      IsKept core k (after (with_todo s (chosen turn left right)))
  chosen-kept Left method known s left right at a b =
      goes-on method known (with_todo s left) (record { stored = at.stored; so = at.so; waiting = at.waiting }) a
  chosen-kept Right method known s left right at a b =
      goes-on method known (with_todo s right) (record { stored = at.stored; so = at.so; waiting = at.waiting }) b

  todo-kept : (turn : Turn) (others : List Holder) (method : Method) (known : k.Known) (s : Spot) (todo : List Todo) →
      IsAt core k method known s → CanDo core k method s.frame.todo known → CanDo core k method todo known →
      StepKeeps core k (IsKept core k) (todo_step core turn others s todo)
  todo-kept turn others method known s [] at whole h = tt
  todo-kept turn others method known s (Op place op ∷ rest) at whole h =
      operated-kept method known h.from h.after s rest op h.does at
      (record { stored = at.stored; so = h.weaker.so s.frame.vars s.frame.stack at.so; waiting = at.waiting })
      whole h.on
  todo-kept turn others method known s (Choice left right ∷ rest) at whole h =
      chosen-kept turn method h.from s (before left rest) (before right rest)
      (record { stored = at.stored; so = h.weaker.so s.frame.vars s.frame.stack at.so; waiting = at.waiting })
      (left-side k method left right rest h.from h.after h.does h.on)
      (right-side k method left right rest h.from h.after h.does h.on)
  todo-kept turn others method known s (Loop body ∷ rest) at whole h =
      chosen-kept turn method h.from s (before body (Loop body ∷ rest)) rest
      (record { stored = at.stored; so = h.weaker.so s.frame.vars s.frame.stack at.so; waiting = at.waiting })
      (once-more k method body rest h.from h.after h.does h.on)
      (loop-left k method body rest h.from h.after h.does h.on)
  todo-kept turn others method known s (Sync lock body ∷ rest) at whole h =
      let locked : IsLocked core k method h.does.under s.frame.vars s.frame.stack =
      keeps.lock method h.from h.does.under s.frame.vars s.frame.stack h.does.pops
      (h.weaker.so s.frame.vars s.frame.stack at.so) in
      lock-kept others (with_todo s rest) body (monitor_of lock.kind (top s.frame)) (locked.monitor lock.kind)
      (λ monitor. held-kept method h.does.under h.after s body rest monitor h.does.body locked at.stored at.waiting
      h.on)
  todo-kept turn others method known s (Unlock ∷ rest) at whole h =
      goes-on method h.after (unlocked (with_todo s rest))
      (record {
        stored = at.stored;
        so =
            subst (λ (a : k.Known). k.IsSo method a s.frame.vars s.frame.stack) h.does
            (h.weaker.so s.frame.vars s.frame.stack at.so);
        waiting = at.waiting;
      }) h.on

  pub frames-kept : (turn : Turn) (others : List Holder) (store : Store) (frames : List Frame) (locks : List Holder) →
      k.IsStored store → AreFrames core k frames →
      StepKeeps core k (IsKept core k) (thread_step core turn others store (record { frames = frames; locks = locks }))
  frames-kept turn others store [] locks stored h = tt
  frames-kept turn others store (frame ∷ callers) locks stored h =
      todo-kept turn others h.0.method h.0.known
      (record { store = store; frame = frame; callers = callers; locks = locks }) frame.todo
      (record { stored = stored; so = h.0.so; waiting = h.1 }) h.0.todo h.0.todo
