-- What frames and cells hold leads to an object of a class of the program.
use Rattle.std.proofs.Common.{◌≡◌, ℕ, true, List, [], ◌∷◌, Some, IsTrue, refl}
use Rattle.std.proofs.lemmas.Bool.{and_from}
use Rattle.std.specs.List.{list_all}
use Rattle.racer_base.specs.declared.ids.FieldId.{FieldId}
use Rattle.racer_base.specs.declared.ids.MethodId.{MethodId}
use Rattle.core_code.specs.declared.program.Program.{Program}
use Rattle.core_code.specs.Calls.{is_analysed, method_at}
use Rattle.core_code.specs.Core.{Core, Method}
use Rattle.core_code.specs.Kinds.{StackKind}
use Rattle.core_code.specs.Program.{core as core_of}
use Rattle.core_semantics.specs.declared.object.Object.{Object}
use Rattle.core_semantics.specs.declared.object.Object.TheVariants.{Start as StartOf, Fresh}
use Rattle.core_semantics.specs.declared.object.Start.{Start}
use Rattle.core_semantics.specs.declared.object.Value.{Value}
use Rattle.core_semantics.specs.declared.object.Value.TheVariants.{Plain, Opaque, Null, Object as Ref}
use Rattle.core_semantics.specs.Legs.{Leg, run}
use Rattle.core_semantics.specs.Runs.{begun}
use Rattle.core_semantics.specs.State.{Frame, State, thread_of}
use Rattle.core_semantics_kinds.specs.Kinding.{AreFrames, AreWaiting}
use Rattle.core_semantics_kinds.specs.ObjectKinds.{AreHeld, AreValues, IsValue, object_kinds}
use Rattle.core_semantics_kinds.specs.Reached.{Roots, do_lead, does_lead, reached_from, roots_of}
use Rattle.core_semantics_kinds.proofs.Beginnings.{run-state}
use Rattle.core_semantics_kinds.proofs.KindValues.{reached-some}
use Rattle.core_semantics_kinds.proofs.KindedRuns.{thread-frames}

module _ (core : Core) (roots : Roots) where
  value-leads : (kind : StackKind) (v : Value) → IsValue core roots kind v → does_lead core roots v ≡ true
  value-leads kind Plain h = refl
  value-leads kind Opaque h = refl
  value-leads kind Null h = refl
  value-leads kind (Ref (StartOf p)) h = reached-some kind (reached_from core roots p) h
  value-leads kind (Ref (Fresh n)) h = refl

  values-lead : (ks : List StackKind) (vs : List Value) → AreValues core roots ks vs →
      list_all (does_lead core roots) vs ≡ true
  values-lead [] [] h = refl
  values-lead (k ∷ ks) (v ∷ vs) h =
      and_from (does_lead core roots v) (list_all (does_lead core roots) vs) (value-leads k v h.0)
      (values-lead ks vs h.1)
  values-lead [] (v ∷ vs) h = absurd h
  values-lead (k ∷ ks) [] h = absurd h

  below-top : (ks : List StackKind) (v : Value) (vs : List Value) → AreValues core roots ks (v ∷ vs) →
      list_all (does_lead core roots) vs ≡ true
  below-top [] v vs h = absurd h
  below-top (k ∷ ks) v vs h = values-lead ks vs h.1

  waiting-lead : (callee : Method) (fs : List Frame) → AreWaiting core (object_kinds core roots) callee fs →
      list_all (do_lead core roots) fs ≡ true
  waiting-lead callee [] h = refl
  waiting-lead callee (f ∷ fs) h =
      let held : AreHeld core roots h.0.method h.0.known f.vars (Null ∷ f.stack) = h.0.so Null tt in
      and_from (do_lead core roots f) (list_all (do_lead core roots) fs)
      (and_from (list_all (does_lead core roots) f.vars) (list_all (does_lead core roots) f.stack)
      (values-lead _ f.vars held.vars) (below-top h.0.known Null f.stack held.stack))
      (waiting-lead h.0.method fs h.1)

  frames-lead : (fs : List Frame) → AreFrames core (object_kinds core roots) fs →
      list_all (do_lead core roots) fs ≡ true
  frames-lead [] h = refl
  frames-lead (f ∷ fs) h =
      let held : AreHeld core roots h.0.method h.0.known f.vars f.stack = h.0.so in
      and_from (do_lead core roots f) (list_all (do_lead core roots) fs)
      (and_from (list_all (does_lead core roots) f.vars) (list_all (does_lead core roots) f.stack)
      (values-lead _ f.vars held.vars) (values-lead h.0.known f.stack held.stack))
      (waiting-lead h.0.method fs h.1)

-- ---- runs of two entries

pub held-lead : (p : Program) (m1 m2 : MethodId) (f g : Method) → method_at (core_of p) m1 ≡ Some f →
    method_at (core_of p) m2 ≡ Some g → IsTrue (is_analysed (core_of p) m1) → IsTrue (is_analysed (core_of p) m2) →
    f.class ≡ g.class → (start : Start) (legs : List Leg) (s : State) →
    run (core_of p) legs (begun (core_of p) m1 m2 start) ≡ Some s →
    (t : ℕ) → IsTrue (list_all (do_lead (core_of p) (roots_of f g)) (thread_of s t).frames)
held-lead p m1 m2 f g is_f is_g an_f an_g same start legs s came t =
    frames-lead (core_of p) (roots_of f g) (thread_of s t).frames
    (thread-frames (object_kinds (core_of p) (roots_of f g)) s t
    (run-state p m1 m2 f g is_f is_g an_f an_g same start legs s came))

pub stored-lead : (p : Program) (m1 m2 : MethodId) (f g : Method) → method_at (core_of p) m1 ≡ Some f →
    method_at (core_of p) m2 ≡ Some g → IsTrue (is_analysed (core_of p) m1) → IsTrue (is_analysed (core_of p) m2) →
    f.class ≡ g.class → (start : Start) (legs : List Leg) (s : State) →
    run (core_of p) legs (begun (core_of p) m1 m2 start) ≡ Some s → (o : Object) (x : FieldId) (v : Value) →
    s.store.cells o x ≡ Some v → IsTrue (does_lead (core_of p) (roots_of f g) v)
stored-lead p m1 m2 f g is_f is_g an_f an_g same start legs s came o x v e =
    value-leads (core_of p) (roots_of f g) _ v
    ((run-state p m1 m2 f g is_f is_g an_f an_g same start legs s came).stored.cell o x v e)
