-- The path of a record that begins at some object of a class has one field alone, of that class.
use Rattle.std.proofs.Common.{◌≡◌, ℕ, zero, suc, ◌+◌, Bool, true, false, not, ⊎_elim, List, ◌++◌, Option, None, Some}
use Rattle.std.proofs.Common.{length, refl, sym, ap, subst, ◌∙◌}
use Rattle.racer_base.specs.declared.ids.ClassId.{ClassId}
use Rattle.racer_base.specs.declared.ids.FieldId.{FieldId}
use Rattle.racer_base.specs.declared.ids.MethodId.{MethodId}
use Rattle.racer_base.specs.declared.ids.SiteId.{SiteId}
use Rattle.access_paths.specs.declared.path.Path.{Path}
use Rattle.access_paths.specs.declared.path.Root.{Root}
use Rattle.access_paths.specs.declared.path.Root.TheVariants.{Class, Some as SomeOf}
use Rattle.access_paths.specs.Paths.{alone, front_of, is_some_root, some_path}
use Rattle.owner_domain.specs.declared.value.State.{State}
use Rattle.owner_domain.specs.declared.value.Value.{Value}
use Rattle.owner_domain.specs.declared.value.Value.TheVariants.{Owned, Named, Unnamed}
use Rattle.owner_domain.specs.Values.{along, joined_state, lost_state}
use Rattle.access_domain.specs.declared.access.Access.{Access}
use Rattle.access_domain.specs.Findings.{Findings, Known, Large, Whole}
use Rattle.access_domain.specs.Flow.{flow, joined_next, joined_result, rounds}
use Rattle.access_domain.specs.FlowContext.{FlowContext, field_at, given_of}
use Rattle.access_domain.specs.Operations.{Effects, call_effects, op_effects, passed_from, popped, pushed, read_value}
use Rattle.access_domain.specs.Operations.{replaced, slot_of, top}
use Rattle.access_domain.specs.OutcomeRecords.{record_at}
use Rattle.access_domain.specs.Substitution.{Actuals, actuals_from, root_value, substituted, substituted_path, touched}
use Rattle.access_domain.specs.Summaries.{effects_given, known_of_callees, start_of}
use Rattle.access_domain.proofs.KnownMethods.{FoundAt, each_known, found_at}
use Rattle.access_domain.proofs.Members.{in_at}
use Rattle.access_domain.proofs.OperationRecords.{IsByCall, IsByOp, IsByTouch, op_record}
use Rattle.access_domain.proofs.ReachedStates.{ComesTo, Spot, last_round, record_spot}
use Rattle.access_domain.proofs.TouchedPaths.{IsPutIn, substituted_cases, touched_cases}
use Rattle.core_code.specs.declared.code.Op.{Op as CoreOp}
use Rattle.core_code.specs.declared.code.Op.TheVariants.{Push, PushClass, PushPrim, PushNull, New, Dup, Drop, Get, Put}
use Rattle.core_code.specs.declared.code.Op.TheVariants.{Set, Prim, Outside, Call, Unread, Ret, Throw}
use Rattle.core_code.specs.Calls.{method_at}
use Rattle.core_code.specs.Core.{Core, Method}
use Rattle.core_code.specs.Tree.{Tree, Op, Skip, Seq, Choice, Loop, Sync}
use Rattle.core_code.proofs.Membership.{In}
use Rattle.core_ways_laws.specs.Shapes.{HasOneBehindSome}
use Rattle.core_ways_laws.proofs.FlowFacts.{after_cases}
use Rattle.core_ways_laws.proofs.KnownValues.{AreKnownActuals, IsKnown, IsKnownState, known-actuals, known-along}
use Rattle.core_ways_laws.proofs.KnownValues.{known-drop, known-join, known-passed, known-read, known-result}
use Rattle.core_ways_laws.proofs.KnownValues.{known-root}
use Rattle.core_ways_laws.proofs.KnownValues.{known-set, known-slot, known-start, known-states}

record IsGood (class_of : FieldId → ClassId) (p : Path) : Type 0 where
  some : HasOneBehindSome class_of p

-- a value that has a name has a known one
abbrev IsKnownResult : Option Value → Type 0
IsKnownResult None = Unit {0}
IsKnownResult (Some v) = IsKnown v

abbrev IsKnownNext : Option State → Type 0
IsKnownNext None = Unit {0}
IsKnownNext (Some s) = IsKnownState s

-- what comes of effects names no object of which only the class is known
record IsKnownAfter (e : Effects) : Type 0 where
  next : IsKnownNext e.next
  result : IsKnownResult e.result

-- ---- states

known-pushed : (s : State) (v : Value) → IsKnown v → IsKnownState s → IsKnownState (pushed s v)
known-pushed s v one known = record { vars = known.vars; stack = (one, known.stack) }

known-popped : (s : State) (n : ℕ) → IsKnownState s → IsKnownState (popped s n)
known-popped s n known = record { vars = known.vars; stack = known-drop n s.stack known.stack }

known-replaced : (s : State) (n : ℕ) (v : Value) → IsKnown v → IsKnownState s → IsKnownState (replaced s n v)
known-replaced s n v one known = known-pushed (popped s n) v one (known-popped s n known)

known-given : (g : FlowContext) (s : State) (m : MethodId) (n : ℕ) → IsKnownState s →
    AreKnownActuals (actuals_from (g.is_static m) (passed_from s n))
known-given g s m n known = known-actuals (g.is_static m) (passed_from s n) (known-passed n s.stack known.stack)

module _ (g : FlowContext) where
  known-called : (locked : Bool) (site : SiteId) (m : MethodId) (n : ℕ) (s : State) (o : Option Known) →
      IsKnownState s → IsKnownAfter (call_effects g locked site m n s o)
  known-called locked site m n s None known =
      record { next = known-replaced s n Unnamed refl known; result = tt }
  known-called locked site m n s (Some Large) known =
      record { next = known-replaced s n Unnamed refl known; result = tt }
  known-called locked site m n s (Some (Whole found)) known =
      let actuals : Actuals = actuals_from (g.is_static m) (passed_from s n) in
      record {
        next =
            known-replaced s n (substituted g actuals found locked site).result
            (known-result actuals found.result (known-given g s m n known)) known;
        result = tt;
      }

  known-op : (locked : Bool) (site : SiteId) (op : CoreOp) (s : State) → IsKnownState s →
      IsKnownAfter (op_effects g locked site op s)
  known-op locked site (Push v) s known =
      record { next = known-pushed s _ (known-slot s.vars v.0 known.vars) known; result = tt }
  known-op locked site (PushClass c) s known =
      record { next = known-pushed s (Named (alone (Class c))) refl known; result = tt }
  known-op locked site PushPrim s known = record { next = known-pushed s Unnamed refl known; result = tt }
  known-op locked site PushNull s known = record { next = known-pushed s Owned refl known; result = tt }
  known-op locked site (New c) s known = record { next = known-pushed s Owned refl known; result = tt }
  known-op locked site Dup s known =
      record { next = known-pushed s (top s) (known-slot s.stack 0 known.stack) known; result = tt }
  known-op locked site Drop s known = record { next = known-popped s 1 known; result = tt }
  known-op locked site (Get f) s known =
      record {
        next =
            known-replaced s 1 (read_value g (top s) f) (known-read g (top s) f (known-slot s.stack 0 known.stack))
            known;
        result = tt;
      }
  known-op locked site (Put f) s known =
      record { next = known-replaced s 2 (top s) (known-slot s.stack 0 known.stack) known; result = tt }
  known-op locked site (Set v) s known =
      record {
        next = record {
          vars = known-set s.vars v.0 (top s) (known-slot s.stack 0 known.stack) known.vars;
          stack = known.stack;
        };
        result = tt;
      }
  known-op locked site (Prim n) s known = record { next = known-replaced s n Unnamed refl known; result = tt }
  known-op locked site (Outside n) s known = record { next = known-replaced s n Unnamed refl known; result = tt }
  known-op locked site (Call m n) s known = known-called locked site m n s (g.known_of m) known
  known-op locked site (Unread m n) s known = record { next = known-replaced s n Unnamed refl known; result = tt }
  known-op locked site Throw s known = record { next = tt; result = tt }
  known-op locked site Ret s known = record { next = tt; result = known-slot s.stack 0 known.stack }

  -- ---- code

  known-results : (a b : Option Value) → IsKnownResult a → IsKnownResult b → IsKnownResult (joined_result a b)
  known-results None b one other = other
  known-results (Some a) None one other = one
  known-results (Some a) (Some b) one other = known-join a b one

  known-nexts : (a b : Option State) → IsKnownNext a → IsKnownNext b → IsKnownNext (joined_next a b)
  known-nexts None b one other = other
  known-nexts (Some a) None one other = one
  known-nexts (Some a) (Some b) one other = known-states a b one

  known-rounds : (body : State → Effects) → ((s : State) → IsKnownState s → IsKnownAfter (body s)) → (n : ℕ)
      (s : State) → IsKnownState s → IsKnownState (rounds body n s).0
  known-rounds body keeps zero s known = known
  known-rounds body keeps (suc n) s known =
      elim (body s).next as (λ o. IsKnownState (elim o as (λ _. State × List Path) [
        | None ↦ rounds body n s
        | Some end ↦
            ((rounds body n (joined_state s end)).0, lost_state s end ++ (rounds body n (joined_state s end)).1)
      ]).0) [
        | None ↦ known-rounds body keeps n s known
        | Some end ↦ known-rounds body keeps n (joined_state s end) (known-states s end known)
      ]

  known-flow : (code : Tree) (locked : Bool) (s : State) → IsKnownState s → IsKnownAfter (flow g code locked s)
  known-flow (Op site place op) locked s known = known-op locked site op s known
  known-flow Skip locked s known = record { next = known; result = tt }
  known-flow (Seq first rest) locked s known =
      let one : IsKnownAfter (flow g first locked s) = known-flow first locked s known in
      after_cases (flow g first locked s) (flow g rest locked) IsKnownAfter (λ none. one)
      (λ t is.
      let other : IsKnownAfter (flow g rest locked t) =
      known-flow rest locked t (subst IsKnownNext is one.next) in
      record {
        next = other.next;
        result =
            known-results (flow g first locked s).result (flow g rest locked t).result one.result other.result;
      })
  known-flow (Choice left right) locked s known =
      let one : IsKnownAfter (flow g left locked s) = known-flow left locked s known in
      let other : IsKnownAfter (flow g right locked s) = known-flow right locked s known in
      record {
        next = known-nexts (flow g left locked s).next (flow g right locked s).next one.next other.next;
        result = known-results (flow g left locked s).result (flow g right locked s).result one.result other.result;
      }
  known-flow (Loop body) locked s known =
      let last : IsKnownState (last_round g body locked s) =
      known-rounds (flow g body locked) (λ t is. known-flow body locked t is)
      (length s.vars + length s.stack + 1) s known in
      record { next = last; result = (known-flow body locked (last_round g body locked s) last).result }
  known-flow (Sync lock body) locked s known = known-flow body true (popped s 1) (known-popped s 1 known)

  -- each state that a flow comes to
  known-spot : (code : Tree) (locked : Bool) (s : State) (x : Spot) → IsKnownState s → ComesTo g code locked s x →
      IsKnownState x.state
  known-spot (Op site place op) locked s x known comes = subst (λ (y : Spot). IsKnownState y.state) comes known
  known-spot Skip locked s x known comes = absurd comes
  known-spot (Seq first rest) locked s x known comes =
      ⊎_elim
      (λ l. known-spot first locked s x known l)
      (λ r.
      known-spot rest locked r.0 x (subst IsKnownNext r.1 (known-flow first locked s known).next) r.2)
      comes
  known-spot (Choice left right) locked s x known comes =
      ⊎_elim (λ l. known-spot left locked s x known l) (λ r. known-spot right locked s x known r) comes
  known-spot (Loop body) locked s x known comes =
      known-spot body locked (last_round g body locked s) x
      (known-rounds (flow g body locked) (λ t is. known-flow body locked t is)
      (length s.vars + length s.stack + 1) s known) comes
  known-spot (Sync lock body) locked s x known comes =
      known-spot body true (popped s 1) x (known-popped s 1 known) comes

  -- ---- one access

  one-good : (f : FieldId) (p : Path) → some_path (g.class_of f) f ≡ p → IsGood g.class_of p
  one-good f p same =
      subst (IsGood g.class_of) same (record {
        some = λ c root. let class : g.class_of f ≡ c = cc in record { field = f; is = refl; class = class };
      })

  not-good : (root : Root) (c : ClassId) → not (is_some_root root) ≡ true → root ≡ SomeOf c → ⊥
  not-good root c known is = let wrong : false ≡ true = sym (ap (λ (r : Root). not (is_some_root r)) is) ∙ known in cc

  touched-good : (v : Value) (f : FieldId) (p : Path) → IsKnown v → touched g v f ≡ Some p → IsGood g.class_of p
  touched-good v f p known e =
      ⊎_elim
      (λ some. one-good f p some)
      (λ of.
      let named : IsKnown (Named of.0) = subst IsKnown of.1 known in
      let root : of.0.root ≡ p.root = sym (ap (λ (x : Path). x.root) of.2.is) in
      record { some = λ c some. absurd (not-good of.0.root c named (root ∙ some)) })
      (touched_cases g v f p e)

  substituted-good : (actuals : Actuals) (p q : Path) → AreKnownActuals actuals → IsGood g.class_of p →
      substituted_path g actuals p ≡ Some q → IsGood g.class_of q
  substituted-good actuals p q known good e =
      ⊎_elim
      (λ kept. subst (IsGood g.class_of) kept.1 good)
      (λ (put : IsPutIn g actuals p q).
      touched-good (along (root_value actuals p.root) (front_of p.fields)) put.field q
      (known-along (front_of p.fields) (root_value actuals p.root) (known-root actuals p.root known)) put.path)
      (substituted_cases g actuals p q e)

  op-good : (locked : Bool) (site : SiteId) (op : CoreOp) (s : State) (a : Access) → IsKnownState s →
      ((m : MethodId) (found : Findings) → g.known_of m ≡ Some (Whole found) → (x : Access) → In found.records x →
      IsGood g.class_of x.path) → IsByOp g locked site op s a → IsGood g.class_of a.path
  op-good locked site op s a known callees by =
      ⊎_elim
      (λ (of : IsByTouch g locked site op s a).
      touched-good (slot_of s of.slot) of.field a.path (known-slot s.stack of.slot known.stack) of.made.path)
      (λ (of : IsByCall g locked site op s a).
      substituted-good (actuals_from (g.is_static of.callee) (passed_from s of.count)) of.made.inner.path a.path
      (known-given g s of.callee of.count known)
      (callees of.callee of.found of.known of.made.inner
      (in_at of.found.records of.made.index of.made.inner of.made.has))
      of.made.path)
      by

-- ---- methods

abbrev class_in : Core → FieldId → ClassId
class_in core f = (field_at core f).class

-- a record's path is so where those of callees are
good-origin : (core : Core) (m : MethodId) (method : Method) (a : Access) → method_at core m ≡ Some method →
    ((callee : MethodId) (found : Findings) → known_of_callees core m callee ≡ Some (Whole found) → (x : Access) →
    In found.records x → IsGood (class_in core) x.path) →
    In (effects_given core (known_of_callees core m) method).records a → IsGood (class_in core) a.path
good-origin core m method a there callees h =
    let g : FlowContext = given_of core (known_of_callees core m) method.main in
    let spot = record_spot g method.code false (start_of method) a h in
    let x : Spot = spot.0 in
    op-good g x.held x.operation.site x.operation.op x.state a
    (known-spot g method.code false (start_of method) x (known-start method) spot.1) callees
    (op_record g x.held x.operation.site x.operation.op x.state a spot.2)

-- each record of a method
pub one-behind-some : (core : Core) (m : MethodId) (i : ℕ) (a : Access) → record_at core m i ≡ Some a →
    HasOneBehindSome (class_in core) a.path
one-behind-some core m i a at =
    let f : FoundAt core m i a = found_at core m i a at in
    (each_known core (λ (x : Access). IsGood (class_in core) x.path) (good-origin core) m f.found a f.known
    (in_at f.found.records i a f.has)).some
