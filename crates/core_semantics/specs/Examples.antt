-- No public contract rests on this: small programs, lowered by hand, on which the definitions are tried.
use Rattle.std.specs.Prelude.{ℕ, Bool, true, false, List, [], ◌∷◌, Option, None, Some, codes, option_map}
use Rattle.std.specs.Option.{option_and_then}
use Rattle.racer_base.specs.declared.ids.ClassId.{ClassId}
use Rattle.racer_base.specs.declared.ids.FieldId.{FieldId}
use Rattle.racer_base.specs.declared.ids.MethodId.{MethodId}
use Rattle.racer_base.specs.declared.ids.VarId.{VarId}
use Rattle.racer_base.specs.declared.ids.Kind.{Kind}
use Rattle.racer_base.specs.declared.ids.Kind.TheVariants.{Plain, Declared, Other}
use Rattle.core_code.specs.declared.code.LockKind.TheVariants.{Explicit}
use Rattle.core_code.specs.declared.code.Op.{Op as CoreOp}
use Rattle.core_code.specs.declared.code.Op.TheVariants.{Push, PushPrim, PushNull, Drop, Get, Put, Set, Call, Ret}
use Rattle.core_code.specs.declared.code.Op.TheVariants.{Throw}
use Rattle.core_code.specs.declared.parts.FieldCore.{FieldCore}
use Rattle.core_code.specs.Tree.{Tree, Op, Skip, Choice, Loop, Sync, in_sequence}
use Rattle.core_code.specs.Core.{Core, Method}
use Rattle.core_code.specs.Pair.{at, own_sync}
use Rattle.core_semantics.specs.declared.answer.Turn.{Turn}
use Rattle.core_semantics.specs.declared.object.Object.TheVariants.{Start as StartOf, Fresh}
use Rattle.core_semantics.specs.declared.object.Start.{Start}
use Rattle.core_semantics.specs.declared.object.Start.TheVariants.{All}
use Rattle.core_semantics.specs.declared.object.StartRoot.TheVariants.{This}
use Rattle.core_semantics.specs.declared.object.Value.{Value}
use Rattle.core_semantics.specs.declared.object.Value.TheVariants.{Object as Ref}
use Rattle.core_semantics.specs.Objects.{root_path}
use Rattle.core_semantics.specs.State.{Frame, State}
use Rattle.core_semantics.specs.Steps.{Next, Goes, Spot, After, op_step}
use Rattle.core_semantics.specs.Legs.{Leg, Halt, Ran, Came, Halted, run, runs}
use Rattle.core_semantics.specs.Runs.{begun, races, innermost}

abbrev pub class : ℕ → ClassId
class n = record { 0 = n }

abbrev pub field : ℕ → FieldId
field n = record { 0 = n }

abbrev pub method : ℕ → MethodId
method n = record { 0 = n }

abbrev pub var : ℕ → VarId
var n = record { 0 = n }

abbrev pub this_path : List FieldId → Value
this_path fields = Ref (StartOf (record { root = This; fields = fields }))

abbrev pub this_value : Value
this_value = Ref (StartOf (root_path This))

abbrev pub fresh : ℕ → Value
fresh n = Ref (Fresh n)

-- an operation at the place of its method
abbrev op : CoreOp → Tree
op o = Op (record { 0 = 0 }) (at 1 1) o

-- one at a place of its own
abbrev op_at : ℕ → ℕ → CoreOp → Tree
op_at line column o = Op (record { 0 = 0 }) (at line column) o

abbrev field_of : ℕ → Kind → FieldCore
field_of c kind = record { class = class c; name = []; kind = kind; is_static = false; recorded = true }

abbrev method_of : List Kind → List Kind → List Tree → Method
method_of parameters locals code =
    record {
      class = class 0;
      name = [];
      place = at 1 1;
      parameters = parameters;
      result = Plain;
      variables = Declared (class 0) ∷ locals;
      is_static = false;
      entry = true;
      main = false;
      status = None;
      code = in_sequence code;
    }

abbrev program_of : List FieldCore → List Method → Core
program_of fields methods =
    record {
      files = codes "A.java" ∷ [];
      skipped = [];
      classes = record { name = codes "A"; place = at 1 1; checked = true } ∷ [];
      fields = fields;
      methods = methods;
    }

abbrev write_of : ℕ → ℕ → List Tree
write_of f column = op (Push (var 0)) ∷ op PushPrim ∷ op_at 1 column (Put (field f)) ∷ op Drop ∷ []

-- class A { int g; int c; void m() { A x = null; x.g = 1; this.c = 2; } }
abbrev pub null : Core
null =
    program_of (field_of 0 Plain ∷ field_of 0 Plain ∷ [])
    (method_of [] (Declared (class 0) ∷ [])
    (op PushNull ∷ op (Set (var 1)) ∷ op Drop ∷ op (Push (var 1)) ∷ op PushPrim ∷ op_at 5 28 (Put (field 0))
    ∷ op Drop ∷ op (Push (var 0)) ∷ op PushPrim ∷ op_at 5 40 (Put (field 1)) ∷ op Drop ∷ op PushPrim ∷ op Ret ∷ [])
    ∷ [])

-- class A {
--   int c;
--   int k;
--   void a() { synchronized (this) { this.k = 1; } this.c = 1; }
--   synchronized int b() { return this.c; }
-- }
abbrev pub gate : Core
gate =
    program_of (field_of 0 Plain ∷ field_of 0 Plain ∷ [])
    (method_of [] []
    (op (Push (var 0)) ∷ own_sync (at 1 51) (in_sequence (write_of 1 78)) ∷ in_sequence (write_of 0 92) ∷ op PushPrim
    ∷ op Ret ∷ [])
    ∷ method_of [] []
    (op (Push (var 0))
    ∷ own_sync (at 1 118) (in_sequence (op (Push (var 0)) ∷ op_at 1 136 (Get (field 0)) ∷ op Ret ∷ []))
    ∷ []) ∷ [])

-- class A {
--   int c;
--   boolean done;
--   int put() { synchronized (this) { if (done) return 0; done = true; } c = 1; return 1; }
-- }
abbrev pub early : Core
early =
    program_of (field_of 0 Plain ∷ field_of 0 Plain ∷ [])
    (method_of [] []
    (op (Push (var 0))
    ∷ own_sync (at 1 60)
    (in_sequence
    (op (Push (var 0)) ∷ op_at 1 86 (Get (field 1)) ∷ op Drop
    ∷ Choice (in_sequence (op PushPrim ∷ op Ret ∷ [])) Skip ∷ in_sequence (write_of 1 102) ∷ []))
    ∷ in_sequence (write_of 0 117) ∷ op PushPrim ∷ op Ret ∷ []) ∷ [])

-- class A {
--   A n;
--   A put(A p, Object o) { this.n = p; synchronized (o) { return p; } }
--   void go(A q, Object o) { while (t) { A r = put(q, o).n; } }
--   A get() { return this.n; }
-- }
abbrev pub calls : Core
calls =
    program_of (field_of 0 (Declared (class 0)) ∷ [])
    (method_of (Declared (class 0) ∷ Other ∷ []) (Declared (class 0) ∷ Other ∷ [])
    (op (Push (var 0)) ∷ op (Push (var 1)) ∷ op (Put (field 0)) ∷ op Drop ∷ op (Push (var 2))
    ∷ own_sync (at 1 1) (in_sequence (op (Push (var 1)) ∷ op Ret ∷ [])) ∷ [])
    ∷ method_of (Declared (class 0) ∷ Other ∷ []) (Declared (class 0) ∷ Other ∷ Declared (class 0) ∷ [])
    (Loop
    (in_sequence
    (op (Push (var 0)) ∷ op (Push (var 1)) ∷ op (Push (var 2)) ∷ op (Call (method 0) 3) ∷ op (Get (field 0))
    ∷ op (Set (var 3)) ∷ op Drop ∷ []))
    ∷ op PushPrim ∷ op Ret ∷ [])
    ∷ method_of [] [] (op (Push (var 0)) ∷ op (Get (field 0)) ∷ op Ret ∷ []) ∷ [])

-- two methods that lock `this`, each a monitor of another kind
abbrev pub two_kinds : Core
two_kinds =
    program_of []
    (method_of [] [] (op (Push (var 0)) ∷ own_sync (at 1 1) Skip ∷ op PushPrim ∷ op Ret ∷ [])
    ∷ method_of [] []
    (op (Push (var 0)) ∷ Sync (record { place = at 1 1; kind = Explicit }) Skip ∷ op PushPrim ∷ op Ret ∷ []) ∷ [])

-- class A { void m() { synchronized (this) { throw e; } } }
abbrev pub throws : Core
throws = program_of [] (method_of [] [] (op (Push (var 0)) ∷ own_sync (at 1 22) (op_at 1 44 Throw) ∷ []) ∷ [])

-- so many steps of a thread with these turns
abbrev pub leg : ℕ → List Turn → ℕ → Leg
leg t turns n = record { thread = t; turns = turns; steps = n }

-- the state after these legs, where they can be made
abbrev pub after_legs : Core → MethodId → MethodId → Start → List Leg → Option State
after_legs core m1 m2 start legs = run core legs (begun core m1 m2 start)

abbrev pub is_race : Core → MethodId → MethodId → List Leg → Option Bool
is_race core m1 m2 legs = option_map races (after_legs core m1 m2 All legs)

-- why a leg cannot be made after other legs, and at which of its steps
abbrev pub halt_of : Ran → Option (Halt × ℕ)
halt_of (Came to left) = None
halt_of (Halted halt s n) = Some (halt, n)

abbrev pub halt_after : Core → MethodId → MethodId → List Leg → Leg → Option (Halt × ℕ)
halt_after core m1 m2 legs last =
    option_and_then (λ s. halt_of (runs core last.thread last.steps last.turns s)) (after_legs core m1 m2 All legs)

-- the stack of the innermost frame of a thread
abbrev pub stack_of : ℕ → State → Option (List Value)
stack_of t s = option_map (λ (f : Frame). f.stack) (innermost s t)

abbrev pub vars_of : ℕ → State → Option (List Value)
vars_of t s = option_map (λ (f : Frame). f.vars) (innermost s t)

-- Single operations: on a stack of a plain value and three objects, of which the second is `this`.

abbrev pub with_stack : List Value → Spot
with_stack stack =
    record {
      store = record { heap = λ p. true; cells = λ o f. None; fresh = 5 };
      frame = record { vars = fresh 0 ∷ fresh 1 ∷ []; stack = stack; todo = []; locked = 0 };
      callers = [];
      locks = [];
    }

-- the innermost stack after a step, where the thread has not ended
abbrev pub stack_after : Next After → Option (List Value)
stack_after (Goes a) = elim a.thread.frames [ [] ↦ None | ◌∷◌ f fs ↦ Some f.stack ]
stack_after _ = None

abbrev pub after_op : Core → List Value → CoreOp → Option (List Value)
after_op core stack o = stack_after (op_step core (with_stack stack) o)
