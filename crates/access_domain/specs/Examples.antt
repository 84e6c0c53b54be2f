-- No public contract rests on this: small programs, lowered by hand, on which the definitions are tried.
use Rattle.std.specs.Prelude.{ℕ, ◌+◌, Bool, true, false, List, [], ◌∷◌, ◌++◌, None, Some}
use Rattle.racer_base.specs.declared.ids.ClassId.{ClassId}
use Rattle.racer_base.specs.declared.ids.FieldId.{FieldId}
use Rattle.racer_base.specs.declared.ids.MethodId.{MethodId}
use Rattle.racer_base.specs.declared.ids.VarId.{VarId}
use Rattle.racer_base.specs.declared.ids.Kind.{Kind}
use Rattle.racer_base.specs.declared.ids.Kind.TheVariants.{Plain, Declared}
use Rattle.racer_base.specs.declared.ids.Touch.{Touch}
use Rattle.core_code.specs.declared.code.Op.{Op as CoreOp}
use Rattle.core_code.specs.declared.code.Op.TheVariants.{Push, PushPrim, New, Drop, Get, Put, Set, Outside, Call, Ret}
use Rattle.core_code.specs.declared.code.Op.TheVariants.{Throw}
use Rattle.core_code.specs.declared.parts.ClassCore.{ClassCore}
use Rattle.core_code.specs.declared.parts.FieldCore.{FieldCore}
use Rattle.core_code.specs.Tree.{Tree, Op, Skip, Choice, in_sequence}
use Rattle.core_code.specs.Core.{Core, Method}
use Rattle.core_code.specs.Pair.{at}
use Rattle.access_paths.specs.declared.path.Root.TheVariants.{This, Formal}
use Rattle.access_paths.specs.declared.path.Path.{Path}
use Rattle.access_domain.specs.declared.access.Access.{Access}

-- the path of these fields from `this` on
abbrev pub this_path : List FieldId → Path
this_path fields = record { root = This; fields = fields }

abbrev pub field : ℕ → FieldId
field n = record { 0 = n }

abbrev pub method : ℕ → MethodId
method n = record { 0 = n }

abbrev pub class : ℕ → ClassId
class n = record { 0 = n }

abbrev pub var : ℕ → VarId
var n = record { 0 = n }

-- an access that a method makes itself
abbrev pub access : Touch → Path → Bool → ℕ → Access
access kind path locked site =
    record { path = path; kind = kind; locked = locked; main = false; site = record { 0 = site }; below = None }

-- an access that the record of this index of a callee makes, at a call
abbrev pub access_below : Touch → Path → ℕ → ℕ → Access
access_below kind path site index =
    record { path = path; kind = kind; locked = false; main = false; site = record { 0 = site }; below = Some index }

abbrev step : ℕ → CoreOp → Tree
step site op = Op (record { 0 = site }) (at 1 1) op

abbrev field_of : ℕ → Kind → FieldCore
field_of c kind = record { class = class c; name = []; kind = kind; is_static = false; recorded = true }

abbrev method_of : ℕ → List Kind → Tree → Method
method_of c parameters code =
    record {
      class = class c;
      name = [];
      place = at 1 1;
      parameters = parameters;
      result = Plain;
      variables = Declared (class c) ∷ parameters;
      is_static = false;
      entry = false;
      main = false;
      status = None;
      code = code;
    }

abbrev class_of : Bool → ClassCore
class_of checked = record { name = []; place = at 1 1; checked = checked }

--     class P { P f; int v; }
--     @ThreadSafe class Mix {
--       P a; P b; boolean t;
--       private void pick(P p, P q) { if (t) p = q; p.f = q; }
--       public void run() { pick(this.a, this.b); this.a.f.v = 1; }
--     }
-- The fields f, v, a, b and t are 0 to 4; pick is method 0, and run is 1.
abbrev pick_code : Tree
pick_code =
    in_sequence
    (step 0 (Push (var 0)) ∷ step 1 (Get (field 4)) ∷ step 2 Drop
    ∷ Choice (in_sequence (step 3 (Push (var 2)) ∷ step 4 (Set (var 1)) ∷ step 5 Drop ∷ [])) Skip
    ∷ step 6 (Push (var 1)) ∷ step 7 (Push (var 2)) ∷ step 8 (Put (field 0)) ∷ step 9 Drop
    ∷ step 10 PushPrim ∷ step 11 Ret ∷ [])

abbrev run_code : Tree
run_code =
    in_sequence
    (step 0 (Push (var 0)) ∷ step 1 (Push (var 0)) ∷ step 2 (Get (field 2))
    ∷ step 3 (Push (var 0)) ∷ step 4 (Get (field 3))
    ∷ step 5 (Call (method 0) 3) ∷ step 6 Drop
    ∷ step 7 (Push (var 0)) ∷ step 8 (Get (field 2)) ∷ step 9 (Get (field 0))
    ∷ step 10 PushPrim ∷ step 11 (Put (field 1)) ∷ step 12 Drop
    ∷ step 13 PushPrim ∷ step 14 Ret ∷ [])

abbrev pub mix : Core
mix =
    record {
      files = [] ∷ [];
      skipped = [];
      classes = class_of false ∷ class_of true ∷ [];
      fields =
          field_of 0 (Declared (class 0)) ∷ field_of 0 Plain
          ∷ field_of 1 (Declared (class 0)) ∷ field_of 1 (Declared (class 0)) ∷ field_of 1 Plain ∷ [];
      methods = method_of 1 (Declared (class 0) ∷ Declared (class 0) ∷ []) pick_code ∷ method_of 1 [] run_code ∷ [];
    }

--     class P { int v; }
--     @ThreadSafe class Join {
--       P a; boolean c;
--       private void f(P p, P q) { P r = c ? p : q; r.v = 1; }
--       void go() { f(this.a, this.a); }
--     }
-- The fields v, a and c are 0 to 2; f is method 0, and go is 1.
abbrev f_code : Tree
f_code =
    in_sequence
    (step 0 (Push (var 0)) ∷ step 1 (Get (field 2)) ∷ step 2 Drop
    ∷ Choice (step 3 (Push (var 1))) (step 4 (Push (var 2)))
    ∷ step 5 (Set (var 3)) ∷ step 6 Drop
    ∷ step 7 (Push (var 3)) ∷ step 8 PushPrim ∷ step 9 (Put (field 0)) ∷ step 10 Drop
    ∷ step 11 PushPrim ∷ step 12 Ret ∷ [])

abbrev go_code : Tree
go_code =
    in_sequence
    (step 0 (Push (var 0)) ∷ step 1 (Push (var 0)) ∷ step 2 (Get (field 1))
    ∷ step 3 (Push (var 0)) ∷ step 4 (Get (field 1))
    ∷ step 5 (Call (method 0) 3) ∷ step 6 Drop ∷ step 7 PushPrim ∷ step 8 Ret ∷ [])

abbrev with_local : Method → Method
with_local m =
    record m { variables = Declared (class 1) ∷ Declared (class 0) ∷ Declared (class 0) ∷ Declared (class 0) ∷ [] }

abbrev pub join : Core
join =
    record {
      files = [] ∷ [];
      skipped = [];
      classes = class_of false ∷ class_of true ∷ [];
      fields = field_of 0 Plain ∷ field_of 1 (Declared (class 0)) ∷ field_of 1 Plain ∷ [];
      methods =
          with_local (method_of 1 (Declared (class 0) ∷ Declared (class 0) ∷ []) f_code)
          ∷ method_of 1 [] go_code ∷ [];
    }

-- the path of these fields from the first parameter on
abbrev pub formal_path : List FieldId → Path
formal_path fields = record { root = Formal 0; fields = fields }

--     class P { int v; }
--     @ThreadSafe class Static {
--       P a;
--       static void set(P p) { p.v = 1; }
--       void go() { set(this.a); set(new P()); set(Unseen.make()); }
--     }
-- The fields v and a are 0 and 1; set is method 0, and go is 1. The class Unseen is not there.
abbrev set_code : Tree
set_code =
    in_sequence
    (step 0 (Push (var 0)) ∷ step 1 PushPrim ∷ step 2 (Put (field 0)) ∷ step 3 Drop ∷ step 4 PushPrim ∷ step 5 Ret ∷
    [])

abbrev three_calls : Tree
three_calls =
    in_sequence
    (step 0 (Push (var 0)) ∷ step 1 (Get (field 1)) ∷ step 2 (Call (method 0) 1) ∷ step 3 Drop
    ∷ step 4 (New (class 0)) ∷ step 5 (Call (method 0) 1) ∷ step 6 Drop
    ∷ step 7 (Outside 0) ∷ step 8 (Call (method 0) 1) ∷ step 9 Drop ∷ step 10 PushPrim ∷ step 11 Ret ∷ [])

abbrev set_method : Method
set_method =
    record (method_of 1 (Declared (class 0) ∷ []) set_code) { is_static = true; variables = Declared (class 0) ∷ [] }

abbrev pub statics : Core
statics =
    record {
      files = [] ∷ [];
      skipped = [];
      classes = class_of false ∷ class_of true ∷ [];
      fields = field_of 0 Plain ∷ field_of 1 (Declared (class 0)) ∷ [];
      methods = set_method ∷ method_of 1 [] three_calls ∷ [];
    }

--     @ThreadSafe class Throws {
--       int a; int b;
--       void stopped() { a = 1; throw e; b = 2; }
--       Throws past() { if (t) { throw e; b = 2; } a = 1; return this; }
--     }
-- The fields a and b are 0 and 1; stopped is method 0, and past is 1. No source has a statement behind a throw.
abbrev write_from : ℕ → ℕ → List Tree
write_from site f =
    step site (Push (var 0)) ∷ step (site + 1) PushPrim ∷ step (site + 2) (Put (field f)) ∷ step (site + 3) Drop ∷ []

abbrev stopped_code : Tree
stopped_code =
    in_sequence (write_from 0 0 ++ step 4 Throw ∷ write_from 5 1 ++ step 9 (Push (var 0)) ∷ step 10 Ret ∷ [])

abbrev past_code : Tree
past_code =
    in_sequence
    (Choice (in_sequence (step 0 Throw ∷ write_from 1 1)) Skip ∷ write_from 5 0 ++ step 9 (Push (var 0)) ∷ step 10 Ret
    ∷ [])

abbrev pub throws : Core
throws =
    record {
      files = [] ∷ [];
      skipped = [];
      classes = class_of true ∷ [];
      fields = field_of 0 Plain ∷ field_of 0 Plain ∷ [];
      methods = method_of 0 [] stopped_code ∷ method_of 0 [] past_code ∷ [];
    }
