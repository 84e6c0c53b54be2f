-- No public contract rests on this: programs on which the check is tried. A small one:
--     class A { A next; static int count; Object any; A f(A a, int k) { .. } static int g(Object a) { .. }
--         static int fail() { throw .. } }
--     class B { }
-- and two that are the code of
--     @ThreadSafe public class Dinner { private int mTemperature; public void makeDinner() { boilWater(); }
--         private void boilWater() { mTemperature = 100; } }
--     class P { int g; } @ThreadSafe class Null { int c; void m() { P x = null; x.g = 1; this.c = 2; } }
use Rattle.std.specs.Prelude.{ℕ, Bool, true, false, List, [], ◌∷◌, Option, None, Some, codes, map, length}
use Rattle.racer_base.specs.declared.ids.FieldId.{FieldId}
use Rattle.racer_base.specs.declared.ids.VarId.{VarId}
use Rattle.racer_base.specs.declared.ids.Place.{Place}
use Rattle.racer_base.specs.declared.ids.Kind.TheVariants as types
use Rattle.core_code.specs.declared.code.Op.{Op as CoreOp}
use Rattle.core_code.specs.declared.code.Op.TheVariants as op
use Rattle.core_code.specs.declared.parts.FieldCore.{FieldCore}
use Rattle.core_code.specs.declared.parts.ClassCore.{ClassCore}
use Rattle.core_code.specs.Tree.{Tree, Loop, in_sequence}
use Rattle.core_code.specs.Core.{Core, Method}
use Rattle.core_code.specs.Pair.{at, step, returned, thrown}
use Rattle.core_code.specs.Kinded.{a, class_of, field_next, field_count, field_any, method_f, method_g}
use Rattle.typed_core.specs.declared.kinds.TypedKind.{TypedKind}
use Rattle.typed_core.specs.declared.kinds.TypedKind.TheVariants.{Object}
use Rattle.typed_core.specs.declared.states.KindState.{KindState}
use Rattle.typed_core.specs.declared.doubts.Doubt.{Doubt}
use Rattle.typed_core.specs.Check.{Checked, check}
use Rattle.typed_core.specs.Needs.{kinds_behind, op_doubts}

abbrev pub small : Core
small =
    record {
      files = codes "A.java" ∷ [];
      skipped = [];
      classes = class_of (codes "A") ∷ class_of (codes "B") ∷ [];
      fields = field_next ∷ field_count ∷ field_any ∷ [];
      methods =
          record method_f { code = returned }
          ∷ record method_g { parameters = types.Other ∷ []; variables = types.Other ∷ []; code = returned }
          ∷ record method_g { name = codes "fail"; parameters = []; variables = []; code = thrown } ∷ [];
    }

abbrev pub f : Method
f = record method_f { code = returned }

abbrev pub here : Place
here = at 1 1

-- these kinds on the stack, the top first, and no variables
abbrev pub on_stack : List TypedKind → KindState
on_stack stack = record { vars = []; stack = stack }

-- what may fail at an operation of f with each of these stacks
abbrev pub doubts_with : CoreOp → List (List TypedKind) → List (List Doubt)
doubts_with o stacks = map (λ stack. op_doubts small f here o (Some (on_stack stack))) stacks

-- how many places may fail
abbrev pub counts : CoreOp → List (List TypedKind) → List ℕ
counts o stacks = map (λ (doubts : List Doubt). length doubts) (doubts_with o stacks)

-- the stack behind an operation
abbrev pub behind : CoreOp → List TypedKind → Option KindState
behind o stack = kinds_behind small o (on_stack stack)

-- what is found of code of f that begins with these kinds or none
abbrev pub checked : Tree → Option KindState → Checked
checked code before = check small f code before

abbrev pub the_a : TypedKind
the_a = Object a

abbrev pub var : ℕ → VarId
var n = record { 0 = n }

abbrev pub field : ℕ → FieldId
field n = record { 0 = n }

-- x.next, and then x = null, any number of times
abbrev pub lost_in_a_loop : Tree
lost_in_a_loop =
    Loop (in_sequence
    (step 0 (at 1 1) (op.Push (var 0)) ∷ step 1 (at 1 2) (op.Get (field 0)) ∷ step 2 (at 1 3) op.Drop
    ∷ step 3 (at 1 4) op.PushNull ∷ step 4 (at 1 5) (op.Set (var 0)) ∷ step 5 (at 1 6) op.Drop ∷ []))

-- ---- the two folders

abbrev class_at : List ℕ → ℕ → Bool → ClassCore
class_at name column is_checked = record { name = name; place = at 1 column; checked = is_checked }

abbrev plain_field : ℕ → List ℕ → FieldCore
plain_field c name = record { class = record { 0 = c }; name = name; kind = types.Plain; is_static = false; recorded = true }

abbrev method_of_class : ℕ → List ℕ → Bool → List (Place × CoreOp) → Method
method_of_class c name is_entry steps =
    record {
      class = record { 0 = c };
      name = name;
      place = at 1 1;
      parameters = [];
      result = types.Plain;
      variables = types.Declared (record { 0 = c }) ∷ types.Declared (record { 0 = 0 }) ∷ [];
      is_static = false;
      entry = is_entry;
      main = false;
      status = None;
      code = in_sequence (map (λ (e : Place × CoreOp). step 0 e.0 e.1) steps);
    }

abbrev pub dinner : Core
dinner =
    record {
      files = codes "Dinner.java" ∷ [];
      skipped = [];
      classes = class_at (codes "Dinner") 1 true ∷ [];
      fields = plain_field 0 (codes "mTemperature") ∷ [];
      methods =
          method_of_class 0 (codes "makeDinner") true
          ((at 4 15, op.Push (var 0)) ∷ (at 5 5, op.Call (record { 0 = 1 }) 1) ∷ (at 4 15, op.Drop)
          ∷ (at 4 15, op.PushPrim) ∷ (at 4 15, op.Ret) ∷ [])
          ∷ method_of_class 0 (codes "boilWater") false
          ((at 7 16, op.Push (var 0)) ∷ (at 7 16, op.PushPrim) ∷ (at 8 5, op.Put (field 0)) ∷ (at 7 16, op.Drop)
          ∷ (at 7 16, op.PushPrim) ∷ (at 7 16, op.Ret) ∷ []) ∷ [];
    }

abbrev pub null_base : Core
null_base =
    record {
      files = codes "Null.java" ∷ [];
      skipped = [];
      classes = class_at (codes "P") 1 false ∷ class_at (codes "Null") 1 true ∷ [];
      fields = plain_field 0 (codes "g") ∷ plain_field 1 (codes "c") ∷ [];
      methods =
          method_of_class 1 (codes "m") true
          ((at 5 8, op.PushNull) ∷ (at 5 8, op.Set (var 1)) ∷ (at 5 8, op.Drop) ∷ (at 5 8, op.Push (var 1))
          ∷ (at 5 8, op.PushPrim) ∷ (at 5 28, op.Put (field 0)) ∷ (at 5 8, op.Drop) ∷ (at 5 8, op.Push (var 0))
          ∷ (at 5 8, op.PushPrim) ∷ (at 5 40, op.Put (field 1)) ∷ (at 5 8, op.Drop) ∷ (at 5 8, op.PushPrim)
          ∷ (at 5 8, op.Ret) ∷ []) ∷ [];
    }
