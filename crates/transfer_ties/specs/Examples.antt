-- A contract of a public call rests on this: `tied_rows` and `worked_rows`. Two small programs.
use Rattle.std.specs.Prelude.{ℕ, Bool, true, false, List, [], ◌∷◌, None, codes}
use Rattle.racer_base.specs.declared.ids.ClassId.{ClassId}
use Rattle.racer_base.specs.declared.ids.FieldId.{FieldId}
use Rattle.racer_base.specs.declared.ids.MethodId.{MethodId}
use Rattle.racer_base.specs.declared.ids.Place.{Place}
use Rattle.racer_base.specs.declared.ids.Kind.TheVariants.{Plain, Declared, Other}
use Rattle.core_code.specs.declared.code.Op.{Op as CoreOp}
use Rattle.core_code.specs.declared.code.Op.TheVariants.{Push, PushNull, Get, Call, Ret}
use Rattle.core_code.specs.declared.parts.ClassCore.{ClassCore}
use Rattle.core_code.specs.declared.parts.FieldCore.{FieldCore}
use Rattle.core_code.specs.Core.{Core, Method}
use Rattle.core_code.specs.Tree.{Tree, Op, in_sequence}

abbrev pub class : ℕ → ClassId
class n = record { 0 = n }

abbrev pub field : ℕ → FieldId
field n = record { 0 = n }

abbrev pub method : ℕ → MethodId
method n = record { 0 = n }

abbrev at_line : ℕ → Place
at_line line = record { file = record { 0 = 0 }; line = line; column = 1 }

abbrev class_named : List ℕ → ClassCore
class_named name = record { name = name; place = at_line 1; checked = true }

abbrev field_named : ℕ → List ℕ → Bool → FieldCore
field_named c name recorded =
    record { class = class c; name = name; kind = Plain; is_static = false; recorded = recorded }

abbrev step : ℕ → ℕ → CoreOp → Tree
step site line op = Op (record { 0 = site }) (at_line line) op

abbrev this : CoreOp
this = Push (record { 0 = 0 })

-- reads the field of this number, on this line
abbrev pub reads : ℕ → ℕ → Tree
reads f line = in_sequence (step 0 line this ∷ step 1 line (Get (field f)) ∷ step 2 line Ret ∷ [])

-- calls the method of this number
abbrev calls : ℕ → ℕ → Tree
calls m line = in_sequence (step 0 line this ∷ step 1 line (Call (method m) 1) ∷ step 2 line Ret ∷ [])

abbrev returns : ℕ → Tree
returns line = in_sequence (step 0 line PushNull ∷ step 1 line Ret ∷ [])

abbrev method_with : ℕ → List ℕ → Tree → Method
method_with c name code =
    record {
      class = class c;
      name = name;
      place = at_line 2;
      parameters = [];
      result = Other;
      variables = Declared (class c) ∷ [];
      is_static = false;
      entry = true;
      main = false;
      status = None;
      code = code;
    }

abbrev methods_of : ℕ → List Method
methods_of c = method_with c (codes "read") (reads 1 5) ∷ method_with c (codes "call") (calls 0 6)
    ∷ method_with c (codes "rest") (returns 7) ∷ []

-- class A with fields x and y
abbrev pub old : Core
old =
    record {
      files = codes "A.java" ∷ [];
      skipped = [];
      classes = class_named (codes "A") ∷ [];
      fields = field_named 0 (codes "x") true ∷ field_named 0 (codes "y") true ∷ [];
      methods = methods_of 0;
    }

-- the same behind class B, with y final
abbrev pub new : Core
new =
    record {
      files = codes "A.java" ∷ [];
      skipped = [];
      classes = class_named (codes "B") ∷ class_named (codes "A") ∷ [];
      fields = field_named 1 (codes "x") true ∷ field_named 1 (codes "y") false ∷ [];
      methods = methods_of 1;
    }
