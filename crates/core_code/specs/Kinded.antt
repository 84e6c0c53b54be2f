-- No public contract rests on this: two small classes on which the kind check is tried:
--     class A { A next; static int count; Object any; A f(A a, int k) { .. } static int g(A a) { .. } }
--     class B { }
use Rattle.std.specs.Prelude.{ℕ, true, false, List, [], ◌∷◌, None, Some, codes, map}
use Rattle.racer_base.specs.declared.ids.ClassId.{ClassId}
use Rattle.racer_base.specs.declared.ids.FieldId.{FieldId}
use Rattle.racer_base.specs.declared.ids.MethodId.{MethodId}
use Rattle.racer_base.specs.declared.ids.VarId.{VarId}
use Rattle.racer_base.specs.declared.ids.Kind.{Kind}
use Rattle.racer_base.specs.declared.ids.Kind.TheVariants as types
use Rattle.core_code.specs.declared.code.Op.{Op as CoreOp}
use Rattle.core_code.specs.declared.code.Reason.TheVariants.{Overload}
use Rattle.core_code.specs.declared.parts.ClassCore.{ClassCore}
use Rattle.core_code.specs.declared.parts.FieldCore.{FieldCore}
use Rattle.core_code.specs.Tree.{Tree, Skip}
use Rattle.core_code.specs.Core.{Core, Method}
use Rattle.core_code.specs.Pair.{at}
use Rattle.core_code.specs.Kinds.{StackKind, Declared, Class}
use Rattle.core_code.specs.KindCheck.{Kinds, kinds_after_op, kinds_after}

abbrev pub a : ClassId
a = record { 0 = 0 }

abbrev pub b : ClassId
b = record { 0 = 1 }

abbrev pub an_a : StackKind
an_a = Declared a

abbrev pub a_b : StackKind
a_b = Declared b

abbrev pub the_a : StackKind
the_a = Class a

abbrev pub the_b : StackKind
the_b = Class b

abbrev pub class_of : List ℕ → ClassCore
class_of name = record { name = name; place = at 1 7; checked = true }

abbrev pub field_next : FieldCore
field_next = record { class = a; name = codes "next"; kind = types.Declared a; is_static = false; recorded = true }

abbrev pub field_count : FieldCore
field_count = record { class = a; name = codes "count"; kind = types.Plain; is_static = true; recorded = true }

abbrev pub field_any : FieldCore
field_any = record { class = a; name = codes "any"; kind = types.Other; is_static = false; recorded = true }

-- variables: `this`, a, k, and one of another kind
abbrev pub method_f : Method
method_f =
    record {
      class = a;
      name = codes "f";
      place = at 1 1;
      parameters = types.Declared a ∷ types.Plain ∷ [];
      result = types.Declared a;
      variables = types.Declared a ∷ types.Declared a ∷ types.Plain ∷ types.Other ∷ [];
      is_static = false;
      entry = false;
      main = false;
      status = None;
      code = Skip;
    }

abbrev pub method_g : Method
method_g =
    record method_f {
      name = codes "g";
      parameters = types.Declared a ∷ [];
      result = types.Plain;
      variables = types.Declared a ∷ [];
      is_static = true;
    }

-- the first method once more, which is not analysed
abbrev pub method_again : Method
method_again = record method_f { status = Some Overload }

abbrev pub kinded : Core
kinded =
    record {
      files = codes "A.java" ∷ [];
      skipped = [];
      classes = class_of (codes "A") ∷ class_of (codes "B") ∷ [];
      fields = field_next ∷ field_count ∷ field_any ∷ [];
      methods = method_f ∷ method_g ∷ method_again ∷ [];
    }

-- the kinds after one operation of f, and after code of it, from each of these stacks
abbrev pub after_each : CoreOp → List (List StackKind) → List Kinds
after_each op stacks = map (kinds_after_op kinded method_f op) stacks

abbrev pub after_code : Tree → List StackKind → Kinds
after_code code stack = kinds_after kinded method_f code stack

-- the variables, fields and methods by their numbers, and numbers that there are not
abbrev pub variables : List VarId
variables = record { 0 = 0 } ∷ record { 0 = 1 } ∷ record { 0 = 2 } ∷ record { 0 = 3 } ∷ record { 0 = 4 } ∷ []

abbrev pub this : VarId
this = record { 0 = 0 }

abbrev pub other : VarId
other = record { 0 = 1 }

abbrev pub next : FieldId
next = record { 0 = 0 }

abbrev pub count : FieldId
count = record { 0 = 1 }

abbrev pub any : FieldId
any = record { 0 = 2 }

abbrev pub no_field : FieldId
no_field = record { 0 = 3 }

abbrev pub f : MethodId
f = record { 0 = 0 }

abbrev pub g : MethodId
g = record { 0 = 1 }

abbrev pub no_method : MethodId
no_method = record { 0 = 3 }

-- the same classes, with these variables of f
abbrev pub with_variables : List Kind → Core
with_variables kinds = record kinded { methods = record method_f { variables = kinds } ∷ [] }
