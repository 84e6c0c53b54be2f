-- A contract of a public call rests on this: what a flow needs of the program, and of the methods that are called.
use Rattle.std.specs.Prelude.{Bool, true, false, [], None, Some, slice_index_or}
use Rattle.racer_base.specs.declared.ids.ClassId.{ClassId}
use Rattle.racer_base.specs.declared.ids.FieldId.{FieldId}
use Rattle.racer_base.specs.declared.ids.MethodId.{MethodId}
use Rattle.racer_base.specs.declared.ids.Kind.{Kind}
use Rattle.racer_base.specs.declared.ids.Kind.TheVariants.{Plain, Declared, Other}
use Rattle.core_code.specs.declared.parts.FieldCore.{FieldCore}
use Rattle.core_code.specs.Core.{Core}
use Rattle.core_code.specs.Calls.{method_at}
use Rattle.access_domain.specs.Findings.{Table}

abbrev pub is_plain : Kind → Bool
is_plain Plain = true
is_plain (Declared c) = false
is_plain Other = false

-- the fields and the methods of the program, what is known of the methods, and whether the code runs on the main
-- thread
pub record FlowContext : Type 0 where
  pub class_of : FieldId → ClassId
  pub is_recorded : FieldId → Bool
  pub is_plain_field : FieldId → Bool
  pub is_static : MethodId → Bool
  pub known_of : Table
  pub main : Bool

-- stands where a number names no field
abbrev no_field : FieldCore
no_field = record { class = record { 0 = 0 }; name = []; kind = Other; is_static = false; recorded = false }

abbrev pub field_at : Core → FieldId → FieldCore
field_at core f = slice_index_or core.fields f.0 no_field

abbrev pub is_static_method : Core → MethodId → Bool
is_static_method core m = elim (method_at core m) [ None ↦ true | Some method ↦ method.is_static ]

-- what the flow of a method on the main thread, or not, is given of a program and of the methods that it calls
abbrev pub given_of : Core → Table → Bool → FlowContext
given_of core table main =
    record {
      class_of = λ f. (field_at core f).class;
      is_recorded = λ f. (field_at core f).recorded;
      is_plain_field = λ f. is_plain (field_at core f).kind;
      is_static = is_static_method core;
      known_of = table;
      main = main;
    }
