-- A contract of a public call rests on this: what holds of every program.
use Rattle.std.specs.Prelude.{ℕ, suc, ◌+◌, ◌-◌, Bool, true, false, ◌&&◌, ◌||◌, not, List, [], ◌∷◌, Option, None, Some}
use Rattle.std.specs.Prelude.{length, map, is_some, is_none, nat_eq, nat_lt, nat_le, if◌then◌else◌, slice_get}
use Rattle.std.specs.List.{list_all}
use Rattle.racer_base.specs.declared.ids.ClassId.{ClassId}
use Rattle.racer_base.specs.declared.ids.FieldId.{FieldId}
use Rattle.racer_base.specs.declared.ids.MethodId.{MethodId}
use Rattle.racer_base.specs.declared.ids.SiteId.{SiteId}
use Rattle.racer_base.specs.declared.ids.Kind.{Kind}
use Rattle.racer_base.specs.declared.ids.Kind.TheVariants.{Plain, Declared, Other}
use Rattle.racer_base.specs.declared.ids.Place.{Place}
use Rattle.racer_base.specs.declared.limits.TheConstants.{MAX_PARAMETERS}
use Rattle.core_code.specs.declared.code.Op.{Op as CoreOp}
use Rattle.core_code.specs.declared.code.Op.TheVariants.{Push, PushClass, PushPrim, PushNull, New, Dup, Drop, Get, Put}
use Rattle.core_code.specs.declared.code.Op.TheVariants.{Set, Prim, Outside, Call, Unread, Ret, Throw}
use Rattle.core_code.specs.declared.parts.ClassCore.{ClassCore}
use Rattle.core_code.specs.declared.parts.FieldCore.{FieldCore}
use Rattle.core_code.specs.Tree.{Tree, Op, Skip, Seq, Choice, Loop, Sync, Operation, steps_of, locks_of}
use Rattle.core_code.specs.Core.{Core, Method}

-- All numbers are in range: each names a file, class, field, method or variable that there is.

abbrev pub is_place : Core → Place → Bool
is_place core place = nat_lt place.file.0 (length core.files)

abbrev pub is_class : Core → ClassId → Bool
is_class core c = nat_lt c.0 (length core.classes)

abbrev pub is_field : Core → FieldId → Bool
is_field core f = nat_lt f.0 (length core.fields)

abbrev pub is_method : Core → MethodId → Bool
is_method core m = nat_lt m.0 (length core.methods)

abbrev pub is_kind : Core → Kind → Bool
is_kind core Plain = true
is_kind core (Declared c) = is_class core c
is_kind core Other = true

-- an operation of a method with so many variables
abbrev pub is_op : Core → ℕ → CoreOp → Bool
is_op core variables (Push v) = nat_lt v.0 variables
is_op core variables (Set v) = nat_lt v.0 variables
is_op core variables (PushClass c) = is_class core c
is_op core variables (New c) = is_class core c
is_op core variables (Get f) = is_field core f
is_op core variables (Put f) = is_field core f
is_op core variables (Call m n) = is_method core m
is_op core variables (Unread m n) = is_method core m
is_op core variables PushPrim = true
is_op core variables PushNull = true
is_op core variables Dup = true
is_op core variables Drop = true
is_op core variables (Prim n) = true
is_op core variables (Outside n) = true
is_op core variables Ret = true
is_op core variables Throw = true

abbrev pub is_operation : Core → ℕ → Operation → Bool
is_operation core variables o = is_place core o.place && is_op core variables o.op

-- code of a method with so many variables
abbrev pub is_code : Core → ℕ → Tree → Bool
is_code core variables code =
    list_all (is_operation core variables) (steps_of code) && list_all (is_place core) (locks_of code)

abbrev pub is_class_in_range : Core → ClassCore → Bool
is_class_in_range core c = is_place core c.place

abbrev pub is_field_in_range : Core → FieldCore → Bool
is_field_in_range core f = is_class core f.class && is_kind core f.kind

abbrev pub is_method_in_range : Core → Method → Bool
is_method_in_range core m =
    is_class core m.class && is_place core m.place && list_all (is_kind core) m.parameters && is_kind core m.result
    && list_all (is_kind core) m.variables && is_code core (length m.variables) m.code

abbrev pub are_numbers_in_range : Core → Bool
are_numbers_in_range core =
    list_all (is_place core) core.skipped && list_all (is_class_in_range core) core.classes
    && list_all (is_field_in_range core) core.fields && list_all (is_method_in_range core) core.methods

-- The sites of a method's operations are 0, 1 and so on in reading order.

-- the sites of the operations in reading order
abbrev pub sites_of : Tree → List SiteId
sites_of code = map (λ (o : Operation). o.site) (steps_of code)

-- whether the numbers go up by one from this one on
abbrev pub counts_from : ℕ → List SiteId → Bool
counts_from n [] = true
counts_from n (site ∷ sites) = nat_eq site.0 n && counts_from (suc n) sites

abbrev pub is_in_order : Method → Bool
is_in_order m = counts_from 0 (sites_of m.code)

abbrev pub are_sites_in_order : Core → Bool
are_sites_in_order core = list_all is_in_order core.methods

-- Only analysed methods of checked classes are entries.

abbrev pub is_checked : Core → ClassId → Bool
is_checked core c = elim (slice_get core.classes c.0) [ None ↦ false | Some class ↦ class.checked ]

abbrev pub may_be_entry : Core → Method → Bool
may_be_entry core m = not m.entry || (is_none m.status && is_checked core m.class)

abbrev pub are_entries_analysed : Core → Bool
are_entries_analysed core = list_all (may_be_entry core) core.methods

-- No operation pops an empty stack.

-- how many values an operation pops, and how many it pushes then
abbrev pub pops : CoreOp → ℕ
pops (Push v) = 0
pops (PushClass c) = 0
pops PushPrim = 0
pops PushNull = 0
pops (New c) = 0
pops Dup = 1
pops Drop = 1
pops (Get f) = 1
pops (Put f) = 2
pops (Set v) = 1
pops (Prim n) = n
pops (Outside n) = n
pops (Call m n) = n
pops (Unread m n) = n
pops Ret = 1
pops Throw = 0

abbrev pub pushes : CoreOp → ℕ
pushes Dup = 2
pushes Drop = 0
pushes Ret = 0
pushes Throw = 0
pushes _ = 1

-- the common height of two ends; none where they differ
abbrev pub same_height : Option ℕ → Option ℕ → Option ℕ
same_height None _ = None
same_height (Some h) None = None
same_height (Some h) (Some k) = if nat_eq h k then Some h else None

-- The height of the stack after code that begins at this height; none where an operation would pop an empty
-- stack, where the two sides of a choice end at different heights, or where a turn of a loop would change the
-- height. After a return the height below the returned value goes on, after a throw the height as it was.
abbrev pub height_after : Tree → ℕ → Option ℕ
height_after (Op site place op) h = if nat_le (pops op) h then Some (h - pops op + pushes op) else None
height_after Skip h = Some h
height_after (Seq first rest) h = elim (height_after first h) [ None ↦ None | Some k ↦ height_after rest k ]
height_after (Choice left right) h = same_height (height_after left h) (height_after right h)
height_after (Loop body) h = same_height (Some h) (height_after body h)
height_after (Sync lock body) h = if nat_le 1 h then height_after body (h - 1) else None

abbrev pub is_stack_enough : Method → Bool
is_stack_enough m = is_some (height_after m.code 0)

abbrev pub are_stacks_enough : Core → Bool
are_stacks_enough core = list_all is_stack_enough core.methods

-- An analysed method has few parameters. Entries are told by their names and, in decimal digits, by how many parameters
-- they have, and two numbers below 2^64 differ where their digits do.

abbrev pub has_few_parameters : Method → Bool
has_few_parameters m = is_some m.status || nat_le (length m.parameters) MAX_PARAMETERS

abbrev pub are_parameters_few : Core → Bool
are_parameters_few core = list_all has_few_parameters core.methods
