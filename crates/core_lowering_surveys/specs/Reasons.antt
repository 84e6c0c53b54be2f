-- A contract of a public call rests on this: why methods are not analysed, apart from recursion.
use Rattle.std.specs.Prelude.{ℕ, suc, Bool, List, [], ◌∷◌, Option, length, nat_lt}
use Rattle.std.specs.Option.{option_or}
use Rattle.container_cells.specs.declared.cell.Cell.{Cell}
use Rattle.racer_base.specs.declared.ids.MethodId.{MethodId}
use Rattle.racer_base.specs.declared.limits.TheConstants.{MAX_PARAMETERS, MAX_LOCALS}
use Rattle.java_resolver.specs.declared.table.Table.{Table}
use Rattle.core_code.specs.declared.code.Reason.{Reason}
use Rattle.core_code.specs.declared.code.Reason.TheVariants.{Overload, Outside, Parameters, Locals, Operations}
use Rattle.core_code.specs.declared.code.Reason.TheVariants.{Recursive}
use Rattle.core_lowering_rules.specs.Context.{Folder}
use Rattle.core_lowering_rules.specs.Methods.{Source, is_past_limit}
use Rattle.core_lowering_rules.specs.Programs.{is_outside, is_overloaded, local_count, where_so}
use Rattle.core_lowering_context.specs.Views.{folder_of}

-- the first that applies, of these tests and numbers
abbrev pub first_of : (is_overload is_outside : Bool) → (parameters locals : ℕ) → (is_past : Bool) → Option Reason
first_of is_overload is_outside parameters locals is_past =
    option_or (where_so is_overload Overload)
    (option_or (where_so is_outside Outside)
    (option_or (where_so (nat_lt MAX_PARAMETERS parameters) Parameters)
    (option_or (where_so (nat_lt MAX_LOCALS locals) Locals) (where_so is_past Operations))))

abbrev pub own_reason : Folder → Source → Option Reason
own_reason folder s =
    first_of (is_overloaded folder.methods s.info) (is_outside folder s) (length s.info.parameters)
    (local_count folder s) (is_past_limit folder s)

-- what a table declares, before anything is known of methods
abbrev pub declared_by : Table → List (Option Cell) → Folder
declared_by table cells = folder_of table cells []

-- with recursion last
abbrev pub with_recursion : Option Reason → Bool → Option Reason
with_recursion reason is_recursive = option_or reason (where_so is_recursive Recursive)

-- those of methods that are numbered from n on
abbrev pub with_recursive : (MethodId → Bool) → ℕ → List (Option Reason) → List (Option Reason)
with_recursive is_recursive n [] = []
with_recursive is_recursive n (reason ∷ reasons) =
    with_recursion reason (is_recursive (record { 0 = n })) ∷ with_recursive is_recursive (suc n) reasons
