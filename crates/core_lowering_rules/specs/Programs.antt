-- A contract of a public call rests on this: the program of the units of a folder.
use Rattle.std.specs.Prelude.{◌≡◌, ℕ, suc, Bool, true, false, not, ◌&&◌, ◌||◌, List, [], ◌∷◌, ◌++◌, Option}
use Rattle.std.specs.Prelude.{Some, None, length, map}
use Rattle.std.specs.Prelude.{if◌then◌else◌, ◌-◌, nat_eq, nat_lt, is_none, slice_get, sum_by, count_by}
use Rattle.std.specs.List.{flat_map, list_any}
use Rattle.std.specs.Option.{option_or}
use Rattle.container_cells.specs.declared.cell.Containers.{Containers}
use Rattle.racer_base.specs.declared.ids.ClassId.{ClassId}
use Rattle.racer_base.specs.declared.ids.MethodId.{MethodId}
use Rattle.racer_base.specs.declared.ids.Place.{Place}
use Rattle.racer_base.specs.declared.limits.TheConstants.{MAX_PARAMETERS, MAX_LOCALS}
use Rattle.java_tree.specs.declared.unit.Unit.{Unit}
use Rattle.java_tree.specs.declared.unit.ClassTree.{ClassTree}
use Rattle.java_tree.specs.declared.unit.Member.{Member}
use Rattle.java_tree.specs.declared.unit.Member.TheVariants as member
use Rattle.java_resolver.specs.declared.infos.ClassInfo.{ClassInfo}
use Rattle.java_resolver.specs.declared.infos.FieldInfo.{FieldInfo}
use Rattle.java_resolver.specs.declared.infos.MethodInfo.{MethodInfo}
use Rattle.java_resolver.specs.Declarations.{trees_of, classes_of, names_of, fields_of, methods_of, by_class}
use Rattle.java_resolver.specs.Declarations.{method_info, head_info, default_constructor, member_is_constructor}
use Rattle.java_resolver.specs.Meanings.{is_called}
use Rattle.core_code.specs.declared.code.Reason.{Reason}
use Rattle.core_code.specs.declared.code.Reason.TheVariants.{Overload, Outside, Parameters, Locals, Operations}
use Rattle.core_code.specs.declared.code.Reason.TheVariants.{Recursive}
use Rattle.core_code.specs.declared.parts.ClassCore.{ClassCore}
use Rattle.core_code.specs.declared.parts.FieldCore.{FieldCore}
use Rattle.core_code.specs.Tree.{in_sequence}
use Rattle.core_code.specs.Core.{Core, Method}
use Rattle.core_code.specs.Recursion.{TellRecursion, all_calls_in}
use Rattle.core_code.specs.CalleeRows.{different}
use Rattle.core_code.specs.Chains.{flag_of}
use Rattle.core_lowering_rules.specs.Context.{Folder}
use Rattle.core_lowering_rules.specs.Cells.{cells_of, contents}
use Rattle.core_lowering_rules.specs.Methods.{Body, Default, Unspelled, Source, this_kinds, method_code, method_kinds}
use Rattle.core_lowering_rules.specs.Methods.{has_other_lock, is_apart, is_past_limit, Spelled}
use Rattle.core_lowering_drafts.specs.Sites.{numbered}

-- ---- methods, in source order

abbrev pub member_sources : List (List ℕ) → ClassId → ClassTree → Member → List Source
member_sources names c tree (member.Method m) =
    record { info = method_info names c m; members = tree.members; body = Spelled m } ∷ []
member_sources names c tree (member.Outside h) =
    record { info = head_info names c h; members = tree.members; body = Unspelled } ∷ []
member_sources names c tree _ = []

abbrev pub default_sources : ClassId → ClassTree → List Source
default_sources c tree =
    if list_any member_is_constructor tree.members then []
    else record { info = default_constructor c tree; members = tree.members; body = Default } ∷ []

abbrev pub class_sources : List (List ℕ) → ClassId → ClassTree → List Source
class_sources names c tree = default_sources c tree ++ flat_map (member_sources names c tree) tree.members

abbrev pub sources_of : List Unit → List Source
sources_of units = by_class (class_sources (names_of units)) 0 (trees_of units)

-- ---- why a method is not analysed

abbrev pub is_unspelled : Body → Bool
is_unspelled Unspelled = true
is_unspelled _ = false

-- whether a method is outside the subset: no tree spells it, a `finally` unlocks what is no lock field, a jump has no
-- target, or a resource is closed by a method of the folder
abbrev pub is_outside : Folder → Source → Bool
is_outside folder s = is_unspelled s.body || has_other_lock folder s || is_apart folder s

-- whether another method of its class has its name and its number of parameters
abbrev pub is_overloaded : List MethodInfo → MethodInfo → Bool
is_overloaded methods m = nat_lt 1 (count_by (is_called m.class m.name (length m.parameters)) methods)

-- the variables that are neither `this` nor parameters
abbrev pub local_count : Folder → Source → ℕ
local_count folder s = length (method_kinds folder s) - length (this_kinds s.info) - length s.info.parameters

abbrev pub where_so : Bool → Reason → Option Reason
where_so test reason = if test then Some reason else None

-- the first that applies
abbrev pub status_of : Folder → Bool → Source → Option Reason
status_of folder is_recursive s =
    option_or (where_so (is_overloaded folder.methods s.info) Overload)
    (option_or (where_so (is_outside folder s) Outside)
    (option_or (where_so (nat_lt MAX_PARAMETERS (length s.info.parameters)) Parameters)
    (option_or (where_so (nat_lt MAX_LOCALS (local_count folder s)) Locals)
    (option_or (where_so (is_past_limit folder s) Operations) (where_so is_recursive Recursive)))))

-- what is declared, before anything is known of methods
abbrev pub declared_in : Containers → List Unit → Folder
declared_in containers units =
    record {
      classes = classes_of units;
      fields = fields_of units;
      cells = cells_of containers (fields_of units);
      methods = methods_of units;
      statuses = [];
    }

-- those of methods that are numbered from n on
abbrev pub statuses_from : Folder → (MethodId → Bool) → ℕ → List Source → List (Option Reason)
statuses_from folder is_recursive n [] = []
statuses_from folder is_recursive n (s ∷ sources) =
    status_of folder (is_recursive (record { 0 = n })) s ∷ statuses_from folder is_recursive (suc n) sources

-- the same, where these methods are recursive
abbrev pub folder_of : Containers → List Unit → (MethodId → Bool) → Folder
folder_of containers units is_recursive =
    record (declared_in containers units) {
      statuses = statuses_from (declared_in containers units) is_recursive 0 (sources_of units);
    }

-- ---- the program

abbrev pub class_core : ClassInfo → ClassCore
class_core c = record { name = c.name; place = c.place; checked = c.checked }

-- accesses of volatile and of final fields are not recorded
abbrev pub field_core : FieldInfo → FieldCore
field_core f =
    record {
      class = f.class;
      name = f.name;
      kind = f.kind;
      is_static = f.is_static;
      recorded = not f.is_volatile && not f.is_final;
    }

abbrev pub is_checked : Folder → ClassId → Bool
is_checked folder c = elim (slice_get folder.classes c.0) [ None ↦ false | Some class ↦ class.checked ]

-- an analysed method of a checked class that others may call at any time
abbrev pub is_entry : Folder → MethodInfo → Option Reason → Bool
is_entry folder m status =
    is_none status && is_checked folder m.class && not m.is_private && not m.is_constructor && not m.not_thread_safe

abbrev pub method_core : Folder → Source → Option Reason → Method
method_core folder s status =
    record {
      class = s.info.class;
      name = s.info.name;
      place = s.info.place;
      parameters = s.info.parameters;
      result = s.info.result;
      variables = method_kinds folder s;
      is_static = s.info.is_static;
      entry = is_entry folder s.info status;
      main = s.info.main;
      status = status;
      code = numbered 0 (in_sequence (method_code folder s));
    }

abbrev pub method_cores : Folder → List Source → List (Option Reason) → List Method
method_cores folder (s ∷ sources) (status ∷ statuses) =
    method_core folder s status ∷ method_cores folder sources statuses
method_cores folder _ _ = []

-- the places of types and members that are not read
abbrev pub skipped_member : Member → List Place
skipped_member (member.Skipped place) = place ∷ []
skipped_member _ = []

abbrev pub skipped_in : Unit → List Place
skipped_in unit =
    unit.skipped ++ flat_map (λ (c : ClassTree). flat_map skipped_member c.members) unit.classes

-- put before the first that is not before it
abbrev pub is_before : Place → Place → Bool
is_before p q =
    nat_lt p.file.0 q.file.0
    || nat_eq p.file.0 q.file.0 && (nat_lt p.line q.line || nat_eq p.line q.line && nat_lt p.column q.column)

abbrev pub put_in : Place → List Place → List Place
put_in p [] = p ∷ []
put_in p (q ∷ qs) = if is_before q p then q ∷ put_in p qs else p ∷ q ∷ qs

abbrev pub in_order : List Place → List Place
in_order [] = []
in_order (p ∷ ps) = put_in p (in_order ps)

-- the fields, and behind them all what the containers among them hold
abbrev pub field_cores : Containers → List FieldInfo → List FieldCore
field_cores containers fields = map field_core fields ++ contents containers fields

-- the program of units, where containers are this, and these methods are recursive
abbrev pub program_of : Containers → List (List ℕ) → List Unit → (MethodId → Bool) → Core
program_of containers files units is_recursive =
    let folder = folder_of containers units is_recursive in
    record {
      files = files;
      skipped = in_order (flat_map skipped_in units);
      classes = map class_core folder.classes;
      fields = field_cores containers folder.fields;
      methods = method_cores folder (sources_of units) folder.statuses;
    }

-- the program in which every method is taken for recursive, so that none is analysed
abbrev pub draft_of : Containers → List (List ℕ) → List Unit → Core
draft_of containers files units = program_of containers files units (λ m. true)

-- how many different pairs of a method and one that it calls there are
abbrev pub call_edges : Core → ℕ
call_edges core = sum_by (λ (m : Method). length (different (all_calls_in m.code))) core.methods

-- the program of units: its recursive methods are those of the draft, in which the same methods are called
pub record IsLowered (containers : Containers) (files : List (List ℕ)) (units : List Unit) (core : Core)
    : Type 0 where
  pub flags : List Bool
  pub recursive : TellRecursion (draft_of containers files units) flags
  pub program : core ≡ program_of containers files units (flag_of flags)
