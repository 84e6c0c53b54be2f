-- A contract of a public call rests on this: where a method begins, and what is left of the variables in scope.
use Rattle.std.specs.Prelude.{ℕ, Bool, true, false, List, [], ◌∷◌, Option, take, if◌then◌else◌}
use Rattle.container_cells.specs.declared.cell.Cell.{Cell}
use Rattle.racer_base.specs.declared.ids.ClassId.{ClassId}
use Rattle.racer_base.specs.declared.ids.Kind.{Kind}
use Rattle.racer_base.specs.declared.ids.Kind.TheVariants.{Declared}
use Rattle.racer_base.specs.declared.ids.Place.{Place}
use Rattle.core_code.specs.declared.code.Reason.{Reason}
use Rattle.java_tree.specs.declared.methods.MethodTree.{MethodTree}
use Rattle.java_resolver.specs.declared.table.Table.{Table}
use Rattle.core_lowering_rules.specs.Context.{Folder, Context, Result}
use Rattle.core_lowering_rules.specs.Methods.{Source, entered, parameters_declared}
use Rattle.core_lowering_context.specs.Views.{folder_of}

-- where a method of a class begins, before its parameters
abbrev pub entered_in : Table → List (Option Cell) → List (Option Reason) → Place → Result → Kind → ClassId →
    (is_static : Bool) → (hidden : List (List ℕ)) → Context
entered_in table cells statuses place result given class is_static hidden =
    record {
      folder = folder_of table cells statuses;
      place = place;
      result = result;
      given = given;
      scope = record { class = class; is_static = is_static; hidden = hidden; variables = [] };
      kinds = if is_static then [] else Declared class ∷ [];
      exits = 0;
      labels = [];
      targets = [];
      guards = [];
      other_lock = false;
      is_apart = false;
    }

-- with the variables before this one in scope
abbrev pub left_at : ℕ → Context → Context
left_at at context = record context { scope = record context.scope { variables = take at context.scope.variables } }

abbrev pub with_other_lock : Context → Context
with_other_lock context = record context { other_lock = true }

-- behind the parameters
abbrev pub inside : Folder → Source → MethodTree → Context
inside folder s m = parameters_declared (entered folder s) m.parameters
