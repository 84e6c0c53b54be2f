-- A contract of a public call rests on this: the run of a confirmed warning ends in its race.
use Rattle.std.specs.Prelude.{◌≡◌, ℕ, true, List, [], ◌∷◌, Some}
use Rattle.racer_base.specs.declared.ids.FieldId.{FieldId}
use Rattle.racer_base.specs.declared.ids.Touch.{Touch}
use Rattle.access_paths.specs.declared.path.Path.{Path}
use Rattle.access_paths.specs.Paths.{last_of}
use Rattle.core_code.specs.Core.{Core}
use Rattle.core_semantics.specs.declared.object.Object.TheVariants.{Start as StartOf}
use Rattle.core_semantics.specs.declared.object.Start.TheVariants.{Only}
use Rattle.core_semantics.specs.declared.object.StartPath.{StartPath}
use Rattle.core_semantics.specs.Legs.{Leg, run, run_leg}
use Rattle.core_semantics.specs.Runs.{begun, next_touch, races}
use Rattle.core_semantics.specs.State.{State, thread_of}
use Rattle.race_pairs.specs.declared.warning.Warning.{Warning}
use Rattle.core_ways_laws.specs.Meets.{base_path}
use Rattle.core_ways_laws.specs.Quiet.{start_path}

-- the next step of a thread touches the last field of a path, in the start object of the path before it
pub record Touches (s : State) (t : ℕ) (p : Path) : Type 0 where
  pub field : FieldId
  pub last : last_of p.fields ≡ Some field
  pub kind : Touch
  pub is : next_touch s t ≡ Some (StartOf (start_path (base_path p)), field, kind)

-- Two legs, run from the beginning where these start paths with a field are objects and no others, make all their
-- steps; so none of these is held by a monitor of the other thread. Behind the first leg its thread holds no monitor.
-- Behind both, the next steps of both threads race, in the cell of this path.
pub record RacesOn (core : Core) (w : Warning) (objects : List StartPath) (legs : List Leg) (p : Path) : Type 0 where
  pub first : Leg
  pub second : Leg
  pub are : legs ≡ first ∷ second ∷ []
  pub between : State
  pub first_run : run_leg core first (begun core w.entry w.partner (Only objects)) ≡ Some between
  pub free : (thread_of between first.thread).locks ≡ []
  pub end : State
  pub runs : run core legs (begun core w.entry w.partner (Only objects)) ≡ Some end
  pub race : races end ≡ true
  pub entry : Touches end 0 p
  pub partner : Touches end 1 p
