-- A contract of a public call rests on this: `Walks::walk` of witness_build_walks. What is known where both legs were
-- run, as far as they could be.
use Rattle.std.specs.Prelude.{◌≡◌, ◌*◌, ◌≤◌, List, [], ◌∷◌, Option, None, Some, length}
use Rattle.racer_base.specs.declared.limits.TheConstants.{MAX_WAY_STEPS}
use Rattle.core_code.specs.Core.{Core}
use Rattle.core_semantics.specs.declared.object.StartPath.{StartPath}
use Rattle.core_semantics.specs.Legs.{Leg}
use Rattle.core_semantics.specs.State.{State}
use Rattle.core_ways.specs.Marks.{Said, Confirmed, mark_by_run}

-- these objects are what the legs read, and are no more than their steps
pub record AreRead (core : Core) (first second : Leg) (from : State) (objects : List StartPath) : Type 0 where
  pub confirmed : Confirmed objects (first ∷ second ∷ []) ≡ mark_by_run core (first ∷ second ∷ []) from
  pub few : length objects ≤ 2 * MAX_WAY_STEPS

-- what is said of legs: they are confirmed where none is stopped
abbrev pub IsSaid : Core → (first second : Leg) → (from : State) → (objects : List StartPath) → Option Said → Type 0
IsSaid core first second from objects None = AreRead core first second from objects
IsSaid core first second from objects (Some said) = said ≡ mark_by_run core (first ∷ second ∷ []) from
