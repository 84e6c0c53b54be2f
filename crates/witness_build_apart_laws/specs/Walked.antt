-- A contract of a public call rests on this: two legs that are gone alone, each from the entry of its method.
use Rattle.std.specs.Prelude.{◌≡◌, ◌+◌, false, List, [], Some}
use Rattle.std.specs.List.{list_any}
use Rattle.racer_base.specs.declared.ids.MethodId.{MethodId}
use Rattle.core_code.specs.Core.{Core}
use Rattle.core_semantics.specs.declared.answer.Turn.{Turn}
use Rattle.core_semantics.specs.declared.object.Start.TheVariants.{All}
use Rattle.core_semantics.specs.Changes.{Spot}
use Rattle.core_semantics.specs.Legs.{Leg}
use Rattle.core_semantics.specs.Runs.{begun}
use Rattle.core_semantics.specs.State.{State, thread_of}
use Rattle.witness_build_apart_laws.specs.Goes.{leg_goes}
use Rattle.witness_build_apart_laws.specs.Looks.{leg_looks}
use Rattle.witness_build_apart_laws.specs.Stores.{is_spot, leg_stores}

-- what is known of two legs that are gone alone, where the second reads no field that the first stores in
pub record AreWalked (core : Core) (f g : Leg) (m n : MethodId) : Type 0 where
  pub to : State
  pub left : List Turn
  pub spots : List Spot
  pub threads : f.thread + g.thread ≡ 1
  pub goes : leg_goes core f.thread f.steps f.turns (begun core m m All) ≡ Some (to, left)
  pub free : (thread_of to f.thread).locks ≡ []
  pub stores : leg_stores core f.thread f.steps f.turns (begun core m m All) ≡ Some spots
  pub apart : list_any (λ (x : Spot). list_any (is_spot x.0 x.1) spots)
      (leg_looks core g.thread g.steps g.turns (begun core n n All)) ≡ false
