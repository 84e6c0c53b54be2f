-- No public contract rests on this: going through one method towards a record.
use Rattle.std.specs.Prelude.{◌≡◌, ℕ, ◌<◌, List, [], ◌∷◌, ◌++◌, Option, None, Some}
use Rattle.racer_base.specs.declared.ids.MethodId.{MethodId}
use Rattle.core_code.specs.declared.code.Op.{Op as CoreOp}
use Rattle.core_code.specs.declared.code.Op.TheVariants.{Call}
use Rattle.core_ways.specs.declared.part.WayPart.TheVariants.{Step}
use Rattle.core_code.specs.Calls.{rank_of}
use Rattle.core_code.specs.Core.{Core}
use Rattle.core_ways.specs.declared.part.WayPart.{WayPart}
use Rattle.core_ways.specs.Ways.{entered, way_parts}

-- the way goes on to a record of a callee, or ends here
abbrev pub GoesOn : Core → MethodId → ℕ → List WayPart → List WayPart → Option (MethodId × ℕ) → Type 0
GoesOn core m i old new None = new ≡ old ++ way_parts core m i
GoesOn core m i old new (Some (n, j)) =
    (new ++ way_parts core n j ≡ old ++ way_parts core m i) × (rank_of core n < rank_of core m)

-- the call is entered towards the callee's record of this index, by one step
pub record Enters (op : CoreOp) (towards : Option ℕ) (old new : List WayPart) (n : MethodId) (j : ℕ) : Type 0 where
  pub count : ℕ
  pub calls : op ≡ Call n count
  pub below : towards ≡ Some j
  pub step : new ≡ old ++ Step ∷ []

-- what an operation calls is entered, or nothing is
abbrev pub IsEntered : CoreOp → Option ℕ → List WayPart → List WayPart → Option (MethodId × ℕ) → Type 0
IsEntered op below old new None =
    (new ≡ old) × ((ways : MethodId → ℕ → List WayPart) → entered ways below op ≡ [])
IsEntered op below old new (Some (n, j)) = Enters op below old new n j
