-- A contract of a public call rests on this: what is known of ways.
use Rattle.std.specs.Prelude.{◌≡◌, ℕ, ◌<◌, List, [], ◌∷◌, ◌++◌, Option, None, Some, slice_get}
use Rattle.std.specs.BTreeMap.{BTreeMap}
use Rattle.std.specs.Option.{IfSome}
use Rattle.racer_base.specs.declared.ids.MethodId.{MethodId}
use Rattle.core_code.specs.Calls.{rank_of}
use Rattle.core_code.specs.Core.{Core}
use Rattle.core_semantics.specs.declared.answer.Turn.{Turn}
use Rattle.core_ways.specs.declared.count.Count.{Count}
use Rattle.core_ways.specs.declared.part.WayPart.{WayPart}
use Rattle.core_ways.specs.declared.part.WayPart.TheVariants.{Step}
use Rattle.core_ways.specs.Passings.{IsTable}
use Rattle.core_ways.specs.Ways.{Trip, way_of}
use Rattle.core_ways_sites.specs.declared.noting.Reached.{Reached}
use Rattle.core_ways_sites.specs.declared.table.SiteWays.{SiteWays}
use Rattle.core_ways_sites.specs.Gone.{IsGone, LeadsOn}
use Rattle.core_ways_sites.specs.Sites.{IsFound}

-- what is known of each method is right
abbrev pub AreFound : Core → List (Option (BTreeMap ℕ Reached)) → Type 0
AreFound core methods =
    (m : MethodId) → IfSome (slice_get methods m.0) (λ o. IfSome o (IsFound core m))

pub record IsKnown (core : Core) (ways : SiteWays) : Type 0 where
  pub table : IsTable core ways.passings
  pub methods : AreFound core ways.methods.items

-- the parts so far, with a step into the callee where one is entered
abbrev pub entering : List WayPart → Option (MethodId × ℕ) → List WayPart
entering old None = old
entering old (Some next) = old ++ Step ∷ []

-- the way goes on to a record of a callee, or ends here
abbrev pub Goes : Core → MethodId → Count → List Turn → Trip → Option (MethodId × ℕ) → Type 0
Goes core m count turns whole None = IsGone whole count turns
Goes core m count turns whole (Some (n, j)) =
    LeadsOn count turns (way_of core n j) whole × (rank_of core n < rank_of core m)
