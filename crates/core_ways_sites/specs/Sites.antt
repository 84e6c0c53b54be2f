-- A contract of a public call rests on this: the ways to sites of a method.
use Rattle.std.specs.Prelude.{◌≡◌, ℕ, true, ◌&&◌, not, List, Some}
use Rattle.std.specs.BTreeMap.{BTreeMap, get}
use Rattle.std.specs.BTreeSet.{BTreeSet, contains}
use Rattle.std.specs.Option.{IfSome}
use Rattle.std.specs.Ordering.{nat_cmp}
use Rattle.racer_base.specs.declared.ids.MethodId.{MethodId}
use Rattle.racer_base.specs.declared.ids.SiteId.{SiteId}
use Rattle.core_code.specs.declared.code.Op.{Op as CoreOp}
use Rattle.core_code.specs.Core.{Core}
use Rattle.core_code.specs.Tree.{Tree}
use Rattle.core_semantics.specs.declared.answer.Turn.{Turn}
use Rattle.core_ways.specs.declared.count.Count.{Count}
use Rattle.core_ways.specs.Paths.{op_there}
use Rattle.core_ways.specs.Ways.{code_at, has_site, reached, trip_along, trip_of}
use Rattle.core_ways_sites.specs.declared.noting.Reached.{Reached}
use Rattle.core_ways_sites.specs.Gone.{IsGone, LeadsOn}

-- what is gone up to a site of code, and the operation there
pub record IsReached (core : Core) (code : Tree) (site : SiteId) (count : Count) (turns : List Turn)
    (op : CoreOp) : Type 0 where
  pub gone : IsGone (trip_along (trip_of core) (reached 0 site code)) count turns
  pub there : Some op ≡ op_there code site

-- each way that is noted is the one to its site of the code
abbrev pub AreRight : Core → Tree → BTreeMap ℕ Reached → Type 0
AreRight core code found =
    (s : SiteId) → IfSome (get nat_cmp found s.0) (λ (r : Reached). IsReached core code s r.count r.turns.items r.op)

-- from what is gone up to a part of code, within so many locks, the way to a site in it leads on
pub record IsLed (core : Core) (whole : Tree) (locks : ℕ) (part : Tree) (count : Count) (turns : List Turn)
    (site : SiteId) : Type 0 where
  pub way :
      LeadsOn count turns (trip_along (trip_of core) (reached locks site part))
      (trip_along (trip_of core) (reached 0 site whole))
  pub there : op_there whole site ≡ op_there part site

-- the same of each site that is still to be found
abbrev pub AreLed : Core → Tree → ℕ → Tree → BTreeSet ℕ → Count → List Turn → Type 0
AreLed core whole locks part wanted count turns =
    (s : SiteId) → contains nat_cmp wanted s.0 ≡ true → has_site part s ≡ true →
    IsLed core whole locks part count turns s

-- those that are still to be found behind code
abbrev pub AreLeft : Tree → BTreeSet ℕ → BTreeSet ℕ → Type 0
AreLeft code old new =
    (s : SiteId) → contains nat_cmp new s.0 ≡ (contains nat_cmp old s.0 && not (has_site code s))

-- this is gone up to a site of a method, and the operation there
pub record IsSite (core : Core) (m : MethodId) (site : SiteId) (r : Reached) : Type 0 where
  pub code : Tree
  pub is : code_at core m ≡ Some code
  pub reached : IsReached core code site r.count r.turns.items r.op

-- each way that is noted is the one to its site of the method
abbrev pub IsFound : Core → MethodId → BTreeMap ℕ Reached → Type 0
IsFound core m found = (s : SiteId) → IfSome (get nat_cmp found s.0) (IsSite core m s)
