-- A contract of a public call rests on this: what the calls on a set of paths say.
use Rattle.std.specs.Prelude.{◌≡◌, ℕ, ◌<◌, Bool, true, false, length}
use Rattle.std.specs.FinSet as set
use Rattle.racer_base.specs.declared.limits.TheConstants.{MAX_SUMMARY_KEYS}
use Rattle.access_paths.specs.declared.path.Path.{Path}
use Rattle.access_paths.specs.Paths.{front}
use Rattle.access_paths.specs.Order.{PathSet}
use Rattle.wobbly_paths.specs.declared.wobbly.Adding.{Adding}
use Rattle.wobbly_paths.specs.declared.wobbly.Adding.TheVariants.{Added, Present, Full, Memory}

-- What an addition says of a collection that had the thing or not, and had so many members: each answer comes
-- exactly in its case, but for want of memory in place of `Added`, and only `Added` changes the collection.
abbrev pub IsAnswer : {S : Type 0} → Bool → ℕ → S → S → S → Adding → Type 0
IsAnswer there count old new grown Added = (there ≡ false) × (count < MAX_SUMMARY_KEYS) × (new ≡ grown)
IsAnswer there count old new grown Present = (there ≡ true) × (new ≡ old)
IsAnswer there count old new grown Full = (there ≡ false) × (count ≡ MAX_SUMMARY_KEYS) × (new ≡ old)
IsAnswer there count old new grown Memory = (there ≡ false) × (count < MAX_SUMMARY_KEYS) × (new ≡ old)

-- no prefix of a path with fewer fields than this is in the set
abbrev pub HasNoPrefix : PathSet → Path → ℕ → Type 0
HasNoPrefix paths p n = (k : ℕ) → k < n → set.contains paths (front k p) ≡ false

-- the shortest proper prefix of the path that is in the set has so many fields
pub record IsShortestPrefix (paths : PathSet) (p : Path) (n : ℕ) : Type 0 where
  pub proper : n < length p.fields
  pub there : set.contains paths (front n p) ≡ true
  pub shortest : HasNoPrefix paths p n
