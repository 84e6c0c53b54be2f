-- A contract of a public call rests on this: what a set of paths is kept as.
use Rattle.std.specs.Prelude.{◌≡◌, ◌≤◌, List, length}
use Rattle.std.specs.FinSet as set
use Rattle.racer_base.specs.declared.limits.TheConstants.{MAX_SUMMARY_KEYS}
use Rattle.access_paths.specs.declared.path.Path.{Path}
use Rattle.access_paths.specs.Order.{PathSet}

abbrev pub set_of : List Path → PathSet
set_of paths = set.from_list paths

-- the paths are all different, and there are no more than the limit
pub record IsWithin (paths : List Path) : Type 0 where
  pub different : set.len (set_of paths) ≡ length paths
  pub limit : length paths ≤ MAX_SUMMARY_KEYS
