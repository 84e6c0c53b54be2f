-- A contract of a public call rests on this: when a path names the same object all through two runs. This condition
-- is this project's own.
use Rattle.std.specs.Prelude.{◌≡◌, ℕ, zero, suc, Bool, true, false, ◌||◌, List, [], ◌∷◌, Option, None, Some, length}
use Rattle.std.specs.Prelude.{map}
use Rattle.std.specs.List.{list_any, find}
use Rattle.racer_base.specs.declared.ids.MethodId.{MethodId}
use Rattle.access_paths.specs.declared.path.Path.{Path}
use Rattle.access_paths.specs.declared.path.Root.{Root}
use Rattle.access_paths.specs.declared.path.Root.TheVariants.{This, Class, Formal, Some as SomeOf}
use Rattle.access_paths.specs.Paths.{front, same_path}
use Rattle.core_code.specs.Core.{Core}
use Rattle.access_domain.specs.Findings.{Known, Large, Whole}
use Rattle.access_domain.specs.Summaries.{known_of}

abbrev pub is_lasting_root : Root → Bool
is_lasting_root This = true
is_lasting_root (Class c) = true
is_lasting_root (Formal i) = false
is_lasting_root (SomeOf c) = false

abbrev pub wobbly_in : Option Known → List Path
wobbly_in None = []
wobbly_in (Some Large) = []
wobbly_in (Some (Whole found)) = found.wobbly

-- whether a path is wobbly in a method
abbrev pub is_wobbly : Core → MethodId → Path → Bool
is_wobbly core m p = list_any (same_path p) (wobbly_in (known_of core m))

-- so many numbers from this one on
abbrev pub counting : ℕ → ℕ → List ℕ
counting from zero = []
counting from (suc n) = from ∷ counting (suc from) n

-- the proper prefixes of a path, the root alone first
abbrev pub proper_prefixes : Path → List Path
proper_prefixes p = map (λ n. front n p) (counting 0 (length p.fields))

-- the shortest proper prefix of a path that is wobbly in one of two methods
abbrev pub unstable_prefix : Core → MethodId → MethodId → Path → Option Path
unstable_prefix core m1 m2 p = find (λ q. is_wobbly core m1 q || is_wobbly core m2 q) (proper_prefixes p)

pub record IsStable (core : Core) (m1 m2 : MethodId) (p : Path) : Type 0 where
  pub root : is_lasting_root p.root ≡ true
  pub prefixes : unstable_prefix core m1 m2 p ≡ None
