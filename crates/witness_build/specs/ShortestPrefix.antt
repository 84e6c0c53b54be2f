-- No public contract rests on this: the shortest prefix of a path.
use Rattle.std.specs.Prelude.{◌≡◌, ℕ, ◌<◌, Bool, true, false, Option, None, Some, nat_lt, if◌then◌else◌}
use Rattle.std.specs.FinSet as set
use Rattle.access_paths.specs.declared.path.Path.{Path}
use Rattle.access_paths.specs.Order.{PathSet}
use Rattle.access_paths.specs.Paths.{front}

-- whether a path is among these
abbrev pub is_held : Option PathSet → Path → Bool
is_held None p = false
is_held (Some paths) p = set.contains paths p

-- whether the path of the first so many fields is among these
abbrev pub holds_front : Option PathSet → Path → ℕ → Bool
holds_front paths p n = is_held paths (front n p)

-- no number below n passes a test
abbrev pub PassesNone : (ℕ → Bool) → ℕ → Type 0
PassesNone test n = (k : ℕ) → k < n → test k ≡ false

-- this number below n is the first that passes a test
pub record IsFirst (test : ℕ → Bool) (n k : ℕ) : Type 0 where
  pub within : k < n
  pub passes : test k ≡ true
  pub none_before : PassesNone test k

-- the first number below n that passes a test, or that there is none
abbrev pub IsLeast : (ℕ → Bool) → ℕ → Option ℕ → Type 0
IsLeast test n None = PassesNone test n
IsLeast test n (Some k) = IsFirst test n k

-- the smaller of two numbers, of those that there are
abbrev pub least : Option ℕ → Option ℕ → Option ℕ
least None b = b
least (Some j) None = Some j
least (Some j) (Some k) = if nat_lt j k then Some j else Some k
