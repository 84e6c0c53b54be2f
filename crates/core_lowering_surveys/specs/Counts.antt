-- No public contract rests on this: how many methods have the name, the class and the number of parameters of each,
-- counted at the first of these.
use Rattle.std.specs.Prelude.{◌≡◌, ℕ, ◌+◌, Bool, false, List, [], ◌∷◌, Option, Some, None, length, nat_eq}
use Rattle.std.specs.Prelude.{slice_index_or, if◌then◌else◌}
use Rattle.racer_base.specs.declared.ids.MethodId.{MethodId}
use Rattle.java_resolver.specs.declared.infos.MethodInfo.{MethodInfo}
use Rattle.java_resolver.specs.Meanings.{exactly_found}

-- the first method that is called as this one
abbrev pub first_of : List MethodInfo → MethodInfo → Option MethodId
first_of methods m = exactly_found methods m.class m.name (length m.parameters)

abbrev pub is_number : Option MethodId → ℕ → Bool
is_number None n = false
is_number (Some m) n = nat_eq m.0 n

-- one at the number of a method
abbrev pub one_at : Option MethodId → ℕ → ℕ
one_at m n = if is_number m n then 1 else 0

-- how many of these methods have the method of this number as their first
abbrev pub tally : List MethodInfo → ℕ → List MethodInfo → ℕ
tally methods n [] = 0
tally methods n (m ∷ ms) = one_at (first_of methods m) n + tally methods n ms

-- the counts are those of all methods
abbrev pub AreCounts : List MethodInfo → List ℕ → Type 0
AreCounts methods counts = (n : ℕ) → slice_index_or counts n 0 ≡ tally methods n methods
