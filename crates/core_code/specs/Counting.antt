-- A contract of a public call rests on this: `Store::take` of summary_store. How often methods stand in lists, and
-- which methods of a program are analysed.
use Rattle.std.specs.Prelude.{ℕ, ◌+◌, ◌<◌, List, [], ◌∷◌, Bool, cond, ◌==◌, map, is_none}
use Rattle.racer_base.specs.declared.ids.MethodId.{MethodId}
use Rattle.core_code.specs.Core.{Core, Method}

-- what the elements weigh together
abbrev pub weigh : {X : Type 0} → (X → ℕ) → List X → ℕ
weigh f [] = 0
weigh f (x ∷ xs) = f x + weigh f xs

-- how often a number stands among the methods
abbrev pub times : ℕ → List MethodId → ℕ
times x ms = weigh (λ m. cond (m.0 == x) 1 0) ms

-- the method stands in the list
abbrev pub IsIn : MethodId → List MethodId → Type 0
IsIn m ms = 0 < times m.0 ms

-- the numbers, from n on, at which the flags are set
abbrev pub flagged : ℕ → List Bool → List MethodId
flagged n [] = []
flagged n (b ∷ bs) = cond b (record { 0 = n } ∷ flagged (n + 1) bs) (flagged (n + 1) bs)

-- for each method whether it is analysed
abbrev pub flags_of : Core → List Bool
flags_of core = map (λ (m : Method). is_none m.status) core.methods

-- the analysed methods in source order
abbrev pub analysed_methods : Core → List MethodId
analysed_methods core = flagged 0 (flags_of core)
