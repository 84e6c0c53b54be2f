-- No public contract rests on this: lists as rings of nodes that are linked by index, both ways.
use Rattle.std.specs.Prelude.{◌≡◌, ℕ, zero, suc, ◌+◌, ◌-◌, ◌<◌, ◌≤◌, List, [], ◌∷◌, length, map, nat_eq, if◌then◌else◌}
use Rattle.std.specs.Prelude.{slice_index}
use Rattle.std.specs.List.{concat, range_with_len}
use Rattle.row_links.specs.Lists.{list_at, times, node_count, HasEachOnce}

-- each is linked with the next and the next with it: from a by all of xs to e
abbrev pub Joined : List ℕ → List ℕ → ℕ → List ℕ → ℕ → Type 0
Joined next before a [] e = (slice_index next a ≡ e) × (slice_index before e ≡ a)
Joined next before a (x ∷ xs) e = (slice_index next a ≡ x) × (slice_index before x ≡ a) × Joined next before x xs e

-- the nodes from x on up to this one, at most so many
abbrev pub walk : List ℕ → ℕ → ℕ → ℕ → List ℕ
walk next zero stop x = []
walk next (suc most) stop x = if nat_eq x stop then [] else x ∷ walk next most stop (slice_index next x)

-- the ring of a row goes through a node of its own, behind all others
abbrev pub ring : ℕ → List ℕ → ℕ → List ℕ
ring nodes next row = walk next nodes (nodes + row) (slice_index next (nodes + row))

abbrev pub rings : ℕ → List ℕ → List (List ℕ)
rings nodes next = map (ring nodes next) (range_with_len 0 (length next - nodes))

-- the lists are the rings; no node stands twice
pub record AreRings (nodes : ℕ) (next before : List ℕ) (lists : List (List ℕ)) : Type 0 where
  pub next_length : length next ≡ nodes + length lists
  pub before_length : length before ≡ nodes + length lists
  pub joined : (l : ℕ) → l < length lists → Joined next before (nodes + l) (list_at lists l) (nodes + l)
  pub once : (x : ℕ) → times x (concat lists) ≤ 1
  pub below : (x : ℕ) → nodes ≤ x → times x (concat lists) ≡ 0

-- what links by index keep
pub record AreLinked (nodes : ℕ) (next before : List ℕ) : Type 0 where
  pub are_rings : AreRings nodes next before (rings nodes next)
  pub each : HasEachOnce (rings nodes next)
  pub count : node_count (rings nodes next) ≡ nodes
