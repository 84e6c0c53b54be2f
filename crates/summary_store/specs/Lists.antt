-- A contract of a public call rests on this: `Locked::law`. Which methods stand in which list behind the lock.
use Rattle.std.specs.Prelude.{◌≡◌, ℕ, ◌+◌, ◌^◌, ◌<◌, List, [], ◌∷◌, length, map, Bool, Option, None, Some, option_map}
use Rattle.std.specs.Prelude.{slice_get}
use Rattle.racer_base.specs.declared.ids.MethodId.{MethodId}
use Rattle.core_code.specs.Counting.{flagged}
use Rattle.row_links.specs.Lists.{list_at, moved, front, front_taken, node_count, HasEachOnce, IsInList}
use Rattle.summary_store.specs.declared.machine.Hand.{Hand}
use Rattle.summary_store.specs.declared.machine.Hand.TheVariants.{Free, Holds, Gone}
use Rattle.summary_store.specs.Machine.{Setup, Machine, parked_on}
use Rattle.summary_store.specs.Passes.{is_gone}

abbrev pub numbers : List MethodId → List ℕ
numbers ms = map (λ (m : MethodId). m.0) ms

abbrev pub numbered : Option ℕ → Option MethodId
numbered o = option_map (λ n. record { 0 = n }) o

abbrev pub numbers_held : Hand → List ℕ
numbers_held Free = []
numbers_held (Holds m) = m.0 ∷ []
numbers_held Gone = []

-- the lists are those of this state: idle, ready, done, and not analysed; then what each worker holds, and what is
-- parked on each method; a flag says of each worker whether it has left
pub record AreLists (u : Setup) (s : Machine) (lists : List (List ℕ)) (left : List Bool) : Type 0 where
  pub each : HasEachOnce lists
  pub nodes : node_count lists ≡ length u.rows
  pub count : length lists ≡ 4 + u.workers + length u.rows
  pub few : length lists < 2 ^ 32
  pub idle : list_at lists 0 ≡ numbers s.idle
  pub ready : list_at lists 1 ≡ numbers s.ready
  pub done : list_at lists 2 ≡ numbers s.done
  pub held : (w : ℕ) (hand : Hand) → slice_get s.hands w ≡ Some hand → list_at lists (4 + w) ≡ numbers_held hand
  pub parked : (c : ℕ) → c < length u.rows → list_at lists (4 + u.workers + c) ≡ numbers (parked_on c s.parked)
  pub flags : left ≡ map is_gone s.hands

-- at the start those with a flag are idle, and the others are not analysed
pub record AreFirst (flags : List Bool) (workers : ℕ) (lists : List (List ℕ)) : Type 0 where
  pub each : HasEachOnce lists
  pub nodes : node_count lists ≡ length flags
  pub count : length lists ≡ 4 + workers + length flags
  pub few : length lists < 2 ^ 32
  pub idle : list_at lists 0 ≡ numbers (flagged 0 flags)
  pub others : (l : ℕ) → (l ≡ 0 → ⊥) → (l ≡ 3 → ⊥) → list_at lists l ≡ []

abbrev pub front_held : ℕ → List (List ℕ) → Option MethodId
front_held w lists = numbered (front (4 + w) lists)

abbrev pub or_else : Option ℕ → Option ℕ → Option ℕ
or_else (Some x) o = Some x
or_else None o = o

-- the front of the ready list; or where it is empty, of the idle ones
abbrev pub next_front : List (List ℕ) → Option ℕ
next_front lists = or_else (front 1 lists) (front 0 lists)

abbrev pub moved_or : Option ℕ → ℕ → List (List ℕ) → List (List ℕ) → List (List ℕ)
moved_or (Some x) to lists others = moved x to lists
moved_or None to lists others = others

-- the lists behind a take of a worker
abbrev pub next_taken : ℕ → List (List ℕ) → List (List ℕ)
next_taken w lists = moved_or (front 1 lists) (4 + w) lists (front_taken 0 (4 + w) lists)

-- where the method is idle, it is ready then
pub record IsRoused (c : ℕ) (lists then : List (List ℕ)) : Type 0 where
  pub list : ℕ
  pub there : IsInList lists c list
  pub idle : list ≡ 0 → then ≡ moved c 1 lists
  pub others : (list ≡ 0 → ⊥) → then ≡ lists
