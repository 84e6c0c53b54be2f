-- No public contract rests on this: what a walk along calls keeps, which gathers the components of a graph.
use Rattle.std.specs.Prelude.{◌≡◌, ℕ, zero, suc, ◌+◌, ◌-◌, ◌<◌, ◌≤◌, ◌⊎◌, List, [], ◌∷◌, ◌++◌, Option, None, Some}
use Rattle.std.specs.Prelude.{Bool, false, length, nat_eq, slice_get, slice_index_or, slice_set, take, drop}
use Rattle.std.specs.List.{list_any}
use Rattle.racer_base.specs.declared.ids.MethodId.{MethodId}
use Rattle.core_code.specs.declared.walk.Group.{Group}
use Rattle.core_code.specs.declared.walk.Turn.{Turn}
use Rattle.core_code.specs.declared.walk.Turn.TheVariants.{Close, Look}
use Rattle.core_code.specs.declared.walk.Walk.{Walk}
use Rattle.core_code.specs.Chains.{Calls, IsChain}
use Rattle.core_code.specs.Falling.{number_of}

-- x stands at a place of a list
abbrev pub At : {X : Type 0} → List X → ℕ → X → Type 0
At {X} xs p x = ◌≡◌ {A = Option X} (slice_get xs p) (Some x)

-- x stands at a place from k on
abbrev pub From : {X : Type 0} → List X → ℕ → X → Type 0
From xs k x = (p : ℕ) × (k ≤ p) × At xs p x

-- a method is another, or a chain of calls leads from it to that one
abbrev pub LeadsTo : List (List MethodId) → MethodId → MethodId → Type 0
LeadsTo rows m n = (m ≡ n) ⊎ ((between : List MethodId) × IsChain rows m between n)

-- nothing is left to find out of a method: it has a number, or no row
abbrev pub IsDone : List (List MethodId) → List ℕ → MethodId → Type 0
IsDone rows numbers m = (length rows ≤ m.0) ⊎ (0 < number_of numbers m)

-- how many methods have no place yet
abbrev pub new_ones : List ℕ → ℕ
new_ones [] = 0
new_ones (zero ∷ places) = suc (new_ones places)
new_ones (suc p ∷ places) = new_ones places

-- how much they have to do: one each, and one for each call
abbrev pub new_work : List (List MethodId) → List ℕ → ℕ
new_work [] places = 0
new_work (row ∷ rows) [] = 0
new_work (row ∷ rows) (zero ∷ places) = suc (length row + new_work rows places)
new_work (row ∷ rows) (suc p ∷ places) = new_work rows places

-- What is kept. The path has the methods that were met and have no number yet, in the order in which they were met;
-- each leads to those behind it. Groups divide it: those of one group lead to one another. Each call of a method on the
-- path leads to a method that is done, or to one on the path that is not of an earlier group, or is still to be looked
-- at.
pub record IsWalked (rows : List (List MethodId)) (places : List ℕ) (numbers : List ℕ) (path : List MethodId)
    (todo : List MethodId) (groups : List Group) (count : ℕ) : Type 0 where
  pub as_many_places : length places ≡ length rows
  pub as_many : length numbers ≡ length rows
  pub known : (m : MethodId) → m.0 < length rows → (0 < number_of numbers m) ⊎ (From path 0 m ⊎ From todo 0 m)
  pub placed : (p : ℕ) (m : MethodId) → At path p m → number_of places m ≡ p + 1
  pub open_there : (p : ℕ) (m : MethodId) → At path p m → (number_of numbers m ≡ 0) × (m.0 < length rows)
  pub on_path : (m : MethodId) → 0 < number_of places m → number_of numbers m ≡ 0 → At path (number_of places m - 1) m
  pub counted : (m : MethodId) → number_of numbers m ≤ count
  pub finished : (m n : MethodId) → 0 < number_of numbers m → Calls rows m n →
      IsDone rows numbers n × (number_of numbers n ≤ number_of numbers m)
  pub together : (m n : MethodId) → 0 < number_of numbers m → number_of numbers m ≡ number_of numbers n →
      LeadsTo rows m n
  pub in_order : (p q : ℕ) (x y : MethodId) → p ≤ q → At path p x → At path q y → LeadsTo rows x y
  pub grouped : (p q : ℕ) (x y : MethodId) → p ≤ q → At path p x → At path q y →
      LeadsTo rows y x ⊎ ((i : ℕ) × (g : Group) × At groups i g × (p < g.first) × (g.first ≤ q))
  pub wanted : (i : ℕ) (g : Group) (h n : MethodId) → At groups i g → At path g.first h → From todo g.base n →
      LeadsTo rows h n
  pub closed : (i : ℕ) (g : Group) (x n : MethodId) → At groups i g → From path g.first x → Calls rows x n →
      IsDone rows numbers n ⊎ (From path g.first n ⊎ From todo g.base n)
  pub within : (i : ℕ) (g : Group) → At groups i g → (g.first < length path) × (g.base ≤ length todo)
  pub rising : (i j : ℕ) (g h : Group) → i < j → At groups i g → At groups j h →
      (g.first < h.first) × (g.base ≤ h.base)
  pub bottom : (g : Group) → At groups 0 g → g.first ≡ 0
  pub empty : groups ≡ [] → path ≡ []
  pub few : count + length groups + new_ones places ≤ length rows

abbrev pub IsKept : List (List MethodId) → Walk → Type 0
IsKept rows w = IsWalked rows w.places.items w.numbers.items w.path.items w.todo.items w.groups.items w.count

-- ---- what the steps say

-- the last of a list, if there is one
abbrev pub IsLast : {X : Type 0} → List X → Option X → Type 0
IsLast xs None = xs ≡ []
IsLast {X} xs (Some x) = (front : List X) × (xs ≡ front ++ x ∷ [])

-- no group begins its calls behind a place
abbrev pub AreBased : List Group → ℕ → Type 0
AreBased groups n = (i : ℕ) (g : Group) → At groups i g → g.base ≤ n

-- what is to be done next
abbrev pub IsTurn : List MethodId → List Group → Option Turn → Type 0
IsTurn todo groups None = (todo ≡ []) × (groups ≡ [])
IsTurn todo groups (Some (Close g)) = (front : List Group) × (groups ≡ front ++ g ∷ []) × (g.base ≡ length todo)
IsTurn todo groups (Some (Look m)) =
    (front : List MethodId) × (todo ≡ front ++ m ∷ []) × AreBased groups (length front)

-- the methods of a list have a number, and the others those that they had
pub record AreNumbered (ms : List MethodId) (c : ℕ) (old new : List ℕ) : Type 0 where
  pub long : length new ≡ length old
  pub given : (m : MethodId) → m.0 < length old → From ms 0 m → number_of new m ≡ c
  pub others : (m : MethodId) →
      (From ms 0 m × (m.0 < length old) × (number_of new m ≡ c)) ⊎ (number_of new m ≡ number_of old m)

-- the last of a list is taken away
abbrev pub IsFront : {X : Type 0} → List X → List X → Type 0
IsFront {X} old new = (front : List X) (x : X) → old ≡ front ++ x ∷ [] → new ≡ front

-- nothing has changed but the methods to look at, and the groups
pub record IsSame (w v : Walk) : Type 0 where
  pub places : v.places.items ≡ w.places.items
  pub numbers : v.numbers.items ≡ w.numbers.items
  pub path : v.path.items ≡ w.path.items
  pub count : v.count ≡ w.count

-- the next method was looked at
pub record IsLookedAt (w v : Walk) : Type 0 where
  pub same : IsSame w v
  pub todo : IsFront w.todo.items v.todo.items
  pub groups : v.groups.items ≡ w.groups.items

-- the last group belongs to the one before it
pub record IsJoined (w v : Walk) : Type 0 where
  pub same : IsSame w v
  pub todo : v.todo.items ≡ w.todo.items
  pub groups : IsFront w.groups.items v.groups.items

-- the methods of the last group, which begins at a place of the path, have the next number
pub record IsClosed (first : ℕ) (w v : Walk) : Type 0 where
  pub places : v.places.items ≡ w.places.items
  pub numbers : AreNumbered (drop first w.path.items) (w.count + 1) w.numbers.items v.numbers.items
  pub path : v.path.items ≡ take first w.path.items
  pub todo : v.todo.items ≡ w.todo.items
  pub groups : IsFront w.groups.items v.groups.items
  pub count : v.count ≡ w.count + 1

-- the next method was met, which has these calls
pub record IsEntered (m : MethodId) (calls : List MethodId) (w v : Walk) : Type 0 where
  pub places : v.places.items ≡ slice_set w.places.items m.0 (length w.path.items + 1)
  pub numbers : v.numbers.items ≡ w.numbers.items
  pub path : v.path.items ≡ w.path.items ++ m ∷ []
  pub todo : (front : List MethodId) → w.todo.items ≡ front ++ m ∷ [] → v.todo.items ≡ front ++ calls
  pub groups : (front : List MethodId) → w.todo.items ≡ front ++ m ∷ [] →
      v.groups.items ≡ w.groups.items ++ record { first = length w.path.items; base = length front } ∷ []
  pub count : v.count ≡ w.count

-- What holds where a call leads from the last group to m, at this place of the path, and m is the next to look at.
pub record CanMerge (rows : List (List MethodId)) (place : ℕ) (front : List MethodId) (m : MethodId) (w : Walk)
    : Type 0 where
  pub kept : IsKept rows w
  pub next : w.todo.items ≡ front ++ m ∷ []
  pub there : At w.path.items place m
  pub based : AreBased w.groups.items (length front)

-- groups were put together, up to one that begins at this place or before it
pub record IsMerged (place : ℕ) (w v : Walk) : Type 0 where
  pub same : IsSame w v
  pub todo : v.todo.items ≡ w.todo.items
  pub fewer : length v.groups.items ≤ length w.groups.items
  pub merged : (rows : List (List MethodId)) (front : List MethodId) (m : MethodId) → CanMerge rows place front m w →
      CanMerge rows place front m v

-- no group begins behind a place
abbrev pub AreBefore : ℕ → Walk → Type 0
AreBefore place w = (i : ℕ) (g : Group) → At w.groups.items i g → g.first ≤ place

-- what is left to do
abbrev pub work : List (List MethodId) → Walk → ℕ
work rows w = new_work rows w.places.items + length w.todo.items + length w.groups.items

-- ---- numbers of components

-- Each method with a row has a number, at most how many methods there are. No call leads to a method with a greater
-- one, and methods with one number lead to one another.
pub record AreComponents (rows : List (List MethodId)) (numbers : List ℕ) : Type 0 where
  pub as_many : length numbers ≡ length rows
  pub there : (m : MethodId) → m.0 < length rows → 0 < number_of numbers m
  pub few : (m : MethodId) → number_of numbers m ≤ length rows
  pub never_rise : (m n : MethodId) → Calls rows m n → number_of numbers n ≤ number_of numbers m
  pub together : (m n : MethodId) → 0 < number_of numbers m → number_of numbers m ≡ number_of numbers n →
      LeadsTo rows m n

-- whether the method at a place calls one of its own number
abbrev pub stays_at : List (List MethodId) → List ℕ → ℕ → Bool
stays_at rows numbers k =
    list_any (λ n. nat_eq (number_of numbers n) (slice_index_or numbers k 0)) (slice_index_or rows k [])

-- the flags of the first so many methods say which do
abbrev pub AreStays : List (List MethodId) → List ℕ → ℕ → List Bool → Type 0
AreStays rows numbers n flags = (k : ℕ) → k < n → slice_index_or flags k false ≡ stays_at rows numbers k
