-- No public contract rests on this: what is found of methods, and which of them are come to.
use Rattle.std.specs.Prelude.{◌≡◌, ℕ, ◌+◌, ◌<◌, ◌≤◌, ◌⊎◌, Bool, true, false, ◌||◌, ◌++◌, List, [], ◌∷◌, Option, None, Some, length}
use Rattle.std.specs.Prelude.{Contains, count_by, map, slice_index_or, IsTrue, if◌then◌else◌}
use Rattle.std.specs.List.{flat_map, list_any}
use Rattle.racer_base.specs.declared.ids.ClassId.{ClassId}
use Rattle.racer_base.specs.declared.ids.MethodId.{MethodId}
use Rattle.racer_base.specs.declared.ids.Place.{Place}
use Rattle.core_code.specs.declared.code.Op.{Op as CoreOp}
use Rattle.core_code.specs.Tree.{Tree}
use Rattle.core_code.specs.Core.{Core, Method}
use Rattle.core_code.specs.Kinds.{same_class}
use Rattle.core_code.specs.Chains.{row_of, IsChain}
use Rattle.core_code.specs.Facts.{is_stack_enough}
use Rattle.typed_core.specs.declared.answers.Typing.{Typing}
use Rattle.typed_core.specs.declared.findings.Findings.{Findings}
use Rattle.typed_core.specs.declared.reaching.Reach.{Reach}
use Rattle.typed_core.specs.Check.{doubts_of}
use Rattle.typed_core.specs.Contexts.{flag_of}
use Rattle.typed_core.specs.Typings.{has_entry, is_among, is_entry_of, is_read_by, place_failing, reads_field_of}
use Rattle.typed_core.specs.Typings.{typing_of}

abbrev pub has_class : List ClassId → ClassId → Bool
has_class classes c = list_any (λ d. same_class d c) classes

-- the class whose field an operation reads, where the field is null at first
abbrev pub IsClassRead : Core → CoreOp → Option ClassId → Type 0
IsClassRead core op found = (c : ClassId) → has_class (elim found [ None ↦ [] | Some d ↦ d ∷ [] ]) c ≡
    reads_field_of core c op

-- the classes that code reads are put behind those that there were
abbrev pub AreRead : Core → Tree → List ClassId → List ClassId → Type 0
AreRead core code old new = (c : ClassId) → has_class new c ≡ (has_class old c || is_read_by core code c)

-- no operation of a method pops an empty stack; that of each method of a program is so
abbrev pub IsEven : Method → Type 0
IsEven method = IsTrue (is_stack_enough method)

-- what is found of a method
pub record IsFound (core : Core) (method : Method) (found : Findings) : Type 0 where
  pub doubts : found.doubts.items ≡ doubts_of core method
  pub reads : (c : ClassId) → has_class found.reads.items c ≡ is_read_by core method.code c

-- what is found of each of these methods that is analysed
abbrev pub AreFound : Core → List Method → List Findings → Type 0
AreFound core [] [] = Unit {0}
AreFound core (m ∷ methods) (found ∷ later) = (m.status ≡ None → IsFound core m found) × AreFound core methods later
AreFound core _ _ = ⊥

-- ---- methods that are come to

abbrev pub flag_of_method : List Bool → MethodId → Bool
flag_of_method flags m = slice_index_or flags m.0 false

abbrev pub is_come_to : Reach → MethodId → Bool
is_come_to reach m = flag_of_method reach.flags.items m

-- a method whose calls are to be followed is come to
abbrev pub AreComeTo : Reach → Type 0
AreComeTo reach = (n : MethodId) → Contains reach.todo.items n → is_come_to reach n ≡ true

-- what is called by a method that is come to is come to, or the method's calls are still to be followed
abbrev pub IsClosed : List (List MethodId) → Reach → Type 0
IsClosed rows reach =
    (m n : MethodId) → n.0 < length reach.flags.items → is_come_to reach m ≡ true → Contains (row_of rows m) n →
    Contains reach.todo.items m ⊎ (is_come_to reach n ≡ true)

-- how many methods are come to
abbrev pub come_to : Reach → ℕ
come_to reach = count_by (λ (flag : Bool). flag) reach.flags.items

-- these are come to beside those that were, and nothing else changes; the calls of those that were not come to before
-- are to be followed
pub record ComesToAll (methods : List MethodId) (old new : Reach) : Type 0 where
  pub size : length new.flags.items ≡ length old.flags.items
  pub flags : (n : MethodId) → n.0 < length old.flags.items → is_come_to new n ≡
      (is_come_to old n || is_among methods n.0)
  pub kept : (n : MethodId) → Contains old.todo.items n → Contains new.todo.items n
  pub todo : (n : MethodId) → Contains new.todo.items n → Contains old.todo.items n ⊎ (is_come_to new n ≡ true)
  pub new_todo : (n : MethodId) → is_come_to new n ≡ true → is_come_to old n ≡ false → Contains new.todo.items n
  pub count : length new.todo.items + come_to old ≡ length old.todo.items + come_to new

abbrev pub ComesTo : MethodId → Reach → Reach → Type 0
ComesTo m old new = ComesToAll (m ∷ []) old new

-- the method of this number, where it is an entry of the class
abbrev pub entry_of : ClassId → ℕ → Method → List MethodId
entry_of class number method = if is_entry_of class method then record { 0 = number } ∷ [] else []

-- at most so many methods whose calls are to be followed were followed: a method that is come to then is one that was
-- before, or a chain of calls leads to it from one that was; and where the count was as many as there are methods, none
-- is left to follow
pub record IsFollowed (rows : List (List MethodId)) (count : ℕ) (old new : Reach) : Type 0 where
  pub size : length new.flags.items ≡ length old.flags.items
  pub sound : (n : MethodId) → is_come_to new n ≡ true →
      (m : MethodId) × (is_come_to old m ≡ true)
      × ((m ≡ n) ⊎ ((between : List MethodId) × IsChain rows m between n))
  pub kept : (n : MethodId) → is_come_to old n ≡ true → is_come_to new n ≡ true
  pub closed : IsClosed rows old → IsClosed rows new
  pub ended : length old.todo.items ≡ come_to old → length old.flags.items ≤ count → new.todo.items ≡ []

-- the calls of all methods that are come to are to be followed
pub record AreToFollow (reach : Reach) : Type 0 where
  pub todo : (n : MethodId) → is_come_to reach n ≡ true → Contains reach.todo.items n
  pub come : AreComeTo reach
  pub count : length reach.todo.items ≡ come_to reach

-- the entries of a class, and none other, are come to, and the calls of each are to be followed
pub record AreEntries (class : ClassId) (methods : List Method) (reach : Reach) : Type 0 where
  pub size : length reach.flags.items ≡ length methods
  pub flags : (m : MethodId) → is_come_to reach m ≡ flag_of_method (map (is_entry_of class) methods) m
  pub follow : AreToFollow reach

-- the flags are those of the wanted methods
abbrev pub AreFlags : List MethodId → List Bool → Type 0
AreFlags wanted flags = (m : MethodId) → flag_of_method flags m ≡ is_among wanted m.0

-- ---- answers by flags

abbrev pub IsInRange : ℕ → ClassId → Type 0
IsInRange count c = c.0 < count

abbrev pub first_of : List Place → Option Place
first_of [] = None
first_of (place ∷ later) = Some place

-- these classes are flagged, and no others beside those that were
pub record AreFlagged (classes : List ClassId) (old new : List Bool) : Type 0 where
  pub size : length new ≡ length old
  pub flags : (c : ClassId) → IsInRange (length old) c → flag_of new c ≡ (flag_of old c || has_class classes c)

-- the classes whose fields a method reads, and the places that fail in it, where it has a flag
abbrev pub reads_where : Bool → Findings → List ClassId
reads_where flag found = if flag then found.reads.items else []

abbrev pub places_where : Bool → (ClassId → Bool) → Findings → List Place
places_where flag is_read found = if flag then flat_map (place_failing is_read) found.doubts.items else []

-- whether what is found of the methods with a flag reads a field of class c
abbrev pub reads_in : List Bool → List Findings → ClassId → Bool
reads_in (flag ∷ flags) (found ∷ later) c = has_class (reads_where flag found) c || reads_in flags later c
reads_in _ _ c = false

-- the places that fail in the methods with a flag, where fields of these classes are read
abbrev pub reached_places : (ClassId → Bool) → List Bool → List Findings → List Place
reached_places is_read (flag ∷ flags) (found ∷ later) =
    places_where flag is_read found ++ reached_places is_read flags later
reached_places is_read _ _ = []

-- the typing of a class that has an entry
abbrev pub typings_at : Core → ClassId → List Typing
typings_at core c = if has_entry core c then typing_of core c ∷ [] else []
