-- No public contract rests on this: what is made of a program so far.
use Rattle.std.specs.Prelude.{◌≡◌, ℕ, ◌+◌, ◌<◌, Bool, true, false, List, [], ◌∷◌, ◌++◌, Option, None, Some, length}
use Rattle.std.specs.Prelude.{Contains, IfSome, MatchOption, filter, if◌then◌else◌, is_some, map, option_map, replicate}
use Rattle.std.specs.Prelude.{slice_index_or, slice_set}
use Rattle.std.specs.Arc.{arc_value}
use Rattle.std.specs.List.{flat_map, list_any, range_with_len}
use Rattle.racer_base.specs.declared.ids.MethodId.{MethodId}
use Rattle.core_code.specs.declared.program.Program.{Program}
use Rattle.core_code.specs.Calls.{is_analysed}
use Rattle.core_code.specs.CalleeRows.{AreRowsOf, rows_in}
use Rattle.core_code.specs.Chains.{row_of}
use Rattle.core_code.specs.Core.{Core}
use Rattle.core_code.specs.Program.{core}
use Rattle.access_domain.specs.declared.summary.Outcome.{Outcome}
use Rattle.access_domain.specs.Outcomes.{AreOutcomes}
use Rattle.row_links.specs.Lists.{HasEachOnce, list_at}
use Rattle.transfer.specs.declared.finished.Finished.{Finished}
use Rattle.transfer.specs.Callees.{SharedFinished}
use Rattle.transfer.specs.Tables.{IsFinished, IsTable, finished_at}
use Rattle.transfer_ties.specs.Again.{analysed_at, is_again, level_of}
use Rattle.edit_session.specs.declared.before.Before.{Before}
use Rattle.edit_session.specs.declared.work.Made.{Made}
use Rattle.edit_session.specs.declared.work.Work.{Work}
use Rattle.edit_session.specs.Sessions.{IsBefore, TellsDifference, methods_due, old_core}
use Rattle.edit_session.specs.Whole.{IsWhole}

abbrev pub new_core : Work → Core
new_core work = core (arc_value work.program.now)

abbrev pub no_methods : ℕ → List (Option SharedFinished)
no_methods count = replicate count None

-- ---- what is as it was

-- whether an analysed method is not as it was before
abbrev pub is_due : Option Before → Core → MethodId → Bool
is_due None program m = true
is_due (Some before) program m = is_again (old_core before) program m

-- those of them that are analysed again
abbrev pub due_of : Option Before → Core → List MethodId → List MethodId
due_of before program ms = filter (is_due before program) ms

-- whether the outcome of a method is another than its partner's
abbrev pub TellsOther : Core → Option Before → MethodId → Outcome → Bool → Type 0
TellsOther program None m outcome differs = differs ≡ true
TellsOther program (Some before) m outcome differs = TellsDifference program before m outcome differs

-- the same of a finished method
abbrev pub IsOther : Core → Option Before → Finished → Bool → Type 0
IsOther program before finished differs = TellsOther program before finished.method (arc_value finished.outcome) differs

-- ---- work

abbrev pub row_in : Work → MethodId → List MethodId
row_in work m = row_of (rows_in work.rows.now) m

-- whether the outcome of a method is another; so it is taken where this is not told
abbrev pub flag_at : List Bool → MethodId → Bool
flag_at flags m = slice_index_or flags m.0 true

abbrev pub differs_at : Work → MethodId → Bool
differs_at work m = flag_at work.differs.items m

abbrev pub calls_differ : Work → MethodId → Bool
calls_differ work m = list_any (differs_at work) (row_in work m)

-- whether the method is finished
abbrev pub is_done : Work → MethodId → Bool
is_done work m = is_some (finished_at work.finished.items m)

-- these methods are finished
abbrev pub AreFound : List (Option SharedFinished) → List MethodId → Type 0
AreFound table ms = (n : MethodId) → Contains ms n → is_some (finished_at table n) ≡ true

abbrev pub AreFinished : Work → List MethodId → Type 0
AreFinished work ms = AreFound work.finished.items ms

abbrev pub some_of : SharedFinished → Option Finished
some_of f = Some (arc_value f)

abbrev pub IsFinishedFor : Work → MethodId → Finished → Type 0
IsFinishedFor work m finished = IsFinished (new_core work) m finished

-- what is right at each turn: what is finished is so for this program, and it is told whether outcomes are others
pub record IsRight (work : Work) : Type 0 where
  pub rows_are : AreRowsOf (new_core work) work.rows.now
  pub before_is : IfSome work.before (IsBefore (new_core work))
  pub places : length work.finished.items ≡ length (new_core work).methods
  pub flags : length work.differs.items ≡ length (new_core work).methods
  pub table : IsTable (new_core work) work.finished.items
  pub told : (m : MethodId) → IfSome (finished_at work.finished.items m) (λ finished.
      IsOther (new_core work) work.before finished (differs_at work m))

-- nothing is finished
pub record IsBegun (program : Core) (before : Option Before) (work : Work) : Type 0 where
  pub program_is : new_core work ≡ program
  pub before_is : work.before ≡ before
  pub none_analysed : work.analysed.items ≡ []

-- an analysed method, and those that it calls are finished
pub record IsNext (work : Work) (m : MethodId) : Type 0 where
  pub right : IsRight work
  pub analysed : is_analysed (new_core work) m ≡ true
  pub callees : AreFinished work (row_in work m)

-- the method with the outcome that it had
pub record HasItsOutcome (work : Work) (m : MethodId) (finished : Finished) : Type 0 where
  pub not_due : is_due work.before (new_core work) m ≡ false
  pub right : IsFinishedFor work m finished
  pub told : IsOther (new_core work) work.before finished false

-- that, exactly where it is as it was
abbrev pub IsKept : Work → MethodId → Option Finished → Type 0
IsKept work m found = MatchOption found (is_due work.before (new_core work) m ≡ true) (HasItsOutcome work m)

-- what does not change
pub record GoesOn (old new : Work) : Type 0 where
  pub program_is : new.program ≡ old.program
  pub rows_are : new.rows ≡ old.rows
  pub before_is : new.before ≡ old.before

-- a finished method went to its number, and no other did
pub record IsPut (old : Work) (finished : Finished) (differs : Bool) (new : Work) : Type 0 where
  pub goes_on : GoesOn old new
  pub places : length new.finished.items ≡ length old.finished.items
  pub here : finished_at new.finished.items finished.method ≡ Some finished
  pub others : (m : MethodId) → (m ≡ finished.method → ⊥) →
      finished_at new.finished.items m ≡ finished_at old.finished.items m
  pub differs_are : new.differs.items ≡ slice_set old.differs.items finished.method.0 differs

-- a method is finished, and no other one
pub record IsFinishedNow (old : Work) (m : MethodId) (new : Work) : Type 0 where
  pub right : IsRight new
  pub goes_on : GoesOn old new
  pub here : is_done new m ≡ true
  pub others : (n : MethodId) → is_done old n ≡ true → is_done new n ≡ true

-- the same, and it was analysed
pub record IsAnalysed (old : Work) (m : MethodId) (new : Work) : Type 0 where
  pub finished : IsFinishedNow old m new
  pub analysed : new.analysed.items ≡ old.analysed.items ++ m ∷ []

-- the same, where it is due; and it is told where it goes
pub record IsDone (old : Work) (m : MethodId) (new : Work) (goes_to : ℕ) : Type 0 where
  pub finished : IsFinishedNow old m new
  pub list : goes_to ≡ (if is_due old.before (new_core old) m then 1 else 0)
  pub analysed : new.analysed.items ≡ old.analysed.items ++ due_of old.before (new_core old) (m ∷ [])

-- ---- lists

-- the methods of a list
abbrev pub methods_at : List (List ℕ) → ℕ → List MethodId
methods_at lists list = map (λ n. record { 0 = n }) (list_at lists list)

-- the methods of a list are analysed ones, and those that they call are finished
pub record IsReady (work : Work) (lists : List (List ℕ)) (list : ℕ) : Type 0 where
  pub right : IsRight work
  pub there : list < length lists
  pub behind : 1 < list
  pub each_once : HasEachOnce lists
  pub analysed : (m : MethodId) → Contains (methods_at lists list) m → is_analysed (new_core work) m ≡ true
  pub callees : (m : MethodId) → Contains (methods_at lists list) m → AreFinished work (row_in work m)

-- the methods of a list are finished, and those that are due were analysed
pub record IsThrough (old : Work) (before : List (List ℕ)) (list : ℕ) (new : Work) (after : List (List ℕ)) :
    Type 0 where
  pub right : IsRight new
  pub goes_on : GoesOn old new
  pub all : AreFinished new (methods_at before list)
  pub stay : (m : MethodId) → is_done old m ≡ true → is_done new m ≡ true
  pub analysed : new.analysed.items ≡
      old.analysed.items ++ due_of old.before (new_core old) (methods_at before list)
  pub each_once : HasEachOnce after
  pub as_many : length after ≡ length before
  pub others : (l : ℕ) → 1 < l → (l ≡ list → ⊥) → list_at after l ≡ list_at before l

-- the analysed methods stand in lists by their levels, of which there are so many
pub record AreReady (work : Work) (lists : List (List ℕ)) (levels : ℕ) : Type 0 where
  pub right : IsRight work
  pub as_many : length lists ≡ 2 + levels
  pub each_once : HasEachOnce lists
  pub by_level : (level : ℕ) → methods_at lists (2 + level) ≡ analysed_at (new_core work) level

-- the analysed methods of the levels below one
abbrev pub analysed_below : Core → ℕ → List MethodId
analysed_below core levels = flat_map (analysed_at core) (range_with_len 0 levels)

-- the methods of so many levels are finished, and those that are due were analysed
pub record AreThrough (old : Work) (levels : ℕ) (new : Work) : Type 0 where
  pub right : IsRight new
  pub goes_on : GoesOn old new
  pub all : (m : MethodId) → is_analysed (new_core old) m ≡ true → level_of (new_core old) m < levels →
      is_done new m ≡ true
  pub analysed : new.analysed.items ≡
      old.analysed.items ++ due_of old.before (new_core old) (analysed_below (new_core old) levels)

-- ---- what is made

abbrev pub outcome_found : List (Option SharedFinished) → ℕ → Option Outcome
outcome_found table place =
    option_map (λ (f : Finished). arc_value f.outcome) (finished_at table (record { 0 = place }))

-- what is made of work is what it made, with the outcomes
pub record IsMadeOf (work : Work) (made : Made) : Type 0 where
  pub finished : made.finished.items ≡ work.finished.items
  pub outcomes : AreOutcomes (new_core work) made.outcomes.items
  pub analysed : made.analysed.items ≡ work.analysed.items

-- all methods of the program are finished, behind that one
pub record IsMade (program : Program) (before : Option Before) (made : Made) : Type 0 where
  pub whole : IsWhole (core program) made.finished.items
  pub outcomes : AreOutcomes (core program) made.outcomes.items
  pub analysed : made.analysed.items ≡ methods_due before (core program)
