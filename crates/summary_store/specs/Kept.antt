-- A contract of a public call rests on this: `Locked::law`. What the value behind the lock keeps.
use Rattle.std.specs.Prelude.{◌≡◌, ℕ, ◌+◌, ◌*◌, ◌<◌, ◌≤◌, List, length, Bool, true, false, Option, option_map, map}
use Rattle.std.specs.Prelude.{Some, None, slice_get}
use Rattle.racer_base.specs.declared.ids.MethodId.{MethodId}
use Rattle.core_code.specs.Counting.{times, IsIn}
use Rattle.summary_store.specs.declared.machine.Event.{Event}
use Rattle.summary_store.specs.declared.machine.Hand.TheVariants.{Holds}
use Rattle.summary_store.specs.Machine.{Setup, Legal, replay, AllGone, IsComplete}
use Rattle.summary_store.specs.Laws.{edges, takes, IsSetup}
use Rattle.summary_store.specs.Lists.{AreLists}

-- the pieces behind the pointers of a table
abbrev pub pieces_of : {A P : Type 0} → (A → P) → List (Option A) → List (Option P)
pieces_of value table = map (option_map value) table

-- the piece behind a pointer is right, and names method m
abbrev pub IsPieceOf : {P : Type 0} → (P → MethodId) → (P → Type 0) → ℕ → P → Type 0
IsPieceOf names is_right m piece = ((names piece).0 ≡ m) × is_right piece

-- the history is legal, the lists are those of its replay, the table has a piece exactly for the methods that are done,
-- each piece fits its method, and the book counts the history
pub record Kept
    {X : Type 0} (fits : ℕ → X → Type 0) (u : Setup) (history : List Event) (lists : List (List ℕ)) (left : List Bool)
    (table : List (Option X)) (total : ℕ) : Type 0 where
  pub setup : IsSetup u
  pub legal : Legal u history
  pub are_lists : AreLists u (replay u history) lists left
  pub pieces : (m : ℕ) (x : X) → slice_get table m ≡ Some (Some x) → fits m x × (0 < times m (replay u history).done)
  pub none : (m : ℕ) → slice_get table m ≡ Some None → times m (replay u history).done ≡ 0
  pub places : (m : MethodId) → IsIn m u.methods → m.0 < length table
  pub lines : (m : MethodId) → IsIn m u.methods → m.0 < length u.rows
  pub counted : total ≡ length history

-- the history has room for every event
pub record HasRoom (u : Setup) (history : ℕ) : Type 0 where
  pub events : 2 * (length u.methods + edges u) + u.workers ≤ history

-- the history is legal, and the table has a piece exactly for the methods that are done, each right for its method; and
-- what the laws say of the history: what is held or done is analysed, takes are bounded, all gone is all done
pub record IsRight
    {P : Type 0} (names : P → MethodId) (is_right : P → Type 0) (u : Setup) (history : List Event)
    (table : List (Option P)) : Type 0 where
  pub legal : Legal u history
  pub pieces : (m : ℕ) (piece : P) → slice_get table m ≡ Some (Some piece) →
      IsPieceOf names is_right m piece × (0 < times m (replay u history).done)
  pub none : (m : ℕ) → slice_get table m ≡ Some None → times m (replay u history).done ≡ 0
  pub places : (m : MethodId) → IsIn m u.methods → m.0 < length table
  pub held : (w : ℕ) (m : MethodId) → slice_get (replay u history).hands w ≡ Some (Holds m) → IsIn m u.methods
  pub taken : takes history ≤ length u.methods + edges u
  pub known : (m : ℕ) → 0 < times m (replay u history).done → 0 < times m u.methods
  pub complete : AllGone u (replay u history) → IsComplete u history

-- there is a piece
abbrev pub has_piece : {X : Type 0} → Option (Option X) → Bool
has_piece None = false
has_piece (Some None) = false
has_piece (Some (Some x)) = true
