-- A contract of a public call rests on this: what a walk keeps.
use Rattle.std.specs.Prelude.{◌≡◌, ℕ, suc, ◌≤◌, Bool, true, false, List, [], ◌∷◌, ◌++◌, Option, None, Some}
use Rattle.std.specs.Prelude.{drop, length, map}
use Rattle.std.specs.Borrow.{Bor}
use Rattle.std.specs.BTreeSet.{BTreeSet, contains}
use Rattle.std.specs.List.{list_any}
use Rattle.std.specs.Ordering.{nat_cmp}
use Rattle.std.specs.declared.cmp.Ordering.{Ordering}
use Rattle.racer_base.specs.declared.ids.FieldId.{FieldId}
use Rattle.racer_base.specs.declared.ids.MethodId.{MethodId}
use Rattle.access_paths.specs.Paths.{same_field}
use Rattle.core_code.specs.Core.{Core}
use Rattle.core_semantics.specs.declared.answer.Turn.{Turn}
use Rattle.core_semantics.specs.declared.changes.FieldChange.{FieldChange}
use Rattle.core_semantics.specs.declared.changes.FieldChange.TheVariants.{Nothing, Field, Anything}
use Rattle.core_semantics.specs.declared.object.Start.TheVariants.{All}
use Rattle.core_semantics.specs.Changes.{Spot, step_looks}
use Rattle.core_semantics.specs.Runs.{begun}
use Rattle.core_semantics.specs.State.{State}
use Rattle.core_semantics.specs.View.{state_of}
use Rattle.core_semantics.specs.Advances.{one_step}
use Rattle.core_ways.specs.Ends.{Stopped, leg_end, leg_reads}
use Rattle.core_ways.specs.Gathered.{gathered}
use Rattle.core_ways.specs.declared.mark.Leg.{Leg}
use Rattle.witness_build_apart_laws.specs.Goes.{leg_goes}
use Rattle.witness_build_apart_laws.specs.Looks.{leg_looks}
use Rattle.witness_build_apart_laws.specs.Stores.{leg_stores}
use Rattle.witness_build_walks.specs.declared.trunk.KeptParts.{KeptParts}
use Rattle.witness_build_walks.specs.declared.walk.Walk.{Walk}

-- the order in which a walk keeps fields
abbrev pub field_cmp : FieldId → FieldId → Ordering
field_cmp f g = nat_cmp f.0 g.0

abbrev pub is_in : List FieldId → FieldId → Bool
is_in fields f = list_any (λ g. same_field g f) fields

-- each of these fields is kept
abbrev pub AreKept : BTreeSet FieldId → List FieldId → Type 0
AreKept kept fields = (f : FieldId) → is_in fields f ≡ true → contains field_cmp kept f ≡ true

abbrev pub fields_of : List Spot → List FieldId
fields_of spots = map (λ (x : Spot). x.1) spots

abbrev pub listed : Option FieldId → List FieldId
listed None = []
listed (Some f) = f ∷ []

-- the field that a step changes
abbrev pub written : FieldChange → List FieldId
written Nothing = []
written (Field f) = f ∷ []
written Anything = []

-- whether more was changed, behind such a step
abbrev pub is_loud_behind : Bool → FieldChange → Bool
is_loud_behind loud Nothing = loud
is_loud_behind loud (Field f) = loud
is_loud_behind loud Anything = true

-- the fields that are stored in are kept, unless more was changed
abbrev pub IsNoted : Bool → BTreeSet FieldId → Option (List Spot) → Type 0
IsNoted true kept stored = Unit {0}
IsNoted false kept None = ⊥
IsNoted false kept (Some spots) = AreKept kept (fields_of spots)

-- where a walk began
abbrev pub entry_state : Core → Walk → State
entry_state core w = begun core w.method w.method All

-- a walk has gone along so many steps, with these turns of which some are left
pub record IsAlong (core : Core) (w : Walk) (n : ℕ) (turns left : List Turn) : Type 0 where
  pub goes : leg_goes core w.thread n turns (entry_state core w) ≡ Some (state_of w.machine, left)
  pub given : w.given ≡ gathered [] (leg_reads core w.thread n turns (entry_state core w))
  pub reads : AreKept w.reads (fields_of (leg_looks core w.thread n turns (entry_state core w)))
  pub writes : IsNoted w.is_loud w.writes (leg_stores core w.thread n turns (entry_state core w))

abbrev pub IsWalk : Core → Walk → Type 0
IsWalk core w = IsAlong core w w.steps w.turns.items []

-- a walk at the entry of a method
pub record IsAtEntry (t : ℕ) (m : MethodId) (w : Walk) : Type 0 where
  pub thread : w.thread ≡ t
  pub method : w.method ≡ m
  pub steps : w.steps ≡ 0
  pub turns : w.turns.items ≡ []

-- a step was made with these turns, which stand behind those before
pub record HasTurned (core : Core) (t : ℕ) (rest left : List Turn) (old new : State)
    (before after : List Turn) : Type 0 where
  pub used : List Turn
  pub behind : after ≡ before ++ used
  pub front : rest ≡ used ++ left
  pub made : one_step core t used old ≡ Some (new, [])

-- the same, or the step cannot be made
abbrev pub IsTurned : Core → ℕ → List Turn → State → State → List Turn → List Turn → Option (Bor (List Turn)) → Type 0
IsTurned core t rest old new before after None =
    (one_step core t rest old ≡ None) × (new ≡ old) × (after ≡ before)
IsTurned core t rest old new before after (Some left) = HasTurned core t rest left.now old new before after

-- a walk goes on by one step, along these turns, or stops
pub record IsStopped (core : Core) (old : Walk) (rest : List Turn) (new : Walk) : Type 0 where
  pub steps : new.steps ≡ old.steps
  pub turns : new.turns.items ≡ old.turns.items
  pub none : one_step core new.thread rest (state_of new.machine) ≡ None
  pub looks : AreKept new.reads (fields_of (step_looks core (state_of new.machine) new.thread))

abbrev pub IsOnward : Core → Walk → List Turn → Walk → Option (Bor (List Turn)) → Type 0
IsOnward core old rest new None = IsStopped core old rest new
IsOnward core old rest new (Some left) =
    (new.steps ≡ suc old.steps) × (old.turns.items ++ rest ≡ new.turns.items ++ left.now)

-- a walk stopped within so many steps
pub record IsHalted (core : Core) (w : Walk) (n : ℕ) (turns : List Turn) : Type 0 where
  pub ends : leg_end core w.thread n turns (entry_state core w) ≡ Stopped (state_of w.machine)
  pub reads : AreKept w.reads (fields_of (leg_looks core w.thread n turns (entry_state core w)))

-- a walk has gone along a leg, to its end or as far as can be
abbrev pub HasGone : Core → Leg → Walk → Bool → Type 0
HasGone core leg w true = (left : List Turn) × IsAlong core w leg.steps leg.turns left
HasGone core leg w false = IsHalted core w leg.steps leg.turns

-- a list begins with another
abbrev pub IsFront : List Turn → List Turn → Type 0
IsFront front turns = front ++ drop (length front) turns ≡ turns

-- a leg goes on from where a walk is
pub record CanGoOn (w : Walk) (m : MethodId) (leg : Leg) : Type 0 where
  pub method : w.method ≡ m
  pub steps : w.steps ≤ leg.steps
  pub turns : IsFront w.turns.items leg.turns

-- a walk is where another is, and knows all that the other knows
pub record IsSame (w copy : Walk) : Type 0 where
  pub machine : state_of copy.machine ≡ state_of w.machine
  pub thread : copy.thread ≡ w.thread
  pub method : copy.method ≡ w.method
  pub steps : copy.steps ≡ w.steps
  pub turns : copy.turns.items ≡ w.turns.items
  pub given : copy.given ≡ gathered [] w.given
  pub reads : (fields : List FieldId) → AreKept w.reads fields → AreKept copy.reads fields
  pub writes : (fields : List FieldId) → AreKept w.writes fields → AreKept copy.writes fields
  pub loud : copy.is_loud ≡ w.is_loud

-- a copy of what a walk keeps beside its machine
pub record HasKept (w : Walk) (copy : KeptParts) : Type 0 where
  pub turns : copy.turns.items ≡ w.turns.items
  pub given : copy.given ≡ gathered [] w.given
  pub reads : (fields : List FieldId) → AreKept w.reads fields → AreKept copy.reads fields
  pub writes : (fields : List FieldId) → AreKept w.writes fields → AreKept copy.writes fields
