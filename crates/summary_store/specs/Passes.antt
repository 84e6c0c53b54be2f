-- A contract of a public call rests on this: `take_at`. What contracts see of a pass.
use Rattle.std.specs.Prelude.{◌≡◌, ℕ, zero, suc, Bool, true, false, List, [], ◌∷◌, ◌++◌, length, Option, None, Some}
use Rattle.std.specs.Prelude.{slice_get, All}
use Rattle.racer_base.specs.declared.ids.MethodId.{MethodId}
use Rattle.core_code.specs.Chains.{row_of}
use Rattle.summary_store.specs.declared.machine.Hand.{Hand}
use Rattle.summary_store.specs.declared.machine.Hand.TheVariants.{Free, Holds, Gone}
use Rattle.summary_store.specs.Machine.{Machine, IsDone}

pub record PassView : Type 0 where
  pub number : ℕ
  pub hand : Hand
  pub found : ℕ
  pub made : ℕ

-- the pass holds what the machine has for its number, and so has left exactly where that worker has
abbrev pub Agrees : Machine → PassView → Type 0
Agrees s p = slice_get s.hands p.number ≡ Some p.hand

-- the method in a hand, if there is one
abbrev pub method_in : Hand → Option MethodId
method_in Free = None
method_in (Holds m) = Some m
method_in Gone = None

-- whether it is the hand of a worker that has left
abbrev pub is_gone : Hand → Bool
is_gone Free = false
is_gone (Holds m) = false
is_gone Gone = true

-- the hand holds a method whose row has this callee next
abbrev pub WantsNext : List (List MethodId) → Hand → ℕ → MethodId → Type 0
WantsNext rows Free found callee = ⊥
WantsNext rows (Holds m) found callee = slice_get (row_of rows m) found ≡ Some callee
WantsNext rows Gone found callee = ⊥

-- the hand holds a method whose row is done, and for which the piece is right
abbrev pub MayPublish : {P : Type 0} → (ℕ → P → Type 0) → List (List MethodId) → Machine → Hand → P → Type 0
MayPublish fits rows s Free piece = ⊥
MayPublish fits rows s (Holds m) piece = All (IsDone s) (row_of rows m) × fits m.0 piece
MayPublish fits rows s Gone piece = ⊥

-- the method in a hand that holds one
abbrev pub held_in : Hand → MethodId
held_in Free = record { 0 = 0 }
held_in (Holds m) = m
held_in Gone = record { 0 = 0 }

abbrev pub pass_view : ℕ → Hand → ℕ → ℕ → PassView
pass_view number hand found made = record { number = number; hand = hand; found = found; made = made }

-- the passes at the start
abbrev pub first_passes : ℕ → List PassView
first_passes zero = []
first_passes (suc n) = first_passes n ++ pass_view n Free 0 0 ∷ []

-- the hand holds a method all of whose row was found, and for which the piece is right
abbrev pub MayHand : {P : Type 0} → (ℕ → P → Type 0) → List (List MethodId) → Hand → ℕ → P → Type 0
MayHand fits rows Free found piece = ⊥
MayHand fits rows (Holds m) found piece = (found ≡ length (row_of rows m)) × fits m.0 piece
MayHand fits rows Gone found piece = ⊥

-- all of the row of the method in the hand is done
abbrev pub IsRowDone : List (List MethodId) → Machine → Hand → Type 0
IsRowDone rows s Free = ⊥
IsRowDone rows s (Holds m) = All (IsDone s) (row_of rows m)
IsRowDone rows s Gone = ⊥
