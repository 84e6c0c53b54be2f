-- What a look says of the next step of a thread.
use Rattle.std.proofs.Common.{◌≡◌, refl, ℕ, true, false, Option, None, Some}
use Rattle.core_code.specs.declared.code.Op.{Op as CoreOp}
use Rattle.core_code.specs.declared.code.Op.TheVariants.{Get}
use Rattle.core_semantics.specs.declared.look.Look.TheVariants.{Turn, Read, Other}
use Rattle.core_semantics.specs.Looks.{look_of, next_look, op_look}
use Rattle.core_semantics.specs.Runs.{is_turn, next_todo, wants_turn}
use Rattle.core_semantics.specs.State.{Todo, Op, Choice, Loop, Sync, Unlock, State}

-- an operation is no turn
no_turn : (op : CoreOp) → op_look op ≡ Turn → false ≡ true
no_turn (Get x) is = absurd cc
no_turn _ is = absurd cc

wanted : (next : Option Todo) → next_look next ≡ Turn → (elim next [ None ↦ false | Some todo ↦ is_turn todo ]) ≡ true
wanted None is = absurd cc
wanted (Some (Op place op)) is = no_turn op is
wanted (Some (Choice left right)) is = refl
wanted (Some (Loop body)) is = refl
wanted (Some (Sync lock body)) is = absurd cc
wanted (Some Unlock) is = absurd cc

unwanted_by_read : (next : Option Todo) → next_look next ≡ Read →
    (elim next [ None ↦ false | Some todo ↦ is_turn todo ]) ≡ false
unwanted_by_read None is = refl
unwanted_by_read (Some (Op place op)) is = refl
unwanted_by_read (Some (Choice left right)) is = absurd cc
unwanted_by_read (Some (Loop body)) is = absurd cc
unwanted_by_read (Some (Sync lock body)) is = refl
unwanted_by_read (Some Unlock) is = refl

unwanted_by_other : (next : Option Todo) → next_look next ≡ Other →
    (elim next [ None ↦ false | Some todo ↦ is_turn todo ]) ≡ false
unwanted_by_other None is = refl
unwanted_by_other (Some (Op place op)) is = refl
unwanted_by_other (Some (Choice left right)) is = absurd cc
unwanted_by_other (Some (Loop body)) is = absurd cc
unwanted_by_other (Some (Sync lock body)) is = refl
unwanted_by_other (Some Unlock) is = refl

pub turn_wanted : (s : State) (t : ℕ) → look_of s t ≡ Turn → wants_turn s t ≡ true
turn_wanted s t is = wanted (next_todo s t) is

pub read_straight : (s : State) (t : ℕ) → look_of s t ≡ Read → wants_turn s t ≡ false
read_straight s t is = unwanted_by_read (next_todo s t) is

pub other_straight : (s : State) (t : ℕ) → look_of s t ≡ Other → wants_turn s t ≡ false
other_straight s t is = unwanted_by_other (next_todo s t) is
