-- Rounds over a shorter body are those over the body.
use Rattle.std.proofs.Common.{◌≡◌, ℕ, Bool, true, List, [], Some, length, is_some, refl, ap, subst, ◌∙◌}
use Rattle.std.specs.Prelude.{Result, OnOk}
use Rattle.access_paths.specs.declared.path.Path.{Path}
use Rattle.owner_domain.specs.declared.value.State.{State}
use Rattle.core_code.specs.Tree.{Tree, Loop}
use Rattle.core_code.specs.Facts.{height_after}
use Rattle.access_domain.specs.FlowContext.{FlowContext}
use Rattle.access_domain.specs.Flow.{flow, rounds}
use Rattle.transfer_loops.specs.Rounds.{rounds_of}
use Rattle.transfer_loops.proofs.Heights.{loop_heights}
use Rattle.transfer_bodies.specs.Shortening.{IsShorter}
use Rattle.transfer_bodies.proofs.ShorterCode.{same_rounds}
use Rattle.transfer_steps.specs.declared.found.Found.{Found}
use Rattle.transfer_steps.specs.declared.found.Stop.{Stop}
use Rattle.transfer.specs.Heights.{IsHighEnough}
use Rattle.transfer_steps.specs.Marks.{IsMarked, marks}
use Rattle.transfer_steps.specs.Walks.{AreRoundsDone}
use Rattle.transfer.proofs.HighEnough.{high_rounds}
use Rattle.transfer_steps.proofs.Longer.{on_ok_then}
use Rattle.racer_base.proofs.Lists.{given_some}

-- what is said of a shortened body, where the stack has this height
pub record IsBody (from : ℕ) (short body : Tree) : Type 0 where
  pub next : (g : FlowContext) (locked : Bool) (s : State) → length s.stack ≡ from →
      is_some (height_after body from) ≡ true → (flow g short locked s).next ≡ (flow g body locked s).next
  pub height : is_some (height_after body from) ≡ true → height_after short from ≡ height_after body from

body_height : (body : Tree) (n : ℕ) → is_some (height_after (Loop body) n) ≡ true → height_after body n ≡ Some n
body_height body n e =
    let m = given_some (height_after (Loop body) n) e in
    (loop_heights body n m.0 m.1).1

pub rounds_whole : (g : FlowContext) (locked : Bool) (height : ℕ) (short body : Tree) (s here : State) (old new : Found)
    (r : Result (Unit {0}) Stop) → height ≡ length s.stack → IsBody height short body → IsHighEnough (Loop body) s →
    AreRoundsDone (flow g short locked) s here old new r → AreRoundsDone (flow g body locked) s here old new r
rounds_whole g locked height short body s here old new r is b high done =
    let n = length s.stack in
    let at : IsBody n short body = subst (λ (k : ℕ). IsBody k short body) is b in
    let whole : height_after body n ≡ Some n = body_height body n high in
    let some : is_some (height_after body n) ≡ true = ap is_some whole in
    let shorter : IsShorter n n short body =
    record { height = at.height some ∙ whole; next = λ g locked s long. at.next g locked s long some } in
    subst (λ (p : State × List Path). OnOk r (here ≡ p.0) × IsMarked old (marks [] p.1) new r)
    (same_rounds g locked n short body shorter (rounds_of s) s refl) done

pub high_behind : (g : FlowContext) (locked : Bool) (body : Tree) (s here : State) (old new : Found)
    (r : Result (Unit {0}) Stop) → IsHighEnough (Loop body) s →
    AreRoundsDone (flow g body locked) s here old new r → OnOk r (IsHighEnough (Loop body) here)
high_behind g locked body s here old new r high done =
    on_ok_then r (here ≡ (rounds (flow g body locked) (rounds_of s) s).0) (IsHighEnough (Loop body) here) done.0
    (high_rounds g body locked s here high)
