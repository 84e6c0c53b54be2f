-- Rounds of a loop behind one that leaves its state as it was change nothing and lose the same paths again.
use Rattle.std.proofs.Common.{◌≡◌, ℕ, zero, suc, ◌+◌, List, ◌++◌}
use Rattle.std.proofs.Common.{refl, sym, ap, ◌∙◌, arith, append_assoc}
use Rattle.std.specs.FinSet as set
use Rattle.access_paths.specs.declared.path.Path.{Path}
use Rattle.access_paths.specs.Order.{PathSet, path_cmp}
use Rattle.owner_domain.specs.declared.value.State.{State}
use Rattle.access_domain.specs.Additions.{paths_added}
use Rattle.access_domain.specs.Operations.{Effects}
use Rattle.access_domain.specs.Flow.{rounds}
use Rattle.access_domain.proofs.AdditionLemmas.{paths_added-append, paths_added-empty}
use Rattle.transfer_loops.specs.Rounds.{round_next, round_lost, IsSettled}
use Rattle.transfer_steps.proofs.Adding.{added_again}
use Rattle.transfer_bodies.proofs.ShorterCode.{rounds_turn}

-- some rounds and then others
rounds-more : (body : State → Effects) (k n : ℕ) (s : State) → rounds body (k + n) s ≡ (
  (rounds body n (rounds body k s).0).0,
  (rounds body k s).1 ++ (rounds body n (rounds body k s).0).1,
)
rounds-more body zero n s =
    let none : 0 + n ≡ n = omega arith in
    ap (λ (m : ℕ). rounds body m s) none
rounds-more body (suc k) n s =
    let end = round_next s (body s).next in
    let lost = round_lost s (body s).next in
    let first : rounds body (suc k) s ≡ ((rounds body k end).0, lost ++ (rounds body k end).1) =
    rounds_turn body k s in
    let rest = rounds body n (rounds body k end).0 in
    let one : suc k + n ≡ suc (k + n) = omega arith in
    ap (λ (m : ℕ). rounds body m s) one
    ∙ rounds_turn body (k + n) s
    ∙ ap (λ (p : State × List Path). (p.0, lost ++ p.1)) (rounds-more body k n end)
    ∙ ap (λ (ps : List Path). (rest.0, ps)) (sym (append_assoc lost (rounds body k end).1 rest.1))
    ∙ ap (λ (p : State × List Path). ((rounds body n p.0).0, p.1 ++ (rounds body n p.0).1)) (sym first)

settled-state : (body : State → Effects) (n : ℕ) (s : State) → IsSettled body s → (rounds body n s).0 ≡ s
settled-state body zero s same = refl
settled-state body (suc n) s same =
    ap (λ (p : State × List Path). p.0) (rounds_turn body n s)
    ∙ ap (λ (t : State). (rounds body n t).0) same
    ∙ settled-state body n s same

-- what is lost in a round that leaves the state as it was is all that later rounds lose
settled-lost : (body : State → Effects) (n : ℕ) (s : State) (w : PathSet) → IsSettled body s →
    paths_added (paths_added w (round_lost s (body s).next)) (rounds body n s).1
    ≡ paths_added w (round_lost s (body s).next)
settled-lost body zero s w same = refl
settled-lost body (suc n) s w same =
    let lost = round_lost s (body s).next in
    let all = paths_added w lost in
    ap (λ (p : State × List Path). paths_added all p.1) (rounds_turn body n s)
    ∙ ap (λ (t : State). paths_added all (lost ++ (rounds body n t).1)) same
    ∙ paths_added-append all lost (rounds body n s).1
    ∙ ap (λ (v : PathSet). paths_added v (rounds body n s).1) (added_again w lost)
    ∙ settled-lost body n s w same

pub states-early : (body : State → Effects) (s : State) (k n : ℕ) → IsSettled body (rounds body k s).0 →
    (rounds body (k + n) s).0 ≡ (rounds body k s).0
states-early body s k n same =
    ap (λ (p : State × List Path). p.0) (rounds-more body k n s) ∙ settled-state body n (rounds body k s).0 same

-- the paths of k rounds, of one that leaves the state as it was, and of others
lost_from : (body : State → Effects) (s : State) (k n : ℕ) → IsSettled body (rounds body k s).0 →
    paths_added set.empty (rounds body (k + suc n) s).1
    ≡ paths_added (paths_added set.empty (rounds body k s).1)
    (round_lost (rounds body k s).0 (body (rounds body k s).0).next)
lost_from body s k n same =
    let end = (rounds body k s).0 in
    let before = (rounds body k s).1 in
    let lost = round_lost end (body end).next in
    let known = paths_added set.empty before in
    ap (λ (p : State × List Path). paths_added set.empty p.1) (rounds-more body k (suc n) s)
    ∙ paths_added-append set.empty before (rounds body (suc n) end).1
    ∙ ap (λ (p : State × List Path). paths_added known p.1) (rounds_turn body n end)
    ∙ ap (λ (t : State). paths_added known (lost ++ (rounds body n t).1)) same
    ∙ paths_added-append known lost (rounds body n end).1
    ∙ settled-lost body n end known same

pub lost-early : (body : State → Effects) (s : State) (k n : ℕ) → IsSettled body (rounds body k s).0 →
    set.from_list {R = path_cmp} (rounds body (k + 1 + n) s).1 ≡ set.from_list {R = path_cmp} (rounds body (k + 1) s).1
lost-early body s k n same =
    let more : k + 1 + n ≡ k + suc n = omega arith in
    let one : k + suc 0 ≡ k + 1 = omega arith in
    sym (paths_added-empty (rounds body (k + 1 + n) s).1)
    ∙ ap (λ (m : ℕ). paths_added set.empty (rounds body m s).1) more
    ∙ lost_from body s k n same
    ∙ sym (lost_from body s k 0 same)
    ∙ ap (λ (m : ℕ). paths_added set.empty (rounds body m s).1) one
    ∙ paths_added-empty (rounds body (k + 1) s).1
