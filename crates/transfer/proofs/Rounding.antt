-- The rounds of a loop, up to the first that leaves the values as they were, stand for all of them.
use Rattle.std.proofs.Common.{◌≡◌, ℕ, zero, suc, List, [], ◌++◌}
use Rattle.std.proofs.Common.{refl, sym, ap, subst, ◌∙◌}
use Rattle.std.proofs.lemmas.List.{append-nil}
use Rattle.std.specs.Prelude.{Ok, Err}
use Rattle.access_paths.specs.declared.path.Path.{Path}
use Rattle.access_paths.specs.Order.{PathSet}
use Rattle.owner_domain.specs.declared.value.State.{State}
use Rattle.access_domain.specs.Additions.{paths_added}
use Rattle.access_domain.specs.Operations.{Effects}
use Rattle.access_domain.specs.Flow.{rounds, both}
use Rattle.transfer_steps.specs.declared.found.Found.{Found}
use Rattle.transfer_steps.specs.declared.found.Stop.{Stop}
use Rattle.transfer_steps.specs.Marks.{marks, added, IsNoted, IsStopped, IsMarked}
use Rattle.transfer_loops.specs.Rounds.{round_next, round_lost, rounds_of}
use Rattle.transfer_steps.specs.Walks.{AreRoundsDone}
use Rattle.transfer_steps.proofs.JoinedResults.{joined_result-none, lost_result-none}
use Rattle.transfer_steps.proofs.Marking.{marked-then, marked-alike, stopped-first, stopped-alike}
use Rattle.transfer_steps.proofs.Flows.{append-alike}
use Rattle.transfer.proofs.Ways.{AreRounds, rounds-step, all_lost, here_last}
use Rattle.transfer_steps.proofs.Adding.{added_again}
use Rattle.transfer_bodies.proofs.ShorterCode.{rounds_turn}

abbrev with_paths : Found → PathSet → Found
with_paths found paths = record { records = found.records; wobbly = paths; result = found.result }

-- what lost paths make of what was found
adds_paths : (found : Found) (ps : List Path) →
    added found (marks [] ps) ≡ with_paths found (paths_added found.wobbly ps)
adds_paths found ps =
    (λ i. record {
      records = found.records;
      wobbly = paths_added (paths_added found.wobbly ps) (lost_result-none found.result i);
      result = joined_result-none found.result i;
    })

twice : (found : Found) (ps : List Path) →
    added (added found (marks [] ps)) (marks [] ps) ≡ added found (marks [] ps)
twice found ps =
    let more = with_paths found (paths_added found.wobbly ps) in
    ap (λ (f : Found). added f (marks [] ps)) (adds_paths found ps)
    ∙ adds_paths more ps
    ∙ ap (with_paths found) (added_again found.wobbly ps)
    ∙ sym (adds_paths found ps)

-- paths that were noted are noted again
noted-again : (old new : Found) (ps : List Path) → IsNoted old (marks [] ps) new → IsNoted new (marks [] ps) new
noted-again old new ps m = (sym (ap (λ (f : Found). added f (marks [] ps)) m.0 ∙ twice old ps ∙ sym m.0), refl)

-- all rounds that are left do what the last one did, which left the values as they were
none_left : (body : State → Effects) (total left : ℕ) (start here : State) (old now : Found) →
    here ≡ round_next here (body here).next → IsNoted now (marks [] (round_lost here (body here).next)) now →
    AreRounds body total left start here old now → AreRounds body total 0 start here old now
none_left body total zero start here old now same m at = at
none_left body total (suc rest) start here old now same m at =
    none_left body total rest start here old now same m
    (rounds-step body total (suc rest) rest start here here old now now refl at same m)

-- all rounds were done
pub rounds-done : (body : State → Effects) (left : ℕ) (start here : State) (old now : Found) → left ≡ 0 →
    AreRounds body (rounds_of start) left start here old now → AreRoundsDone body start here old now (Ok (tt {0}))
rounds-done body left start here old now none at = (
  here_last body left start here old now none at,
  all_lost body left start here old now none at,
)

-- a round that left the values as they were ends them
pub rounds-settled : (body : State → Effects) (left rest : ℕ) (start here end : State) (old now new : Found) →
    left ≡ suc rest → AreRounds body (rounds_of start) left start here old now →
    end ≡ round_next here (body here).next → end ≡ here →
    IsNoted now (marks [] (round_lost here (body here).next)) new →
    AreRoundsDone body start end old new (Ok (tt {0}))
rounds-settled body left rest start here end old now new e at next same m =
    let lost = round_lost here (body here).next in
    let total = rounds_of start in
    let stays : here ≡ round_next here (body here).next = sym same ∙ next in
    let one : AreRounds body total rest start here old new =
    rounds-step body total left rest start here here old now new e at stays m in
    let all : AreRounds body total 0 start here old new =
    none_left body total rest start here old new stays (noted-again now new lost m) one in
    subst (λ (s : State). AreRoundsDone body start s old new (Ok (tt {0}))) (sym same)
    (rounds-done body 0 start here old new refl all)

-- a round that stops, stops all of them
pub rounds-stopped : (body : State → Effects) (left rest : ℕ) (start here later : State) (old now last : Found)
    (stop : Stop) → left ≡ suc rest → AreRounds body (rounds_of start) left start here old now →
    IsStopped now (marks [] (round_lost here (body here).next)) stop →
    AreRoundsDone body start later old last (Err stop)
rounds-stopped body left rest start here later old now last stop e at m =
    let end = round_next here (body here).next in
    let lost = round_lost here (body here).next in
    let turn : (rounds body left here).1 ≡ lost ++ (rounds body rest end).1 =
    ap (λ (p : State × List Path). p.1) (ap (λ (k : ℕ). rounds body k here) e ∙ rounds_turn body rest here) in (
      tt,
      at.leads now (Err stop)
          (subst (λ (ps : List Path). IsStopped now (marks [] ps) stop) (sym turn)
          (stopped-alike now (both (marks [] lost) (marks [] (rounds body rest end).1))
          (marks [] (lost ++ (rounds body rest end).1)) stop (append-alike lost (rounds body rest end).1)
          (stopped-first now (marks [] lost) (marks [] (rounds body rest end).1) stop m))),
    )

-- where all are done, none is left
pub rounds-left : (body : State → Effects) (start here : State) (old now : Found) →
    AreRoundsDone body start here old now (Ok (tt {0})) → AreRounds body (rounds_of start) 0 start here old now
rounds-left body start here old now m =
    let lost = (rounds body (rounds_of start) start).1 in
    record {
      last = m.0;
      leads = λ new r k.
          subst (λ (ps : List Path). IsMarked old (marks [] ps) new r) (append-nil lost)
          (marked-alike old (both (marks [] lost) (marks [] [])) (marks [] (lost ++ [])) new r (append-alike lost [])
          (marked-then old (marks [] lost) now (marks [] []) new r m.1 k));
    }
