-- Code that is gone through part by part is gone through whole.
use Rattle.std.proofs.Common.{◌≡◌, ℕ, suc, Bool, true, false, List, [], ◌++◌}
use Rattle.std.proofs.Common.{Option, None, Some, refl, sym, ap, subst, ◌∙◌}
use Rattle.std.specs.Prelude.{Result, Ok, Err, IfOk}
use Rattle.access_paths.specs.declared.path.Path.{Path}
use Rattle.owner_domain.specs.declared.value.State.{State}
use Rattle.owner_domain.specs.Values.{joined_state, lost_state}
use Rattle.access_domain.specs.Operations.{Effects, goes_on}
use Rattle.access_domain.specs.Flow.{both, after, chosen, rounds, looped, joined_next, lost_next}
use Rattle.transfer_steps.specs.declared.found.Found.{Found}
use Rattle.transfer_steps.specs.declared.found.Stop.{Stop}
use Rattle.transfer_steps.specs.Marks.{marks, IsNoted, IsStopped, IsMarked, LeadsTo}
use Rattle.transfer_loops.specs.Rounds.{round_next, round_lost, rounds_of}
use Rattle.transfer_steps.specs.Walks.{IsFlow, next_of}
use Rattle.transfer_steps.proofs.Adding.{chosen-alike, repeated-alike}
use Rattle.transfer_steps.proofs.Marking.{noted-then, noted-alike, noted-nothing, stopped-then, stopped-first}
use Rattle.transfer_steps.proofs.Marking.{stopped-alike, marked-then, marked-alike}
use Rattle.transfer_steps.proofs.Flows.{append-alike}
use Rattle.transfer_bodies.proofs.ShorterCode.{rounds_turn}

-- ---- sequences

abbrev after_at : Option State → Effects → (State → Effects) → Effects
after_at o e rest = elim o as (λ _. Effects) [ None ↦ e | Some s ↦ both e (rest s) ]

flow-both : (e f : Effects) (here : State) (old now new : Found) (r : Result Bool Stop) → IsNoted old e now →
    IsFlow f here now new r → IsFlow (both e f) here old new r
flow-both e f here old now new (Ok goes_on) m k = (k.0, noted-then old e now f new m k.1)
flow-both e f here old now new (Err stop) m k = stopped-then old e now f stop m k

pub flow-then : (e : Effects) (rest : State → Effects) (s here : State) (old now new : Found) (r : Result Bool Stop) →
    e.next ≡ Some s → IsNoted old e now → IsFlow (rest s) here now new r → IsFlow (after e rest) here old new r
flow-then e rest s here old now new r next m k =
    subst (λ (o : Option State). IsFlow (after_at o e rest) here old new r) (sym next)
    (flow-both e (rest s) here old now new r m k)

pub flow-ended : (e : Effects) (rest : State → Effects) (here : State) (old now : Found) → e.next ≡ None →
    IsNoted old e now → IsFlow (after e rest) here old now (Ok false)
flow-ended e rest here old now next m =
    subst (λ (o : Option State). IsFlow (after_at o e rest) here old now (Ok false)) (sym next) (next, m)

stopped_at : (o : Option State) (e : Effects) (rest : State → Effects) (old : Found) (stop : Stop) →
    IsStopped old e stop → IsStopped old (after_at o e rest) stop
stopped_at None e rest old stop m = m
stopped_at (Some s) e rest old stop m = stopped-first old e (rest s) stop m

pub stopped-after : (e : Effects) (rest : State → Effects) (old : Found) (stop : Stop) → IsStopped old e stop →
    IsStopped old (after e rest) stop
stopped-after e rest old stop m = stopped_at e.next e rest old stop m

-- ---- choices

pub flow-chosen : (l r : Effects) (left right : Option State) (here : State) (old now later new : Found)
    (answer : Result Bool Stop) → l.next ≡ left → r.next ≡ right → IsNoted old l now → IsNoted now r later →
    IfOk answer (λ goes_on. next_of goes_on here ≡ joined_next left right) →
    IsMarked later (marks [] (lost_next left right)) new answer → IsFlow (chosen l r) here old new answer
flow-chosen l r left right here old now later new (Ok goes_on) at_left at_right m k state found = (
  (λ i. joined_next (at_left i) (at_right i)) ∙ sym state,
  noted-alike old (both (both l r) (marks [] (lost_next l.next r.next))) (chosen l r) new (chosen-alike l r)
      (noted-then old (both l r) later (marks [] (lost_next l.next r.next)) new (noted-then old l now r later m k)
      (subst (λ (ps : List Path). IsNoted later (marks [] ps) new)
      (λ i. lost_next (sym at_left i) (sym at_right i)) found)),
)
flow-chosen l r left right here old now later new (Err stop) at_left at_right m k state found =
    stopped-alike old (both (both l r) (marks [] (lost_next l.next r.next))) (chosen l r) stop (chosen-alike l r)
    (stopped-then old (both l r) later (marks [] (lost_next l.next r.next)) stop (noted-then old l now r later m k)
    (subst (λ (ps : List Path). IsStopped later (marks [] ps) stop)
    (λ i. lost_next (sym at_left i) (sym at_right i)) found))

stopped_sides : (l r : Effects) (old : Found) (stop : Stop) → IsStopped old (both l r) stop →
    IsStopped old (chosen l r) stop
stopped_sides l r old stop m =
    stopped-alike old (both (both l r) (marks [] (lost_next l.next r.next))) (chosen l r) stop (chosen-alike l r)
    (stopped-first old (both l r) (marks [] (lost_next l.next r.next)) stop m)

pub stopped-left : (l r : Effects) (old : Found) (stop : Stop) → IsStopped old l stop → IsStopped old (chosen l r) stop
stopped-left l r old stop m = stopped_sides l r old stop (stopped-first old l r stop m)

pub stopped-right : (l r : Effects) (old now : Found) (stop : Stop) → IsNoted old l now → IsStopped now r stop →
    IsStopped old (chosen l r) stop
stopped-right l r old now stop m k = stopped_sides l r old stop (stopped-then old l now r stop m k)

-- ---- loops

turn_at : (o : Option State) (body : State → Effects) (n : ℕ) (s : State) →
    (elim o as (λ _. State × List Path) [
      | None ↦ rounds body n s
      | Some end ↦
          ((rounds body n (joined_state s end)).0, lost_state s end ++ (rounds body n (joined_state s end)).1)
    ]) ≡ ((rounds body n (round_next s o)).0, round_lost s o ++ (rounds body n (round_next s o)).1)
turn_at None body n s = refl
turn_at (Some end) body n s = refl

-- so many rounds are left, and lead to the same state and the same lost paths as all of them do from the beginning
pub record AreRounds (body : State → Effects) (total left : ℕ) (start here : State) (old now : Found) : Type 0 where
  pub last : (rounds body left here).0 ≡ (rounds body total start).0
  pub leads : LeadsTo old (marks [] (rounds body total start).1) now (marks [] (rounds body left here).1)

pub rounds-begin : (body : State → Effects) (total : ℕ) (start : State) (old : Found) →
    AreRounds body total total start start old old
rounds-begin body total start old = record { last = refl; leads = λ new r m. m }

pub rounds-step : (body : State → Effects) (total left rest : ℕ) (start here end : State) (old now new : Found) →
    left ≡ suc rest → AreRounds body total left start here old now → end ≡ round_next here (body here).next →
    IsNoted now (marks [] (round_lost here (body here).next)) new → AreRounds body total rest start end old new
rounds-step body total left rest start here end old now new e at next m =
    let next_here = round_next here (body here).next in
    let lost_here = round_lost here (body here).next in
    let turn : rounds body left here ≡
    ((rounds body rest next_here).0, lost_here ++ (rounds body rest next_here).1) =
    ap (λ (k : ℕ). rounds body k here) e ∙ rounds_turn body rest here in
    subst (λ (s : State). AreRounds body total rest start s old new) (sym next)
    (record {
      last = sym (ap (λ (p : State × List Path). p.0) turn) ∙ at.last;
      leads = λ later r k.
          at.leads later r
          (subst (λ (ps : List Path). IsMarked now (marks [] ps) later r)
          (sym (ap (λ (p : State × List Path). p.1) turn))
          (marked-alike now (both (marks [] lost_here) (marks [] (rounds body rest next_here).1))
          (marks [] (lost_here ++ (rounds body rest next_here).1)) later r
          (append-alike lost_here (rounds body rest next_here).1)
          (marked-then now (marks [] lost_here) new (marks [] (rounds body rest next_here).1) later r m k)));
    })

pub stopped_lost : (body : State → Effects) (start : State) (old : Found) (stop : Stop) →
    IsStopped old (marks [] (rounds body (rounds_of start) start).1) stop → IsStopped old (looped body start) stop
stopped_lost body start old stop m =
    let all = rounds body (rounds_of start) start in
    stopped-alike old (both (marks [] all.1) (body all.0)) (looped body start) stop (repeated-alike all.1 all.0 body)
    (stopped-first old (marks [] all.1) (body all.0) stop m)

-- the paths that all rounds lose are noted
pub all_lost : (body : State → Effects) (left : ℕ) (start here : State) (old now : Found) → left ≡ 0 →
    AreRounds body (rounds_of start) left start here old now →
    IsNoted old (marks [] (rounds body (rounds_of start) start).1) now
all_lost body left start here old now none at =
    at.leads now (Ok (tt {0}))
    (subst (λ (k : ℕ). IsMarked {X = Unit {0}} now (marks [] (rounds body k here).1) now (Ok (tt {0}))) (sym none)
    (noted-nothing now here))

pub here_last : (body : State → Effects) (left : ℕ) (start here : State) (old now : Found) → left ≡ 0 →
    AreRounds body (rounds_of start) left start here old now → here ≡ (rounds body (rounds_of start) start).0
here_last body left start here old now none at = sym (ap (λ (k : ℕ). (rounds body k here).0) none) ∙ at.last

pub rounds-ended : (body : State → Effects) (left : ℕ) (start here : State) (old now new : Found) → left ≡ 0 →
    AreRounds body (rounds_of start) left start here old now → IsNoted now (body here) new →
    IsFlow (looped body start) here old new (Ok true)
rounds-ended body left start here old now new none at m =
    let all = rounds body (rounds_of start) start in
    let last : here ≡ all.0 = here_last body left start here old now none at in (
      ap Some (sym last),
      noted-alike old (both (marks [] all.1) (body all.0)) (looped body start) new (repeated-alike all.1 all.0 body)
          (noted-then old (marks [] all.1) now (body all.0) new (all_lost body left start here old now none at)
          (subst (λ (s : State). IsNoted now (body s) new) last m)),
    )

pub last-stopped : (body : State → Effects) (left : ℕ) (start here : State) (old now : Found) (stop : Stop) →
    left ≡ 0 → AreRounds body (rounds_of start) left start here old now → IsStopped now (body here) stop →
    IsStopped old (looped body start) stop
last-stopped body left start here old now stop none at m =
    let all = rounds body (rounds_of start) start in
    let last : here ≡ all.0 = here_last body left start here old now none at in
    stopped-alike old (both (marks [] all.1) (body all.0)) (looped body start) stop (repeated-alike all.1 all.0 body)
    (stopped-then old (marks [] all.1) now (body all.0) stop (all_lost body left start here old now none at)
    (subst (λ (s : State). IsStopped now (body s) stop) last m))
