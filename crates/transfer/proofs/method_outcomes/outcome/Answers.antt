use Rattle.std.proofs.Common.{◌≡◌, List, false, sym, ap, subst, ◌∙◌}
use Rattle.owner_domain.specs.declared.value.Value.{Value}
use Rattle.owner_domain.specs.declared.value.State.{State}
use Rattle.owner_domain.specs.declared.numbered.NumberedState.{NumberedState}
use Rattle.owner_domain.specs.Numbered.{read_state, AreInRange}
use Rattle.core_code.specs.Core.{method_of}
use Rattle.core_code.specs.Program.{core}
use Rattle.access_domain.specs.Flow.{flow}
use Rattle.access_domain.specs.FlowContext.{given_of}
use Rattle.access_domain.specs.Summaries.{effects_given, start_of}
use Rattle.transfer_steps.specs.declared.found.Found.{Found}
use Rattle.transfer_steps.specs.declared.noted_calls.NotedCall.{NotedCall}
use Rattle.transfer_steps.specs.Known.{table_of}
use Rattle.transfer_steps.specs.Marks.{nothing}
use Rattle.transfer_steps.specs.NotedCalls.{AreFound}
use Rattle.transfer_steps.specs.Noting.{IsWalk}
use Rattle.transfer_steps.specs.Numbered.{read_found, read_calls, AreCallNumbers, AreFoundNumbers}
use Rattle.transfer_steps.specs.Walks.{IsFlow}
use Rattle.transfer.proofs.Beginnings.{found-firsts}
use Rattle.transfer_steps.proofs.Flows.{marked-flow}
use Rattle.transfer.proofs.HighEnough.{high_start}
use Rattle.transfer_steps.proofs.Longer.{on_ok_then}
use Rattle.transfer.proofs.Beginnings.{stack_of_values}
use Rattle.transfer.proofs.method_outcomes.outcome.Goals as goal

pub walk_code-walked-requires-clause-high : goal.walk_code-walked-requires-clause-high
walk_code-walked-requires-clause-high c =
    let table = c.start.new.table in
    high_start (method_of c.args.method.now).code (read_state table c.new-state.result)
    (ap (λ (s : NumberedState). (read_state table s).stack) c.new-state.ensures) c.requires

pub walk_code-walked-requires-clause-ready : goal.walk_code-walked-requires-clause-ready
walk_code-walked-requires-clause-ready c =
    let method = method_of c.args.method.now in
    let g = given_of (core c.args.program.now) (table_of c.args.callees.now) method.main in
    let table = c.start.new.table in
    let found = c.nothing-found.result in
    record {
      numbers =
          record {
            once = c.in-Ok.ensures.once;
            state = subst (AreInRange table) (sym c.new-state.ensures) (c.in-Ok.ensures.range, tt);
            noted = c.nothing-found.ensures.numbers table;
          };
      calls =
          record {
            called = subst (AreCallNumbers table) (sym c.new.ensures.empty) tt;
            found =
                subst (λ (calls : List NotedCall). AreFound g (read_calls table calls) (read_found table found))
                (sym c.new.ensures.empty) tt;
          };
    }

pub outcome_found-requires-clause-numbers : goal.outcome_found-requires-clause-numbers
outcome_found-requires-clause-numbers c =
    let method = method_of c.args.method.now in
    let g = given_of (core c.args.program.now) (table_of c.args.callees.now) method.main in
    let walked = c.walk_code-walked in
    let new = walked.new.walk in
    on_ok_then walked.result (IsWalk g new walked.new.state)
    (AreFoundNumbers new.notes.table new.notes.found) walked.ensures.ready (λ all. all.numbers.noted)

pub outcome_found-requires-clause-firsts : goal.outcome_found-requires-clause-firsts
outcome_found-requires-clause-firsts c =
    let method = method_of c.args.method.now in
    let g = given_of (core c.args.program.now) (table_of c.args.callees.now) method.main in
    let table = c.start.new.table in
    let walked = c.walk_code-walked in
    let start : read_state table c.new-state.result ≡ start_of method =
    ap (read_state table) c.new-state.ensures
    ∙ ap (λ (vars : List Value). stack_of_values vars) c.in-Ok.ensures.values in
    let e = effects_given (core c.args.program.now) (table_of c.args.callees.now) method in
    let new = walked.new.walk.notes in
    let end = read_state new.table walked.new.state in
    let found = read_found new.table new.found in
    found-firsts e found walked.result
    (marked-flow e end nothing found walked.result
    (subst (λ (s : State). IsFlow (flow g method.code false s) end nothing found walked.result) start
    (subst (λ (f : Found). IsFlow (flow g method.code false (read_state table c.new-state.result)) end f found
    walked.result) (c.nothing-found.ensures.found table) walked.ensures.flow)))

pub returns : goal.returns
returns c =
    let method = method_of c.args.method.now in
    let g = given_of (core c.args.program.now) (table_of c.args.callees.now) method.main in
    let table = c.start.new.table in
    let walked = c.walk_code-walked in
    let start : read_state table c.new-state.result ≡ start_of method =
    ap (read_state table) c.new-state.ensures
    ∙ ap (λ (vars : List Value). stack_of_values vars) c.in-Ok.ensures.values in
    let e = effects_given (core c.args.program.now) (table_of c.args.callees.now) method in
    let new = walked.new.walk.notes in
    let end = read_state new.table walked.new.state in
    let found = read_found new.table new.found in
    c.outcome_found.ensures e
    (marked-flow e end nothing found walked.result
    (subst (λ (s : State). IsFlow (flow g method.code false s) end nothing found walked.result) start
    (subst (λ (f : Found). IsFlow (flow g method.code false (read_state table c.new-state.result)) end f found
    walked.result) (c.nothing-found.ensures.found table) walked.ensures.flow)))
