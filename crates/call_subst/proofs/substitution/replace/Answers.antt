use Rattle.std.proofs.Common.{List, ap, ◌∙◌}
use Rattle.std.specs.FinSet as set
use Rattle.access_paths.specs.declared.path.Path.{Path}
use Rattle.access_paths.specs.Order.{path_cmp}
use Rattle.access_paths.specs.Table.{GoesOn}
use Rattle.access_domain.specs.declared.summary.Summary.{Summary}
use Rattle.access_domain.specs.Numbered.{read_accesses}
use Rattle.access_domain.proofs.NumberedReading.{accesses-longer, numbered-longer}
use Rattle.call_subst.specs.declared.naming.Call.{Call}
use Rattle.call_subst.specs.Numbered.{read_set}
use Rattle.call_subst.proofs.Whole.{whole}
use Rattle.call_subst.proofs.substitution.replace.Goals as goal

pub returns-clause-answer : goal.returns-clause-answer
returns-clause-answer c = λ found same.
    let call : Call = c.args.call.now in
    let summary : Summary = c.args.summary.now in
    let first : List Path = c.records_there.new.table in
    let second : List Path = c.paths_there.new.table in
    let paths : List Path = c.as_slice.result.now in
    let records = c.in_ok-accesses.accesses.items in
    let later : GoesOn first second = c.in_ok-wobbly.ensures.table in
    let held = ap (λ (ps : List Path). set.from_list {R = path_cmp} ps) c.as_slice.ensures.value
    ∙ c.in_ok-paths.ensures.all in
    whole call found summary paths (read_accesses second records) (read_set second c.in_ok-wobbly.wobbly.items) same
    (accesses-longer first second later records c.in_ok-accesses.ensures.numbers ∙ c.in_ok-accesses.ensures.all)
    held c.in_ok-wobbly.ensures.all

pub returns-clause-numbers : goal.returns-clause-numbers
returns-clause-numbers c =
    record {
      accesses = numbered-longer c.records_there.new.table c.paths_there.new.table c.in_ok-wobbly.ensures.table
          c.in_ok-accesses.accesses.items c.in_ok-accesses.ensures.numbers;
      wobbly = c.in_ok-wobbly.ensures.numbers;
    }
