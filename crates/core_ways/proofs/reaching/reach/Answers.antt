use Rattle.std.proofs.Common.{◌≡◌, None, Some, sym, ap, ◌∙◌, option_map}
use Rattle.std.specs.Option.{option_copied}
use Rattle.core_code.specs.Tree.{tree_of}
use Rattle.core_code.specs.Program.{core}
use Rattle.access_domain.proofs.MethodOutcomes.{known-record}
use Rattle.access_domain.specs.OutcomeRecords.{record_at}
use Rattle.core_ways.specs.Ways.{code_at}
use Rattle.core_ways.proofs.Going.{no-record, ok-then, stays, stays-before, goes-through}
use Rattle.core_ways.proofs.reaching.reach.Goals as goal

pub returns-in_default-record_of : goal.returns-in_default-record_of
returns-in_default-record_of c =
    let program = core c.args.program.now in
    let m = c.args.method in
    let i = c.args.access in
    let is : code_at program m ≡ Some (tree_of c.in-Some.code.now) =
    sym c.code_of.ensures ∙ ap (λ o. option_map tree_of (option_copied o)) c.in-Some.is in
    let none : record_at program m i ≡ None =
    known-record program c.args.outcomes.now.items m i (option_copied c.record_of.result) c.requires c.record_of.ensures
    ∙ ap option_copied c.in_default-record_of.is in
    stays program m i c.args.parts.now.items (no-record program m i (tree_of c.in-Some.code.now) is none)

pub returns-in_default-2 : goal.returns-in_default-2
returns-in_default-2 c =
    let program = core c.args.program.now in
    let m = c.args.method in
    let i = c.args.access in
    let is : code_at program m ≡ Some (tree_of c.in-Some.code.now) =
    sym c.code_of.ensures ∙ ap (λ o. option_map tree_of (option_copied o)) c.in-Some.is in
    let at : record_at program m i ≡ Some c.in-Some-record_of.record.now =
    known-record program c.args.outcomes.now.items m i (option_copied c.record_of.result) c.requires c.record_of.ensures
    ∙ ap option_copied c.in-Some-record_of.is in
    stays-before program m i (tree_of c.in-Some.code.now) c.in-Some-record_of.record.now c.args.parts.now.items
    c.follow_to.new.parts.items c.in_ok-op.field-0 is at c.in_ok-op.ensures.there c.in_default-2.is
    c.in_ok-op.ensures.parts

pub returns : goal.returns
returns c =
    let program = core c.args.program.now in
    let m = c.args.method in
    let i = c.args.access in
    let is : code_at program m ≡ Some (tree_of c.in-Some.code.now) =
    sym c.code_of.ensures ∙ ap (λ o. option_map tree_of (option_copied o)) c.in-Some.is in
    let at : record_at program m i ≡ Some c.in-Some-record_of.record.now =
    known-record program c.args.outcomes.now.items m i (option_copied c.record_of.result) c.requires c.record_of.ensures
    ∙ ap option_copied c.in-Some-record_of.is in
    ok-then c.enter.result (λ next. goes-through program m i (tree_of c.in-Some.code.now) c.in-Some-record_of.record.now
    c.in-Some-2.op c.args.parts.now.items c.follow_to.new.parts.items c.enter.new.parts.items c.in_ok-op.field-0 next
    c.args.program.now.ranks_there is at c.in_ok-op.ensures.there c.in-Some-2.is c.in_ok-op.ensures.parts)
    c.enter.ensures
