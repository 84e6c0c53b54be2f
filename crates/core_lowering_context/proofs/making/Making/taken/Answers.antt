use Rattle.std.proofs.Common.{◌≡◌, ◌-◌, ◌≤◌, ◌++◌, ◌∙◌, rules}
use Rattle.core_lowering_drafts.specs.Pieces.{all_parts}
use Rattle.core_lowering_context.specs.Drafts.{code_of}
use Rattle.core_lowering_context.proofs.Borders.{front-is, back-is}
use Rattle.core_lowering_context.proofs.making.Making.taken.Goals as goal

pub returns-in_err-count-clause-err : goal.returns-in_err-count-clause-err
unfolding code_of
returns-in_err-count-clause-err c = search rules

pub returns-in_err-tail-clause-err : goal.returns-in_err-tail-clause-err
unfolding code_of
returns-in_err-tail-clause-err c = search rules

pub returns-in_err-draft-clause-err : goal.returns-in_err-draft-clause-err
unfolding code_of
returns-in_err-draft-clause-err c = search rules

pub returns-clause-kept : goal.returns-clause-kept
unfolding code_of
returns-clause-kept c =
    let all = all_parts c.args.self.now.pieces.items in
    let front = all_parts c.split_off.new.pieces.items in
    let back = all_parts c.in_ok-tail.tail.items in
    let count : c.in_ok-count.count ≡ c.args.self.now.len - c.args.at = search rules in
    let fits : c.args.at ≤ c.args.self.now.len = search rules in
    let whole : all ≡ front ++ back = search rules in
    front-is all front back c.args.self.now.len c.args.at c.in_ok-count.count c.args.self.now.counted count fits whole
    c.in_ok-tail.ensures.parts

pub returns-clause-taken : goal.returns-clause-taken
unfolding code_of
returns-clause-taken c =
    let all = all_parts c.args.self.now.pieces.items in
    let front = all_parts c.split_off.new.pieces.items in
    let back = all_parts c.in_ok-tail.tail.items in
    let count : c.in_ok-count.count ≡ c.args.self.now.len - c.args.at = search rules in
    let fits : c.args.at ≤ c.args.self.now.len = search rules in
    let whole : all ≡ front ++ back = search rules in
    c.in_ok-draft.ensures
    ∙ back-is all front back c.args.self.now.len c.args.at c.in_ok-count.count c.args.self.now.counted count fits whole
    c.in_ok-tail.ensures.parts
