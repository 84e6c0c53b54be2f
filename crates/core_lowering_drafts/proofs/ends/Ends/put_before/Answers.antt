use Rattle.std.proofs.Common.{◌≡◌, true, false, sym, ◌∙◌, rules}
use Rattle.core_lowering_drafts.specs.Drafts.{Normal, ends_then}
use Rattle.core_lowering_drafts.specs.EndSets.{seen}
use Rattle.core_lowering_drafts.proofs.EndSets.{has-listed}
use Rattle.core_lowering_drafts.proofs.DraftEnds.{before-put, equal-same, then-unmet}
use Rattle.core_lowering_drafts.proofs.ends.Ends.put_before.Goals as goal

pub returns-then-not-first : goal.returns-then-not-first
returns-then-not-first c =
    let s = c.args.self.now in
    let f = c.args.first.now in
    let unmet : f.normal ≡ false = search rules in
    equal-same (seen c.in_ok-self.field-0) (ends_then (seen
    f) (seen s))
    (c.in_ok-self.ensures ∙ sym (then-unmet (seen f) (seen s)
    (has-listed f.normal
    f.returns f.throws f.exits.keys Normal
    ∙ unmet)))

pub returns : goal.returns
returns c =
    let s = c.args.self.now in
    let f = c.args.first.now in
    let m = c.add.new.self in
    let met : f.normal ≡ true = search rules in
    before-put s.normal m.normal m.returns m.throws
    m.exits.keys (seen f) (seen s)
    (has-listed f.normal f.returns f.throws f.exits.keys Normal ∙ met)
    (sym (has-listed s.normal s.returns s.throws s.exits.keys Normal))
    c.in_ok-add.ensures
