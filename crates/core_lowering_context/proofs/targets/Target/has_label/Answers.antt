use Rattle.std.proofs.Common.{◌≡◌, reverse, rules}
use Rattle.core_lowering_context.proofs.Innermost.{labelled}
use Rattle.core_lowering_context.proofs.targets.Target.has_label.Goals as goal

pub returns : goal.returns
returns c =
    let seen : c.args.self.now.labels ≡ reverse c.self.inside.labels.items = search rules in
    labelled c.args.x.now c.args.self.now c.self.inside.labels.items c.as_slice.result.now c.as_str.result.now
    c.has_text.result seen (search rules) (search rules) c.has_text.ensures
