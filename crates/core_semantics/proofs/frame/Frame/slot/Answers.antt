use Rattle.std.proofs.Common.{sym, ap, ◌∙◌}
use Rattle.std.specs.Option.{option_copied}
use Rattle.core_semantics.specs.declared.object.Value.TheVariants.{Null}
use Rattle.core_semantics.proofs.Frames.{none_at}
use Rattle.core_semantics.proofs.frame.Frame.slot.Goals as goal

pub returns-in-None : goal.returns-in-None
returns-in-None c =
    sym (none_at c.args.self.now.stack c.args.number Null (sym c.get.ensures ∙ ap option_copied c.in-None.is))
