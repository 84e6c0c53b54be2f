use Rattle.std.proofs.Common.{sym, ap, ◌∙◌}
use Rattle.std.specs.Option.{option_copied}
use Rattle.std.proofs.lemmas.Option.{get_or_from_slice_get}
use Rattle.core_semantics.specs.declared.object.Value.TheVariants.{Null}
use Rattle.core_semantics.specs.Steps.{base_of}
use Rattle.core_semantics.proofs.Frames.{none_at}
use Rattle.core_semantics.proofs.frame.Frame.base.Goals as goal

pub returns-in-None : goal.returns-in-None
returns-in-None c =
    ap base_of
    (none_at c.args.self.now.stack c.args.number Null (sym c.get.ensures ∙ ap option_copied c.in-None.is))

pub returns-in-Some-Object : goal.returns-in-Some-Object
returns-in-Some-Object c =
    ap base_of
    (get_or_from_slice_get c.args.self.now.stack c.args.number c.in-Some-Object.field-0.now Null
    (sym c.get.ensures ∙ ap option_copied c.in-Some-Object.is)
    ∙ c.in-Some-Object.field-0-is)

pub returns-in-Some-Null : goal.returns-in-Some-Null
returns-in-Some-Null c =
    ap base_of
    (get_or_from_slice_get c.args.self.now.stack c.args.number c.in-Some-Null.field-0.now Null
    (sym c.get.ensures ∙ ap option_copied c.in-Some-Null.is)
    ∙ c.in-Some-Null.field-0-is)

pub returns-in-Some-Opaque : goal.returns-in-Some-Opaque
returns-in-Some-Opaque c =
    ap base_of
    (get_or_from_slice_get c.args.self.now.stack c.args.number c.in-Some-Opaque.field-0.now Null
    (sym c.get.ensures ∙ ap option_copied c.in-Some-Opaque.is)
    ∙ c.in-Some-Opaque.field-0-is)

pub returns-in-Some-Plain : goal.returns-in-Some-Plain
returns-in-Some-Plain c =
    ap base_of
    (get_or_from_slice_get c.args.self.now.stack c.args.number c.in-Some-Plain.field-0.now Null
    (sym c.get.ensures ∙ ap option_copied c.in-Some-Plain.is)
    ∙ c.in-Some-Plain.field-0-is)
