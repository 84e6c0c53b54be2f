use Rattle.std.proofs.Common.{◌∙◌, ap}
use Rattle.core_code.specs.declared.exits.Exits.{Exits}
use Rattle.core_code.specs.Tree.{can_end}
use Rattle.core_lowering_drafts.specs.Written.{code_of}
use Rattle.core_lowering_drafts.specs.Sites.{whole_of}
use Rattle.core_lowering_drafts.proofs.Numbering.{whole-ends}
use Rattle.core_lowering_drafts.proofs.written.Written.can_end.Goals as goal

pub returns : goal.returns
unfolding code_of
returns c =
    ap (λ (exits : Exits). exits.ends) c.exits_through.ensures
    ∙ ap (λ parts. can_end (whole_of parts)) c.as_slice.ensures.value
    ∙ whole-ends c.args.self.now.parts.items
