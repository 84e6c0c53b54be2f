use Rattle.std.proofs.Common.{◌∙◌, ◌≡◌, rules}
use Rattle.core_code.specs.declared.code.Code.TheFolds.{the_lemmas}
use Rattle.core_code.specs.declared.code.Code.TheVariants.{Seq}
use Rattle.core_code.specs.Tree.{tree_of}
use Rattle.core_lowering_drafts.specs.Written.{code_of}
use Rattle.core_lowering_drafts.specs.Sites.{whole_of}
use Rattle.core_lowering_drafts.proofs.Numbering.{whole-numbered}
use Rattle.core_lowering_drafts.proofs.written.Written.into_code.Goals as goal

pub returns : goal.returns
unfolding code_of
returns c =
    let parts : tree_of (Seq c.args.self.parts) ≡ whole_of c.args.self.parts.items = search (rules, the_lemmas) in
    parts ∙ whole-numbered c.args.self.parts.items c.args.self.next c.args.self.in_order
