use Rattle.std.proofs.Common.{◌∙◌, rules}
use Rattle.core_lowering_drafts.specs.Written.{code_of, room_of}
use Rattle.core_lowering_drafts.proofs.Numbering.{chosen-numbered, chosen-put}
use Rattle.core_lowering_drafts.proofs.written.Written.choose.Goals as goal

pub invariant_of-self-2 : goal.invariant_of-self-2
invariant_of-self-2 c =
    record {
      in_order =
          chosen-numbered c.args.self.now.parts.items c.choose.new.parts.items c.replace-next.result c.args.left
          c.args.right
          (c.args.self.now.in_order.0, c.replace-next.ensures.value ∙ c.args.self.now.in_order.1) (search rules);
    }

pub returns-clause-code : goal.returns-clause-code
unfolding code_of
returns-clause-code c =
    chosen-put c.args.self.now.parts.items c.choose.new.parts.items c.args.left c.args.right (search rules)

pub returns-clause-room : goal.returns-clause-room
unfolding room_of
returns-clause-room c = search rules
