use Rattle.std.proofs.Common.{◌∙◌, rules}
use Rattle.core_lowering_drafts.specs.Written.{code_of, room_of}
use Rattle.core_lowering_drafts.proofs.Numbering.{held-numbered, held-put}
use Rattle.core_lowering_drafts.proofs.written.Written.hold.Goals as goal

pub invariant_of-self-2 : goal.invariant_of-self-2
invariant_of-self-2 c =
    record {
      in_order =
          held-numbered c.args.self.now.parts.items c.hold.new.parts.items c.replace-next.result c.args.at c.args.kind
          c.args.place
          (c.args.self.now.in_order.0, c.replace-next.ensures.value ∙ c.args.self.now.in_order.1) (search rules);
    }

pub returns-clause-code : goal.returns-clause-code
unfolding code_of
returns-clause-code c =
    held-put c.args.self.now.parts.items c.hold.new.parts.items c.args.at c.args.kind c.args.place
    (search rules)

pub returns-clause-room : goal.returns-clause-room
unfolding room_of
returns-clause-room c = search rules
