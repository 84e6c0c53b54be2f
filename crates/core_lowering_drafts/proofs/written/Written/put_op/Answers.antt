use Rattle.std.proofs.Common.{rules}
use Rattle.core_code.specs.declared.code.Code.TheFolds.{the_lemmas}
use Rattle.core_code.specs.declared.code.Code.TheVariants.{Op}
use Rattle.core_lowering_drafts.specs.Written.{code_of, room_of}
use Rattle.core_lowering_drafts.proofs.Numbering.{op-numbered, op-put}
use Rattle.core_lowering_drafts.proofs.written.Written.put_op.Goals as goal

pub invariant_of-self-2 : goal.invariant_of-self-2
invariant_of-self-2 c =
    let made = Op (record { 0 = c.args.self.now.next }) c.args.place c.args.op in
    record {
      in_order =
          op-numbered c.args.self.now.parts.items c.push.new.self.items c.args.self.now.next c.in_ok-next.next
          c.args.place c.args.op made c.args.self.now.in_order c.in_ok-push.ensures.items
          (search (rules, the_lemmas)) (search rules);
    }

pub returns-clause-code : goal.returns-clause-code
unfolding code_of
returns-clause-code c =
    let made = Op (record { 0 = c.args.self.now.next }) c.args.place c.args.op in
    op-put c.args.self.now.parts.items c.push.new.self.items (record { 0 = c.args.self.now.next }) c.args.place
    c.args.op made c.in_ok-push.ensures.items (search (rules, the_lemmas))

pub returns-clause-room : goal.returns-clause-room
unfolding room_of
returns-clause-room c = search rules

pub returns-in_err-push-clause-room : goal.returns-in_err-push-clause-room
unfolding room_of
returns-in_err-push-clause-room c = search rules
