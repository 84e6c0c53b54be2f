use Rattle.std.proofs.Common.{◌+◌, sym, ap, ◌∙◌, drop, slice_get}
use Rattle.std.specs.Option.{option_copied}
use Rattle.core_semantics.specs.View.{todo_of}
use Rattle.core_semantics.proofs.Stacks.{rest_at, rest_past, rest_past_one}
use Rattle.core_semantics.proofs.ahead.step_at.Goals as goal

pub returns-in-Some : goal.returns-in-Some
returns-in-Some c =
    let pending = c.args.pending.now in
    let found = sym c.get.ensures ∙ ap option_copied c.in-Some.is in
    ap (λ ls. slice_get (todo_of ls) 0) (rest_at pending c.args.number c.in-Some.part.now found)
    ∙ c.first_of_part.ensures (todo_of (drop (c.args.number + 1) pending))

pub returns-in-None : goal.returns-in-None
returns-in-None c =
    let pending = c.args.pending.now in
    let none = sym c.get.ensures ∙ ap option_copied c.in-None.is in
    ap (λ ls. slice_get (todo_of ls) 0) (rest_past pending c.args.number none
    ∙ sym (rest_past_one pending c.args.number none))
