use Rattle.std.proofs.Common.{◌≡◌, ◌∙◌, Bool, List, length, ap, subst}
use Rattle.racer_base.specs.declared.ids.ClassId.{ClassId as Id}
use Rattle.core_code.specs.Program.{core, classes}
use Rattle.typed_core.specs.Contexts.{flag_of}
use Rattle.typed_core.specs.Reaching.{IsInRange, reached_places, reads_in}
use Rattle.typed_core.specs.Typings.{answer_of}
use Rattle.typed_core.proofs.Typed.{typing-is}
use Rattle.typed_core.proofs.typing.typing_of.Goals as goal

pub returns : goal.returns
returns c =
    let p = c.args.program.now in
    let count : length c.classes.result.now ≡ length (classes p) = ap length c.classes.ensures in
    typing-is (core p) c.args.class c.args.all.now c.in_ok-reached.reached.items c.in_ok-is_read.is_read.items
    (length c.classes.result.now) p.numbers_in_range p.calls_right p.ranks_there p.entries_analysed c.requires.found
    c.in_ok-reached.ensures.flags c.in_ok-reached.ensures.size count
    (subst (λ (reached : List Bool). (class : Id) → IsInRange (length c.classes.result.now) class
    → flag_of c.in_ok-is_read.is_read.items class ≡ reads_in reached c.args.all.now class)
    c.as_slice.ensures.value c.in_ok-is_read.ensures.flags)
    c.in_ok-is_read.ensures.size c.answer_of-answer.result
    (c.answer_of-answer.ensures
    ∙ ap (λ (read : List Bool). answer_of (reached_places (flag_of read) c.as_slice-2.result.now c.args.all.now))
    c.as_slice-3.ensures.value
    ∙ ap (λ (reached : List Bool). answer_of (reached_places (flag_of c.in_ok-is_read.is_read.items) reached
    c.args.all.now)) c.as_slice-2.ensures.value)
