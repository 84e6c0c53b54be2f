use Rattle.std.proofs.Common.{◌≡◌, true, length, replicate, sym, ap, ◌∙◌, rules}
use Rattle.std.proofs.lemmas.List.{length-map}
use Rattle.std.specs.Arc.{arc_value}
use Rattle.core_code.specs.Core.{method_of}
use Rattle.core_code.specs.Program.{methods}
use Rattle.edit_session.proofs.Putting.{right_first}
use Rattle.edit_session.proofs.work.Work.new.Goals as goal

pub returns-clause-right : goal.returns-clause-right
returns-clause-right c =
    let ms = c.methods-count.result.now in
    let count : length (methods (arc_value c.args.program.now)) ≡ length ms =
    ap length (sym (c.methods-count.ensures ∙ ap methods c.deref.ensures)) ∙ length-map ms method_of in
    let flags : c.in_ok-differs.differs.items ≡ replicate (length ms) true = search rules in
    right_first _ (length ms) c.requires.rows c.requires.before (sym count) c.in_ok-finished.ensures flags
