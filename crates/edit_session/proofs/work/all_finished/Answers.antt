use Rattle.std.proofs.Common.{◌≡◌, ℕ, List, Option, sym, ap, subst, ◌∙◌}
use Rattle.std.specs.Arc.{arc_value}
use Rattle.core_code.specs.Program.{core}
use Rattle.edit_session.specs.Levels.{levels_of}
use Rattle.edit_session.specs.Lists.{level_count}
use Rattle.edit_session.specs.Work.{AreThrough, new_core}
use Rattle.edit_session.proofs.Makings.{is_made, whole}
use Rattle.edit_session.proofs.work.all_finished.Goals as goal

pub made_of-requires : goal.made_of-requires
made_of-requires c =
    let old = c.in_ok-work.work in
    let levels : c.as_slice.result.now ≡ levels_of (new_core old) =
    c.as_slice.ensures.value ∙ c.in_ok-levels.ensures ∙ (λ i. levels_of (core (c.deref.ensures i)))
    ∙ ap levels_of (sym c.in_ok-work.ensures.begun.program_is) in
    whole old c.finish_all.new.self
    (subst (λ (ls : List (Option ℕ)). AreThrough old (level_count ls) c.finish_all.new.self) levels
    c.in_ok-finish_all.ensures)

pub returns : goal.returns
returns c =
    let old = c.in_ok-work.work in
    let levels : c.as_slice.result.now ≡ levels_of (new_core old) =
    c.as_slice.ensures.value ∙ c.in_ok-levels.ensures ∙ (λ i. levels_of (core (c.deref.ensures i)))
    ∙ ap levels_of (sym c.in_ok-work.ensures.begun.program_is) in
    is_made (arc_value c.args.program.now) c.args.before old c.finish_all.new.self c.in_ok-made.made
    c.in_ok-work.ensures.begun
    (subst (λ (ls : List (Option ℕ)). AreThrough old (level_count ls) c.finish_all.new.self) levels
    c.in_ok-finish_all.ensures) c.in_ok-made.ensures
