use Rattle.std.proofs.Common.{ℕ, List, Option, sym, ap, subst, ◌∙◌, ◌+◌}
use Rattle.edit_session.specs.Lists.{AreByLevel}
use Rattle.edit_session.specs.Work.{new_core}
use Rattle.edit_session.proofs.ByLevel.{analysed_by_level}
use Rattle.edit_session.proofs.work.Work.finish_all.Goals as goal

pub finish_levels-requires : goal.finish_levels-requires
finish_levels-requires c =
    let are = c.in_ok-lists.ensures in
    record {
      right = c.requires.right;
      as_many = are.as_many ∙ ap (λ (k : ℕ). 2 + k) (sym c.in_ok-count.ensures);
      each_once = are.each_once;
      by_level = analysed_by_level (new_core c.args.self.now) c.in_ok-lists.lists
          (subst (λ (ls : List (Option ℕ)). AreByLevel ls c.in_ok-lists.lists) c.requires.levels are);
    }
