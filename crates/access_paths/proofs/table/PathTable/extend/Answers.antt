use Rattle.std.proofs.Common.{◌≡◌, List, Option, Some, slice_get, sym, subst}
use Rattle.access_paths.specs.declared.path.Path.{Path}
use Rattle.access_paths.specs.Extensions.{AreExtensions}
use Rattle.access_paths.specs.Table.{IsLonger}
use Rattle.access_paths.proofs.AnsweredExtensions.{extensions-added}
use Rattle.access_paths.proofs.table.PathTable.extend.Goals as goal

pub invariant_of-self-2 : goal.invariant_of-self-2
invariant_of-self-2 c =
    let old = c.self.inside.paths.keys in
    let new = c.number_of_longer.new.paths.keys in
    let extension = c.args.extension in
    let front : Path = c.path_of-front.result.now in
    let answer = c.in_ok-answer.answer in
    let at = subst (λ (ps : List Path). slice_get ps extension.front ≡ Some front) (sym c.self.view_is)
    c.path_of-front.ensures in
    let longer = subst (λ (q : Option Path). IsLonger old q answer new) c.in_ok-longer.ensures
    c.in_ok-answer.ensures.answer in (
      c.number_of_longer.ensures.each_once,
      extensions-added old new c.reserve.new.self.entries c.insert.new.self.entries extension answer
          (subst (AreExtensions old) (sym c.in_ok-reserve.ensures.entries) c.self.invariant.1)
          (front, at, longer) c.in-Ok.ensures.updates.0,
    )
