use Rattle.std.proofs.Common.{List, Option, Some, length, refl, ap, ◌∙◌}
use Rattle.std.proofs.lemmas.List.{length-set}
use Rattle.transfer.specs.Callees.{SharedFinished}
use Rattle.transfer.specs.Tables.{finished_at}
use Rattle.edit_session.proofs.Putting.{put_elsewhere, put_here}
use Rattle.edit_session.proofs.work.Work.put.Goals as goal

pub returns-clause-put : goal.returns-clause-put
returns-clause-put c =
    let table = c.args.self.now.finished.items in
    let f = c.args.finished in
    let shared = c.in_ok-shared.shared in
    record {
      goes_on = record { program_is = refl; rows_are = refl; before_is = refl };
      places = ap length c.keep.ensures ∙ length-set table f.method.0 (Some shared);
      here = ap (λ (t : List (Option SharedFinished)). finished_at t f.method) c.keep.ensures
          ∙ put_here table f shared c.requires.place c.in_ok-shared.ensures.ok;
      others = λ m other.
          ap (λ (t : List (Option SharedFinished)). finished_at t m) c.keep.ensures
          ∙ put_elsewhere table f (Some shared) m other;
      differs_are = c.tell.ensures;
    }
