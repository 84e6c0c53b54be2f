use Rattle.std.proofs.Common.{[], ◌∷◌, ◌++◌, ap, ◌∙◌}
use Rattle.std.specs.Global.{Global}
use Rattle.std.specs.Prelude.{Vec}
use Rattle.racer_base.specs.declared.ids.MethodId.{MethodId}
use Rattle.edit_session.proofs.Putting.{finished_now, flag_low, place_low}
use Rattle.edit_session.proofs.work.Work.finish_again.Goals as goal

pub is_other-requires : goal.is_other-requires
is_other-requires c = c.requires.right.before_is

pub put-requires-clause-place : goal.put-requires-clause-place
put-requires-clause-place c =
    place_low c.args.self.now c.args.method c.in_ok-finished.finished c.requires c.in_ok-finished.ensures

pub put-requires-clause-flag : goal.put-requires-clause-flag
put-requires-clause-flag c =
    flag_low c.args.self.now c.args.method c.in_ok-finished.finished c.requires c.in_ok-finished.ensures

pub returns : goal.returns
returns c =
    let put = c.in_ok-put.ensures.put in
    record {
      finished =
          finished_now c.args.self.now _ c.args.method c.in_ok-finished.finished c.in_ok-differs.differs c.requires
          c.in_ok-finished.ensures c.in_ok-differs.ensures (record {
            goes_on = record {
              program_is = put.goes_on.program_is;
              rows_are = put.goes_on.rows_are;
              before_is = put.goes_on.before_is;
            };
            places = put.places;
            here = put.here;
            others = put.others;
            differs_are = put.differs_are;
          });
      analysed =
          c.in_ok-push.ensures.items
          ∙ ap (λ (v : Vec MethodId Global). v.items ++ c.args.method ∷ []) c.in_ok-put.ensures.analysed;
    }
