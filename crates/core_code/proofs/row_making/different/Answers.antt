use Rattle.std.proofs.Common.{◌+◌, List, ◌++◌, sym, ap, ◌∙◌, subst, drop}
use Rattle.std.proofs.lemmas.List.{at_drop_more}
use Rattle.racer_base.specs.declared.ids.MethodId.{MethodId}
use Rattle.core_code.specs.Stamps.{Tell, others}
use Rattle.core_code.proofs.Different.{others_none, tell_none, turn}
use Rattle.core_code.proofs.row_making.different.Goals as goal

pub loop-callee-init : goal.loop-callee-init
loop-callee-init c =
    record {
      row =
          ap (λ (row : List MethodId). row ++ others row c.args.callees.now) c.new-row.ensures
          ∙ others_none c.args.callees.now;
      stamps =
          subst (λ (row : List MethodId). Tell c.args.stamps.now c.args.stamp row) (sym c.new-row.ensures)
          (tell_none c.args.stamps.now c.args.stamp c.requires);
    }

pub loop-callee-preserved : goal.loop-callee-preserved
loop-callee-preserved c =
    let all = c.args.callees.now in
    let i = c.loop-callee.callee-index in
    let row = c.loop-callee.row in
    let at = c.loop-callee.invariant in
    let e = c.in_ok-push_new.ensures in
    let whole = sym (at_drop_more (λ (left : List MethodId). row ++ others row left) all i _ c.loop-callee-test.true)
    ∙ at.row in
    let made = turn c.loop-callee.stamps c.args.stamp row _ (drop (i + 1) all) c.push_new.new.row c.push_new.new.stamps
    _ e.row e.stamps e.within at.stamps whole in
    record { row = made.0; stamps = made.1 }
