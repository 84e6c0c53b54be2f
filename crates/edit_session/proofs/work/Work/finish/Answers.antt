use Rattle.std.proofs.Common.{ℕ, Bool, cond, List, [], ◌∷◌, ◌++◌, append-nil, sym, ap, subst, ◌∙◌}
use Rattle.std.specs.Global.{Global}
use Rattle.std.specs.Prelude.{Vec}
use Rattle.racer_base.specs.declared.ids.MethodId.{MethodId}
use Rattle.edit_session.specs.Work.{IsKept}
use Rattle.edit_session.proofs.Putting.{finished_now}
use Rattle.edit_session.proofs.work.Work.finish.Goals as goal

pub returns-in-Some : goal.returns-in-Some
returns-in-Some c =
    let m = c.args.method in
    let old = c.args.self.now.analysed.items in
    let by = subst (IsKept c.args.self.now m) c.in-Some.is c.in_ok-finished.ensures in
    record {
      finished = finished_now c.args.self.now c.put.new.self m c.in-Some.finished _ c.requires by.right by.told
          c.in_ok-put.ensures.put;
      list = sym (ap (λ (b : Bool). cond {A = ℕ} b 1 0) by.not_due);
      analysed =
          ap (λ (v : Vec MethodId Global). v.items) c.in_ok-put.ensures.analysed
          ∙ sym (append-nil old)
          ∙ ap (λ (ms : List MethodId). old ++ ms) (sym (ap (λ (b : Bool). cond b (m ∷ []) []) by.not_due));
    }
