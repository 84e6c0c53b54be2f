use Rattle.std.proofs.Common.{[], ◌∷◌, ap, arith, length, length-append}
use Rattle.std.specs.Prelude.{sum_by}
use Rattle.std.proofs.lemmas.List.Sums.{sum_by_push}
use Rattle.summary_store.specs.Passes.{PassView}
use Rattle.racer_base.proofs.Lists.{no_items}
use Rattle.summary_store.proofs.closing.audit.Goals as goal

pub loop-pass-init : goal.loop-pass-init
loop-pass-init g c =
    let e = c.in-Some.ensures.items in
    let made = ap (λ (p : PassView). p.made) c.last.view_is in
    let l = ap length e in
    let s = ap (sum_by (λ (p : PassView). p.made)) e in
    record {
      parts = omega (
        arith,
        length-append c.pop.new.self.items (c.in-Some.last ∷ []),
        c.last.invariant.1,
        c.requires.all,
      );
      amount = omega (
        arith,
        sum_by_push (λ (p : PassView). p.made) c.pop.new.self.items c.in-Some.last,
        c.last.invariant.0,
      );
    }

pub loop-pass-preserved : goal.loop-pass-preserved
loop-pass-preserved g c =
    let e = c.in-Some-pop.ensures.items in
    let made = ap (λ (p : PassView). p.made) c.pass.view_is in
    let l = ap length e in
    let s = ap (sum_by (λ (p : PassView). p.made)) e in
    record {
      parts = omega (
        arith,
        length-append c.pop-in-loop-pass.new.self.items (c.in-Some-pop.pass ∷ []),
        c.pass.invariant.1,
        c.loop-pass.invariant.parts,
        c.merge.ensures.parts,
      );
      amount = omega (
        arith,
        sum_by_push (λ (p : PassView).
            p.made) c.pop-in-loop-pass.new.self.items c.in-Some-pop.pass,
        c.pass.invariant.0,
        c.loop-pass.invariant.amount,
        c.merge.ensures.amount,
      );
    }

pub returns : goal.returns
returns g c =
    let none = no_items c.loop-pass.passes.items (omega (
      arith,
      c.in_default-pop.ensures.cases.0,
      c.loop-pass.passes.ok.0,
    )) in
    let l = ap length none in
    let s = ap (sum_by (λ (p : PassView). p.made)) none in
    let whole = c.audit.ensures.whole (omega (arith, c.loop-pass.invariant.parts)) in
    omega (arith, c.loop-pass.invariant.amount)
