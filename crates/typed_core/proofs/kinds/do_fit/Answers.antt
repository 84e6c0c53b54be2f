use Rattle.std.proofs.Common.{◌∙◌, arith}
use Rattle.typed_core.proofs.Fitting.{fit-differ, fit-fails, fit-holds, fit-end}
use Rattle.typed_core.proofs.kinds.do_fit.Goals as goal

pub returns-then-kinds-given : goal.returns-then-kinds-given
returns-then-kinds-given c = fit-differ c.args.kinds.now c.args.given.now c.if-kinds-given.true

pub returns-then-not-fits : goal.returns-then-not-fits
returns-then-not-fits c =
    let at = c.loop-index in
    fit-fails c.args.kinds.now c.args.given.now at.index _ _ (omega (arith, c.loop-index-test.true))
    (omega (arith, c.loop-index-test.true, at.invariant.long)) c.fits.result c.fits.ensures c.if-not-fits.true
    ∙ at.invariant.rest

pub loop-index-preserved : goal.loop-index-preserved
loop-index-preserved c =
    let at = c.loop-index in
    record {
      rest =
          fit-holds c.args.kinds.now c.args.given.now at.index _ _ (omega (arith, c.loop-index-test.true))
          (omega (arith, c.loop-index-test.true, at.invariant.long)) c.fits.result c.fits.ensures c.if-not-fits.false
          ∙ at.invariant.rest;
      long = at.invariant.long;
    }

pub returns : goal.returns
returns c =
    let at = c.loop-index in
    fit-end c.args.kinds.now c.args.given.now at.index (omega (arith, c.loop-index-test.false))
    (omega (arith, c.loop-index-test.false, at.invariant.long))
    ∙ at.invariant.rest
