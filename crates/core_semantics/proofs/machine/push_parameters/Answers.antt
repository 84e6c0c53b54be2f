use Rattle.std.proofs.Common.{ℕ, ◌∙◌, ap, get_or, ◌++◌}
use Rattle.racer_base.specs.declared.ids.Kind.TheVariants.{Plain}
use Rattle.core_semantics.specs.Runs.{parameter, parameters_from}
use Rattle.core_semantics.proofs.Gathered.{one_parameter, all_parameters}
use Rattle.core_semantics.proofs.machine.push_parameters.Goals as goal

pub loop-index-preserved : goal.loop-index-preserved
loop-index-preserved c =
    let t = c.args.thread in
    let kinds = c.args.kinds.now in
    let i = c.loop-index.index in
    one_parameter t i kinds c.loop-index.values.items c.push.new.self.items
    (c.args.values.now.items ++ parameters_from t 0 kinds) Plain c.parameter.result c.loop-index-test.true
    (c.parameter.ensures ∙ ap (λ (n : ℕ). parameter t n (get_or kinds i Plain)) c.in-Ok.ensures.1)
    c.in-Ok-push.ensures.items c.loop-index.invariant

pub returns : goal.returns
returns c =
    all_parameters c.args.thread c.loop-index.index c.args.kinds.now c.loop-index.values.items
    (c.args.values.now.items ++ parameters_from c.args.thread 0 c.args.kinds.now) c.loop-index-test.false
    c.loop-index.invariant
