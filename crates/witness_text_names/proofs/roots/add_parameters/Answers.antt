use Rattle.std.proofs.Common.{◌<◌, ℕ, ap, subst}
use Rattle.core_code.specs.Program.{core}
use Rattle.core_semantics.specs.declared.object.StartRoot.TheVariants.{Param}
use Rattle.witness_text_names.proofs.RootsIndexed.{roots_next}
use Rattle.witness_text_names.proofs.roots.add_parameters.Goals as goal

pub loop-index-preserved : goal.loop-index-preserved
loop-index-preserved c =
    let i = c.loop-index.index in
    roots_next (core c.args.program.now) (Param c.args.thread) c.args.method.now.parameters i
    (Param c.args.thread c.in_ok-number.number) c.args.roots.now c.loop-index.roots c.add_root.new.roots
    (subst (λ (n : ℕ). i < n) c.len-index-end.ensures c.loop-index-test.true)
    (ap (Param c.args.thread) c.in_ok-number.ensures) c.in_ok-add_root.ensures c.loop-index.invariant
