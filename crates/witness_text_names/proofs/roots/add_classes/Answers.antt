use Rattle.std.proofs.Common.{◌<◌, ℕ, length, ap, subst}
use Rattle.core_code.specs.declared.parts.ClassCore.{ClassCore}
use Rattle.core_code.specs.Program.{core}
use Rattle.core_semantics.specs.declared.object.StartRoot.{StartRoot}
use Rattle.core_semantics.specs.declared.object.StartRoot.TheVariants.{Class}
use Rattle.std.proofs.Common.{List}
use Rattle.witness_text_names.proofs.RootsIndexed.{roots_next}
use Rattle.witness_text_names.proofs.roots.add_classes.Goals as goal

pub loop-index-preserved : goal.loop-index-preserved
loop-index-preserved c =
    let i = c.loop-index.index in
    roots_next (core c.args.program.now) (λ n. Class (record { 0 = n })) (core c.args.program.now).classes i
    (Class (record { 0 = c.in_ok-number_of.field-0 })) c.args.roots.now c.loop-index.roots c.add_root.new.roots
    (subst (λ (classes : List ClassCore). i < length classes) c.classes-index-end.ensures c.loop-index-test.true)
    (ap (λ (n : ℕ). let r : StartRoot = Class (record { 0 = n }) in r) c.in_ok-number_of.ensures)
    c.in_ok-add_root.ensures c.loop-index.invariant
