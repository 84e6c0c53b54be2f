use Rattle.core_code.specs.Program.{core}
use Rattle.core_semantics.specs.declared.object.StartRoot.TheVariants.{Class}
use Rattle.witness_text_names.proofs.RootsIndexed.{RootsLeft}
use Rattle.witness_text_names.proofs.roots.add_classes.Given as goal

abbrev pub invariant-loop-index : goal.invariant-loop-index
invariant-loop-index l =
    RootsLeft (core l.program) (λ n. Class (record { 0 = n })) (core l.program).classes l.index l.fn.roots l.roots
