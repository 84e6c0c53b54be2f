use Rattle.core_code.specs.Program.{core}
use Rattle.core_semantics.specs.declared.object.StartRoot.TheVariants.{Param}
use Rattle.witness_text_names.proofs.RootsIndexed.{RootsLeft}
use Rattle.witness_text_names.proofs.roots.add_parameters.Given as goal

abbrev pub invariant-loop-index : goal.invariant-loop-index
invariant-loop-index l = RootsLeft (core l.program) (Param l.thread) l.method.parameters l.index l.fn.roots l.roots
