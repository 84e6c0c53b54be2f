use Rattle.std.proofs.Common.{true, not, sym, ap, ◌∙◌}
use Rattle.std.proofs.lemmas.Bool.{not-true}
use Rattle.core_code.specs.Program.{core}
use Rattle.core_semantics.specs.declared.changes.Sight.{Sight}
use Rattle.core_semantics.specs.View.{state_of}
use Rattle.witness_build_walks.proofs.Sights.{none-read}
use Rattle.witness_build_walks.proofs.walk.value_in.Goals as goal

pub returns-then-not-sight : goal.returns-then-not-sight
returns-then-not-sight c =
    sym (none-read (core c.args.program.now) (state_of c.args.machine.now) c.args.thread
    (ap (λ (sight : Sight). sight.reads) (sym c.requires) ∙ not-true c.args.sight.reads c.if-not-sight.true))
