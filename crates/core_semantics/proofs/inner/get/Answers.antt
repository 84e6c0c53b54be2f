use Rattle.core_code.specs.Program.{core}
use Rattle.core_semantics.specs.View.{store_of}
use Rattle.core_semantics.specs.Steps.{read}
use Rattle.core_semantics.proofs.InnerSteps.{got_answer}
use Rattle.core_semantics.proofs.inner.get.Goals as goal

pub returns : goal.returns
returns c =
    got_answer (core c.args.program.now) c.args.store.now c.args.frame.now c.replace_by.new.self c.args.f
    c.in-Ok.object.now c.replace_by.result c.in-Ok.ensures
    (c.replace_by.ensures (read (core c.args.program.now) (store_of c.args.store.now) c.in-Ok.object.now c.args.f)
    c.read-value.ensures)
