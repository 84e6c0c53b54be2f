use Rattle.std.proofs.Common.{Option, subst}
use Rattle.std.specs.Option.{IfSome}
use Rattle.core_code.specs.Program.{core}
use Rattle.witness_build_walks.specs.declared.walk.Walk.{Walk}
use Rattle.witness_build_walks.specs.Walks.{IsSame}
use Rattle.witness_build_walks.proofs.Trunks.{same-walk}
use Rattle.witness_build_walks.proofs.trunk.branched.Goals as goal

pub returns-clause-walk : goal.returns-clause-walk
returns-clause-walk c =
    let base = c.walk_up_to.new.walk in
    same-walk (core c.args.program.now) base c.in-Some.copy
    (subst (λ (copied : Option Walk). IfSome copied (λ copy. IsSame base copy)) c.in-Some.is c.in-Ok-copied.ensures)
    c.in-Ok.ensures.walk
