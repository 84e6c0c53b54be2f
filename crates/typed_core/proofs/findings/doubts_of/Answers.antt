use Rattle.typed_core.specs.Check.{next_of}
use Rattle.typed_core.proofs.Found.{doubts-found}
use Rattle.typed_core.proofs.findings.doubts_of.Goals as goal

pub returns : goal.returns
returns c =
    doubts-found c.args.context.now c.in_ok-here.here
    (next_of c.in_ok-check_code.field-0 c.check_code.new.here) c.new-walk.result c.check_code.new.walk c.requires.even
    c.new-walk.ensures.number c.new-walk.ensures.heads c.new-walk.ensures.doubts c.in_ok-here.ensures
    c.in_ok-check_code.ensures
