use Rattle.std.proofs.Common.{ap}
use Rattle.std.specs.Prelude.{length}
use Rattle.transfer_bodies.proofs.StillCode.{still-end}
use Rattle.transfer_bodies.proofs.laws.still_code_ends_as_it_began.Goals as goal

pub returns : goal.returns
returns c = λ g code locked s still height none. still-end g code locked s still height (ap length none)
