use Rattle.core_code.specs.Program.{core}
use Rattle.witness_text.proofs.Warnings.{witness-replays}
use Rattle.witness_text.proofs.laws.written_witnesses_replay.Goals as goal

pub returns : goal.returns
returns c = λ p w sides objects a b end listed.
    witness-replays p w sides objects a b end (c.each_warning_is_a_pair.ensures (core p) w listed)
