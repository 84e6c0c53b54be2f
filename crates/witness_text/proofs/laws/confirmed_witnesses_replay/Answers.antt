use Rattle.std.proofs.Common.{[], ◌∷◌}
use Rattle.core_code.specs.Program.{core}
use Rattle.witness_text_files.specs.Answers.{seen}
use Rattle.witness_text.proofs.Warnings.{bytes-replay, can-replay, text-replays}
use Rattle.witness_text.proofs.laws.confirmed_witnesses_replay.Goals as goal

pub returns-clause-bytes : goal.returns-clause-bytes
returns-clause-bytes c = λ p w sides objects a b bytes f listed there confirmed written read.
    bytes-replay (core p) w sides objects a b bytes (seen f)
    (can-replay (core p) w sides objects a b listed there confirmed
    (λ paths x y end. c.written_witnesses_replay.ensures p w sides paths x y end listed there)
    (c.confirmed_warnings_can_replay.ensures p w objects (a ∷ b ∷ []) listed confirmed)) written read

pub returns-clause-text : goal.returns-clause-text
returns-clause-text c = λ p w sides objects a b f listed there confirmed read.
    text-replays (core p) w sides objects a b (seen f)
    (can-replay (core p) w sides objects a b listed there confirmed
    (λ paths x y end. c.written_witnesses_replay.ensures p w sides paths x y end listed there)
    (c.confirmed_warnings_can_replay.ensures p w objects (a ∷ b ∷ []) listed confirmed)) confirmed read
