use Rattle.std.proofs.Common.{[], ◌∷◌, refl}
use Rattle.core_code.specs.Program.{core}
use Rattle.witness_build_laws.specs.Warned.{warning_mark}
use Rattle.witness_text.proofs.ReportReplays.{member-races}
use Rattle.witness_text.proofs.Warnings.{can-replay}
use Rattle.witness_text.proofs.laws.witnesses_in_reports_replay.Goals as goal

pub returns : goal.returns
returns c = λ p w sides d listed there got.
    member-races (core p) w sides d (warning_mark (core p) w) refl
    (λ objects a b confirmed.
    can-replay (core p) w sides objects a b listed there confirmed
    (λ paths x y end. c.written_witnesses_replay.ensures p w sides paths x y end listed there)
    (c.confirmed_warnings_can_replay.ensures p w objects (a ∷ b ∷ []) listed confirmed))
    got
