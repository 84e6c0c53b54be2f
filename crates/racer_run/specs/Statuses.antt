-- A contract of a public call rests on this: the statuses that the answer to a request may have.
use Rattle.std.specs.Prelude.{Bool, true, false}
use Rattle.racer_run.specs.declared.status.Status.{Status}
use Rattle.racer_run.specs.declared.status.Status.TheVariants.{Clean, Warned, Refused, NoRace, NotAWitness}
use Rattle.racer_run.specs.declared.status.Status.TheVariants.{NotEdits}

-- a report is clean or warns, or its sources are refused
abbrev pub is_report_status : Status → Bool
is_report_status Clean = true
is_report_status Warned = true
is_report_status Refused = true
is_report_status _ = false

-- a replay is clean or shows no race, its file is no witness, or its sources are refused
abbrev pub is_replay_status : Status → Bool
is_replay_status Clean = true
is_replay_status Refused = true
is_replay_status NoRace = true
is_replay_status NotAWitness = true
is_replay_status _ = false

-- the report on a made folder is clean or warns
abbrev pub is_made_status : Status → Bool
is_made_status Clean = true
is_made_status Warned = true
is_made_status _ = false

-- the last report of a session is clean or warns, or what an edit makes of the sources is refused, or the sources
-- themselves; or the file has no edits
abbrev pub is_edits_status : Status → Bool
is_edits_status Clean = true
is_edits_status Warned = true
is_edits_status Refused = true
is_edits_status NotEdits = true
is_edits_status _ = false
