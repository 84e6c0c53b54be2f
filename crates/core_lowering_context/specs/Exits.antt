-- A contract of a public call rests on this: what is seen of exits and of where returns lead.
use Rattle.std.specs.Prelude.{ℕ, Bool, ◌&&◌, is_some, List, Option, map, reverse, option_map}
use Rattle.racer_base.specs.declared.ids.VarId.{VarId}
use Rattle.core_lowering_drafts.specs.declared.ends.Exit.{Exit}
use Rattle.core_lowering_rules.specs.Context.{Guard, Target}
use Rattle.core_lowering_rules.specs.Scopes.{is_meant}
use Rattle.java_tree.specs.declared.words.Ident.{Ident}
use Rattle.core_lowering_context.specs.declared.targets.Guard.{Guard as CodeGuard}
use Rattle.core_lowering_context.specs.declared.targets.Sent.{Sent}

abbrev pub number : Exit → ℕ
number exit = exit.0

abbrev pub exit_seen : Option Exit → Option ℕ
exit_seen exit = option_map number exit

abbrev pub guard_seen : CodeGuard → Guard
guard_seen guard = record { exit = guard.exit.0; variable = guard.variable }

-- the innermost, which stands last in the code, first
abbrev pub guards_seen : List CodeGuard → List Guard
guards_seen guards = map guard_seen (reverse guards)

abbrev pub sent_pair : Sent → ℕ × VarId
sent_pair sent = (sent.exit.0, sent.variable)

abbrev pub sent_seen : Option Sent → Option (ℕ × VarId)
sent_seen sent = option_map sent_pair sent

-- whether a `continue` with this name or without a name leads to the next round of a statement
abbrev pub goes_on : Option Ident → Target → Bool
goes_on x target = is_some target.continue_to && is_meant x target
