-- A contract of a public call rests on this: what stands around the statements inside of one, as the code makes it.
use Rattle.std.specs.Prelude.{◌≡◌, ℕ, Bool, false, ◌&&◌, List, [], ◌∷◌, ◌++◌, Option, Some, None, length}
use Rattle.std.specs.Prelude.{if◌then◌else◌}
use Rattle.racer_base.specs.declared.ids.VarId.{VarId}
use Rattle.core_code.specs.declared.code.Op.TheVariants.{Outside, Ret}
use Rattle.core_lowering_drafts.specs.Drafts.{Never, Leave}
use Rattle.core_lowering_rules.specs.Trees.{Exprs, Condition, Start, Groups, no_group, group_then}
use Rattle.core_lowering_rules.specs.Context.{Context, Code, op, repeated, again, within, ending}
use Rattle.core_lowering_rules.specs.Scopes.{started}
use Rattle.core_lowering_rules.specs.Statements.{run, run_all, start, set, tested, is_endless}
use Rattle.core_lowering_rules.specs.Statements.{entered, options, forked, has_default}
use Rattle.core_lowering_parts.specs.declared.groups.Options.{Options}
use Rattle.core_lowering_parts.specs.declared.rounds.Round.{Round}
use Rattle.core_lowering_context.specs.Restored.{variables_from}

-- the parts from this one on become what is made of them
abbrev pub Becomes : ℕ → (Code → Code) → Code → Code → Type 0
Becomes at f old new = (left right : Code) → at ≡ length left → old ≡ left ++ right → new ≡ left ++ f right

-- behind it the variables from this one on are null
abbrev pub closed_from : ℕ → Context → Code → Code
closed_from at context body = ending context.place (variables_from at context) body

-- to what a return is sent, with the variable of what is returned
abbrev pub sent_by : Context → Option (ℕ × VarId) → Code
sent_by context None = op context Ret
sent_by context (Some to) = set context to.1 ++ Leave to.0 ∷ []

-- ---- loops

-- what stands before the loop of a `for`
abbrev pub entered_for : Context → Start → Option Condition → Code
entered_for context i c = start context i ++ tested (started context i) c

-- what stands behind the body of a `for`, in its loop
abbrev pub turned : Context → Option Condition → Exprs → Code
turned context c updates = run_all context updates ++ tested context c

abbrev pub nothing_behind : Bool → Code
nothing_behind is_endless = if is_endless then Never ∷ [] else []

-- a `break` leads behind a loop
abbrev pub broken_at : ℕ → (is_endless : Bool) → Code → Code
broken_at exit is_endless loop = within exit (loop ++ nothing_behind is_endless)

-- loops, of their bodies
abbrev pub while_loop : Round → Context → Condition → Code → Code
while_loop round context c body =
    broken_at round.break_to.0 (c.is_true && round.has_break) (repeated (body ++ run context c.on))

abbrev pub do_loop : Round → Context → Condition → Code → Code
do_loop round context c body =
    broken_at round.break_to.0 (c.is_true && round.has_break) (again (body ++ run context c.on))

abbrev pub for_loop : Round → Context → Option Condition → Exprs → Code → Code
for_loop round context c updates body =
    broken_at round.break_to.0 (is_endless c && round.has_break) (repeated (body ++ turned context c updates))

abbrev pub each_loop : Round → Code → Code
each_loop round body = broken_at round.break_to.0 false (repeated body)

-- the next element of what a `for` goes over, in the loop
abbrev pub next_element : Context → VarId → Code
next_element context v = op context (Outside 0) ++ set context v

-- ---- `switch`

-- groups that go on each in the next, behind what goes on in the first
abbrev pub fallen : Option Code → List Code → Option Code
fallen before [] = before
fallen before (group ∷ groups) = fallen (Some (entered before ++ group)) groups

abbrev pub as_option : Option Code → List Code
as_option None = []
as_option (Some group) = group ∷ []

-- what may be entered, where these groups come
abbrev pub left_options : Context → Option Code → Groups → List Code
left_options context before no_group = as_option before
left_options context before (group_then labels ss gs) = options context before (group_then labels ss gs)

abbrev pub options_with : Options → Context → Groups → List Code
options_with o context gs = o.done.items ++ left_options context (fallen None o.falling.items) gs

abbrev pub settled : Options → List Code
settled o = o.done.items ++ as_option (fallen None o.falling.items)

-- nothing may be entered where no group has `default`
abbrev pub nothing_entered : Groups → List Code
nothing_entered gs = if has_default gs then [] else [] ∷ []

abbrev pub fork_of : Groups → List Code → Code
fork_of gs all = forked (all ++ nothing_entered gs)
