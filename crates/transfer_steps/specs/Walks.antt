-- A contract of a public call rests on this: code that is gone through.
use Rattle.std.specs.Prelude.{◌≡◌, Bool, true, false, [], Option, None, Some, Result, Ok, Err, OnOk}
use Rattle.std.specs.Prelude.{slice_index_or, slice_set}
use Rattle.racer_base.specs.declared.ids.SiteId.{SiteId}
use Rattle.access_paths.specs.declared.path.Root.TheVariants.{Class}
use Rattle.access_paths.specs.Paths.{alone}
use Rattle.owner_domain.specs.declared.value.Value.TheVariants.{Owned, Named, Unnamed}
use Rattle.owner_domain.specs.declared.value.State.{State}
use Rattle.core_code.specs.declared.code.Op.{Op as CoreOp}
use Rattle.core_code.specs.declared.code.Op.TheVariants.{Push, PushClass, PushPrim, PushNull, New, Dup, Drop, Get, Put}
use Rattle.core_code.specs.declared.code.Op.TheVariants.{Set, Prim, Outside, Call, Unread, Ret, Throw}
use Rattle.access_domain.specs.Findings.{Findings}
use Rattle.access_domain.specs.FlowContext.{FlowContext}
use Rattle.access_domain.specs.Substitution.{substituted}
use Rattle.access_domain.specs.Flow.{rounds}
use Rattle.access_domain.specs.Operations.{Effects, top, pushed, popped, replaced}
use Rattle.transfer_steps.specs.declared.found.Found.{Found}
use Rattle.transfer_steps.specs.declared.found.Stop.{Stop}
use Rattle.transfer_steps.specs.NotedCalls.{PassingCall, passed_by}
use Rattle.transfer_steps.specs.Marks.{IsNoted, IsStopped, IsMarked, marks}
use Rattle.transfer_loops.specs.Rounds.{rounds_of}

-- the state behind a piece of code that goes on or not
abbrev pub next_of : Bool → State → Option State
next_of true here = Some here
next_of false here = None

-- the effects are noted, and where the code goes on the state is that at its end
abbrev pub IsFlow : Effects → State → Found → Found → Result Bool Stop → Type 0
IsFlow e here old new (Ok goes_on) = (e.next ≡ next_of goes_on here) × IsNoted old e new
IsFlow e here old new (Err stop) = IsStopped old e stop

-- whether an operation finds nothing and goes on
abbrev pub is_quiet : CoreOp → Bool
is_quiet (Get f) = false
is_quiet (Put f) = false
is_quiet (Call m n) = false
is_quiet Ret = false
is_quiet Throw = false
is_quiet _ = true

-- the state behind such an operation
abbrev pub moved : CoreOp → State → State
moved (Push v) s = pushed s (slice_index_or s.vars v.0 Unnamed)
moved (PushClass c) s = pushed s (Named (alone (Class c)))
moved PushPrim s = pushed s Unnamed
moved PushNull s = pushed s Owned
moved (New c) s = pushed s Owned
moved Dup s = pushed s (top s)
moved Drop s = popped s 1
moved (Set v) s = record { vars = slice_set s.vars v.0 (top s); stack = s.stack }
moved (Prim n) s = replaced s n Unnamed
moved (Outside n) s = replaced s n Unnamed
moved (Unread m n) s = replaced s n Unnamed
moved _ s = s

-- whether an operation calls a method
abbrev pub is_call : CoreOp → Bool
is_call (Call m n) = true
is_call _ = false

-- what is found of a callee at such a call, in the caller's values
abbrev pub call_marks : FlowContext → PassingCall → Findings → SiteId → Effects
call_marks g c f site =
    marks (substituted g (passed_by g c) f c.locked site).records (substituted g (passed_by g c) f c.locked site).wobbly

-- so many rounds of a loop are done as there are: the state is that behind them, and the paths that are lost there
-- are noted
abbrev pub AreRoundsDone : (State → Effects) → State → State → Found → Found → Result (Unit {0}) Stop → Type 0
AreRoundsDone body s here old new r =
    OnOk r (here ≡ (rounds body (rounds_of s) s).0) × IsMarked old (marks [] (rounds body (rounds_of s) s).1) new r
