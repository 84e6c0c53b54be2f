-- A contract of a public call rests on this: what the next step of a thread is, before it is made.
use Rattle.std.specs.Prelude.{ℕ, List, Option, None, Some, slice_get}
use Rattle.std.specs.Option.{option_and_then}
use Rattle.core_code.specs.declared.code.Op.{Op as CoreOp}
use Rattle.core_code.specs.declared.code.Op.TheVariants.{Get}
use Rattle.core_semantics.specs.declared.look.Look.{Look}
use Rattle.core_semantics.specs.declared.look.Look.TheVariants.{Turn, Read, Other}
use Rattle.core_semantics.specs.Runs.{next_of}
use Rattle.core_semantics.specs.State.{Todo, Op, Choice, Loop, Sync, Unlock, Frame, State, thread_of}

abbrev pub op_look : CoreOp → Look
op_look (Get x) = Read
op_look _ = Other

abbrev pub todo_look : Todo → Look
todo_look (Op place op) = op_look op
todo_look (Choice left right) = Turn
todo_look (Loop body) = Turn
todo_look (Sync lock body) = Other
todo_look Unlock = Other

-- what this step is; another one than a turn or a read where there is none
abbrev pub next_look : Option Todo → Look
next_look None = Other
next_look (Some todo) = todo_look todo

-- what the next step of the innermost frame is
abbrev pub frames_look : List Frame → Look
frames_look frames = next_look (option_and_then next_of (slice_get frames 0))

-- what the next step of a thread is
abbrev pub look_of : State → ℕ → Look
look_of s t = frames_look (thread_of s t).frames
