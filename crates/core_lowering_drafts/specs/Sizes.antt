-- A contract of a public call rests on this: how large code is, and what is too large.
use Rattle.std.specs.Prelude.{◌≡◌, ℕ, suc, ◌+◌, ◌*◌, Bool, true, false, ◌&&◌, nat_le, max, Result, Ok, Err}
use Rattle.core_code.specs.Tree.{Tree, Op, Skip, Seq, Choice, Loop, Sync}
use Rattle.core_lowering_drafts.specs.declared.written.Stop.{Stop}
use Rattle.core_lowering_drafts.specs.declared.written.Stop.TheVariants as stop

-- the operations, choices, loops and locks
abbrev pub size : Tree → ℕ
size (Op site place op) = 1
size Skip = 0
size (Seq first rest) = size first + size rest
size (Choice left right) = suc (size left + size right)
size (Loop body) = suc (size body)
size (Sync lock body) = suc (size body)

-- how many choices, loops and locks stand within each other
abbrev pub depth : Tree → ℕ
depth (Op site place op) = 0
depth Skip = 0
depth (Seq first rest) = max (depth first) (depth rest)
depth (Choice left right) = suc (max (depth left) (depth right))
depth (Loop body) = suc (depth body)
depth (Sync lock body) = suc (depth body)

-- code of a method with so many tokens
abbrev pub is_small : ℕ → Tree → Bool
is_small tokens code = nat_le (size code) (1024 + 8 * tokens) && nat_le (depth code) 1024

-- whether a call says exactly where code is too large; there may be none for want of memory
abbrev pub TellsSize : {T : Type 0} → (is_small : Bool) → Result T Stop → Type 0
TellsSize is_small (Ok x) = is_small ≡ true
TellsSize is_small (Err stop.TooLarge) = is_small ≡ false
TellsSize is_small (Err stop.Memory) = Unit {0}
