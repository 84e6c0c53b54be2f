-- No public contract rests on this: what is kept while code is gone through, and what a piece of code makes of it.
use Rattle.std.specs.Prelude.{◌≡◌, ℕ, suc, ◌+◌, ◌≤◌, Bool, not, ◌++◌, Option, None, Some, length}
use Rattle.std.specs.Prelude.{slice_index_or, take}
use Rattle.core_code.specs.Tree.{Tree}
use Rattle.core_code.specs.Core.{method_of}
use Rattle.core_code.specs.Program.{core}
use Rattle.typed_core.specs.declared.states.KindState.{KindState}
use Rattle.typed_core.specs.declared.loops.Walk.{Walk}
use Rattle.typed_core.specs.declared.loops.Mark.{Mark}
use Rattle.typed_core.specs.declared.context.CheckContext.{CheckContext}
use Rattle.typed_core.specs.Contexts.{are_returns}
use Rattle.transfer_loops.specs.Resuming.{loops}
use Rattle.typed_core.specs.Resuming.{Heads, Iterated, Resumed, entered, is_settled, put_head, resumed}

-- the kinds in which loops were left
abbrev pub heads_of : Walk → Heads
heads_of walk i = slice_index_or walk.heads.items i None

abbrev pub SameHeads : Heads → Heads → Type 0
SameHeads h j = (i : ℕ) → h i ≡ j i

-- there is a place for each loop that was come to
abbrev pub HasRoom : ℕ → Walk → Type 0
HasRoom k walk = k ≤ length walk.heads.items

-- the flags of a context are those of its program
abbrev pub IsRight : CheckContext → Type 0
IsRight context = context.returns.now ≡ are_returns (core context.program.now)

-- what is found of code in a context
abbrev pub found_in : CheckContext → Tree → ℕ → Heads → Option KindState → Resumed
found_in context code k h before = resumed (core context.program.now) (method_of context.method.now) code k h before

-- one round of a loop with this body, whose loops have numbers from k on
abbrev pub round_in : CheckContext → Tree → ℕ → Heads → KindState → Resumed
round_in context body k h x = found_in context body k h (Some x)

-- whether a round that ends with these kinds changes those before it
abbrev pub is_changed : KindState → Option KindState → Bool
is_changed x next = not (is_settled x next)

-- a walk went through code that finds this: its doubts are put behind those that there were
pub record IsWalked (code : Tree) (found : Resumed) (end : Option KindState) (old new : Walk) : Type 0 where
  pub next : end ≡ found.next
  pub number : new.next ≡ old.next + loops code
  pub room : HasRoom new.next new
  pub heads : SameHeads (heads_of new) found.heads
  pub doubts : new.doubts.items ≡ old.doubts.items ++ found.doubts

-- a loop that is reached was come to: its kinds are those in which it begins
pub record IsEntered (loop : ℕ) (before here : KindState) (old new : Walk) : Type 0 where
  pub is : loop ≡ old.next
  pub number : new.next ≡ suc old.next
  pub room : HasRoom new.next new
  pub heads : SameHeads (heads_of new) (heads_of old)
  pub doubts : new.doubts.items ≡ old.doubts.items
  pub joined : here ≡ entered (heads_of old loop) before

-- a loop was come to: it has the next number
pub record IsPassed (loop : ℕ) (old new : Walk) : Type 0 where
  pub is : loop ≡ old.next
  pub number : new.next ≡ suc old.next
  pub room : HasRoom new.next new
  pub heads : SameHeads (heads_of new) (heads_of old)
  pub doubts : new.doubts.items ≡ old.doubts.items

-- the kinds of a loop are kept
pub record IsLeft (loop : ℕ) (here : KindState) (old new : Walk) : Type 0 where
  pub number : new.next ≡ old.next
  pub room : length new.heads.items ≡ length old.heads.items
  pub heads : SameHeads (heads_of new) (put_head (heads_of old) loop here)
  pub doubts : new.doubts.items ≡ old.doubts.items

-- the rounds of a loop with this body were gone through, whose loops have numbers from the walk's on
pub record AreRounds (body : Tree) (all : Iterated) (has_changed : Bool) (here : KindState) (old new : Walk) : Type 0 where
  pub last : here ≡ all.last
  pub changed : has_changed ≡ all.changed
  pub number : new.next ≡ old.next + loops body
  pub room : HasRoom new.next new
  pub heads : SameHeads (heads_of new) all.heads
  pub doubts : new.doubts.items ≡ old.doubts.items ++ all.doubts

-- the walk is at a mark again, with what it has kept of loops since
pub record IsBack (mark : Mark) (old new : Walk) : Type 0 where
  pub number : new.next ≡ mark.next
  pub heads : new.heads ≡ old.heads
  pub doubts : new.doubts.items ≡ take mark.doubts old.doubts.items
