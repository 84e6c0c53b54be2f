-- A contract of a public call rests on this: the kinds of the variables and of what is on the operand stack.
use Rattle.std.specs.Prelude.{ℕ, ◌+◌, Bool, true, false, ◌&&◌, List, [], ◌∷◌, ◌++◌, Option, None, Some}
use Rattle.std.specs.Prelude.{length, map, take, drop, reverse, slice_index_or, slice_set}
use Rattle.racer_base.specs.declared.ids.Kind.{Kind}
use Rattle.core_code.specs.Core.{Method}
use Rattle.core_code.specs.Calls.{taken_by}
use Rattle.typed_core.specs.declared.kinds.TypedKind.{TypedKind}
use Rattle.typed_core.specs.declared.kinds.TypedKind.TheVariants.{Unset}
use Rattle.typed_core.specs.declared.states.KindState.{KindState}
use Rattle.typed_core.specs.Kinds.{kind_of, same_kind, joined_kind}

-- A method begins with the kinds of what it takes; nothing is known of its locals.
abbrev pub first_kinds : Method → List TypedKind
first_kinds m =
    map kind_of (taken_by m) ++ map (λ (local : Kind). Unset) (drop (length (taken_by m)) m.variables)

abbrev pub start_of : Method → KindState
start_of m = record { vars = first_kinds m; stack = [] }

-- the stack's top stands first
abbrev pub slot_of : KindState → ℕ → TypedKind
slot_of s n = slice_index_or s.stack n Unset

abbrev pub top : KindState → TypedKind
top s = slot_of s 0

abbrev pub variable_of : KindState → ℕ → TypedKind
variable_of s v = slice_index_or s.vars v Unset

abbrev pub pushed : KindState → TypedKind → KindState
pushed s kind = record { vars = s.vars; stack = kind ∷ s.stack }

abbrev pub popped : KindState → ℕ → KindState
popped s n = record { vars = s.vars; stack = drop n s.stack }

-- so many values popped, and then one pushed
abbrev pub replaced : KindState → ℕ → TypedKind → KindState
replaced s n kind = pushed (popped s n) kind

abbrev pub with_variable : KindState → ℕ → TypedKind → KindState
with_variable s v kind = record { vars = slice_set s.vars v kind; stack = s.stack }

-- the kinds of so many uppermost values, in the order in which they were pushed
abbrev pub passed : KindState → ℕ → List TypedKind
passed s n = reverse (take n s.stack)

-- ---- where two ways meet, place by place

abbrev pub joined_kinds : List TypedKind → List TypedKind → List TypedKind
joined_kinds (a ∷ rest) (b ∷ others) = joined_kind a b ∷ joined_kinds rest others
joined_kinds _ _ = []

abbrev pub joined_state : KindState → KindState → KindState
joined_state s t = record { vars = joined_kinds s.vars t.vars; stack = joined_kinds s.stack t.stack }

-- a way without kinds at its end takes no part
abbrev pub joined_next : Option KindState → Option KindState → Option KindState
joined_next None b = b
joined_next (Some a) None = Some a
joined_next (Some a) (Some b) = Some (joined_state a b)

abbrev pub same_kinds : List TypedKind → List TypedKind → Bool
same_kinds [] [] = true
same_kinds (a ∷ rest) (b ∷ others) = same_kind a b && same_kinds rest others
same_kinds _ _ = false

abbrev pub same_state : KindState → KindState → Bool
same_state s t = same_kinds s.vars t.vars && same_kinds s.stack t.stack

-- how many variables and slots of the stack there are
abbrev pub size : KindState → ℕ
size s = length s.vars + length s.stack

-- the state with these kinds below its stack
abbrev pub above : List TypedKind → KindState → KindState
above under s = record { vars = s.vars; stack = s.stack ++ under }
