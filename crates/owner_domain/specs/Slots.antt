-- A contract of a public call rests on this: states whose paths are numbers, slot by slot.
use Rattle.std.specs.Prelude.{ℕ, Bool, true, false, ◌&&◌, List, [], ◌∷◌, ◌++◌, take, drop, reverse, slice_index_or}
use Rattle.owner_domain.specs.declared.numbered.NumberedValue.{NumberedValue}
use Rattle.owner_domain.specs.declared.numbered.NumberedValue.TheVariants.{Unnamed}
use Rattle.owner_domain.specs.declared.numbered.NumberedState.{NumberedState}
use Rattle.owner_domain.specs.Numbered.{same_number, joined_numbers, lost_numbers}

abbrev pub top_number : NumberedState → NumberedValue
top_number s = slice_index_or s.stack 0 Unnamed

abbrev pub pushed_number : NumberedState → NumberedValue → NumberedState
pushed_number s v = record { vars = s.vars; stack = v ∷ s.stack }

abbrev pub popped_numbers : NumberedState → ℕ → NumberedState
popped_numbers s n = record { vars = s.vars; stack = drop n s.stack }

abbrev pub replaced_numbers : NumberedState → ℕ → NumberedValue → NumberedState
replaced_numbers s n v = pushed_number (popped_numbers s n) v

abbrev pub passed_numbers : NumberedState → ℕ → List NumberedValue
passed_numbers s n = reverse (take n s.stack)

-- the state with these values below its stack
abbrev pub numbers_above : List NumberedValue → NumberedState → NumberedState
numbers_above under s = record { vars = s.vars; stack = s.stack ++ under }

-- where two states meet, and the numbers that are lost there
abbrev pub met_numbers : NumberedState → NumberedState → NumberedState
met_numbers s t = record { vars = joined_numbers s.vars t.vars; stack = joined_numbers s.stack t.stack }

abbrev pub lost_by : NumberedState → NumberedState → List ℕ
lost_by s t = lost_numbers s.vars t.vars ++ lost_numbers s.stack t.stack

abbrev pub same_numbers : List NumberedValue → List NumberedValue → Bool
same_numbers [] [] = true
same_numbers (a ∷ rest) (b ∷ others) = same_number a b && same_numbers rest others
same_numbers _ _ = false

abbrev pub same_numbered : NumberedState → NumberedState → Bool
same_numbered s t = same_numbers s.vars t.vars && same_numbers s.stack t.stack
