-- The first of what is still to do, beside what it is made of.
use Rattle.std.proofs.Common.{◌≡◌, ℕ, ◌+◌, ◌<◌, List, [], ◌∷◌, Some, drop, slice_get, sym, ap, arith}
use Rattle.std.proofs.lemmas.Option.{get_or_from_slice_get}
use Rattle.core_semantics.specs.declared.pending.Pending.{Pending}
use Rattle.core_semantics.specs.View.{before_part, todo_of}
use Rattle.core_semantics.specs.Weights.{part_weight, pending_weight}

pub kept : (pending : List Pending) (whole : Pending) → slice_get pending 0 ≡ Some whole →
    before_part whole (todo_of (drop 1 pending)) ≡ todo_of pending
kept [] whole found = cc
kept (first ∷ rest) whole found =
    ap (λ (l : Pending). before_part l (todo_of rest)) (sym (get_or_from_slice_get (first ∷ rest) 0 whole first found))

pub weighs : (pending : List Pending) (whole : Pending) → slice_get pending 0 ≡ Some whole →
    pending_weight pending ≡ part_weight whole + pending_weight (drop 1 pending)
weighs [] whole found = cc
weighs (first ∷ rest) whole found =
    ap (λ (l : Pending). part_weight l + pending_weight rest) (get_or_from_slice_get (first ∷ rest) 0 whole first found)

pub lighter : (new old part rest left whole : ℕ) → new ≡ part + (rest + left) → old ≡ whole + left →
    part + rest < whole → new < old
lighter new old part rest left whole is was less = omega arith

pub lighter_by_one : (new old part left whole : ℕ) → new ≡ part + left → old ≡ whole + left → part < whole → new < old
lighter_by_one new old part left whole is was less = omega arith

pub lighter_by_none : (new old whole : ℕ) → old ≡ whole + new → 0 < whole → new < old
lighter_by_none new old whole was some = omega arith
