-- Tables of levels.
use Rattle.std.proofs.Common.{◌≡◌, ℕ, zero, suc, ◌+◌, ◌-◌, ◌<◌, ◌≤◌, inl, inr, true, false, cond, List, [], ◌∷◌, ◌++◌, Option}
use Rattle.std.proofs.Common.{None, Some, is_none, is_some, length, drop, get_or, replicate, slice_get, slice_set, refl, sym, ap}
use Rattle.std.proofs.Common.{subst, ◌∙◌, arith, append_assoc}
use Rattle.std.proofs.lemmas.List.{at_drop_all, at_drop_more}
use Rattle.std.specs.Prelude.{max}
use Rattle.std.specs.Option.{IfSome, option_flatten}
use Rattle.racer_base.specs.declared.ids.MethodId.{MethodId}
use Rattle.core_code.specs.declared.code.Reason.{Reason}
use Rattle.core_code.specs.Calls.{is_analysed, method_at}
use Rattle.core_code.specs.Core.{Core, Method}
use Rattle.core_code.proofs.KindLemmas.{same_method}
use Rattle.core_code.proofs.RowCallees.{analysed_at}
use Rattle.transfer.proofs.Every.{set_get}
use Rattle.transfer_ties.specs.Again.{level_of}
use Rattle.edit_session.specs.Levels.{AreLevels, level_above, level_in, levels_from}

-- a level at its method's number
pub kept_levels : (core : Core) (levels : List (Option ℕ)) (m : MethodId) (l : ℕ) → AreLevels core levels →
    l ≡ level_of core m → AreLevels core (slice_set levels m.0 (Some l))
kept_levels core levels m l are is n =
    let IsAt : Option (Option ℕ) → Type 0 = λ o. IfSome (option_flatten o) (λ k. k ≡ level_of core n) in
    elim (set_get levels m.0 n.0 (Some l)) [
      | inl e ↦ subst IsAt (sym e) (are n)
      | inr p ↦ subst IsAt (sym p.1) (is ∙ ap (level_of core) (same_method m n (sym p.0)))
    ]

none_at : (n i : ℕ) → option_flatten (slice_get (replicate {A = Option ℕ} n None) i) ≡ None
none_at zero i = refl
none_at (suc n) zero = refl
none_at (suc n) (suc i) = none_at n i

pub no_levels : (core : Core) (n : ℕ) → AreLevels core (replicate n None)
no_levels core n m = subst (λ (o : Option ℕ). IfSome o (λ k. k ≡ level_of core m)) (sym (none_at n m.0)) tt

-- the level of one more method of a row
pub above_turn : (core : Core) (row : List MethodId) (i high level new : ℕ) (n : MethodId) → i < length row →
    n ≡ get_or row i n → level ≡ level_of core n → new ≡ max high (suc level) →
    max high (level_above core (drop i row)) ≡ level_above core row →
    max new (level_above core (drop (i + 1) row)) ≡ level_above core row
above_turn core row i high level new n within at level_is new_is before =
    let split : level_above core (drop i row) ≡ max (suc (level_of core n)) (level_above core (drop (i + 1) row)) =
    at_drop_more (level_above core) row i n within
    ∙ ap (λ (k : MethodId). max (suc (level_of core k)) (level_above core (drop (i + 1) row))) (sym at) in
    omega arith

pub above_end : (core : Core) (row : List MethodId) (i high : ℕ) → length row ≤ i →
    max high (level_above core (drop i row)) ≡ level_above core row → high ≡ level_above core row
above_end core row i high past before =
    let none : level_above core (drop i row) ≡ 0 = at_drop_all (level_above core) row i past in
    omega arith

-- one more level
pub levels_turn : (core : Core) (n i : ℕ) (made : List (Option ℕ)) (level : Option ℕ) → i < n →
    level ≡ level_in core (record { 0 = i }) →
    (made ++ level ∷ []) ++ levels_from core (i + 1) (n - (i + 1)) ≡ made ++ levels_from core i (n - i)
levels_turn core n i made level within is =
    let one : suc (n - (i + 1)) ≡ n - i = omega arith in
    append_assoc made (level ∷ []) (levels_from core (i + 1) (n - (i + 1)))
    ∙ ap (λ (l : Option ℕ). made ++ l ∷ levels_from core (i + 1) (n - (i + 1))) is
    ∙ ap (λ (k : ℕ). made ++ levels_from core i k) one

-- the level of a method that is analysed, and of one that is not
pub level_there : (core : Core) (m : MethodId) → is_analysed core m ≡ true → Some (level_of core m) ≡ level_in core m
level_there core m analysed = sym (ap (λ b. cond b (Some (level_of core m)) None) analysed)

pub no_level : (core : Core) (m : MethodId) → is_analysed core m ≡ false → None ≡ level_in core m
no_level core m apart = sym (ap (λ b. cond b (Some (level_of core m)) None) apart)

some_none : (o : Option Reason) → is_some o ≡ true → is_none o ≡ false
some_none None e = absurd cc
some_none (Some r) e = refl

pub not_analysed : (core : Core) (m : MethodId) (method : Method) → method_at core m ≡ Some method →
    is_some method.status ≡ true → is_analysed core m ≡ false
not_analysed core m method is e = ap analysed_at is ∙ some_none method.status e
