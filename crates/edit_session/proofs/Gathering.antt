-- The methods that a method calls, finished, are its callees.
use Rattle.std.proofs.Common.{◌≡◌, ◌||◌, Bool, true, false, cond, List, [], ◌∷◌, All, Option, Some, drop, is_some, length}
use Rattle.std.proofs.Common.{ℕ, ◌+◌, ◌<◌, ◌≤◌, ◌++◌, None, get_or, map, nat_eq, option_map, refl, sym, ap, subst, ◌∙◌, arith}
use Rattle.std.proofs.lemmas.Bool.{or_left}
use Rattle.std.proofs.lemmas.List.{map_push}
use Rattle.std.proofs.lemmas.List.Elements.{All-cons, All-nil}
use Rattle.std.specs.Arc.{arc_value}
use Rattle.std.specs.List.{list_any}
use Rattle.std.specs.Option.{IfSome}
use Rattle.racer_base.specs.declared.ids.MethodId.{MethodId}
use Rattle.racer_base.proofs.Lists.{ended, turn}
use Rattle.core_code.specs.Calls.{is_analysed}
use Rattle.core_code.specs.CalleeRows.{rows_of}
use Rattle.core_code.specs.Chains.{row_of}
use Rattle.core_code.specs.Core.{Core}
use Rattle.core_code.specs.Program.{core}
use Rattle.core_code.proofs.RowCallees.{is_method}
use Rattle.access_domain.specs.declared.summary.Outcome.{Outcome}
use Rattle.transfer.specs.declared.finished.Finished.{Finished}
use Rattle.transfer.specs.Callees.{AreCallees, SharedFinished, outcome_in}
use Rattle.transfer.specs.Tables.{IsFinished, IsTable, finished_at}
use Rattle.transfer.proofs.Every.{row-done}
use Rattle.edit_session.specs.Work.{AreFound, some_of}

module _ (program : Core) (table : List (Option SharedFinished)) (right : IsTable program table) where
  abbrev IsFor : SharedFinished → Type 0
  IsFor f = core (arc_value (arc_value f).program) ≡ program

  found_right : (f : SharedFinished) (m : MethodId) → some_of f ≡ finished_at table m →
      IsFinished program m (arc_value f)
  found_right f m is = subst (λ (o : Option Finished). IfSome o (λ g. IsFinished program m g)) (sym is) (right m)

  all_for : (fs : List SharedFinished) (ms : List MethodId) → map some_of fs ≡ map (finished_at table) ms →
      All IsFor fs
  all_for [] ms e = All-nil IsFor
  all_for (f ∷ fs) [] e = absurd cc
  all_for (f ∷ fs) (m ∷ ms) e =
      let here : some_of f ≡ finished_at table m = cc in
      let rest : map some_of fs ≡ map (finished_at table) ms = cc in
      All-cons IsFor f fs (found_right f m here).program_is (all_for fs ms rest)

  first_or_rest : (b : Bool) (x : Outcome) (o : Option Outcome) → (b ≡ false → is_some o ≡ true) →
      is_some (cond b (Some x) o) ≡ true
  first_or_rest true x o h = refl
  first_or_rest false x o h = h refl

  among : (fs : List SharedFinished) (ms : List MethodId) → map some_of fs ≡ map (finished_at table) ms →
      (n : MethodId) → list_any (is_method n) ms ≡ true → is_some (outcome_in fs n) ≡ true
  among fs [] e n there = absurd cc
  among [] (m ∷ ms) e n there = absurd cc
  among (f ∷ fs) (m ∷ ms) e n there =
      let here : some_of f ≡ finished_at table m = cc in
      let rest : map some_of fs ≡ map (finished_at table) ms = cc in
      let own : (arc_value f).method ≡ m = (found_right f m here).method in
      first_or_rest (nat_eq (arc_value f).method.0 n.0) (arc_value (arc_value f).outcome) (outcome_in fs n) (λ apart.
      let other : nat_eq m.0 n.0 ≡ false = ap (λ (k : MethodId). nat_eq k.0 n.0) (sym own) ∙ apart in
      among fs ms rest n (ap (λ (b : Bool). b || list_any (is_method n) ms) (sym other) ∙ there))

  pub callees_there : (m : MethodId) (fs : List SharedFinished) (row : List MethodId) → is_analysed program m ≡ true →
      row ≡ row_of (rows_of program) m → map some_of fs ≡ map (finished_at table) row → AreCallees program m fs
  callees_there m fs row analysed is e =
      row-done program m fs row (length row) analysed is (omega arith) (all_for fs row e)
      (λ n there. or_left (is_some (outcome_in fs n)) (list_any (is_method n) (drop (length row) row))
      (among fs row e n there))

-- ---- one method after another

-- a method of these is finished
pub not_there : (table : List (Option SharedFinished)) (ms : List MethodId) (i : ℕ) (m : MethodId)
    (o : Option SharedFinished) → AreFound table ms → i < length ms → m ≡ get_or ms i m →
    option_map arc_value o ≡ finished_at table m → o ≡ None → ⊥
not_there table ms i m o all within is found none =
    let there : is_some (finished_at table m) ≡ true = all m (i, within, sym is) in
    let nothing : is_some (finished_at table m) ≡ false =
    ap is_some (sym found) ∙ ap (λ (x : Option SharedFinished). is_some (option_map arc_value x)) none in
    absurd cc

pub found_turn : (table : List (Option SharedFinished)) (ms : List MethodId) (i : ℕ) (m : MethodId)
    (o : Option SharedFinished) (made new : List SharedFinished) (f : SharedFinished) → i < length ms →
    m ≡ get_or ms i m → option_map arc_value o ≡ finished_at table m → o ≡ Some f → new ≡ made ++ f ∷ [] →
    map some_of made ++ map (finished_at table) (drop i ms) ≡ map (finished_at table) ms →
    map some_of new ++ map (finished_at table) (drop (i + 1) ms) ≡ map (finished_at table) ms
found_turn table ms i m o made new f within is found some pushed before =
    let here : some_of f ≡ finished_at table m = sym (ap (option_map arc_value) some) ∙ found in
    turn (map (finished_at table)) (λ n. finished_at table n ∷ []) ms i m (map some_of made) (map some_of new)
    (map (finished_at table) ms) (λ y ys. refl) within is
    (ap (map some_of) pushed
    ∙ map_push some_of made f
    ∙ ap (λ (x : Option Finished). map some_of made ++ x ∷ []) here) before

pub found_end : (table : List (Option SharedFinished)) (ms : List MethodId) (i : ℕ) (made : List SharedFinished) →
    length ms ≤ i → map some_of made ++ map (finished_at table) (drop i ms) ≡ map (finished_at table) ms →
    map some_of made ≡ map (finished_at table) ms
found_end table ms i made past before =
    ended (map (finished_at table)) ms i (map some_of made) (map (finished_at table) ms) refl past before
