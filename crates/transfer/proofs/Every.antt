-- Methods that are finished one after another, each behind those that it calls.
use Rattle.std.proofs.Common.{◌≡◌, ℕ, zero, suc, ◌+◌, ◌-◌, ◌<◌, ◌≤◌, Bool, true, false, cond}
use Rattle.std.proofs.Common.{◌&&◌, ◌||◌, List, [], ◌∷◌}
use Rattle.std.proofs.Common.{◌++◌, Option, None, Some, length, map, drop, refl, sym, ap, subst, ◌∙◌, arith}
use Rattle.std.proofs.Common.{option_map, nat_eq, is_none, is_some, All, slice_get, slice_set}
use Rattle.std.proofs.Common.{slice_index_or, ◌⊎◌, inl, inr}
use Rattle.std.proofs.Common.{append_assoc, add-one, replicate, get_or}
use Rattle.std.specs.Arc.{arc_value}
use Rattle.std.proofs.Math.Dec.{ltb}
use Rattle.std.proofs.lemmas.Bool.{eq-eqb, ltb-true, ltb-false, or_left, or_right}
use Rattle.std.proofs.lemmas.Option.{slice_get_read, slice_get_past}
use Rattle.std.proofs.lemmas.List.{at_drop_more, drop_all, length-map}
use Rattle.std.specs.List.{list_any, list_all}
use Rattle.std.specs.Option.{IfSome, option_and_then}
use Rattle.racer_base.specs.declared.ids.MethodId.{MethodId}
use Rattle.core_code.specs.Chains.{row_of}
use Rattle.core_code.specs.declared.parts.MethodCore.{MethodCore}
use Rattle.core_code.specs.declared.code.Reason.{Reason}
use Rattle.core_code.specs.Calls.{calls_of, method_at, is_analysed}
use Rattle.core_code.specs.Core.{Core, Method, method_of}
use Rattle.core_code.specs.Program.{core}
use Rattle.core_code.specs.CalleeRows.{rows_of}
use Rattle.access_domain.specs.declared.summary.Outcome.{Outcome}
use Rattle.access_domain.specs.Findings.{Known, outcome_from}
use Rattle.access_domain.specs.Summaries.{outcome_of, outcomes_from, known_given, known_of_callees}
use Rattle.core_code.proofs.RowCallees.{is_method, nat_eq-same, analysed_at, in_row_called}
use Rattle.transfer.specs.declared.finished.Finished.{Finished}
use Rattle.transfer.specs.Callees.{SharedFinished, AreCallees, outcome_in}
use Rattle.transfer.specs.Tables.{IsFinished, IsTable, finished_at}
use Rattle.transfer.proofs.Handed.{found_at}

-- ---- the table

pub set_get : {X : Type 0} (xs : List X) (i j : ℕ) (x : X) →
    (slice_get (slice_set xs i x) j ≡ slice_get xs j) ⊎ ((j ≡ i) × (slice_get (slice_set xs i x) j ≡ Some x))
set_get [] i j x = inl refl
set_get (y ∷ xs) zero zero x = inr (refl, refl)
set_get (y ∷ xs) zero (suc j) x = inl refl
set_get (y ∷ xs) (suc i) zero x = inl refl
set_get (y ∷ xs) (suc i) (suc j) x =
    elim (set_get xs i j x) [ inl e ↦ inl e | inr p ↦ inr (ap suc p.0, p.1) ]

abbrev place_of : Option (Option SharedFinished) → Option Finished
place_of o = option_map arc_value (option_and_then (λ (place : Option SharedFinished). place) o)

pub kept-table : (program : Core) (table : List (Option SharedFinished)) (m : MethodId) (f : SharedFinished) →
    IsTable program table →
    IsFinished program m (arc_value f) → IsTable program (slice_set table m.0 (Some f))
kept-table program table m f at is n =
    elim (set_get table m.0 n.0 (Some f)) [
      | inl e ↦ subst (λ (o : Option (Option SharedFinished)). IfSome (place_of o) (λ g. IsFinished program n g))
          (sym e) (at n)
      | inr p ↦
          let same : m ≡ n = ap (λ (k : ℕ). record { 0 = k }) (sym p.0) in
          subst (λ (o : Option (Option SharedFinished)). IfSome (place_of o) (λ g. IsFinished program n g)) (sym p.1)
          (subst (λ (k : MethodId). IsFinished program k (arc_value f)) same is)
    ]

empty_at : (n i : ℕ) → place_of (slice_get (replicate n None) i) ≡ None
empty_at zero i = refl
empty_at (suc n) zero = refl
empty_at (suc n) (suc i) = empty_at n i

pub empty-table : (program : Core) (n : ℕ) → IsTable program (replicate n None)
empty-table program n m =
    subst (λ (o : Option Finished). IfSome o (λ g. IsFinished program m g)) (sym (empty_at n m.0)) tt

-- ---- looking a method up

at_place : (table : List (Option SharedFinished)) (i : ℕ) (place : Option SharedFinished) →
    true ≡ ltb i (length table) →
    place ≡ get_or table i place → slice_get table i ≡ Some place
at_place table i place within at = slice_get_read table (length table) i place refl
    (ltb-true i (length table) (sym within)) at

pub held-none : (table : List (Option SharedFinished)) (m : MethodId) (place : Option SharedFinished) →
    true ≡ ltb m.0 (length table) →
    place ≡ get_or table m.0 place → place ≡ None → None ≡ finished_at table m
held-none table m place within at none =
    sym (ap place_of (at_place table m.0 place within at ∙ ap (λ (p : Option SharedFinished). Some p) none))

pub held-some : (table : List (Option SharedFinished)) (m : MethodId) (place : Option SharedFinished)
    (g f : SharedFinished) →
    true ≡ ltb m.0 (length table) → place ≡ get_or table m.0 place → place ≡ Some f → arc_value g ≡ arc_value f →
    Some (arc_value g) ≡ finished_at table m
held-some table m place g f within at is same =
    ap (λ (x : Finished). Some x) same
    ∙ sym (ap place_of (at_place table m.0 place within at ∙ ap (λ (p : Option SharedFinished). Some p) is))

pub past-end : (table : List (Option SharedFinished)) (m : MethodId) → false ≡ ltb m.0 (length table) →
    None ≡ finished_at table m
past-end table m past =
    sym (ap place_of (slice_get_past table m.0 (ltb-false m.0 (length table) (sym past))))

-- ---- reading a row

read_itself : {X : Type 0} (xs : List X) (i : ℕ) (d : X) → i < length xs →
    slice_index_or xs i d ≡ slice_index_or xs i (slice_index_or xs i d)
read_itself [] i d within = absurd (omega arith)
read_itself (x ∷ xs) zero d within = refl
read_itself (x ∷ xs) (suc i) d within = read_itself xs i d (omega arith)

pub read_at : {X : Type 0} (xs ys : List X) (i : ℕ) (d : X) → xs ≡ ys → i < length xs →
    (i < length ys) × (slice_index_or xs i d ≡ get_or ys i (slice_index_or xs i d))
read_at {X} xs ys i d same within =
    subst (λ (zs : List X). (i < length zs) × (slice_index_or xs i d ≡ get_or zs i (slice_index_or xs i d))) same
    (within, read_itself xs i d within)

-- ---- one more callee

more_some : (b : Bool) (x : Outcome) (o p : Option Outcome) → (is_some o ≡ true → is_some p ≡ true) →
    is_some (cond b (Some x) o) ≡ true → is_some (cond b (Some x) p) ≡ true
more_some true x o p h e = refl
more_some false x o p h e = h e

-- what is among some is among more
still_in : (fs : List SharedFinished) (f : SharedFinished) (n : MethodId) → is_some (outcome_in fs n) ≡ true →
    is_some (outcome_in (fs ++ f ∷ []) n) ≡ true
still_in [] f n e = absurd cc
still_in (g ∷ fs) f n e =
    more_some (nat_eq (arc_value g).method.0 n.0) (arc_value (arc_value g).outcome) (outcome_in fs n)
    (outcome_in (fs ++ f ∷ []) n) (still_in fs f n) e

some_either : (b : Bool) (x : Outcome) (p : Option Outcome) → is_some p ≡ true → is_some (cond b (Some x) p) ≡ true
some_either true x p e = refl
some_either false x p e = e

last_in : (fs : List SharedFinished) (f : SharedFinished) (n : MethodId) → (arc_value f).method ≡ n →
    is_some (outcome_in (fs ++ f ∷ []) n) ≡ true
last_in [] f n is =
    ap (λ (b : Bool). is_some (cond b (Some (arc_value (arc_value f).outcome)) None))
    (eq-eqb (arc_value f).method.0 n.0 (ap (λ (m : MethodId). m.0) is))
last_in (g ∷ fs) f n is =
    some_either (nat_eq (arc_value g).method.0 n.0) (arc_value (arc_value g).outcome) (outcome_in (fs ++ f ∷ []) n)
    (last_in fs f n is)

either_true : (a b c d : Bool) → (a ≡ true → d ≡ true) → (b ≡ true → d ≡ true) → (a || (b || c)) ≡ true →
    (d || c) ≡ true
either_true true b c d f g e = ap (λ (x : Bool). x || c) (f refl)
either_true false true c d f g e = ap (λ (x : Bool). x || c) (g refl)
either_true false false c d f g e = or_right d c e

pub one-fewer : (fs : List SharedFinished) (f : SharedFinished) (row : List MethodId) (i : ℕ) (x n : MethodId) →
    i < length row →
    x ≡ get_or row i x → (arc_value f).method ≡ x →
    (is_some (outcome_in fs n) || list_any (is_method n) (drop i row)) ≡ true →
    (is_some (outcome_in (fs ++ f ∷ []) n) || list_any (is_method n) (drop (i + 1) row)) ≡ true
one-fewer fs f row i x n within at is e =
    let left = list_any (is_method n) (drop (i + 1) row) in
    let split : list_any (is_method n) (drop i row) ≡ (is_method n x || left) =
    at_drop_more (list_any (is_method n)) row i x within ∙ ap (λ (m : MethodId). is_method n m || left) (sym at) in
    either_true (is_some (outcome_in fs n)) (is_method n x) left (is_some (outcome_in (fs ++ f ∷ []) n))
    (still_in fs f n)
    (λ same. last_in fs f n (is ∙ nat_eq-same x n same))
    (ap (λ (b : Bool). is_some (outcome_in fs n) || b) (sym split) ∙ e)

all_from : (p : MethodId → Bool) (ms : List MethodId) →
    ((n : MethodId) → list_any (is_method n) ms ≡ true → p n ≡ true) → list_all p ms ≡ true
all_from p [] h = refl
all_from p (m ∷ ms) h = (λ i.
    h m (or_left (nat_eq m.0 m.0) (list_any (is_method m) ms) (eq-eqb m.0 m.0 refl)) i
    && all_from p ms (λ n e. h n (or_right (nat_eq m.0 n.0) (list_any (is_method n) ms) e)) i)

or_none : (a b : Bool) → b ≡ false → (a || b) ≡ true → a ≡ true
or_none true b e h = refl
or_none false b e h = sym e ∙ h

-- all callees are finished
pub row-done : (program : Core) (m : MethodId) (fs : List SharedFinished) (row : List MethodId) (i : ℕ) →
    is_analysed program m ≡ true → row ≡ row_of (rows_of program) m → length row ≤ i →
    All (λ (f : SharedFinished). core (arc_value (arc_value f).program) ≡ program) fs →
    ((n : MethodId) → list_any (is_method n) row ≡ true →
    (is_some (outcome_in fs n) || list_any (is_method n) (drop i row)) ≡ true) → AreCallees program m fs
row-done program m fs row i analysed is over same there =
    record {
      same_program = same;
      are_there = all_from (λ (n : MethodId). is_some (outcome_in fs n)) (calls_of program m)
          (λ n called.
          or_none (is_some (outcome_in fs n)) (list_any (is_method n) (drop i row))
          (ap (list_any (is_method n)) (drop_all i row over))
          (there n (ap (list_any (is_method n)) is ∙ in_row_called program m n analysed ∙ called)));
    }

-- ---- outcomes

without : (o : Option Reason) (x : Known) → is_some o ≡ true →
    None ≡ option_map outcome_from (cond (is_none o) (Some x) None)
without None x e = absurd cc
without (Some r) x e = refl

-- the method of a number within the table
pub method_found : (program : Core) (ms : List MethodCore) (m : MethodId) (x : MethodCore) →
    map method_of ms ≡ program.methods → m.0 < length program.methods → x ≡ get_or ms m.0 x →
    method_at program m ≡ Some (method_of x)
method_found program ms m x all within at =
    let here : m.0 < length ms = omega (arith, ap length all, length-map ms method_of, within) in
    ap (λ (ys : List Method). slice_get ys m.0) (sym all) ∙ found_at ms m.0 x here at

no_status : (o : Option Reason) → is_some o ≡ false → is_none o ≡ true
no_status None e = refl
no_status (Some r) e = absurd cc

pub analysed_found : (program : Core) (m : MethodId) (method : Method) → method_at program m ≡ Some method →
    is_some method.status ≡ false → is_analysed program m ≡ true
analysed_found program m method is e = ap analysed_at is ∙ no_status method.status e

-- a method that is not analysed has no outcome
pub no_outcome : (program : Core) (m : MethodId) (method : Method) → method_at program m ≡ Some method →
    is_some method.status ≡ true → None ≡ outcome_of program m
no_outcome program m method is e =
    without method.status (known_given program (known_of_callees program m) method) e
    ∙ sym (ap (λ (o : Option Method). option_map outcome_from (option_and_then
    (λ x. cond (is_none x.status) (Some (known_given program (known_of_callees program m) x)) None) o)) is)

-- one more outcome
pub outcomes_turn : (program : Core) (n i : ℕ) (before : List (Option Outcome)) (found : Option Outcome) → i < n →
    found ≡ outcome_of program (record { 0 = i }) →
    (before ++ found ∷ []) ++ outcomes_from program (i + 1) (n - (i + 1)) ≡ before ++ outcomes_from program i (n - i)
outcomes_turn program n i before found within is =
    let one : suc (n - (i + 1)) ≡ n - i = omega arith in
    append_assoc before (found ∷ []) (outcomes_from program (i + 1) (n - (i + 1)))
    ∙ (λ j. before ++ is j ∷ outcomes_from program (add-one i j) (n - (i + 1)))
    ∙ ap (λ (k : ℕ). before ++ outcomes_from program i k) one
