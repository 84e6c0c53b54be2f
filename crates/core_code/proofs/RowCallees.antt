-- The rows of analysed methods: what their code calls, which is analysed.
use Rattle.std.proofs.Common.{◌≡◌, ℕ, zero, suc, ◌<◌, Bool, true, false, cond, ◌||◌, not, List, [], ◌∷◌}
use Rattle.std.proofs.Common.{Option, None, Some, length, map, filter, refl, sym, ap, ◌∙◌, arith, nat_eq, is_none}
use Rattle.std.proofs.Common.{slice_get, slice_index_or, get_or}
use Rattle.std.proofs.lemmas.Bool.{eq-eqb, eqb-true, and_parts, or_left, or_right}
use Rattle.std.proofs.lemmas.Option.{slice_get_within}
use Rattle.std.proofs.lemmas.List.{length-map}
use Rattle.std.proofs.lemmas.List.Folds.{list_any-append}
use Rattle.std.specs.List.{list_any, list_all, flat_map}
use Rattle.racer_base.specs.declared.ids.MethodId.{MethodId}
use Rattle.core_code.specs.Chains.{row_of}
use Rattle.core_code.specs.declared.code.Op.{Op as CoreOp}
use Rattle.core_code.specs.declared.code.Op.TheVariants.{Push, PushClass, PushPrim, PushNull, New, Dup, Drop, Get, Put}
use Rattle.core_code.specs.declared.code.Op.TheVariants.{Set, Prim, Outside, Call, Unread, Ret, Throw}
use Rattle.core_code.specs.Calls.{called_by, calls_in, calls_of, method_at, is_analysed}
use Rattle.core_code.specs.CallFacts.{is_right_call, has_right_calls, are_calls_right, takes}
use Rattle.core_code.specs.Core.{Core, Method}
use Rattle.core_code.specs.CalleeRows.{different, rows_of}
use Rattle.core_code.specs.Tree.{Operation, steps_of}

abbrev pub is_method : MethodId → MethodId → Bool
is_method n m = nat_eq m.0 n.0

abbrev differs : MethodId → MethodId → Bool
differs m n = not (nat_eq m.0 n.0)

pub nat_eq-same : (n m : MethodId) → nat_eq n.0 m.0 ≡ true → n ≡ m
nat_eq-same n m e = ap (λ (k : ℕ). let i : MethodId = record { 0 = k } in i) (eqb-true n.0 m.0 e)

-- ---- what a row has

-- another method is there still, where m is left out
others_stay : (m n : MethodId) → nat_eq m.0 n.0 ≡ false → (ms : List MethodId) →
    list_any (is_method n) (filter (differs m) ms) ≡ list_any (is_method n) ms
others_stay m n apart [] = refl
others_stay m n apart (x ∷ xs) =
    elim (nat_eq m.0 x.0) as (λ b. nat_eq m.0 x.0 ≡ b →
    list_any (is_method n) (cond (not b) (x ∷ filter (differs m) xs) (filter (differs m) xs)) ≡
    (nat_eq x.0 n.0 || list_any (is_method n) xs)) [
      | true ↦ λ e.
          let same : m.0 ≡ x.0 = eqb-true m.0 x.0 e in
          others_stay m n apart xs
          ∙ ap (λ (b : Bool). b || list_any (is_method n) xs) (sym (ap (λ (k : ℕ). nat_eq k n.0) (sym same) ∙ apart))
      | false ↦ λ e. ap (λ (b : Bool). nat_eq x.0 n.0 || b) (others_stay m n apart xs)
    ] refl

pub in_row : (n : MethodId) (ms : List MethodId) → list_any (is_method n) (different ms) ≡ list_any (is_method n) ms
in_row n [] = refl
in_row n (m ∷ ms) =
    elim (nat_eq m.0 n.0) as (λ b. nat_eq m.0 n.0 ≡ b →
    (b || list_any (is_method n) (filter (differs m) (different ms))) ≡ (b || list_any (is_method n) ms)) [
      | true ↦ λ e. refl
      | false ↦ λ e. others_stay m n e (different ms) ∙ in_row n ms
    ] refl

pub row_at : (ms : List Method) (i : ℕ) (method : Method) → slice_get ms i ≡ Some method →
    slice_index_or (map (λ (m : Method). different (calls_in m.code)) ms) i [] ≡ different (calls_in method.code)
row_at [] i method is = absurd cc
row_at (m ∷ ms) zero method is = let same : m ≡ method = cc in ap (λ (x : Method). different (calls_in x.code)) same
row_at (m ∷ ms) (suc i) method is = row_at ms i method is

pub read_any : (ms : List MethodId) (i : ℕ) (n : MethodId) → i < length ms → n ≡ get_or ms i n →
    list_any (is_method n) ms ≡ true
read_any [] i n within is = absurd (omega arith)
read_any (m ∷ ms) zero n within is =
    or_left (nat_eq m.0 n.0) (list_any (is_method n) ms) (eq-eqb m.0 n.0 (ap (λ (k : MethodId). k.0) (sym is)))
read_any (m ∷ ms) (suc i) n within is =
    or_right (nat_eq m.0 n.0) (list_any (is_method n) ms) (read_any ms i n (omega arith) is)

-- ---- the methods in a row are analysed

alone : (b : Bool) → (b || false) ≡ true → b ≡ true
alone true e = refl
alone false e = absurd cc

call_analysed : (program : Core) (n : MethodId) (op : CoreOp) → is_right_call program op ≡ true →
    list_any (is_method n) (called_by op) ≡ true → is_analysed program n ≡ true
call_analysed program n (Call m k) right there =
    let same : m ≡ n = nat_eq-same m n (alone (nat_eq m.0 n.0) there) in
    ap (is_analysed program) (sym same) ∙ (and_parts (is_analysed program m) (takes program m k) right).0
call_analysed program n (Push v) right there = absurd cc
call_analysed program n (PushClass c) right there = absurd cc
call_analysed program n PushPrim right there = absurd cc
call_analysed program n PushNull right there = absurd cc
call_analysed program n (New c) right there = absurd cc
call_analysed program n Dup right there = absurd cc
call_analysed program n Drop right there = absurd cc
call_analysed program n (Get f) right there = absurd cc
call_analysed program n (Put f) right there = absurd cc
call_analysed program n (Set v) right there = absurd cc
call_analysed program n (Prim k) right there = absurd cc
call_analysed program n (Outside k) right there = absurd cc
call_analysed program n (Unread m k) right there = absurd cc
call_analysed program n Ret right there = absurd cc
call_analysed program n Throw right there = absurd cc

pub analysed_among : (program : Core) (n : MethodId) (ops : List Operation) →
    list_all (λ (o : Operation). is_right_call program o.op) ops ≡ true →
    list_any (is_method n) (flat_map (λ (o : Operation). called_by o.op) ops) ≡ true → is_analysed program n ≡ true
analysed_among program n [] right there = absurd cc
analysed_among program n (o ∷ ops) right there =
    let rest = flat_map (λ (x : Operation). called_by x.op) ops in
    let others = list_all (λ (x : Operation). is_right_call program x.op) ops in
    let first = (and_parts (is_right_call program o.op) others right).0 in
    let last = (and_parts (is_right_call program o.op) others right).1 in
    elim (list_any (is_method n) (called_by o.op)) as (λ b. list_any (is_method n) (called_by o.op) ≡ b →
    (b || list_any (is_method n) rest) ≡ true → is_analysed program n ≡ true) [
      | true ↦ λ e _. call_analysed program n o.op first e
      | false ↦ λ _ k. analysed_among program n ops last k
    ] refl (sym (list_any-append (is_method n) (called_by o.op) rest) ∙ there)

pub right_at : (program : Core) (ms : List Method) (i : ℕ) (method : Method) →
    list_all (has_right_calls program) ms ≡ true → slice_get ms i ≡ Some method → has_right_calls program method ≡ true
right_at program [] i method all is = absurd cc
right_at program (m ∷ ms) zero method all is =
    let same : m ≡ method = cc in
    ap (has_right_calls program) (sym same)
    ∙ (and_parts (has_right_calls program m) (list_all (has_right_calls program) ms) all).0
right_at program (m ∷ ms) (suc i) method all is =
    right_at program ms i method
    (and_parts (has_right_calls program m) (list_all (has_right_calls program) ms) all).1 is

abbrev pub analysed_at : Option Method → Bool
analysed_at o = elim o as (λ _. Bool) [ None ↦ false | Some method ↦ is_none method.status ]

pub method_there : (o : Option Method) → analysed_at o ≡ true → (method : Method) × (o ≡ Some method)
method_there None e = absurd cc
method_there (Some method) e = (method, refl)

-- the row of an analysed method has the methods that its code calls
pub in_row_called : (program : Core) (m n : MethodId) → is_analysed program m ≡ true →
    list_any (is_method n) (row_of (rows_of program) m) ≡ list_any (is_method n) (calls_of program m)
in_row_called program m n analysed =
    let found = method_there (method_at program m) analysed in
    ap (list_any (is_method n)) (row_at program.methods m.0 found.0 found.1)
    ∙ in_row n (calls_in found.0.code)
    ∙ sym (ap (λ (o : Option Method). list_any (is_method n) (elim o as (λ _. List MethodId) [
      | None ↦ []
      | Some method ↦ calls_in method.code
    ])) found.1)

-- an analysed method has a row
pub row_there : (program : Core) (rows : List (List MethodId)) (m : MethodId) → is_analysed program m ≡ true →
    rows ≡ rows_of program → m.0 < length rows
row_there program rows m analysed are =
    let found = method_there (method_at program m) analysed in
    let within = slice_get_within program.methods m.0 found.0 found.1 in
    let count : length rows ≡ length program.methods =
    ap length are ∙ length-map program.methods (λ (method : Method). different (calls_in method.code)) in
    omega (arith, within, count)

pub row_analysed : (program : Core) (m n : MethodId) → are_calls_right program ≡ true → is_analysed program m ≡ true →
    list_any (is_method n) (row_of (rows_of program) m) ≡ true → is_analysed program n ≡ true
row_analysed program m n right analysed there =
    let found = method_there (method_at program m) analysed in
    analysed_among program n (steps_of found.0.code) (right_at program program.methods m.0 found.0 right found.1)
    (sym (ap (λ (o : Option Method). list_any (is_method n) (elim o as (λ _. List MethodId) [
      | None ↦ []
      | Some method ↦ calls_in method.code
    ])) found.1) ∙ sym (in_row_called program m n analysed) ∙ there)
