-- Behind itself nothing of a program is analysed again, where what is as before has the outcome that it had.
use Rattle.std.proofs.Common.{◌≡◌, ℕ, zero, suc, ◌<◌, Bool, true, false, cond, not, ◌&&◌, List, []}
use Rattle.std.proofs.Common.{◌∷◌, Some, None, filter, is_none, length, nat_lt, refl, sym, ap, ◌∙◌, arith}
use Rattle.std.specs.List.{Contains, list_all, list_any}
use Rattle.std.specs.Cmp.Lexicographic.{pointwise}
use Rattle.std.proofs.Math.Nat.{zero-add}
use Rattle.std.proofs.lemmas.Bool.{and_from, eq-eqb, ltb-true}
use Rattle.std.proofs.lemmas.List.FromFn.{get_or-map-range_with_len, length-map-range_with_len}
use Rattle.std.proofs.lemmas.Option.{slice_get_within}
use Rattle.racer_base.specs.declared.ids.MethodId.{MethodId}
use Rattle.core_code.specs.Calls.{calls_in, calls_of, is_analysed, method_at, rank_of}
use Rattle.core_code.specs.CallFacts.{are_calls_right, has_ranks, is_above}
use Rattle.core_code.specs.Core.{Core, Method}
use Rattle.core_code.specs.Facts.{are_numbers_in_range}
use Rattle.core_code.specs.Tree.{steps_of}
use Rattle.core_code.proofs.KindLemmas.{where_analysed}
use Rattle.core_code.proofs.Members.{each, in_tail, passes}
use Rattle.core_code.proofs.NoCycles.{numbered}
use Rattle.core_code.proofs.Ranks.{in_head}
use Rattle.core_code.proofs.RowCallees.{analysed_among, analysed_at, is_method, method_there, right_at}
use Rattle.transfer_ties.specs.Forms.{ties_forms}
use Rattle.transfer_ties.specs.Outcomes.{ties_outcomes}
use Rattle.transfer_ties.specs.Again.{again, analysed_in, is_again, is_as_before, methods_in}
use Rattle.transfer_ties.proofs.Itself.{form_itself}

pointwise_itself : {X : Type 0} (same : X → X → Bool) (xs : List X) →
    ((x : X) → Contains xs x → same x x ≡ true) → pointwise same xs xs ≡ true
pointwise_itself same [] each = refl
pointwise_itself same (x ∷ xs) each =
    and_from (same x x) (pointwise same xs xs) (each x (in_head x xs))
    (pointwise_itself same xs (λ y there. each y (in_tail x xs y there)))

none_kept : {X : Type 0} (test : X → Bool) (xs : List X) → ((x : X) → test x ≡ false) → filter test xs ≡ []
none_kept test [] none = refl
none_kept test (x ∷ xs) none =
    ap (λ b. cond b (x ∷ filter test xs) (filter test xs)) (none x) ∙ none_kept test xs none

abbrev method_id : ℕ → MethodId
method_id n = record { 0 = n }

module _ (p : Core) (fits : are_numbers_in_range p ≡ true) (right : are_calls_right p ≡ true)
    (ranks : has_ranks p ≡ true)
    (holds : (m : MethodId) → is_as_before p p m m ≡ true → ties_outcomes p p m m ≡ true) where
  abbrev lower : MethodId → MethodId → Bool
  lower m n = nat_lt (rank_of p n) (rank_of p m)

  calls_lower : (m : MethodId) (method : Method) → method_at p m ≡ Some method → is_none method.status ≡ true →
      list_all (lower m) (calls_in method.code) ≡ true
  calls_lower m method at analysed =
      where_analysed method.status (list_all (lower m) (calls_in method.code)) analysed
      (ap (λ (n : ℕ). is_above (rank_of p) (n, method)) (sym (zero-add m.0))
      ∙ numbered (is_above (rank_of p)) 0 m.0 p.methods method ranks at)

  call_analysed : (m n : MethodId) (method : Method) → method_at p m ≡ Some method →
      Contains (calls_in method.code) n → is_analysed p n ≡ true
  call_analysed m n method at there =
      analysed_among p n (steps_of method.code) (right_at p p.methods m.0 method right at)
      (passes (is_method n) (calls_in method.code) n there (eq-eqb n.0 n.0 refl))

  by_rank : (k : ℕ) (m : MethodId) → rank_of p m < k → is_analysed p m ≡ true → is_as_before p p m m ≡ true
  by_rank zero m low analysed = absurd (omega arith)
  by_rank (suc k) m low analysed =
      let found = method_there (method_at p m) analysed in
      let method : Method = found.0 in
      let at : method_at p m ≡ Some method = found.1 in
      let status : is_none method.status ≡ true = sym (ap analysed_at at) ∙ analysed in
      let calls : calls_in method.code ≡ calls_of p m = sym (ap (λ o. elim o as (λ _. List MethodId) [
        | None ↦ []
        | Some x ↦ calls_in x.code
      ]) at) in
      let same : pointwise (ties_outcomes p p) (calls_in method.code) (calls_in method.code) ≡ true =
      pointwise_itself (ties_outcomes p p) (calls_in method.code)
      (λ n there.
      let less : rank_of p n < rank_of p m =
      ltb-true (rank_of p n) (rank_of p m)
      (each (lower m) (calls_in method.code) n (calls_lower m method at status) there) in
      holds n (by_rank k n (omega (arith, less, low)) (call_analysed m n method at there))) in
      and_from (is_analysed p m && is_analysed p m && ties_forms p p m m)
      (pointwise (ties_outcomes p p) (calls_of p m) (calls_of p m))
      (and_from (is_analysed p m && is_analysed p m) (ties_forms p p m m)
      (and_from (is_analysed p m) (is_analysed p m) analysed analysed) (form_itself p fits m method at))
      (ap (λ (ns : List MethodId). pointwise (ties_outcomes p p) ns ns) (sym calls) ∙ same)

  pub itself_before : (m : MethodId) → is_analysed p m ≡ true → is_as_before p p m m ≡ true
  itself_before m analysed = by_rank (suc (rank_of p m)) m (omega arith) analysed

  among : (n : MethodId) → is_analysed p n ≡ true → Contains (methods_in p) n
  among n analysed =
      let found = method_there (method_at p n) analysed in
      let low : n.0 < length p.methods = slice_get_within p.methods n.0 found.0 found.1 in
      let long : length (methods_in p) ≡ length p.methods = length-map-range_with_len method_id 0 (length p.methods) in
      (n.0, omega arith, get_or-map-range_with_len method_id 0 (length p.methods) n.0 n.0 n low (zero-add n.0))

  never_again : (n : MethodId) (b : Bool) → is_analysed p n ≡ b →
      (b && not (list_any (λ m. is_as_before p p m n) (methods_in p))) ≡ false
  never_again n false e = refl
  never_again n true e =
      ap not (passes (λ m. is_as_before p p m n) (methods_in p) n (among n e) (itself_before n e))

  pub nothing_again : again p p ≡ []
  nothing_again = none_kept (is_again p p) (analysed_in p) (λ n. never_again n (is_analysed p n) refl)
