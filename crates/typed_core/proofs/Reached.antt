-- The methods that calls lead to from the entries of a class are those that are come to.
use Rattle.std.proofs.Common.{◌≡◌, ℕ, zero, suc, ◌+◌, ◌<◌, ◌≤◌, inl, inr, Bool, true, false, cond, not, ◌||◌, ◌&&◌}
use Rattle.std.proofs.Common.{List, [], ◌∷◌, Option, Some, None, is_none, is_some, length, map, nat_eq, nat_lt, refl}
use Rattle.std.proofs.Common.{sym, ap, subst, ◌∙◌, arith, slice_get, zero-add, add-zero}
use Rattle.std.specs.Prelude.{slice_index_or}
use Rattle.std.specs.Cmp.{both_ways}
use Rattle.std.specs.List.{Contains, enumerate_from, flat_map, list_all}
use Rattle.std.proofs.lemmas.Bool.{and_parts, eq-eqb, eqb-true, ltb-true, or_cases, or_left, or_right}
use Rattle.std.proofs.lemmas.Option.{slice_get_within}
use Rattle.std.proofs.Math.Bool.{or-false}
use Rattle.racer_base.specs.declared.ids.ClassId.{ClassId}
use Rattle.racer_base.specs.declared.ids.MethodId.{MethodId}
use Rattle.core_code.specs.Calls.{calls_in, calls_of, chain_within, greatest, is_analysed, method_at, rank_of}
use Rattle.core_code.specs.CallFacts.{are_calls_right, has_ranks, is_above}
use Rattle.core_code.specs.CalleeRows.{rows_of}
use Rattle.core_code.specs.Chains.{row_of, IsChain}
use Rattle.core_code.specs.Core.{Core, Method}
use Rattle.core_code.specs.Facts.{are_entries_analysed, is_checked, may_be_entry}
use Rattle.core_code.specs.Kinds.{same_class}
use Rattle.core_code.proofs.Members.{at_place, each, in_tail}
use Rattle.core_code.proofs.NoCycles.{numbered}
use Rattle.core_code.proofs.KindLemmas.{where_analysed}
use Rattle.core_code.proofs.RowCallees.{analysed_at, in_row_called, method_there, row_analysed}
use Rattle.typed_core.specs.declared.reaching.Reach.{Reach}
use Rattle.typed_core.specs.Typings.{called_from, called_within, from_entries, from_entry, is_among, is_entry_of}
use Rattle.typed_core.specs.Reaching.{is_come_to, AreEntries, AreFlags, IsClosed, IsFollowed}
use Rattle.typed_core.proofs.Coming.{among-append, among-contains, contains-among, same_method}
use Rattle.typed_core.proofs.Entries.{flag-at}

-- ---- lists that are made of lists
pub flat-among : (f : MethodId → List MethodId) (ms : List MethodId) (b : MethodId) (n : ℕ) → Contains ms b →
    is_among (f b) n ≡ true → is_among (flat_map f ms) n ≡ true
flat-among f [] b n there h = absurd (let within : there.0 < 0 = there.1 in omega arith)
flat-among f (x ∷ ms) b n (zero, within, is) h =
    among-append (f x) (flat_map f ms) n
    ∙ or_left (is_among (f x) n) (is_among (flat_map f ms) n) (ap (λ (y : MethodId). is_among (f y) n) is ∙ h)
flat-among f (x ∷ ms) b n (suc k, within, is) h =
    among-append (f x) (flat_map f ms) n
    ∙ or_right (is_among (f x) n) (is_among (flat_map f ms) n)
    (flat-among f ms b n (k, omega (arith, within), is) h)

pub flat-from : (f : MethodId → List MethodId) (ms : List MethodId) (n : ℕ) → is_among (flat_map f ms) n ≡ true →
    (b : MethodId) × Contains ms b × (is_among (f b) n ≡ true)
flat-from f [] n e = cc
flat-from f (x ∷ ms) n e =
    elim (or_cases (is_among (f x) n) (is_among (flat_map f ms) n) (sym (among-append (f x) (flat_map f ms) n) ∙ e)) [
      | inl here ↦ (x, (0, omega arith, refl), here)
      | inr there ↦ let r = flat-from f ms n there in (r.0, in_tail x ms r.0 r.1, r.2)
    ]

-- ---- calls
pub called-own : (core : Core) (k : ℕ) (m : MethodId) → is_among (called_within k core m) m.0 ≡ true
called-own core zero m = or_left (nat_eq m.0 m.0) false (eq-eqb m.0 m.0 refl)
called-own core (suc k) m =
    or_left (nat_eq m.0 m.0) (is_among (flat_map (called_within k core) (calls_of core m)) m.0)
    (eq-eqb m.0 m.0 refl)

abbrev calls_listed : Option Method → List MethodId
calls_listed o = elim o as (λ _. List MethodId) [ None ↦ [] | Some method ↦ calls_in method.code ]

greatest-few : (f : MethodId → ℕ) (ms : List MethodId) (n : ℕ) → ((m : MethodId) → f m ≤ n) → greatest (map f ms) ≤ n
greatest-few f [] n few = omega arith
greatest-few f (m ∷ ms) n few =
    let one : f m ≤ n = few m in
    let rest : greatest (map f ms) ≤ n = greatest-few f ms n few in
    omega arith

pub chain-few : (core : Core) (k : ℕ) (m : MethodId) → chain_within k core m ≤ k
chain-few core zero m = omega arith
chain-few core (suc k) m =
    let rest : greatest (map (chain_within k core) (calls_of core m)) ≤ k =
    greatest-few (chain_within k core) (calls_of core m) k (chain-few core k) in
    omega arith

module _ (core : Core) (right : are_calls_right core ≡ true) (ranks : has_ranks core ≡ true) where
  pub lower : (m n : MethodId) → is_analysed core m ≡ true → Contains (calls_of core m) n →
      rank_of core n < rank_of core m
  lower m n analysed there =
      let by = method_there (method_at core m) analysed in
      let test : MethodId → Bool = λ k. nat_lt (rank_of core k) (rank_of core m) in
      let above : (is_some by.0.status || list_all test (calls_in by.0.code)) ≡ true =
      ap (λ (k : ℕ). is_above (rank_of core) (k, by.0)) (sym (zero-add m.0))
      ∙ numbered (is_above (rank_of core)) 0 m.0 core.methods by.0 ranks by.1 in
      let none : is_none by.0.status ≡ true = ap analysed_at (sym by.1) ∙ analysed in
      let all : list_all test (calls_in by.0.code) ≡ true =
      where_analysed by.0.status (list_all test (calls_in by.0.code)) none above in
      ltb-true (rank_of core n) (rank_of core m)
      (each test (calls_in by.0.code) n all
      (subst (λ (ms : List MethodId). Contains ms n) (ap calls_listed by.1) there))

  row-calls : (m n : MethodId) → is_analysed core m ≡ true → Contains (row_of (rows_of core) m) n →
      Contains (calls_of core m) n
  row-calls m n analysed there =
      among-contains (calls_of core m) n
      (sym (in_row_called core m n analysed) ∙ contains-among (row_of (rows_of core) m) n there)

  pub calls-row : (m n : MethodId) → is_analysed core m ≡ true → Contains (calls_of core m) n →
      Contains (row_of (rows_of core) m) n
  calls-row m n analysed there =
      among-contains (row_of (rows_of core) m) n
      (in_row_called core m n analysed ∙ contains-among (calls_of core m) n there)

  pub callee-analysed : (m n : MethodId) → is_analysed core m ≡ true → Contains (row_of (rows_of core) m) n →
      is_analysed core n ≡ true
  callee-analysed m n analysed there =
      row_analysed core m n right analysed (contains-among (row_of (rows_of core) m) n there)

  -- what a chain leads to is called within so many calls
  chain-among : (k : ℕ) (m : MethodId) (between : List MethodId) (n : MethodId) → is_analysed core m ≡ true →
      rank_of core m ≤ k → IsChain (rows_of core) m between n → is_among (called_within k core m) n.0 ≡ true
  chain-among zero m [] n analysed few chain =
      absurd (let less : rank_of core n < rank_of core m = lower m n analysed (row-calls m n analysed chain) in
      omega arith)
  chain-among zero m (next ∷ between) n analysed few chain =
      absurd (let less : rank_of core next < rank_of core m = lower m next analysed (row-calls m next analysed chain.0)
      in omega arith)
  chain-among (suc k) m [] n analysed few chain =
      or_right (nat_eq m.0 n.0) (is_among (flat_map (called_within k core) (calls_of core m)) n.0)
      (flat-among (called_within k core) (calls_of core m) n n.0 (row-calls m n analysed chain) (called-own core k n))
  chain-among (suc k) m (next ∷ between) n analysed few chain =
      let call = row-calls m next analysed chain.0 in
      let less : rank_of core next < rank_of core m = lower m next analysed call in
      or_right (nat_eq m.0 n.0) (is_among (flat_map (called_within k core) (calls_of core m)) n.0)
      (flat-among (called_within k core) (calls_of core m) next n.0 call
      (chain-among k next between n (callee-analysed m next analysed chain.0) (omega arith) chain.1))

  -- where all that is called is come to, so is what is called within any number of calls
  module _ (reach : Reach) (shut : IsClosed (rows_of core) reach) (none : reach.todo.items ≡ [])
      (size : length reach.flags.items ≡ length core.methods) where
    come-along : (k : ℕ) (m n : MethodId) → is_analysed core m ≡ true → is_come_to reach m ≡ true →
        is_among (called_within k core m) n.0 ≡ true → is_come_to reach n ≡ true
    come-along zero m n analysed come e =
        ap (is_come_to reach) (sym (same_method m n (eqb-true m.0 n.0 (sym (or-false (nat_eq m.0 n.0)) ∙ e)))) ∙ come
    come-along (suc k) m n analysed come e =
        elim (or_cases (nat_eq m.0 n.0) (is_among (flat_map (called_within k core) (calls_of core m)) n.0) e) [
          | inl own ↦ ap (is_come_to reach) (sym (same_method m n (eqb-true m.0 n.0 own))) ∙ come
          | inr further ↦
              let r = flat-from (called_within k core) (calls_of core m) n.0 further in
              let call = calls-row m r.0 analysed r.1 in
              let next : is_analysed core r.0 ≡ true = callee-analysed m r.0 analysed call in
              let by = method_there (method_at core r.0) next in
              let low : r.0.0 < length core.methods = slice_get_within core.methods r.0.0 by.0 by.1 in
              elim (shut m r.0 (omega arith) come call) [
                | inl there ↦
                    absurd (let long : length reach.todo.items ≡ 0 = ap length none in
                    let within : there.0 < length reach.todo.items = there.1 in omega arith)
                | inr come_next ↦ come-along k r.0 n next come_next r.2
              ]
        ]

-- ---- entries
entry-at : (class : ClassId) (ms : List Method) (i : ℕ) →
    slice_index_or (map (is_entry_of class) ms) i false ≡ true →
    (m : Method) × (slice_get ms i ≡ Some m) × (is_entry_of class m ≡ true)
entry-at class [] i e = cc
entry-at class (x ∷ ms) zero e = (x, refl, e)
entry-at class (x ∷ ms) (suc i) e = entry-at class ms i e

pub entry-analysed : (core : Core) (class : ClassId) (i : ℕ) (m : Method) → are_entries_analysed core ≡ true →
    slice_get core.methods i ≡ Some m → is_entry_of class m ≡ true → is_analysed core (record { 0 = i }) ≡ true
entry-analysed core class i m all at e =
    let entry : m.entry ≡ true = (and_parts m.entry (same_class m.class class) e).0 in
    let may : may_be_entry core m ≡ true = each (may_be_entry core) core.methods m all (at_place core.methods i m at) in
    let right : (is_none m.status && is_checked core m.class) ≡ true =
    ap (λ (b : Bool). not b || (is_none m.status && is_checked core m.class)) (sym entry) ∙ may in
    ap analysed_at at ∙ (and_parts (is_none m.status) (is_checked core m.class) right).0

abbrev pub from_listed : Core → ClassId → ℕ → List Method → List MethodId
from_listed core class k ms = flat_map (from_entry core class) (enumerate_from k ms)

abbrev pub CameFrom : Core → ClassId → ℕ → List Method → ℕ → Type 0
CameFrom core class k ms n =
    (i : ℕ) × (m : Method) × (slice_get ms i ≡ Some m) × (is_entry_of class m ≡ true)
    × (is_among (called_from core (record { 0 = k + i })) n ≡ true)

pub entered-among : (core : Core) (class : ClassId) (ms : List Method) (k i : ℕ) (m : Method) (n : ℕ) →
    slice_get ms i ≡ Some m → is_entry_of class m ≡ true →
    is_among (called_from core (record { 0 = k + i })) n ≡ true → is_among (from_listed core class k ms) n ≡ true
entered-among core class [] k i m n at e h = absurd cc
entered-among core class (x ∷ ms) k zero m n at e h =
    let same : x ≡ m = cc in
    among-append (from_entry core class (k, x)) (from_listed core class (k + 1) ms) n
    ∙ or_left (is_among (from_entry core class (k, x)) n) (is_among (from_listed core class (k + 1) ms) n)
    (ap (λ (b : Bool). is_among (cond b (called_from core (record { 0 = k })) []) n) (ap (is_entry_of class) same ∙ e)
    ∙ ap (λ (j : ℕ). is_among (called_from core (record { 0 = j })) n) (sym (add-zero k)) ∙ h)
entered-among core class (x ∷ ms) k (suc i) m n at e h =
    let one : (k + 1) + i ≡ k + suc i = omega arith in
    among-append (from_entry core class (k, x)) (from_listed core class (k + 1) ms) n
    ∙ or_right (is_among (from_entry core class (k, x)) n) (is_among (from_listed core class (k + 1) ms) n)
    (entered-among core class ms (k + 1) i m n at e
    (ap (λ (j : ℕ). is_among (called_from core (record { 0 = j })) n) one ∙ h))

pub entered-from : (core : Core) (class : ClassId) (ms : List Method) (k n : ℕ) →
    is_among (from_listed core class k ms) n ≡ true → CameFrom core class k ms n
entered-from core class [] k n e = cc
entered-from core class (x ∷ ms) k n e =
    let rest = from_listed core class (k + 1) ms in
    elim (or_cases (is_among (from_entry core class (k, x)) n) (is_among rest n)
    (sym (among-append (from_entry core class (k, x)) rest n) ∙ e)) [
      | inl here ↦ elim (is_entry_of class x) as (λ b. is_entry_of class x ≡ b →
          is_among (cond b (called_from core (record { 0 = k })) []) n ≡ true → CameFrom core class k (x ∷ ms) n) [
            | true ↦ λ is f.
                (0, x, refl, is, ap (λ (j : ℕ). is_among (called_from core (record { 0 = j })) n) (add-zero k) ∙ f)
            | false ↦ λ is f. cc
          ] refl here
      | inr there ↦
          let r = entered-from core class ms (k + 1) n there in
          let one : k + suc r.0 ≡ (k + 1) + r.0 = omega arith in
          (suc r.0, r.1, r.2, r.3, ap (λ (j : ℕ). is_among (called_from core (record { 0 = j })) n) one ∙ r.4)
    ]

-- what is called within any number of calls is analysed
along-analysed : (core : Core) → are_calls_right core ≡ true → has_ranks core ≡ true → (k : ℕ) (m n : MethodId) →
    is_analysed core m ≡ true → is_among (called_within k core m) n.0 ≡ true → is_analysed core n ≡ true
along-analysed core right ranks zero m n analysed e =
    ap (is_analysed core) (sym (same_method m n (eqb-true m.0 n.0 (sym (or-false (nat_eq m.0 n.0)) ∙ e)))) ∙ analysed
along-analysed core right ranks (suc k) m n analysed e =
    elim (or_cases (nat_eq m.0 n.0) (is_among (flat_map (called_within k core) (calls_of core m)) n.0) e) [
      | inl own ↦ ap (is_analysed core) (sym (same_method m n (eqb-true m.0 n.0 own))) ∙ analysed
      | inr further ↦
          let r = flat-from (called_within k core) (calls_of core m) n.0 further in
          along-analysed core right ranks k r.0 n
          (callee-analysed core right ranks m r.0 analysed (calls-row core right ranks m r.0 analysed r.1)) r.2
    ]

pub among-analysed : (core : Core) (class : ClassId) (n : MethodId) → are_calls_right core ≡ true →
    has_ranks core ≡ true → are_entries_analysed core ≡ true → is_among (from_entries core class) n.0 ≡ true →
    is_analysed core n ≡ true
among-analysed core class n right ranks all e =
    let r = entered-from core class core.methods 0 n.0 e in
    along-analysed core right ranks (length core.methods) (record { 0 = r.0 }) n
    (entry-analysed core class r.0 r.1 all r.2 r.3)
    (ap (λ (j : ℕ). is_among (called_from core (record { 0 = j })) n.0) (sym (zero-add r.0)) ∙ r.4)

-- ---- the flags behind all
pub reached-flags : (core : Core) (class : ClassId) (rows : List (List MethodId)) (first last : Reach) (count : ℕ) →
    are_calls_right core ≡ true → has_ranks core ≡ true → are_entries_analysed core ≡ true → rows ≡ rows_of core →
    AreEntries class core.methods first → IsFollowed rows count first last → length core.methods ≤ count →
    AreFlags (from_entries core class) last.flags.items
reached-flags core class rows first last count right ranks all are entries by_rows most =
    let followed : IsFollowed (rows_of core) count first last =
    subst (λ (rs : List (List MethodId)). IsFollowed rs count first last) are by_rows in
    let whole = length core.methods in
    let size : length first.flags.items ≡ length core.methods = entries.size in
    let shut : IsClosed (rows_of core) last =
    followed.closed (λ m n low holds call. inl (entries.follow.todo m holds)) in
    let none : last.todo.items ≡ [] = followed.ended entries.follow.count (omega arith) in
    let to : (n : MethodId) → is_come_to last n ≡ true → is_among (from_entries core class) n.0 ≡ true = λ n holds.
    (let from = followed.sound n holds in
    let at = entry-at class core.methods from.0.0 (sym (entries.flags from.0) ∙ from.1) in
    let analysed : is_analysed core from.0 ≡ true = entry-analysed core class from.0.0 at.0 all at.1 at.2 in
    let called : is_among (called_from core from.0) n.0 ≡ true = (elim from.2 [
      | inl same ↦ ap (λ (m : MethodId). is_among (called_from core from.0) m.0) (sym same)
          ∙ called-own core whole from.0
      | inr chain ↦ chain-among core right ranks whole from.0 chain.0 n analysed (chain-few core whole from.0) chain.1
    ]) in
    entered-among core class core.methods 0 from.0.0 at.0 n.0 at.1 at.2
    (ap (λ (j : ℕ). is_among (called_from core (record { 0 = j })) n.0) (zero-add from.0.0) ∙ called)) in
    let back : (n : MethodId) → is_among (from_entries core class) n.0 ≡ true → is_come_to last n ≡ true = λ n e.
    (let r = entered-from core class core.methods 0 n.0 e in
    let m : MethodId = record { 0 = r.0 } in
    let come : is_come_to first m ≡ true = entries.flags m ∙ flag-at class core.methods r.0 r.1 r.2 ∙ r.3 in
    come-along core right ranks last shut none (followed.size ∙ entries.size) whole m n
    (entry-analysed core class r.0 r.1 all r.2 r.3) (followed.kept m come)
    (ap (λ (j : ℕ). is_among (called_from core (record { 0 = j })) n.0) (sym (zero-add r.0)) ∙ r.4)) in
    λ n. both_ways (is_come_to last n) (is_among (from_entries core class) n.0) (to n) (back n)
