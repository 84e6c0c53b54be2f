-- The methods of all levels, finished level by level.
use Rattle.std.proofs.Common.{◌≡◌, ℕ, suc, ◌+◌, ◌-◌, ◌<◌, ◌≤◌, inl, inr, Bool, true, ◌&&◌, List, [], ◌++◌, length}
use Rattle.std.proofs.Common.{map, nat_eq, sym, ap, subst, ◌∙◌, arith, append_assoc, append-nil}
use Rattle.std.proofs.lemmas.Bool.{and_from, and_parts, cases_lt, eq-eqb, eqb-true}
use Rattle.std.proofs.lemmas.List.Elements.{filter-append}
use Rattle.std.specs.Arc.{arc_value}
use Rattle.std.specs.List.{Contains, flat_map, range_with_len}
use Rattle.racer_base.specs.declared.ids.MethodId.{MethodId}
use Rattle.row_links.specs.Lists.{HasEachOnce}
use Rattle.core_code.specs.declared.program.Program.{Program}
use Rattle.core_code.specs.Calls.{is_analysed}
use Rattle.core_code.specs.CalleeRows.{rows_of}
use Rattle.core_code.specs.Chains.{row_of}
use Rattle.core_code.specs.Core.{Core}
use Rattle.transfer_ties.specs.Again.{analysed_at, level_of, methods_in}
use Rattle.edit_session.specs.declared.work.Work.{Work}
use Rattle.edit_session.specs.Work.{AreReady, AreThrough, GoesOn, IsReady, IsRight, IsThrough, due_of}
use Rattle.edit_session.specs.Work.{is_done, is_due, methods_at, new_core, row_in}
use Rattle.edit_session.proofs.Among.{in_filter, in_range, of_filter}
use Rattle.edit_session.proofs.Calling.{analysed_low, callee_analysed, in_calls, level_falls}
use Rattle.edit_session.proofs.Putting.{core_on, on_and_on, on_itself}

abbrev id_of : ℕ → MethodId
id_of n = record { 0 = n }

abbrev is_of : Core → ℕ → MethodId → Bool
is_of program level m = is_analysed program m && nat_eq (level_of program m) level

-- the methods of these levels, those that are due
abbrev due_from : Work → ℕ → ℕ → List MethodId
due_from work first count =
    due_of work.before (new_core work) (flat_map (analysed_at (new_core work)) (range_with_len first count))

-- the methods of the levels below i are finished, and the others stand in their lists
pub record IsGoing (old : Work) (levels i : ℕ) (work : Work) (lists : List (List ℕ)) : Type 0 where
  pub right : IsRight work
  pub goes_on : GoesOn old work
  pub as_many : length lists ≡ 2 + levels
  pub each_once : HasEachOnce lists
  pub by_level : (level : ℕ) → i ≤ level → methods_at lists (2 + level) ≡ analysed_at (new_core old) level
  pub all : (m : MethodId) → is_analysed (new_core old) m ≡ true → level_of (new_core old) m < i →
      is_done work m ≡ true
  pub made : work.analysed.items ++ due_from old i (levels - i) ≡ old.analysed.items ++ due_from old 0 levels

pub going_begins : (work : Work) (lists : List (List ℕ)) (levels : ℕ) → AreReady work lists levels →
    IsGoing work levels 0 work lists
going_begins work lists levels ready =
    let whole : levels - 0 ≡ levels = omega arith in
    record {
      right = ready.right;
      goes_on = on_itself work;
      as_many = ready.as_many;
      each_once = ready.each_once;
      by_level = λ level least. ready.by_level level;
      all = λ m analysed low. absurd (omega arith);
      made = ap (λ (k : ℕ). work.analysed.items ++ due_from work 0 k) whole;
    }

module _ (old : Work) (levels i : ℕ) (work : Work) (lists : List (List ℕ)) (going : IsGoing old levels i work lists)
    (within : i < levels) where
  abbrev p : Program
  p = arc_value old.program.now

  abbrev q : Core
  q = new_core old

  same : new_core work ≡ new_core old
  same = core_on old work going.goes_on

  -- a method of the list is an analysed one of its level
  in_list : (m : MethodId) → Contains (methods_at lists (2 + i)) m → (is_analysed q m ≡ true) × (level_of q m ≡ i)
  in_list m h =
      let test : is_of q i m ≡ true =
      of_filter (is_of q i) (methods_in q) m
      (subst (λ (ms : List MethodId). Contains ms m) (going.by_level i (omega arith)) h) in
      let parts = and_parts (is_analysed q m) (nat_eq (level_of q m) i) test in
      (parts.0, eqb-true (level_of q m) i parts.1)

  row_is : (m : MethodId) → row_in work m ≡ row_of (rows_of q) m
  row_is m =
      ap (λ (rows : List (List MethodId)). row_of rows m) going.right.rows_are.rows_are
      ∙ ap (λ (c : Core). row_of (rows_of c) m) same

  callee_done : (m n : MethodId) → Contains (methods_at lists (2 + i)) m → Contains (row_in work m) n →
      is_done work n ≡ true
  callee_done m n h row =
      let by = in_list m h in
      let there : Contains (row_of (rows_of q) m) n = subst (λ (ms : List MethodId). Contains ms n) (row_is m) row in
      let less : level_of q n < level_of q m = level_falls q p.calls_right p.ranks_there m n by.0 there in
      let level : level_of q m ≡ i = by.1 in
      going.all n (callee_analysed q p.calls_right p.ranks_there m n by.0 (in_calls q m n by.0 there)) (omega arith)

  pub list_ready : IsReady work lists (2 + i)
  list_ready =
      record {
        right = going.right;
        there = let many = going.as_many in omega arith;
        behind = omega arith;
        each_once = going.each_once;
        analysed = λ m h. ap (λ (c : Core). is_analysed c m) same ∙ (in_list m h).0;
        callees = λ m h n row. callee_done m n h row;
      }

  module _ (new : Work) (after : List (List ℕ)) (through : IsThrough work lists (2 + i) new after) where
    in_level : (m : MethodId) → is_analysed q m ≡ true → level_of q m ≡ i → Contains (methods_at lists (2 + i)) m
    in_level m analysed level =
        let low : m.0 < length q.methods = analysed_low q m analysed in
        let there : Contains (methods_in q) m =
        in_range (λ (k : ℕ). let n : MethodId = record { 0 = k } in n) 0 (length q.methods) m.0 (omega arith)
        (omega arith) in
        subst (λ (ms : List MethodId). Contains ms m) (sym (going.by_level i (omega arith)))
        (in_filter (is_of q i) (methods_in q) m there
        (and_from (is_analysed q m) (nat_eq (level_of q m) i) analysed (eq-eqb (level_of q m) i level)))

    all_on : (m : MethodId) → is_analysed q m ≡ true → level_of q m < i + 1 → is_done new m ≡ true
    all_on m analysed low =
        elim (cases_lt (level_of q m) i) [
          | inl below ↦ through.stay m (going.all m analysed below)
          | inr high ↦ through.all m (in_level m analysed (omega arith))
        ]

    abbrev due : List MethodId → List MethodId
    due ms = due_of old.before q ms

    due_here : due_of work.before (new_core work) (methods_at lists (2 + i)) ≡ due (analysed_at q i)
    due_here = (λ j. due_of (going.goes_on.before_is j) (same j) (going.by_level i (omega arith) j))

    abbrev others : List MethodId
    others = flat_map (analysed_at q) (range_with_len (i + 1) (levels - (i + 1)))

    made_on : new.analysed.items ++ due others ≡ work.analysed.items ++ due_from old i (levels - i)
    made_on =
        let one : suc (levels - (i + 1)) ≡ levels - i = omega arith in
        ap (λ (ms : List MethodId). ms ++ due others)
        (through.analysed ∙ ap (λ (ms : List MethodId). work.analysed.items ++ ms) due_here)
        ∙ append_assoc work.analysed.items (due (analysed_at q i)) (due others)
        ∙ ap (λ (ms : List MethodId). work.analysed.items ++ ms)
        (sym (filter-append (is_due old.before q) (analysed_at q i) others))
        ∙ ap (λ (k : ℕ). work.analysed.items ++ due_from old i k) one

    pub going_on : IsGoing old levels (i + 1) new after
    going_on =
        record {
          right = through.right;
          goes_on = on_and_on old work new going.goes_on through.goes_on;
          as_many = through.as_many ∙ going.as_many;
          each_once = through.each_once;
          by_level = λ level least.
              ap (map id_of)
              (through.others (2 + level) (omega arith) (λ (e : 2 + level ≡ 2 + i). omega arith))
              ∙ going.by_level level (omega arith);
          all = all_on;
          made = made_on ∙ going.made;
        }

pub going_ends : (old : Work) (levels i : ℕ) (work : Work) (lists : List (List ℕ)) →
    IsGoing old levels i work lists → levels ≤ i → AreThrough old levels work
going_ends old levels i work lists going past =
    let none : levels - i ≡ 0 = omega arith in
    record {
      right = going.right;
      goes_on = going.goes_on;
      all = λ m analysed low. going.all m analysed (omega arith);
      analysed =
          sym (append-nil work.analysed.items)
          ∙ ap (λ (k : ℕ). work.analysed.items ++ due_from old i k) (sym none)
          ∙ going.made;
    }
