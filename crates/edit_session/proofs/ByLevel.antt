-- Lists by level: what one more number changes in them, and that they are those of a program.
use Rattle.std.proofs.Common.{◌≡◌, ℕ, zero, suc, ◌+◌, ◌-◌, ◌<◌, ◌≤◌, inl, inr, Bool, true, false, cond, ◌&&◌, List, []}
use Rattle.std.proofs.Common.{◌∷◌, ◌++◌, Option, None, Some, drop, filter, get_or, length, map, nat_eq, refl, sym, ap}
use Rattle.std.proofs.Common.{subst, ◌∙◌, arith, append_assoc, append-nil}
use Rattle.std.proofs.lemmas.Bool.{and_parts, cases_eq, cases_lt, cond-false, cond-true, eq-eqb, eqb-true}
use Rattle.std.proofs.lemmas.Bool.{false_from_ne_true}
use Rattle.std.proofs.lemmas.List.{at_drop_more, drop_all}
use Rattle.std.specs.List.{Contains, flat_map, range_with_len}
use Rattle.racer_base.specs.declared.ids.MethodId.{MethodId}
use Rattle.racer_base.proofs.Tests.{different}
use Rattle.row_links.specs.Lists.{HasEachOnce, IsInList, all_in, list_at, moved, node_count, times}
use Rattle.row_links.proofs.Counting.{times-in_two, without-none}
use Rattle.row_links.proofs.Lists.{count-moved, each-moved, in-moved_other, length-moved, moved-here, moved-other}
use Rattle.row_links.proofs.Starting.{at-all_in, at-all_in_other, count-all_in, each-all_in, length-all_in, times-all_in}
use Rattle.core_code.specs.Calls.{is_analysed, rank_of}
use Rattle.core_code.specs.Core.{Core}
use Rattle.core_code.proofs.Ranks.{greatest_most}
use Rattle.transfer_ties.specs.Again.{analysed_at, analysed_in, level_of, methods_in}
use Rattle.edit_session.specs.Levels.{level_in, levels_from, levels_of}
use Rattle.edit_session.specs.Lists.{AreByLevel, behind, is_at, level_count, numbers_from, put_by_level}
use Rattle.edit_session.specs.Work.{analysed_below, methods_at}
use Rattle.edit_session.proofs.Among.{in_range}
use Rattle.edit_session.proofs.Calling.{analysed_low, chain_most, chain_some}
use Rattle.edit_session.proofs.LevelTables.{level_there}

-- ---- one more number

-- the numbers below i stand in the lists of their levels, and the others in the first list
pub record IsFilled (levels : List (Option ℕ)) (i : ℕ) (lists : List (List ℕ)) : Type 0 where
  pub as_many : length lists ≡ 2 + level_count levels
  pub nodes : node_count lists ≡ length levels
  pub each_once : HasEachOnce lists
  pub waiting : (x : ℕ) → i ≤ x → x < length levels → IsInList lists x 0
  pub by_level : (level : ℕ) →
      list_at lists (2 + level) ++ numbers_from i (drop i levels) level ≡ numbers_from 0 levels level

all_wait : (n k x : ℕ) → 0 < k → x < n → IsInList (all_in 0 n k) x 0
all_wait n k x some low =
    let row = ap (times x) (at-all_in 0 n k some) in
    let whole = times-all_in x 0 n k some in
    let count = count-all_in 0 n k some in
    let one = (each-all_in 0 n k some).once x (omega arith) in
    omega arith

pub none_filled : (levels : List (Option ℕ)) (lists : List (List ℕ)) →
    lists ≡ all_in 0 (length levels) (2 + level_count levels) → IsFilled levels 0 lists
none_filled levels lists is =
    let n = length levels in
    let k = 2 + level_count levels in
    let some : 0 < k = omega arith in
    subst (IsFilled levels 0) (sym is) (record {
      as_many = length-all_in 0 n k;
      nodes = count-all_in 0 n k some;
      each_once = each-all_in 0 n k some;
      waiting = λ x least low. all_wait n k x some low;
      by_level = λ level.
          ap (λ (xs : List ℕ). xs ++ numbers_from 0 levels level)
          (at-all_in_other 0 (2 + level) n k (λ (e : 2 + level ≡ 0). omega arith));
    })

module _ (levels : List (Option ℕ)) (i : ℕ) (lists : List (List ℕ)) (within : i < length levels)
    (old : IsFilled levels i lists) where
  abbrev left : ℕ → List ℕ
  left level = numbers_from (i + 1) (drop (i + 1) levels) level

  split : (found : Option ℕ) → found ≡ get_or levels i found → (level : ℕ) →
      numbers_from i (drop i levels) level ≡ cond (is_at found level) (i ∷ left level) (left level)
  split found at level =
      at_drop_more (λ (ls : List (Option ℕ)). numbers_from i ls level) levels i found within
      ∙ ap (λ (l : Option ℕ). numbers_from i (l ∷ drop (i + 1) levels) level) (sym at)

  -- the number stands in the first list, and in no other
  not_yet : (level : ℕ) → times i (list_at lists (2 + level)) ≡ 0
  not_yet level =
      let here : 0 < times i (list_at lists 0) = old.waiting i (omega arith) within in
      let two = times-in_two i 0 (2 + level) lists (λ (e : 0 ≡ 2 + level). omega arith) in
      let count = old.nodes in
      let one = old.each_once.once i (omega arith) in
      omega arith

  none_put : None ≡ get_or levels i None → IsFilled levels (i + 1) lists
  none_put at =
      record {
        as_many = old.as_many;
        nodes = old.nodes;
        each_once = old.each_once;
        waiting = λ x least low. old.waiting x (omega arith) low;
        by_level = λ level.
            ap (λ (xs : List ℕ). list_at lists (2 + level) ++ xs) (sym (split None at level)) ∙ old.by_level level;
      }

  module _ (l : ℕ) (at : Some l ≡ get_or levels i (Some l)) where
    low : 2 + l < length lists
    low =
        let many = old.as_many in
        let most : suc l ≤ level_count levels = greatest_most behind levels (Some l) (i, within, sym at) in
        omega arith

    low_node : i < node_count lists
    low_node = let count = old.nodes in omega arith

    abbrev IsBy : ℕ → Type 0
    IsBy level = list_at (moved i (2 + l) lists) (2 + level) ++ left level ≡ numbers_from 0 levels level

    by_own : IsBy l
    by_own =
        ap (λ (xs : List ℕ). xs ++ left l)
        (moved-here i (2 + l) lists low
        ∙ ap (λ (xs : List ℕ). xs ++ i ∷ []) (without-none i (list_at lists (2 + l)) (not_yet l)))
        ∙ append_assoc (list_at lists (2 + l)) (i ∷ []) (left l)
        ∙ ap (λ (xs : List ℕ). list_at lists (2 + l) ++ xs)
        (sym (split (Some l) at l ∙ cond-true (nat_eq l l) (i ∷ left l) (left l) (eq-eqb l l refl)))
        ∙ old.by_level l

    by_other : (level : ℕ) → (level ≡ l → ⊥) → IsBy level
    by_other level other =
        ap (λ (xs : List ℕ). xs ++ left level)
        (moved-other i (2 + l) (2 + level) lists (λ (e : 2 + level ≡ 2 + l). other (omega arith))
        ∙ without-none i (list_at lists (2 + level)) (not_yet level))
        ∙ ap (λ (xs : List ℕ). list_at lists (2 + level) ++ xs)
        (sym (split (Some l) at level
        ∙ cond-false (nat_eq l level) (i ∷ left level) (left level) (different l level (λ (e : l ≡ level). other (sym e)))))
        ∙ old.by_level level

    some_put : IsFilled levels (i + 1) (moved i (2 + l) lists)
    some_put =
        record {
          as_many = length-moved i (2 + l) lists ∙ old.as_many;
          nodes = count-moved i (2 + l) lists low (old.each_once.once i low_node) ∙ old.nodes;
          each_once = each-moved i (2 + l) lists old.each_once low_node low;
          waiting = λ x least high.
              in-moved_other i (2 + l) lists x 0 low (λ (e : x ≡ i). omega arith) (old.waiting x (omega arith) high);
          by_level = λ level.
              elim (cases_eq level l) [ inl e ↦ subst IsBy (sym e) by_own | inr e ↦ by_other level e ];
        }

pub one_filled : (levels : List (Option ℕ)) (i : ℕ) (lists new : List (List ℕ)) (found : Option ℕ) →
    i < length levels → found ≡ get_or levels i found → new ≡ put_by_level i found lists → IsFilled levels i lists →
    IsFilled levels (i + 1) new
one_filled levels i lists new None within at is old =
    subst (IsFilled levels (i + 1)) (sym is) (none_put levels i lists within old at)
one_filled levels i lists new (Some l) within at is old =
    subst (IsFilled levels (i + 1)) (sym is) (some_put levels i lists within old l at)

pub all_filled : (levels : List (Option ℕ)) (i : ℕ) (lists : List (List ℕ)) → length levels ≤ i →
    IsFilled levels i lists → AreByLevel levels lists
all_filled levels i lists past filled =
    record {
      as_many = filled.as_many;
      each_once = filled.each_once;
      by_level = λ level.
          sym (append-nil (list_at lists (2 + level)))
          ∙ ap (λ (ls : List (Option ℕ)). list_at lists (2 + level) ++ numbers_from i ls level)
          (sym (drop_all i levels past))
          ∙ filled.by_level level;
    }

-- the list that a number is put in
pub list_there : (levels : List (Option ℕ)) (i : ℕ) (lists : List (List ℕ)) (found : Option ℕ) → i < length levels →
    found ≡ get_or levels i found → IsFilled levels i lists → 1 + behind found < length lists
list_there levels i lists found within at filled =
    let many = filled.as_many in
    let most : behind found ≤ level_count levels = greatest_most behind levels found (i, within, sym at) in
    omega arith

-- ---- the lists of a program

abbrev id_of : ℕ → MethodId
id_of n = record { 0 = n }

abbrev is_of : Core → ℕ → MethodId → Bool
is_of core level m = is_analysed core m && nat_eq (level_of core m) level

at_if : (b : Bool) (l level : ℕ) → is_at (cond b (Some l) None) level ≡ (b && nat_eq l level)
at_if true l level = refl
at_if false l level = refl

analysed_from : (core : Core) (level first count : ℕ) →
    map id_of (numbers_from first (levels_from core first count) level) ≡
    filter (is_of core level) (map id_of (range_with_len first count))
analysed_from core level first zero = refl
analysed_from core level first (suc count) =
    let numbers = numbers_from (first + 1) (levels_from core (first + 1) count) level in
    let others = filter (is_of core level) (map id_of (range_with_len (first + 1) count)) in
    let rest : map id_of numbers ≡ others = analysed_from core level (first + 1) count in
    ap (λ (b : Bool). map id_of (cond b (first ∷ numbers) numbers))
    (at_if (is_analysed core (id_of first)) (level_of core (id_of first)) level)
    ∙ (elim (is_of core level (id_of first)) as (λ b. map id_of (cond b (first ∷ numbers) numbers) ≡
    cond b (id_of first ∷ others) others) [
      | true ↦ ap (λ (ms : List MethodId). id_of first ∷ ms) rest
      | false ↦ rest
    ])

pub analysed_by_level : (core : Core) (lists : List (List ℕ)) → AreByLevel (levels_of core) lists → (level : ℕ) →
    methods_at lists (2 + level) ≡ analysed_at core level
analysed_by_level core lists are level =
    ap (map id_of) (are.by_level level) ∙ analysed_from core level 0 (length core.methods)

-- ---- all levels

-- the level of an analysed method is below their number, and below that of all methods
pub level_below : (core : Core) (m : MethodId) → is_analysed core m ≡ true → level_of core m < level_count (levels_of core)
level_below core m analysed =
    let low : m.0 < length core.methods = analysed_low core m analysed in
    let there : Contains (levels_of core) (level_in core m) =
    in_range (λ (n : ℕ). level_in core (record { 0 = n })) 0 (length core.methods) m.0 (omega arith) (omega arith) in
    let most : behind (level_in core m) ≤ level_count (levels_of core) =
    greatest_most behind (levels_of core) (level_in core m) there in
    let level : suc (level_of core m) ≡ behind (level_in core m) = ap behind (level_there core m analysed) in
    omega arith

level_low : (core : Core) (m : MethodId) → is_analysed core m ≡ true → level_of core m < length core.methods
level_low core m analysed =
    let low : m.0 < length core.methods = analysed_low core m analysed in
    let most : rank_of core m ≤ length core.methods = chain_most core (length core.methods) m in
    let some : 0 < rank_of core m = chain_some core (length core.methods) m (omega arith) in
    omega arith

none_pass : {X : Type 0} (test : X → Bool) (xs : List X) → ((x : X) → test x ≡ false) → filter test xs ≡ []
none_pass test [] none = refl
none_pass test (x ∷ xs) none =
    ap (λ (b : Bool). cond b (x ∷ filter test xs) (filter test xs)) (none x) ∙ none_pass test xs none

none_at : (core : Core) (most level : ℕ) → ((m : MethodId) → is_analysed core m ≡ true → level_of core m < most) →
    most ≤ level → analysed_at core level ≡ []
none_at core most level below high =
    none_pass (is_of core level) (methods_in core) (λ m. false_from_ne_true (is_of core level m) (λ e.
    let parts = and_parts (is_analysed core m) (nat_eq (level_of core m) level) e in
    let same : level_of core m ≡ level = eqb-true (level_of core m) level parts.1 in
    let less : level_of core m < most = below m parts.0 in
    omega arith))

none_of : {X : Type 0} (f : ℕ → List X) (first count : ℕ) → ((n : ℕ) → first ≤ n → f n ≡ []) →
    flat_map f (range_with_len first count) ≡ []
none_of f first zero none = refl
none_of {X} f first (suc count) none =
    ap (λ (xs : List X). xs ++ flat_map f (range_with_len (first + 1) count)) (none first (omega arith))
    ∙ none_of f (first + 1) count (λ n low. none n (omega arith))

none_more : {X : Type 0} (f : ℕ → List X) (first count more : ℕ) → ((n : ℕ) → first + count ≤ n → f n ≡ []) →
    flat_map f (range_with_len first (count + more)) ≡ flat_map f (range_with_len first count)
none_more f first zero more none =
    let all : 0 + more ≡ more = omega arith in
    ap (λ (k : ℕ). flat_map f (range_with_len first k)) all ∙ none_of f first more (λ n low. none n (omega arith))
none_more {X} f first (suc count) more none =
    let one : suc count + more ≡ suc (count + more) = omega arith in
    ap (λ (k : ℕ). flat_map f (range_with_len first k)) one
    ∙ ap (λ (xs : List X). f first ++ xs) (none_more f (first + 1) count more (λ n low. none n (omega arith)))

pub all_levels : (core : Core) → analysed_below core (level_count (levels_of core)) ≡ analysed_in core
all_levels core =
    let c = level_count (levels_of core) in
    let n = length core.methods in
    elim (cases_lt c n) [
      | inl less ↦
          let whole : c + (n - c) ≡ n = omega arith in
          sym (ap (λ (k : ℕ). flat_map (analysed_at core) (range_with_len 0 k)) (sym whole)
          ∙ none_more (analysed_at core) 0 c (n - c)
          (λ level high. none_at core c level (level_below core) (omega arith)))
      | inr more ↦
          let whole : n + (c - n) ≡ c = omega arith in
          ap (λ (k : ℕ). flat_map (analysed_at core) (range_with_len 0 k)) (sym whole)
          ∙ none_more (analysed_at core) 0 n (c - n)
          (λ level high. none_at core n level (level_low core) (omega arith))
    ]
