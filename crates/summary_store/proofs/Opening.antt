-- The value behind the lock at the start.
use Rattle.std.proofs.Common.{◌≡◌, ℕ, zero, suc, ◌+◌, ◌<◌, List, [], ◌∷◌, length, get_or, replicate, Option, Some}
use Rattle.std.proofs.Common.{None, refl, sym, ap, subst, arith, length-append}
use Rattle.std.specs.Prelude.{slice_get, All, ◌^◌}
use Rattle.std.proofs.Common.{◌-◌, ◌++◌, ◌∙◌, Bool, false, map, take, append-nil, append_assoc}
use Rattle.std.specs.List.{range_with_len}
use Rattle.row_links.specs.Lists.{all_in, list_at, moved, without, times, node_count, HasEachOnce, IsInList}
use Rattle.row_links.proofs.Counting.{times-append, times-in_lists, same_once}
use Rattle.row_links.proofs.Lists.{at_most_once}
use Rattle.row_links.proofs.Starting.{length-all_in, each-all_in, count-all_in, at-all_in, at-all_in_other}
use Rattle.row_links.proofs.Joining.{without-parted}
use Rattle.core_code.specs.Counting.{flagged}
use Rattle.summary_store.specs.Lists.{numbers, numbers_held, AreLists, AreFirst}
use Rattle.summary_store.specs.Machine.{start}
use Rattle.summary_store.specs.Passes.{is_gone}
use Rattle.summary_store.proofs.Moved.{is_moved, numbers-append}
use Rattle.summary_store.proofs.Weights.{flagged_more}
use Rattle.std.proofs.lemmas.List.{length-replicate}
use Rattle.racer_base.specs.declared.ids.MethodId.{MethodId}
use Rattle.std.proofs.Common.{true, is_none}
use Rattle.std.specs.Prelude.{slice_index_or}
use Rattle.std.specs.List.{list_any}
use Rattle.std.proofs.lemmas.List.{length-map}
use Rattle.core_code.specs.Core.{Core, Method}
use Rattle.core_code.specs.Calls.{calls_in}
use Rattle.core_code.specs.CallFacts.{are_calls_right}
use Rattle.core_code.specs.Chains.{row_of}
use Rattle.core_code.specs.CalleeRows.{rows_of, rows_in, ranks_in, AreRowsOf, different}
use Rattle.core_code.proofs.RowCallees.{is_method}
use Rattle.core_code.proofs.RowCallees.{row_analysed, read_any}
use Rattle.core_code.proofs.Analysed.{contains_in, analysed_of, analysed_in}
use Rattle.core_code.specs.declared.rows.CallRows.{CallRows}
use Rattle.core_code.specs.Counting.{weigh, IsIn, analysed_methods, flags_of}
use Rattle.summary_store.specs.declared.machine.Event.{Event}
use Rattle.summary_store.specs.declared.machine.Hand.{Hand}
use Rattle.summary_store.specs.declared.machine.Hand.TheVariants.{Free}
use Rattle.summary_store.specs.Laws.{Ranked}
use Rattle.summary_store.specs.Kept.{Kept}
use Rattle.summary_store.specs.Setups.{setup_of}
use Rattle.summary_store.specs.Passes.{pass_view, first_passes}
use Rattle.summary_store.proofs.Weights.{flagged_once, flagged_below}

count_same : (core : Core) → length (flags_of core) ≡ length core.methods
count_same core = length-map core.methods (λ (m : Method). is_none m.status)

count_rows : (core : Core) → length (rows_of core) ≡ length core.methods
count_rows core = length-map core.methods (λ (m : Method). different (calls_in m.code))

any_in : (c : MethodId) (ms : List MethodId) → IsIn c ms → list_any (is_method c) ms ≡ true
any_in c ms here = let there = contains_in c ms here in read_any ms there.0 c there.1 (sym there.2)

pub program_ranked : (core : Core) (r : CallRows) (w : ℕ) → are_calls_right core ≡ true → AreRowsOf core r →
    Ranked (setup_of core w) (λ x. slice_index_or (ranks_in r) x 0)
program_ranked core r w right are =
    record {
      apart = λ x. (flagged_once x 0 (flags_of core)).0;
      closed = λ m c here row.
          analysed_in core c
          (row_analysed core m c right (analysed_of core m here) (any_in c (row_of (rows_of core) m) row));
      falls = λ m c row. are.ranks_fall m c (contains_in c (row_of (rows_of core) m) row);
    }

no_some : {X : Type 0} (n m : ℕ) (x : X) → slice_get (replicate n (let o : Option X = None in o)) m ≡ Some (Some x) → ⊥
no_some zero m x is = cc
no_some (suc n) zero x is = cc
no_some (suc n) (suc m) x is = no_some n m x is

-- ---- the lists at the start

-- up to this number those with a flag are idle, and the others are not analysed; behind it all are idle
pub record AreSorted (flags : List Bool) (workers number : ℕ) (lists : List (List ℕ)) : Type 0 where
  pub each : HasEachOnce lists
  pub nodes : node_count lists ≡ length flags
  pub count : length lists ≡ 4 + workers + length flags
  pub few : length lists < 2 ^ 32
  pub idle : list_at lists 0 ≡ numbers (flagged 0 (take number flags))
      ++ range_with_len number (length flags - number)
  pub others : (l : ℕ) → (l ≡ 0 → ⊥) → (l ≡ 3 → ⊥) → list_at lists l ≡ []

pub none_sorted : (flags : List Bool) (workers n k : ℕ) (lists : List (List ℕ)) → n ≡ length flags →
    k ≡ 4 + workers + n → k < 2 ^ 32 → lists ≡ all_in 0 n k → AreSorted flags workers 0 lists
none_sorted flags workers n k lists n_is k_is few is = let long = length-all_in 0 n k in
    subst (λ (ls : List (List ℕ)). AreSorted flags workers 0 ls) (sym is) (record {
      each = each-all_in 0 n k (omega arith);
      nodes = count-all_in 0 n k (omega arith) ∙ n_is;
      count = omega arith;
      few = subst (λ (m : ℕ). m < 2 ^ 32) (sym long) few;
      idle = at-all_in 0 n k (omega arith)
          ∙ ap (range_with_len 0) (let e : n ≡ length flags - 0 = omega arith in e);
      others = λ l not_idle not_analysed. at-all_in_other 0 l n k not_idle;
    })

rest-first : (i n : ℕ) → i < n → range_with_len i (n - i) ≡ i ∷ range_with_len (i + 1) (n - (i + 1))
rest-first i n low = ap (range_with_len i) (let e : n - i ≡ suc (n - (i + 1)) = omega arith in e)

module _ {flags : List Bool} {workers i : ℕ} {lists : List (List ℕ)} (k : AreSorted flags workers i lists)
    (low : i < length flags) (b : Bool) (flag : b ≡ get_or flags i b) where
  split : list_at lists 0 ≡ numbers (flagged 0 (take i flags)) ++ i ∷ range_with_len (i + 1) (length flags - (i + 1))
  split = k.idle ∙ ap (λ l. numbers (flagged 0 (take i flags)) ++ l) (rest-first i (length flags) low)

  more : numbers (flagged 0 (take (i + 1) flags)) ≡
      numbers (flagged 0 (take i flags)) ++ numbers (flagged i (b ∷ []))
  more = ap numbers (flagged_more flags i b low (sym flag))
      ∙ numbers-append (flagged 0 (take i flags)) (flagged i (b ∷ []))

  pub one_idle : b ≡ true → (then : List (List ℕ)) → then ≡ lists → AreSorted flags workers (i + 1) then
  one_idle set then same = subst (λ (ls : List (List ℕ)). AreSorted flags workers (i + 1) ls) (sym same) (record {
    each = k.each;
    nodes = k.nodes;
    count = k.count;
    few = k.few;
    idle = split ∙ sym (ap (λ l. l ++ range_with_len (i + 1) (length flags - (i + 1))) (more
        ∙ ap (λ c. numbers (flagged 0 (take i flags)) ++ numbers (flagged i (c ∷ []))) set)
        ∙ append_assoc (numbers (flagged 0 (take i flags))) (i ∷ [])
        (range_with_len (i + 1) (length flags - (i + 1))));
    others = k.others;
  })

  pub one_not : b ≡ false → (then : List (List ℕ)) → then ≡ moved i 3 lists → AreSorted flags workers (i + 1) then
  one_not unset then then'is =
      let front = numbers (flagged 0 (take i flags)) in
      let rest = range_with_len (i + 1) (length flags - (i + 1)) in
      let all = ap (times i) split in let parts = times-append i front (i ∷ rest) in
      let here = same_once i i refl in let one = at_most_once lists i k.each in
      let in_one = times-in_lists i 0 lists in
      let there : IsInList lists i 0 = omega arith in
      let v = is_moved lists then i 0 3 k.each there (omega (arith, k.count)) (λ e. omega arith) then'is in
      record {
        each = v.each;
        nodes = v.nodes ∙ k.nodes;
        count = v.count ∙ k.count;
        few = (let few = k.few in omega (arith, v.count));
        idle = v.left ∙ ap (without i) split ∙ without-parted i front rest (omega arith)
            ∙ sym (ap (λ l. l ++ rest) (more ∙ ap (λ c. front ++ numbers (flagged i (c ∷ []))) unset
            ∙ append-nil front));
        others = λ l not_idle not_analysed. v.rest l not_idle not_analysed ∙ k.others l not_idle not_analysed;
      }

pub all_sorted : (flags : List Bool) (workers n : ℕ) (lists : List (List ℕ)) → AreSorted flags workers n lists →
    n ≡ length flags → AreFirst flags workers lists
all_sorted flags workers n lists k is = record {
  each = k.each;
  nodes = k.nodes;
  count = k.count;
  few = k.few;
  idle = k.idle
      ∙ ap (λ l. numbers (flagged 0 (take n flags)) ++ l)
      (ap (range_with_len n) (let e : length flags - n ≡ 0 = omega arith in e))
      ∙ append-nil (numbers (flagged 0 (take n flags)))
      ∙ ap (λ l. numbers (flagged 0 l)) (ap (λ m. take m flags) is ∙ take-all flags);
  others = k.others;
}
  where
    take-all : (xs : List Bool) → take (length xs) xs ≡ xs
    take-all [] = refl
    take-all (x ∷ xs) = ap (λ l. x ∷ l) (take-all xs)

pub first_of_program : {flags flags' : List Bool} {workers workers' : ℕ} (lists : List (List ℕ)) → flags ≡ flags' →
    workers ≡ workers' → AreFirst flags workers lists → AreFirst flags' workers' lists
first_of_program {flags' = flags'} {workers = workers} lists flags'are workers'are first =
    subst (λ (n : ℕ). AreFirst flags' n lists) workers'are
    (subst (λ (fs : List Bool). AreFirst fs workers lists) flags'are first)

same_first : (n w : ℕ) (hand : Hand) → slice_get (replicate n Free) w ≡ Some hand → hand ≡ Free
same_first zero w hand is = cc
same_first (suc n) zero hand is = let e : Free ≡ hand = cc in sym e
same_first (suc n) (suc w) hand is = same_first n w hand is

nobody_left : (n : ℕ) → replicate n false ≡ map is_gone (replicate n Free)
nobody_left zero = refl
nobody_left (suc n) = ap (λ l. false ∷ l) (nobody_left n)

first_lists : (p : Core) (w : ℕ) (lists : List (List ℕ)) (left : List Bool) → AreFirst (flags_of p) w lists →
    left ≡ replicate w false → AreLists (setup_of p w) (start (setup_of p w)) lists left
first_lists p w lists left f left'is = let rows : length (rows_of p) ≡ length (flags_of p) = count_rows p
    ∙ sym (count_same p) in record {
      each = f.each;
      nodes = f.nodes ∙ sym rows;
      count = omega (arith, f.count);
      few = f.few;
      idle = f.idle;
      ready = f.others 1 (λ e. omega arith) (λ e. omega arith);
      done = f.others 2 (λ e. omega arith) (λ e. omega arith);
      held = λ v hand is. f.others (4 + v) (λ e. omega arith) (λ e. omega arith)
          ∙ ap numbers_held (sym (same_first w v hand is));
      parked = λ c low. f.others (4 + w + c) (λ e. omega arith) (λ e. omega arith);
      flags = left'is ∙ nobody_left w;
    }

pub kept_start : {X : Type 0} (fits : ℕ → X → Type 0) (p : Core) (r : CallRows) (w : ℕ) → are_calls_right p ≡ true →
    AreRowsOf p r → 0 < w
    → (h : List Event) → h ≡ [] → (lists : List (List ℕ)) → AreFirst (flags_of p) w lists
    → (left : List Bool) → left ≡ replicate w false → (table : List (Option X)) →
    table ≡ replicate (length (flags_of p)) None → (total : ℕ) → total ≡ 0
    → Kept fits (setup_of p w) h lists left table total
kept_start {X = X} fits p r w calls same some h h'is lists first left left'is table table'is total total'is =
    let u = setup_of p w in
    let G : List Event → List (Option X) → Type 0 = λ l t. Kept fits u l lists left t total in
    let base : G [] (replicate (length (flags_of p)) None) = record {
      setup = record {
        some = some;
        rank = λ x. slice_index_or (ranks_in r) x 0;
        ranked = program_ranked p r w calls same;
      };
      legal = tt;
      are_lists = first_lists p w lists left first left'is;
      pieces = λ m x is. absurd (no_some (length (flags_of p)) m x is);
      none = λ m is. refl;
      places = λ m known. (let low = (flagged_once m.0 0 (flags_of p)).1 known in
          omega (arith, low.1, length-replicate (length (flags_of p)) (let o : Option X = None in o)));
      lines = λ m known. (let low = (flagged_once m.0 0 (flags_of p)).1 known in
          omega (arith, low.1, count_same p, count_rows p));
      counted = total'is;
    } in
    let A : List Event → Type 0 = λ l. G l (replicate (length (flags_of p)) None) in
    let B : List (Option X) → Type 0 = λ t. G h t in
    subst B (sym table'is) (subst A (sym h'is) base)

pub rows_fit : (p : Core) (r : CallRows) (list : List MethodId) → AreRowsOf p r → list ≡ analysed_methods p →
    All (λ m. m.0 < length (rows_in r)) list
rows_fit p r list same is k d low =
    let P : List MethodId → Type 0 = λ l. k < length l → (get_or l k d).0 < length (rows_in r) in
    let l : length (rows_in r) ≡ length (rows_of p) = ap length same.rows_are in
    let base : P (analysed_methods p) = λ h. omega (
      arith,
      flagged_below 0 (flags_of p) k d h,
      count_same p,
      count_rows p,
    ) in
    subst P (sym is) base low

pub first_passes-length : (n : ℕ) → length (first_passes n) ≡ n
first_passes-length zero = refl
first_passes-length (suc n) = omega (
  arith,
  length-append (first_passes n) (pass_view n Free 0 0 ∷ []),
  first_passes-length n,
)

pub room_same : (rows rows' : List (List MethodId)) (ms ms' : List MethodId) → rows ≡ rows' → ms ≡ ms' →
    length ms + weigh (λ m. length (row_of rows m)) ms ≡ length ms' + weigh (λ m. length (row_of rows' m)) ms'
room_same rows rows' ms ms' e f = λ i. length (f i) + weigh (λ m. length (row_of (e i) m)) (f i)
