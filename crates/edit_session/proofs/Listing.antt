-- The methods of a list, finished one after another.
use Rattle.std.proofs.Common.{◌≡◌, ℕ, ◌<◌, ◌≤◌, ◌⊎◌, inl, inr, Bool, true, false, cond, List, [], ◌∷◌, ◌++◌}
use Rattle.std.proofs.Common.{None, Some, filter, length, map, refl, sym, ap, subst, ◌∙◌, arith, append_assoc}
use Rattle.std.proofs.Common.{append-nil, slice_get}
use Rattle.std.specs.List.{Contains}
use Rattle.racer_base.specs.declared.ids.MethodId.{MethodId}
use Rattle.racer_base.proofs.Lists.{no_first}
use Rattle.row_links.specs.Lists.{HasEachOnce, IsInList, front, list_at, moved, node_count, times, without}
use Rattle.row_links.proofs.Counting.{left_out, same_once, times-in_lists, times-in_two, without-none}
use Rattle.row_links.proofs.Lists.{at_most_once, each-moved, is_below, length-moved, moved-other}
use Rattle.core_code.specs.Calls.{is_analysed}
use Rattle.core_code.specs.CalleeRows.{rows_in}
use Rattle.core_code.specs.Chains.{row_of}
use Rattle.core_code.specs.Core.{Core}
use Rattle.core_code.proofs.Members.{in_tail}
use Rattle.core_code.proofs.Ranks.{in_head}
use Rattle.edit_session.specs.declared.work.Work.{Work}
use Rattle.edit_session.specs.Work.{AreFinished, GoesOn, IsDone, IsNext, IsReady, IsRight, IsThrough, due_of, is_done}
use Rattle.edit_session.specs.Work.{is_due, methods_at, new_core, row_in}
use Rattle.edit_session.proofs.Among.{first_or_rest}
use Rattle.edit_session.proofs.Putting.{core_on, on_and_on, on_itself}

-- ---- the first node of a list goes to another

-- the others of a list
pub record HasFirst (lists : List (List ℕ)) (list node : ℕ) : Type 0 where
  pub rest : List ℕ
  pub is : list_at lists list ≡ node ∷ rest

pub has_first : (lists : List (List ℕ)) (list node : ℕ) → front list lists ≡ Some node → HasFirst lists list node
has_first lists list node e = parts (list_at lists list) refl e
  where
    parts : (xs : List ℕ) → list_at lists list ≡ xs → slice_get xs 0 ≡ Some node → HasFirst lists list node
    parts [] is e = absurd cc
    parts (x ∷ xs) is e =
        let same : x ≡ node = cc in
        record { rest = xs; is = is ∙ ap (λ (n : ℕ). n ∷ xs) same }

pub first_in : (lists : List (List ℕ)) (list node : ℕ) → HasFirst lists list node → IsInList lists node list
first_in lists list node first =
    let row = ap (times node) first.is in
    let one = same_once node node refl in
    omega arith

module _ (lists : List (List ℕ)) (list node to : ℕ) (each : HasEachOnce lists) (first : HasFirst lists list node)
    (other : list ≡ to → ⊥) where
  pub rest_left : list_at (moved node to lists) list ≡ first.rest
  rest_left =
      let once = at_most_once lists node each in
      let among = times-in_lists node list lists in
      let row = ap (times node) first.is in
      let one = same_once node node refl in
      let none : times node first.rest ≡ 0 = omega arith in
      moved-other node to list lists other
      ∙ ap (without node) first.is
      ∙ left_out node node first.rest refl
      ∙ without-none node first.rest none

  pub others_left : (l : ℕ) → (l ≡ list → ⊥) → (l ≡ to → ⊥) → list_at (moved node to lists) l ≡ list_at lists l
  others_left l apart not_to =
      let once = at_most_once lists node each in
      let two = times-in_two node list l lists (λ (e : list ≡ l). apart (sym e)) in
      let here = first_in lists list node first in
      let none : times node (list_at lists l) ≡ 0 = omega arith in
      moved-other node to l lists not_to ∙ without-none node (list_at lists l) none

-- ---- the methods of a list so far

abbrev id_of : ℕ → MethodId
id_of n = record { 0 = n }

-- those that are no more in the list are finished
pub record IsListing (old : Work) (before : List (List ℕ)) (list : ℕ) (work : Work) (lists : List (List ℕ)) :
    Type 0 where
  pub right : IsRight work
  pub goes_on : GoesOn old work
  pub as_many : length lists ≡ length before
  pub each_once : HasEachOnce lists
  pub analysed : (m : MethodId) → Contains (methods_at lists list) m → is_analysed (new_core old) m ≡ true
  pub callees : (m : MethodId) → Contains (methods_at lists list) m → AreFinished work (row_in old m)
  pub all : (m : MethodId) → Contains (methods_at before list) m →
      (is_done work m ≡ true) ⊎ Contains (methods_at lists list) m
  pub stay : (m : MethodId) → is_done old m ≡ true → is_done work m ≡ true
  pub made : work.analysed.items ++ due_of old.before (new_core old) (methods_at lists list) ≡
      old.analysed.items ++ due_of old.before (new_core old) (methods_at before list)
  pub others : (l : ℕ) → 1 < l → (l ≡ list → ⊥) → list_at lists l ≡ list_at before l

pub listing_begins : (work : Work) (lists : List (List ℕ)) (list : ℕ) → IsReady work lists list →
    IsListing work lists list work lists
listing_begins work lists list ready =
    record {
      right = ready.right;
      goes_on = on_itself work;
      as_many = refl;
      each_once = ready.each_once;
      analysed = ready.analysed;
      callees = ready.callees;
      all = λ m there. inr there;
      stay = λ m done. done;
      made = refl;
      others = λ l behind apart. refl;
    }

filter_first : {X : Type 0} (test : X → Bool) (x : X) (xs : List X) →
    filter test (x ∷ []) ++ filter test xs ≡ filter test (x ∷ xs)
filter_first {X} test x xs =
    elim (test x) as (λ b. cond b (x ∷ []) [] ++ filter test xs ≡ cond b (x ∷ filter test xs) (filter test xs)) [
      | true ↦ refl
      | false ↦ refl
    ]

one_or_none : (b : Bool) → cond {A = ℕ} b 1 0 ≤ 1
one_or_none true = omega arith
one_or_none false = omega arith

module _ (old : Work) (before : List (List ℕ)) (list : ℕ) (ready : IsReady old before list) (work : Work)
    (lists : List (List ℕ)) (so_far : IsListing old before list work lists) where
  abbrev q : Core
  q = new_core old

  same : new_core work ≡ new_core old
  same = core_on old work so_far.goes_on

  module _ (node : ℕ) (first : HasFirst lists list node) where
    methods_are : methods_at lists list ≡ (id_of node ∷ map id_of first.rest)
    methods_are = ap (map id_of) first.is

    there : Contains (methods_at lists list) (id_of node)
    there =
        subst (λ (ms : List MethodId). Contains ms (id_of node)) (sym methods_are)
        (in_head (id_of node) (map id_of first.rest))

    pub is_next : IsNext work (id_of node)
    is_next =
        let rows : row_in work (id_of node) ≡ row_in old (id_of node) =
        (λ i. row_of (rows_in (so_far.goes_on.rows_are i).now) (id_of node)) in
        record {
          right = so_far.right;
          analysed = ap (λ (c : Core). is_analysed c (id_of node)) same ∙ so_far.analysed (id_of node) there;
          callees = subst (AreFinished work) (sym rows) (so_far.callees (id_of node) there);
        }

    pub node_low : node < node_count lists
    node_low = is_below lists node list so_far.each_once (first_in lists list node first)

    module _ (new : Work) (to : ℕ) (done : IsDone work (id_of node) new to) where
      to_low : to ≤ 1
      to_low =
          let one = one_or_none (is_due work.before (new_core work) (id_of node)) in
          let goes = done.list in
          omega arith

      pub to_there : to < length lists
      to_there =
          let low = to_low in
          let many = so_far.as_many in
          let within = ready.there in
          let behind = ready.behind in
          omega arith

      pub other : list ≡ to → ⊥
      other e =
          let low = to_low in
          let behind = ready.behind in
          omega arith

      abbrev after : List (List ℕ)
      after = moved node to lists

      left : methods_at after list ≡ map id_of first.rest
      left = ap (map id_of) (rest_left lists list node to so_far.each_once first other)

      still : (m : MethodId) → Contains (methods_at after list) m → Contains (methods_at lists list) m
      still m h =
          subst (λ (ms : List MethodId). Contains ms m) (sym methods_are)
          (in_tail (id_of node) (map id_of first.rest) m (subst (λ (ms : List MethodId). Contains ms m) left h))

      either : (m : MethodId) → (is_done work m ≡ true) ⊎ Contains (methods_at lists list) m →
          (is_done new m ≡ true) ⊎ Contains (methods_at after list) m
      either m (inl is) = inl (done.finished.others m is)
      either m (inr h) =
          elim (first_or_rest (id_of node) (map id_of first.rest) m
          (subst (λ (ms : List MethodId). Contains ms m) methods_are h)) [
            | inl is ↦ inl (ap (is_done new) (sym is) ∙ done.finished.here)
            | inr rest ↦ inr (subst (λ (ms : List MethodId). Contains ms m) (sym left) rest)
          ]

      abbrev due : List MethodId → List MethodId
      due ms = due_of old.before q ms

      due_one : due_of work.before (new_core work) (id_of node ∷ []) ≡ due (id_of node ∷ [])
      due_one = (λ i. due_of (so_far.goes_on.before_is i) (same i) (id_of node ∷ []))

      made_on : new.analysed.items ++ due (methods_at after list) ≡
          work.analysed.items ++ due (methods_at lists list)
      made_on =
          (λ i. (done.analysed ∙ ap (λ (ms : List MethodId). work.analysed.items ++ ms) due_one) i ++ due (left i))
          ∙ append_assoc work.analysed.items (due (id_of node ∷ [])) (due (map id_of first.rest))
          ∙ ap (λ (ms : List MethodId). work.analysed.items ++ ms)
          (filter_first (is_due old.before q) (id_of node) (map id_of first.rest) ∙ ap due (sym methods_are))

      pub listing_goes_on : IsListing old before list new (moved node to lists)
      listing_goes_on =
          record {
            right = done.finished.right;
            goes_on = on_and_on old work new so_far.goes_on done.finished.goes_on;
            as_many = length-moved node to lists ∙ so_far.as_many;
            each_once = each-moved node to lists so_far.each_once node_low to_there;
            analysed = λ m h. so_far.analysed m (still m h);
            callees = λ m h n row. done.finished.others n (so_far.callees m (still m h) n row);
            all = λ m h. either m (so_far.all m h);
            stay = λ m is. done.finished.others m (so_far.stay m is);
            made = made_on ∙ so_far.made;
            others = λ l behind apart.
                let low = to_low in
                others_left lists list node to so_far.each_once first other l apart (λ (e : l ≡ to). omega arith)
                ∙ so_far.others l behind apart;
          }

  module _ (none : front list lists ≡ None) where
    no_methods : methods_at lists list ≡ []
    no_methods = ap (map id_of) (no_first (list_at lists list) none)

    finished : (m : MethodId) → (is_done work m ≡ true) ⊎ Contains (methods_at lists list) m → is_done work m ≡ true
    finished m (inl is) = is
    finished m (inr h) =
        let there : Contains [] m = subst (λ (ms : List MethodId). Contains ms m) no_methods h in
        absurd (let within : there.0 < 0 = there.1 in omega arith)

    pub listing_ends : IsThrough old before list work lists
    listing_ends =
        record {
          right = so_far.right;
          goes_on = so_far.goes_on;
          all = λ m h. finished m (so_far.all m h);
          stay = so_far.stay;
          analysed =
              sym (append-nil work.analysed.items)
              ∙ ap (λ (ms : List MethodId). work.analysed.items ++ due_of old.before q ms) (sym no_methods)
              ∙ so_far.made;
          each_once = so_far.each_once;
          as_many = so_far.as_many;
          others = so_far.others;
        }

-- fewer are left
pub fewer_left : (lists after : List (List ℕ)) (list node to : ℕ) → HasEachOnce lists → HasFirst lists list node →
    (list ≡ to → ⊥) → after ≡ moved node to lists → length (list_at after list) < length (list_at lists list)
fewer_left lists after list node to each first other is =
    let left : length (list_at after list) ≡ length first.rest =
    ap (λ (ls : List (List ℕ)). length (list_at ls list)) is
    ∙ ap length (rest_left lists list node to each first other) in
    let whole : length (list_at lists list) ≡ length (node ∷ first.rest) = ap length first.is in
    omega arith
