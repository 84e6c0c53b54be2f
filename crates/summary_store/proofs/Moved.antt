-- What a move does to each list behind the lock.
use Rattle.std.proofs.Common.{◌≡◌, ℕ, zero, suc, ◌<◌, ◌≤◌, inl, inr, List, [], ◌∷◌, ◌++◌, length, map, cond}
use Rattle.std.proofs.Common.{Some, refl, sym, ap, subst, ◌∙◌, arith}
use Rattle.std.specs.Prelude.{◌==◌, slice_get, slice_set, not}
use Rattle.std.proofs.lemmas.Bool.{cases_eq, eq-eqb}
use Rattle.racer_base.specs.declared.ids.MethodId.{MethodId}
use Rattle.row_links.specs.Lists.{list_at, without, moved, times, node_count, HasEachOnce, IsInList}
use Rattle.row_links.proofs.Counting.{left_out, left_in, same_once}
use Rattle.row_links.proofs.Counting.{other_never, times-in_two, times-in_lists, without-none}
use Rattle.row_links.proofs.Lists.{moved-here, moved-other, at_most_once}
use Rattle.row_links.proofs.Lists.{is_below, each-moved, count-moved, length-moved}
use Rattle.summary_store.specs.declared.machine.Hand.{Hand}
use Rattle.summary_store.specs.Machine.{only, without as without_of, parked_on, parked_elsewhere}
use Rattle.summary_store.specs.Lists.{numbers}
use Rattle.summary_store.specs.Passes.{is_gone}
use Rattle.summary_store.proofs.Weights.{eqb_yes_to, eqb_no_to}

-- ---- a node of one list comes to another

pub record IsMoved (lists then : List (List ℕ)) (x from to : ℕ) : Type 0 where
  pub each : HasEachOnce then
  pub nodes : node_count then ≡ node_count lists
  pub count : length then ≡ length lists
  pub here : list_at then to ≡ list_at lists to ++ x ∷ []
  pub left : list_at then from ≡ without x (list_at lists from)
  pub rest : (l : ℕ) → (l ≡ from → ⊥) → (l ≡ to → ⊥) → list_at then l ≡ list_at lists l

pub absent : (lists : List (List ℕ)) (x from l : ℕ) → HasEachOnce lists → IsInList lists x from →
    (l ≡ from → ⊥) → times x (list_at lists l) ≡ 0
absent lists x from l each there other = let two = times-in_two x l from lists other in
    let one = at_most_once lists x each in
    let here : 0 < times x (list_at lists from) = there in omega arith

pub is_moved : (lists then : List (List ℕ)) (x from to : ℕ) → HasEachOnce lists → IsInList lists x from →
    to < length lists → (to ≡ from → ⊥) → then ≡ moved x to lists → IsMoved lists then x from to
is_moved lists then x from to each there low other is =
    let below = is_below lists x from each there in
    subst (λ (ls : List (List ℕ)). IsMoved lists ls x from to) (sym is) (record {
      each = each-moved x to lists each below low;
      nodes = count-moved x to lists low (each.once x below);
      count = length-moved x to lists;
      here = moved-here x to lists low
          ∙ ap (λ xs. xs ++ x ∷ []) (without-none x (list_at lists to) (absent lists x from to each there other));
      left = moved-other x to from lists (λ e. other (sym e));
      rest = λ l not_from not_to. moved-other x to l lists not_to
          ∙ without-none x (list_at lists l) (absent lists x from l each there not_from);
    })

-- the first of a list leaves it
pub without-first : (lists : List (List ℕ)) (l x : ℕ) (xs : List ℕ) → HasEachOnce lists →
    list_at lists l ≡ x ∷ xs → without x (list_at lists l) ≡ xs
without-first lists l x xs each is =
    ap (without x) is ∙ ap (λ b. cond (not b) (x ∷ without x xs) (without x xs)) (eq-eqb x x refl)
    ∙ without-none x xs (let all = ap (times x) is in let one = at_most_once lists x each in
    let in_one = times-in_lists x l lists in let here = same_once x x refl in omega arith)

pub first-in : (lists : List (List ℕ)) (l x : ℕ) (xs : List ℕ) → list_at lists l ≡ x ∷ xs → IsInList lists x l
first-in lists l x xs is = let all = ap (times x) is in let here = same_once x x refl in omega arith

-- ---- methods and numbers

pub numbers-append : (ms ns : List MethodId) → numbers (ms ++ ns) ≡ numbers ms ++ numbers ns
numbers-append [] ns = refl
numbers-append (m ∷ ms) ns = ap (λ l. m.0 ∷ l) (numbers-append ms ns)

pub numbers-without : (c : ℕ) (ms : List MethodId) → without c (numbers ms) ≡ numbers (without_of c ms)
numbers-without c [] = refl
numbers-without c (m ∷ ms) = elim (cases_eq m.0 c) [
  | inl e ↦ left_out c m.0 (numbers ms) e ∙ numbers-without c ms
      ∙ sym (ap (λ b. numbers (cond b (without_of c ms) (m ∷ without_of c ms))) (eqb_yes_to m.0 c e))
  | inr e ↦ left_in c m.0 (numbers ms) e ∙ ap (λ l. m.0 ∷ l) (numbers-without c ms)
      ∙ sym (ap (λ b. numbers (cond b (without_of c ms) (m ∷ without_of c ms))) (eqb_no_to m.0 c e))
]

pub only-none : (c : ℕ) (ms : List MethodId) → times c (numbers ms) ≡ 0 → numbers (only c ms) ≡ []
only-none c [] none = refl
only-none c (m ∷ ms) none = elim (cases_eq m.0 c) [
  | inl e ↦ let here = same_once c m.0 (sym e) in absurd (omega arith)
  | inr e ↦ ap (λ b. numbers (cond b (m ∷ only c ms) (only c ms))) (eqb_no_to m.0 c e)
      ∙ only-none c ms (omega arith)
]

pub only-once : (c : ℕ) (ms : List MethodId) → 0 < times c (numbers ms) → times c (numbers ms) ≤ 1 →
    numbers (only c ms) ≡ c ∷ []
only-once c [] some few = absurd (let h : 0 < 0 = some in omega arith)
only-once c (m ∷ ms) some few = elim (cases_eq m.0 c) [
  | inl e ↦ ap (λ b. numbers (cond b (m ∷ only c ms) (only c ms))) (eqb_yes_to m.0 c e)
      ∙ ap (λ l. m.0 ∷ l) (only-none c ms (let here = same_once c m.0 (sym e) in omega arith)) ∙ ap (λ n. n ∷ []) e
  | inr e ↦ ap (λ b. numbers (cond b (m ∷ only c ms) (only c ms))) (eqb_no_to m.0 c e)
      ∙ (let never = other_never c m.0 (λ s. e (sym s)) in only-once c ms (omega arith) (omega arith))
]

pub without-absent : (c : ℕ) (ms : List MethodId) → times c (numbers ms) ≡ 0 → numbers (without_of c ms) ≡ numbers ms
without-absent c ms none = sym (numbers-without c ms) ∙ without-none c (numbers ms) none

-- ---- what is parked

pub parked-elsewhere_same : (c : ℕ) (ps : List (MethodId × MethodId)) → parked_on c (parked_elsewhere c ps) ≡ []
parked-elsewhere_same c [] = refl
parked-elsewhere_same c (p ∷ ps) = elim (cases_eq p.1.0 c) [
  | inl e ↦ ap (λ b. parked_on c (cond b (parked_elsewhere c ps) (p ∷ parked_elsewhere c ps))) (eqb_yes_to p.1.0 c e)
      ∙ parked-elsewhere_same c ps
  | inr e ↦ ap (λ b. parked_on c (cond b (parked_elsewhere c ps) (p ∷ parked_elsewhere c ps))) (eqb_no_to p.1.0 c e)
      ∙ ap (λ b. cond b (p.0 ∷ parked_on c (parked_elsewhere c ps)) (parked_on c (parked_elsewhere c ps)))
      (eqb_no_to p.1.0 c e) ∙ parked-elsewhere_same c ps
]

pub parked-elsewhere_other : (c d : ℕ) (ps : List (MethodId × MethodId)) → (d ≡ c → ⊥) →
    parked_on d (parked_elsewhere c ps) ≡ parked_on d ps
parked-elsewhere_other c d [] other = refl
parked-elsewhere_other c d (p ∷ ps) other = elim (cases_eq p.1.0 c) [
  | inl e ↦ ap (λ b. parked_on d (cond b (parked_elsewhere c ps) (p ∷ parked_elsewhere c ps))) (eqb_yes_to p.1.0 c e)
      ∙ parked-elsewhere_other c d ps other
      ∙ sym (ap (λ b. cond b (p.0 ∷ parked_on d ps) (parked_on d ps))
      (eqb_no_to p.1.0 d (λ s. other (sym s ∙ e))))
  | inr e ↦ ap (λ b. parked_on d (cond b (parked_elsewhere c ps) (p ∷ parked_elsewhere c ps))) (eqb_no_to p.1.0 c e)
      ∙ ap (λ l. cond (p.1.0 == d) (p.0 ∷ l) l) (parked-elsewhere_other c d ps other)
]

-- ---- flags of workers

pub flags-same : (hands : List Hand) (w : ℕ) (hand then : Hand) → slice_get hands w ≡ Some hand →
    is_gone hand ≡ is_gone then → map is_gone hands ≡ map is_gone (slice_set hands w then)
flags-same [] w hand then is same = refl
flags-same (h ∷ hs) zero hand then is same = let e : h ≡ hand = cc in
    ap (λ b. b ∷ map is_gone hs) (ap is_gone e ∙ same)
flags-same (h ∷ hs) (suc w) hand then is same = ap (λ l. is_gone h ∷ l) (flags-same hs w hand then is same)

pub flags-set : (hands : List Hand) (w : ℕ) (then : Hand) →
    slice_set (map is_gone hands) w (is_gone then) ≡ map is_gone (slice_set hands w then)
flags-set [] w then = refl
flags-set (h ∷ hs) zero then = refl
flags-set (h ∷ hs) (suc w) then = ap (λ l. is_gone h ∷ l) (flags-set hs w then)

pub flag-at : (hands : List Hand) (w : ℕ) (hand : Hand) → slice_get hands w ≡ Some hand →
    slice_get (map is_gone hands) w ≡ Some (is_gone hand)
flag-at [] w hand is = cc
flag-at (h ∷ hs) zero hand is = let e : h ≡ hand = cc in ap (λ x. Some (is_gone x)) e
flag-at (h ∷ hs) (suc w) hand is = flag-at hs w hand is
