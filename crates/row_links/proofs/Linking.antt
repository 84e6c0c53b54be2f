-- What the calls of links read and leave.
use Rattle.std.proofs.Common.{◌≡◌, ℕ, zero, suc, ◌+◌, ◌≤◌, ◌<◌, inl, inr, List, [], ◌∷◌, length, map, slice_index}
use Rattle.std.proofs.Common.{slice_set, slice_index_or, None, Some, refl, sym, ap, subst, ◌∙◌, arith}
use Rattle.std.proofs.lemmas.List.{length-set, length-map}
use Rattle.row_links.specs.Lists.{without, moved, spliced, front, node_count, IsInList}
use Rattle.row_links.specs.Rings.{rings, AreRings, AreLinked}
use Rattle.row_links.proofs.Lists.{in-some}
use Rattle.row_links.proofs.Ringing.{of-next, of-before, of-low, taken_out}
use Rattle.row_links.proofs.Seeing.{IsSeenAs, node_moved, row_appended, nothing_appended, first_is_front, no_front}

pub index_is : (xs : List ℕ) (i v : ℕ) → i < length xs → v ≡ slice_index_or xs i v → v ≡ slice_index xs i
index_is [] i v low e = absurd (let h : i < 0 = low in omega arith)
index_is (x ∷ xs) zero v low e = e
index_is (x ∷ xs) (suc i) v low e = let long : length (x ∷ xs) ≡ suc (length xs) = refl in
    index_is xs i v (omega arith) e

module _ (n : ℕ) (next before : List ℕ) (lists : List (List ℕ)) (k : AreLinked n next before)
    (seen : rings n next ≡ lists) where
  next_length : length next ≡ n + length lists
  next_length = k.are_rings.next_length ∙ ap (λ l. n + length l) seen

  before_length : length before ≡ n + length lists
  before_length = k.are_rings.before_length ∙ ap (λ l. n + length l) seen

  count : node_count lists ≡ n
  count = ap node_count (sym seen) ∙ k.count

  low_in : (l : ℕ) → l < length lists → l < length (rings n next)
  low_in l low = let same = ap length seen in omega arith

  own_next : (l v : ℕ) → l < length lists → v ≡ slice_index_or next (n + l) v → v ≡ slice_index next (n + l)
  own_next l v low e = index_is next (n + l) v (let long = next_length in omega arith) e

  own_before : (l v : ℕ) → l < length lists → v ≡ slice_index_or before (n + l) v → v ≡ slice_index before (n + l)
  own_before l v low e = index_is before (n + l) v (let long = before_length in omega arith) e

  pub first_some : (l v : ℕ) → l < length lists → v ≡ slice_index_or next (n + l) v → v < n → Some v ≡ front l lists
  first_some l v low e small = let v_is = own_next l v low e in
      ap Some v_is ∙ sym (first_is_front n next before l k (low_in l low) (omega arith)) ∙ ap (front l) seen

  pub first_none : (l v : ℕ) → l < length lists → v ≡ slice_index_or next (n + l) v → n ≤ v → None ≡ front l lists
  first_none l v low e large = let v_is = own_next l v low e in
      sym (no_front n next before l k (low_in l low) (omega arith)) ∙ ap (front l) seen

  home : (x : ℕ) → x < node_count lists → (m : ℕ) × (m < length (rings n next)) × IsInList (rings n next) x m
  home x there = in-some (rings n next) x k.each (let same = count in let all = k.count in omega arith)

  node_before : (x p : ℕ) → x < node_count lists → p ≡ slice_index_or before x p → p ≡ slice_index before x
  node_before x p there e = index_is before x p (let all = count in let long = before_length in omega arith) e

  node_next : (x q : ℕ) → x < node_count lists → q ≡ slice_index_or next x q → q ≡ slice_index next x
  node_next x q there e = index_is next x q (let all = count in let long = next_length in omega arith) e

  pub before_low : (x p : ℕ) → x < node_count lists → p ≡ slice_index_or before x p → p < length next
  before_low x p there e = let m = home x there in let is = node_before x p there e in
      let long = next_length in let same = ap length seen in
      let below = of-low n next before (rings n next) (slice_index before x) m.0 k.are_rings m.1
      (of-before n next before (rings n next) x m.0 k.are_rings m.1 (inr m.2)) in omega arith

  pub next_low : (x q : ℕ) → x < node_count lists → q ≡ slice_index_or next x q → q < length before
  next_low x q there e = let m = home x there in let is = node_next x q there e in
      let long = before_length in let same = ap length seen in
      let below = of-low n next before (rings n next) (slice_index next x) m.0 k.are_rings m.1
      (of-next n next before (rings n next) x m.0 k.are_rings m.1 (inr m.2)) in omega arith

  pub own_before_low : (l p : ℕ) → l < length lists → p ≡ slice_index_or before (n + l) p → p < length next
  own_before_low l p low e = let is = own_before l p low e in let long = next_length in let same = ap length seen in
      let below = of-low n next before (rings n next) (slice_index before (n + l)) l k.are_rings (low_in l low)
      (of-before n next before (rings n next) (n + l) l k.are_rings (low_in l low) (inl refl)) in omega arith

  pub own_next_low : (l q : ℕ) → l < length lists → q ≡ slice_index_or next (n + l) q → q < length before
  own_next_low l q low e = let is = own_next l q low e in let long = before_length in let same = ap length seen in
      let below = of-low n next before (rings n next) (slice_index next (n + l)) l k.are_rings (low_in l low)
      (of-next n next before (rings n next) (n + l) l k.are_rings (low_in l low) (inl refl)) in omega arith

  out : (x p q : ℕ) (next_1 before_1 : List ℕ) → x < node_count lists → p ≡ slice_index_or before x p →
      q ≡ slice_index_or next x q → next_1 ≡ slice_set next p q → before_1 ≡ slice_set before q p →
      AreRings n next_1 before_1 (map (without x) (rings n next))
  out x p q next_1 before_1 there p_is q_is next_1_is before_1_is = let m = home x there in
      subst (λ c. AreRings n c before_1 (map (without x) (rings n next))) (sym (next_1_is
      ∙ ap (λ p. slice_set next p q) (node_before x p there p_is)
      ∙ ap (λ q. slice_set next (slice_index before x) q) (node_next x q there q_is)))
      (subst (λ c. AreRings n (slice_set next (slice_index before x) (slice_index next x)) c
      (map (without x) (rings n next))) (sym (before_1_is ∙ ap (λ p. slice_set before q p) (node_before x p there p_is)
      ∙ ap (λ q. slice_set before q (slice_index before x)) (node_next x q there q_is)))
      (taken_out n next before (rings n next) x m.0 k.are_rings m.1 m.2))

  pub last_low : (x l p q last : ℕ) (next_1 before_1 : List ℕ) → x < node_count lists → l < length lists →
      p ≡ slice_index_or before x p → q ≡ slice_index_or next x q → next_1 ≡ slice_set next p q →
      before_1 ≡ slice_set before q p → last ≡ slice_index_or before_1 (n + l) last → last < length next_1
  last_low x l p q last next_1 before_1 there low p_is q_is next_1_is before_1_is last_is =
      let r = out x p q next_1 before_1 there p_is q_is next_1_is before_1_is in
      let long : length (map (without x) (rings n next)) ≡ length (rings n next) =
      length-map (rings n next) (without x) in let same = ap length seen in
      let next_long = r.next_length in let before_long = r.before_length in
      let here : l < length (map (without x) (rings n next)) = omega arith in
      let is = index_is before_1 (n + l) last (omega arith) last_is in
      let below = of-low n next_1 before_1 (map (without x) (rings n next)) (slice_index before_1 (n + l)) l r here
      (of-before n next_1 before_1 (map (without x) (rings n next)) (n + l) l r here (inl refl)) in omega arith

  pub all_moved : (x l p q last : ℕ) (next_1 before_1 next_2 before_2 next_3 before_3 : List ℕ) →
      x < node_count lists → l < length lists → p ≡ slice_index_or before x p → q ≡ slice_index_or next x q →
      next_1 ≡ slice_set next p q → before_1 ≡ slice_set before q p → last ≡ slice_index_or before_1 (n + l) last →
      next_2 ≡ slice_set next_1 last x → before_2 ≡ slice_set before_1 x last → next_3 ≡ slice_set next_2 x (n + l) →
      before_3 ≡ slice_set before_2 (n + l) x → IsSeenAs n next_3 before_3 (moved x l lists)
  all_moved x l p q last next_1 before_1 next_2 before_2 next_3 before_3 there low p_is q_is n1 b1 last_is n2 b2 n3 b3 =
      subst (λ c. IsSeenAs n c before_3 (moved x l lists)) (sym (n3 ∙ ap (λ c. slice_set c x (n + l)) (n2
      ∙ ap (λ c. slice_set c last x) n1)))
      (subst (λ c. IsSeenAs n (slice_set (slice_set (slice_set next p q) last x) x (n + l)) c (moved x l lists))
      (sym (b3 ∙ ap (λ c. slice_set c (n + l) x) (b2 ∙ ap (λ c. slice_set c x last) b1)))
      (subst (λ ls. IsSeenAs n (slice_set (slice_set (slice_set next p q) last x) x (n + l))
      (slice_set (slice_set (slice_set before q p) x last) (n + l) x) (moved x l ls)) seen
      (node_moved n next before x l p q last k (let all = count in omega arith) (low_in l low)
      (node_before x p there p_is) (node_next x q there q_is)
      (index_is before_1 (n + l) last (let long = ap length b1 ∙ length-set before q p in let all = before_length in
      omega arith) last_is ∙ ap (λ c. slice_index c (n + l)) b1))))

  pub all_appended : (from to end first last : ℕ) (next_1 before_1 next_2 before_2 next_3 before_3 : List ℕ) →
      (from ≡ to → ⊥) → from < length lists → to < length lists → end ≡ slice_index_or before (n + to) end →
      first ≡ slice_index_or next (n + from) first → last ≡ slice_index_or before (n + from) last →
      (first ≡ n + from → ⊥) → next_1 ≡ slice_set next end first → before_1 ≡ slice_set before first end →
      next_2 ≡ slice_set next_1 last (n + to) → before_2 ≡ slice_set before_1 (n + to) last →
      next_3 ≡ slice_set next_2 (n + from) (n + from) → before_3 ≡ slice_set before_2 (n + from) (n + from) →
      IsSeenAs n next_3 before_3 (spliced from to lists)
  all_appended from to end first last next_1 before_1 next_2 before_2 next_3 before_3 other low_from low_to end_is
      first_is last_is some n1 b1 n2 b2 n3 b3 =
      subst (λ c. IsSeenAs n c before_3 (spliced from to lists)) (sym (n3
      ∙ ap (λ c. slice_set c (n + from) (n + from)) (n2 ∙ ap (λ c. slice_set c last (n + to)) n1)))
      (subst (λ c. IsSeenAs n (slice_set (slice_set (slice_set next end first) last (n + to)) (n + from) (n + from)) c
      (spliced from to lists)) (sym (b3 ∙ ap (λ c. slice_set c (n + from) (n + from)) (b2
      ∙ ap (λ c. slice_set c (n + to) last) b1)))
      (subst (λ ls. IsSeenAs n (slice_set (slice_set (slice_set next end first) last (n + to)) (n + from) (n + from))
      (slice_set (slice_set (slice_set before first end) (n + to) last) (n + from) (n + from))
      (spliced from to ls)) seen
      (row_appended n next before from to end first last k other (low_in from low_from) (low_in to low_to)
      (own_before to end low_to end_is) (own_next from first low_from first_is) (own_before from last low_from last_is)
      some)))

  pub none_appended : (from to first : ℕ) → (from ≡ to → ⊥) → from < length lists → to < length lists →
      first ≡ slice_index_or next (n + from) first → first ≡ n + from → lists ≡ spliced from to lists
  none_appended from to first other low_from low_to first_is same = subst (λ ls. ls ≡ spliced from to ls) seen
      (nothing_appended n next before from to k other (low_in from low_from) (low_in to low_to)
      (sym (own_next from first low_from first_is) ∙ same))
