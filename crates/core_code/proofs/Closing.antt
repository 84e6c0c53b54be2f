-- The methods of the last group get a number, when none of its calls is left.
use Rattle.std.proofs.Common.{◌≡◌, ℕ, ◌+◌, ◌-◌, ◌<◌, ◌≤◌, ◌⊎◌, inl, inr, List, [], ◌∷◌, ◌++◌, length, refl}
use Rattle.std.proofs.Common.{sym, ap, ◌∙◌, arith}
use Rattle.racer_base.specs.declared.ids.MethodId.{MethodId}
use Rattle.racer_base.proofs.Lists.{no_items}
use Rattle.core_code.specs.declared.walk.Group.{Group}
use Rattle.core_code.specs.Chains.{Calls}
use Rattle.core_code.specs.Falling.{number_of}
use Rattle.core_code.specs.Walks.{At, From, LeadsTo, IsDone, new_ones, IsWalked, AreNumbered}
use Rattle.core_code.proofs.Standing.{at_within, at_left, at_right, at_split, at_more, at_end}
use Rattle.core_code.proofs.Standing.{from_left, from_right, from_split, from_past}
use Rattle.core_code.proofs.Standing.{from_behind}
use Rattle.core_code.proofs.Walking.{length-more, earlier, in_last}

module _ (rows : List (List MethodId)) (places old new : List ℕ) (lower upper todo : List MethodId)
    (groups : List Group) (g : Group) (count : ℕ)
    (w : IsWalked rows places old (lower ++ upper) todo (groups ++ g ∷ []) count)
    (first : length lower ≡ g.first) (base : g.base ≡ length todo) (n : AreNumbered upper (count + 1) old new) where
  path : List MethodId
  path = lower ++ upper

  -- who has the new number stands in the last group
  new_or_old : (m : MethodId) → (From upper 0 m × (number_of new m ≡ count + 1)) ⊎ (number_of new m ≡ number_of old m)
  new_or_old m =
      elim (n.others m) [
        | inl given ↦ inl (given.0, given.2)
        | inr same ↦ inr same
      ]

  gets : (m : MethodId) → From upper 0 m → number_of new m ≡ count + 1
  gets m (q, some, at) =
      let in_path : At (lower ++ upper) (length lower + q) m = at_right lower upper (length lower + q) q m refl at in
      let low : m.0 < length rows = (w.open_there (length lower + q) m in_path).1 in
      let as_many = w.as_many in
      n.given m (omega arith) (q, some, at)

  late : (m : MethodId) → From upper 0 m → From (lower ++ upper) g.first m
  late m there = from_right lower upper g.first m (omega arith) there

  had_none : (m : MethodId) → From upper 0 m → (number_of old m ≡ 0) × (m.0 < length rows)
  had_none m there = let from = late m there in w.open_there from.0 m from.2

  most : (m : MethodId) → number_of new m ≤ count + 1
  most m =
      elim (new_or_old m) [
        | inl given ↦ let e : number_of new m ≡ count + 1 = given.1 in omega arith
        | inr same ↦ let less : number_of old m ≤ count = w.counted m in omega arith
      ]

  stays_done : (m : MethodId) → IsDone rows old m → IsDone rows new m
  stays_done m (inl out) = inl out
  stays_done m (inr some) =
      elim (new_or_old m) [
        | inl given ↦ inr (let e : number_of new m ≡ count + 1 = given.1 in omega arith)
        | inr same ↦ inr (omega arith)
      ]

  now_done : (m : MethodId) → From upper 0 m → IsDone rows new m
  now_done m there = inr (let e : number_of new m ≡ count + 1 = gets m there in omega arith)

  -- those in front are still without a number
  still_open : (p : ℕ) (m : MethodId) → At lower p m → number_of new m ≡ 0
  still_open p m at =
      let none : number_of old m ≡ 0 = (w.open_there p m (at_left lower upper p m at)).0 in
      elim (new_or_old m) [
        | inl ((q, some, there), e) ↦
            absurd (
            let one : number_of places m ≡ p + 1 = w.placed p m (at_left lower upper p m at) in
            let two : number_of places m ≡ length lower + q + 1 =
            w.placed (length lower + q) m (at_right lower upper (length lower + q) q m refl there) in
            let low = at_within lower p m at in
            omega arith)
        | inr same ↦ same ∙ none
      ]

  known : (m : MethodId) → m.0 < length rows → (0 < number_of new m) ⊎ (From lower 0 m ⊎ From todo 0 m)
  known m low =
      elim (w.known m low) [
        | inl done ↦
            elim (stays_done m (inr done)) [
              | inl out ↦ absurd (omega arith)
              | inr some ↦ inl some
            ]
        | inr (inl on) ↦
            elim (from_split lower upper 0 m on) [
              | inl front ↦ inr (inl front)
              | inr there ↦ inl (let e : number_of new m ≡ count + 1 = gets m there in omega arith)
            ]
        | inr (inr left) ↦ inr (inr left)
      ]

  on_path : (m : MethodId) → 0 < number_of places m → number_of new m ≡ 0 → At lower (number_of places m - 1) m
  on_path m some none =
      elim (new_or_old m) [
        | inl given ↦ absurd (let e : number_of new m ≡ count + 1 = given.1 in omega arith)
        | inr same ↦
            elim (at_split lower upper (number_of places m - 1) m (w.on_path m some (sym same ∙ none))) [
              | inl front ↦ front
              | inr (q, e, there) ↦
                  absurd (let f : number_of new m ≡ count + 1 = gets m (q, omega arith, there) in omega arith)
            ]
      ]

  of_group : (m k : MethodId) → From upper 0 m → number_of new m ≡ count + 1 → Calls rows m k →
      IsDone rows new k × (number_of new k ≤ number_of new m)
  of_group m k there e call =
      let less : number_of new k ≤ count + 1 = most k in
      elim (w.closed (length groups) g m k (at_end groups g) (late m there) call) [
        | inl done ↦ (stays_done k done, omega arith)
        | inr (inl on) ↦ (now_done k (from_behind lower upper g.first k (omega arith) on), omega arith)
        | inr (inr left) ↦ absurd (from_past todo g.base k (omega arith) left)
      ]

  finished : (m k : MethodId) → 0 < number_of new m → Calls rows m k →
      IsDone rows new k × (number_of new k ≤ number_of new m)
  finished m k some call =
      elim (new_or_old m) [
        | inl given ↦ of_group m k given.0 given.1 call
        | inr same ↦
            let before = w.finished m k (omega arith) call in
            let less : number_of old k ≤ number_of old m = before.1 in
            elim (new_or_old k) [
              | inr also ↦ (stays_done k before.0, omega arith)
              | inl given ↦ absurd (not_yet k before.0 (had_none k given.0))
            ]
      ]
    where
      not_yet : (k : MethodId) → IsDone rows old k → (number_of old k ≡ 0) × (k.0 < length rows) → ⊥
      not_yet k (inl out) open_yet = let low : k.0 < length rows = open_yet.1 in omega arith
      not_yet k (inr some) open_yet = let none : number_of old k ≡ 0 = open_yet.0 in omega arith

  together : (m k : MethodId) → 0 < number_of new m → number_of new m ≡ number_of new k → LeadsTo rows m k
  together m k some e =
      elim (new_or_old m) [
        | inl one ↦
            elim (new_or_old k) [
              | inl two ↦
                  let p = late m one.0 in
                  let q = late k two.0 in
                  in_last rows places old (lower ++ upper) todo groups g count w p.0 q.0 m k p.1 q.1 p.2 q.2
              | inr same ↦
                  absurd (
                  let less : number_of old k ≤ count = w.counted k in
                  let f : number_of new m ≡ count + 1 = one.1 in
                  omega arith)
            ]
        | inr one ↦
            let less : number_of old m ≤ count = w.counted m in
            elim (new_or_old k) [
              | inl two ↦ absurd (let f : number_of new k ≡ count + 1 = two.1 in omega arith)
              | inr two ↦ w.together m k (omega arith) (sym one ∙ e ∙ two)
            ]
      ]

  grouped : (p q : ℕ) (x y : MethodId) → p ≤ q → At lower p x → At lower q y →
      LeadsTo rows y x ⊎ ((i : ℕ) × (k : Group) × At groups i k × (p < k.first) × (k.first ≤ q))
  grouped p q x y le ax ay =
      elim (w.grouped p q x y le (at_left lower upper p x ax) (at_left lower upper q y ay)) [
        | inl leads ↦ inl leads
        | inr (i, k, at, less, more) ↦
            elim (at_more groups g i k at) [
              | inl kept ↦ inr (i, k, kept, less, more)
              | inr is ↦
                  absurd (
                  let e : k.first ≡ g.first = ap (λ (z : Group). z.first) is.1 in
                  let low = at_within lower q y ay in
                  omega arith)
            ]
      ]

  closed : (i : ℕ) (k : Group) (x m : MethodId) → At groups i k → From lower k.first x → Calls rows x m →
      IsDone rows new m ⊎ (From lower k.first m ⊎ From todo k.base m)
  closed i k x m at there call =
      elim (w.closed i k x m (at_left groups (g ∷ []) i k at) (from_left lower upper k.first x there) call) [
        | inl done ↦ inl (stays_done m done)
        | inr (inl on) ↦
            elim (from_split lower upper k.first m on) [
              | inl front ↦ inr (inl front)
              | inr behind ↦ inl (now_done m behind)
            ]
        | inr (inr left) ↦ inr (inr left)
      ]

  pub numbered : IsWalked rows places new lower todo groups (count + 1)
  numbered =
      record {
        as_many_places = w.as_many_places;
        as_many = n.long ∙ w.as_many;
        known = known;
        placed = λ p m at. w.placed p m (at_left lower upper p m at);
        open_there = λ p m at. (still_open p m at, (w.open_there p m (at_left lower upper p m at)).1);
        on_path = on_path;
        counted = most;
        finished = finished;
        together = together;
        in_order = λ p q x y le ax ay. w.in_order p q x y le (at_left lower upper p x ax) (at_left lower upper q y ay);
        grouped = grouped;
        wanted = λ i k h m at head left.
            w.wanted i k h m (at_left groups (g ∷ []) i k at) (at_left lower upper k.first h head) left;
        closed = closed;
        within = λ i k at.
            let before : k.first < g.first =
            (earlier rows places old (lower ++ upper) todo groups g count w i k at).0 in
            (omega arith, (w.within i k (at_left groups (g ∷ []) i k at)).1);
        rising = λ i j k l less ak al.
            w.rising i j k l less (at_left groups (g ∷ []) i k ak) (at_left groups (g ∷ []) j l al);
        bottom = λ k at. w.bottom k (at_left groups (g ∷ []) 0 k at);
        empty = λ e.
            no_items lower (
            let none : length groups ≡ 0 = ap (λ (gs : List Group). length gs) e in
            let at : At (groups ++ g ∷ []) 0 g = at_right groups (g ∷ []) 0 0 g (omega arith) refl in
            let start : g.first ≡ 0 = w.bottom g at in
            omega arith);
        few =
            let all : count + length (groups ++ g ∷ []) + new_ones places ≤ length rows = w.few in
            let more : length (groups ++ g ∷ []) ≡ length groups + 1 = length-more groups g in
            omega arith;
      }
