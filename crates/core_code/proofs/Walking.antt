-- What each step of a walk along calls keeps.
use Rattle.std.proofs.Common.{◌≡◌, ℕ, ◌+◌, ◌<◌, ◌≤◌, ◌⊎◌, inl, inr, List, [], ◌∷◌, ◌++◌, length, refl}
use Rattle.std.proofs.Common.{sym, ap, subst, arith}
use Rattle.std.proofs.lemmas.Bool.{cases_lt}
use Rattle.std.proofs.lemmas.List.{length-append}
use Rattle.racer_base.specs.declared.ids.MethodId.{MethodId}
use Rattle.core_code.specs.declared.walk.Group.{Group}
use Rattle.core_code.specs.Falling.{number_of}
use Rattle.core_code.specs.Walks.{At, From, LeadsTo, IsDone, new_ones, IsWalked}
use Rattle.core_code.proofs.ChainLemmas.{leads_on}
use Rattle.core_code.proofs.Standing.{at_within, at_some, at_left, at_right, at_more, at_end}
use Rattle.core_code.proofs.Standing.{from_left, from_more}

pub length-more : {X : Type 0} (xs : List X) (x : X) → length (xs ++ x ∷ []) ≡ length xs + 1
length-more xs x = length-append xs (x ∷ [])

module _ (rows : List (List MethodId)) where
  -- ---- a call is looked at that leads to a method that is done, or to one of the last group

  module _ (places numbers : List ℕ) (path todo : List MethodId) (n : MethodId) (groups : List Group) (count : ℕ)
      (w : IsWalked rows places numbers path (todo ++ n ∷ []) groups count) where
    pub looked_at : ((i : ℕ) (g : Group) → At groups i g → g.base ≤ length todo) →
        IsDone rows numbers n ⊎ (From path 0 n × ((i : ℕ) (g : Group) → At groups i g → From path g.first n)) →
        IsWalked rows places numbers path todo groups count
    looked_at low here =
        record {
          as_many_places = w.as_many_places;
          as_many = w.as_many;
          known = λ m there.
              elim (w.known m there) [
                | inl done ↦ inl done
                | inr (inl on) ↦ inr (inl on)
                | inr (inr left) ↦
                    elim (from_more todo n 0 m left) [
                      | inl still ↦ inr (inr still)
                      | inr is ↦
                          elim here [
                            | inl (inl out) ↦ absurd (let e : m.0 ≡ n.0 = ap (λ (k : MethodId). k.0) is in omega arith)
                            | inl (inr done) ↦ inl (subst (λ (k : MethodId). 0 < number_of numbers k) (sym is) done)
                            | inr on ↦ inr (inl (subst (λ (k : MethodId). From path 0 k) (sym is) on.0))
                          ]
                    ]
              ];
          placed = w.placed;
          open_there = w.open_there;
          on_path = w.on_path;
          counted = w.counted;
          finished = w.finished;
          together = w.together;
          in_order = w.in_order;
          grouped = w.grouped;
          wanted = λ i g h m at head left. w.wanted i g h m at head (from_left todo (n ∷ []) g.base m left);
          closed = λ i g x m at there call.
              elim (w.closed i g x m at there call) [
                | inl done ↦ inl done
                | inr (inl on) ↦ inr (inl on)
                | inr (inr left) ↦
                    elim (from_more todo n g.base m left) [
                      | inl still ↦ inr (inr still)
                      | inr is ↦
                          elim here [
                            | inl done ↦ inl (subst (λ (k : MethodId). IsDone rows numbers k) (sym is) done)
                            | inr on ↦ inr (inl (subst (λ (k : MethodId). From path g.first k) (sym is) (on.1 i g at)))
                          ]
                    ]
              ];
          within = λ i g at. ((w.within i g at).0, low i g at);
          rising = w.rising;
          bottom = w.bottom;
          empty = w.empty;
          few = w.few;
        }

  -- ---- the last group has a call that leads to an earlier one: it is put together with the one before it

  module _ (places numbers : List ℕ) (path todo : List MethodId) (groups : List Group) (g : Group) (count : ℕ)
      (w : IsWalked rows places numbers path todo (groups ++ g ∷ []) count) where
    -- the groups but the last begin before it
    pub earlier : (i : ℕ) (k : Group) → At groups i k → (k.first < g.first) × (k.base ≤ g.base)
    earlier i k at =
        w.rising i (length groups) k g (at_within groups i k at) (at_left groups (g ∷ []) i k at) (at_end groups g)

    -- a group that begins behind the beginning of the last
    pub none_later : (i : ℕ) (k : Group) → At (groups ++ g ∷ []) i k → g.first < k.first → ⊥
    none_later i k at later =
        elim (at_more groups g i k at) [
          | inl before ↦ let less : k.first < g.first = (earlier i k before).0 in omega arith
          | inr is ↦ let e : k.first ≡ g.first = ap (λ (x : Group). x.first) is.1 in omega arith
        ]

    -- methods of the last group lead to one another
    pub in_last : (p q : ℕ) (x y : MethodId) → g.first ≤ p → g.first ≤ q → At path p x → At path q y → LeadsTo rows x y
    in_last p q x y one two ax ay =
        elim (cases_lt q p) [
          | inl back ↦
              elim (w.grouped q p y x (omega arith) ay ax) [
                | inl leads ↦ leads
                | inr apart ↦
                    absurd (none_later apart.0 apart.1 apart.2 (let less : q < apart.1.first = apart.3 in omega arith))
              ]
          | inr on ↦ w.in_order p q x y on ax ay
        ]

    pub last_in_path : g.first < length path
    last_in_path = (w.within (length groups) g (at_end groups g)).0

    pub merged : (n : MethodId) (q : ℕ) → At path q n → q < g.first → From todo g.base n →
        IsWalked rows places numbers path todo groups count
    merged n q an before wants =
        record {
          as_many_places = w.as_many_places;
          as_many = w.as_many;
          known = w.known;
          placed = w.placed;
          open_there = w.open_there;
          on_path = w.on_path;
          counted = w.counted;
          finished = w.finished;
          together = w.together;
          in_order = w.in_order;
          grouped = λ p r x y le ax ay. joined p r x y le ax ay;
          wanted = λ i k h m at head left. w.wanted i k h m (at_left groups (g ∷ []) i k at) head left;
          closed = λ i k x m at there call. w.closed i k x m (at_left groups (g ∷ []) i k at) there call;
          within = λ i k at. w.within i k (at_left groups (g ∷ []) i k at);
          rising = λ i j k l less ak al.
              w.rising i j k l less (at_left groups (g ∷ []) i k ak) (at_left groups (g ∷ []) j l al);
          bottom = λ k at. w.bottom k (at_left groups (g ∷ []) 0 k at);
          empty = λ e.
              absurd (
              let none : length groups ≡ 0 = ap (λ (gs : List Group). length gs) e in
              let at : At (groups ++ g ∷ []) 0 g = at_right groups (g ∷ []) 0 0 g (omega arith) refl in
              let first : g.first ≡ 0 = w.bottom g at in
              omega arith);
          few =
              let all : count + length (groups ++ g ∷ []) + new_ones places ≤ length rows = w.few in
              let more : length (groups ++ g ∷ []) ≡ length groups + 1 = length-more groups g in
              omega arith;
        }
      where
        -- from the last group on each leads to n
        to_n : (r : ℕ) (y : MethodId) → g.first ≤ r → At path r y → LeadsTo rows y n
        to_n r y late ay =
            let h = at_some path g.first last_in_path in
            leads_on rows y h.0 n (in_last r g.first y h.0 late (omega arith) ay h.1)
            (w.wanted (length groups) g h.0 n (at_end groups g) h.1 wants)

        joined : (p r : ℕ) (x y : MethodId) → p ≤ r → At path p x → At path r y →
            LeadsTo rows y x ⊎ ((i : ℕ) × (k : Group) × At groups i k × (p < k.first) × (k.first ≤ r))
        joined p r x y le ax ay =
            elim (w.grouped p r x y le ax ay) [
              | inl leads ↦ inl leads
              | inr (i, k, at, less, more) ↦
                  elim (at_more groups g i k at) [
                    | inl kept ↦ inr (i, k, kept, less, more)
                    | inr is ↦
                        let e : k.first ≡ g.first = ap (λ (z : Group). z.first) is.1 in
                        let yn : LeadsTo rows y n = to_n r y (omega arith) ay in
                        elim (cases_lt p q) [
                          | inr back ↦ inl (leads_on rows y n x yn (w.in_order q p n x back an ax))
                          | inl on ↦
                              elim (w.grouped p q x n (omega arith) ax an) [
                                | inl leads ↦ inl (leads_on rows y n x yn leads)
                                | inr (j, l, atl, lessl, morel) ↦
                                    elim (at_more groups g j l atl) [
                                      | inl kept ↦ inr (j, l, kept, lessl, (omega arith))
                                      | inr same ↦
                                          absurd (
                                          let f : l.first ≡ g.first = ap (λ (z : Group). z.first) same.1 in omega arith)
                                    ]
                              ]
                        ]
                  ]
            ]
