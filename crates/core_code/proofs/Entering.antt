-- A method is met for the first time: it is a group of its own, and its calls are still to be looked at.
use Rattle.std.proofs.Common.{◌≡◌, ℕ, ◌+◌, ◌-◌, ◌<◌, ◌≤◌, ◌⊎◌, inl, inr, List, [], ◌∷◌, ◌++◌, length}
use Rattle.std.proofs.Common.{sym, ap, ◌∙◌, subst, arith}
use Rattle.std.proofs.lemmas.Bool.{cases_lt}
use Rattle.std.proofs.lemmas.List.{length-append}
use Rattle.racer_base.specs.declared.ids.MethodId.{MethodId}
use Rattle.racer_base.proofs.Lists.{no_items}
use Rattle.core_code.specs.declared.walk.Group.{Group}
use Rattle.core_code.specs.Chains.{row_of, Calls}
use Rattle.core_code.specs.Falling.{number_of}
use Rattle.core_code.specs.Walks.{At, From, LeadsTo, IsDone, new_ones, IsWalked}
use Rattle.core_code.proofs.ChainLemmas.{then_call, leads_on}
use Rattle.core_code.proofs.Standing.{at_within, at_some, at_one, at_left, at_more, at_end}
use Rattle.core_code.proofs.Standing.{from_left, from_right, from_split, from_past, from_more, from_end}
use Rattle.core_code.proofs.Standing.{from_behind, from_contains, contains_from}
use Rattle.core_code.proofs.Walking.{length-more}

-- a method has a place, and the others those that they had
pub record IsPlaced (m : MethodId) (p : ℕ) (old new : List ℕ) : Type 0 where
  pub long : length new ≡ length old
  pub given : number_of new m ≡ p
  pub others : (k : MethodId) → (k ≡ m) ⊎ (number_of new k ≡ number_of old k)
  pub fewer : new_ones new + 1 ≡ new_ones old

module _ (rows : List (List MethodId)) (old new numbers : List ℕ) (path todo : List MethodId) (m : MethodId)
    (groups : List Group) (count : ℕ) (w : IsWalked rows old numbers path (todo ++ m ∷ []) groups count)
    (low : m.0 < length rows) (no_number : number_of numbers m ≡ 0) (no_place : number_of old m ≡ 0)
    (bases : (i : ℕ) (g : Group) → At groups i g → g.base ≤ length todo)
    (n : IsPlaced m (length path + 1) old new) where
  abbrev mine : Group
  mine = record { first = length path; base = length todo }

  abbrev own_calls : List MethodId
  own_calls = row_of rows m

  -- who stands on the path has the place that it had
  same_place : (p : ℕ) (k : MethodId) → At path p k → number_of new k ≡ p + 1
  same_place p k at =
      let before : number_of old k ≡ p + 1 = w.placed p k at in
      elim (n.others k) [
        | inl is ↦ absurd (let e : number_of old k ≡ number_of old m = ap (number_of old) is in omega arith)
        | inr same ↦ same ∙ before
      ]

  -- all on the path lead to it
  all_lead : (p : ℕ) (x : MethodId) → At path p x → LeadsTo rows x m
  all_lead p x at =
      elim (cases_lt 0 (length groups)) [
        | inr none ↦
            absurd (
            let bare : length path ≡ 0 =
            ap (λ (ms : List MethodId). length ms) (w.empty (no_items groups (omega arith))) in
            let some = at_within path p x at in
            omega arith)
        | inl some ↦
            let top = at_some groups (length groups - 1) (omega arith) in
            let within = w.within (length groups - 1) top.0 top.1 in
            let h = at_some path top.0.first within.0 in
            let wants : From (todo ++ m ∷ []) top.0.base m =
            from_end todo m top.0.base (bases (length groups - 1) top.0 top.1) in
            leads_on rows x h.0 m (to_head p x at top.0 top.1 h.0 h.1)
            (w.wanted (length groups - 1) top.0 h.0 m top.1 h.1 wants)
      ]
    where
      to_head : (p : ℕ) (x : MethodId) → At path p x → (g : Group) → At groups (length groups - 1) g →
          (h : MethodId) → At path g.first h → LeadsTo rows x h
      to_head p x ax g ag h ah =
          elim (cases_lt g.first p) [
            | inr before ↦ w.in_order p g.first x h before ax ah
            | inl behind ↦
                elim (w.grouped g.first p h x (omega arith) ah ax) [
                  | inl leads ↦ leads
                  | inr (i, k, at, less, more) ↦
                      absurd (
                      let there = at_within groups i k at in
                      elim (cases_lt i (length groups - 1)) [
                        | inl lower ↦
                            let rises : k.first < g.first = (w.rising i (length groups - 1) k g lower at ag).0 in
                            omega arith
                        | inr last ↦
                            let is : i ≡ length groups - 1 = omega arith in
                            let one : k ≡ g =
                            at_one groups (length groups - 1) k g (subst (λ (j : ℕ). At groups j k) is at) ag in
                            let e : k.first ≡ g.first = ap (λ (z : Group). z.first) one in
                            omega arith
                      ])
                ]
          ]

  known : (k : MethodId) → k.0 < length rows →
      (0 < number_of numbers k) ⊎ (From (path ++ m ∷ []) 0 k ⊎ From (todo ++ own_calls) 0 k)
  known k there =
      elim (w.known k there) [
        | inl done ↦ inl done
        | inr (inl on) ↦ inr (inl (from_left path (m ∷ []) 0 k on))
        | inr (inr left) ↦
            elim (from_more todo m 0 k left) [
              | inl still ↦ inr (inr (from_left todo own_calls 0 k still))
              | inr is ↦
                  inr (inl (subst (λ (x : MethodId). From (path ++ m ∷ []) 0 x) (sym is)
                  (from_end path m 0 (omega arith))))
            ]
      ]

  placed : (p : ℕ) (k : MethodId) → At (path ++ m ∷ []) p k → number_of new k ≡ p + 1
  placed p k at =
      elim (at_more path m p k at) [
        | inl front ↦ same_place p k front
        | inr is ↦
            let e : number_of new k ≡ number_of new m = ap (number_of new) is.1 in
            let f : number_of new m ≡ length path + 1 = n.given in
            let g : p ≡ length path = is.0 in
            omega arith
      ]

  open_there : (p : ℕ) (k : MethodId) → At (path ++ m ∷ []) p k → (number_of numbers k ≡ 0) × (k.0 < length rows)
  open_there p k at =
      elim (at_more path m p k at) [
        | inl front ↦ w.open_there p k front
        | inr is ↦
            let e : k.0 ≡ m.0 = ap (λ (x : MethodId). x.0) is.1 in
            (ap (number_of numbers) is.1 ∙ no_number, omega arith)
      ]

  on_path : (k : MethodId) → 0 < number_of new k → number_of numbers k ≡ 0 →
      At (path ++ m ∷ []) (number_of new k - 1) k
  on_path k some none =
      elim (n.others k) [
        | inl is ↦
            let e : number_of new k ≡ length path + 1 = ap (number_of new) is ∙ n.given in
            let f : length path ≡ number_of new k - 1 = omega arith in
            subst (λ (p : ℕ). At (path ++ m ∷ []) p k) f
            (subst (λ (x : MethodId). At (path ++ m ∷ []) (length path) x) (sym is) (at_end path m))
        | inr same ↦
            let f : number_of old k - 1 ≡ number_of new k - 1 = omega arith in
            at_left path (m ∷ []) (number_of new k - 1) k
            (subst (λ (p : ℕ). At path p k) f (w.on_path k (omega arith) none))
      ]

  in_order : (p q : ℕ) (x y : MethodId) → p ≤ q → At (path ++ m ∷ []) p x → At (path ++ m ∷ []) q y →
      LeadsTo rows x y
  in_order p q x y le ax ay =
      elim (at_more path m p x ax) [
        | inl one ↦
            elim (at_more path m q y ay) [
              | inl two ↦ w.in_order p q x y le one two
              | inr is ↦ subst (λ (z : MethodId). LeadsTo rows x z) (sym is.1) (all_lead p x one)
            ]
        | inr is ↦
            elim (at_more path m q y ay) [
              | inl two ↦
                  absurd (
                  let there = at_within path q y two in
                  let e : p ≡ length path = is.0 in
                  omega arith)
              | inr also ↦ inl (is.1 ∙ sym also.1)
            ]
      ]

  grouped : (p q : ℕ) (x y : MethodId) → p ≤ q → At (path ++ m ∷ []) p x → At (path ++ m ∷ []) q y →
      LeadsTo rows y x ⊎ ((i : ℕ) × (g : Group) × At (groups ++ mine ∷ []) i g × (p < g.first) × (g.first ≤ q))
  grouped p q x y le ax ay =
      elim (at_more path m p x ax) [
        | inl one ↦
            elim (at_more path m q y ay) [
              | inl two ↦
                  elim (w.grouped p q x y le one two) [
                    | inl leads ↦ inl leads
                    | inr (i, g, at, less, more) ↦ inr (i, g, at_left groups (mine ∷ []) i g at, less, more)
                  ]
              | inr is ↦
                  let there = at_within path p x one in
                  let e : q ≡ length path = is.0 in
                  inr (length groups, mine, at_end groups mine, there, omega arith)
            ]
        | inr is ↦
            elim (at_more path m q y ay) [
              | inl two ↦
                  absurd (
                  let there = at_within path q y two in
                  let e : p ≡ length path = is.0 in
                  omega arith)
              | inr also ↦ inl (inl (also.1 ∙ sym is.1))
            ]
      ]

  called : (k : MethodId) → From own_calls 0 k → Calls rows m k
  called k there = contains_from own_calls k there

  wanted : (i : ℕ) (g : Group) (h k : MethodId) → At (groups ++ mine ∷ []) i g → At (path ++ m ∷ []) g.first h →
      From (todo ++ own_calls) g.base k → LeadsTo rows h k
  wanted i g h k at head left =
      elim (at_more groups mine i g at) [
        | inl before ↦
            let first : g.first < length path = (w.within i g before).0 in
            elim (at_more path m g.first h head) [
              | inr is ↦ absurd (let e : g.first ≡ length path = is.0 in omega arith)
              | inl there ↦
                  elim (from_split todo own_calls g.base k left) [
                    | inl still ↦ w.wanted i g h k before there (from_left todo (m ∷ []) g.base k still)
                    | inr new_call ↦
                        inr (then_call rows h m k
                        (w.wanted i g h m before there (from_end todo m g.base (bases i g before))) (called k new_call))
                  ]
            ]
        | inr own ↦
            let first : g.first ≡ length path = ap (λ (z : Group). z.first) own.1 in
            let base : g.base ≡ length todo = ap (λ (z : Group). z.base) own.1 in
            elim (at_more path m g.first h head) [
              | inl there ↦ absurd (let low = at_within path g.first h there in omega arith)
              | inr is ↦
                  subst (λ (x : MethodId). LeadsTo rows x k) (sym is.1)
                  (inr ([], called k (from_behind todo own_calls g.base k (omega arith) left)))
            ]
      ]

  closed : (i : ℕ) (g : Group) (x k : MethodId) → At (groups ++ mine ∷ []) i g → From (path ++ m ∷ []) g.first x →
      Calls rows x k → IsDone rows numbers k ⊎ (From (path ++ m ∷ []) g.first k ⊎ From (todo ++ own_calls) g.base k)
  closed i g x k at there call =
      elim (at_more groups mine i g at) [
        | inl before ↦
            let first : g.first < length path = (w.within i g before).0 in
            elim (from_more path m g.first x there) [
              | inl front ↦
                  elim (w.closed i g x k before front call) [
                    | inl done ↦ inl done
                    | inr (inl on) ↦ inr (inl (from_left path (m ∷ []) g.first k on))
                    | inr (inr left) ↦
                        elim (from_more todo m g.base k left) [
                          | inl still ↦ inr (inr (from_left todo own_calls g.base k still))
                          | inr is ↦
                              inr (inl (subst (λ (z : MethodId). From (path ++ m ∷ []) g.first z) (sym is)
                              (from_end path m g.first (omega arith))))
                        ]
                  ]
              | inr is ↦ inr (inr (own_call g (bases i g before) x k is call))
            ]
        | inr own ↦
            let first : g.first ≡ length path = ap (λ (z : Group). z.first) own.1 in
            let base : g.base ≡ length todo = ap (λ (z : Group). z.base) own.1 in
            elim (from_more path m g.first x there) [
              | inl front ↦ absurd (from_past path g.first x (omega arith) front)
              | inr is ↦ inr (inr (own_call g (omega arith) x k is call))
            ]
      ]
    where
      own_call : (g : Group) → g.base ≤ length todo → (x k : MethodId) → x ≡ m → Calls rows x k →
          From (todo ++ own_calls) g.base k
      own_call g less x k is call =
          from_right todo own_calls g.base k less
          (from_contains own_calls k (subst (λ (z : MethodId). Calls rows z k) is call))

  within : (i : ℕ) (g : Group) → At (groups ++ mine ∷ []) i g →
      (g.first < length (path ++ m ∷ [])) × (g.base ≤ length (todo ++ own_calls))
  within i g at =
      let long : length (path ++ m ∷ []) ≡ length path + 1 = length-more path m in
      let more : length (todo ++ own_calls) ≡ length todo + length own_calls = length-append todo own_calls in
      elim (at_more groups mine i g at) [
        | inl before ↦
            let first : g.first < length path = (w.within i g before).0 in
            let base : g.base ≤ length todo = bases i g before in
            (omega arith, omega arith)
        | inr own ↦
            let first : g.first ≡ length path = ap (λ (z : Group). z.first) own.1 in
            let base : g.base ≡ length todo = ap (λ (z : Group). z.base) own.1 in
            (omega arith, omega arith)
      ]

  rising : (i j : ℕ) (g h : Group) → i < j → At (groups ++ mine ∷ []) i g → At (groups ++ mine ∷ []) j h →
      (g.first < h.first) × (g.base ≤ h.base)
  rising i j g h less ag ah =
      elim (at_more groups mine i g ag) [
        | inl one ↦
            elim (at_more groups mine j h ah) [
              | inl two ↦ w.rising i j g h less one two
              | inr own ↦
                  let first : h.first ≡ length path = ap (λ (z : Group). z.first) own.1 in
                  let base : h.base ≡ length todo = ap (λ (z : Group). z.base) own.1 in
                  let below : g.first < length path = (w.within i g one).0 in
                  let under : g.base ≤ length todo = bases i g one in
                  (omega arith, omega arith)
            ]
        | inr own ↦
            absurd (
            let at : i ≡ length groups = own.0 in
            let long : length (groups ++ mine ∷ []) ≡ length groups + 1 = length-more groups mine in
            let there = at_within (groups ++ mine ∷ []) j h ah in
            omega arith)
      ]

  bottom : (g : Group) → At (groups ++ mine ∷ []) 0 g → g.first ≡ 0
  bottom g at =
      elim (at_more groups mine 0 g at) [
        | inl before ↦ w.bottom g before
        | inr own ↦
            let first : g.first ≡ length path = ap (λ (z : Group). z.first) own.1 in
            let none : 0 ≡ length groups = own.0 in
            let bare : length path ≡ 0 =
            ap (λ (ms : List MethodId). length ms) (w.empty (no_items groups (omega arith))) in
            omega arith
      ]

  pub entered : IsWalked rows new numbers (path ++ m ∷ []) (todo ++ row_of rows m)
      (groups ++ record { first = length path; base = length todo } ∷ []) count
  entered =
      record {
        as_many_places = n.long ∙ w.as_many_places;
        as_many = w.as_many;
        known = known;
        placed = placed;
        open_there = open_there;
        on_path = on_path;
        counted = w.counted;
        finished = w.finished;
        together = w.together;
        in_order = in_order;
        grouped = grouped;
        wanted = wanted;
        closed = closed;
        within = within;
        rising = rising;
        bottom = bottom;
        empty = λ e.
            absurd (
            let none : length (groups ++ mine ∷ []) ≡ 0 = ap (λ (gs : List Group). length gs) e in
            let long : length (groups ++ mine ∷ []) ≡ length groups + 1 = length-more groups mine in
            omega arith);
        few =
            let all : count + length groups + new_ones old ≤ length rows = w.few in
            let long : length (groups ++ mine ∷ []) ≡ length groups + 1 = length-more groups mine in
            let fewer : new_ones new + 1 ≡ new_ones old = n.fewer in
            omega arith;
      }
