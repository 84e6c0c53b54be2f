-- What the parts of a walk do to it.
use Rattle.std.proofs.Common.{◌≡◌, ℕ, zero, suc, ◌+◌, ◌-◌, ◌<◌, ◌≤◌, ◌⊎◌, inl, inr, List, [], ◌∷◌, ◌++◌, length, refl}
use Rattle.std.proofs.Common.{sym, ap, ◌∙◌, subst, arith, take, drop, get_or, slice_set, Some, replicate}
use Rattle.std.proofs.Common.{Result, Ok, Err, OnOk}
use Rattle.std.proofs.lemmas.Bool.{cases_lt}
use Rattle.std.proofs.lemmas.List.{length-append, get_or-set_same, get_or-set_other, set_past, length-set, take_more}
use Rattle.std.proofs.lemmas.List.{get_or_past, get_or-replicate, length-replicate, take-append-drop, length-take-le}
use Rattle.racer_base.specs.declared.ids.MethodId.{MethodId}
use Rattle.core_code.specs.declared.walk.Group.{Group}
use Rattle.core_code.specs.declared.walk.Walk.{Walk}
use Rattle.core_code.specs.declared.walk.Turn.TheVariants.{Close, Look}
use Rattle.core_code.specs.Chains.{row_of}
use Rattle.core_code.specs.Falling.{number_of}
use Rattle.core_code.specs.Walks.{At, From, IsDone, new_ones, new_work, work, IsWalked, IsKept, AreNumbered, IsTurn}
use Rattle.core_code.specs.Walks.{IsLookedAt, IsJoined, IsClosed, IsEntered, IsMerged, CanMerge, AreBefore}
use Rattle.core_code.proofs.Entering.{IsPlaced, entered}
use Rattle.core_code.proofs.Closing.{numbered}
use Rattle.core_code.proofs.Standing.{at_within, at_left, at_more, at_end, from_left, from_more, from_end}
use Rattle.core_code.proofs.Walking.{length-more, looked_at, merged, earlier}

pub on_ok : {X E P Q : Type 0} (r : Result X E) → (P → Q) → OnOk r P → OnOk r Q
on_ok (Ok x) f p = f p
on_ok (Err e) f p = tt

-- ---- entries

same_number : (numbers : List ℕ) (m k : MethodId) → k.0 ≡ m.0 → number_of numbers k ≡ number_of numbers m
same_number numbers m k e = ap (λ (n : ℕ). get_or numbers n 0) e

one_method : (m k : MethodId) → k.0 ≡ m.0 → k ≡ m
one_method m k e = ap (λ (n : ℕ). record { 0 = n }) e

pub numbered_more : (ms : List MethodId) (x : MethodId) (c : ℕ) (old new : List ℕ) → AreNumbered ms c old new →
    AreNumbered (ms ++ x ∷ []) c old (slice_set new x.0 c)
numbered_more ms x c old new n =
    record {
      long = length-set new x.0 c ∙ n.long;
      given = λ m low there.
          elim (other m) [
            | inl e ↦ own m e low
            | inr apart ↦
                get_or-set_other new x.0 m.0 c 0 apart
                ∙ elim (from_more ms x 0 m there) [
                  | inl before ↦ n.given m low before
                  | inr is ↦ absurd (apart (ap (λ (k : MethodId). k.0) is))
                ]
          ];
      others = λ m.
          elim (other m) [
            | inl e ↦
                elim (cases_lt m.0 (length old)) [
                  | inl low ↦
                      inl (
                        subst (λ (k : MethodId). From (ms ++ x ∷ []) 0 k) (sym (one_method x m e))
                            (from_end ms x 0 (omega arith)),
                        low,
                        own m e low,
                      )
                  | inr high ↦
                      let long = n.long in
                      let out : slice_set new x.0 c ≡ new = set_past new x.0 c (omega arith) in
                      elim (n.others m) [
                        | inl given ↦ absurd (let low : m.0 < length old = given.1 in omega arith)
                        | inr same ↦ inr (ap (λ (ns : List ℕ). number_of ns m) out ∙ same)
                      ]
                ]
            | inr apart ↦
                let e = get_or-set_other new x.0 m.0 c 0 apart in
                elim (n.others m) [
                  | inl given ↦ inl (from_left ms (x ∷ []) 0 m given.0, given.1, e ∙ given.2)
                  | inr same ↦ inr (e ∙ same)
                ]
          ];
    }
  where
    other : (m : MethodId) → (m.0 ≡ x.0) ⊎ (m.0 ≡ x.0 → ⊥)
    other m =
        elim (cases_lt m.0 x.0) [
          | inl less ↦ inr (λ e. omega arith)
          | inr more ↦
              elim (cases_lt x.0 m.0) [
                | inl greater ↦ inr (λ e. omega arith)
                | inr no_more ↦ inl (omega arith)
              ]
        ]

    own : (m : MethodId) → m.0 ≡ x.0 → m.0 < length old → number_of (slice_set new x.0 c) m ≡ c
    own m e low =
        let long = n.long in
        same_number (slice_set new x.0 c) x m e ∙ get_or-set_same new x.0 c 0 (omega arith)

pub numbered_step : (methods : List MethodId) (i : ℕ) (d : MethodId) (c : ℕ) (old between new : List ℕ) →
    i < length methods → AreNumbered (take i methods) c old between →
    new ≡ slice_set between (get_or methods i d).0 c → AreNumbered (take (i + 1) methods) c old new
numbered_step methods i d c old between new low so_far e =
    subst (λ (ms : List MethodId). AreNumbered ms c old new) (sym (take_more methods i d low))
    (subst (λ (ns : List ℕ). AreNumbered (take i methods ++ get_or methods i d ∷ []) c old ns) (sym e)
    (numbered_more (take i methods) (get_or methods i d) c old between so_far))

-- ---- places

other_method : (m k : MethodId) → (k ≡ m) ⊎ (k.0 ≡ m.0 → ⊥)
other_method m k =
    elim (cases_lt k.0 m.0) [
      | inl less ↦ inr (λ e. omega arith)
      | inr more ↦
          elim (cases_lt m.0 k.0) [
            | inl greater ↦ inr (λ e. omega arith)
            | inr no_more ↦ inl (one_method m k (omega arith))
          ]
    ]

fewer_new : (places : List ℕ) (i p : ℕ) → i < length places → get_or places i 0 ≡ 0 →
    new_ones (slice_set places i (p + 1)) + 1 ≡ new_ones places
fewer_new [] i p low none = absurd (omega arith)
fewer_new (zero ∷ ps) zero p low none =
    let one : p + 1 ≡ suc p = omega arith in
    let e : new_ones ((p + 1) ∷ ps) ≡ new_ones ps = ap (λ (k : ℕ). new_ones (k ∷ ps)) one in
    omega arith
fewer_new (suc q ∷ ps) zero p low none = absurd (omega arith)
fewer_new (zero ∷ ps) (suc i) p low none = let rest = fewer_new ps i p (omega arith) none in omega arith
fewer_new (suc q ∷ ps) (suc i) p low none = fewer_new ps i p (omega arith) none

less_work : (rows : List (List MethodId)) (places : List ℕ) (i p : ℕ) → i < length rows → i < length places →
    get_or places i 0 ≡ 0 →
    new_work rows (slice_set places i (p + 1)) + 1 + length (get_or rows i []) ≡ new_work rows places
less_work [] places i p low there none = absurd (omega arith)
less_work (row ∷ rows) [] i p low there none = absurd (omega arith)
less_work (row ∷ rows) (zero ∷ ps) zero p low there none =
    let one : p + 1 ≡ suc p = omega arith in
    let e : new_work (row ∷ rows) ((p + 1) ∷ ps) ≡ new_work rows ps =
    ap (λ (k : ℕ). new_work (row ∷ rows) (k ∷ ps)) one in
    omega arith
less_work (row ∷ rows) (suc q ∷ ps) zero p low there none = absurd (omega arith)
less_work (row ∷ rows) (zero ∷ ps) (suc i) p low there none =
    let rest = less_work rows ps i p (omega arith) (omega arith) none in omega arith
less_work (row ∷ rows) (suc q ∷ ps) (suc i) p low there none =
    less_work rows ps i p (omega arith) (omega arith) none

now_placed : (places : List ℕ) (m : MethodId) (p : ℕ) → m.0 < length places → number_of places m ≡ 0 →
    IsPlaced m (p + 1) places (slice_set places m.0 (p + 1))
now_placed places m p low none =
    record {
      long = length-set places m.0 (p + 1);
      given = get_or-set_same places m.0 (p + 1) 0 low;
      others = λ k.
          elim (other_method m k) [
            | inl same ↦ inl same
            | inr apart ↦ inr (get_or-set_other places m.0 k.0 (p + 1) 0 apart)
          ];
      fewer = fewer_new places m.0 p low none;
    }

-- ---- the methods of a graph, one after another

pub methods_more : (methods : List MethodId) (x : MethodId) (n : ℕ) (more : List MethodId) →
    ((m : MethodId) → m.0 < n → From methods 0 m) → x.0 ≡ n → more ≡ methods ++ x ∷ [] →
    (m : MethodId) → m.0 < n + 1 → From more 0 m
methods_more methods x n more so_far is e m low =
    subst (λ (ms : List MethodId). From ms 0 m) (sym e) (
    elim (cases_lt m.0 n) [
      | inl before ↦ from_left methods (x ∷ []) 0 m (so_far m before)
      | inr last ↦
          subst (λ (k : MethodId). From (methods ++ x ∷ []) 0 k) (sym (one_method x m (omega arith)))
          (from_end methods x 0 (omega arith))
    ])

-- ---- how a walk begins

zeros_zero : (n : ℕ) (m : MethodId) → number_of (replicate n 0) m ≡ 0
zeros_zero n m =
    elim (cases_lt m.0 n) [
      | inl low ↦ get_or-replicate n m.0 0 0 low
      | inr high ↦
          get_or_past (replicate n 0) m.0 0
          (let long : length (replicate {A = ℕ} n 0) ≡ n = length-replicate n 0 in omega arith)
    ]

zeros_new : (n : ℕ) → new_ones (replicate n 0) ≡ n
zeros_new zero = refl
zeros_new (suc n) = ap suc (zeros_new n)

nowhere : {X : Type 0} (p : ℕ) (x : X) → At [] p x → ⊥
nowhere p x at = let low = at_within [] p x at in omega arith

begun : (rows : List (List MethodId)) (todo : List MethodId) →
    ((m : MethodId) → m.0 < length rows → From todo 0 m) →
    IsWalked rows (replicate (length rows) 0) (replicate (length rows) 0) [] todo [] 0
begun rows todo all =
    record {
      as_many_places = length-replicate (length rows) 0;
      as_many = length-replicate (length rows) 0;
      known = λ m low. inr (inr (all m low));
      placed = λ p m at. absurd (nowhere p m at);
      open_there = λ p m at. absurd (nowhere p m at);
      on_path = λ m some none. absurd (let e = zeros_zero (length rows) m in omega arith);
      counted = λ m. (let e = zeros_zero (length rows) m in omega arith);
      finished = λ m k some call. absurd (let e = zeros_zero (length rows) m in omega arith);
      together = λ m k some e. absurd (let f = zeros_zero (length rows) m in omega arith);
      in_order = λ p q x y le ax ay. absurd (nowhere p x ax);
      grouped = λ p q x y le ax ay. absurd (nowhere p x ax);
      wanted = λ i g h m at head left. absurd (nowhere i g at);
      closed = λ i g x m at there call. absurd (nowhere i g at);
      within = λ i g at. absurd (nowhere i g at);
      rising = λ i j g h less ag ah. absurd (nowhere i g ag);
      bottom = λ g at. absurd (nowhere 0 g at);
      empty = λ e. refl;
      few = let new = zeros_new (length rows) in omega arith;
    }

pub starts : (rows : List (List MethodId)) (places numbers : List ℕ) (path todo : List MethodId)
    (groups : List Group) → places ≡ replicate (length rows) 0 → numbers ≡ replicate (length rows) 0 → path ≡ [] →
    groups ≡ [] → ((m : MethodId) → m.0 < length rows → From todo 0 m) →
    IsWalked rows places numbers path todo groups 0
starts rows places numbers path todo groups e f g h all =
    subst (λ (ps : List ℕ). IsWalked rows ps numbers path todo groups 0) (sym e)
    (subst (λ (ns : List ℕ). IsWalked rows (replicate (length rows) 0) ns path todo groups 0) (sym f)
    (subst (λ (ms : List MethodId).
    IsWalked rows (replicate (length rows) 0) (replicate (length rows) 0) ms todo groups 0) (sym g)
    (subst (λ (gs : List Group). IsWalked rows (replicate (length rows) 0) (replicate (length rows) 0) [] todo gs 0)
    (sym h) (begun rows todo all))))

-- ---- steps

kept_as : (rows : List (List MethodId)) (p n : List ℕ) (pa t : List MethodId) (g : List Group) (c : ℕ) →
    IsWalked rows p n pa t g c → (v : Walk) → v.places.items ≡ p → v.numbers.items ≡ n → v.path.items ≡ pa →
    v.todo.items ≡ t → v.groups.items ≡ g → v.count ≡ c → IsKept rows v
kept_as rows p n pa t g c w v e1 e2 e3 e4 e5 e6 =
    subst (λ x. IsWalked rows x v.numbers.items v.path.items v.todo.items v.groups.items v.count) (sym e1)
    (subst (λ x. IsWalked rows p x v.path.items v.todo.items v.groups.items v.count) (sym e2)
    (subst (λ x. IsWalked rows p n x v.todo.items v.groups.items v.count) (sym e3)
    (subst (λ x. IsWalked rows p n pa x v.groups.items v.count) (sym e4)
    (subst (λ x. IsWalked rows p n pa t x v.count) (sym e5)
    (subst (λ x. IsWalked rows p n pa t g x) (sym e6) w)))))

module _ (rows : List (List MethodId)) (w v : Walk) (m : MethodId) (kept : IsKept rows w)
    (turn : IsTurn w.todo.items w.groups.items (Some (Look m))) where
  with_next : IsWalked rows w.places.items w.numbers.items w.path.items (turn.0 ++ m ∷ []) w.groups.items w.count
  with_next =
      subst (λ t. IsWalked rows w.places.items w.numbers.items w.path.items t w.groups.items w.count) turn.1 kept

  passed_over : IsDone rows w.numbers.items m ⊎
      (From w.path.items 0 m × ((i : ℕ) (g : Group) → At w.groups.items i g → From w.path.items g.first m)) →
      IsLookedAt w v → IsKept rows v
  passed_over here l =
      kept_as rows w.places.items w.numbers.items w.path.items turn.0 w.groups.items w.count
      (looked_at rows w.places.items w.numbers.items w.path.items turn.0 m w.groups.items w.count with_next turn.2 here)
      v l.same.places l.same.numbers l.same.path (l.todo turn.0 m turn.1) l.groups l.same.count

  pub done_kept : IsDone rows w.numbers.items m → IsLookedAt w v → IsKept rows v
  done_kept done l = passed_over (inl done) l

  -- ---- a method is met

  pub entered_kept : m.0 < length rows → number_of w.numbers.items m ≡ 0 → number_of w.places.items m ≡ 0 →
      IsEntered m (row_of rows m) w v → IsKept rows v
  entered_kept low no_number no_place n =
      kept_as rows v.places.items w.numbers.items (w.path.items ++ m ∷ []) (turn.0 ++ row_of rows m)
      (w.groups.items ++ record { first = length w.path.items; base = length turn.0 } ∷ []) w.count
      (entered rows w.places.items v.places.items w.numbers.items w.path.items turn.0 m w.groups.items w.count with_next
      low no_number no_place turn.2
      (subst (λ (ps : List ℕ). IsPlaced m (length w.path.items + 1) w.places.items ps) (sym n.places)
      (now_placed w.places.items m (length w.path.items) (let long = kept.as_many_places in omega arith) no_place)))
      v refl n.numbers n.path (n.todo turn.0 turn.1) (n.groups turn.0 turn.1) n.count

  pub entered_less : m.0 < length rows → number_of w.places.items m ≡ 0 → IsEntered m (row_of rows m) w v →
      work rows v < work rows w
  entered_less low no_place n =
      let long = kept.as_many_places in
      let done : new_work rows (slice_set w.places.items m.0 (length w.path.items + 1)) + 1 + length (row_of rows m) ≡
      new_work rows w.places.items =
      less_work rows w.places.items m.0 (length w.path.items) low (omega arith) no_place in
      let new : new_work rows v.places.items ≡
      new_work rows (slice_set w.places.items m.0 (length w.path.items + 1)) = ap (new_work rows) n.places in
      let before : length w.todo.items ≡ length turn.0 + 1 =
      ap (λ (ms : List MethodId). length ms) turn.1 ∙ length-more turn.0 m in
      let after : length v.todo.items ≡ length turn.0 + length (row_of rows m) =
      ap (λ (ms : List MethodId). length ms) (n.todo turn.0 turn.1) ∙ length-append turn.0 (row_of rows m) in
      let groups : length v.groups.items ≡ length w.groups.items + 1 =
      ap (λ (gs : List Group). length gs) (n.groups turn.0 turn.1)
      ∙ length-more w.groups.items (record { first = length w.path.items; base = length turn.0 }) in
      omega arith

  -- ---- a method of the path

  pub can_merge : (place : ℕ) → number_of w.places.items m ≡ place → (place ≡ 0 → ⊥) →
      number_of w.numbers.items m ≡ 0 → CanMerge rows (place - 1) turn.0 m w
  can_merge place e some no_number =
      record {
        kept = kept;
        next = turn.1;
        there =
            subst (λ (p : ℕ). At w.path.items (p - 1) m) e
            (kept.on_path m (positive (number_of w.places.items m) (λ z. some (sym e ∙ z))) no_number);
        based = turn.2;
      }
    where
      positive : (n : ℕ) → (n ≡ 0 → ⊥) → 0 < n
      positive zero differs = absurd (differs refl)
      positive (suc n) differs = omega arith

pub joined_kept : (rows : List (List MethodId)) (place : ℕ) (front : List MethodId) (m : MethodId) (w v : Walk)
    (groups : List Group) (g : Group) → CanMerge rows place front m w → w.groups.items ≡ groups ++ g ∷ [] →
    place < g.first → IsJoined w v → CanMerge rows place front m v
joined_kept rows place front m w v groups g can e behind j =
    record {
      kept =
          kept_as rows w.places.items w.numbers.items w.path.items w.todo.items groups w.count
          (merged rows w.places.items w.numbers.items w.path.items w.todo.items groups g w.count
          (subst (λ gs. IsWalked rows w.places.items w.numbers.items w.path.items w.todo.items gs w.count) e can.kept)
          m place can.there behind wants)
          v j.same.places j.same.numbers j.same.path j.todo (j.groups groups g e) j.same.count;
      next = j.todo ∙ can.next;
      there = subst (λ (ms : List MethodId). At ms place m) (sym j.same.path) can.there;
      based = λ i k at.
          can.based i k
          (subst (λ (gs : List Group). At gs i k) (sym e)
          (at_left groups (g ∷ []) i k (subst (λ (gs : List Group). At gs i k) (j.groups groups g e) at)));
    }
  where
    wants : From w.todo.items g.base m
    wants =
        subst (λ (ms : List MethodId). From ms g.base m) (sym can.next)
        (from_end front m g.base
        (can.based (length groups) g (subst (λ (gs : List Group). At gs (length groups) g) (sym e) (at_end groups g))))

pub merged_more : (place : ℕ) (w u v : Walk) (groups : List Group) (g : Group) → IsMerged place w u →
    u.groups.items ≡ groups ++ g ∷ [] → place < g.first → IsJoined u v → IsMerged place w v
merged_more place w u v groups g so_far e behind j =
    record {
      same = record {
        places = j.same.places ∙ so_far.same.places;
        numbers = j.same.numbers ∙ so_far.same.numbers;
        path = j.same.path ∙ so_far.same.path;
        count = j.same.count ∙ so_far.same.count;
      };
      todo = j.todo ∙ so_far.todo;
      fewer =
          let less : length u.groups.items ≤ length w.groups.items = so_far.fewer in
          let before : length u.groups.items ≡ length groups + 1 =
          ap (λ (gs : List Group). length gs) e ∙ length-more groups g in
          let after : length v.groups.items ≡ length groups =
          ap (λ (gs : List Group). length gs) (j.groups groups g e) in
          omega arith;
      merged = λ rows front m can.
          joined_kept rows place front m u v groups g (so_far.merged rows front m can) e behind j;
    }

pub fewer_groups : (u v : Walk) (groups : List Group) (g : Group) → u.groups.items ≡ groups ++ g ∷ [] →
    IsJoined u v → length v.groups.items < length u.groups.items
fewer_groups u v groups g e j =
    let before : length u.groups.items ≡ length groups + 1 =
    ap (λ (gs : List Group). length gs) e ∙ length-more groups g in
    let after : length v.groups.items ≡ length groups = ap (λ (gs : List Group). length gs) (j.groups groups g e) in
    omega arith

-- where the last group begins at a place or before it, all do
pub all_before : (rows : List (List MethodId)) (place : ℕ) (w : Walk) → IsKept rows w →
    ((front : List Group) (g : Group) → w.groups.items ≡ front ++ g ∷ [] → g.first ≤ place) → AreBefore place w
all_before rows place w kept last i k at =
    elim (ends w.groups.items) [
      | inl none ↦ absurd (nowhere i k (subst (λ (gs : List Group). At gs i k) none at))
      | inr (front, g, e) ↦
          let low : g.first ≤ place = last front g e in
          elim (at_more front g i k (subst (λ (gs : List Group). At gs i k) e at)) [
            | inl before ↦
                let less : k.first < g.first =
                (earlier rows w.places.items w.numbers.items w.path.items w.todo.items front g w.count
                (subst (λ gs. IsWalked rows w.places.items w.numbers.items w.path.items w.todo.items gs w.count) e kept)
                i k before).0 in
                omega arith
            | inr is ↦ let same : k.first ≡ g.first = ap (λ (z : Group). z.first) is.1 in omega arith
          ]
    ]
  where
    ends : (gs : List Group) → (gs ≡ []) ⊎ ((front : List Group) × (g : Group) × (gs ≡ front ++ g ∷ []))
    ends [] = inl refl
    ends (k ∷ gs) =
        elim (ends gs) [
          | inl none ↦ inr ([], k, ap (λ (ks : List Group). k ∷ ks) none)
          | inr (front, g, e) ↦ inr (k ∷ front, g, ap (λ (ks : List Group). k ∷ ks) e)
        ]

pub met_kept : (rows : List (List MethodId)) (place : ℕ) (front : List MethodId) (m : MethodId) (w v : Walk) →
    CanMerge rows place front m w → AreBefore place w → IsLookedAt w v → IsKept rows v
met_kept rows place front m w v can before l =
    passed_over rows w v m can.kept (front, can.next, can.based)
    (inr ((place, omega arith, can.there), λ i g at. (place, before i g at, can.there))) l

-- ---- the last group gets a number

pub closed_kept : (rows : List (List MethodId)) (w v : Walk) (g : Group) → IsKept rows w →
    IsTurn w.todo.items w.groups.items (Some (Close g)) → IsClosed g.first w v → IsKept rows v
closed_kept rows w v g kept (groups, e, base) c =
    let grouped : IsWalked rows w.places.items w.numbers.items w.path.items w.todo.items (groups ++ g ∷ []) w.count =
    subst (λ gs. IsWalked rows w.places.items w.numbers.items w.path.items w.todo.items gs w.count) e kept in
    let low = (grouped.within (length groups) g (at_end groups g)).0 in
    let cut : take g.first w.path.items ++ drop g.first w.path.items ≡ w.path.items =
    take-append-drop g.first w.path.items in
    kept_as rows w.places.items v.numbers.items (take g.first w.path.items) w.todo.items groups (w.count + 1)
    (numbered rows w.places.items w.numbers.items v.numbers.items (take g.first w.path.items)
    (drop g.first w.path.items) w.todo.items groups g w.count
    (subst (λ ms. IsWalked rows w.places.items w.numbers.items ms w.todo.items (groups ++ g ∷ []) w.count) (sym cut)
    grouped)
    (length-take-le g.first w.path.items (omega arith)) base c.numbers)
    v c.places refl c.path c.todo (c.groups groups g e) c.count
