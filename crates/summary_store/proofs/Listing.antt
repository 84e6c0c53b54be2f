-- The lists behind the lock after an event.
use Rattle.std.proofs.Common.{◌≡◌, ℕ, zero, suc, ◌+◌, ◌<◌, inl, inr, List, [], ◌∷◌, ◌++◌, length, Bool, true}
use Rattle.std.proofs.Common.{false, cond, Option, Some, None, refl, sym}
use Rattle.std.proofs.Common.{ap, subst, ◌∙◌, arith, drop, append-nil, get_or}
use Rattle.std.specs.Prelude.{slice_get, slice_set}
use Rattle.std.proofs.lemmas.Bool.{cases_eq}
use Rattle.std.proofs.lemmas.Option.{slice_get_within}
use Rattle.racer_base.specs.declared.ids.MethodId.{MethodId}
use Rattle.racer_base.proofs.Lists.{same_given}
use Rattle.row_links.specs.Lists.{list_at, without, moved, spliced, front_taken, moved_if_some, times, node_count}
use Rattle.row_links.specs.Lists.{IsInList}
use Rattle.row_links.proofs.Lists.{spliced-from, spliced-to, spliced-other, length-spliced, count-spliced, each-spliced}
use Rattle.row_links.proofs.Lists.{at_most_once, is_below}
use Rattle.row_links.proofs.Counting.{times-in_lists}
use Rattle.summary_store.specs.declared.machine.Event.TheVariants.{Take, Publish, Leave}
use Rattle.summary_store.specs.declared.machine.Hand.{Hand}
use Rattle.summary_store.specs.declared.machine.Hand.TheVariants.{Free, Holds, Gone}
use Rattle.summary_store.specs.Machine.{Setup, Machine, step, next_of}
use Rattle.summary_store.specs.Machine.{first_of, idle_after, only, parked_on, parked_elsewhere}
use Rattle.summary_store.specs.Machine.{without as without_of}
use Rattle.summary_store.specs.Lists.{numbers, numbered, numbers_held, AreLists, front_held, next_front, next_taken}
use Rattle.summary_store.specs.Lists.{IsRoused, or_else, moved_or}
use Rattle.summary_store.specs.Passes.{is_gone}
use Rattle.summary_store.proofs.Weights.{slice_get-set_same, slice_get-set_other, parked_on-append, eqb_same}
use Rattle.summary_store.proofs.Weights.{eqb_no_to, none_left}
use Rattle.summary_store.proofs.Moved.{IsMoved, is_moved, absent, without-first, first-in, numbers-append}
use Rattle.summary_store.proofs.Moved.{numbers-without, only-none, only-once, without-absent, parked-elsewhere_same}
use Rattle.summary_store.proofs.Moved.{parked-elsewhere_other, flags-same, flags-set, flag-at}

-- the element that is read at a place
read_get : {X : Type 0} (xs : List X) (i : ℕ) (x : X) → i < length xs → x ≡ get_or xs i x → slice_get xs i ≡ Some x
read_get [] i x low is = absurd (omega arith)
read_get (y ∷ ys) zero x low is = ap Some (sym is)
read_get (y ∷ ys) (suc i) x low is = read_get ys i x (omega arith) is

-- the state in which an idle callee is ready, and the one in which a method is parked
abbrev pub roused : ℕ → Machine → Machine
roused c s = record {
  idle = without_of c s.idle;
  ready = s.ready ++ only c s.idle;
  parked = s.parked;
  hands = s.hands;
  done = s.done;
}

abbrev pub aside : ℕ → MethodId → MethodId → Machine → Machine
aside w m c s = record {
  idle = s.idle;
  ready = s.ready;
  parked = s.parked ++ (m, c) ∷ [];
  hands = slice_set s.hands w Free;
  done = s.done;
}

module _ {u : Setup} {s : Machine} {lists : List (List ℕ)} {left : List Bool} (k : AreLists u s lists left)
    (hands : length s.hands ≡ u.workers) where
  low_worker : (w : ℕ) (hand : Hand) → slice_get s.hands w ≡ Some hand → w < u.workers
  low_worker w hand is = let low = slice_get_within s.hands w hand is in omega (arith, hands)

  pub held_list : (w : ℕ) (hand : Hand) → slice_get s.hands w ≡ Some hand → 4 + w < length lists
  held_list w hand is = let low = low_worker w hand is in omega (arith, k.count)

  pub parked_list : (c : ℕ) → c < length u.rows → 4 + u.workers + c < length lists
  parked_list c low = omega (arith, k.count)

  pub held_in_list : (w : ℕ) (m : MethodId) → slice_get s.hands w ≡ Some (Holds m) → IsInList lists m.0 (4 + w)
  held_in_list w m is = first-in lists (4 + w) m.0 [] (k.held w (Holds m) is)

  pub held_node : (w : ℕ) (m : MethodId) → slice_get s.hands w ≡ Some (Holds m) → m.0 < node_count lists
  held_node w m is = is_below lists m.0 (4 + w) k.each (held_in_list w m is)

  -- what the others hold is as it was
  held_after : (w : ℕ) (old new : Hand) (then : List (List ℕ)) → slice_get s.hands w ≡ Some old →
      list_at then (4 + w) ≡ numbers_held new →
      ((v : ℕ) → (v ≡ w → ⊥) → v < u.workers → list_at then (4 + v) ≡ list_at lists (4 + v)) →
      (v : ℕ) (hand : Hand) → slice_get (slice_set s.hands w new) v ≡ Some hand →
      list_at then (4 + v) ≡ numbers_held hand
  held_after w old new then is here others v hand now = elim (cases_eq v w) [
    | inl e ↦ ap (λ n. list_at then (4 + n)) e ∙ here
        ∙ ap numbers_held (same_given new hand (slice_get (slice_set s.hands w new) w)
        (slice_get-set_same s.hands w old new is) (ap (slice_get (slice_set s.hands w new)) (sym e) ∙ now))
    | inr e ↦ let before = sym (slice_get-set_other s.hands w v new (λ q. e (sym q))) ∙ now in
        others v e (low_worker v hand before) ∙ k.held v hand before
  ]

  module _ (w : ℕ) (m : MethodId) (is : slice_get s.hands w ≡ Some Free) where
    took : (from : ℕ) (then : List (List ℕ)) (idle ready : List MethodId) → from < 2 →
        IsMoved lists then m.0 from (4 + w) → list_at then 0 ≡ numbers idle → list_at then 1 ≡ numbers ready →
        AreLists u (record {
          idle = idle;
          ready = ready;
          parked = s.parked;
          hands = slice_set s.hands w (Holds m);
          done = s.done;
        }) then left
    took from then idle ready low v idle'is ready'is = record {
      each = v.each;
      nodes = v.nodes ∙ k.nodes;
      count = v.count ∙ k.count;
      few = (let few = k.few in omega (arith, v.count));
      idle = idle'is;
      ready = ready'is;
      done = v.rest 2 (λ e. omega arith) (λ e. omega arith) ∙ k.done;
      held = held_after w Free (Holds m) then is (v.here ∙ ap (λ l. l ++ m.0 ∷ []) (k.held w Free is))
          (λ n other low_n. v.rest (4 + n) (λ e. omega arith) (λ e. other (omega arith)));
      parked = λ c low_c. (let low_w = low_worker w Free is in
          v.rest (4 + u.workers + c) (λ e. omega arith) (λ e. omega arith) ∙ k.parked c low_c);
      flags = k.flags ∙ flags-same s.hands w Free (Holds m) is refl;
    }

    take_moves : (from : ℕ) (then : List (List ℕ)) (xs : List ℕ) → from < 2 → list_at lists from ≡ m.0 ∷ xs →
        then ≡ moved m.0 (4 + w) lists → IsMoved lists then m.0 from (4 + w)
    take_moves from then xs low at then'is = is_moved lists then m.0 from (4 + w) k.each (first-in lists from m.0 xs at)
        (held_list w Free is) (λ e. omega arith) then'is

    pub taken : (then : List (List ℕ)) → then ≡ next_taken w lists → next_of s ≡ Some m →
        AreLists u (step s (Take w m)) then left
    taken then then'is next = by_ready s.ready refl
      where
        by_idle : (idle : List MethodId) → s.idle ≡ idle → s.ready ≡ [] → AreLists u (step s (Take w m)) then left
        by_idle [] idle'is none = absurd (let e = sym (λ i. first_of (none i) (idle'is i)) ∙ next in cc)
        by_idle (n ∷ ns) idle'is none =
            let both : Some n ≡ Some m = sym (λ i. first_of (none i) (idle'is i)) ∙ next in
            let same : n ≡ m = cc in
            let at = k.idle ∙ ap numbers idle'is ∙ ap (λ (x : MethodId). x.0 ∷ numbers ns) same in
            let v = take_moves 0 then (numbers ns) (omega arith) at (then'is
            ∙ ap (λ o. moved_or o (4 + w) lists (front_taken 0 (4 + w) lists))
            (ap (λ l. slice_get l 0) (k.ready ∙ ap numbers none))
            ∙ ap (λ o. moved_if_some o (4 + w) lists) (ap (λ l. slice_get l 0) at)) in
            took 0 then (idle_after s.ready s.idle) (drop 1 s.ready) (omega arith) v
            (v.left ∙ without-first lists 0 m.0 (numbers ns) k.each at
            ∙ sym (λ i. numbers (idle_after (none i) (idle'is i))))
            (v.rest 1 (λ e. omega arith) (λ e. omega arith) ∙ k.ready ∙ ap numbers none
            ∙ sym (ap (λ (l : List MethodId). numbers (drop 1 l)) none))

        by_ready : (ready : List MethodId) → s.ready ≡ ready → AreLists u (step s (Take w m)) then left
        by_ready [] ready'is = by_idle s.idle refl ready'is
        by_ready (n ∷ ns) ready'is =
            let both : Some n ≡ Some m = sym (ap (λ (l : List MethodId). first_of l s.idle) ready'is) ∙ next in
            let same : n ≡ m = cc in
            let at = k.ready ∙ ap numbers ready'is ∙ ap (λ (x : MethodId). x.0 ∷ numbers ns) same in
            let v = take_moves 1 then (numbers ns) (omega arith) at (then'is
            ∙ ap (λ o. moved_or o (4 + w) lists (front_taken 0 (4 + w) lists)) (ap (λ l. slice_get l 0) at)) in
            took 1 then (idle_after s.ready s.idle) (drop 1 s.ready) (omega arith) v
            (v.rest 0 (λ e. omega arith) (λ e. omega arith) ∙ k.idle
            ∙ ap numbers (sym (ap (λ (l : List MethodId). idle_after l s.idle) ready'is)))
            (v.left ∙ without-first lists 1 m.0 (numbers ns) k.each at
            ∙ ap (λ (l : List MethodId). numbers (drop 1 l)) (sym ready'is))

  pub leaves : (w : ℕ) → slice_get s.hands w ≡ Some Free → next_of s ≡ None → (then : List (List ℕ)) →
      then ≡ next_taken w lists → (flags : List Bool) → flags ≡ slice_set left w true →
      AreLists u (step s (Leave w)) then flags
  leaves w is next then then'is flags flags'are =
      let none = none_left s.ready s.idle next in
      let same : then ≡ lists = then'is ∙ ap (λ o. moved_or o (4 + w) lists (front_taken 0 (4 + w) lists))
      (ap (λ l. slice_get l 0) (k.ready ∙ ap numbers none.0))
      ∙ ap (λ o. moved_if_some o (4 + w) lists) (ap (λ l. slice_get l 0) (k.idle ∙ ap numbers none.1)) in
      subst (λ (ls : List (List ℕ)). AreLists u (step s (Leave w)) ls flags) (sym same) (record {
        each = k.each;
        nodes = k.nodes;
        count = k.count;
        few = k.few;
        idle = k.idle;
        ready = k.ready;
        done = k.done;
        held = held_after w Free Gone lists is (k.held w Free is) (λ v other low. refl);
        parked = k.parked;
        flags = flags'are ∙ ap (λ l. slice_set l w true) k.flags ∙ flags-set s.hands w Gone;
      })

  pub next_is : next_of s ≡ numbered (next_front lists)
  next_is = sym ((λ i. numbered (or_else (slice_get (k.ready i) 0) (slice_get (k.idle i) 0)))
      ∙ of_numbers s.ready s.idle)
    where
      of_numbers : (ready idle : List MethodId) →
          numbered (or_else (slice_get (numbers ready) 0) (slice_get (numbers idle) 0)) ≡ first_of ready idle
      of_numbers (m ∷ ms) idle = refl
      of_numbers [] (m ∷ ms) = refl
      of_numbers [] [] = refl

  pub rouses : (c : MethodId) (then : List (List ℕ)) → IsRoused c.0 lists then →
      AreLists u (roused c.0 s) then left
  rouses c then r = elim (cases_eq r.list 0) [
    | inl e ↦
        let there = subst (λ (l : ℕ). IsInList lists c.0 l) e r.there in
        let v = is_moved lists then c.0 0 1 k.each there (omega (arith, k.count)) (λ q. omega arith) (r.idle e) in
        let all = ap (times c.0) k.idle in let one = at_most_once lists c.0 k.each in
        let in_one = times-in_lists c.0 0 lists in let some : 0 < times c.0 (list_at lists 0) = there in
        record {
          each = v.each;
          nodes = v.nodes ∙ k.nodes;
          count = v.count ∙ k.count;
          few = (let few = k.few in omega (arith, v.count));
          idle = v.left ∙ ap (without c.0) k.idle ∙ numbers-without c.0 s.idle;
          ready = v.here ∙ ap (λ l. l ++ c.0 ∷ []) k.ready
              ∙ ap (λ l. numbers s.ready ++ l) (sym (only-once c.0 s.idle (omega arith) (omega arith)))
              ∙ sym (numbers-append s.ready (only c.0 s.idle));
          done = v.rest 2 (λ q. omega arith) (λ q. omega arith) ∙ k.done;
          held = λ w hand is. v.rest (4 + w) (λ q. omega arith) (λ q. omega arith) ∙ k.held w hand is;
          parked = λ d low. v.rest (4 + u.workers + d) (λ q. omega arith) (λ q. omega arith) ∙ k.parked d low;
          flags = k.flags;
        }
    | inr e ↦
        let none = sym (ap (times c.0) k.idle) ∙ absent lists c.0 r.list 0 k.each r.there (λ q. e (sym q)) in
        subst (λ (ls : List (List ℕ)). AreLists u (roused c.0 s) ls left) (sym (r.others e)) (record {
          each = k.each;
          nodes = k.nodes;
          count = k.count;
          few = k.few;
          idle = k.idle ∙ sym (without-absent c.0 s.idle none);
          ready = k.ready ∙ sym (numbers-append s.ready (only c.0 s.idle)
              ∙ ap (λ l. numbers s.ready ++ l) (only-none c.0 s.idle none) ∙ append-nil (numbers s.ready));
          done = k.done;
          held = k.held;
          parked = k.parked;
          flags = k.flags;
        })
  ]

  pub puts_aside : (w : ℕ) (m c : MethodId) → slice_get s.hands w ≡ Some (Holds m) → c.0 < length u.rows →
      (then : List (List ℕ)) → then ≡ moved m.0 (4 + u.workers + c.0) lists →
      AreLists u (aside w m c s) then left
  puts_aside w m c is low then then'is =
      let low_w = low_worker w (Holds m) is in
      let v = is_moved lists then m.0 (4 + w) (4 + u.workers + c.0) k.each (held_in_list w m is) (parked_list c.0 low)
      (λ e. omega arith) then'is in
      let last : MethodId × MethodId = (m, c) in
      record {
        each = v.each;
        nodes = v.nodes ∙ k.nodes;
        count = v.count ∙ k.count;
        few = (let few = k.few in omega (arith, v.count));
        idle = v.rest 0 (λ e. omega arith) (λ e. omega arith) ∙ k.idle;
        ready = v.rest 1 (λ e. omega arith) (λ e. omega arith) ∙ k.ready;
        done = v.rest 2 (λ e. omega arith) (λ e. omega arith) ∙ k.done;
        held = held_after w (Holds m) Free then is (v.left
            ∙ without-first lists (4 + w) m.0 [] k.each (k.held w (Holds m) is))
            (λ n other low_n. v.rest (4 + n) (λ e. other (omega arith)) (λ e. omega arith));
        parked = λ d low_d. elim (cases_eq d c.0) [
          | inl e ↦ ap (λ n. list_at then (4 + u.workers + n)) e ∙ v.here
              ∙ ap (λ l. l ++ m.0 ∷ []) (k.parked c.0 low)
              ∙ sym (ap (λ n. numbers (parked_on n (s.parked ++ last ∷ []))) e
              ∙ ap numbers (parked_on-append c.0 s.parked (last ∷ []))
              ∙ numbers-append (parked_on c.0 s.parked) (parked_on c.0 (last ∷ []))
              ∙ ap (λ b. numbers (parked_on c.0 s.parked) ++ numbers (cond b (m ∷ []) [])) (eqb_same c.0))
          | inr e ↦ v.rest (4 + u.workers + d) (λ q. omega arith) (λ q. e (omega arith)) ∙ k.parked d low_d
              ∙ sym (ap numbers (parked_on-append d s.parked (last ∷ []))
              ∙ numbers-append (parked_on d s.parked) (parked_on d (last ∷ []))
              ∙ ap (λ b. numbers (parked_on d s.parked) ++ numbers (cond b (m ∷ []) []))
              (eqb_no_to c.0 d (λ q. e (sym q))) ∙ append-nil (numbers (parked_on d s.parked)))
        ];
        flags = k.flags ∙ flags-same s.hands w (Holds m) Free is refl;
      }

  pub wakes : (w : ℕ) (m : MethodId) → slice_get s.hands w ≡ Some (Holds m) → (then : List (List ℕ)) →
      then ≡ spliced (4 + u.workers + m.0) 1 (moved m.0 2 lists) → AreLists u (step s (Publish w m)) then left
  wakes w m is then then'is =
      let low_w = low_worker w (Holds m) is in
      let node : m.0 < length u.rows = (let low = held_node w m is in omega (arith, k.nodes)) in
      let mid = moved m.0 2 lists in
      let p = 4 + u.workers + m.0 in
      let v = is_moved lists mid m.0 (4 + w) 2 k.each (held_in_list w m is) (omega (arith, k.count))
      (λ e. omega arith) refl in
      let not_ready : p ≡ 1 → ⊥ = λ e. omega arith in
      let low_p : p < length mid = omega (arith, v.count, k.count) in
      let low_1 : 1 < length mid = omega (arith, v.count, k.count) in
      subst (λ (ls : List (List ℕ)). AreLists u (step s (Publish w m)) ls left) (sym then'is) (record {
        each = each-spliced p 1 mid v.each not_ready low_p low_1;
        nodes = count-spliced p 1 mid not_ready low_p low_1 ∙ v.nodes ∙ k.nodes;
        count = length-spliced p 1 mid ∙ v.count ∙ k.count;
        few = (let few = k.few in omega (arith, length-spliced p 1 mid, v.count));
        idle = spliced-other p 1 0 mid (λ e. omega arith) (λ e. omega arith)
            ∙ v.rest 0 (λ e. omega arith) (λ e. omega arith) ∙ k.idle;
        ready = spliced-to p 1 mid not_ready low_1
            ∙ (λ i. (v.rest 1 (λ e. omega arith) (λ e. omega arith) ∙ k.ready) i
            ++ (v.rest p (λ e. omega arith) (λ e. omega arith) ∙ k.parked m.0 node) i)
            ∙ sym (numbers-append s.ready (parked_on m.0 s.parked));
        done = spliced-other p 1 2 mid (λ e. omega arith) (λ e. omega arith) ∙ v.here
            ∙ ap (λ l. l ++ m.0 ∷ []) k.done ∙ sym (numbers-append s.done (m ∷ []));
        held = held_after w (Holds m) Free (spliced p 1 mid) is
            (spliced-other p 1 (4 + w) mid (λ e. omega arith) (λ e. omega arith) ∙ v.left
            ∙ without-first lists (4 + w) m.0 [] k.each (k.held w (Holds m) is))
            (λ n other low_n. spliced-other p 1 (4 + n) mid (λ e. omega arith) (λ e. omega arith)
            ∙ v.rest (4 + n) (λ e. other (omega arith)) (λ e. omega arith));
        parked = λ d low_d. elim (cases_eq d m.0) [
          | inl e ↦ ap (λ n. list_at (spliced p 1 mid) (4 + u.workers + n)) e ∙ spliced-from p 1 mid low_p
              ∙ sym (ap (λ n. numbers (parked_on n (parked_elsewhere m.0 s.parked))) e
              ∙ ap numbers (parked-elsewhere_same m.0 s.parked))
          | inr e ↦ spliced-other p 1 (4 + u.workers + d) mid (λ q. e (omega arith)) (λ q. omega arith)
              ∙ v.rest (4 + u.workers + d) (λ q. omega arith) (λ q. omega arith) ∙ k.parked d low_d
              ∙ sym (ap numbers (parked-elsewhere_other m.0 d s.parked e))
        ];
        flags = k.flags ∙ flags-same s.hands w (Holds m) Free is refl;
      })

  -- ---- what a worker has in its hand

  some_hand : (w : ℕ) → w < length s.hands → (hand : Hand) × (slice_get s.hands w ≡ Some hand)
  some_hand w low = found s.hands w low
    where
      found : (hs : List Hand) (w : ℕ) → w < length hs → (hand : Hand) × (slice_get hs w ≡ Some hand)
      found [] w low = absurd (let h : w < 0 = low in omega arith)
      found (h ∷ hs) zero low = (h, refl)
      found (h ∷ hs) (suc w) low = found hs w (let long : length (h ∷ hs) ≡ suc (length hs) = refl in omega arith)

  flag_is : (w : ℕ) (b : Bool) (hand : Hand) → w < length left → b ≡ get_or left w b →
      slice_get s.hands w ≡ Some hand → b ≡ is_gone hand
  flag_is w b hand low is here =
      let both : Some b ≡ Some (is_gone hand) = sym (read_get left w b low is) ∙ ap (λ l. slice_get l w) k.flags
      ∙ flag-at s.hands w hand here in cc

  pub hand_gone : (w : ℕ) (b : Bool) → w < u.workers → w < length left → b ≡ get_or left w b → b ≡ true →
      slice_get s.hands w ≡ Some Gone
  hand_gone w b low low_left is gone =
      let h = some_hand w (omega (arith, hands)) in
      h.1 ∙ ap Some (only_gone h.0 (sym (flag_is w b h.0 low_left is h.1) ∙ gone))
    where
      only_gone : (hand : Hand) → is_gone hand ≡ true → hand ≡ Gone
      only_gone Free e = cc
      only_gone (Holds m) e = cc
      only_gone Gone e = refl

  pub hand_free : (w : ℕ) (b : Bool) → w < u.workers → w < length left → b ≡ get_or left w b → b ≡ false →
      (o : Option MethodId) → o ≡ front_held w lists → o ≡ None → slice_get s.hands w ≡ Some Free
  hand_free w b low low_left is there o o'is none =
      let h = some_hand w (omega (arith, hands)) in
      h.1 ∙ ap Some (only_free h.0 (sym (flag_is w b h.0 low_left is h.1) ∙ there)
      (sym (o'is ∙ ap (λ l. numbered (slice_get l 0)) (k.held w h.0 h.1)) ∙ none))
    where
      only_free : (hand : Hand) → is_gone hand ≡ false → numbered (slice_get (numbers_held hand) 0) ≡ None →
          hand ≡ Free
      only_free Free e f = refl
      only_free (Holds m) e f = cc
      only_free Gone e f = cc

  pub hand_holds : (w : ℕ) (b : Bool) (m : MethodId) → w < u.workers → w < length left → b ≡ get_or left w b →
      b ≡ false → (o : Option MethodId) → o ≡ front_held w lists → o ≡ Some m → slice_get s.hands w ≡ Some (Holds m)
  hand_holds w b m low low_left is there o o'is some =
      let h = some_hand w (omega (arith, hands)) in
      h.1 ∙ ap Some (only_held h.0 (sym (flag_is w b h.0 low_left is h.1) ∙ there)
      (sym (o'is ∙ ap (λ l. numbered (slice_get l 0)) (k.held w h.0 h.1)) ∙ some))
    where
      only_held : (hand : Hand) → is_gone hand ≡ false → numbered (slice_get (numbers_held hand) 0) ≡ Some m →
          hand ≡ Holds m
      only_held Free e f = cc
      only_held (Holds n) e f = let same : n ≡ m = cc in ap Holds same
      only_held Gone e f = cc
