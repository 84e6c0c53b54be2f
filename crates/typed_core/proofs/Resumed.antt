-- Loops in a loop that go on from where they were left end as the stated rounds do, and find the same.
use Rattle.std.proofs.Common.{◌≡◌, ℕ, zero, suc, ◌+◌, ◌-◌, ◌≤◌, ◌<◌, ◌⊎◌, inl, inr, true, false, cond, List, ◌++◌}
use Rattle.std.proofs.Common.{Option, None, Some, length, refl, sym, ap, subst, ◌∙◌, arith}
use Rattle.core_code.specs.Tree.{Tree, Op, Skip, Seq, Choice, Loop, Sync}
use Rattle.core_code.specs.Core.{Core, Method}
use Rattle.core_code.specs.Facts.{height_after}
use Rattle.transfer_loops.specs.Resuming.{loops}
use Rattle.transfer_loops.proofs.Heights.{then_heights, either_heights, loop_heights, held_heights}
use Rattle.typed_core.specs.declared.states.KindState.{KindState}
use Rattle.typed_core.specs.declared.doubts.Doubt.{Doubt}
use Rattle.typed_core.specs.States.{joined_next, popped, same_state}
use Rattle.typed_core.specs.Needs.{lock_doubts, op_doubts}
use Rattle.typed_core.specs.Check.{check, round_next, rounds_of, settled}
use Rattle.typed_core.specs.Resuming.{BelowState, BelowNext, IsMonotone, Heads, kept_head, entered, Resumed, Iterated}
use Rattle.typed_core.specs.Resuming.{iterated, resumed, OnNext, IsSound, IsExact}
use Rattle.typed_core.proofs.Order.{state-itself, state-trans, state-both, state-least, next-both, next-trans}
use Rattle.typed_core.proofs.Order.{next-itself, next-joined, pop-keeps, same_state-equal, same_state-itself}
use Rattle.typed_core.proofs.Ends.{end, after_next, end-after, none-end, check-monotone, round-keeps}
use Rattle.typed_core.proofs.Sizes.{IsSized, Keeps, check-sized, sized_pop, sized_round}
use Rattle.typed_core.proofs.Settling.{IsClosed, sized-above, sized-below, state-above, round-above, round-weight}
use Rattle.typed_core.proofs.Settling.{rounds-above, rounds-least, settled-closed, state_weight, weight-few}
use Rattle.typed_core.proofs.Heads.{kept-other, kept_sound, sound-same}

abbrev DoubtsOf : Type 0
DoubtsOf = List Doubt

-- what is found of code without kinds, whatever the heads, which stay
pub unreached : (core : Core) (m : Method) (code : Tree) (k : ℕ) (h : Heads) → resumed core m code k h None ≡
    record { next = None; heads = h; doubts = (check core m code None).doubts }
unreached core m (Op site place op) k h = refl
unreached core m Skip k h = refl
unreached core m (Seq first rest) k h =
    let first_doubts = (check core m first None).doubts in
    (λ i. (let one = unreached core m first k h i in
    let two = resumed core m rest (k + loops first) one.heads one.next in
    let all : Resumed = record { next = two.next; heads = two.heads; doubts = one.doubts ++ two.doubts } in all))
    ∙ (λ i. (let two = unreached core m rest (k + loops first) h i in
    let all : Resumed = record { next = two.next; heads = two.heads; doubts = first_doubts ++ two.doubts } in all))
    ∙ (λ i. (let all : Resumed = record {
      next = None;
      heads = h;
      doubts = first_doubts ++ (check core m rest (sym (none-end core m first) i)).doubts;
    } in all))
unreached core m (Choice left right) k h =
    let left_doubts = (check core m left None).doubts in
    (λ i. (let one = unreached core m left k h i in
    let two = resumed core m right (k + loops left) one.heads None in
    let all : Resumed =
    record { next = joined_next one.next two.next; heads = two.heads; doubts = one.doubts ++ two.doubts } in all))
    ∙ (λ i. (let two = unreached core m right (k + loops left) h i in
    let all : Resumed = record { next = two.next; heads = two.heads; doubts = left_doubts ++ two.doubts } in all))
unreached core m (Loop body) k h = unreached core m body (suc k) h
unreached core m (Sync lock body) k h =
    (λ i. (let one = unreached core m body k h i in
    let all : Resumed =
    record { next = one.next; heads = one.heads; doubts = lock_doubts lock.place None ++ one.doubts } in all))

-- ---- climbing
-- What is said of what is found of code that begins in s, where these kinds are not above those with which it begins in
-- the end; where they are these, it finds the same places
pub record Resumes (core : Core) (m : Method) (code : Tree) (k : ℕ) (h : Heads) (s top : KindState)
    (r : Resumed) : Type 0 where
  pub low : BelowNext (end core m code s) r.next
  pub high : BelowNext r.next (end core m code top)
  pub sound : IsSound core m code k r.heads top
  pub others : (i : ℕ) → (i < k) ⊎ (k + loops code ≤ i) → r.heads i ≡ h i
  pub doubts : s ≡ top → r.doubts ≡ (check core m code (Some top)).doubts

-- what rounds of a loop give whose body does this
record Iterates (core : Core) (m : Method) (body : Tree) (k : ℕ) (h : Heads) (s top : KindState)
    (all : Iterated) : Type 0 where
  closed : IsClosed (end core m body) all.last
  low : BelowState s all.last
  high : BelowState all.last top
  sound : IsSound core m body k all.heads top
  others : (i : ℕ) → (i < k) ⊎ (k + loops body ≤ i) → all.heads i ≡ h i
  doubts : settled (end core m body) s ≡ top → all.doubts ≡ (check core m body (Some top)).doubts

closed-end : (f : KindState → Option KindState) (v h : ℕ) → Keeps f v h → (x : KindState) (o : Option KindState) →
    IsSized v h x → BelowNext (f x) o → round_next x o ≡ x → IsClosed f x
closed-end f v h keep x o p low same = let above : BelowState x (round_next x (f x)) =
    round-above v h x (f x) p (λ t e. keep x t p e) in
    let below : BelowState (round_next x (f x)) x =
    subst (BelowState (round_next x (f x))) same (round-keeps x x (f x) o (state-itself x) low) in
    state-both (round_next x (f x)) x below above

next-sized : (v h : ℕ) (a b : Option KindState) → BelowNext a b → ((t : KindState) → a ≡ Some t → IsSized v h t) →
    (t : KindState) → b ≡ Some t → IsSized v h t
next-sized v h None None b keep t e = cc
next-sized v h None (Some y) b keep t e = absurd b
next-sized v h (Some x) None b keep t e = absurd b
next-sized v h (Some x) (Some y) b keep t e = let same : y ≡ t = cc in
    subst (IsSized v h) same (sized-above v h x y (keep x refl) b)

abbrev go_of : Core → Method → Tree → ℕ → Heads → KindState → Resumed
go_of core m body k j x = resumed core m body k j (Some x)

-- the two ends of a round
abbrev last_round : KindState → Resumed → Iterated
last_round x r = record { last = x; changed = false; heads = r.heads; doubts = r.doubts }

abbrev further_round : Iterated → Iterated
further_round all = record all { changed = true }

iterates : (core : Core) (m : Method) (body : Tree) (k : ℕ) (v n : ℕ) (s top : KindState) →
    height_after body n ≡ Some n → IsClosed (end core m body) top →
    ((h : Heads) (x : KindState) → IsSized v n x → BelowState x top → IsSound core m body k h top →
    Resumes core m body k h x top (go_of core m body k h x)) →
    (count : ℕ) (h : Heads) (x : KindState) → IsSized v n x → state_weight x < count → BelowState s x →
    BelowState x top → IsSound core m body k h top →
    Iterates core m body k h s top (iterated (go_of core m body k) count h x)
iterates core m body k v n s top even done go zero h x p few low high sound = absurd (omega arith)
iterates core m body k v n s top even done go (suc count) h x p few low high sound =
    let f : KindState → Option KindState = end core m body in
    let up : IsMonotone f = check-monotone core m body in
    let keep : Keeps f v n = λ a b q e. check-sized core m body v n n a b even q e in
    let r = go_of core m body k h x in let one : Resumes core m body k h x top r = go h x p high sound in
    let next = round_next x r.next in
    let sizes : (t : KindState) → r.next ≡ Some t → IsSized v n t =
    next-sized v n (f x) r.next one.low (λ t e. keep x t p e) in
    elim (same_state next x) as (λ b. same_state next x ≡ b →
    Iterates core m body k h s top (cond {A = Iterated} b (last_round x r)
    (further_round (iterated (go_of core m body k) count r.heads next)))) [
      | true ↦ λ e. let shut : IsClosed f x = closed-end f v n keep x r.next p one.low (same_state-equal next x e) in
          record {
            closed = shut;
            low = low;
            high = high;
            sound = one.sound;
            others = one.others;
            doubts = λ is. one.doubts (state-both x top high
                (subst (λ (y : KindState). BelowState y x) is (rounds-least f up (rounds_of s) s x low shut)));
          }
      | false ↦ λ e. let above : BelowState x next = round-above v n x r.next p sizes in
          let under : BelowState next top = subst (BelowState next) done
          (round-keeps x top r.next (f top) high one.high) in
          let rest = iterates core m body k v n s top even done go count r.heads next
          (sized_round v n x r.next p sizes) (fewer next e (round-weight v n x r.next p sizes))
          (state-trans s x next low above) under one.sound in record {
            closed = rest.closed;
            low = rest.low;
            high = rest.high;
            sound = rest.sound;
            others = λ i away. rest.others i away ∙ one.others i away;
            doubts = rest.doubts;
          }
    ] refl
  where
    fewer : (next : KindState) → same_state next x ≡ false → (next ≡ x) ⊎ (state_weight next + 1 ≤ state_weight x) →
        state_weight next < count
    fewer next e (inl same) = absurd (let yes : same_state next x ≡ true =
        ap (same_state next) (sym same) ∙ same_state-itself next in cc)
    fewer next e (inr less) = omega arith

entered-low : (v n : ℕ) (o : Option KindState) (s top : KindState) → IsSized v n s → BelowState s top →
    OnNext o (λ x. BelowState x top) → BelowState s (entered o s)
entered-low v n None s top p b q = state-itself s
entered-low v n (Some x) s top p b q = state-above v n s x p (sized-below v n x top (sized-above v n s top p b) q)

entered-high : (v n : ℕ) (o : Option KindState) (s top : KindState) → IsSized v n s → BelowState s top →
    OnNext o (λ x. BelowState x top) → BelowState (entered o s) top
entered-high v n None s top p b q = b
entered-high v n (Some x) s top p b q = state-least s x top b q

entered-sized : (v n : ℕ) (o : Option KindState) (s top : KindState) → IsSized v n s → BelowState s top →
    OnNext o (λ x. BelowState x top) → IsSized v n (entered o s)
entered-sized v n o s top p b q = sized-above v n s (entered o s) p (entered-low v n o s top p b q)

-- ---- one part and then another
abbrev two_of : Core → Method → Tree → ℕ → Heads → Option KindState → Resumed
two_of core m rest k j o = resumed core m rest k j o

record ThenClimbs (core : Core) (m : Method) (first rest : Tree) (k : ℕ) (h : Heads) (s top : KindState)
    (r : Resumed) : Type 0 where
  low : BelowNext (after_next (end core m first s) (end core m rest)) r.next
  high : BelowNext r.next (after_next (end core m first top) (end core m rest))
  sound : IsSound core m (Seq first rest) k r.heads top
  others : (i : ℕ) → (i < k) ⊎ (k + (loops first + loops rest) ≤ i) → r.heads i ≡ h i
  doubts : s ≡ top → r.doubts ≡ (check core m rest (end core m first top)).doubts

nearer : (k a b i : ℕ) → (i < k) ⊎ (k + (a + b) ≤ i) → (i < k) ⊎ (k + a ≤ i)
nearer k a b i (inl e) = inl e
nearer k a b i (inr e) = inr (omega arith)

further : (k a b i : ℕ) → (i < k) ⊎ (k + (a + b) ≤ i) → (i < k + a) ⊎ (k + a + b ≤ i)
further k a b i (inl e) = inl (omega arith)
further k a b i (inr e) = inr (omega arith)

-- the ends of the first part agree whether there is one
then_climbs : (core : Core) (m : Method) (first rest : Tree) (k v n : ℕ) (h : Heads) (s top : KindState)
    (o : Option KindState) (j : Heads) (a d : Option KindState) → end core m first s ≡ a →
    end core m first top ≡ d → BelowNext a o → BelowNext o d →
    ((t : KindState) → end core m first s ≡ Some t → IsSized v n t) →
    IsSound core m first k j top → ((i : ℕ) → (i < k) ⊎ (k + loops first ≤ i) → j i ≡ h i) →
    ((j : Heads) (t u : KindState) → IsSized v n t → BelowState t u → IsSound core m rest (k + loops first) j u →
    Resumes core m rest (k + loops first) j t u (resumed core m rest (k + loops first) j (Some t))) →
    OnNext d (λ u. IsSound core m rest (k + loops first) h u) →
    ThenClimbs core m first rest k h s top (two_of core m rest (k + loops first) j o)
then_climbs core m first rest k v n h s top None j None None is_a is_d low high sizes sound others go later =
    let no = unreached core m rest (k + loops first) j in record {
      low = subst (λ (x : Option KindState). BelowNext (after_next x (end core m rest))
          (two_of core m rest (k + loops first) j None).next) (sym is_a)
          (subst (BelowNext None) (sym (ap (λ (r : Resumed). r.next) no)) tt);
      high = subst (λ (x : Option KindState). BelowNext (two_of core m rest (k + loops first) j None).next
          (after_next x (end core m rest))) (sym is_d)
          (subst (λ (x : Option KindState). BelowNext x None) (sym (ap (λ (r : Resumed). r.next) no)) tt);
      sound = subst (λ (r : Resumed). IsSound core m (Seq first rest) k r.heads top) (sym no) (
        sound,
        subst (λ (x : Option KindState). OnNext x (λ t. IsSound core m rest (k + loops first) j t)) (sym is_d) tt,
      );
      others = λ i away. ap (λ (r : Resumed). r.heads i) no ∙ others i (nearer k (loops first) (loops rest) i away);
      doubts = λ same. ap (λ (r : Resumed). r.doubts) no
          ∙ ap (λ (x : Option KindState). (check core m rest x).doubts) (sym is_d);
    }
then_climbs core m first rest k v n h s top None j None (Some u) is_a is_d low high sizes sound others go later =
    absurd high
then_climbs core m first rest k v n h s top None j (Some w) d is_a is_d low high sizes sound others go later =
    absurd low
then_climbs core m first rest k v n h s top (Some t) j None d is_a is_d low high sizes sound others go later =
    absurd low
then_climbs core m first rest k v n h s top (Some t) j (Some w) None is_a is_d low high sizes sound others go later =
    absurd high
then_climbs core m first rest k v n h s top (Some t) j (Some w) (Some u) is_a is_d low high sizes sound others go later =
    let f : KindState → Option KindState = end core m rest in
    let q = resumed core m rest (k + loops first) j (Some t) in
    let size : IsSized v n t = sized-above v n w t (sizes w is_a) low in
    let before : IsSound core m rest (k + loops first) j u =
    sound-same core m rest (k + loops first) h j u (λ i a b. sym (others i (inr a))) later in
    let two = go j t u size high before in record {
      low = subst (λ (x : Option KindState). BelowNext (after_next x f) q.next) (sym is_a)
          (next-trans (f w) (f t) q.next (check-monotone core m rest w t low) two.low);
      high = subst (λ (x : Option KindState). BelowNext q.next (after_next x f)) (sym is_d) two.high;
      sound = (
        sound-same core m first k j q.heads top (λ i a b. sym (two.others i (inl b))) sound,
        subst (λ (x : Option KindState). OnNext x (λ t. IsSound core m rest (k + loops first) q.heads t))
            (sym is_d) two.sound,
      );
      others = λ i away. two.others i (further k (loops first) (loops rest) i away)
          ∙ others i (nearer k (loops first) (loops rest) i away);
      doubts = λ same.
          let ends : Some w ≡ Some u = sym is_a ∙ ap (end core m first) same ∙ is_d in
          let one_end : w ≡ u = cc in
          two.doubts (state-both t u high (subst (λ (x : KindState). BelowState x t) one_end low))
          ∙ ap (λ (x : Option KindState). (check core m rest x).doubts) (sym is_d);
    }

pub resumes : (core : Core) (m : Method) (code : Tree) (k v n e : ℕ) (h : Heads) (s top : KindState) →
    height_after code n ≡ Some e → IsSized v n s → BelowState s top → IsSound core m code k h top →
    Resumes core m code k h s top (resumed core m code k h (Some s))
resumes core m (Op site place op) k v n e h s top even p below sound =
    record {
      low = next-itself _;
      high = check-monotone core m (Op site place op) s top below;
      sound = tt;
      others = λ i away. refl;
      doubts = λ same. ap (λ (x : KindState). op_doubts core m place op (Some x)) same;
    }
resumes core m Skip k v n e h s top even p below sound =
    record { low = state-itself s; high = below; sound = tt; others = λ i away. refl; doubts = λ same. refl }
resumes core m (Seq first rest) k v n e h s top even p below sound =
    let at = then_heights first rest n e even in
    let one = resumes core m first k v n at.0 h s top at.1 p below sound.0 in
    let r = resumed core m first k h (Some s) in
    let all = then_climbs core m first rest k v at.0 h s top r.next r.heads (end core m first s)
    (end core m first top) refl refl one.low one.high
    (λ t f. check-sized core m first v n at.0 s t at.1 p f) one.sound one.others
    (λ j t u q c d. resumes core m rest (k + loops first) v at.0 e j t u at.2 q c d) sound.1 in record {
      low = subst (λ (o : Option KindState). BelowNext o (resumed core m (Seq first rest) k h (Some s)).next)
          (sym (end-after core m rest (end core m first s))) all.low;
      high = subst (BelowNext (resumed core m (Seq first rest) k h (Some s)).next)
          (sym (end-after core m rest (end core m first top))) all.high;
      sound = all.sound;
      others = all.others;
      doubts = λ same. (λ i. one.doubts same i ++ all.doubts same i);
    }
resumes core m (Choice left right) k v n e h s top even p below sound =
    let at = either_heights left right n e even in
    let one = resumes core m left k v n e h s top at.0 p below sound.0 in
    let r = resumed core m left k h (Some s) in
    let before : IsSound core m right (k + loops left) r.heads top =
    sound-same core m right (k + loops left) h r.heads top (λ i low high. sym (one.others i (inr low))) sound.1 in
    let two = resumes core m right (k + loops left) v n e r.heads s top at.1 p below before in
    let q = resumed core m right (k + loops left) r.heads (Some s) in record {
      low = next-joined (end core m left s) (end core m right s) r.next q.next one.low two.low;
      high = next-joined r.next q.next (end core m left top) (end core m right top) one.high two.high;
      sound = (
        sound-same core m left k r.heads q.heads top (λ i low high. sym (two.others i (inl high))) one.sound,
        two.sound,
      );
      others = λ i away. two.others i (further k (loops left) (loops right) i away)
          ∙ one.others i (nearer k (loops left) (loops right) i away);
      doubts = λ same. (λ i. one.doubts same i ++ two.doubts same i);
    }
resumes core m (Loop body) k v n e h s top even p below sound =
    let at = loop_heights body n e even in
    let f : KindState → Option KindState = end core m body in
    let up : IsMonotone f = check-monotone core m body in
    let keep : Keeps f v n = λ a b q i. check-sized core m body v n n a b at.1 q i in
    let sized_top : IsSized v n top = sized-above v n s top p below in
    let last = settled f top in
    let done : IsClosed f last = settled-closed f v n keep top sized_top in
    let under : BelowState s last = state-trans s top last below (rounds-above f v n keep (rounds_of top) top sized_top) in
    let met = entered (h k) s in
    let sized_met : IsSized v n met = entered-sized v n (h k) s last p under sound.0 in
    let all = iterated (go_of core m body (suc k)) (rounds_of met) h met in
    let runs : Iterates core m body (suc k) h s last all =
    iterates core m body (suc k) v n s last at.1 done
    (λ j x q b t. resumes core m body (suc k) v n n j x last at.1 q b t) (rounds_of met) h met sized_met (weight-few met)
    (entered-low v n (h k) s last p under sound.0) (entered-high v n (h k) s last p under sound.0) sound.1 in record {
      low = rounds-least f up (rounds_of s) s all.last runs.low runs.closed;
      high = runs.high;
      sound = (
        kept_sound all.changed h all.heads k all.last last (runs.others k (inl (omega arith))) sound.0 runs.high,
        sound-same core m body (suc k) all.heads (kept_head all.changed all.heads k all.last) last
            (λ i low high. sym (kept-other all.changed all.heads k all.last i (λ same. omega arith))) runs.sound,
      );
      others = λ i away.
          kept-other all.changed all.heads k all.last i (apart i away) ∙ runs.others i (beyond i away);
      doubts = λ same. runs.doubts (ap (settled f) same);
    }
  where
    apart : (i : ℕ) → (i < k) ⊎ (k + suc (loops body) ≤ i) → i ≡ k → ⊥
    apart i (inl e) same = absurd (omega arith)
    apart i (inr e) same = absurd (omega arith)

    beyond : (i : ℕ) → (i < k) ⊎ (k + suc (loops body) ≤ i) → (i < suc k) ⊎ (suc k + loops body ≤ i)
    beyond i (inl e) = inl (omega arith)
    beyond i (inr e) = inr (omega arith)
resumes core m (Sync lock body) k v n e h s top even p below sound =
    let one = resumes core m body k v (n - 1) e h (popped s 1) (popped top 1) (held_heights lock body n e even)
    (sized_pop v n (n - 1) 1 s (popped s 1) p refl refl) (pop-keeps s top 1 below) sound in
    record {
      low = one.low;
      high = one.high;
      sound = one.sound;
      others = one.others;
      doubts = λ same. (λ i. lock_doubts lock.place (Some (same i))
          ++ one.doubts (ap (λ (x : KindState). popped x 1) same) i);
    }

-- from heads that are sound for these kinds the end is exact
pub resumed-exact : (core : Core) (m : Method) (code : Tree) (k e : ℕ) (h : Heads) (s : KindState) →
    height_after code (length s.stack) ≡ Some e → IsSound core m code k h s →
    IsExact (check core m code (Some s)) (resumed core m code k h (Some s))
    × IsSound core m code k (resumed core m code k h (Some s)).heads s
resumed-exact core m code k e h s even sound =
    let all = resumes core m code k (length s.vars) (length s.stack) e h s s even
    (record { vars = refl; stack = refl }) (state-itself s) sound in (
      record {
        next = next-both (resumed core m code k h (Some s)).next (end core m code s) all.high all.low;
        doubts = all.doubts refl;
      },
      all.sound,
    )
