-- From what is gone up to a piece of code to what is gone up to its parts.
use Rattle.std.proofs.Common.{◌≡◌, ℕ, suc, Bool, true, false, cond, ◌&&◌, ◌||◌, not, List, [], ◌∷◌, ◌++◌}
use Rattle.std.proofs.Common.{Option, None, Some, is_some, nat_eq, length, refl, sym, ap, subst, ◌∙◌}
use Rattle.std.proofs.lemmas.Bool.{eq-eqb, and_parts, or_left, or_right}
use Rattle.std.specs.BTreeSet.{BTreeSet, UpdatesBy, btree_set_len, contains}
use Rattle.std.specs.Cmp.{unsigned_ties}
use Rattle.std.specs.List.{list_any}
use Rattle.std.specs.Option.{option_or}
use Rattle.std.specs.Ordering.{nat_cmp}
use Rattle.racer_base.specs.declared.ids.Place.{Place}
use Rattle.racer_base.specs.declared.ids.SiteId.{SiteId}
use Rattle.core_code.specs.declared.code.Op.{Op as CoreOp}
use Rattle.core_code.specs.Core.{Core}
use Rattle.core_code.specs.Tree.{LockAt, Tree, Op, Seq, Choice, Loop, Sync, Operation}
use Rattle.core_semantics.specs.declared.answer.Turn.{Turn}
use Rattle.core_semantics.specs.declared.answer.Turn.TheVariants.{Left, Right}
use Rattle.core_ways.specs.declared.count.Count.{Count}
use Rattle.core_ways.specs.declared.part.WayPart.{WayPart}
use Rattle.core_ways.specs.declared.part.WayPart.TheVariants.{Branched}
use Rattle.core_ways.specs.Paths.{op_there}
use Rattle.core_ways.specs.Ways.{Trip, has_site, joined, passed, reached, straight, trip_along, trip_of}
use Rattle.core_ways.proofs.Alone.{along-both}
use Rattle.core_ways.proofs.SitePaths.{first-there, has-there, op-found, second-there, there-both}
use Rattle.core_ways_sites.specs.Gone.{LeadsOn, one_turn}
use Rattle.core_ways_sites.specs.Sites.{AreLed, AreLeft, IsReached}
use Rattle.core_ways_sites.proofs.LeadsOn.{arrives, starts-empty}

-- from what is gone, this is gone more
abbrev pub Onward : Count → List Turn → Count → List Turn → Trip → Type 0
Onward count turns now more here =
    (rest whole : Trip) → LeadsOn count turns (joined here rest) whole → LeadsOn now more rest whole

-- ---- which sites code has

either-some : (p q : Option CoreOp) → is_some (option_or p q) ≡ (is_some p || is_some q)
either-some None q = refl
either-some (Some x) q = refl

has-both : (a b : Tree) (s : SiteId) → has_site (Seq a b) s ≡ (has_site a s || has_site b s)
has-both a b s =
    has-there (Seq a b) s
    ∙ ap is_some (there-both a b s)
    ∙ either-some (op_there a s) (op_there b s)
    ∙ (λ i. sym (has-there a s) i || sym (has-there b s) i)

and-not : (a b : Bool) → (a && not b) ≡ true → b ≡ false
and-not true true e = absurd cc
and-not true false e = refl
and-not false b e = absurd cc

neither : (x a b : Bool) → ((x && not a) && not b) ≡ (x && not (a || b))
neither true true b = refl
neither true false b = refl
neither false a b = refl

same-there : (a b : Tree) (s : SiteId) → has_site a s ≡ true → op_there a s ≡ op_there (Seq a b) s
same-there a b s has = first-there a b s (op_there a s) refl (sym (has-there a s) ∙ has)

rest-there : (a b : Tree) (s : SiteId) → has_site a s ≡ false → op_there b s ≡ op_there (Seq a b) s
rest-there a b s none = second-there a b s (op_there a s) refl (sym (has-there a s) ∙ none)

-- ---- which sites are left

pub left-step : (a b : Tree) (s : SiteId) (old mid : BTreeSet ℕ) → AreLeft a old mid →
    (contains nat_cmp mid s.0 && not (has_site b s)) ≡ (contains nat_cmp old s.0 && not (has_site (Seq a b) s))
left-step a b s old mid first =
    ap (λ (x : Bool). x && not (has_site b s)) (first s)
    ∙ neither (contains nat_cmp old s.0) (has_site a s) (has_site b s)
    ∙ ap (λ (x : Bool). contains nat_cmp old s.0 && not x) (sym (has-both a b s))

pub left-both : (a b : Tree) (old mid new : BTreeSet ℕ) → AreLeft a old mid → AreLeft b mid new →
    AreLeft (Seq a b) old new
left-both a b old mid new first second = λ s. second s ∙ left-step a b s old mid first

op-has : (at : SiteId) (place : Place) (op : CoreOp) (s : SiteId) →
    has_site (Op at place op) s ≡ nat_eq at.0 s.0
op-has at place op s =
    let one : Operation = record { site = at; place = place; op = op } in
    elim (nat_eq at.0 s.0) as (λ b. is_some (cond {A = Option Operation} b (Some one) None) ≡ b) [
      | true ↦ refl
      | false ↦ refl
    ]

taken-out : (x b : Bool) → cond b false x ≡ (x && not b)
taken-out true true = refl
taken-out false true = refl
taken-out true false = refl
taken-out false false = refl

pub left-op : (at : SiteId) (place : Place) (op : CoreOp) (old new : BTreeSet ℕ) →
    UpdatesBy nat_cmp (nat_cmp at.0) old new false → AreLeft (Op at place op) old new
left-op at place op old new updates = λ s.
    updates.0 s.0
    ∙ ap (λ (b : Bool). cond b false (contains nat_cmp old s.0)) (sym (unsigned_ties at.0 s.0))
    ∙ taken-out (contains nat_cmp old s.0) (nat_eq at.0 s.0)
    ∙ ap (λ (b : Bool). contains nat_cmp old s.0 && not b) (sym (op-has at place op s))

none-among : (test : ℕ → Bool) (keys : List ℕ) → length keys ≡ 0 → list_any test keys ≡ false
none-among test [] none = refl
none-among test (k ∷ keys) none = absurd cc

pub none-wanted : (wanted : BTreeSet ℕ) (k : ℕ) → btree_set_len wanted ≡ 0 → contains nat_cmp wanted k ≡ false
none-wanted wanted k none = none-among _ wanted.keys none

-- ---- what is led

module _ (core : Core) (whole : Tree) where
  pub op-led : (locks : ℕ) (at : SiteId) (place : Place) (op : CoreOp) (wanted : BTreeSet ℕ) (count : Count)
      (turns : List Turn) → AreLed core whole locks (Op at place op) wanted count turns →
      contains nat_cmp wanted at.0 ≡ true → IsReached core whole at count turns op
  op-led locks at place op wanted count turns led still =
      let here : nat_eq at.0 at.0 ≡ true = eq-eqb at.0 at.0 refl in
      let one = led at still (op-has at place op at ∙ here) in
      record {
        gone = arrives count turns (trip_along (trip_of core) (reached 0 at whole)) one.way;
        there = op-found at place op at here ∙ sym one.there;
      }

  pub led-whole : (wanted : BTreeSet ℕ) (turns : List Turn) → turns ≡ [] →
      AreLed core whole 0 whole wanted (record { steps = 0; unread = None }) turns
  led-whole wanted turns none = λ s still has.
      record {
        way = starts-empty (trip_along (trip_of core) (reached 0 s whole)) turns none;
        there = refl;
      }

  pub led-again : (locks : ℕ) (body : Tree) (wanted : BTreeSet ℕ) (count now : Count) (turns more : List Turn) →
      AreLed core whole locks (Loop body) wanted count turns → Onward count turns now more (one_turn Left) →
      AreLed core whole locks body wanted now more
  led-again locks body wanted count now turns more led onward = λ s still has.
      let one = led s still has in
      record {
        way = onward (trip_along (trip_of core) (reached locks s body)) (trip_along (trip_of core) (reached 0 s whole))
            one.way;
        there = one.there;
      }

  pub led-held : (locks within : ℕ) (lock : LockAt) (body : Tree) (wanted : BTreeSet ℕ) (count now : Count)
      (turns : List Turn) → within ≡ suc locks → AreLed core whole locks (Sync lock body) wanted count turns →
      Onward count turns now turns (straight 1) → AreLed core whole within body wanted now turns
  led-held locks within lock body wanted count now turns deeper led onward = λ s still has.
      let one = led s still has in
      record {
        way =
            subst (λ (k : ℕ). LeadsOn now turns (trip_along (trip_of core) (reached k s body))
            (trip_along (trip_of core) (reached 0 s whole))) (sym deeper)
            (onward (trip_along (trip_of core) (reached (suc locks) s body))
            (trip_along (trip_of core) (reached 0 s whole)) one.way);
        there = one.there;
      }

  -- towards the left side, where a site stands there
  towards-left : (locks : ℕ) (left right : Tree) (s : SiteId) → has_site left s ≡ true →
      reached locks s (Choice left right) ≡ Branched Left ∷ reached locks s left
  towards-left locks left right s has =
      ap (λ (b : Bool). cond b (Branched Left ∷ reached locks s left) (Branched Right ∷ reached locks s right)) has

  towards-right : (locks : ℕ) (left right : Tree) (s : SiteId) → has_site left s ≡ false →
      reached locks s (Choice left right) ≡ Branched Right ∷ reached locks s right
  towards-right locks left right s none =
      ap (λ (b : Bool). cond b (Branched Left ∷ reached locks s left) (Branched Right ∷ reached locks s right)) none

  pub led-left : (locks : ℕ) (left right : Tree) (wanted : BTreeSet ℕ) (count now : Count) (turns more : List Turn) →
      AreLed core whole locks (Choice left right) wanted count turns →
      Onward count turns now more (one_turn Left) → AreLed core whole locks left wanted now more
  led-left locks left right wanted count now turns more led onward = λ s still has.
      let one = led s still (has-both left right s ∙ or_left (has_site left s) (has_site right s) has) in
      let to : Trip = trip_along (trip_of core) (reached 0 s whole) in
      record {
        way =
            onward (trip_along (trip_of core) (reached locks s left)) to
            (subst (λ (ps : List WayPart). LeadsOn count turns (trip_along (trip_of core) ps) to)
            (towards-left locks left right s has) one.way);
        there = one.there ∙ sym (same-there left right s has);
      }

  pub led-right : (locks : ℕ) (left right : Tree) (wanted mid : BTreeSet ℕ) (count now : Count)
      (turns more : List Turn) → AreLed core whole locks (Choice left right) wanted count turns →
      AreLeft left wanted mid → Onward count turns now more (one_turn Right) →
      AreLed core whole locks right mid now more
  led-right locks left right wanted mid count now turns more led out onward = λ s still has.
      let both = sym (out s) ∙ still in
      let none = and-not (contains nat_cmp wanted s.0) (has_site left s) both in
      let one = led s (and_parts (contains nat_cmp wanted s.0) (not (has_site left s)) both).0
      (has-both left right s ∙ or_right (has_site left s) (has_site right s) has) in
      let to : Trip = trip_along (trip_of core) (reached 0 s whole) in
      record {
        way =
            onward (trip_along (trip_of core) (reached locks s right)) to
            (subst (λ (ps : List WayPart). LeadsOn count turns (trip_along (trip_of core) ps) to)
            (towards-right locks left right s none) one.way);
        there = one.there ∙ sym (rest-there left right s none);
      }

  into-first : (locks : ℕ) (first rest : Tree) (s : SiteId) → has_site first s ≡ true →
      reached locks s (Seq first rest) ≡ reached locks s first
  into-first locks first rest s has =
      ap (λ (b : Bool). cond b (reached locks s first) (passed locks first ++ reached locks s rest)) has

  past-first : (locks : ℕ) (first rest : Tree) (s : SiteId) → has_site first s ≡ false →
      reached locks s (Seq first rest) ≡ passed locks first ++ reached locks s rest
  past-first locks first rest s none =
      ap (λ (b : Bool). cond b (reached locks s first) (passed locks first ++ reached locks s rest)) none

  pub led-first : (locks : ℕ) (first rest : Tree) (wanted : BTreeSet ℕ) (count : Count) (turns : List Turn) →
      AreLed core whole locks (Seq first rest) wanted count turns → AreLed core whole locks first wanted count turns
  led-first locks first rest wanted count turns led = λ s still has.
      let one = led s still (has-both first rest s ∙ or_left (has_site first s) (has_site rest s) has) in
      let to : Trip = trip_along (trip_of core) (reached 0 s whole) in
      record {
        way =
            subst (λ (ps : List WayPart). LeadsOn count turns (trip_along (trip_of core) ps) to)
            (into-first locks first rest s has) one.way;
        there = one.there ∙ sym (same-there first rest s has);
      }

  pub led-rest : (locks : ℕ) (first rest : Tree) (wanted mid : BTreeSet ℕ) (count now : Count)
      (turns more : List Turn) → AreLed core whole locks (Seq first rest) wanted count turns →
      AreLeft first wanted mid →
      Onward count turns now more (trip_along (trip_of core) (passed locks first)) →
      AreLed core whole locks rest mid now more
  led-rest locks first rest wanted mid count now turns more led out onward = λ s still has.
      let both = sym (out s) ∙ still in
      let none = and-not (contains nat_cmp wanted s.0) (has_site first s) both in
      let one = led s (and_parts (contains nat_cmp wanted s.0) (not (has_site first s)) both).0
      (has-both first rest s ∙ or_right (has_site first s) (has_site rest s) has) in
      let to : Trip = trip_along (trip_of core) (reached 0 s whole) in
      record {
        way =
            onward (trip_along (trip_of core) (reached locks s rest)) to
            (subst (λ (t : Trip). LeadsOn count turns t to)
            (ap (trip_along (trip_of core)) (past-first locks first rest s none)
            ∙ along-both (trip_of core) (passed locks first) (reached locks s rest)) one.way);
        there = one.there ∙ sym (rest-there first rest s none);
      }
