-- Where a record of code comes from, with what stands before its site and the locks round it.
use Rattle.std.proofs.Common.{◌≡◌, ℕ, suc, ◌+◌, Bool, true, false, cond, ◌&&◌, ◌||◌, inl, inr, ⊎_elim, None, Some}
use Rattle.std.proofs.Common.{Option, is_some, length, nat_lt, refl, sym, ap, subst, ◌∙◌, arith}
use Rattle.std.proofs.lemmas.Bool.{eq-eqb, lt-ltb, or_left, or_right, and_from}
use Rattle.std.proofs.lemmas.List.Folds.{find-append}
use Rattle.std.specs.Option.{option_or}
use Rattle.std.proofs.Math.Bool.{or-false}
use Rattle.racer_base.specs.declared.ids.MethodId.{MethodId}
use Rattle.racer_base.specs.declared.ids.Place.{Place}
use Rattle.racer_base.specs.declared.ids.SiteId.{SiteId}
use Rattle.owner_domain.specs.declared.value.State.{State}
use Rattle.core_code.specs.declared.code.Op.{Op as CoreOp}
use Rattle.core_code.specs.declared.code.Op.TheVariants.{Ret, Throw}
use Rattle.core_code.specs.Calls.{method_at}
use Rattle.core_code.specs.Core.{Core, Method}
use Rattle.core_code.specs.Facts.{counts_from, sites_of}
use Rattle.core_code.specs.Tree.{LockAt, Tree, Op, Skip, Seq, Choice, Loop, Sync, Operation, can_end, op_at, steps_of}
use Rattle.core_code.proofs.Membership.{In}
use Rattle.access_domain.specs.declared.access.Access.{Access}
use Rattle.access_domain.specs.Findings.{Findings, Known, Table, Whole}
use Rattle.access_domain.specs.Flow.{both as both_effects, flow, joined_next}
use Rattle.access_domain.specs.FlowContext.{FlowContext, given_of}
use Rattle.access_domain.specs.Operations.{Effects, op_effects, passed_from, popped, slot_of}
use Rattle.access_domain.specs.Substitution.{actuals_from}
use Rattle.access_domain.specs.Summaries.{known_of, known_of_callees, start_of}
use Rattle.access_domain.proofs.KnownMethods.{callee_lower, record_made}
use Rattle.access_domain.proofs.OperationRecords.{IsByCall, IsByOp, IsByTouch, op_record}
use Rattle.access_domain.proofs.ReachedStates.{ComesTo, Spot, last_round, record_spot}
use Rattle.access_domain.proofs.TouchedPaths.{substituted_last, touched_last}
use Rattle.core_ways.specs.Alone.{do_end_before, locks_round}
use Rattle.core_ways.specs.Ways.{has_site}
use Rattle.core_ways_laws.specs.Sites.{IsRecordOf, IsRecordBy}
use Rattle.core_ways_laws.proofs.SiteOrder.{counts-first, counts-second, first-lacks}

-- ---- a flow that goes on ends code that can end

op-goes-on : (g : FlowContext) (locked : Bool) (site : SiteId) (place : Place) (op : CoreOp) (s t : State) →
    (op_effects g locked site op s).next ≡ Some t → can_end (Op site place op) ≡ true
op-goes-on g locked site place Ret s t e = absurd cc
op-goes-on g locked site place Throw s t e = absurd cc
op-goes-on g locked site place op s t e = refl

pub goes-on-ends : (g : FlowContext) (code : Tree) (locked : Bool) (s t : State) →
    (flow g code locked s).next ≡ Some t →
    can_end code ≡ true
goes-on-ends g (Op site place op) locked s t e = op-goes-on g locked site place op s t e
goes-on-ends g Skip locked s t e = refl
goes-on-ends g (Seq first rest) locked s t e =
    let f : Effects = flow g first locked s in
    elim f.next as (λ o. f.next ≡ o →
    (elim o as (λ _. Effects) [ None ↦ f | Some u ↦ both_effects f (flow g rest locked u) ]).next ≡ Some t →
    (can_end first && can_end rest) ≡ true) [
      | None ↦ λ is k. absurd (let wrong : None ≡ Some t = sym is ∙ k in cc)
      | Some u ↦ λ is k.
          and_from (can_end first) (can_end rest) (goes-on-ends g first locked s u is)
          (goes-on-ends g rest locked u t k)
    ] refl e
goes-on-ends g (Choice left right) locked s t e =
    let l = (flow g left locked s).next in
    let r = (flow g right locked s).next in
    elim l as (λ o. l ≡ o → joined_next o r ≡ Some t → (can_end left || can_end right) ≡ true) [
      | None ↦ λ is k. or_right (can_end left) (can_end right) (goes-on-ends g right locked s t k)
      | Some u ↦ λ is k. or_left (can_end left) (can_end right) (goes-on-ends g left locked s u is)
    ] refl e
goes-on-ends g (Loop body) locked s t e = refl
goes-on-ends g (Sync lock body) locked s t e = goes-on-ends g body true (popped s 1) t e

-- ---- what stands before an operation that a flow comes to, and the locks round it

some-first : (p q : Option Operation) (o : Operation) → p ≡ Some o → option_or p q ≡ Some o
some-first None q o is = absurd cc
some-first (Some x) q o is = is

none-first : (p q : Option Operation) → is_some p ≡ false → option_or p q ≡ q
none-first None q none = refl
none-first (Some x) q none = absurd cc

at-first : (a b : Tree) (site : SiteId) (o : Operation) → op_at a site ≡ Some o → op_at (Seq a b) site ≡ Some o
at-first a b site o is = find-append _ (steps_of a) (steps_of b) ∙ some-first (op_at a site) (op_at b site) o is

at-second : (a b : Tree) (site : SiteId) (o : Operation) → has_site a site ≡ false → op_at b site ≡ Some o →
    op_at (Seq a b) site ≡ Some o
at-second a b site o lacks is =
    find-append _ (steps_of a) (steps_of b) ∙ none-first (op_at a site) (op_at b site) lacks ∙ is

-- the operation is the one at its site in code that begins within a lock or not
record StandsIn (code : Tree) (outer : Bool) (x : Spot) : Type 0 where
  at : op_at code x.operation.site ≡ Some x.operation
  ends : do_end_before x.operation.site code ≡ true
  held : x.held ≡ (outer || nat_lt 0 (locks_round x.operation.site code))

has : (code : Tree) (outer : Bool) (x : Spot) → StandsIn code outer x → has_site code x.operation.site ≡ true
has code outer x at = ap is_some at.at

by-op : (o : Operation) (locked : Bool) (s : State) →
    StandsIn (Op o.site o.place o.op) locked (record { operation = o; held = locked; state = s })
by-op o locked s =
    record {
      at = ap (λ (b : Bool). cond b (Some o) None) (eq-eqb o.site.0 o.site.0 refl);
      ends = refl;
      held = sym (or-false locked);
    }

by-first : (first rest : Tree) (locked : Bool) (x : Spot) → StandsIn first locked x →
    StandsIn (Seq first rest) locked x
by-first first rest locked x c =
    let site : SiteId = x.operation.site in
    let here : has_site first site ≡ true = has first locked x c in
    record {
      at = at-first first rest site x.operation c.at;
      ends =
          ap (λ (b : Bool). cond b (do_end_before site first) (can_end first && do_end_before site rest)) here
          ∙ c.ends;
      held =
          c.held
          ∙ ap (λ (b : Bool). locked || nat_lt 0 (cond b (locks_round site first) (locks_round site rest)))
          (sym here);
    }

by-rest : (first rest : Tree) (locked : Bool) (x : Spot) → StandsIn rest locked x →
    has_site first x.operation.site ≡ false → can_end first ≡ true → StandsIn (Seq first rest) locked x
by-rest first rest locked x c lacks ends =
    let site : SiteId = x.operation.site in
    record {
      at = at-second first rest site x.operation lacks c.at;
      ends =
          ap (λ (b : Bool). cond b (do_end_before site first) (can_end first && do_end_before site rest)) lacks
          ∙ and_from (can_end first) (do_end_before site rest) ends c.ends;
      held =
          c.held
          ∙ ap (λ (b : Bool). locked || nat_lt 0 (cond b (locks_round site first) (locks_round site rest)))
          (sym lacks);
    }

by-left : (left right : Tree) (locked : Bool) (x : Spot) → StandsIn left locked x →
    StandsIn (Choice left right) locked x
by-left left right locked x c =
    let site : SiteId = x.operation.site in
    let here : has_site left site ≡ true = has left locked x c in
    record {
      at = at-first left right site x.operation c.at;
      ends = ap (λ (b : Bool). cond b (do_end_before site left) (do_end_before site right)) here ∙ c.ends;
      held =
          c.held
          ∙ ap (λ (b : Bool). locked || nat_lt 0 (cond b (locks_round site left) (locks_round site right)))
          (sym here);
    }

by-right : (left right : Tree) (locked : Bool) (x : Spot) → StandsIn right locked x →
    has_site left x.operation.site ≡ false → StandsIn (Choice left right) locked x
by-right left right locked x c lacks =
    let site : SiteId = x.operation.site in
    record {
      at = at-second left right site x.operation lacks c.at;
      ends = ap (λ (b : Bool). cond b (do_end_before site left) (do_end_before site right)) lacks ∙ c.ends;
      held =
          c.held
          ∙ ap (λ (b : Bool). locked || nat_lt 0 (cond b (locks_round site left) (locks_round site right)))
          (sym lacks);
    }

by-lock : (lock : LockAt) (body : Tree) (locked : Bool) (x : Spot) → StandsIn body true x →
    StandsIn (Sync lock body) locked x
by-lock lock body locked x c =
    let n : ℕ = suc (locks_round x.operation.site body) in
    record {
      at = c.at;
      ends = c.ends;
      held = c.held ∙ sym (or_right locked (nat_lt 0 n) (lt-ltb 0 n (omega arith)));
    }

module _ (g : FlowContext) where
  stands-in : (n : ℕ) (code : Tree) (locked : Bool) (s : State) (x : Spot) → counts_from n (sites_of code) ≡ true →
      ComesTo g code locked s x → StandsIn code locked x
  stands-in n (Op site place op) locked s x counts comes =
      let o : Operation = record { site = site; place = place; op = op } in
      subst (StandsIn (Op site place op) locked) comes (by-op o locked s)
  stands-in n Skip locked s x counts comes = absurd comes
  stands-in n (Seq first rest) locked s x counts comes =
      ⊎_elim
      (λ l. by-first first rest locked x (stands-in n first locked s x (counts-first n first rest counts) l))
      (λ r.
      let c : StandsIn rest locked x =
      stands-in (n + length (sites_of first)) rest locked r.0 x (counts-second n first rest counts) r.2 in
      by-rest first rest locked x c
      (first-lacks n first rest x.operation.site counts (has rest locked x c))
      (goes-on-ends g first locked s r.0 r.1))
      comes
  stands-in n (Choice left right) locked s x counts comes =
      ⊎_elim
      (λ l. by-left left right locked x (stands-in n left locked s x (counts-first n left right counts) l))
      (λ r.
      let c : StandsIn right locked x =
      stands-in (n + length (sites_of left)) right locked s x (counts-second n left right counts) r in
      by-right left right locked x c (first-lacks n left right x.operation.site counts (has right locked x c)))
      comes
  stands-in n (Loop body) locked s x counts comes =
      let c : StandsIn body locked x = stands-in n body locked (last_round g body locked s) x counts comes in
      record { at = c.at; ends = c.ends; held = c.held }
  stands-in n (Sync lock body) locked s x counts comes =
      by-lock lock body locked x (stands-in n body true (popped s 1) x counts comes)

-- ---- records

-- the record stands at this site and comes so, and so it does where more is known of the methods
record StandsAt (g : FlowContext) (site : SiteId) (op : CoreOp) (locked : Bool) (a : Access) : Type 0 where
  site_is : site ≡ a.site
  from : IsRecordBy g op locked a

stands-at : (g : FlowContext) (all : Table) (locked : Bool) (site : SiteId) (op : CoreOp) (s : State) (a : Access) →
    ((m : MethodId) (k : Known) → g.known_of m ≡ Some k → all m ≡ Some k) → IsByOp g locked site op s a →
    StandsAt (record g { known_of = all }) site op locked a
stands-at g all locked site op s a more by =
    ⊎_elim
    (λ (of : IsByTouch g locked site op s a).
    record {
      site_is = ap (λ (r : Access). r.site) of.made.is;
      from = inl (record {
        touches = of.touches ∙ ap (λ (r : Access). Some r.kind) of.made.is;
        field = of.names ∙ sym (touched_last g (slot_of s of.slot) of.field a.path of.made.path);
        below = ap (λ (r : Access). r.below) (sym of.made.is);
        held = ap (λ (r : Access). r.locked) (sym of.made.is);
      });
    })
    (λ (of : IsByCall g locked site op s a).
    record {
      site_is = ap (λ (r : Access). r.site) of.made.is;
      from = inr (record {
        callee = of.callee;
        count = of.count;
        calls = of.calls;
        found = of.found;
        known = more of.callee (Whole of.found) of.known;
        index = of.made.index;
        below = ap (λ (r : Access). r.below) (sym of.made.is);
        inner = of.made.inner;
        has = of.made.has;
        kind = ap (λ (r : Access). r.kind) (sym of.made.is);
        field =
            substituted_last g (actuals_from (g.is_static of.callee) (passed_from s of.count)) of.made.inner.path
            a.path of.made.path;
        held = ap (λ (r : Access). r.locked) (sym of.made.is);
      });
    })
    by

at-spot : (g : FlowContext) (code : Tree) (outer : Bool) (a : Access) (x : Spot) → StandsIn code outer x →
    StandsAt g x.operation.site x.operation.op x.held a → IsRecordOf g code outer a
at-spot g code outer a x c by =
    record {
      operation = x.operation;
      at = ap (op_at code) (sym by.site_is) ∙ c.at;
      ends = ap (λ (site : SiteId). do_end_before site code) (sym by.site_is) ∙ c.ends;
      from =
          subst (λ (b : Bool). IsRecordBy g x.operation.op b a)
          (c.held ∙ ap (λ (site : SiteId). outer || nat_lt 0 (locks_round site code)) by.site_is) by.from;
    }

-- each record that is known of a method comes so
pub comes-from : (core : Core) (m : MethodId) (method : Method) (found : Findings) (a : Access) →
    method_at core m ≡ Some method → counts_from 0 (sites_of method.code) ≡ true →
    known_of core m ≡ Some (Whole found) → In found.records a →
    IsRecordOf (given_of core (known_of core) method.main) method.code false a
comes-from core m method found a there counts known h =
    let g : FlowContext = given_of core (known_of_callees core m) method.main in
    let spot = record_spot g method.code false (start_of method) a
    (record_made core m method found a there known h) in
    let x : Spot = spot.0 in
    at-spot (given_of core (known_of core) method.main) method.code false a x
    (stands-in g 0 method.code false (start_of method) x counts spot.1)
    (stands-at g (known_of core) x.held x.operation.site x.operation.op x.state a
    (λ callee k given. (callee_lower core m callee k given).1)
    (op_record g x.held x.operation.site x.operation.op x.state a spot.2))
