-- What comes next where code leads towards the site of a record is the record's access.
use Rattle.std.proofs.Common.{◌≡◌, ℕ, ◌+◌, Bool, true, false, cond, ⊎_elim, List, [], ◌∷◌, ◌++◌, Option, None, Some}
use Rattle.std.proofs.Common.{length}
use Rattle.std.proofs.Common.{option_map, refl, sym, subst, ◌∙◌, inl}
use Rattle.std.specs.Prelude.{Result, Ok, Err}
use Rattle.std.proofs.lemmas.Bool.{or_parts}
use Rattle.racer_base.specs.declared.ids.SiteId.{SiteId}
use Rattle.owner_domain.specs.declared.value.State.{State}
use Rattle.access_domain.specs.declared.access.Access.{Access}
use Rattle.access_domain.specs.Findings.{Table}
use Rattle.access_domain.specs.Flow.{after as in_turn, both, flow, lost_result, rounds}
use Rattle.access_domain.specs.FlowContext.{given_of}
use Rattle.access_domain.specs.Operations.{Effects, op_effects, popped}
use Rattle.core_code.specs.declared.code.Op.{Op as CoreOp}
use Rattle.core_code.specs.declared.code.Op.TheVariants.{Call}
use Rattle.core_code.specs.CallFacts.{is_right_call}
use Rattle.core_code.specs.Core.{Core, Method}
use Rattle.core_code.specs.Facts.{counts_from, sites_of}
use Rattle.core_code.specs.KindCheck.{kinds_after, kinds_after_op}
use Rattle.core_code.specs.Kinds.{StackKind}
use Rattle.core_code.specs.Tree.{Tree, Op, Skip, Seq, Choice, Loop, Sync, steps_of, Operation}
use Rattle.core_code.proofs.Membership.{In, in_append, in_left, in_right}
use Rattle.core_ways.specs.Ways.{has_site}
use Rattle.core_ways_laws.specs.Arrivals.{Arrival, Arrivals, behind_first, one_lock_more, to, arrival_at}
use Rattle.core_ways_laws.specs.Values.{Back, Behind, Calls, End, Point, evaluate, on_ok, point_popped}
use Rattle.core_ways_laws.specs.Kept.{AreMet, IsKept, IsMet}
use Rattle.core_ways_laws.specs.Names.{Naming}
use Rattle.core_ways_laws.specs.Places.{AreHushed, IsFrame, IsStore}
use Rattle.core_ways_laws.specs.Quiet.{Quietness}
use Rattle.core_ways_laws.proofs.Accesses.{op-met}
use Rattle.core_ways_laws.proofs.CallMet.{call-met}
use Rattle.core_ways_laws.proofs.FlowLengths.{AreRight}
use Rattle.core_ways_laws.proofs.Hushing.{hush-first, hush-second}
use Rattle.core_ways_laws.proofs.KindFacts.{AreBeside, AreInTurn, either_kinds, loop-kinds, then_kinds}
use Rattle.core_ways_laws.proofs.Passing.{AreApart, AreSafe, apart, kept, looped-frame, popped-frame}
use Rattle.core_ways_laws.proofs.RecordSites.{record-site}
use Rattle.core_ways_laws.proofs.SiteOrder.{counts-first, counts-second, first-lacks}

-- what an operation of code needs of the methods that are called: the ways to the callee's records meet them
abbrev pub IsLed : (core : Core) → Quietness core → Table → Arrivals → CoreOp → Type 0
IsLed core quiet table arrivals (Call m count) = AreMet core quiet m (table m) (arrivals m)
IsLed core quiet table arrivals op = Unit {0}

abbrev pub AreLed : (core : Core) → Quietness core → Table → Arrivals → Tree → Type 0
AreLed core quiet table arrivals code =
    (o : Operation) → In (steps_of code) o → IsLed core quiet table arrivals o.op

-- ---- parts of code

module _ (core : Core) (quiet : Quietness core) (n : Naming) (method : Method) (r : Access) where
  abbrev Met : Option Arrival → Type 0
  Met o = IsMet core quiet n r o

  same-state : (s t : State) → Some s ≡ Some t → s ≡ t
  same-state s t e = cc

  -- behind a part that keeps the invariant
  behind-met : (between : List StackKind) (first : Effects) (s : State) (o : Option End)
      (more : Point → Option Arrival) →
      first.next ≡ Some s → IsKept core quiet n method between first o →
      ((at : Point) → IsFrame core quiet n method between s at → IsStore core quiet at.store → Met (more at)) →
      Met (behind_first o more)
  behind-met between first s None more next kept meets = tt
  behind-met between first s (Some (Behind at)) more next kept meets =
      meets at
      (subst (λ (t : State). IsFrame core quiet n method between t at)
      (same-state kept.state s (sym kept.next ∙ next)) kept.frame)
      kept.store
  behind-met between first s (Some (Back store value)) more next kept meets = tt

  -- of two parts that are done in turn, a record is one of the first or, where that has a state at its end, of the rest
  in-turn-met : (o : Option Arrival) (first : Effects) (rest : State → Effects) →
      AreHushed core quiet n (in_turn first rest).wobbly → (in_turn first rest).large ≡ false →
      In (in_turn first rest).records r →
      (AreHushed core quiet n first.wobbly → first.large ≡ false → In first.records r → Met o) →
      ((s : State) → first.next ≡ Some s → AreHushed core quiet n first.wobbly → first.large ≡ false →
      AreHushed core quiet n (rest s).wobbly → (rest s).large ≡ false → In (rest s).records r → Met o) → Met o
  in-turn-met o first rest hush small has one two =
      elim first.next as (λ (next : Option State). first.next ≡ next →
      AreHushed core quiet n (elim next as (λ _. Effects) [ None ↦ first | Some s ↦ both first (rest s) ]).wobbly →
      (elim next as (λ _. Effects) [ None ↦ first | Some s ↦ both first (rest s) ]).large ≡ false →
      In (elim next as (λ _. Effects) [ None ↦ first | Some s ↦ both first (rest s) ]).records r → Met o) [
        | None ↦ λ is hushed few there. one hushed few there
        | Some s ↦ λ is hushed few there.
            let early : AreHushed core quiet n (first.wobbly ++ (rest s).wobbly) =
            hush-first core quiet n (first.wobbly ++ (rest s).wobbly) (lost_result first.result (rest s).result)
            hushed in
            let on_first : AreHushed core quiet n first.wobbly =
            hush-first core quiet n first.wobbly (rest s).wobbly early in
            let on_rest : AreHushed core quiet n (rest s).wobbly =
            hush-second core quiet n first.wobbly (rest s).wobbly early in
            let none = or_parts first.large (rest s).large few in
            ⊎_elim
            (λ in_first. one on_first none.0 in_first)
            (λ in_rest. two s is on_first none.0 on_rest none.1 in_rest)
            (in_append first.records (rest s).records r there)
      ] refl hush small has

  lock-met : (o : Option Arrival) → Met o → Met (option_map one_lock_more o)
  lock-met None met = tt
  lock-met (Some arrival) met = (
    met.0,
    record {
      field = met.1.field;
      last = met.1.last;
      op = met.1.op;
      declared = met.1.declared;
      base = met.1.base;
    },
  )

  ok-met : {X E : Type 0} (result : Result X E) (o : Option Arrival) → Met o → Met (on_ok result o)
  ok-met (Ok x) o met = met
  ok-met (Err e) o met = tt

  on-side : (b side : Bool) (one two : Option Arrival) → b ≡ side → Met (cond side one two) → Met (cond b one two)
  on-side b side one two is met = subst (λ (x : Bool). Met (cond x one two)) (sym is) met

-- ---- code

module _ (core : Core) (quiet : Quietness core) (n : Naming) (method : Method) (table : Table) (main : Bool)
    (calls : Calls) (arrivals : Arrivals) where
  abbrev effects : Tree → Bool → State → Effects
  effects code locked s = flow (given_of core table main) code locked s

  step-met : (locked : Bool) (site : SiteId) (op : CoreOp) (kinds ends : List StackKind) (s : State) (at : Point)
      (r : Access) → is_right_call core op ≡ true → IsLed core quiet table arrivals op →
      kinds_after_op core method op kinds ≡ Some ends →
      AreHushed core quiet n (op_effects (given_of core table main) locked site op s).wobbly →
      IsFrame core quiet n method kinds s at → IsStore core quiet at.store →
      In (op_effects (given_of core table main) locked site op s).records r →
      IsMet core quiet n r (arrival_at core arrivals r.below op at)
  step-met locked site (Call m count) kinds ends s at r right meets fits hush frame stored has =
      call-met core quiet n method table main locked arrivals site m count kinds ends s at r right meets fits hush frame
      stored has
  step-met locked site op kinds ends s at r right meets fits hush frame stored has =
      op-met core quiet n method table main locked arrivals site op kinds ends s at r refl fits frame stored has

  pub towards-met : (code : Tree) → AreRight core code → AreSafe core quiet table calls code →
      AreLed core quiet table arrivals code → (k : ℕ) → counts_from k (sites_of code) ≡ true → (locked : Bool)
      (kinds ends : List StackKind) (s : State) (at : Point) (r : Access) →
      kinds_after core method code kinds ≡ Some ends → AreHushed core quiet n (effects code locked s).wobbly →
      (effects code locked s).large ≡ false → IsFrame core quiet n method kinds s at → IsStore core quiet at.store →
      In (effects code locked s).records r → IsMet core quiet n r (to core calls arrivals r.site r.below code at)
  towards-met (Op site place op) right safe meets k counts locked kinds ends s at r fits hush small frame stored
      has =
      let o : Operation = record { site = site; place = place; op = op } in
      step-met locked site op kinds ends s at r (right o (inl refl)) (meets o (inl refl)) fits hush frame stored has
  towards-met Skip right safe meets k counts locked kinds ends s at r fits hush small frame stored has = absurd has
  towards-met (Seq first rest) right safe meets k counts locked kinds ends s at r fits hush small frame stored has =
      let parts : AreInTurn core method first rest kinds ends = then_kinds core method first rest kinds ends fits in
      let right_first : AreRight core first = λ o there. right o (in_left (steps_of first) (steps_of rest) o there) in
      let safe_first : AreSafe core quiet table calls first =
      λ o there. safe o (in_left (steps_of first) (steps_of rest) o there) in
      let one : Option Arrival = to core calls arrivals r.site r.below first at in
      let two : Option Arrival = behind_first (evaluate core calls first at)
      (to core calls arrivals r.site r.below rest) in
      in-turn-met core quiet n method r (cond (has_site first r.site) one two) (effects first locked s)
      (effects rest locked) hush small has
      (λ hushed few there.
      on-side core quiet n method r (has_site first r.site) true one two
      (record-site (given_of core table main) first locked s r there)
      (towards-met first right_first safe_first
      (λ o in_first. meets o (in_left (steps_of first) (steps_of rest) o in_first)) k
      (counts-first k first rest counts)
      locked kinds parts.between s at r parts.early hushed few frame stored there))
      (λ t is hushed few hushed_rest few_rest there.
      on-side core quiet n method r (has_site first r.site) false one two
      (first-lacks k first rest r.site counts (record-site (given_of core table main) rest locked t r there))
      (behind-met core quiet n method r parts.between (effects first locked s) t (evaluate core calls first at)
      (to core calls arrivals r.site r.below rest) is
      (kept core quiet n method table main calls first right_first safe_first locked kinds parts.between s at
      parts.early
      hushed few frame stored)
      (λ behind framed kept_store.
      towards-met rest (λ o in_rest. right o (in_right (steps_of first) (steps_of rest) o in_rest))
      (λ o in_rest. safe o (in_right (steps_of first) (steps_of rest) o in_rest))
      (λ o in_rest. meets o (in_right (steps_of first) (steps_of rest) o in_rest)) (k + length (sites_of first))
      (counts-second k first rest counts) locked parts.between ends t behind r parts.late hushed_rest few_rest framed
      kept_store there)))
  towards-met (Choice left right) all safe meets k counts locked kinds ends s at r fits hush small frame stored has =
      let parts : AreBeside core method left right kinds ends = either_kinds core method left right kinds ends fits in
      let each : AreApart core quiet n method table main calls (effects left locked s) (effects right locked s) =
      apart core quiet n method table main calls (effects left locked s) (effects right locked s) hush small in
      let one : Option Arrival = to core calls arrivals r.site r.below left at in
      let two : Option Arrival = to core calls arrivals r.site r.below right at in
      ⊎_elim
      (λ there.
      on-side core quiet n method r (has_site left r.site) true one two
      (record-site (given_of core table main) left locked s r there)
      (towards-met left (λ o in_first. all o (in_left (steps_of left) (steps_of right) o in_first))
      (λ o in_first. safe o (in_left (steps_of left) (steps_of right) o in_first))
      (λ o in_first. meets o (in_left (steps_of left) (steps_of right) o in_first)) k
      (counts-first k left right counts)
      locked kinds parts.after_left s at r parts.on_left each.left_hush each.left_small frame stored there))
      (λ there.
      on-side core quiet n method r (has_site left r.site) false one two
      (first-lacks k left right r.site counts (record-site (given_of core table main) right locked s r there))
      (towards-met right (λ o in_rest. all o (in_right (steps_of left) (steps_of right) o in_rest))
      (λ o in_rest. safe o (in_right (steps_of left) (steps_of right) o in_rest))
      (λ o in_rest. meets o (in_right (steps_of left) (steps_of right) o in_rest)) (k + length (sites_of left))
      (counts-second k left right counts) locked kinds parts.after_right s at r parts.on_right each.right_hush
      each.right_small frame stored there))
      (in_append (effects left locked s).records (effects right locked s).records r has)
  towards-met (Loop body) right safe meets k counts locked kinds ends s at r fits hush small frame stored has =
      let last = rounds (effects body locked) (length s.vars + length s.stack + 1) s in
      let loop = loop-kinds core method body kinds ends fits in
      towards-met body right safe meets k counts locked kinds kinds last.0 at r loop.1
      (hush-second core quiet n last.1 (effects body locked last.0).wobbly hush) small
      (looped-frame core quiet n method table main calls body locked kinds ends s at right fits
      (hush-first core quiet n last.1 (effects body locked last.0).wobbly hush) frame) stored has
  towards-met (Sync lock body) right safe meets k counts locked [] ends s at r fits hush small frame stored has =
      absurd cc
  towards-met (Sync lock body) right safe meets k counts locked (kind ∷ kinds) ends s at r fits hush small frame stored
      has =
      ok-met core quiet n method r _ (option_map one_lock_more (to core calls arrivals r.site r.below body (point_popped
      at 1)))
      (lock-met core quiet n method r (to core calls arrivals r.site r.below body (point_popped at 1))
      (towards-met body right safe meets k counts true kinds ends (popped s 1) (point_popped at 1) r fits hush small
      (popped-frame core quiet n method table main calls kind kinds s at frame) stored has))
