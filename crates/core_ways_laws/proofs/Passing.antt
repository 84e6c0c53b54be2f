-- Code that is passed along a way keeps the invariant.
use Rattle.std.proofs.Common.{◌≡◌, ◌+◌, Bool, true, false, cond, List, [], ◌∷◌, ◌++◌, Option, None, Some, length, map}
use Rattle.std.proofs.lemmas.List.{length-map}
use Rattle.std.proofs.Common.{refl, sym, subst, ◌∙◌, inl}
use Rattle.std.proofs.lemmas.Bool.{or_parts}
use Rattle.racer_base.specs.declared.ids.SiteId.{SiteId}
use Rattle.owner_domain.specs.declared.value.State.{State}
use Rattle.core_code.specs.declared.code.Op.{Op as CoreOp}
use Rattle.core_code.specs.declared.code.Op.TheVariants.{Call}
use Rattle.core_code.specs.CallFacts.{is_right_call}
use Rattle.core_code.specs.Core.{Core, Method}
use Rattle.core_code.specs.KindCheck.{kinds_after, kinds_after_op}
use Rattle.core_code.specs.Kinds.{StackKind, kind_of}
use Rattle.core_code.specs.Tree.{Tree, Op, Skip, Seq, Choice, Loop, Sync, Operation, can_end, can_return, steps_of}
use Rattle.core_code.proofs.Membership.{In, in_left, in_right}
use Rattle.core_code.proofs.KindLemmas.{same_heights}
use Rattle.access_domain.specs.Findings.{Table}
use Rattle.access_domain.specs.Flow.{after as in_turn, chosen, flow, lost_next, lost_result, repeated, rounds}
use Rattle.access_domain.specs.FlowContext.{FlowContext, given_of}
use Rattle.access_domain.specs.Operations.{Effects, op_effects, popped}
use Rattle.core_ways_laws.specs.Values.{Point, Behind, Back, Calls, End, come_back, evaluate, evaluate_op, go_on}
use Rattle.core_ways_laws.specs.Values.{only_back, point_popped}
use Rattle.core_ways.specs.Ways.{goes_past}
use Rattle.access_paths.specs.declared.path.Path.{Path}
use Rattle.core_ways_laws.proofs.BackValues.{back-ends}
use Rattle.core_ways_laws.proofs.PassedValues.{EndsAs}
use Rattle.core_ways_laws.specs.Kept.{IsGood, IsKept}
use Rattle.core_ways_laws.specs.Names.{Naming}
use Rattle.core_ways_laws.specs.Places.{AreHushed, IsFrame, IsStore}
use Rattle.core_ways_laws.specs.Quiet.{Quietness}
use Rattle.core_ways_laws.proofs.CallKept.{call-kept}
use Rattle.core_ways_laws.proofs.KeptParts.{chosen-first, chosen-second, in-turn-first, in-turn-kept, ok-kept}
use Rattle.core_ways_laws.proofs.FlowLengths.{AreRight, IsShaped, flow_shape}
use Rattle.core_ways_laws.proofs.Hushing.{hush-first, hush-second}
use Rattle.core_ways_laws.proofs.Joining.{frame-weaker}
use Rattle.core_ways_laws.proofs.KindFacts.{AreBeside, AreInTurn, either_kinds, loop-kinds, then_kinds}
use Rattle.core_ways_laws.proofs.Operations.{op-kept}
use Rattle.core_ways_laws.proofs.PlaceLists.{places-lengths, places_drop}
use Rattle.core_ways_laws.proofs.Rounds.{entry_weaker}

-- what an operation of code needs of the methods that are called: the callee keeps the invariant
abbrev pub IsSafe : (core : Core) → Quietness core → Table → Calls → CoreOp → Type 0
IsSafe core quiet table calls (Call m count) = IsGood core quiet m (table m) (calls m)
IsSafe core quiet table calls op = Unit {0}

abbrev pub AreSafe : (core : Core) → Quietness core → Table → Calls → Tree → Type 0
AreSafe core quiet table calls code =
    (o : Operation) → In (steps_of code) o → IsSafe core quiet table calls o.op

module _ (core : Core) (quiet : Quietness core) (n : Naming) (method : Method) (table : Table) (main : Bool)
    (calls : Calls) where
  abbrev g : FlowContext
  g = given_of core table main

  abbrev effects : Tree → Bool → State → Effects
  effects code locked s = flow (given_of core table main) code locked s

  pub shape-of : (kinds : List StackKind) (s : State) (at : Point) → IsFrame core quiet n method kinds s at →
      IsShaped method kinds s
  shape-of kinds s at frame =
      let vars : length s.vars ≡ length (map kind_of method.variables) =
      (places-lengths core quiet n (map kind_of method.variables) s.vars at.vars frame.vars).0 in
      record {
        vars = vars ∙ length-map method.variables kind_of;
        stack = (places-lengths core quiet n kinds s.stack at.stack frame.stack).0;
      }

  -- a state at a loop's begin, after its rounds
  pub looped-frame : (body : Tree) (locked : Bool) (kinds ends : List StackKind) (s : State) (at : Point) →
      AreRight core body → kinds_after core method (Loop body) kinds ≡ Some ends →
      AreHushed core quiet n
      (rounds (effects body locked) (length s.vars + length s.stack + 1) s).1 →
      IsFrame core quiet n method kinds s at →
      IsFrame core quiet n method kinds (rounds (effects body locked) (length s.vars + length s.stack + 1) s).0 at
  looped-frame body locked kinds ends s at right fits hush frame =
      let loop = loop-kinds core method body kinds ends fits in
      let shapes : (t u : State) → IsShaped method kinds t → (effects body locked t).next ≡ Some u →
      IsShaped method kinds u = λ t u shaped is.
      flow_shape core method g body locked kinds kinds t u right loop.1 shaped is in
      frame-weaker core quiet n method kinds s
      (rounds (effects body locked) (length s.vars + length s.stack + 1) s).0 at
      (entry_weaker core quiet n method kinds (effects body locked) shapes (length s.vars + length s.stack + 1) s
      (shape-of kinds s at frame) hush)
      frame

  -- the first part of two that are done in turn
  pub first-hushed : (first rest : Tree) (locked : Bool) (s : State) →
      AreHushed core quiet n (effects (Seq first rest) locked s).wobbly →
      AreHushed core quiet n (effects first locked s).wobbly
  first-hushed first rest locked s =
      let one : Effects = effects first locked s in
      let two : State → Effects = effects rest locked in
      in-turn-first (λ e. AreHushed core quiet n e.wobbly) (λ e. AreHushed core quiet n e.wobbly) one two
      (λ hush. hush)
      (λ t hush.
      hush-first core quiet n one.wobbly (two t).wobbly
      (hush-first core quiet n (one.wobbly ++ (two t).wobbly) (lost_result one.result (two t).result) hush))

  pub first-small : (first rest : Tree) (locked : Bool) (s : State) →
      (effects (Seq first rest) locked s).large ≡ false → (effects first locked s).large ≡ false
  first-small first rest locked s =
      in-turn-first (λ e. e.large ≡ false) (λ e. e.large ≡ false) (effects first locked s) (effects rest locked)
      (λ small. small)
      (λ t small. (or_parts (effects first locked s).large (effects rest locked t).large small).0)

  -- the parts of a choice
  pub record AreApart (left right : Effects) : Type 0 where
    pub left_hush : AreHushed core quiet n left.wobbly
    pub right_hush : AreHushed core quiet n right.wobbly
    pub nexts : AreHushed core quiet n (lost_next left.next right.next)
    pub results : AreHushed core quiet n (lost_result left.result right.result)
    pub left_small : left.large ≡ false
    pub right_small : right.large ≡ false

  pub apart : (left right : Effects) → AreHushed core quiet n (chosen left right).wobbly →
      (chosen left right).large ≡ false → AreApart left right
  apart left right hush small =
      let three = hush-first core quiet n (left.wobbly ++ right.wobbly ++ lost_next left.next right.next)
      (lost_result left.result right.result) hush in
      let two = hush-first core quiet n (left.wobbly ++ right.wobbly) (lost_next left.next right.next) three in
      let large = or_parts left.large right.large small in
      record {
        left_hush = hush-first core quiet n left.wobbly right.wobbly two;
        right_hush = hush-second core quiet n left.wobbly right.wobbly two;
        nexts = hush-second core quiet n (left.wobbly ++ right.wobbly) (lost_next left.next right.next) three;
        results = hush-second core quiet n (left.wobbly ++ right.wobbly ++ lost_next left.next right.next)
            (lost_result left.result right.result) hush;
        left_small = large.0;
        right_small = large.1;
      }

  pub popped-frame : (kind : StackKind) (kinds : List StackKind) (s : State) (at : Point) →
      IsFrame core quiet n method (kind ∷ kinds) s at →
      IsFrame core quiet n method kinds (popped s 1) (point_popped at 1)
  popped-frame kind kinds s at frame =
      record { vars = frame.vars; stack = places_drop core quiet n 1 (kind ∷ kinds) s.stack at.stack frame.stack }

  step-kept : (locked : Bool) (site : SiteId) (op : CoreOp) (kinds ends : List StackKind) (s : State) (at : Point) →
      is_right_call core op ≡ true → IsSafe core quiet table calls op →
      kinds_after_op core method op kinds ≡ Some ends →
      AreHushed core quiet n (op_effects g locked site op s).wobbly → (op_effects g locked site op s).large ≡ false →
      IsFrame core quiet n method kinds s at → IsStore core quiet at.store →
      IsKept core quiet n method ends (op_effects g locked site op s) (evaluate_op core calls op at)
  step-kept locked site (Call m count) kinds ends s at right safe fits hush small frame stored =
      call-kept core quiet n method table main locked calls site m count kinds ends s at right safe fits hush small
      frame stored
  step-kept locked site op kinds ends s at right safe fits hush small frame stored =
      op-kept core quiet n method table main locked calls site op kinds ends s at refl fits hush frame stored

  -- the sides of a choice end at states of one shape
  sides-alike : (left right : Tree) (locked : Bool) (kinds ends : List StackKind) (s : State) (at : Point) →
      AreRight core left → AreRight core right → AreBeside core method left right kinds ends →
      IsFrame core quiet n method kinds s at → (a b : State) → (effects left locked s).next ≡ Some a →
      (effects right locked s).next ≡ Some b →
      (length a.vars ≡ length b.vars) × (length a.stack ≡ length b.stack)
  sides-alike left right locked kinds ends s at on_left on_right parts frame a b at_left at_right =
      let shaped : IsShaped method kinds s = shape-of kinds s at frame in
      let x = flow_shape core method g left locked kinds parts.after_left s a on_left parts.on_left shaped at_left in
      let y = flow_shape core method g right locked kinds parts.after_right s b on_right parts.on_right shaped
      at_right in
      let heights = same_heights parts.after_left parts.after_right ends parts.joins in
      (x.vars ∙ sym y.vars, x.stack ∙ heights.0 ∙ sym heights.1 ∙ sym y.stack)

  pub kept : (code : Tree) → AreRight core code → AreSafe core quiet table calls code → (locked : Bool)
      (kinds ends : List StackKind) (s : State) (at : Point) → kinds_after core method code kinds ≡ Some ends →
      AreHushed core quiet n (effects code locked s).wobbly → (effects code locked s).large ≡ false →
      IsFrame core quiet n method kinds s at → IsStore core quiet at.store →
      IsKept core quiet n method ends (effects code locked s) (evaluate core calls code at)
  kept (Op site place op) right safe locked kinds ends s at fits hush small frame stored =
      step-kept locked site op kinds ends s at (right (record { site = site; place = place; op = op }) (inl refl))
      (safe (record { site = site; place = place; op = op }) (inl refl)) fits hush small frame stored
  kept Skip right safe locked kinds ends s at fits hush small frame stored =
      let same : kinds ≡ ends = cc in
      record {
        store = stored;
        state = s;
        next = refl;
        frame = subst (λ (ks : List StackKind). IsFrame core quiet n method ks s at) same frame;
      }
  kept (Seq first rest) right safe locked kinds ends s at fits hush small frame stored =
      let parts : AreInTurn core method first rest kinds ends = then_kinds core method first rest kinds ends fits in
      in-turn-kept core quiet n method parts.between ends (effects first locked s) (effects rest locked)
      (evaluate core calls first at) (evaluate core calls rest) hush small
      (kept first (λ o there. right o (in_left (steps_of first) (steps_of rest) o there))
      (λ o there. safe o (in_left (steps_of first) (steps_of rest) o there)) locked kinds parts.between s at
      parts.early
      (first-hushed first rest locked s hush) (first-small first rest locked s small) frame stored)
      (λ t to few still there held.
      kept rest (λ o there. right o (in_right (steps_of first) (steps_of rest) o there))
      (λ o in_rest. safe o (in_right (steps_of first) (steps_of rest) o in_rest)) locked parts.between ends t to
      parts.late
      still few there held)
  kept (Choice left right) all safe locked kinds ends s at fits hush small frame stored =
      let parts : AreBeside core method left right kinds ends = either_kinds core method left right kinds ends fits in
      let on_left : AreRight core left = λ o there. all o (in_left (steps_of left) (steps_of right) o there) in
      let on_right : AreRight core right = λ o there. all o (in_right (steps_of left) (steps_of right) o there) in
      let one : Effects = effects left locked s in
      let two : Effects = effects right locked s in
      let each : AreApart one two = apart one two hush small in
      let alike = sides-alike left right locked kinds ends s at on_left on_right parts frame in
      elim (can_end right) as (λ b. IsKept core quiet n method ends (chosen one two)
      (cond b (evaluate core calls right at) (evaluate core calls left at))) [
        | true ↦
            chosen-second core quiet n method parts.after_left parts.after_right ends one two
            (evaluate core calls right at) parts.joins alike
            each.nexts each.results
            (kept right on_right (λ o there. safe o (in_right (steps_of left) (steps_of right) o there)) locked kinds
            parts.after_right s at parts.on_right each.right_hush each.right_small frame stored)
        | false ↦
            chosen-first core quiet n method parts.after_left parts.after_right ends one two
            (evaluate core calls left at) parts.joins alike
            each.nexts each.results
            (kept left on_left (λ o there. safe o (in_left (steps_of left) (steps_of right) o there)) locked kinds
            parts.after_left s at parts.on_left each.left_hush each.left_small frame stored)
      ]
  kept (Loop body) right safe locked kinds ends s at fits hush small frame stored =
      let last = rounds (effects body locked) (length s.vars + length s.stack + 1) s in
      record {
        store = stored;
        state = last.0;
        next = refl;
        frame =
            subst (λ (ks : List StackKind). IsFrame core quiet n method ks last.0 at)
            (sym (loop-kinds core method body kinds ends fits).0)
            (looped-frame body locked kinds ends s at right fits
            (hush-first core quiet n last.1 (effects body locked last.0).wobbly hush) frame);
      }
  kept (Sync lock body) right safe locked [] ends s at fits hush small frame stored = absurd cc
  kept (Sync lock body) right safe locked (kind ∷ kinds) ends s at fits hush small frame stored =
      ok-kept core quiet n method ends (effects body true (popped s 1)) _ (evaluate core calls body (point_popped at 1))
      (kept body right safe true kinds ends (popped s 1) (point_popped at 1) fits hush small
      (popped-frame kind kinds s at frame) stored)

  -- code that is gone through to a return
  only-kept : (ends : List StackKind) (e : Effects) (o : Option End) → IsKept core quiet n method ends e o →
      IsKept core quiet n method ends e (only_back o)
  only-kept ends e None kept_it = tt
  only-kept ends e (Some (Behind at)) kept_it = tt
  only-kept ends e (Some (Back store value)) kept_it = kept_it

  -- what comes back from a loop's body under the last state comes back from the loop
  loop-kept : (ends after : List StackKind) (body : State → Effects) (last : State × List Path) (o : Option End) →
      EndsAs false o → IsKept core quiet n method ends (body last.0) o →
      IsKept core quiet n method after (repeated last body) o
  loop-kept ends after body last None none kept_it = tt
  loop-kept ends after body last (Some (Behind at)) none kept_it = absurd cc
  loop-kept ends after body last (Some (Back store value)) none kept_it =
      record { store = kept_it.store; called = kept_it.called; result = kept_it.result; place = kept_it.place }

  stays-back : (o : Option End) (f : Point → Option End) → EndsAs false o → go_on o f ≡ o
  stays-back None f none = refl
  stays-back (Some (Behind at)) f none = absurd cc
  stays-back (Some (Back store value)) f none = refl

  pub back-kept : (code : Tree) → AreRight core code → AreSafe core quiet table calls code → (locked : Bool)
      (kinds ends : List StackKind) (s : State) (at : Point) → kinds_after core method code kinds ≡ Some ends →
      AreHushed core quiet n (effects code locked s).wobbly → (effects code locked s).large ≡ false →
      IsFrame core quiet n method kinds s at → IsStore core quiet at.store →
      IsKept core quiet n method ends (effects code locked s) (come_back core calls code at)
  back-kept (Op site place op) right safe locked kinds ends s at fits hush small frame stored =
      only-kept ends (effects (Op site place op) locked s) (evaluate_op core calls op at)
      (kept (Op site place op) right safe locked kinds ends s at fits hush small frame stored)
  back-kept Skip right safe locked kinds ends s at fits hush small frame stored = tt
  back-kept (Seq first rest) right safe locked kinds ends s at fits hush small frame stored =
      let parts : AreInTurn core method first rest kinds ends = then_kinds core method first rest kinds ends fits in
      let right_first : AreRight core first = λ o there. right o (in_left (steps_of first) (steps_of rest) o there) in
      let right_rest : AreRight core rest = λ o there. right o (in_right (steps_of first) (steps_of rest) o there) in
      let safe_first : AreSafe core quiet table calls first = λ o there.
      safe o (in_left (steps_of first) (steps_of rest) o there) in
      let safe_rest : AreSafe core quiet table calls rest = λ o there.
      safe o (in_right (steps_of first) (steps_of rest) o there) in
      let hush_first = first-hushed first rest locked s hush in
      let small_first = first-small first rest locked s small in
      let one : Effects = effects first locked s in
      let two : State → Effects = effects rest locked in
      let back : Option End = come_back core calls first at in
      let more : Point → Option End = come_back core calls rest in
      elim (goes_past first rest) as (λ b. IsKept core quiet n method ends (in_turn one two)
      (cond b (go_on (evaluate core calls first at) more) back)) [
        | true ↦
            in-turn-kept core quiet n method parts.between ends one two (evaluate core calls first at) more hush small
            (kept first right_first safe_first locked kinds parts.between s at parts.early hush_first small_first frame
            stored)
            (λ t to few still there held.
            back-kept rest right_rest safe_rest locked parts.between ends t to parts.late still few there held)
        | false ↦
            subst (λ (o : Option End). IsKept core quiet n method ends (in_turn one two) o)
            (stays-back back more (back-ends core calls first at))
            (in-turn-kept core quiet n method parts.between ends one two back more hush small
            (back-kept first right_first safe_first locked kinds parts.between s at parts.early hush_first small_first
            frame stored)
            (λ t to few still there held.
            back-kept rest right_rest safe_rest locked parts.between ends t to parts.late still few there held))
      ]
  back-kept (Choice left right) all safe locked kinds ends s at fits hush small frame stored =
      let parts : AreBeside core method left right kinds ends = either_kinds core method left right kinds ends fits in
      let on_left : AreRight core left = λ o there. all o (in_left (steps_of left) (steps_of right) o there) in
      let on_right : AreRight core right = λ o there. all o (in_right (steps_of left) (steps_of right) o there) in
      let one : Effects = effects left locked s in
      let two : Effects = effects right locked s in
      let each : AreApart one two = apart one two hush small in
      let alike = sides-alike left right locked kinds ends s at on_left on_right parts frame in
      elim (can_return left) as (λ b. IsKept core quiet n method ends (chosen one two)
      (cond b (come_back core calls left at) (come_back core calls right at))) [
        | true ↦
            chosen-first core quiet n method parts.after_left parts.after_right ends one two
            (come_back core calls left at) parts.joins alike
            each.nexts each.results
            (back-kept left on_left (λ o there. safe o (in_left (steps_of left) (steps_of right) o there)) locked kinds
            parts.after_left s at parts.on_left each.left_hush each.left_small frame stored)
        | false ↦
            chosen-second core quiet n method parts.after_left parts.after_right ends one two
            (come_back core calls right at) parts.joins alike
            each.nexts each.results
            (back-kept right on_right (λ o there. safe o (in_right (steps_of left) (steps_of right) o there)) locked
            kinds parts.after_right s at parts.on_right each.right_hush each.right_small frame stored)
      ]
  back-kept (Loop body) right safe locked kinds ends s at fits hush small frame stored =
      let last = rounds (effects body locked) (length s.vars + length s.stack + 1) s in
      let loop = loop-kinds core method body kinds ends fits in
      loop-kept kinds ends (effects body locked) last (come_back core calls body at) (back-ends core calls body at)
      (back-kept body right safe locked kinds kinds last.0 at loop.1
      (hush-second core quiet n last.1 (effects body locked last.0).wobbly hush) small
      (looped-frame body locked kinds ends s at right fits
      (hush-first core quiet n last.1 (effects body locked last.0).wobbly hush) frame) stored)
  back-kept (Sync lock body) right safe locked [] ends s at fits hush small frame stored = absurd cc
  back-kept (Sync lock body) right safe locked (kind ∷ kinds) ends s at fits hush small frame stored =
      ok-kept core quiet n method ends (effects body true (popped s 1)) _
      (come_back core calls body (point_popped at 1))
      (back-kept body right safe true kinds ends (popped s 1) (point_popped at 1) fits hush small
      (popped-frame kind kinds s at frame) stored)
