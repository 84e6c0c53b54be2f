-- A flow of kinded code keeps as many variables and as many places on the stack as the kinds tell.
use Rattle.std.proofs.Common.{◌≡◌, ℕ, zero, suc, ◌+◌, ◌-◌, Bool, true, false, cond, ◌&&◌, List, [], ◌∷◌, ◌++◌}
use Rattle.std.proofs.Common.{Option, None, Some, drop, length, reverse, nat_eq, nat_le, slice_set}
use Rattle.std.proofs.Common.{refl, sym, ap, subst, ◌∙◌, arith, inl}
use Rattle.std.proofs.lemmas.List.{length-drop, length-reverse, length-set}
use Rattle.std.proofs.lemmas.Bool.{and_parts}
use Rattle.std.proofs.lemmas.Option.{none-some}
use borrow.Author.Tests.{eqb-true}
use Rattle.racer_base.specs.declared.ids.MethodId.{MethodId}
use Rattle.racer_base.specs.declared.ids.SiteId.{SiteId}
use Rattle.racer_base.specs.declared.ids.Kind.{Kind}
use Rattle.access_paths.specs.declared.path.Path.{Path}
use Rattle.owner_domain.specs.declared.value.Value.{Value}
use Rattle.owner_domain.specs.declared.value.State.{State}
use Rattle.owner_domain.specs.Values.{joined_values, joined_state, lost_state}
use Rattle.owner_domain.proofs.Joins.{length-joined_values}
use Rattle.core_code.specs.declared.code.Op.{Op as CoreOp}
use Rattle.core_code.specs.declared.code.Op.TheVariants.{Push, PushClass, PushPrim, PushNull, New, Dup, Drop, Get, Put}
use Rattle.core_code.specs.declared.code.Op.TheVariants.{Set, Prim, Outside, Call, Unread, Ret, Throw}
use Rattle.core_code.specs.declared.parts.FieldCore.{FieldCore}
use Rattle.core_code.specs.Tree.{Tree, Op, Skip, Seq, Choice, Loop, Sync, Operation, steps_of}
use Rattle.core_code.specs.Core.{Core, Method}
use Rattle.core_code.specs.Calls.{method_at, is_analysed, taken_by}
use Rattle.core_code.specs.CallFacts.{is_right_call, takes}
use Rattle.core_code.specs.Kinds.{StackKind, kind_of, joined_stack, fits}
use Rattle.core_code.specs.KindCheck.{after_push, after_set, after_get, after_put, after_call, after_popping}
use Rattle.core_code.specs.KindCheck.{below_fitting, field_at, variable_at, is_base_of, kinds_after_op, kinds_after}
use Rattle.core_code.proofs.Membership.{In, in_left, in_right}
use Rattle.core_code.proofs.KindLemmas.{same_heights, went_on}
use Rattle.access_domain.specs.Findings.{Known, Large, Whole, Table}
use Rattle.access_domain.specs.FlowContext.{FlowContext, given_of}
use Rattle.access_domain.specs.Operations.{Effects, popped, pushed, replaced, call_effects, op_effects}
use Rattle.access_domain.specs.Flow.{joined_next, rounds, flow}
use Rattle.core_ways_laws.proofs.KindFacts.{AreInTurn, AreBeside, IsWithin, then_kinds, either_kinds, loop-kinds}
use Rattle.core_ways_laws.proofs.KindFacts.{held_kinds, tested}
use Rattle.core_ways_laws.proofs.FlowFacts.{after_cases}

-- a state of a method with these kinds on its stack, as far as lengths go
pub record IsShaped (method : Method) (ks : List StackKind) (s : State) : Type 0 where
  pub vars : length s.vars ≡ length method.variables
  pub stack : length s.stack ≡ length ks

-- ---- kinds and heights

height_push : (o : Option Kind) (ks ends : List StackKind) → after_push o ks ≡ Some ends → length ends ≡ suc (length ks)
height_push None ks ends h = cc
height_push (Some kind) ks ends h = let is : kind_of kind ∷ ks ≡ ends = cc in ap length (sym is)

height_set : (o : Option Kind) (ks ends : List StackKind) → after_set o ks ≡ Some ends → length ends ≡ length ks
height_set None ks ends h = cc
height_set (Some kind) [] ends h = cc
height_set (Some kind) (k ∷ ks) ends h =
    ap length (sym (tested (fits kind k) (k ∷ ks) ends h).1)

height_get : (o : Option FieldCore) (ks ends : List StackKind) → after_get o ks ≡ Some ends →
    length ends ≡ suc (length ks - 1)
height_get None ks ends h = cc
height_get (Some field) [] ends h = cc
height_get (Some field) (k ∷ ks) ends h =
    let is : kind_of field.kind ∷ ks ≡ ends = (tested (is_base_of field k) (kind_of field.kind ∷ ks) ends h).1 in
    let long : length ends ≡ suc (length ks) = ap length (sym is) in
    omega arith

height_put : (o : Option FieldCore) (ks ends : List StackKind) → after_put o ks ≡ Some ends →
    length ends ≡ suc (length ks - 2)
height_put None ks ends h = cc
height_put (Some field) [] ends h = cc
height_put (Some field) (value ∷ []) ends h = cc
height_put (Some field) (value ∷ base ∷ ks) ends h =
    let is : value ∷ ks ≡ ends =
    (tested (is_base_of field base && fits field.kind value) (value ∷ ks) ends h).1 in
    let long : length ends ≡ suc (length ks) = ap length (sym is) in
    omega arith

height_popping : (n : ℕ) (kind : StackKind) (ks ends : List StackKind) → after_popping n kind ks ≡ Some ends →
    length ends ≡ suc (length ks - n)
height_popping n kind ks ends h =
    ap length (sym (tested (nat_le n (length ks)) (kind ∷ drop n ks) ends h).1) ∙ ap suc (length-drop n ks)

height_fitting : (kinds : List Kind) (ks rest : List StackKind) → below_fitting kinds ks ≡ Some rest →
    length rest ≡ length ks - length kinds
height_fitting [] ks rest h =
    let is : ks ≡ rest = cc in
    let long : length rest ≡ length ks = ap length (sym is) in
    omega arith
height_fitting (kind ∷ kinds) [] rest h = cc
height_fitting (kind ∷ kinds) (k ∷ ks) rest h =
    elim (fits kind k) as (λ b. cond b (below_fitting kinds ks) None ≡ Some rest →
    length rest ≡ suc (length ks) - suc (length kinds)) [
      | true ↦ λ e.
          let more : length rest ≡ length ks - length kinds = height_fitting kinds ks rest e in
          omega arith
      | false ↦ λ e. cc
    ] h

height_call : (n : ℕ) (o : Option Method) (ks ends : List StackKind) →
    elim o as (λ _. Bool) [ None ↦ false | Some method ↦ nat_eq n (length (taken_by method)) ] ≡ true →
    after_call o ks ≡ Some ends → length ends ≡ suc (length ks - n)
height_call n None ks ends right h = cc
height_call n (Some callee) ks ends right h =
    let on = went_on (below_fitting (reverse (taken_by callee)) ks) (λ rest. Some (kind_of callee.result ∷ rest)) ends
    h in
    let is : kind_of callee.result ∷ on.0 ≡ ends = cc in
    let count : n ≡ length (taken_by callee) = eqb-true n (length (taken_by callee)) right in
    let many : length (reverse (taken_by callee)) ≡ length (taken_by callee) = length-reverse (taken_by callee) in
    let below : length on.0 ≡ length ks - length (reverse (taken_by callee)) =
    height_fitting (reverse (taken_by callee)) ks on.0 on.1 in
    let long : length ends ≡ suc (length on.0) = ap length (sym is) in
    omega arith

-- ---- operations

module _ (method : Method) where
  -- so many values are popped, and one is pushed
  shape_replaced : (ks ends : List StackKind) (s t : State) (n : ℕ) (v : Value) →
      length ends ≡ suc (length ks - n) → IsShaped method ks s → Some (replaced s n v) ≡ Some t →
      IsShaped method ends t
  shape_replaced ks ends s t n v height p is =
      let same : replaced s n v ≡ t = cc in
      let left : length (drop n s.stack) ≡ length s.stack - n = length-drop n s.stack in
      let whole : length s.stack ≡ length ks = p.stack in
      let made : length (drop n s.stack) ≡ length ks - n = left ∙ ap (λ (i : ℕ). i - n) whole in
      subst (λ (x : State). IsShaped method ends x) same
      (record { vars = p.vars; stack = ap suc made ∙ sym height })

  shape_pushed : (ks ends : List StackKind) (s t : State) (v : Value) →
      length ends ≡ suc (length ks) → IsShaped method ks s → Some (pushed s v) ≡ Some t →
      IsShaped method ends t
  shape_pushed ks ends s t v height p is =
      let same : pushed s v ≡ t = cc in
      subst (λ (x : State). IsShaped method ends x) same
      (record { vars = p.vars; stack = ap suc p.stack ∙ sym height })

  shape_called : (g : FlowContext) (locked : Bool) (site : SiteId) (m : MethodId) (n : ℕ) (o : Option Known)
      (ks ends : List StackKind) (s t : State) →
      length ends ≡ suc (length ks - n) → IsShaped method ks s →
      (call_effects g locked site m n s o).next ≡ Some t → IsShaped method ends t
  shape_called g locked site m n None ks ends s t height p is = shape_replaced ks ends s t n _ height p is
  shape_called g locked site m n (Some Large) ks ends s t height p is = shape_replaced ks ends s t n _ height p is
  shape_called g locked site m n (Some (Whole found)) ks ends s t height p is =
      shape_replaced ks ends s t n _ height p is

  shape_set : (ks ends : List StackKind) (s t : State) (i : ℕ) (v : Value) →
      length ends ≡ length ks → IsShaped method ks s →
      Some (let u : State = record { vars = slice_set s.vars i v; stack = s.stack } in u) ≡ Some t →
      IsShaped method ends t
  shape_set ks ends s t i v height p is =
      let u : State = record { vars = slice_set s.vars i v; stack = s.stack } in
      let same : u ≡ t = cc in
      subst (λ (x : State). IsShaped method ends x) same
      (record { vars = length-set s.vars i v ∙ p.vars; stack = p.stack ∙ sym height })

  shape_popped : (ks ends : List StackKind) (s t : State) → length ends ≡ length ks - 1 → IsShaped method ks s →
      Some (popped s 1) ≡ Some t → IsShaped method ends t
  shape_popped ks ends s t height p is =
      let same : popped s 1 ≡ t = cc in
      let made : length (drop 1 s.stack) ≡ length ks - 1 =
      length-drop 1 s.stack ∙ ap (λ (i : ℕ). i - 1) p.stack in
      subst (λ (x : State). IsShaped method ends x) same (record { vars = p.vars; stack = made ∙ sym height })

height_dup : (core : Core) (method : Method) (ks ends : List StackKind) →
    kinds_after_op core method Dup ks ≡ Some ends →
    length ends ≡ suc (length ks)
height_dup core method [] ends h = cc
height_dup core method (k ∷ ks) ends h = let is : k ∷ k ∷ ks ≡ ends = cc in ap length (sym is)

height_drop : (core : Core) (method : Method) (ks ends : List StackKind) →
    kinds_after_op core method Drop ks ≡ Some ends →
    length ends ≡ length ks - 1
height_drop core method [] ends h = cc
height_drop core method (k ∷ ks) ends h =
    let is : ks ≡ ends = cc in
    let long : length ends ≡ length ks = ap length (sym is) in
    omega arith

height_one : (k : StackKind) (ks ends : List StackKind) → Some (k ∷ ks) ≡ Some ends → length ends ≡ suc (length ks)
height_one k ks ends h = let is : k ∷ ks ≡ ends = cc in ap length (sym is)

op_shape : (core : Core) (method : Method) (g : FlowContext) (locked : Bool) (site : SiteId) (op : CoreOp)
    (ks ends : List StackKind) (s t : State) → is_right_call core op ≡ true →
    kinds_after_op core method op ks ≡ Some ends → IsShaped method ks s →
    (op_effects g locked site op s).next ≡ Some t → IsShaped method ends t
op_shape core method g locked site (Push v) ks ends s t right h p is =
    shape_pushed method ks ends s t _ (height_push (variable_at method v) ks ends h) p is
op_shape core method g locked site (PushClass c) ks ends s t right h p is =
    shape_pushed method ks ends s t _ (height_one _ ks ends h) p is
op_shape core method g locked site PushPrim ks ends s t right h p is =
    shape_pushed method ks ends s t _ (height_one _ ks ends h) p is
op_shape core method g locked site PushNull ks ends s t right h p is =
    shape_pushed method ks ends s t _ (height_one _ ks ends h) p is
op_shape core method g locked site (New c) ks ends s t right h p is =
    shape_pushed method ks ends s t _ (height_one _ ks ends h) p is
op_shape core method g locked site Dup ks ends s t right h p is =
    shape_pushed method ks ends s t _ (height_dup core method ks ends h) p is
op_shape core method g locked site Drop ks ends s t right h p is =
    shape_popped method ks ends s t (height_drop core method ks ends h) p is
op_shape core method g locked site (Get f) ks ends s t right h p is =
    shape_replaced method ks ends s t 1 _ (height_get (field_at core f) ks ends h) p is
op_shape core method g locked site (Put f) ks ends s t right h p is =
    shape_replaced method ks ends s t 2 _ (height_put (field_at core f) ks ends h) p is
op_shape core method g locked site (Set v) ks ends s t right h p is =
    shape_set method ks ends s t v.0 _ (height_set (variable_at method v) ks ends h) p is
op_shape core method g locked site (Prim n) ks ends s t right h p is =
    shape_replaced method ks ends s t n _ (height_popping n _ ks ends h) p is
op_shape core method g locked site (Outside n) ks ends s t right h p is =
    shape_replaced method ks ends s t n _ (height_popping n _ ks ends h) p is
op_shape core method g locked site (Call m n) ks ends s t right h p is =
    shape_called method g locked site m n (g.known_of m) ks ends s t
    (height_call n (method_at core m) ks ends (and_parts (is_analysed core m) (takes core m n) right).1 h) p is
op_shape core method g locked site (Unread m n) ks ends s t right h p is =
    shape_replaced method ks ends s t n _ (height_popping n _ ks ends h) p is
op_shape core method g locked site Ret ks ends s t right h p is = cc
op_shape core method g locked site Throw ks ends s t right h p is = cc

-- ---- code

pub shape_alike : (method : Method) (ks ls : List StackKind) (s : State) → length ks ≡ length ls →
    IsShaped method ks s → IsShaped method ls s
shape_alike method ks ls s e p = record { vars = p.vars; stack = p.stack ∙ e }

pub shape_joined : (method : Method) (ks : List StackKind) (s t : State) → IsShaped method ks s →
    IsShaped method ks t → IsShaped method ks (joined_state s t)
shape_joined method ks s t p q =
    record {
      vars = length-joined_values s.vars t.vars (p.vars ∙ sym q.vars) ∙ p.vars;
      stack = length-joined_values s.stack t.stack (p.stack ∙ sym q.stack) ∙ p.stack;
    }

shape_beside : (method : Method) (left right joined : List StackKind) (l r : Option State) (t : State) →
    joined_stack left right ≡ Some joined → ((a : State) → l ≡ Some a → IsShaped method left a) →
    ((b : State) → r ≡ Some b → IsShaped method right b) → joined_next l r ≡ Some t → IsShaped method joined t
shape_beside method left right joined l r t joins on_left on_right is =
    let heights = same_heights left right joined joins in
    let by_left : (a : State) → l ≡ Some a → IsShaped method joined a = λ a e.
    shape_alike method left joined a heights.0 (on_left a e) in
    let by_right : (b : State) → r ≡ Some b → IsShaped method joined b = λ b e.
    shape_alike method right joined b heights.1 (on_right b e) in
    beside l r by_left by_right is
  where
    beside : (l r : Option State) → ((a : State) → l ≡ Some a → IsShaped method joined a) →
        ((b : State) → r ≡ Some b → IsShaped method joined b) → joined_next l r ≡ Some t → IsShaped method joined t
    beside None r by_left by_right is = by_right t is
    beside (Some a) None by_left by_right is = by_left t is
    beside (Some a) (Some b) by_left by_right is =
        let same : joined_state a b ≡ t = cc in
        subst (λ (x : State). IsShaped method joined x) same
        (shape_joined method joined a b (by_left a refl) (by_right b refl))

pub rounds_shape : (method : Method) (ks : List StackKind) (body : State → Effects) →
    ((s t : State) → IsShaped method ks s → (body s).next ≡ Some t → IsShaped method ks t) → (count : ℕ) (s : State) →
    IsShaped method ks s → IsShaped method ks (rounds body count s).0
rounds_shape method ks body keeps zero s p = p
rounds_shape method ks body keeps (suc count) s p =
    elim (body s).next as (λ o. (body s).next ≡ o → IsShaped method ks (elim o as (λ _. State × List Path) [
      | None ↦ rounds body count s
      | Some end ↦
          ((rounds body count (joined_state s end)).0, lost_state s end ++ (rounds body count (joined_state s end)).1)
    ]).0) [
      | None ↦ λ is. rounds_shape method ks body keeps count s p
      | Some end ↦ λ is.
          rounds_shape method ks body keeps count (joined_state s end)
          (shape_joined method ks s end p (keeps s end p is))
    ] refl

abbrev pub AreRight : Core → Tree → Type 0
AreRight core code = (o : Operation) → In (steps_of code) o → is_right_call core o.op ≡ true

pub flow_shape : (core : Core) (method : Method) (g : FlowContext) (code : Tree) (locked : Bool)
    (ks ends : List StackKind)
    (s t : State) → AreRight core code → kinds_after core method code ks ≡ Some ends → IsShaped method ks s →
    (flow g code locked s).next ≡ Some t → IsShaped method ends t
flow_shape core method g (Op site place op) locked ks ends s t right h p is =
    op_shape core method g locked site op ks ends s t
    (right (record { site = site; place = place; op = op }) (inl refl)) h p is
flow_shape core method g Skip locked ks ends s t right h p is =
    let kinds : ks ≡ ends = cc in
    let same : s ≡ t = cc in
    subst (λ (x : State). IsShaped method ends x) same
    (subst (λ (x : List StackKind). IsShaped method x s) kinds p)
flow_shape core method g (Seq first rest) locked ks ends s t right h p is =
    let k : AreInTurn core method first rest ks ends = then_kinds core method first rest ks ends h in
    let right_first : AreRight core first = λ o there. right o (in_left (steps_of first) (steps_of rest) o there) in
    let right_rest : AreRight core rest = λ o there. right o (in_right (steps_of first) (steps_of rest) o there) in
    after_cases (flow g first locked s) (flow g rest locked) (λ x. x.next ≡ Some t → IsShaped method ends t)
    (λ none e. absurd (none-some t (sym none ∙ e)))
    (λ m some e. flow_shape core method g rest locked k.between ends m t right_rest k.late
    (flow_shape core method g first locked ks k.between s m right_first k.early p some) e) is
flow_shape core method g (Choice left right) locked ks ends s t fits h p is =
    let k : AreBeside core method left right ks ends = either_kinds core method left right ks ends h in
    shape_beside method k.after_left k.after_right ends (flow g left locked s).next (flow g right locked s).next t
    k.joins
    (λ a e. flow_shape core method g left locked ks k.after_left s a
    (λ o there. fits o (in_left (steps_of left) (steps_of right) o there)) k.on_left p e)
    (λ b e. flow_shape core method g right locked ks k.after_right s b
    (λ o there. fits o (in_right (steps_of left) (steps_of right) o there)) k.on_right p e) is
flow_shape core method g (Loop body) locked ks ends s t right h p is =
    let k = loop-kinds core method body ks ends h in
    let same : (rounds (flow g body locked) (length s.vars + length s.stack + 1) s).0 ≡ t = cc in
    subst (λ (x : State). IsShaped method ends x) same
    (shape_alike method ks ends _ (ap length (sym k.0))
    (rounds_shape method ks (flow g body locked)
    (λ a b q e. flow_shape core method g body locked ks ks a b right k.1 q e)
    (length s.vars + length s.stack + 1) s p))
flow_shape core method g (Sync lock body) locked ks ends s t right h p is =
    let k : IsWithin core method body ks ends = held_kinds core method lock body ks ends h in
    let high : length ks ≡ suc (length k.below) = ap length (sym k.is) in
    let made : length (drop 1 s.stack) ≡ length ks - 1 =
    length-drop 1 s.stack ∙ ap (λ (i : ℕ). i - 1) p.stack in
    let less : length ks - 1 ≡ length k.below = omega arith in
    flow_shape core method g body true k.below ends (popped s 1) t right k.inside
    (record { vars = p.vars; stack = made ∙ less }) is

pub flow-lengths : (core : Core) (method : Method) (table : Table) (main : Bool) (code : Tree) (locked : Bool)
    (kinds ends : List StackKind) (s t : State) → AreRight core code → kinds_after core method code kinds ≡ Some ends →
    length s.stack ≡ length kinds → length s.vars ≡ length method.variables →
    (flow (given_of core table main) code locked s).next ≡ Some t →
    (length t.stack ≡ length ends) × (length t.vars ≡ length method.variables)
flow-lengths core method table main code locked kinds ends s t right h stack vars is =
    let p : IsShaped method ends t =
    flow_shape core method (given_of core table main) code locked kinds ends s t right h
    (record { vars = vars; stack = stack }) is in
    (p.stack, p.vars)
