-- The records of one operation: each is that of a field which it touches, or one of the method that it calls.
use Rattle.std.proofs.Common.{◌≡◌, ℕ, Bool, true, false, cond, ◌||◌, ◌⊎◌, inl, inr, ⊎_elim, List, [], ◌∷◌, Option, None}
use Rattle.std.proofs.Common.{Some, slice_get, zero-add, refl, sym, ap, ◌∙◌}
use Rattle.std.specs.List.{enumerate_from, flat_map}
use Rattle.racer_base.specs.declared.ids.FieldId.{FieldId}
use Rattle.racer_base.specs.declared.ids.MethodId.{MethodId}
use Rattle.racer_base.specs.declared.ids.SiteId.{SiteId}
use Rattle.racer_base.specs.declared.ids.Touch.{Touch}
use Rattle.racer_base.specs.declared.ids.Touch.TheVariants.{Read, Write}
use Rattle.access_paths.specs.declared.path.Path.{Path}
use Rattle.owner_domain.specs.declared.value.State.{State}
use Rattle.owner_domain.specs.declared.value.Value.{Value}
use Rattle.core_code.specs.declared.code.Op.{Op as CoreOp}
use Rattle.core_code.specs.declared.code.Op.TheVariants.{Push, PushClass, PushPrim, PushNull, New, Dup, Drop, Get, Put}
use Rattle.core_code.specs.declared.code.Op.TheVariants.{Set, Prim, Outside, Call, Unread, Ret, Throw}
use Rattle.core_code.proofs.Membership.{In, in_flat_map, in_enumerate_from}
use Rattle.access_domain.specs.declared.access.Access.{Access}
use Rattle.access_domain.specs.Findings.{Findings, Known, Large, Whole}
use Rattle.access_domain.specs.FlowContext.{FlowContext}
use Rattle.access_domain.specs.Operations.{record_of, passed_from, slot_of, top, call_effects, op_effects}
use Rattle.access_domain.specs.Origins.{touch_of, field_of}
use Rattle.access_domain.specs.Records.{same_key}
use Rattle.access_domain.specs.Substitution.{Actuals, touched, actuals_from, substituted_path, substituted_record}
use Rattle.access_domain.specs.Substitution.{substituted}
use Rattle.access_domain.proofs.Members.{firsts_give}

-- ---- the record of a read or a write

abbrev own_record : FlowContext → Touch → Bool → SiteId → Path → Access
own_record g kind locked site p =
    record { path = p; kind = kind; locked = locked; main = g.main; site = site; below = None }

-- the record is that of field f of a value
pub record IsOfField (g : FlowContext) (kind : Touch) (locked : Bool) (site : SiteId) (base : Value) (f : FieldId)
    (a : Access) : Type 0
  where
    pub recorded : g.is_recorded f ≡ true
    pub path : touched g base f ≡ Some a.path
    pub is : own_record g kind locked site a.path ≡ a

pub field_record : (g : FlowContext) (kind : Touch) (locked : Bool) (site : SiteId) (base : Value) (f : FieldId)
    (a : Access) → In (record_of g kind locked site base f) a → IsOfField g kind locked site base f a
field_record g kind locked site base f a h =
    elim (g.is_recorded f) as (λ b. g.is_recorded f ≡ b → In (cond b (made (touched g base f)) []) a →
    IsOfField g kind locked site base f a) [
      | true ↦ λ is there. at is (touched g base f) refl there
      | false ↦ λ is there. absurd there
    ] refl h
  where
    made : Option Path → List Access
    made o = elim o [ None ↦ [] | Some p ↦ own_record g kind locked site p ∷ [] ]

    at : g.is_recorded f ≡ true → (o : Option Path) → touched g base f ≡ o → In (made o) a →
        IsOfField g kind locked site base f a
    at recorded None is there = absurd there
    at recorded (Some p) is there =
        ⊎_elim
        (λ e. record {
          recorded = recorded;
          path = is ∙ ap (λ (r : Access). Some r.path) e;
          is = ap (λ (r : Access). own_record g kind locked site r.path) (sym e) ∙ e;
        })
        (λ none. absurd none) there

-- ---- the record of a callee

abbrev brought_record : FlowContext → Bool → SiteId → ℕ → Access → Path → Access
brought_record g locked site index inner p =
    record {
      path = p;
      kind = inner.kind;
      locked = inner.locked || locked;
      main = inner.main || g.main;
      site = site;
      below = Some index;
    }

-- the record is one of what is found of a callee, in the caller's values
pub record IsThrough (g : FlowContext) (actuals : Actuals) (found : Findings) (locked : Bool) (site : SiteId)
    (a : Access) : Type 0
  where
    pub index : ℕ
    pub inner : Access
    pub has : slice_get found.records index ≡ Some inner
    pub path : substituted_path g actuals inner.path ≡ Some a.path
    pub is : brought_record g locked site index inner a.path ≡ a

brought : (g : FlowContext) (actuals : Actuals) (locked : Bool) (site : SiteId) (e : ℕ × Access) (a : Access)
    (o : Option Path) → substituted_path g actuals e.1.path ≡ o →
    In (elim o as (λ _. List Access) [ None ↦ [] | Some p ↦ brought_record g locked site e.0 e.1 p ∷ [] ]) a →
    (substituted_path g actuals e.1.path ≡ Some a.path) × (brought_record g locked site e.0 e.1 a.path ≡ a)
brought g actuals locked site e a None is there = absurd there
brought g actuals locked site e a (Some p) is there =
    ⊎_elim
    (λ same. (
      is ∙ ap (λ (r : Access). Some r.path) same,
      ap (λ (r : Access). brought_record g locked site e.0 e.1 r.path) (sym same) ∙ same,
    ))
    (λ none. absurd none) there

pub callee_record : (g : FlowContext) (actuals : Actuals) (found : Findings) (locked : Bool) (site : SiteId)
    (a : Access) → In (substituted g actuals found locked site).records a → IsThrough g actuals found locked site a
callee_record g actuals found locked site a h =
    let all : List Access = flat_map (substituted_record g actuals locked site) (enumerate_from 0 found.records) in
    let one = in_flat_map (substituted_record g actuals locked site) (enumerate_from 0 found.records) a
    (firsts_give same_key all a h) in
    let e : ℕ × Access = one.0 in
    let number = in_enumerate_from 0 found.records e one.1 in
    let index : number.0 ≡ e.0 = sym (zero-add number.0) ∙ sym number.1 in
    let made = brought g actuals locked site e a (substituted_path g actuals e.1.path) refl one.2 in
    record {
      index = e.0;
      inner = e.1;
      has = ap (slice_get found.records) (sym index) ∙ number.2;
      path = made.0;
      is = made.1;
    }

-- ---- operations

-- the operation touches a field of a value on the stack
pub record IsByTouch (g : FlowContext) (locked : Bool) (site : SiteId) (op : CoreOp) (s : State) (a : Access) : Type 0
  where
    pub kind : Touch
    pub field : FieldId
    pub slot : ℕ
    pub touches : touch_of op ≡ Some kind
    pub names : field_of op ≡ Some field
    pub made : IsOfField g kind locked site (slot_of s slot) field a

-- the operation calls a method of which the record is found
pub record IsByCall (g : FlowContext) (locked : Bool) (site : SiteId) (op : CoreOp) (s : State) (a : Access) : Type 0
  where
    pub callee : MethodId
    pub count : ℕ
    pub calls : op ≡ Call callee count
    pub found : Findings
    pub known : g.known_of callee ≡ Some (Whole found)
    pub made : IsThrough g (actuals_from (g.is_static callee) (passed_from s count)) found locked site a

abbrev pub IsByOp : FlowContext → Bool → SiteId → CoreOp → State → Access → Type 0
IsByOp g locked site op s a = IsByTouch g locked site op s a ⊎ IsByCall g locked site op s a

called : (g : FlowContext) (locked : Bool) (site : SiteId) (m : MethodId) (n : ℕ) (s : State) (a : Access)
    (o : Option Known) → g.known_of m ≡ o → In (call_effects g locked site m n s o).records a →
    IsByOp g locked site (Call m n) s a
called g locked site m n s a None known h = absurd h
called g locked site m n s a (Some Large) known h = absurd h
called g locked site m n s a (Some (Whole found)) known h =
    inr (record {
      callee = m;
      count = n;
      calls = refl;
      found = found;
      known = known;
      made = callee_record g (actuals_from (g.is_static m) (passed_from s n)) found locked site a h;
    })

pub op_record : (g : FlowContext) (locked : Bool) (site : SiteId) (op : CoreOp) (s : State) (a : Access) →
    In (op_effects g locked site op s).records a → IsByOp g locked site op s a
op_record g locked site (Get f) s a h =
    inl (record {
      kind = Read;
      field = f;
      slot = 0;
      touches = refl;
      names = refl;
      made = field_record g Read locked site (top s) f a h;
    })
op_record g locked site (Put f) s a h =
    inl (record {
      kind = Write;
      field = f;
      slot = 1;
      touches = refl;
      names = refl;
      made = field_record g Write locked site (slot_of s 1) f a h;
    })
op_record g locked site (Call m n) s a h = called g locked site m n s a (g.known_of m) refl h
op_record g locked site (Push v) s a h = absurd h
op_record g locked site (PushClass c) s a h = absurd h
op_record g locked site PushPrim s a h = absurd h
op_record g locked site PushNull s a h = absurd h
op_record g locked site (New c) s a h = absurd h
op_record g locked site Dup s a h = absurd h
op_record g locked site Drop s a h = absurd h
op_record g locked site (Set v) s a h = absurd h
op_record g locked site (Prim n) s a h = absurd h
op_record g locked site (Outside n) s a h = absurd h
op_record g locked site (Unread m n) s a h = absurd h
op_record g locked site Ret s a h = absurd h
op_record g locked site Throw s a h = absurd h
