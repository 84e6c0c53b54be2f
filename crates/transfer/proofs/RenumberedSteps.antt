-- One operation, with other numbers for classes and fields.
use Rattle.std.proofs.Common.{◌≡◌, ℕ, Bool, true, false, cond, List, [], ◌∷◌, ◌++◌, Option, None, Some, map}
use Rattle.std.proofs.Common.{nat_eq, option_map, slice_index_or, slice_set, refl, sym, ap, subst, ◌∙◌}
use Rattle.std.proofs.lemmas.Bool.{and_parts, eqb-true, false≢true}
use Rattle.std.proofs.lemmas.List.{drop-map, map-append, map-set}
use Rattle.std.specs.Cmp.Lexicographic.{pointwise}
use Rattle.racer_base.specs.declared.ids.ClassId.{ClassId}
use Rattle.racer_base.specs.declared.ids.FieldId.{FieldId}
use Rattle.racer_base.specs.declared.ids.MethodId.{MethodId}
use Rattle.racer_base.specs.declared.ids.SiteId.{SiteId}
use Rattle.racer_base.specs.declared.ids.Touch.{Touch}
use Rattle.racer_base.specs.declared.ids.Touch.TheVariants.{Read, Write}
use Rattle.access_paths.specs.declared.path.Root.TheVariants.{Class}
use Rattle.access_paths.specs.declared.path.Path.{Path}
use Rattle.access_paths.specs.Paths.{alone}
use Rattle.owner_domain.specs.declared.value.Value.{Value}
use Rattle.owner_domain.specs.declared.value.Value.TheVariants.{Owned, Named, Unnamed}
use Rattle.owner_domain.specs.declared.value.State.{State}
use Rattle.owner_domain.specs.Values.{field_value, names_of}
use Rattle.core_code.specs.declared.code.Op.{Op as CoreOp}
use Rattle.core_code.specs.declared.code.Op.TheVariants.{Push, PushClass, PushPrim, PushNull, New, Dup, Drop, Get, Put}
use Rattle.core_code.specs.declared.code.Op.TheVariants.{Set, Prim, Outside, Call, Unread, Ret, Throw}
use Rattle.core_code.specs.Calls.{called_by}
use Rattle.core_code.specs.Core.{Core}
use Rattle.access_domain.specs.declared.access.Access.{Access}
use Rattle.access_domain.specs.Findings.{Findings, Known, Large, Whole, Table, outcome_from}
use Rattle.access_domain.specs.FlowContext.{FlowContext, given_of, is_static_method}
use Rattle.access_domain.specs.Operations.{Effects, call_effects, found_effects, goes_on, op_effects, passed_from}
use Rattle.access_domain.specs.Operations.{popped, pushed, read_value, record_of, replaced, slot_of, stored_paths, top}
use Rattle.access_domain.specs.Substitution.{actuals_from, substituted, touched}
use Rattle.transfer_steps.proofs.Adding.{Agree}
use Rattle.transfer_ties.specs.Forms.{same_op}
use Rattle.transfer_ties.specs.Ties.{ties_callees, ties_classes, ties_fields}
use Rattle.transfer.proofs.Renumbering.{Renumbering, either-by, field_value-by, names_of-by, path_by, state_by}
use Rattle.transfer.proofs.Renumbering.{value_by}
use Rattle.transfer.proofs.RenumberedCalls.{HaveSameFields, IsSameField, access_by, actuals-by, findings_by, known_by}
use Rattle.transfer.proofs.RenumberedCalls.{slot-by, substituted-by, touched-by}
use Rattle.transfer.proofs.RenumberedParts.{AgreeBy, effects_by}
use Rattle.transfer.proofs.Tables.{agree-itself, known-agree}

pub equal-agree : (r : Renumbering) (e f : Effects) → e ≡ effects_by r f → AgreeBy r e f
equal-agree r e f same = subst (λ (end : Effects). Agree e end) same (agree-itself e)

pub goes_on-agree : (r : Renumbering) (s t : State) → s ≡ state_by r t → AgreeBy r (goes_on s) (goes_on t)
goes_on-agree r s t same = equal-agree r (goes_on s) (goes_on t) (ap goes_on same)

-- ---- states

pub popped-by : (r : Renumbering) (s : State) (n : ℕ) → popped (state_by r s) n ≡ state_by r (popped s n)
popped-by r s n = λ i. record { vars = map (value_by r) s.vars; stack = drop-map (value_by r) n s.stack i }

replaced-by : (r : Renumbering) (s : State) (n : ℕ) (v : Value) →
    replaced (state_by r s) n (value_by r v) ≡ state_by r (replaced s n v)
replaced-by r s n v =
    (λ i. record { vars = map (value_by r) s.vars; stack = value_by r v ∷ drop-map (value_by r) n s.stack i })

pushed-agree : (r : Renumbering) (s : State) (v w : Value) → v ≡ value_by r w →
    AgreeBy r (goes_on (pushed (state_by r s) v)) (goes_on (pushed s w))
pushed-agree r s v w same =
    goes_on-agree r (pushed (state_by r s) v) (pushed s w) (ap (λ (x : Value). pushed (state_by r s) x) same)

replaced-agree : (r : Renumbering) (s : State) (n : ℕ) →
    AgreeBy r (goes_on (replaced (state_by r s) n Unnamed)) (goes_on (replaced s n Unnamed))
replaced-agree r s n =
    goes_on-agree r (replaced (state_by r s) n Unnamed) (replaced s n Unnamed) (replaced-by r s n Unnamed)

-- ---- reads and writes

read_value-by : (r : Renumbering) (g h : FlowContext) (v : Value) (f : FieldId) → IsSameField r g h f →
    read_value h (value_by r v) (r.field f) ≡ value_by r (read_value g v f)
read_value-by r g h v f same =
    (λ i. cond (same.plain i) Unnamed (field_value-by r v f i))
    ∙ either-by (value_by r) (g.is_plain_field f) Unnamed (field_value v f)

-- the record of a path that may be there
abbrev own_at : Touch → Bool → Bool → SiteId → Option Path → List Access
own_at kind main locked site None = []
own_at kind main locked site (Some p) =
    record { path = p; kind = kind; locked = locked; main = main; site = site; below = None } ∷ []

own_at-by : (r : Renumbering) (kind : Touch) (main locked : Bool) (site : SiteId) (o : Option Path) →
    own_at kind main locked site (option_map (path_by r) o) ≡ map (access_by r) (own_at kind main locked site o)
own_at-by r kind main locked site None = refl
own_at-by r kind main locked site (Some p) = refl

record_of-by : (r : Renumbering) (g h : FlowContext) (kind : Touch) (locked : Bool) (site : SiteId) (v : Value)
    (f : FieldId) → h.main ≡ g.main → IsSameField r g h f →
    record_of h kind locked site (value_by r v) (r.field f) ≡ map (access_by r) (record_of g kind locked site v f)
record_of-by r g h kind locked site v f thread same =
    let own : List Access = own_at kind g.main locked site (touched g v f) in
    (λ i. cond (same.recorded i) (own_at kind (thread i) locked site (touched-by r g h v f same i)) [])
    ∙ ap (λ (records : List Access). cond (g.is_recorded f) records [])
    (own_at-by r kind g.main locked site (touched g v f))
    ∙ either-by (map (access_by r)) (g.is_recorded f) own []

stored_paths-by : (r : Renumbering) (base : Value) (f : FieldId) (v : Value) →
    stored_paths (value_by r base) (r.field f) (value_by r v) ≡ map (path_by r) (stored_paths base f v)
stored_paths-by r base f v =
    (λ i. names_of (field_value-by r base f i) ++ names_of-by r v i)
    ∙ ap (λ (paths : List Path). paths ++ map (path_by r) (names_of v)) (names_of-by r (field_value base f))
    ∙ sym (map-append (path_by r) (names_of (field_value base f)) (names_of v))

abbrev got : FlowContext → Bool → SiteId → State → Value → FieldId → Effects
got g locked site s base f =
    record {
      next = Some (replaced s 1 (read_value g base f));
      records = record_of g Read locked site base f;
      wobbly = [];
      result = None;
      large = false;
    }

get-agree : (r : Renumbering) (g h : FlowContext) (locked : Bool) (site : SiteId) (f : FieldId) (s : State) →
    h.main ≡ g.main → IsSameField r g h f →
    AgreeBy r (op_effects h locked site (Get (r.field f)) (state_by r s)) (op_effects g locked site (Get f) s)
get-agree r g h locked site f s thread same =
    let next : replaced (state_by r s) 1 (read_value h (value_by r (top s)) (r.field f)) ≡
    state_by r (replaced s 1 (read_value g (top s) f)) =
    ap (λ (v : Value). replaced (state_by r s) 1 v) (read_value-by r g h (top s) f same)
    ∙ replaced-by r s 1 (read_value g (top s) f) in
    equal-agree r (got h locked site (state_by r s) (top (state_by r s)) (r.field f)) (got g locked site s (top s) f)
    (ap (λ (base : Value). got h locked site (state_by r s) base (r.field f)) (slot-by r s.stack 0)
    ∙ (λ i. record {
      next = Some (next i);
      records = record_of-by r g h Read locked site (top s) f thread same i;
      wobbly = [];
      result = None;
      large = false;
    }))

abbrev stored : FlowContext → Bool → SiteId → State → Value → FieldId → Value → Effects
stored g locked site s base f v =
    record {
      next = Some (replaced s 2 v);
      records = record_of g Write locked site base f;
      wobbly = stored_paths base f v;
      result = None;
      large = false;
    }

put-agree : (r : Renumbering) (g h : FlowContext) (locked : Bool) (site : SiteId) (f : FieldId) (s : State) →
    h.main ≡ g.main → IsSameField r g h f →
    AgreeBy r (op_effects h locked site (Put (r.field f)) (state_by r s)) (op_effects g locked site (Put f) s)
put-agree r g h locked site f s thread same =
    let base : Value = slot_of s 1 in
    equal-agree r
    (stored h locked site (state_by r s) (slot_of (state_by r s) 1) (r.field f) (top (state_by r s)))
    (stored g locked site s base f (top s))
    ((λ i. stored h locked site (state_by r s) (slot-by r s.stack 1 i) (r.field f) (slot-by r s.stack 0 i))
    ∙ (λ i. record {
      next = Some (replaced-by r s 2 (top s) i);
      records = record_of-by r g h Write locked site base f thread same i;
      wobbly = stored_paths-by r base f (top s) i;
      result = None;
      large = false;
    }))

set-by : (r : Renumbering) (s : State) (i j : ℕ) → i ≡ j →
    slice_set (map (value_by r) s.vars) j (top (state_by r s)) ≡ map (value_by r) (slice_set s.vars i (top s))
set-by r s i j same =
    (λ k. slice_set (map (value_by r) s.vars) (sym same k) (slot-by r s.stack 0 k))
    ∙ sym (map-set (value_by r) s.vars i (top s))

-- ---- calls

abbrev pub HaveKnownFields : Renumbering → FlowContext → FlowContext → Option Known → Type 0
HaveKnownFields r g h None = Unit {0}
HaveKnownFields r g h (Some Large) = Unit {0}
HaveKnownFields r g h (Some (Whole f)) = HaveSameFields r g h f.records

-- what is known of a callee has the outcome that is known of the other's, with these numbers
pub record IsKnownBy (r : Renumbering) (g h : FlowContext) (old new : Option Known) : Type 0 where
  pub same : option_map outcome_from new ≡ option_map outcome_from (option_map (known_by r) old)
  pub fields : HaveKnownFields r g h old

found_effects-by : (r : Renumbering) (f : Findings) (s : State) (n : ℕ) →
    found_effects (findings_by r f) (state_by r s) n ≡ effects_by r (found_effects f s n)
found_effects-by r f s n =
    (λ i. record {
      next = Some (replaced-by r s n f.result i);
      records = map (access_by r) f.records;
      wobbly = map (path_by r) f.wobbly;
      result = None;
      large = false;
    })

call_effects-by : (r : Renumbering) (g h : FlowContext) (locked : Bool) (site : SiteId) (m k : MethodId) (n : ℕ)
    (s : State) (o : Option Known) → h.main ≡ g.main → h.is_static k ≡ g.is_static m → HaveKnownFields r g h o →
    call_effects h locked site k n (state_by r s) (option_map (known_by r) o) ≡
    effects_by r (call_effects g locked site m n s o)
call_effects-by r g h locked site m k n s None thread static same = ap goes_on (replaced-by r s n Unnamed)
call_effects-by r g h locked site m k n s (Some Large) thread static same =
    (λ i. record {
      next = Some (replaced-by r s n Unnamed i);
      records = [];
      wobbly = [];
      result = None;
      large = true;
    })
call_effects-by r g h locked site m k n s (Some (Whole f)) thread static same =
    let actuals = actuals_from (g.is_static m) (passed_from s n) in
    let found : Findings = substituted g actuals f locked site in
    (λ i.
    found_effects
    (substituted h (actuals_from (static i) (passed_from (state_by r s) n)) (findings_by r f) locked site)
    (state_by r s) n)
    ∙ (λ i.
    found_effects (substituted h (actuals-by r s n (g.is_static m) i) (findings_by r f) locked site) (state_by r s) n)
    ∙ ap (λ (end : Findings). found_effects end (state_by r s) n)
    (substituted-by r g h actuals f locked site thread same)
    ∙ found_effects-by r found s n

-- ---- operations

-- a renumbering takes what is tied in two programs to its partner, and what is known of the callees is the same
pub record AreAlike (r : Renumbering) (p q : Core) (t u : Table) (main : Bool) (R : MethodId → MethodId → Bool) :
    Type 0 where
  pub classes : (c d : ClassId) → ties_classes p q c d ≡ true → r.class c ≡ d
  pub fields : (f g : FieldId) → ties_fields p q f g ≡ true → r.field f ≡ g
  pub same : (f g : FieldId) → ties_fields p q f g ≡ true → IsSameField r (given_of p t main) (given_of q u main) f
  pub static : (m n : MethodId) → ties_callees p q m n ≡ true → is_static_method q n ≡ is_static_method p m
  pub known : (m n : MethodId) → R m n ≡ true → IsKnownBy r (given_of p t main) (given_of q u main) (t m) (u n)

module _ (r : Renumbering) (p q : Core) (t u : Table) (main : Bool) (R : MethodId → MethodId → Bool)
    (a : AreAlike r p q t u main R) where
  abbrev old : FlowContext
  old = given_of p t main

  abbrev new : FlowContext
  new = given_of q u main

  call-agree : (locked : Bool) (site : SiteId) (m n : MethodId) (k l : ℕ) (s : State) →
      ties_callees p q m n ≡ true → k ≡ l → R m n ≡ true →
      AgreeBy r (op_effects new locked site (Call n l) (state_by r s)) (op_effects old locked site (Call m k) s)
  call-agree locked site m n k l s tied same known =
      let is : IsKnownBy r old new (t m) (u n) = a.known m n known in
      subst (λ (i : ℕ). AgreeBy r (op_effects new locked site (Call n i) (state_by r s))
      (op_effects old locked site (Call m k) s)) same
      (subst (λ (end : Effects). Agree (call_effects new locked site n k (state_by r s) (u n)) end)
      (call_effects-by r old new locked site m n k s (t m) refl (a.static m n tied) is.fields)
      (known-agree q u u main locked site n k (state_by r s) (u n) (option_map (known_by r) (t m)) is.same))

  pub op-agree-by : (op more : CoreOp) (locked : Bool) (site : SiteId) (s : State) → same_op p q op more ≡ true →
      pointwise R (called_by op) (called_by more) ≡ true →
      AgreeBy r (op_effects new locked site more (state_by r s)) (op_effects old locked site op s)
  op-agree-by (Push v) (Push w) locked site s e called =
      pushed-agree r s (slice_index_or (map (value_by r) s.vars) w.0 Unnamed) (slice_index_or s.vars v.0 Unnamed)
      (ap (λ (i : ℕ). slice_index_or (map (value_by r) s.vars) i Unnamed) (sym (eqb-true v.0 w.0 e))
      ∙ slot-by r s.vars v.0)
  op-agree-by (PushClass c) (PushClass d) locked site s e called =
      pushed-agree r s (Named (alone (Class d))) (Named (alone (Class c)))
      (ap (λ (x : ClassId). Named (alone (Class x))) (sym (a.classes c d e)))
  op-agree-by PushPrim PushPrim locked site s e called = pushed-agree r s Unnamed Unnamed refl
  op-agree-by PushNull PushNull locked site s e called = pushed-agree r s Owned Owned refl
  op-agree-by (New c) (New d) locked site s e called = pushed-agree r s Owned Owned refl
  op-agree-by Dup Dup locked site s e called = pushed-agree r s (top (state_by r s)) (top s) (slot-by r s.stack 0)
  op-agree-by Drop Drop locked site s e called =
      goes_on-agree r (popped (state_by r s) 1) (popped s 1) (popped-by r s 1)
  op-agree-by (Get f) (Get g) locked site s e called =
      subst (λ (x : FieldId). AgreeBy r (op_effects new locked site (Get x) (state_by r s))
      (op_effects old locked site (Get f) s)) (a.fields f g e)
      (get-agree r old new locked site f s refl (a.same f g e))
  op-agree-by (Put f) (Put g) locked site s e called =
      subst (λ (x : FieldId). AgreeBy r (op_effects new locked site (Put x) (state_by r s))
      (op_effects old locked site (Put f) s)) (a.fields f g e)
      (put-agree r old new locked site f s refl (a.same f g e))
  op-agree-by (Set v) (Set w) locked site s e called =
      goes_on-agree r
      (record { vars = slice_set (map (value_by r) s.vars) w.0 (top (state_by r s)); stack = map (value_by r) s.stack })
      (record { vars = slice_set s.vars v.0 (top s); stack = s.stack })
      (λ i. record { vars = set-by r s v.0 w.0 (eqb-true v.0 w.0 e) i; stack = map (value_by r) s.stack })
  op-agree-by (Prim k) (Prim l) locked site s e called =
      subst (λ (n : ℕ). AgreeBy r (goes_on (replaced (state_by r s) n Unnamed)) (goes_on (replaced s k Unnamed)))
      (eqb-true k l e) (replaced-agree r s k)
  op-agree-by (Outside k) (Outside l) locked site s e called =
      subst (λ (n : ℕ). AgreeBy r (goes_on (replaced (state_by r s) n Unnamed)) (goes_on (replaced s k Unnamed)))
      (eqb-true k l e) (replaced-agree r s k)
  op-agree-by (Call m k) (Call n l) locked site s e called =
      let parts = and_parts (ties_callees p q m n) (nat_eq k l) e in
      call-agree locked site m n k l s parts.0 (eqb-true k l parts.1) (and_parts (R m n) true called).0
  op-agree-by (Unread m k) (Unread n l) locked site s e called =
      subst (λ (n : ℕ). AgreeBy r (goes_on (replaced (state_by r s) n Unnamed)) (goes_on (replaced s k Unnamed)))
      (eqb-true k l (and_parts (ties_callees p q m n) (nat_eq k l) e).1) (replaced-agree r s k)
  op-agree-by Ret Ret locked site s e called =
      equal-agree r
      (record { next = None; records = []; wobbly = []; result = Some (top (state_by r s)); large = false })
      (record { next = None; records = []; wobbly = []; result = Some (top s); large = false })
      (λ i. record { next = None; records = []; wobbly = []; result = Some (slot-by r s.stack 0 i); large = false })
  op-agree-by Throw Throw locked site s e called =
      equal-agree r (record { next = None; records = []; wobbly = []; result = None; large = false })
      (record { next = None; records = []; wobbly = []; result = None; large = false }) refl
  op-agree-by _ _ locked site s e called = absurd (false≢true e)
