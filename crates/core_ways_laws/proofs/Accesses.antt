-- What comes next at the site of a record of a Get or a Put is the record's access.
use Rattle.std.proofs.Common.{◌≡◌, ℕ, Bool, true, false, ◌&&◌, ⊎_elim, List, [], ◌∷◌, Option, None, Some}
use Rattle.std.proofs.Common.{refl, sym, ap, subst, ◌∙◌}
use Rattle.std.proofs.lemmas.Bool.{and_parts}
use Rattle.racer_base.specs.declared.ids.FieldId.{FieldId}
use Rattle.racer_base.specs.declared.ids.SiteId.{SiteId}
use Rattle.racer_base.specs.declared.ids.Touch.{Touch}
use Rattle.racer_base.specs.declared.ids.Touch.TheVariants.{Read, Write}
use Rattle.access_paths.specs.declared.path.Path.{Path}
use Rattle.access_paths.specs.Paths.{is_some_root, last_of}
use Rattle.owner_domain.specs.declared.value.State.{State}
use Rattle.owner_domain.specs.declared.value.Value.{Value as Called}
use Rattle.owner_domain.specs.declared.value.Value.TheVariants.{Named}
use Rattle.access_domain.specs.declared.access.Access.{Access}
use Rattle.access_domain.specs.Findings.{Table}
use Rattle.access_domain.specs.FlowContext.{FlowContext, given_of}
use Rattle.access_domain.specs.Operations.{op_effects, record_of, slot_of, top}
use Rattle.access_domain.specs.Substitution.{touched}
use Rattle.access_domain.proofs.OperationRecords.{IsOfField, field_record}
use Rattle.access_domain.proofs.TouchedPaths.{front_added, last_added, touched_cases}
use Rattle.core_code.specs.declared.code.Op.{Op as CoreOp}
use Rattle.core_code.specs.declared.code.Op.TheVariants.{Push, PushClass, PushPrim, PushNull, New, Dup, Drop, Get, Put}
use Rattle.core_code.specs.declared.code.Op.TheVariants.{Set, Prim, Outside, Call, Unread, Ret, Throw}
use Rattle.core_code.specs.declared.parts.FieldCore.{FieldCore}
use Rattle.core_code.specs.Calls.{called_by}
use Rattle.core_code.specs.Core.{Core, Method}
use Rattle.core_code.specs.KindCheck.{after_get, after_put, field_at, is_base_of, kinds_after_op}
use Rattle.core_code.specs.Kinds.{StackKind, fits, kind_of}
use Rattle.core_code.proofs.Membership.{In}
use Rattle.core_code.proofs.KindLemmas.{where-is}
use Rattle.core_ways_laws.specs.Arrivals.{Arrivals, arrival_at}
use Rattle.core_ways_laws.specs.Values.{Point}
use Rattle.core_ways_laws.specs.Kept.{IsMet}
use Rattle.core_ways_laws.specs.Meets.{base_path, base_value, touching}
use Rattle.core_ways_laws.specs.Names.{Naming, name_of}
use Rattle.core_ways_laws.specs.Places.{IsFrame, IsPlace, IsStore, is_strong}
use Rattle.core_ways_laws.specs.Quiet.{Quietness}
use Rattle.core_ways_laws.proofs.KindFacts.{strong_base}
use Rattle.core_ways_laws.proofs.PlaceLists.{place_slot}

-- ---- the path of a record

-- a path of field f of a value, or of some object
pub record IsPathOf (base : Called) (f : FieldId) (p : Path) : Type 0 where
  pub last : last_of p.fields ≡ Some f
  pub named : is_some_root p.root ≡ false → base ≡ Named (base_path p)

pub touched-is : (g : FlowContext) (base : Called) (f : FieldId) (p : Path) → touched g base f ≡ Some p →
    IsPathOf base f p
touched-is g base f p e =
    ⊎_elim
    (λ some. subst (λ (x : Path). IsPathOf base f x) some (record { last = refl; named = λ known. absurd cc }))
    (λ of.
    subst (λ (x : Path). IsPathOf base f x) (sym of.2.is) (record {
      last = last_added of.0.fields f;
      named = λ known.
          of.1
          ∙ (λ i. let x : Path = record { root = of.0.root; fields = sym (front_added of.0.fields f) i } in Named x);
    }))
    (touched_cases g base f p e)

-- ---- the access

module _ (core : Core) (quiet : Quietness core) (n : Naming) (method : Method) (table : Table) (main locked : Bool)
    (arrivals : Arrivals) (site : SiteId) where
  met : (kind : Touch) (f : FieldId) (kb : StackKind) (base : Called) (at : Point) (r : Access) → is_strong kb ≡ true →
      IsPlace core quiet kb (name_of n base) (base_value kind at) → IsStore core quiet at.store →
      In (record_of (given_of core table main) kind locked site base f) r →
      IsMet core quiet n r (arrival_at core arrivals r.below (touching kind f) at)
  met kind f kb base at r strong place stored has =
      let of : IsOfField (given_of core table main) kind locked site base f r =
      field_record (given_of core table main) kind locked site base f r has in
      let same_kind : kind ≡ r.kind = ap (λ (x : Access). x.kind) of.is in
      let path : IsPathOf base f r.path = touched-is (given_of core table main) base f r.path of.path in
      subst (λ (below : Option ℕ). IsMet core quiet n r (arrival_at core arrivals below (touching kind f) at))
      (ap (λ (x : Access). x.below) of.is) (
        stored,
        record {
          field = f;
          last = path.last;
          op = ap (λ (k : Touch). touching k f) same_kind;
          declared = λ known q named. place.declared strong q (ap (name_of n) (path.named known) ∙ named);
          base = λ known q named in_q.
              ap (λ (k : Touch). base_value k at) (sym same_kind)
              ∙ place.held q (ap (name_of n) (path.named known) ∙ named) in_q;
        },
      )

  get-met : (f : FieldId) (o : Option FieldCore) (kinds after : List StackKind) (s : State) (at : Point) (r : Access) →
      after_get o kinds ≡ Some after → IsFrame core quiet n method kinds s at → IsStore core quiet at.store →
      In (record_of (given_of core table main) Read locked site (top s) f) r →
      IsMet core quiet n r (arrival_at core arrivals r.below (Get f) at)
  get-met f None kinds after s at r kinded frame stored has = absurd cc
  get-met f (Some field) [] after s at r kinded frame stored has = absurd cc
  get-met f (Some field) (kb ∷ rest) after s at r kinded frame stored has =
      met Read f kb (top s) at r
      (strong_base field kb (where-is (is_base_of field kb) (kind_of field.kind ∷ rest) after kinded).holds)
      (place_slot core quiet n 0 (kb ∷ rest) s.stack at.stack kb refl frame.stack) stored has

  put-met : (f : FieldId) (o : Option FieldCore) (kinds after : List StackKind) (s : State) (at : Point) (r : Access) →
      after_put o kinds ≡ Some after → IsFrame core quiet n method kinds s at → IsStore core quiet at.store →
      In (record_of (given_of core table main) Write locked site (slot_of s 1) f) r →
      IsMet core quiet n r (arrival_at core arrivals r.below (Put f) at)
  put-met f None kinds after s at r kinded frame stored has = absurd cc
  put-met f (Some field) [] after s at r kinded frame stored has = absurd cc
  put-met f (Some field) (kv ∷ []) after s at r kinded frame stored has = absurd cc
  put-met f (Some field) (kv ∷ kb ∷ rest) after s at r kinded frame stored has =
      met Write f kb (slot_of s 1) at r
      (strong_base field kb
      (and_parts (is_base_of field kb) (fits field.kind kv) (where-is (is_base_of field kb && fits field.kind kv)
      (kv ∷ rest) after kinded).holds).0)
      (place_slot core quiet n 1 (kv ∷ kb ∷ rest) s.stack at.stack kb refl frame.stack) stored has

  pub op-met : (op : CoreOp) (kinds after : List StackKind) (s : State) (at : Point) (r : Access) → called_by op ≡ [] →
      kinds_after_op core method op kinds ≡ Some after → IsFrame core quiet n method kinds s at →
      IsStore core quiet at.store → In (op_effects (given_of core table main) locked site op s).records r →
      IsMet core quiet n r (arrival_at core arrivals r.below op at)
  op-met (Get f) kinds after s at r no_call kinded frame stored has =
      get-met f (field_at core f) kinds after s at r kinded frame stored has
  op-met (Put f) kinds after s at r no_call kinded frame stored has =
      put-met f (field_at core f) kinds after s at r kinded frame stored has
  op-met (Call m count) kinds after s at r no_call kinded frame stored has = absurd cc
  op-met (Push v) kinds after s at r no_call kinded frame stored has = absurd has
  op-met (PushClass c) kinds after s at r no_call kinded frame stored has = absurd has
  op-met PushPrim kinds after s at r no_call kinded frame stored has = absurd has
  op-met PushNull kinds after s at r no_call kinded frame stored has = absurd has
  op-met (New c) kinds after s at r no_call kinded frame stored has = absurd has
  op-met Dup kinds after s at r no_call kinded frame stored has = absurd has
  op-met Drop kinds after s at r no_call kinded frame stored has = absurd has
  op-met (Set v) kinds after s at r no_call kinded frame stored has = absurd has
  op-met (Prim count) kinds after s at r no_call kinded frame stored has = absurd has
  op-met (Outside count) kinds after s at r no_call kinded frame stored has = absurd has
  op-met (Unread m count) kinds after s at r no_call kinded frame stored has = absurd has
  op-met Ret kinds after s at r no_call kinded frame stored has = absurd has
  op-met Throw kinds after s at r no_call kinded frame stored has = absurd has
