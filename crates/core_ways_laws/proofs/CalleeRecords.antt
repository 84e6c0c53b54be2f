-- A record of a callee, in the caller's values: the access that it leads to is that of the callee's record.
use Rattle.std.proofs.Common.{◌≡◌, true, false, ⊎_elim, Option, None, Some, sym, ap, subst, ◌∙◌}
use Rattle.racer_base.specs.declared.ids.FieldId.{FieldId}
use Rattle.racer_base.specs.declared.ids.Touch.{Touch}
use Rattle.access_paths.specs.declared.path.Path.{Path}
use Rattle.access_paths.specs.Paths.{is_some_root, last_of}
use Rattle.owner_domain.specs.declared.value.Value.{Value as Called}
use Rattle.owner_domain.specs.declared.value.Value.TheVariants.{Named}
use Rattle.access_domain.specs.declared.access.Access.{Access}
use Rattle.access_domain.specs.FlowContext.{FlowContext}
use Rattle.access_domain.specs.Substitution.{Actuals, substituted_path, touched, value_named}
use Rattle.access_domain.proofs.TouchedPaths.{IsPutIn, substituted_cases}
use Rattle.core_code.specs.Core.{Core}
use Rattle.core_ways_laws.specs.Arrivals.{Arrival}
use Rattle.core_ways_laws.specs.Kept.{IsMet}
use Rattle.core_ways_laws.specs.Meets.{DoesMeet, base_path, base_value, touching}
use Rattle.core_ways_laws.specs.Names.{Naming, callee_naming, name_of}
use Rattle.core_ways_laws.specs.Quiet.{Quietness}
use Rattle.core_ways_laws.proofs.Accesses.{IsPathOf, touched-is}
use Rattle.core_ways_laws.proofs.Naming.{name-substituted}

module _ (core : Core) (quiet : Quietness core) (n : Naming) (g : FlowContext) (actuals : Actuals) where
  -- the record keeps its path
  meets-kept : (inner r : Access) (arrival : Arrival) → inner.kind ≡ r.kind → is_some_root inner.path.root ≡ true →
      inner.path ≡ r.path → DoesMeet core quiet (callee_naming n actuals) inner arrival →
      DoesMeet core quiet n r arrival
  meets-kept inner r arrival kind some path met =
      let wrong : is_some_root r.path.root ≡ true = ap (λ (p : Path). is_some_root p.root) (sym path) ∙ some in
      record {
        field = met.field;
        last = ap (λ (p : Path). last_of p.fields) (sym path) ∙ met.last;
        op = met.op ∙ ap (λ (k : Touch). touching k met.field) kind;
        declared = λ known. let both : true ≡ false = sym wrong ∙ known in absurd cc;
        base = λ known. let both : true ≡ false = sym wrong ∙ known in absurd cc;
      }

  -- the record's path is put into the caller's values
  meets-named : (inner r : Access) (arrival : Arrival) → inner.kind ≡ r.kind → is_some_root inner.path.root ≡ false →
      (met : DoesMeet core quiet (callee_naming n actuals) inner arrival) →
      touched g (value_named actuals (base_path inner.path)) met.field ≡ Some r.path → DoesMeet core quiet n r arrival
  meets-named inner r arrival kind own met path =
      let base : Called = value_named actuals (base_path inner.path) in
      let of : IsPathOf base met.field r.path = touched-is g base met.field r.path path in
      let name : is_some_root r.path.root ≡ false →
      name_of (callee_naming n actuals) (Named (base_path inner.path)) ≡ name_of n (Named (base_path r.path)) =
      λ known. sym (name-substituted n actuals (Named (base_path inner.path))) ∙ ap (name_of n) (of.named known) in
      record {
        field = met.field;
        last = of.last;
        op = met.op ∙ ap (λ (k : Touch). touching k met.field) kind;
        declared = λ known q named. met.declared own q (name known ∙ named);
        base = λ known q named in_q.
            ap (λ (k : Touch). base_value k arrival.at) (sym kind) ∙ met.base own q (name known ∙ named) in_q;
      }

  pub meets-through : (inner r : Access) (arrival : Arrival) → inner.kind ≡ r.kind →
      substituted_path g actuals inner.path ≡ Some r.path →
      DoesMeet core quiet (callee_naming n actuals) inner arrival →
      DoesMeet core quiet n r arrival
  meets-through inner r arrival kind path met =
      ⊎_elim
      (λ kept. meets-kept inner r arrival kind kept.0 kept.1 met)
      (λ (put : IsPutIn g actuals inner.path r.path).
      let both : Some put.field ≡ Some met.field = sym put.last ∙ met.last in
      let same : put.field ≡ met.field = cc in
      meets-named inner r arrival kind put.root met
      (subst (λ (f : FieldId). touched g (value_named actuals (base_path inner.path)) f ≡ Some r.path) same put.path))
      (substituted_cases g actuals inner.path r.path path)

  pub met-through : (inner r : Access) (o : Option Arrival) → inner.kind ≡ r.kind →
      substituted_path g actuals inner.path ≡ Some r.path → IsMet core quiet (callee_naming n actuals) inner o →
      IsMet core quiet n r o
  met-through inner r None kind path met = tt
  met-through inner r (Some arrival) kind path met = (met.0, meets-through inner r arrival kind path met.1)
