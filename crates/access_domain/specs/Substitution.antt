-- A contract of a public call rests on this: what is found of a callee, in its caller's values.
use Rattle.std.specs.Prelude.{ℕ, Bool, ◌||◌, List, [], ◌∷◌, Option, None, Some, drop, slice_index_or, if◌then◌else◌}
use Rattle.std.specs.List.{enumerate_from, flat_map}
use Rattle.racer_base.specs.declared.ids.FieldId.{FieldId}
use Rattle.racer_base.specs.declared.ids.SiteId.{SiteId}
use Rattle.access_paths.specs.declared.path.Root.{Root}
use Rattle.access_paths.specs.declared.path.Root.TheVariants.{This, Class, Formal, Some as SomeOf}
use Rattle.access_paths.specs.declared.path.Path.{Path}
use Rattle.access_paths.specs.Paths.{alone, some_path, extended, is_some_root, front_of, last_of}
use Rattle.owner_domain.specs.declared.value.Value.{Value}
use Rattle.owner_domain.specs.declared.value.Value.TheVariants.{Owned, Named, Unnamed}
use Rattle.owner_domain.specs.Values.{names_of, along}
use Rattle.access_domain.specs.declared.access.Access.{Access}
use Rattle.access_domain.specs.Records.{first_of_keys, different_paths}
use Rattle.access_domain.specs.Findings.{Findings}
use Rattle.access_domain.specs.FlowContext.{FlowContext}

-- the path of field f of a value, `some c . f` where it has no name or its path would be too long, and none of an
-- owned value
abbrev pub touched : FlowContext → Value → FieldId → Option Path
touched g Owned f = None
touched g Unnamed f = Some (some_path (g.class_of f) f)
touched g (Named p) f = elim (extended p f) [ None ↦ Some (some_path (g.class_of f) f) | Some q ↦ Some q ]

-- what a call gives to `this` and to each parameter
pub record Passed (X : Type 0) : Type 0 where
  pub this : X
  pub formals : List X

abbrev pub Actuals : Type 0
Actuals = Passed Value

-- of an instance method the first value is that of `this`, of a static one it is that of parameter 0
abbrev pub actuals_from : Bool → List Value → Actuals
actuals_from is_static values =
    record { this = slice_index_or values 0 Unnamed; formals = if is_static then values else drop 1 values }

-- the value that stands for a root of the callee
abbrev pub root_value : Actuals → Root → Value
root_value actuals This = actuals.this
root_value actuals (Formal i) = slice_index_or actuals.formals i Unnamed
root_value actuals (Class c) = Named (alone (Class c))
root_value actuals (SomeOf c) = Unnamed

-- the value that a path of the callee names
abbrev pub value_named : Actuals → Path → Value
value_named actuals p = along (root_value actuals p.root) p.fields

-- a value of the callee
abbrev pub substituted_value : Actuals → Value → Value
substituted_value actuals Owned = Owned
substituted_value actuals Unnamed = Unnamed
substituted_value actuals (Named p) = value_named actuals p

-- the path of a record of the callee, none where its base is owned; `some c . f` stays
abbrev pub substituted_path : FlowContext → Actuals → Path → Option Path
substituted_path g actuals p =
    if is_some_root p.root then Some p
    else (elim (last_of p.fields) [
      | None ↦ None
      | Some f ↦ touched g (along (root_value actuals p.root) (front_of p.fields)) f
    ])

-- a record of the callee with its index, at a call at this site
abbrev pub substituted_record : FlowContext → Actuals → Bool → SiteId → ℕ × Access → List Access
substituted_record g actuals locked site e =
    elim (substituted_path g actuals e.1.path) [
      | None ↦ []
      | Some p ↦
          record {
            path = p;
            kind = e.1.kind;
            locked = e.1.locked || locked;
            main = e.1.main || g.main;
            site = site;
            below = Some e.0;
          } ∷ []
    ]

-- what is found of a callee, for these actuals, at a call that is locked or not and stands at this site
abbrev pub substituted : FlowContext → Actuals → Findings → Bool → SiteId → Findings
substituted g actuals found locked site =
    record {
      records = first_of_keys (flat_map (substituted_record g actuals locked site) (enumerate_from 0 found.records));
      wobbly = different_paths (flat_map (λ p. names_of (value_named actuals p)) found.wobbly);
      result = substituted_value actuals found.result;
    }
