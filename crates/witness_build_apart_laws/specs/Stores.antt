-- A contract of a public call rests on this: in which fields a leg stores what may be read there as something else, and
-- whether it makes an object.
use Rattle.std.specs.Prelude.{◌≡◌, ℕ, zero, suc, Bool, true, ◌&&◌, List, [], ◌∷◌, ◌++◌, Option, None, Some}
use Rattle.std.specs.List.{list_any}
use Rattle.racer_base.specs.declared.ids.FieldId.{FieldId}
use Rattle.access_paths.specs.Paths.{same_field}
use Rattle.core_code.specs.Core.{Core}
use Rattle.core_semantics.specs.declared.answer.Turn.{Turn}
use Rattle.core_semantics.specs.declared.object.Object.{Object}
use Rattle.core_semantics.specs.declared.object.Value.TheVariants.{Plain}
use Rattle.core_semantics.specs.Changes.{Change, Quiet, Stores, Loud, Spot, is_plain_kind, step_change}
use Rattle.core_semantics.specs.Objects.{same_object}
use Rattle.core_semantics.specs.State.{State, Store}
use Rattle.core_semantics.specs.Steps.{kind_of, read}
use Rattle.core_semantics.specs.Advances.{Going, one_step}
use Rattle.witness_build_apart_laws.specs.Apart.{ReadAlike}

abbrev pub is_spot : Object → FieldId → Spot → Bool
is_spot o f (p, g) = same_object p o && same_field g f

-- what is stored in fields of primitive types is plain
abbrev pub ArePlain : Core → Store → Type 0
ArePlain core s = (o : Object) (f : FieldId) → is_plain_kind (kind_of core f) ≡ true → read core s o f ≡ Plain

-- which fields are stored in, so far; none where anything may be changed
abbrev pub noted : Change → Option (List Spot) → Option (List Spot)
noted Quiet rest = rest
noted (Stores o f) None = None
noted (Stores o f) (Some spots) = Some ((o, f) ∷ spots)
noted Loud rest = None

abbrev pub stores_behind : (List Turn → State → Option (List Spot)) → Option Going → Option (List Spot)
stores_behind rest None = Some []
stores_behind rest (Some (next, turns)) = rest turns next

-- the fields that a leg stores in, but for plain values in fields of primitive types; none where it does more
abbrev pub leg_stores : Core → ℕ → ℕ → List Turn → State → Option (List Spot)
leg_stores core t zero turns s = Some []
leg_stores core t (suc n) turns s =
    noted (step_change core s t) (stores_behind (leg_stores core t n) (one_step core t turns s))

-- the fields that one leg and then another store in
abbrev pub stored_both : Option (List Spot) → Option (List Spot) → Option (List Spot)
stored_both None more = None
stored_both (Some spots) None = None
stored_both (Some spots) (Some more) = Some (spots ++ more)

-- what is stored reads the same but in these fields, and plain fields are plain still
pub record HasStored (core : Core) (spots : List Spot) (a b : Store) : Type 0 where
  pub alike : ReadAlike core (λ o f. list_any (is_spot o f) spots) a b
  pub plain : ArePlain core b
