-- A contract of a public call rests on this: what the list of warnings has, in words of records and classes alone.
use Rattle.std.specs.Prelude.{◌≡◌, ℕ, Bool, true, ◌&&◌, Some, slice_get, nat_eq}
use Rattle.racer_base.specs.declared.ids.ClassId.{ClassId}
use Rattle.racer_base.specs.declared.ids.MethodId.{MethodId}
use Rattle.core_code.specs.Core.{Core, Method}
use Rattle.core_code.specs.declared.parts.ClassCore.{ClassCore}
use Rattle.access_domain.specs.declared.access.Access.{Access}
use Rattle.access_domain.specs.OutcomeRecords.{records_of}
use Rattle.race_pairs.specs.declared.warning.Warning.{Warning}
use Rattle.race_pairs.specs.Warnings.{conflicts}

-- the class is checked
pub record IsCheckedClass (core : Core) (c : ClassId) : Type 0 where
  pub class : ClassCore
  pub is : slice_get core.classes c.0 ≡ Some class
  pub checked : class.checked ≡ true

-- m is an entry of class c, and this is its record of this index
pub record IsRecord (core : Core) (c : ClassId) (m : MethodId) (index : ℕ) (access : Access) : Type 0 where
  pub method : Method
  pub is : slice_get core.methods m.0 ≡ Some method
  pub entry : method.entry ≡ true
  pub class : method.class ≡ c
  pub has : slice_get (records_of core m) index ≡ Some access

-- the two records of a warning: they are of entries of one checked class, and conflict
pub record IsPair (core : Core) (w : Warning) : Type 0 where
  pub first : Access
  pub partner : Access
  pub checked : IsCheckedClass core w.class
  pub of_entry : IsRecord core w.class w.entry w.access first
  pub of_partner : IsRecord core w.class w.partner w.partner_access partner
  pub conflict : conflicts first partner ≡ true

-- whether a warning is that of this record
abbrev pub is_warning_of : MethodId → ℕ → Warning → Bool
is_warning_of m index w = nat_eq w.entry.0 m.0 && nat_eq w.access index
