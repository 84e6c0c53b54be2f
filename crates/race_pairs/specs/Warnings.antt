-- A contract of a public call rests on this: which records conflict, and the list of warnings (JLS 17.4.1).
use Rattle.std.specs.Prelude.{ℕ, Bool, ◌&&◌, ◌||◌, not, nat_eq, if◌then◌else◌}
use Rattle.std.specs.Prelude.{List, [], Option, map, option_map}
use Rattle.std.specs.List.{enumerate_from, flat_map, filter_map, find}
use Rattle.racer_base.specs.declared.ids.ClassId.{ClassId}
use Rattle.racer_base.specs.declared.ids.MethodId.{MethodId}
use Rattle.access_paths.specs.Paths.{same_path, is_formal}
use Rattle.core_code.specs.Core.{Core, Method}
use Rattle.core_code.specs.declared.parts.ClassCore.{ClassCore}
use Rattle.access_domain.specs.declared.access.Access.{Access}
use Rattle.core_code.specs.Touches.{is_write}
use Rattle.access_domain.specs.OutcomeRecords.{records_of}
use Rattle.race_pairs.specs.declared.warning.Warning.{Warning}

-- Two records conflict when their paths are equal with root `this`, a class or `some c`, at least one writes, not both
-- are locked, and not both are on the main thread.
abbrev pub conflicts : Access → Access → Bool
conflicts a b =
    same_path a.path b.path && not (is_formal a.path.root)
    && (is_write a.kind || is_write b.kind) && not (a.locked && b.locked) && not (a.main && b.main)

-- a record with its method and its index among the method's records
pub record MethodRecord : Type 0 where
  pub method : MethodId
  pub index : ℕ
  pub access : Access

abbrev pub numbered_record : MethodId → ℕ × Access → MethodRecord
numbered_record m e = record { method = m; index = e.0; access = e.1 }

abbrev pub numbered_records : MethodId → List Access → List MethodRecord
numbered_records m accesses = map (numbered_record m) (enumerate_from 0 accesses)

abbrev pub is_entry_of : ClassId → Method → Bool
is_entry_of c method = method.entry && nat_eq method.class.0 c.0

-- the records of a method, with its number, where it is an entry of class c
abbrev pub entry_records : Core → ClassId → ℕ × Method → List MethodRecord
entry_records core c e =
    let m : MethodId = record { 0 = e.0 } in
    if is_entry_of c e.1 then numbered_records m (records_of core m) else []

-- the records of the entries of class c, in order of entries and records
abbrev pub records_in : Core → ClassId → List MethodRecord
records_in core c = flat_map (entry_records core c) (enumerate_from 0 core.methods)

abbrev pub warning_of : ClassId → MethodRecord → MethodRecord → Warning
warning_of c first partner =
    record {
      class = c;
      entry = first.method;
      access = first.index;
      partner = partner.method;
      partner_access = partner.index;
    }

-- the warning of a record: with the first of these that conflicts with it
abbrev pub warning_among : ClassId → List MethodRecord → MethodRecord → Option Warning
warning_among c records first =
    option_map (warning_of c first) (find (λ partner. conflicts first.access partner.access) records)

abbrev pub warnings_among : ClassId → List MethodRecord → List Warning
warnings_among c records = filter_map (warning_among c records) records

-- the warnings of a class, with its number, where it is checked
abbrev pub class_warnings : Core → ℕ × ClassCore → List Warning
class_warnings core e =
    let c : ClassId = record { 0 = e.0 } in
    if e.1.checked then warnings_among c (records_in core c) else []

abbrev pub warnings : Core → List Warning
warnings core = flat_map (class_warnings core) (enumerate_from 0 core.classes)
