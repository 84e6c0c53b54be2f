-- A contract of a public call rests on this: access records whose paths are numbers of a table, and what they are.
use Rattle.std.specs.Prelude.{◌≡◌, ◌<◌, ◌≤◌, Bool, ◌&&◌, List, [], ◌∷◌, length, map, nat_eq}
use Rattle.std.specs.Bool.{beq}
use Rattle.racer_base.specs.declared.limits.TheConstants.{MAX_SUMMARY_KEYS}
use Rattle.access_paths.specs.declared.path.Path.{Path}
use Rattle.access_paths.specs.Table.{path_at}
use Rattle.access_domain.specs.declared.access.Access.{Access}
use Rattle.access_domain.specs.declared.numbered.NumberedAccess.{NumberedAccess}
use Rattle.access_domain.specs.declared.numbered.NumberedKey.{NumberedKey}
use Rattle.core_code.specs.Touches.{is_write}
use Rattle.access_domain.specs.Records.{same_flag, same_touch}

-- the record that a numbered one is in a table
abbrev pub read_access : List Path → NumberedAccess → Access
read_access table a =
    record {
      path = path_at table a.path;
      kind = a.kind;
      locked = a.locked;
      main = a.main;
      site = a.site;
      below = a.below;
    }

abbrev pub read_accesses : List Path → List NumberedAccess → List Access
read_accesses table = map (read_access table)

-- the number of each path is one of the table's
abbrev pub AreNumbered : List Path → List NumberedAccess → Type 0
AreNumbered table [] = Unit {0}
AreNumbered table (a ∷ rest) = (a.path < length table) × AreNumbered table rest

-- whether two records have the same number, kind and flags
abbrev pub same_numbered_key : NumberedAccess → NumberedAccess → Bool
same_numbered_key a b =
    nat_eq a.path b.path && same_touch a.kind b.kind && same_flag a.locked b.locked && same_flag a.main b.main

abbrev pub numbered_key_of : NumberedAccess → NumberedKey
numbered_key_of a = record { path = a.path; is_write = is_write a.kind; locked = a.locked; main = a.main }

abbrev pub numbered_key_eq : NumberedKey → NumberedKey → Bool
numbered_key_eq k l =
    nat_eq k.path l.path && (beq k.is_write l.is_write && (beq k.locked l.locked && beq k.main l.main))

-- the keys are those of the records, in order
abbrev pub HasNumberedKeysOf : List NumberedKey → List NumberedAccess → Type 0
HasNumberedKeysOf keys records = keys ≡ map numbered_key_of records

-- the keys are those of the records, which are no more than the limit
pub record AreKept (keys : List NumberedKey) (records : List NumberedAccess) : Type 0 where
  pub keyed : HasNumberedKeysOf keys records
  pub limit : length records ≤ MAX_SUMMARY_KEYS
