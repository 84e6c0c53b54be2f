-- No public contract rests on this: how the search for partners keeps records, the first of each key by their paths.
use Rattle.std.specs.Prelude.{◌≡◌, ℕ, Bool, nat_eq, List, [], ◌∷◌, ◌++◌, Option, Vec, if◌then◌else◌}
use Rattle.std.specs.Option.{option_map_or}
use Rattle.std.specs.Global.{Global}
use Rattle.std.specs.List.{find, list_any}
use Rattle.std.specs.Ordering.{nat_cmp}
use Rattle.std.specs.Cmp.Lexicographic.{slice_cmp, pointwise}
use Rattle.std.specs.BTreeMap.{BTreeMap, get_by}
use Rattle.access_domain.specs.declared.access.Access.{Access}
use Rattle.access_domain.specs.Records.{same_key}
use Rattle.access_paths.specs.Order.{path_key}
use Rattle.race_pairs.specs.declared.method_access.MethodAccess.{MethodAccess}
use Rattle.race_pairs.specs.Warnings.{MethodRecord, conflicts}
use Rattle.race_pairs.specs.MethodRecords.{all_records}

-- a map from the numbers of a path to records
abbrev pub Groups : Type 0
Groups = BTreeMap (Vec ℕ Global) (Vec MethodAccess Global)

abbrev pub kept_at : Groups → List ℕ → Option (Vec MethodAccess Global)
kept_at groups numbers = get_by (λ key. slice_cmp nat_cmp numbers key.items) groups

-- the records kept at these numbers
abbrev pub group_at : Groups → List ℕ → List MethodRecord
group_at groups numbers = option_map_or (λ group. all_records group.items) (kept_at groups numbers) []

-- whether one of the records has the key of this one
abbrev pub has_key : List MethodRecord → Access → Bool
has_key group access = list_any (λ first. same_key first.access access) group

-- the records, and this one at the end unless there is one of its key
abbrev pub with_first : List MethodRecord → MethodRecord → List MethodRecord
with_first group added = if has_key group added.access then group else group ++ added ∷ []

-- the record went to the group of its path
abbrev pub AddsFirst : Groups → Groups → MethodRecord → Type 0
AddsFirst old new added =
    (key : Vec ℕ Global) →
    let had : List MethodRecord = group_at old key.items in
    let is_there : Bool = pointwise nat_eq (path_key added.access.path) key.items in
    group_at new key.items ≡ (if is_there then with_first had added else had)

-- the first of these records that conflicts with this one
abbrev pub partner_in : Access → List MethodRecord → Option MethodRecord
partner_in first records = find (λ partner. conflicts first partner.access) records

-- in the group of its path each record finds the same partner as among these
abbrev pub FindsPartners : Groups → List MethodRecord → Type 0
FindsPartners groups records =
    (first : Access) (key : Vec ℕ Global) → key.items ≡ path_key first.path →
    partner_in first (group_at groups key.items) ≡ partner_in first records
