-- A record that goes to the group of its path, in the map.
use Rattle.std.proofs.Common.{◌≡◌, ℕ, true, false, cond, List, [], ◌∷◌, Some, Vec, None, nat_eq, refl, sym, ap, ◌∙◌}
use Rattle.std.specs.Option.{option_map_or}
use Rattle.std.specs.Global.{Global}
use Rattle.std.specs.Ordering.{is_eq, nat_cmp}
use Rattle.std.specs.Cmp.Lexicographic.{slice_cmp, pointwise, same_text, texts_ties}
use Rattle.std.specs.BTreeMap.{Updates}
use Rattle.access_paths.specs.Order.{path_key}
use Rattle.race_pairs.specs.declared.method_access.MethodAccess.{MethodAccess}
use Rattle.race_pairs.specs.Warnings.{MethodRecord}
use Rattle.race_pairs.specs.MethodRecords.{record_of, all_records}
use Rattle.race_pairs.specs.Firsts.{Groups, kept_at, group_at, with_first, AddsFirst}

abbrev pub records_in_order : Vec MethodAccess Global → List MethodRecord
records_in_order group = all_records group.items

-- the map has this group at this key, and all else as before
abbrev pub PutsGroup : Groups → Groups → Vec ℕ Global → Vec MethodAccess Global → Type 0
PutsGroup old new key group = Updates (λ a b. slice_cmp nat_cmp a.items b.items) old new key (Some group)

pub record_added : (old new : Groups) (key : Vec ℕ Global) (group : Vec MethodAccess Global) (added : MethodRecord) →
    key.items ≡ path_key added.access.path → PutsGroup old new key group →
    all_records group.items ≡ with_first (group_at old key.items) added → AddsFirst old new added
record_added old new key group added is puts made other =
    let here = path_key added.access.path in
    let test : is_eq (slice_cmp nat_cmp key.items other.items) ≡ pointwise nat_eq here other.items =
    sym (texts_ties key.items other.items) ∙ ap (λ numbers. pointwise nat_eq numbers other.items) is
    in
    let had : List MethodRecord = group_at old other.items in
    let kept = kept_at old other.items in
    let found : kept_at new other.items ≡ cond (pointwise nat_eq here other.items) (Some group) kept =
    puts.0 other ∙ ap (λ b. cond b (Some group) kept) test
    in
    elim (pointwise nat_eq here other.items)
    as (λ b. pointwise nat_eq here other.items ≡ b → kept_at new other.items ≡ cond b (Some group) kept →
    group_at new other.items ≡ cond b (with_first had added) had) [
      | true ↦ λ e there.
          let same : here ≡ other.items = same_text here other.items (sym e) in
          ap (λ o. option_map_or records_in_order o []) there ∙ made
          ∙ ap (λ numbers. with_first (group_at old numbers) added) (is ∙ same)
      | false ↦ λ e there. ap (λ o. option_map_or records_in_order o []) there
    ] refl found

-- the same of the first record of a path, of which the map had none
pub one_added : (old new : Groups) (key : Vec ℕ Global) (group : Vec MethodAccess Global) (added : MethodAccess) →
    key.items ≡ path_key added.access.now.path → None ≡ kept_at old key.items →
    group.items ≡ added ∷ [] → PutsGroup old new key group → AddsFirst old new (record_of added)
one_added old new key group added is none one puts =
    let empty : [] ≡ group_at old key.items = ap (λ o. option_map_or records_in_order o []) none in
    let made : all_records group.items ≡ with_first (group_at old key.items) (record_of added) =
    ap all_records one ∙ ap (λ records. with_first records (record_of added)) empty
    in
    record_added old new key group (record_of added) is puts made
