-- The first of each key has the same first partner as all.
use Rattle.std.proofs.Common.{◌≡◌, Bool, true, false, cond, ◌&&◌, ◌||◌, not, List, [], ◌∷◌, ◌++◌, Option, None, Some}
use Rattle.std.proofs.Common.{refl, sym, ap, ◌∙◌}
use Rattle.std.specs.Option.{option_or}
use Rattle.std.specs.Bool.{nat_eq}
use Rattle.std.specs.List.{find, list_any}
use Rattle.std.specs.Cmp.Lexicographic.{pointwise}
use Rattle.std.proofs.lemmas.List.Folds.{find-append}
use Rattle.std.proofs.lemmas.Bool.{and_parts}
use Rattle.access_paths.specs.Paths.{same_path, is_formal}
use Rattle.access_paths.specs.Order.{path_key}
use Rattle.access_paths.specs.Same.{equal_of_same, same_path-key, same_path-laws}
use Rattle.access_domain.specs.declared.access.Access.{Access}
use Rattle.core_code.specs.Touches.{is_write}
use Rattle.access_domain.specs.Records.{same_key, same_flag, same_touch}
use Rattle.access_domain.proofs.Tests.{equal_flags}
use Rattle.race_pairs.specs.Warnings.{MethodRecord, conflicts}
use Rattle.race_pairs.specs.Firsts.{Groups, group_at, with_first, AddsFirst, partner_in, FindsPartners}
use Rattle.racer_base.proofs.Lists.{option_or-none}

-- a conflict sees keys alone
seen_by_key : (a b c : Access) → same_key b c ≡ true → conflicts a b ≡ conflicts a c
seen_by_key a b c same =
    let path : Bool = same_path b.path c.path in
    let kind : Bool = same_touch b.kind c.kind in
    let lock : Bool = same_flag b.locked c.locked in
    let three = and_parts (path && kind && lock) (same_flag b.main c.main) same in
    let two = and_parts (path && kind) lock three.0 in
    let one = and_parts path kind two.0 in
    let paths = equal_of_same b.path c.path one.0 in
    let kinds = equal_flags (is_write b.kind) (is_write c.kind) one.1 in
    let locks = equal_flags b.locked c.locked two.1 in
    let mains = equal_flags b.main c.main three.1 in
    (λ i. same_path a.path (paths i) && not (is_formal a.path.root)
    && (is_write a.kind || kinds i) && not (a.locked && locks i) && not (a.main && mains i))

-- where one passes, what is found is no other for what stands behind
found_already : {X : Type 0} (kept test : X → Bool) (xs : List X) (o : Option X) →
    ((x : X) → kept x ≡ true → test x ≡ true) → list_any kept xs ≡ true →
    option_or (find test xs) o ≡ find test xs
found_already kept test [] o passes any = cc
found_already {X} kept test (x ∷ xs) o passes any =
    let later : Option X = find test xs in
    elim (test x) as (λ b. test x ≡ b → option_or (cond b (Some x) later) o ≡ cond b (Some x) later) [
      | true ↦ λ e. refl
      | false ↦ λ e.
          elim (kept x) as (λ k. kept x ≡ k → (k || list_any kept xs) ≡ true → option_or later o ≡ later) [
            | true ↦ λ f g. let wrong : false ≡ true = sym e ∙ passes x f in cc
            | false ↦ λ f g. found_already kept test xs o passes g
          ] refl any
    ] refl

-- what a record and one more behind others give
one_more : (first : Access) (records : List MethodRecord) (added : MethodRecord) (o : Option MethodRecord) →
    o ≡ partner_in first records →
    partner_in first (records ++ added ∷ []) ≡ option_or o (partner_in first (added ∷ []))
one_more first records added o same =
    find-append (λ (partner : MethodRecord). conflicts first partner.access) records (added ∷ [])
    ∙ ap (λ p. option_or p (partner_in first (added ∷ []))) (sym same)

-- a record that goes to the group
grown : (first : Access) (group records : List MethodRecord) (added : MethodRecord) →
    partner_in first group ≡ partner_in first records →
    partner_in first (with_first group added) ≡ partner_in first (records ++ added ∷ [])
grown first group records added same =
    let test : MethodRecord → Bool = λ partner. conflicts first partner.access in
    let kept : MethodRecord → Bool = λ other. same_key other.access added.access in
    let here = partner_in first group in
    let all = one_more first records added here same in
    let passes : test added ≡ true → (other : MethodRecord) → kept other ≡ true → test other ≡ true =
    λ t other k. seen_by_key first other.access added.access k ∙ t
    in
    elim (list_any kept group)
    as (λ b. list_any kept group ≡ b →
    partner_in first (cond b group (group ++ added ∷ [])) ≡ partner_in first (records ++ added ∷ [])) [
      | false ↦ λ e. one_more first group added here refl ∙ sym all
      | true ↦ λ e.
          elim (test added) as (λ b. test added ≡ b → here ≡ option_or here (cond b (Some added) None)) [
            | true ↦ λ t. sym (found_already kept test group (Some added) (passes t) e)
            | false ↦ λ t. sym (option_or-none here)
          ] refl ∙ sym all
    ] refl

-- a record of another path is no partner
left : (first : Access) (group records : List MethodRecord) (added : MethodRecord) →
    same_path first.path added.access.path ≡ false → partner_in first group ≡ partner_in first records →
    partner_in first group ≡ partner_in first (records ++ added ∷ [])
left first group records added other same =
    let given : Bool → Bool = λ b. b && not (is_formal first.path.root)
    && (is_write first.kind || is_write added.access.kind) && not (first.locked && added.access.locked)
    && not (first.main && added.access.main)
    in
    let here = partner_in first group in
    let none : partner_in first (added ∷ []) ≡ None = ap (λ b. cond (given b) (Some added) None) other in
    sym (option_or-none here) ∙ ap (option_or here) (sym none) ∙ sym (one_more first records added here same)

pub adds_a_first : (old new : Groups) (records : List MethodRecord) (added : MethodRecord) →
    AddsFirst old new added → FindsPartners old records → FindsPartners new (records ++ added ∷ [])
adds_a_first old new records added adds finds first key is =
    let path = added.access.path in
    let had : List MethodRecord = group_at old key.items in
    let same = finds first key is in
    let paths : pointwise nat_eq (path_key path) key.items ≡ same_path first.path path =
    ap (pointwise nat_eq (path_key path)) is
    ∙ sym (same_path-key path first.path) ∙ same_path-laws.symm path first.path
    in
    elim (pointwise nat_eq (path_key path) key.items)
    as (λ b. pointwise nat_eq (path_key path) key.items ≡ b →
    group_at new key.items ≡ cond b (with_first had added) had →
    partner_in first (group_at new key.items) ≡ partner_in first (records ++ added ∷ [])) [
      | true ↦ λ e now. ap (partner_in first) now ∙ grown first had records added same
      | false ↦ λ e now. ap (partner_in first) now ∙ left first had records added (sym paths ∙ e) same
    ] refl (adds key)
