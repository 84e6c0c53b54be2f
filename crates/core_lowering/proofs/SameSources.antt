-- What methods are made of, and what is known of them, make up their sources.
use Rattle.std.proofs.Common.{◌≡◌, ℕ, suc, Bool, true, false, cond, List, [], ◌∷◌, ◌++◌, map, refl, sym, ap, ◌∙◌}
use Rattle.std.specs.List.{flat_map, list_any}
use Rattle.std.proofs.lemmas.List.{map-append}
use Rattle.std.proofs.lemmas.List.Concat.{flat_map-append}
use Rattle.racer_base.specs.declared.ids.ClassId.{ClassId}
use Rattle.java_tree.specs.declared.unit.Unit as unit_type
use Rattle.java_tree.specs.declared.unit.ClassTree.{ClassTree}
use Rattle.java_tree.specs.declared.unit.Member.{Member}
use Rattle.java_tree.specs.declared.unit.Member.TheVariants as member
use Rattle.java_resolver.specs.Declarations.{trees_of, names_of, methods_of, by_class, default_constructor}
use Rattle.java_resolver.specs.Declarations.{member_is_constructor}
use Rattle.core_lowering_rules.specs.Methods.{Source, Default}
use Rattle.core_lowering_rules.specs.Programs.{member_sources, default_sources, class_sources, sources_of}
use Rattle.core_lowering_rules.proofs.KindedPrograms.{known, sources-same}
use Rattle.core_lowering.specs.Parts.{MethodPart, member_parts, default_parts, class_parts, unit_parts, parts_of}
use Rattle.core_lowering.specs.Parts.{with_infos}

abbrev bare : Source → MethodPart
bare s = record { members = s.members; body = s.body }

whole : (sources : List Source) → with_infos (map bare sources) (map known sources) ≡ sources
whole [] = refl
whole (s ∷ sources) = ap (λ (rest : List Source). s ∷ rest) (whole sources)

member-bare : (names : List (List ℕ)) (c : ClassId) (tree : ClassTree) (x : Member) →
    map bare (member_sources names c tree x) ≡ member_parts tree.members x
member-bare names c tree (member.Method t) = refl
member-bare names c tree (member.Outside h) = refl
member-bare names c tree (member.Field f) = refl
member-bare names c tree (member.Skipped place) = refl

members-bare : (names : List (List ℕ)) (c : ClassId) (tree : ClassTree) (xs : List Member) →
    map bare (flat_map (member_sources names c tree) xs) ≡ flat_map (member_parts tree.members) xs
members-bare names c tree [] = refl
members-bare names c tree (x ∷ xs) =
    map-append bare (member_sources names c tree x) (flat_map (member_sources names c tree) xs)
    ∙ ap (λ ys. ys ++ map bare (flat_map (member_sources names c tree) xs)) (member-bare names c tree x)
    ∙ ap (λ ys. member_parts tree.members x ++ ys) (members-bare names c tree xs)

default-by : (c : ClassId) (tree : ClassTree) (b : Bool) →
    map bare (cond b [] (record { info = default_constructor c tree; members = tree.members; body = Default } ∷ [])) ≡
    cond b [] (record { members = tree.members; body = Default } ∷ [])
default-by c tree true = refl
default-by c tree false = refl

class-bare : (names : List (List ℕ)) (c : ClassId) (tree : ClassTree) →
    map bare (class_sources names c tree) ≡ class_parts tree
class-bare names c tree =
    map-append bare (default_sources c tree) (flat_map (member_sources names c tree) tree.members)
    ∙ ap (λ ys. ys ++ map bare (flat_map (member_sources names c tree) tree.members))
    (default-by c tree (list_any member_is_constructor tree.members))
    ∙ ap (λ ys. default_parts tree.members ++ ys) (members-bare names c tree tree.members)

classes-bare : (names : List (List ℕ)) (n : ℕ) (trees : List ClassTree) →
    map bare (by_class (class_sources names) n trees) ≡ flat_map class_parts trees
classes-bare names n [] = refl
classes-bare names n (c ∷ cs) =
    map-append bare (class_sources names (record { 0 = n }) c) (by_class (class_sources names) (suc n) cs)
    ∙ ap (λ ys. ys ++ map bare (by_class (class_sources names) (suc n) cs)) (class-bare names (record { 0 = n }) c)
    ∙ ap (λ ys. class_parts c ++ ys) (classes-bare names (suc n) cs)

units-parts : (units : List unit_type.Unit) → flat_map class_parts (trees_of units) ≡ parts_of units
units-parts [] = refl
units-parts (u ∷ us) =
    flat_map-append class_parts u.classes (trees_of us) ∙ ap (λ ys. unit_parts u ++ ys) (units-parts us)

pub sources-made : (units : List unit_type.Unit) → with_infos (parts_of units) (methods_of units) ≡ sources_of units
sources-made units =
    ap (λ ps. with_infos ps (methods_of units))
    (sym (units-parts units) ∙ sym (classes-bare (names_of units) 0 (trees_of units)))
    ∙ ap (λ infos. with_infos (map bare (sources_of units)) infos) (sym (sources-same units))
    ∙ whole (sources_of units)
