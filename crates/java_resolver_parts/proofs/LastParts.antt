-- The last of the names of a type.
use Rattle.std.proofs.Common.{◌≡◌, ℕ, zero, suc, ◌-◌, ◌<◌, List, [], ◌∷◌, length, map, get_or, Option}
use Rattle.std.proofs.Common.{Some, None, rules, refl, sym, ap, ◌∙◌, arith}
use Rattle.java_tree.specs.declared.types.TypePart.{TypePart, out-TypePart}
use Rattle.java_tree.specs.declared.types.BaseType.TheFolds.{the_lemmas}
use Rattle.java_tree.specs.Trees.{Arguments, pack_parts}
use Rattle.java_tree.specs.View.{part_of, part_of_name}
use Rattle.container_cells.specs.Table.{family_of}
use Rattle.java_resolver_parts.specs.ContainerTypes.{part_name, parts_family}

named-so : (name : List ℕ) (arguments : Option Arguments) → part_name (part_of_name name arguments) ≡ name
named-so name None = refl
named-so name (Some a) = refl

part-named : (p : TypePart) → part_name (part_of p) ≡ (out-TypePart p).name.text
part-named p = search (rules, the_lemmas, named-so)

last_at : (xs : List TypePart) (n : ℕ) (d : TypePart) → length xs ≡ suc n →
    parts_family (pack_parts (map part_of xs)) ≡ family_of (part_name (part_of (get_or xs n d)))
last_at [] n d size = absurd (omega arith)
last_at (x ∷ []) zero d size = refl
last_at (x ∷ []) (suc n) d size = absurd (omega arith)
last_at (x ∷ y ∷ ys) zero d size = absurd (omega arith)
last_at (x ∷ y ∷ ys) (suc n) d size = last_at (y ∷ ys) n d (omega arith)

pub last_family : (xs : List TypePart) (last : TypePart) → 0 < length xs → last ≡ get_or xs (length xs - 1) last →
    family_of (out-TypePart last).name.text ≡ parts_family (pack_parts (map part_of xs))
last_family xs last some is =
    ap family_of (sym (part-named last))
    ∙ ap (λ (p : TypePart). family_of (part_name (part_of p))) is
    ∙ sym (last_at xs (length xs - 1) last (omega arith))
