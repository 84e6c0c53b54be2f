-- Names of a type before the last.
use Rattle.std.proofs.Common.{◌≡◌, ◌&&◌, Bool, true, false, List, [], ◌∷◌, length, map, refl, ap, sym, ◌∙◌}
use Rattle.std.specs.Prelude.{◌==◌}
use Rattle.std.proofs.lemmas.Bool.{and_left}
use Rattle.java_tree.specs.declared.types.TypePart.{TypePart}
use Rattle.java_tree.specs.Trees.{pack_parts}
use Rattle.java_tree.specs.View.{part_of}
use Rattle.java_resolver_parts.specs.LockTypes.{is_bare, are_lock_parts}

abbrev pub do_lock : List TypePart → Bool
do_lock parts = are_lock_parts (pack_parts (map part_of parts))

pub behind-first : (p : TypePart) (behind : List TypePart) → false ≡ (length behind == 0) →
    do_lock (p ∷ behind) ≡ (is_bare (part_of p) && do_lock behind)
behind-first p [] some = absurd cc
behind-first p (q ∷ rest) some = refl

and-first : (b c : Bool) → b ≡ true → (b && c) ≡ c
and-first b c h = ap (λ (x : Bool). x && c) h

pub bare-first : (p : TypePart) (behind rest : List TypePart) → rest ≡ p ∷ behind → false ≡ (length behind == 0) →
    is_bare (part_of p) ≡ true → do_lock behind ≡ do_lock rest
bare-first p behind rest is some bare =
    sym (and-first (is_bare (part_of p)) (do_lock behind) bare) ∙ sym (behind-first p behind some) ∙ ap do_lock (sym is)

pub other-first : (p : TypePart) (behind rest : List TypePart) → rest ≡ p ∷ behind → false ≡ (length behind == 0) →
    is_bare (part_of p) ≡ false → do_lock rest ≡ false
other-first p behind rest is some bare =
    ap do_lock is ∙ behind-first p behind some ∙ and_left (is_bare (part_of p)) (do_lock behind) bare
