-- A number that goes to a name and a key.
use Rattle.std.proofs.Common.{◌≡◌, ℕ, true, false, cond, List, Some, refl, sym, ap, ◌∙◌}
use Rattle.std.specs.Prelude.{bytes_eq, ◌&&◌}
use Rattle.std.specs.Cmp.Lexicographic.{same_text}
use Rattle.std.specs.BTreeMap.{get_by_text}
use Rattle.keyed_numbers.specs.Numbers.{Key, key_eq, Keyed, Named, keyed_at, number_in, number_at, or_added}
use Rattle.keyed_numbers.specs.Numbers.{AddsNumber}
use Rattle.racer_base.proofs.Lists.{option_or-none}

pub number_added : (old new : Named) (name : List ℕ) (key : Key) (number : ℕ) (keyed : Keyed) →
    ((k : Key) → keyed_at keyed k ≡ or_added (key_eq key k) number (number_at old name k)) →
    ((other : List ℕ) → get_by_text new other ≡ cond (bytes_eq name other) (Some keyed) (get_by_text old other)) →
    AddsNumber old new name key number
number_added old new name key number keyed adds puts other k =
    let had = number_at old other k in
    elim (bytes_eq name other)
    as (λ b. bytes_eq name other ≡ b → get_by_text new other ≡ cond b (Some keyed) (get_by_text old other) →
    number_at new other k ≡ or_added (b && key_eq key k) number had) [
      | true ↦ λ e there.
          let same : name ≡ other = same_text name other (sym e) in
          ap (number_in k) there ∙ adds k
          ∙ ap (λ text. or_added (key_eq key k) number (number_at old text k)) same
      | false ↦ λ e there. ap (number_in k) there ∙ sym (option_or-none had)
    ] refl (puts other)
