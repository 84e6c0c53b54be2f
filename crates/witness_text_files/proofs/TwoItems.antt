-- Arrays of just two items.
use Rattle.std.proofs.Common.{◌≡◌, ◌≢◌, List, [], ◌∷◌, Some, None, length, refl, arith, slice_index_or}
use Rattle.serde_json.specs.View.{items_view, view}
use Rattle.serde_json.specs.declared.value.Value.{Value}
use Rattle.witness_text_files.specs.Files.{two_items}

pub not_two : (vs : List Value) → length vs ≢ 2 → two_items (items_view vs) ≡ None
not_two [] other = refl
not_two (a ∷ []) other = refl
not_two (a ∷ b ∷ []) other = absurd (other refl)
not_two (a ∷ b ∷ c ∷ vs) other = refl

pub just_two : (vs : List Value) (d : Value) → length vs ≡ 2 →
    Some (view (slice_index_or vs 0 d), view (slice_index_or vs 1 d)) ≡ two_items (items_view vs)
just_two [] d two = absurd (omega (arith, two))
just_two (a ∷ []) d two = absurd (omega (arith, two))
just_two (a ∷ b ∷ []) d two = refl
just_two (a ∷ b ∷ c ∷ vs) d two = absurd (omega (arith, two))
