-- Extension along lists of fields.
use Rattle.std.proofs.Common.{◌≡◌, List, [], ◌∷◌, ◌++◌, None, Some, refl}
use Rattle.std.specs.Option.{option_and_then}
use Rattle.racer_base.specs.declared.ids.FieldId.{FieldId}
use Rattle.access_paths.specs.declared.path.Path.{Path}
use Rattle.access_paths.specs.Paths.{extended, extended_along}

pub extended_along-append : (p : Path) (fs gs : List FieldId) →
    extended_along p (fs ++ gs) ≡ option_and_then (λ q. extended_along q gs) (extended_along p fs)
extended_along-append p [] gs = refl
extended_along-append p (f ∷ fs) gs =
    elim (extended p f) as (λ o. option_and_then (λ q. extended_along q (fs ++ gs)) o ≡
    option_and_then (λ q. extended_along q gs) (option_and_then (λ q. extended_along q fs) o)) [
      | None ↦ refl
      | Some q ↦ extended_along-append q fs gs
    ]
