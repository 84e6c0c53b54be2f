-- One place more, and then those of the callee's record.
use Rattle.std.proofs.Common.{◌≡◌, ℕ, zero, suc, List, [], ◌∷◌, ◌++◌, Option, None, Some}
use Rattle.std.proofs.Common.{option_map, refl, sym, ap, ◌∙◌, append_assoc}
use Rattle.racer_base.specs.declared.ids.Place.{Place}
use Rattle.core_code.specs.Core.{Core}
use Rattle.core_code.specs.Tree.{Operation}
use Rattle.race_report_parts.specs.declared.tables.Site.{Site}
use Rattle.race_report_parts.specs.Places.{OwnedRecord, operation_at, callee_of, record_below, places_within}
use Rattle.race_report_parts.specs.Sites.{site_of}

pub next_place : (core : Core) (held : OwnedRecord) (o : Option Operation) (site : Site) (n k : ℕ)
    (old new : List Place)
    (left : Option OwnedRecord) → operation_at core held.method held.access.site ≡ o →
    option_map site_of o ≡ Some site →
    n ≡ suc k → new ≡ old ++ site.place ∷ [] → left ≡ record_below core site.callee held.access.below →
    new ++ places_within core left k ≡ old ++ places_within core (Some held) n
next_place core held None site n k old new left is made long grown below = cc
next_place core held (Some o) site n k old new left is made long grown below =
    let same : site_of o ≡ site = cc in
    let rest : List Place = places_within core (record_below core (callee_of o.op) held.access.below) k in
    let step : places_within core (Some held) n ≡ o.place ∷ rest =
    ap (places_within core (Some held)) long
    ∙ ap (λ (p : Option Operation). elim p [
      | None ↦ []
      | Some q ↦ q.place ∷ places_within core (record_below core (callee_of q.op) held.access.below) k
    ]) is in
    let others : places_within core left k ≡ rest =
    ap (λ (l : Option OwnedRecord). places_within core l k)
    (below ∙ ap (λ (s : Site). record_below core s.callee held.access.below) (sym same)) in
    ap (λ (ps : List Place). ps ++ places_within core left k) grown
    ∙ append_assoc old (site.place ∷ []) (places_within core left k)
    ∙ ap (λ (s : Site). old ++ s.place ∷ places_within core left k) (sym same)
    ∙ ap (λ (ps : List Place). old ++ o.place ∷ ps) others
    ∙ ap (λ (ps : List Place). old ++ ps) (sym step)

-- no place is left: no turn is, or no record, or none with a site
pub no_turn : (core : Core) (left : Option OwnedRecord) (n : ℕ) → n ≡ 0 → places_within core left n ≡ []
no_turn core None n none = refl
no_turn core (Some held) n none = ap (places_within core (Some held)) none

pub none_left : (core : Core) (left : Option OwnedRecord) (n : ℕ) → left ≡ None → places_within core left n ≡ []
none_left core left n none = ap (λ (l : Option OwnedRecord). places_within core l n) none

no_place : (core : Core) (held : OwnedRecord) (n : ℕ) → operation_at core held.method held.access.site ≡ None →
    places_within core (Some held) n ≡ []
no_place core held zero none = refl
no_place core held (suc n) none = ap (λ (p : Option Operation). elim p [
  | None ↦ []
  | Some q ↦ q.place ∷ places_within core (record_below core (callee_of q.op) held.access.below) n
]) none

pub no_site : (core : Core) (left : Option OwnedRecord) (held : OwnedRecord) (n : ℕ) → left ≡ Some held →
    (o : Option Operation) →
    operation_at core held.method held.access.site ≡ o → option_map site_of o ≡ None → places_within core left n ≡ []
no_site core left held n is None at none =
    ap (λ (l : Option OwnedRecord). places_within core l n) is ∙ no_place core held n at
no_site core left held n is (Some o) at none = cc
