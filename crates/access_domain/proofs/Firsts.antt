-- The firsts of a list with one more element.
use Rattle.std.proofs.Common.{◌≡◌, Bool, true, false, cond, not, ◌||◌, List, [], ◌∷◌, ◌++◌, filter}
use Rattle.std.proofs.Common.{◌≤◌, length, arith, refl, sym, ap, ◌∙◌}
use Rattle.std.proofs.lemmas.Bool.{or_parts}
use Rattle.std.proofs.lemmas.List.{append-nil}
use Rattle.std.specs.List.{list_any}
use Rattle.std.proofs.Math.Bool.{or-false}
use Rattle.racer_base.proofs.Lists.{fewer_kept}
use Rattle.access_domain.specs.Records.{firsts}

filter_push : {X : Type 0} (p : X → Bool) (xs : List X) (y : X) →
    filter p (xs ++ y ∷ []) ≡ filter p xs ++ cond (p y) (y ∷ []) []
filter_push p [] y = refl
filter_push {X} p (x ∷ xs) y =
    elim (p x) as (λ b. cond b (x ∷ filter p (xs ++ y ∷ [])) (filter p (xs ++ y ∷ [])) ≡
    cond b (x ∷ filter p xs) (filter p xs) ++ cond (p y) (y ∷ []) []) [
      | true ↦ ap (λ zs. x ∷ zs) (filter_push p xs y)
      | false ↦ filter_push p xs y
    ]

-- the last one is among the firsts where no earlier one is the same
pub firsts-new : {X : Type 0} (same : X → X → Bool) (xs : List X) (y : X) → list_any (λ x. same x y) xs ≡ false →
    firsts same (xs ++ y ∷ []) ≡ firsts same xs ++ y ∷ []
firsts-new same [] y none = refl
firsts-new {X} same (x ∷ xs) y none =
    let both = or_parts (same x y) (list_any (λ z. same z y) xs) none in
    ap (λ zs. x ∷ filter (λ z. not (same x z)) zs) (firsts-new same xs y both.1)
    ∙ ap (λ zs. x ∷ zs) (filter_push (λ z. not (same x z)) (firsts same xs) y)
    ∙ ap (λ b. x ∷ (filter (λ z. not (same x z)) (firsts same xs) ++ cond (not b) (y ∷ []) [])) both.0

-- one that is the same as an earlier one is not among the firsts
pub firsts-old : {X : Type 0} (same : X → X → Bool) (xs : List X) (y : X) → list_any (λ x. same x y) xs ≡ true →
    firsts same (xs ++ y ∷ []) ≡ firsts same xs
firsts-old same [] y one = cc
firsts-old {X} same (x ∷ xs) y one =
    elim (list_any (λ z. same z y) xs) as (λ b. list_any (λ z. same z y) xs ≡ b → (same x y || b) ≡ true →
    firsts same (x ∷ (xs ++ y ∷ [])) ≡ firsts same (x ∷ xs)) [
      | true ↦ λ e h. ap (λ zs. x ∷ filter (λ z. not (same x z)) zs) (firsts-old same xs y e)
      | false ↦ λ e h.
          let here : same x y ≡ true = sym (or-false (same x y)) ∙ h in
          ap (λ zs. x ∷ filter (λ z. not (same x z)) zs) (firsts-new same xs y e)
          ∙ ap (λ zs. x ∷ zs) (filter_push (λ z. not (same x z)) (firsts same xs) y)
          ∙ ap (λ b. x ∷ (filter (λ z. not (same x z)) (firsts same xs) ++ cond (not b) (y ∷ []) [])) here
          ∙ ap (λ zs. x ∷ zs) (append-nil (filter (λ z. not (same x z)) (firsts same xs)))
    ] refl one

pub fewer_firsts : {X : Type 0} (same : X → X → Bool) (xs : List X) → length (firsts same xs) ≤ length xs
fewer_firsts same [] = omega arith
fewer_firsts same (x ∷ xs) =
    let kept = fewer_kept (λ y. not (same x y)) (firsts same xs) in
    let more = fewer_firsts same xs in
    omega (arith, kept, more)
