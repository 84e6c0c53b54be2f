-- Paths that are cut behind their first step that returns or throws.
use Rattle.std.proofs.Common.{◌≡◌, ◌⊎◌, Bool, true, false, ◌||◌, [], ◌∷◌, ◌++◌, refl, sym, ap, ◌∙◌}
use Rattle.std.proofs.Common.{inl, inr, ⊎_elim}
use Rattle.std.specs.List.{list_any}
use Rattle.std.proofs.lemmas.Bool.{or_left, cond-true, cond-false, true≢false, cases_Bool}
use Rattle.racer_base.proofs.Tests.{or_second}
use Rattle.core_lowering_drafts.specs.Drafts.{End, Normal, Return, Exception, Exit, is_final}
use Rattle.core_lowering_drafts.specs.Paths.{Step, Steps, step_end, cut, cut_end, read, behind}

abbrev stops : Step → Bool
stops step = is_final (step_end step)

-- whether a path has such a step
abbrev pub is_stopped : Steps → Bool
is_stopped steps = list_any (λ step. is_final (step_end step)) steps

-- one more step in front
module _ (step : Step) (p : Steps) where
  here-steps : stops step ≡ true → cut (step ∷ p) ≡ step ∷ []
  here-steps h = ap (λ t. step ∷ t) (cond-true (stops step) [] (cut p) h)

  here-end : (e : End) → stops step ≡ true → cut_end (step ∷ p) e ≡ step_end step
  here-end e h = cond-true (stops step) (step_end step) (cut_end p e) h

  later-steps : stops step ≡ false → cut (step ∷ p) ≡ step ∷ cut p
  later-steps h = ap (λ t. step ∷ t) (cond-false (stops step) [] (cut p) h)

  later-end : (e : End) → stops step ≡ false → cut_end (step ∷ p) e ≡ cut_end p e
  later-end e h = cond-false (stops step) (step_end step) (cut_end p e) h

  none-first : is_stopped (step ∷ p) ≡ false → (stops step ≡ false) × (is_stopped p ≡ false)
  none-first h = by (stops step) refl
    where
      by : (b : Bool) → stops step ≡ b → (stops step ≡ false) × (is_stopped p ≡ false)
      by true e = absurd (true≢false (sym (or_left _ _ e) ∙ h))
      by false e = (e, sym (ap (λ b. b || is_stopped p) e) ∙ h)

-- ---- a path that is cut, whatever stands behind it

pub stopped-steps : (p q : Steps) → is_stopped p ≡ true → cut (p ++ q) ≡ cut p
stopped-steps [] q h = absurd cc
stopped-steps (s ∷ p) q h = ⊎_elim
    (λ here. here-steps s (p ++ q) here ∙ sym (here-steps s p here))
    (λ later. later-steps s (p ++ q) later ∙ ap (λ t. s ∷ t) (stopped-steps p q (or_second _ _ later h))
    ∙ sym (later-steps s p later)) (cases_Bool (stops s))

pub stopped-end : (p q : Steps) (e f : End) → is_stopped p ≡ true → cut_end (p ++ q) e ≡ cut_end p f
stopped-end [] q e f h = absurd cc
stopped-end (s ∷ p) q e f h = ⊎_elim
    (λ here. here-end s (p ++ q) e here ∙ sym (here-end s p f here))
    (λ later. later-end s (p ++ q) e later ∙ stopped-end p q e f (or_second _ _ later h) ∙ sym (later-end s p f later))
    (cases_Bool (stops s))

-- the end does not count
pub stopped-any : (p : Steps) (e f : End) → is_stopped p ≡ true → cut_end p e ≡ cut_end p f
stopped-any [] e f h = absurd cc
stopped-any (s ∷ p) e f h = ⊎_elim
    (λ here. here-end s p e here ∙ sym (here-end s p f here))
    (λ later. later-end s p e later ∙ stopped-any p e f (or_second _ _ later h) ∙ sym (later-end s p f later))
    (cases_Bool (stops s))

pub stopped-final : (p : Steps) (e : End) → is_stopped p ≡ true → is_final (cut_end p e) ≡ true
stopped-final [] e h = absurd cc
stopped-final (s ∷ p) e h = ⊎_elim
    (λ here. ap is_final (here-end s p e here) ∙ here)
    (λ later. ap is_final (later-end s p e later) ∙ stopped-final p e (or_second _ _ later h)) (cases_Bool (stops s))

-- ---- a path that is not cut

pub whole-steps : (p q : Steps) → is_stopped p ≡ false → cut (p ++ q) ≡ p ++ cut q
whole-steps [] q h = refl
whole-steps (s ∷ p) q h =
    let parts = none-first s p h in
    later-steps s (p ++ q) parts.0 ∙ ap (λ t. s ∷ t) (whole-steps p q parts.1)

pub whole-end : (p q : Steps) (e : End) → is_stopped p ≡ false → cut_end (p ++ q) e ≡ cut_end q e
whole-end [] q e h = refl
whole-end (s ∷ p) q e h =
    let parts = none-first s p h in later-end s (p ++ q) e parts.0 ∙ whole-end p q e parts.1

pub all-steps : (p : Steps) → is_stopped p ≡ false → cut p ≡ p
all-steps [] h = refl
all-steps (s ∷ p) h =
    let parts = none-first s p h in later-steps s p parts.0 ∙ ap (λ t. s ∷ t) (all-steps p parts.1)

pub all-end : (p : Steps) (e : End) → is_stopped p ≡ false → cut_end p e ≡ e
all-end [] e h = refl
all-end (s ∷ p) e h = let parts = none-first s p h in later-end s p e parts.0 ∙ all-end p e parts.1

-- ---- ends, as code reads them

pub read-final : (e : End) → is_final e ≡ true → read e ≡ e
read-final Normal h = refl
read-final Return h = refl
read-final Exception h = refl
read-final (Exit k) h = absurd cc

pub read-other : (e : End) → is_final e ≡ false → read e ≡ Normal
read-other Normal h = refl
read-other Return h = absurd cc
read-other Exception h = absurd cc
read-other (Exit k) h = refl

pub normal-other : (e : End) → e ≡ Normal → is_final e ≡ false
normal-other e h = ap is_final h

-- a path that ends by a return or an exception does so when it is cut
pub final-cut : (p : Steps) (e : End) → is_final e ≡ true → is_final (cut_end p (read e)) ≡ true
final-cut p e h = ⊎_elim
    (λ stopped. stopped-final p (read e) stopped)
    (λ whole. ap is_final (all-end p (read e) whole ∙ read-final e h) ∙ h) (cases_Bool (is_stopped p))

-- what does not so is not cut
pub normal-cut : (p : Steps) (e : End) → cut_end p (read e) ≡ Normal → (is_stopped p ≡ false) × (is_final e ≡ false)
normal-cut p e h = (whole, other)
  where
    none : is_final (cut_end p (read e)) ≡ false
    none = normal-other (cut_end p (read e)) h

    whole : is_stopped p ≡ false
    whole = ⊎_elim (λ stopped. absurd (true≢false (sym (stopped-final p (read e) stopped) ∙ none))) (λ w. w)
        (cases_Bool (is_stopped p))

    other : is_final e ≡ false
    other = ⊎_elim (λ final. absurd (true≢false (sym (final-cut p e final) ∙ none))) (λ o. o) (cases_Bool (is_final e))

-- what ends otherwise is cut, or ends by a return or an exception
pub other-cut : (p : Steps) (e : End) → (cut_end p (read e) ≡ Normal → ⊥) → (is_stopped p ≡ true) ⊎ (is_final e ≡ true)
other-cut p e h = ⊎_elim (λ stopped. inl stopped) (λ whole. ⊎_elim (λ final. inr final)
    (λ other. absurd (h (all-end p (read e) whole ∙ read-other e other))) (cases_Bool (is_final e)))
    (cases_Bool (is_stopped p))

-- ---- what is done behind

pub behind-final : (e : End) (steps : Steps) → is_final e ≡ true → behind e steps ≡ []
behind-final Normal steps h = absurd cc
behind-final Return steps h = refl
behind-final Exception steps h = refl
behind-final (Exit k) steps h = absurd cc

pub behind-other : (e : End) (steps : Steps) → is_final e ≡ false → behind e steps ≡ steps
behind-other Normal steps h = refl
behind-other Return steps h = absurd cc
behind-other Exception steps h = absurd cc
behind-other (Exit k) steps h = refl
