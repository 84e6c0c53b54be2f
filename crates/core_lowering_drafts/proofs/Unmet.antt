-- A draft that does not meet a set leaves no code for it.
use Rattle.std.proofs.Common.{◌≡◌, Bool, true, false, ◌&&◌, ◌||◌, [], ◌++◌, cond, refl, sym, ap, ◌∙◌}
use Rattle.std.proofs.Common.{⊎_elim, subst}
use Rattle.std.proofs.lemmas.Bool.{and_parts, and_from, or_left, or_right, or_cases, cond-true, cond-false}
use Rattle.racer_base.proofs.Tests.{same_truth}
use Rattle.core_lowering_drafts.specs.Drafts.{Normal, Ends, has, without, do_meet, Draft, no_part, part_then}
use Rattle.core_lowering_drafts.specs.Drafts.{part_ends, ends, ends_then, meets}
use Rattle.core_lowering_drafts.specs.Only.{Rest, Last, Unmet, Met, code_in, is_met, are_met, before, only_part, onto}
use Rattle.core_lowering_drafts.specs.Only.{only}
use Rattle.core_lowering_drafts.proofs.Sets.{do_meet-found, do_meet-from, without-from, without-parts, append-cases}
use Rattle.core_lowering_drafts.proofs.Sets.{append-left, append-right, is_normal}

-- with nothing behind
pub met-last : (xs asked : Ends) → are_met xs Last asked ≡ do_meet xs asked
met-last xs asked = same_truth _ _ there back
  where
    there : are_met xs Last asked ≡ true → do_meet xs asked ≡ true
    there h = ⊎_elim
        (λ other. let found = do_meet-found xs (without Normal asked) other in
        do_meet-from xs asked found.0 found.1 (without-parts Normal asked found.0 found.2).0)
        (λ normal. let parts = and_parts _ _ normal in do_meet-from xs asked Normal parts.0 parts.1) (or_cases _ _ h)

    back : do_meet xs asked ≡ true → are_met xs Last asked ≡ true
    back h =
        let found = do_meet-found xs asked h in
        ⊎_elim
        (λ normal. or_right _ _
        (and_from _ _ (sym (ap (has xs) normal) ∙ found.1) (sym (ap (has asked) normal) ∙ found.2)))
        (λ other. or_left _ _ (do_meet-from xs (without Normal asked) found.0 found.1
        (without-from Normal asked found.0 found.2 other)))
        (is_normal found.0)

-- behind a part, and behind what follows it
module _ (first more asked : Ends) (met : Bool) where
  abbrev Behind : Bool
  Behind = do_meet more (without Normal asked) || has more Normal && met

  then-met : has first Normal ≡ true →
      (do_meet first (without Normal asked) || has first Normal && Behind) ≡
      (do_meet (without Normal first ++ more) (without Normal asked) || has (without Normal first ++ more) Normal
      && met)
  then-met normal = same_truth _ _ there back
    where
      there : (do_meet first (without Normal asked) || has first Normal && Behind) ≡ true →
          (do_meet (without Normal first ++ more) (without Normal asked)
          || has (without Normal first ++ more) Normal && met) ≡ true
      there h = ⊎_elim
          (λ here. let found = do_meet-found first (without Normal asked) here in
          let other = without-parts Normal asked found.0 found.2 in
          or_left _ _ (do_meet-from _ _ found.0 (append-left (without Normal first) more found.0
          (without-from Normal first found.0 found.1 other.1)) found.2))
          (λ on. ⊎_elim
          (λ met_there. let found = do_meet-found more (without Normal asked) met_there in
          or_left _ _ (do_meet-from _ _ found.0 (append-right (without Normal first) more found.0 found.1) found.2))
          (λ on_there. let parts = and_parts _ _ on_there in
          or_right _ _ (and_from _ _ (append-right (without Normal first) more Normal parts.0) parts.1))
          (or_cases _ _ (and_parts _ _ on).1))
          (or_cases _ _ h)

      back : (do_meet (without Normal first ++ more) (without Normal asked)
          || has (without Normal first ++ more) Normal && met) ≡ true →
          (do_meet first (without Normal asked) || has first Normal && Behind) ≡ true
      back h = ⊎_elim
          (λ here. let found = do_meet-found (without Normal first ++ more) (without Normal asked) here in
          ⊎_elim
          (λ in_first. or_left _ _
          (do_meet-from first _ found.0 (without-parts Normal first found.0 in_first).0 found.2))
          (λ in_more. or_right _ _ (and_from _ _ normal (or_left _ _ (do_meet-from more _ found.0 in_more found.2))))
          (append-cases (without Normal first) more found.0 found.1))
          (λ on. let parts = and_parts _ _ on in
          ⊎_elim
          (λ in_first. absurd ((without-parts Normal first Normal in_first).1 refl))
          (λ in_more. or_right _ _ (and_from _ _ normal (or_right _ _ (and_from _ _ in_more parts.1))))
          (append-cases (without Normal first) more Normal parts.0))
          (or_cases _ _ h)

  never-met : has first Normal ≡ false →
      (do_meet first (without Normal asked) || has first Normal && Behind) ≡
      (do_meet first (without Normal asked) || has first Normal && met)
  never-met e = ap (λ b. do_meet first (without Normal asked) || b && Behind) e
      ∙ sym (ap (λ b. do_meet first (without Normal asked) || b && met) e)

  abbrev Says : Ends → Type 0
  Says xs = (do_meet first (without Normal asked) || has first Normal && Behind) ≡
      (do_meet xs (without Normal asked) || has xs Normal && met)

  pub behind-met : (do_meet first (without Normal asked) || has first Normal && Behind) ≡
      (do_meet (ends_then first more) (without Normal asked) || has (ends_then first more) Normal && met)
  behind-met = by (has first Normal) refl
    where
      by : (b : Bool) → has first Normal ≡ b → Says (ends_then first more)
      by true e = subst Says (sym (cond-true _ (without Normal first ++ more) first e)) (then-met e)
      by false e = subst Says (sym (cond-false _ (without Normal first ++ more) first e)) (never-met e)

if-met : (b : Bool) (code : Rest) (asked : Ends) → is_met code asked ≡ true → is_met (cond b code Unmet) asked ≡ b
if-met true code asked h = h
if-met false code asked h = refl

-- whether what stands behind is met, with a draft before it
pub onto-met : (draft : Draft) (asked : Ends) (rest : Rest) →
    is_met (onto draft asked rest) asked ≡ are_met (ends draft) rest asked
onto-met no_part asked rest = sym (ap (λ b. (b || false) || is_met rest asked) none)
  where
    none : has (without Normal asked) Normal ≡ false
    none = by (has (without Normal asked) Normal) refl
      where
        by : (b : Bool) → has (without Normal asked) Normal ≡ b → b ≡ false
        by true e = absurd ((without-parts Normal asked Normal e).1 refl)
        by false e = refl
onto-met (part_then part more) asked rest =
    if-met (are_met (part_ends part) (onto more asked rest) asked)
    (Met (before (only_part part) (part_ends part) asked (onto more asked rest))) asked refl
    ∙ ap (λ b. do_meet (part_ends part) (without Normal asked) || has (part_ends part) Normal && b)
    (onto-met more asked rest)
    ∙ behind-met (part_ends part) (ends more) asked (is_met rest asked)

pub alone-met : (draft : Draft) (asked : Ends) → is_met (onto draft asked Last) asked ≡ meets draft asked
alone-met draft asked = onto-met draft asked Last ∙ met-last (ends draft) asked

pub unmet-code : (draft : Draft) (asked : Ends) → meets draft asked ≡ false → only draft asked ≡ []
unmet-code no_part asked h = refl
unmet-code (part_then part more) asked h =
    ap code_in (cond-false _ (Met (before (only_part part) (part_ends part) asked (onto more asked Last))) Unmet none)
  where
    none : are_met (part_ends part) (onto more asked Last) asked ≡ false
    none =
        sym (if-met (are_met (part_ends part) (onto more asked Last) asked)
        (Met (before (only_part part) (part_ends part) asked (onto more asked Last))) asked refl)
        ∙ alone-met (part_then part more) asked ∙ h
