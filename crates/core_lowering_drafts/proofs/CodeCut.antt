-- On a path of core code nothing stands behind a return or an exception.
use Rattle.std.proofs.Common.{◌≡◌, ◌⊎◌, false, List, [], ◌∷◌, ◌++◌, All, refl, sym, ap, ◌∙◌, inl, inr}
use Rattle.std.proofs.Common.{⊎_elim}
use Rattle.std.proofs.Common.{append-nil, true≢false}
use Rattle.std.specs.List.{flat_map}
use Rattle.std.proofs.lemmas.Bool.{cases_Bool}
use Rattle.std.proofs.lemmas.List.{append_assoc}
use Rattle.std.proofs.lemmas.List.Elements.{All-head, All-tail}
use Rattle.core_code.specs.Tree.{Tree, LockAt, Op, Skip, Seq, Choice, Loop, Sync}
use Rattle.core_lowering_drafts.specs.Drafts.{End, Normal, is_final}
use Rattle.core_lowering_drafts.specs.Paths.{Step, Steps, Paths, Did, Locks, Unlocks, step_end, cut, cut_end, behind}
use Rattle.core_lowering_drafts.specs.Paths.{IsOne}
use Rattle.core_lowering_drafts.specs.Paths.{IsThen, IsLooped, IsHeld, IsCodePath}
use Rattle.core_lowering_drafts.proofs.Cuts.{is_stopped, stopped-final, whole-steps}
use Rattle.core_lowering_drafts.proofs.Cuts.{whole-end}
use Rattle.core_lowering_drafts.proofs.Cuts.{all-steps, all-end, behind-final}
use Rattle.core_lowering_drafts.proofs.PartCode.{either-way, unlocks-open}

abbrev pub AreCut : Paths → Type 0
AreCut P = (p : Steps) (e : End) → P p e → (p ≡ cut p) × (e ≡ cut_end p e)

-- the same path in other words
as-cut : (p q : Steps) (e : End) → p ≡ q → (q ≡ cut q) × (e ≡ cut_end q e) → (p ≡ cut p) × (e ≡ cut_end p e)
as-cut p q e is h = (is ∙ h.0 ∙ sym (ap cut is), h.1 ∙ sym (ap (λ w. cut_end w e) is))

one-cut : (step : Step) → AreCut (IsOne (step ∷ []) (step_end step))
one-cut step p e h =
    let stops = is_final (step_end step) in (
      h.0 ∙ sym (ap cut h.0 ∙ ap (λ t. step ∷ t) (either-way stops [])),
      h.1 ∙ sym (ap (λ w. cut_end w e) h.0 ∙ ap (λ f. cut_end (step ∷ []) f) h.1 ∙ either-way stops (step_end step)),
    )

module _ (P : Paths) (known : AreCut P) where
  open-end : (q : Steps) → P q Normal → is_stopped q ≡ false
  open-end q h = ⊎_elim
      (λ s. absurd (true≢false (sym (stopped-final q Normal s) ∙ ap is_final (sym (known q Normal h).1)))) (λ o. o)
      (cases_Bool (is_stopped q))

  -- behind a path that ends normally
  on-cut : (q r : Steps) (e : End) → P q Normal → (r ≡ cut r) × (e ≡ cut_end r e) →
      (q ++ r ≡ cut (q ++ r)) × (e ≡ cut_end (q ++ r) e)
  on-cut q r e h t =
      let o = open-end q h in
      (ap (λ w. q ++ w) t.0 ∙ sym (whole-steps q r o), t.1 ∙ sym (whole-end q r e o))

  then-cut : (Q : Paths) → AreCut Q → AreCut (IsThen P Q)
  then-cut Q s p e (inl h) = known p e h.0
  then-cut Q s p e (inr h) = as-cut p (h.0 ++ h.1) e h.2 (on-cut h.0 h.1 e h.3 (s h.1 e h.4))

  rounds-cut : (rounds : List Steps) (q : Steps) (e : End) → All (λ r. P r Normal) rounds →
      IsOne [] Normal q e ⊎ P q e →
      (flat_map (λ r. r) rounds ++ q ≡ cut (flat_map (λ r. r) rounds ++ q)) ×
      (e ≡ cut_end (flat_map (λ r. r) rounds ++ q) e)
  rounds-cut [] q e all (inl one) = as-cut q [] e one.0 (refl, refl)
  rounds-cut [] q e all (inr h) = known q e h
  rounds-cut (r ∷ rounds) q e all last =
      as-cut ((r ++ flat_map (λ s. s) rounds) ++ q) (r ++ (flat_map (λ s. s) rounds ++ q)) e
      (append_assoc r (flat_map (λ s. s) rounds) q)
      (on-cut r (flat_map (λ s. s) rounds ++ q) e (All-head (λ s. P s Normal) r rounds all)
      (rounds-cut rounds q e (All-tail (λ s. P s Normal) r rounds all) last))

  looped-cut : AreCut (IsLooped P)
  looped-cut p e h = as-cut p (flat_map (λ r. r) h.0 ++ h.1) e h.2 (rounds-cut h.0 h.1 e h.3 h.4)

  under-cut : (lock : LockAt) (q : Steps) (e : End) → (q ≡ cut q) × (e ≡ cut_end q e) →
      (q ++ behind e (Unlocks lock ∷ []) ≡ cut (q ++ behind e (Unlocks lock ∷ []))) ×
      (e ≡ cut_end (q ++ behind e (Unlocks lock ∷ [])) e)
  under-cut lock q e h = ⊎_elim
      (λ s. let none = behind-final e (Unlocks lock ∷ []) (ap is_final h.1 ∙ stopped-final q e s) in
      let all = ap (λ r. q ++ r) none ∙ append-nil q in
      as-cut (q ++ behind e (Unlocks lock ∷ [])) q e all h)
      (λ s. let free = unlocks-open lock e in (
        sym (whole-steps q (behind e (Unlocks lock ∷ [])) s
            ∙ ap (λ r. q ++ r) (all-steps (behind e (Unlocks lock ∷ [])) free)),
        sym (whole-end q (behind e (Unlocks lock ∷ [])) e s ∙ all-end (behind e (Unlocks lock ∷ [])) e free),
      ))
      (cases_Bool (is_stopped q))

  held-cut : (lock : LockAt) → AreCut (IsHeld lock P)
  held-cut lock p e h =
      let rest = under-cut lock h.0 e (known h.0 e h.2) in
      as-cut p (Locks lock ∷ h.0 ++ behind e (Unlocks lock ∷ [])) e h.1 (ap (λ t. Locks lock ∷ t) rest.0, rest.1)

pub code-cut : (code : Tree) → AreCut (IsCodePath code)
code-cut (Op site place op) p e h = one-cut (Did place op) p e h
code-cut Skip p e h = as-cut p [] e h.0 (refl, refl)
code-cut (Seq first rest) p e h =
    then-cut (IsCodePath first) (code-cut first) (IsCodePath rest) (code-cut rest) p e h
code-cut (Choice left right) p e h = ⊎_elim (λ l. code-cut left p e l) (λ r. code-cut right p e r) h
code-cut (Loop body) p e h = looped-cut (IsCodePath body) (code-cut body) p e h
code-cut (Sync lock body) p e h = held-cut (IsCodePath body) (code-cut body) lock p e h
