-- A path that ends by a return or an exception has a step that does.
use Rattle.std.proofs.Common.{◌≡◌, ◌⊎◌, ℕ, true, false, [], ◌∷◌, ◌++◌, refl, sym, ap, ◌∙◌, inl}
use Rattle.std.proofs.Common.{inr, ⊎_elim}
use Rattle.std.proofs.Common.{true≢false}
use Rattle.std.specs.List.{flat_map}
use Rattle.std.proofs.lemmas.Bool.{or_left, or_right}
use Rattle.core_lowering_drafts.specs.Drafts.{End, is_final}
use Rattle.core_lowering_drafts.specs.Drafts.{Part, Draft, Op, Choice, Loop, Sync, Leave, Within, Never, Ending, Behind}
use Rattle.core_lowering_drafts.specs.Drafts.{no_part, part_then}
use Rattle.core_lowering_drafts.specs.Paths.{Step, Steps, Paths, Did, Unlocks, step_end, IsOne, IsThen, IsLooped}
use Rattle.core_lowering_drafts.specs.Paths.{behind}
use Rattle.core_lowering_drafts.specs.Paths.{IsLast, IsBehind, cleared_steps}
use Rattle.core_lowering_drafts.specs.Paths.{IsPathOfPart, IsPath}
use Rattle.core_lowering_drafts.proofs.Sets.{any-append, final-ends}
use Rattle.core_lowering_drafts.proofs.Cuts.{is_stopped}

abbrev pub DoStop : Paths → Type 0
DoStop P = (p : Steps) (e : End) → P p e → is_final e ≡ true → is_stopped p ≡ true

front : (p q r : Steps) → p ≡ q ++ r → is_stopped q ≡ true → is_stopped p ≡ true
front p q r is h = ap is_stopped is ∙ any-append (λ step. is_final (step_end step)) q r ∙ or_left _ _ h

back : (p q r : Steps) → p ≡ q ++ r → is_stopped r ≡ true → is_stopped p ≡ true
back p q r is h =
    ap is_stopped is ∙ any-append (λ step. is_final (step_end step)) q r ∙ or_right (is_stopped q) (is_stopped r) h

one-stops : (step : Step) → DoStop (IsOne (step ∷ []) (step_end step))
one-stops step p e h f = ap is_stopped h.0 ∙ or_left (is_final (step_end step)) false (ap is_final (sym h.1) ∙ f)

then-stops : (P Q : Paths) → DoStop P → DoStop Q → DoStop (IsThen P Q)
then-stops P Q s t p e (inl h) f = s p e h.0 f
then-stops P Q s t p e (inr h) f = back p h.0 h.1 h.2 (t h.1 e h.4 f)

looped-stops : (P : Paths) → DoStop P → DoStop (IsLooped P)
looped-stops P s p e h f = ⊎_elim (λ one. absurd (final-ends e f one.1))
    (λ path. back p (flat_map (λ r. r) h.0) h.1 h.2 (s h.1 e path f)) h.4

last-stops : (k : ℕ) (G : Paths) (from : End) (q : Steps) → DoStop G → (is_final from ≡ true → is_stopped q ≡ true) →
    (p : Steps) (e : End) → IsLast k G from p e → is_final e ≡ true → is_stopped q ≡ true ⊎ is_stopped p ≡ true
last-stops k G from q s t p e (inl h) f = inr (s p e h.1 f)
last-stops k G from q s t p e (inr h) f = inl (t (ap is_final (sym h.1.1) ∙ f))

behind-stops : (B F G : Paths) (k : ℕ) → DoStop B → DoStop F → DoStop G → DoStop (IsBehind B F k G)
behind-stops B F G k s t u p e (inl h) f = s p e h.0 f
behind-stops B F G k s t u p e (inr h) f = ⊎_elim
    (λ first. back p h.2 h.3 h.4 (t h.3 e first.0 f))
    (λ both. ⊎_elim (λ body. front p h.2 h.3 h.4 body) (λ last. back p h.2 h.3 h.4 (back h.3 both.0 both.1 both.2 last))
    (last-stops k G h.0 h.2 u (s h.2 h.0 h.5) both.1 e both.4 f)) h.6

mutual
  pub part-stops : (part : Part) → DoStop (IsPathOfPart part)
  part-stops (Op place op) p e h f = one-stops (Did place op) p e h f
  part-stops (Choice left right) p e h f = ⊎_elim (λ l. draft-stops left p e l f) (λ r. draft-stops right p e r f) h
  part-stops (Loop body) p e h f = looped-stops (IsPath body) (draft-stops body) p e h f
  part-stops (Sync lock body) p e h f =
      ap is_stopped h.1 ∙ front (h.0 ++ behind e (Unlocks lock ∷ [])) h.0 (behind e (Unlocks lock ∷ [])) refl
      (draft-stops body h.0 e h.2 f)
  part-stops (Leave k) p e h f = absurd (true≢false (sym f ∙ ap is_final h.1))
  part-stops (Within k body) p e h f =
      ⊎_elim (λ t. draft-stops body p e t.0 f) (λ t. absurd (final-ends e f t.0)) h
  part-stops Never p e h f = absurd h
  part-stops (Ending body place variables) p e h f =
      front p h.0 (behind e (flat_map (cleared_steps place) variables)) h.1 (draft-stops body h.0 e h.2 f)
  part-stops (Behind body finally k last) p e h f =
      behind-stops (IsPath body) (IsPath finally) (IsPath last) k (draft-stops body) (draft-stops finally)
      (draft-stops last) p e h f

  pub draft-stops : (draft : Draft) → DoStop (IsPath draft)
  draft-stops no_part p e h f = absurd (final-ends e f h.1)
  draft-stops (part_then part rest) p e h f =
      then-stops (IsPathOfPart part) (IsPath rest) (part-stops part) (draft-stops rest) p e h f
