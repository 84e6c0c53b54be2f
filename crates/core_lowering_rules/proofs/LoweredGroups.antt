-- A fact of lowered code holds of the forks that the groups of a `switch` are.
use Rattle.std.proofs.Common.{◌≡◌, ℕ, zero, suc, Bool, true, false, cond, List, [], ◌∷◌, ◌++◌, Option, Some, None}
use Rattle.std.proofs.Common.{refl, subst, ap, length}
use Rattle.std.specs.Prelude.{take, drop, ◌/◌}
use Rattle.core_lowering_drafts.specs.Drafts.{Ends, Normal, has}
use Rattle.core_lowering_rules.specs.Trees.{Groups, no_group}
use Rattle.core_lowering_rules.specs.Trees.{group_then}
use Rattle.core_lowering_rules.specs.Context.{Code}
use Rattle.core_lowering_rules.specs.Context.{choice}
use Rattle.core_lowering_rules.specs.Statements.{entered, does_fall, forked_by, forked}
use Rattle.core_lowering_rules.proofs.LoweredFacts.{Fact}
use Rattle.core_lowering_rules.proofs.LoweredFacts.{branches}

module _ (f : Fact) where
  -- ---- groups

  abbrev pub AllStand : List Code → List Code → Type 0
  AllStand [] [] = Unit {0}
  AllStand [] (d ∷ ds) = ⊥
  AllStand (a ∷ us) [] = ⊥
  AllStand (a ∷ us) (d ∷ ds) = f.Stands a d × AllStand us ds

  pub all-append : (us bs ds es : List Code) → AllStand us ds → AllStand bs es → AllStand (us ++ bs) (ds ++ es)
  all-append [] bs [] es p q = q
  all-append [] bs (d ∷ ds) es p q = absurd p
  all-append (a ∷ us) bs [] es p q = absurd p
  all-append (a ∷ us) bs (d ∷ ds) es p q = (p.0, all-append us bs ds es p.1 q)

  all-take : (n : ℕ) (us ds : List Code) → AllStand us ds → AllStand (take n us) (take n ds)
  all-take zero us ds p = tt
  all-take (suc n) [] [] p = tt
  all-take (suc n) [] (d ∷ ds) p = absurd p
  all-take (suc n) (a ∷ us) [] p = absurd p
  all-take (suc n) (a ∷ us) (d ∷ ds) p = (p.0, all-take n us ds p.1)

  all-drop : (n : ℕ) (us ds : List Code) → AllStand us ds → AllStand (drop n us) (drop n ds)
  all-drop zero us ds p = p
  all-drop (suc n) [] [] p = tt
  all-drop (suc n) [] (d ∷ ds) p = absurd p
  all-drop (suc n) (a ∷ us) [] p = absurd p
  all-drop (suc n) (a ∷ us) (d ∷ ds) p = all-drop n us ds p.1

  as-many : (us ds : List Code) → AllStand us ds → length us ≡ length ds
  as-many [] [] p = refl
  as-many [] (d ∷ ds) p = absurd p
  as-many (a ∷ us) [] p = absurd p
  as-many (a ∷ us) (d ∷ ds) p = ap suc (as-many us ds p.1)

  -- the two halves
  halves : (n half other_half : ℕ) → half ≡ other_half → (us ds : List Code) → AllStand us ds →
      ((bs es : List Code) → AllStand bs es → f.Stands (forked_by n bs) (forked_by n es)) →
      f.Stands (choice (forked_by n (take half us)) (forked_by n (drop half us)))
      (choice (forked_by n (take other_half ds)) (forked_by n (drop other_half ds)))
  halves n half other_half e us ds p each =
      subst (λ (h : ℕ). f.Stands (choice (forked_by n (take half us)) (forked_by n (drop half us)))
      (choice (forked_by n (take h ds)) (forked_by n (drop h ds)))) e
      (branches f (each (take half us) (take half ds) (all-take half us ds p))
      (each (drop half us) (drop half ds) (all-drop half us ds p)))

  forks-stand : (n : ℕ) (us ds : List Code) → AllStand us ds → f.Stands (forked_by n us) (forked_by n ds)
  forks-stand zero us ds p = f.none
  forks-stand (suc n) [] [] p = f.none
  forks-stand (suc n) [] (d ∷ ds) p = absurd p
  forks-stand (suc n) (a ∷ us) [] p = absurd p
  forks-stand (suc n) (a ∷ []) (d ∷ []) p = p.0
  forks-stand (suc n) (a ∷ []) (d ∷ e ∷ ds) p = absurd p.1
  forks-stand (suc n) (a ∷ b ∷ us) (d ∷ []) p = absurd p.1
  forks-stand (suc n) (a ∷ b ∷ us) (d ∷ e ∷ ds) p =
      halves n (length (a ∷ b ∷ us) / 2) (length (d ∷ e ∷ ds) / 2)
      (ap (λ (k : ℕ). k / 2) (as-many (a ∷ b ∷ us) (d ∷ e ∷ ds) p)) (a ∷ b ∷ us) (d ∷ e ∷ ds) p
      (λ bs es q. forks-stand n bs es q)

  pub forked-stand : (us ds : List Code) → AllStand us ds → f.Stands (forked us) (forked ds)
  forked-stand us ds p =
      subst (λ (n : ℕ). f.Stands (forked_by (length us) us) (forked_by n ds)) (as-many us ds p)
      (forks-stand (length us) us ds p)

  abbrev pub SomeStands : Option Code → Option Code → Type 0
  SomeStands None None = Unit {0}
  SomeStands None (Some d) = ⊥
  SomeStands (Some a) None = ⊥
  SomeStands (Some a) (Some d) = f.Stands a d

  pub entered-stands : (o p : Option Code) → SomeStands o p → f.Stands (entered o) (entered p)
  entered-stands None None h = f.none
  entered-stands None (Some d) h = absurd h
  entered-stands (Some a) None h = absurd h
  entered-stands (Some a) (Some d) h = branches f h f.none

  pub falls-alike : (a d : Code) → f.Stands a d → (gs : Groups) → does_fall a gs ≡ does_fall d gs
  falls-alike a d p no_group = refl
  falls-alike a d p (group_then labels ss gs) = ap (λ (es : Ends). has es Normal) (f.same_ends a d p)

  pub all-by : (s t : Bool) → s ≡ t → (us bs ds es : List Code) → AllStand us ds → AllStand bs es →
      AllStand (cond s us bs) (cond t ds es)
  all-by true true e us bs ds es p q = p
  all-by true false e us bs ds es p q = absurd cc
  all-by false true e us bs ds es p q = absurd cc
  all-by false false e us bs ds es p q = q

  pub default-stands : (b : Bool) → AllStand (cond b [] ([] ∷ [])) (cond b [] ([] ∷ []))
  default-stands true = tt
  default-stands false = (f.none, tt)
