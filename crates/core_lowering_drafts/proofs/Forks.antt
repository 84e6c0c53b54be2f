-- The code of branches, each of which is paths of a body and what is done behind them.
use Rattle.std.proofs.Common.{◌≡◌, ◌⊎◌, Bool, true, false, List, [], ◌∷◌, ◌++◌, filter, cond, refl, sym, ap, ◌∙◌}
use Rattle.std.proofs.Common.{inl, inr}
use Rattle.std.proofs.Common.{⊎_elim, true≢false}
use Rattle.std.specs.Prelude.{⊤}
use Rattle.std.specs.List.{list_any}
use Rattle.std.proofs.lemmas.Bool.{and_parts, cond_both}
use Rattle.core_lowering_drafts.specs.Drafts.{End, Normal, Exception, Ends, has, do_meet, is_same, is_final}
use Rattle.core_lowering_drafts.specs.Paths.{Steps, Paths, IsThen}
use Rattle.core_lowering_drafts.specs.Only.{Code, code_in, Branch, does_stand, thrown, forked}
use Rattle.core_lowering_drafts.proofs.Sets.{any-found, do_meet-from, filter-parts, append-cases, append-left}
use Rattle.core_lowering_drafts.proofs.Sets.{append-right}
use Rattle.core_lowering_drafts.proofs.Sets.{same_end, final-ends}
use Rattle.core_lowering_drafts.proofs.Cuts.{final-cut, normal-cut}
use Rattle.core_lowering_drafts.proofs.Exact.{IsExact}
use Rattle.core_lowering_drafts.proofs.Alike.{Alike, Either, IsOf, itself, turned, onwards, either-alike, only-first}
use Rattle.core_lowering_drafts.proofs.Alike.{then-alike}
use Rattle.core_lowering_drafts.proofs.Alike.{parts-then, fork-paths}
use Rattle.core_lowering_drafts.proofs.Kept.{By, by-sets}
use Rattle.core_lowering_drafts.proofs.Rests.{IsKept}

abbrev pub IsBranchPath : Paths → Branch → Paths
IsBranchPath B branch = IsThen (By branch.by B) (IsOf (code_in branch.behind))

abbrev pub IsAnyPath : Paths → List Branch → Paths
IsAnyPath B [] p e = ⊥
IsAnyPath B (branch ∷ more) p e = IsBranchPath B branch p e ⊎ IsAnyPath B more p e

-- of a branch that stands
abbrev pub IsStandingPath : Paths → Branch → Paths
IsStandingPath B branch p e = (does_stand branch ≡ true) × IsBranchPath B branch p e

abbrev pub IsAnyStanding : Paths → List Branch → Paths
IsAnyStanding B [] p e = ⊥
IsAnyStanding B (branch ∷ more) p e = IsStandingPath B branch p e ⊎ IsAnyStanding B more p e

-- the ends that lead into each branch are ends of the body
abbrev pub AreOf : Ends → List Branch → Type 0
AreOf found [] = ⊤
AreOf found (branch ∷ more) = ((e : End) → has branch.by e ≡ true → has found e ≡ true) × AreOf found more

exchanged : (P Q R : Paths) → Alike (Either P (Either Q R)) (Either Q (Either P R))
exchanged P Q R = record {
  there = λ p e. ⊎_elim (λ h. inr (inl h)) (λ h. ⊎_elim (λ t. inl t) (λ t. inr (inr t)) h);
  back = λ p e. ⊎_elim (λ h. inr (inl h)) (λ h. ⊎_elim (λ t. inl t) (λ t. inr (inr t)) h);
}

module _ (body : Ends → Code) (found : Ends) (B : Paths) (x : IsExact found B) (kept : IsKept body found B)
    (asked : Ends) where
  abbrev Thrown : Paths
  Thrown = By (thrown asked) B

  is-exception : (e : End) → has (thrown asked) e ≡ true → e ≡ Exception
  is-exception e h = sym (same_end Exception e (filter-parts (is_same Exception) asked e h).1)

  -- what throws does not come to what is done behind
  throws : (p : Steps) (e : End) → Thrown p e → e ≡ Normal → ⊥
  throws p e b = final-ends e
      (ap is_final b.end ∙ final-cut b.whole b.from (ap is_final (is-exception b.from b.is_asked)))

  module _ (by : Ends) (Rest : Paths) where
    along-there : (p : Steps) (e : End) → IsThen (By (by ++ thrown asked) B) Rest p e →
        Either Thrown (IsThen (By by B) Rest) p e
    along-there p e (inl h) = ⊎_elim
        (λ here. inr (inl (
          record {
            whole = h.0.whole;
            from = h.0.from;
            is_asked = here;
            path = h.0.path;
            steps = h.0.steps;
            end = h.0.end;
          },
          h.1,
        )))
        (λ there. inl (record {
          whole = h.0.whole;
          from = h.0.from;
          is_asked = there;
          path = h.0.path;
          steps = h.0.steps;
          end = h.0.end;
        })) (append-cases by (thrown asked) h.0.from h.0.is_asked)
    along-there p e (inr h) =
        let b : By (by ++ thrown asked) B h.0 Normal = h.3 in
        ⊎_elim
        (λ here. inr (inr (
          h.0,
          h.1,
          h.2,
          record {
            whole = b.whole;
            from = b.from;
            is_asked = here;
            path = b.path;
            steps = b.steps;
            end = b.end;
          },
          h.4,
        )))
        (λ there. absurd (true≢false (sym (ap is_final (is-exception b.from there))
        ∙ (normal-cut b.whole b.from (sym b.end)).1)))
        (append-cases by (thrown asked) b.from b.is_asked)

    along-back : (p : Steps) (e : End) → Either Thrown (IsThen (By by B) Rest) p e →
        IsThen (By (by ++ thrown asked) B) Rest p e
    along-back p e (inl b) =
        inl (
          by-sets (thrown asked) (by ++ thrown asked) B (λ q f path h. append-right by (thrown asked) f h) p e b,
          throws p e b,
        )
    along-back p e (inr (inl h)) =
        inl (by-sets by (by ++ thrown asked) B (λ q f path t. append-left by (thrown asked) f t) p e h.0, h.1)
    along-back p e (inr (inr h)) = inr (
      h.0,
      h.1,
      h.2,
      by-sets by (by ++ thrown asked) B (λ q f path t. append-left by (thrown asked) f t) h.0 Normal h.3,
      h.4,
    )

    along : Alike (Either Thrown (IsThen (By by B) Rest)) (IsThen (By (by ++ thrown asked) B) Rest)
    along = record { there = along-back; back = along-there }

  -- each has a path of the body
  abbrev AreMet : List Branch → Type 0
  AreMet [] = ⊤
  AreMet (branch ∷ more) = (do_meet found branch.by ≡ true) × AreMet more

  abbrev IsSome : List Branch → Type 0
  IsSome [] = do_meet found (thrown asked) ≡ true
  IsSome (branch ∷ more) = ⊤

  front-met : (by : Ends) → do_meet found by ≡ true → do_meet found (by ++ thrown asked) ≡ true
  front-met by h =
      let some = any-found (has by) found h in
      do_meet-from found (by ++ thrown asked) some.0 some.1 (append-left by (thrown asked) some.0 some.2)

  fork-kept : (branches : List Branch) → AreMet branches → IsSome branches →
      Alike (Either Thrown (IsAnyPath B branches)) (IsOf (forked body asked branches))
  fork-kept [] met some = onwards (only-first (λ p e h. h)) (kept (thrown asked) some)
  fork-kept (b ∷ []) met some =
      onwards (either-alike (itself Thrown) (only-first (λ p e h. h)))
      (onwards (along b.by (IsOf (code_in b.behind)))
      (onwards (then-alike (kept (b.by ++ thrown asked) (front-met b.by met.0)) (itself (IsOf (code_in b.behind))))
      (turned (parts-then (body (b.by ++ thrown asked)) (code_in b.behind)))))
  fork-kept (b ∷ c ∷ more) met some =
      onwards (exchanged Thrown (IsBranchPath B b) (IsAnyPath B (c ∷ more)))
      (onwards (either-alike
      (onwards (then-alike (kept b.by met.0) (itself (IsOf (code_in b.behind))))
      (turned (parts-then (body b.by) (code_in b.behind))))
      (fork-kept (c ∷ more) met.1 tt))
      (turned (fork-paths (body b.by ++ code_in b.behind) (forked body asked (c ∷ more)))))

  -- ---- those that stand

  stand-there : (b : Branch) (bs : List Branch) (t : Bool) → does_stand b ≡ t → (p : Steps) (e : End) →
      IsAnyPath B (cond t (b ∷ bs) bs) p e → IsStandingPath B b p e ⊎ IsAnyPath B bs p e
  stand-there b bs true h p e (inl path) = inl (h, path)
  stand-there b bs true h p e (inr path) = inr path
  stand-there b bs false h p e path = inr path

  stand-back : (b : Branch) (bs : List Branch) (t : Bool) → does_stand b ≡ t → (p : Steps) (e : End) →
      IsStandingPath B b p e ⊎ IsAnyPath B bs p e → IsAnyPath B (cond t (b ∷ bs) bs) p e
  stand-back b bs true h p e (inl path) = inl path.1
  stand-back b bs true h p e (inr path) = inr path
  stand-back b bs false h p e (inl path) = absurd (true≢false (sym path.0 ∙ h))
  stand-back b bs false h p e (inr path) = path

  standing : (bs : List Branch) → Alike (IsAnyStanding B bs) (IsAnyPath B (filter does_stand bs))
  standing [] = itself (λ p e. ⊥)
  standing (b ∷ bs) = onwards (either-alike (itself (IsStandingPath B b)) (standing bs)) (record {
    there = stand-back b (filter does_stand bs) (does_stand b) refl;
    back = stand-there b (filter does_stand bs) (does_stand b) refl;
  })

  standing-met : (bs : List Branch) → AreOf found bs → AreMet (filter does_stand bs)
  standing-met [] h = tt
  standing-met (b ∷ bs) h = cond_both (does_stand b) (b ∷ filter does_stand bs) (filter does_stand bs) AreMet
      (λ s. (met (and_parts _ _ s).0, standing-met bs h.1)) (λ s. standing-met bs h.1)
    where
      met : list_any (λ e. true) b.by ≡ true → do_meet found b.by ≡ true
      met s =
          let some = any-found (λ e. true) b.by s in do_meet-from found b.by some.0 (h.0 some.0 some.1) some.1

  some-from : (bs : List Branch) (p : Steps) (e : End) → Either Thrown (IsAnyPath B bs) p e → IsSome bs
  some-from [] p e (inl b) = do_meet-from found (thrown asked) b.from (x.there b.whole b.from b.path) b.is_asked
  some-from [] p e (inr h) = absurd h
  some-from (b ∷ bs) p e h = tt

  pub forks-kept : (bs : List Branch) → AreOf found bs → (p : Steps) (e : End) →
      Either Thrown (IsAnyStanding B bs) p e →
      Alike (Either Thrown (IsAnyStanding B bs)) (IsOf (forked body asked (filter does_stand bs)))
  forks-kept bs h p e path =
      let stand = either-alike (itself Thrown) (standing bs) in
      onwards stand (fork-kept (filter does_stand bs) (standing-met bs h)
      (some-from (filter does_stand bs) p e (stand.there p e path)))
