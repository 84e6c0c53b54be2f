-- The code of a body with a `finally` has the paths that are asked for.
use Rattle.std.proofs.Common.{◌≡◌, ℕ, Bool, true, false, not, ◌&&◌, ◌∷◌, ◌++◌, filter, refl, sym, ap}
use Rattle.std.proofs.Common.{◌∙◌}
use Rattle.std.proofs.Common.{inl, inr, ⊎_elim, true≢false}
use Rattle.std.proofs.lemmas.Bool.{and_parts, and_from, cases_Bool}
use Rattle.core_lowering_drafts.specs.Drafts.{End, Normal, Return, Exception, Exit, Ends, has, without}
use Rattle.core_lowering_drafts.specs.Drafts.{is_same}
use Rattle.core_lowering_drafts.specs.Drafts.{is_kept}
use Rattle.core_lowering_drafts.specs.Paths.{Steps, Paths, cut, cut_end, read, IsThen, IsLast, IsBehind}
use Rattle.core_lowering_drafts.specs.Only.{Code, Rest, Branch, branches, does_stand, thrown, forked}
use Rattle.core_lowering_drafts.proofs.Sets.{filter-parts, filter-from, not-back, same-or, same_end, same_itself}
use Rattle.core_lowering_drafts.proofs.Cuts.{is_stopped}
use Rattle.core_lowering_drafts.proofs.Exact.{IsExact, kept-from, kept-parts}
use Rattle.core_lowering_drafts.proofs.Alike.{Alike, Either, IsOf, onwards}
use Rattle.core_lowering_drafts.proofs.Kept.{By, HasPath, moved}
use Rattle.core_lowering_drafts.proofs.Rests.{IsRest, IsKept}
use Rattle.core_lowering_drafts.proofs.Forks.{IsAnyStanding, AreOf, forks-kept}
use Rattle.core_lowering_drafts.proofs.Branches.{IsSuch, branch-there, branch-back, exit-such, kept-such, turned-such}

module _ (B F G : Paths) (k : ℕ) (found : Ends) (x : IsExact found B) (returns : (q : Steps) → B q Return →
    is_stopped q ≡ true)
    (asked : Ends) (at_exit kept turned : Rest) (exit_rest : IsRest (IsThen F G) asked at_exit)
    (kept_rest : IsRest F (Normal ∷ asked) kept) (turned_rest : IsRest F (without Normal asked) turned) where
  abbrev Behind_it : End → Paths
  Behind_it from = IsThen F (IsLast k G from)

  abbrev kept_by : End → Bool
  kept_by e = is_kept k e && has asked e

  abbrev turned_by : End → Bool
  turned_by e = is_kept k e && not (has asked e)

  abbrev first : Branch
  first = record { by = filter (is_same (Exit k)) found; behind = at_exit; asked = asked }

  abbrev second : Branch
  second = record { by = filter kept_by found; behind = kept; asked = Normal ∷ asked }

  abbrev third : Branch
  third = record { by = filter turned_by found; behind = turned; asked = without Normal asked }

  first-such : (from : End) → has first.by from ≡ true →
      (from ≡ Exception → ⊥) × IsSuch asked (λ f. IsThen F (IsLast k G f)) (IsThen F G) asked from
  first-such from h =
      let is = same_end (Exit k) from (filter-parts (is_same (Exit k)) found from h).1 in (
        (λ i. true≢false (sym (ap (is_same Exception) i) ∙ ap (is_same Exception) (sym is))),
        exit-such F G k asked from
            (sym is),
      )

  second-such : (from : End) → has second.by from ≡ true →
      (from ≡ Exception → ⊥) × IsSuch asked (λ f. IsThen F (IsLast k G f)) F (Normal ∷ asked) from
  second-such from h =
      let parts = and_parts (is_kept k from) (has asked from) (filter-parts kept_by found from h).1 in
      let other = kept-parts k from parts.0 in
      (other.0, kept-such F asked from parts.1 G k other.1)

  third-such : (from : End) → has third.by from ≡ true →
      (from ≡ Exception → ⊥) × IsSuch asked (λ f. IsThen F (IsLast k G f)) F (without Normal asked) from
  third-such from h =
      let parts = and_parts (is_kept k from) (not (has asked from)) (filter-parts turned_by found from h).1 in
      let other = kept-parts k from parts.0 in
      (other.0, turned-such F G k asked from (not-back (has asked from) parts.1) other.1)

  abbrev Whole : Paths
  Whole = Either (By (thrown asked) B) (IsAnyStanding B (branches k found asked at_exit kept turned))

  -- a path of the body that goes on comes into one of the three
  module _ (q r : Steps) (from e : End) (path : B q from) (other : from ≡ Exception → ⊥) (more : Behind_it from r e)
      (is_asked : has asked e ≡ true) where
    there : has found from ≡ true
    there = x.there q from path

    to-first : from ≡ Exit k → Whole (cut (q ++ r)) (cut_end (q ++ r) (read e))
    to-first is = inr (inl (branch-there B F G k asked returns first (IsThen F G) exit_rest first-such q r from e path
        (filter-from (is_same (Exit k)) found from there (ap (is_same (Exit k)) is ∙ same_itself (Exit k))) more
        is_asked))

    to-second : is_kept k from ≡ true → has asked from ≡ true → Whole (cut (q ++ r)) (cut_end (q ++ r) (read e))
    to-second h a = inr (inr (inl (branch-there B F G k asked returns second F kept_rest second-such q r from e path
        (filter-from kept_by found from there (and_from _ _ h a)) more is_asked)))

    to-third : is_kept k from ≡ true → has asked from ≡ false → Whole (cut (q ++ r)) (cut_end (q ++ r) (read e))
    to-third h a = inr (inr (inr (inl (branch-there B F G k asked returns third F turned_rest third-such q r from e path
        (filter-from turned_by found from there (and_from _ _ h (ap not a))) more is_asked))))

    to-one : Whole (cut (q ++ r)) (cut_end (q ++ r) (read e))
    to-one = ⊎_elim to-first
        (λ leaves. ⊎_elim (to-second (kept-from k from other leaves)) (to-third (kept-from k from other leaves))
        (cases_Bool (has asked from))) (same-or from (Exit k))

  behind-there : (p : Steps) (e : End) → By asked (IsBehind B F k G) p e → Whole p e
  behind-there p e b = ⊎_elim
      (λ h. inl (record {
        whole = b.whole;
        from = b.from;
        path = h.0;
        steps = b.steps;
        end = b.end;
        is_asked = filter-from (is_same Exception) asked b.from b.is_asked
            (ap (is_same Exception) h.1 ∙ same_itself Exception);
      }))
      (λ h. moved Whole p (cut (h.2 ++ h.3)) e (cut_end (h.2 ++ h.3) (read b.from)) (b.steps ∙ ap cut h.4)
      (b.end ∙ ap (λ w. cut_end w (read b.from)) h.4)
      (to-one h.2 h.3 h.0 b.from h.5 h.1 h.6 b.is_asked)) b.path

  behind-back : (p : Steps) (e : End) → Whole p e → By asked (IsBehind B F k G) p e
  behind-back p e (inl b) =
      let parts = filter-parts (is_same Exception) asked b.from b.is_asked in record {
        whole = b.whole;
        from = b.from;
        is_asked = parts.0;
        steps = b.steps;
        end = b.end;
        path = inl (b.path, sym (same_end Exception b.from parts.1));
      }
  behind-back p e (inr (inl h)) = branch-back B F G k asked returns first (IsThen F G) exit_rest first-such p e h
  behind-back p e (inr (inr (inl h))) = branch-back B F G k asked returns second F kept_rest second-such p e h
  behind-back p e (inr (inr (inr (inl h)))) = branch-back B F G k asked returns third F turned_rest third-such p e h
  behind-back p e (inr (inr (inr (inr h)))) = absurd h

  are-of : AreOf found (branches k found asked at_exit kept turned)
  are-of = (
    (λ e h. (filter-parts (is_same (Exit k)) found e h).0),
    (
      (λ e h. (filter-parts kept_by found e h).0),
      ((λ e h. (filter-parts turned_by found e h).0), tt),
    ),
  )

  pub behind-kept : (body : Ends → Code) → IsKept body found B → HasPath asked (IsBehind B F k G) →
      Alike (By asked (IsBehind B F k G))
      (IsOf (forked body asked (filter does_stand (branches k found asked at_exit kept turned))))
  behind-kept body known some =
      let p = cut some.whole in
      let e = cut_end some.whole (read some.from) in
      let way = behind-there p e (record {
        whole = some.whole;
        from = some.from;
        is_asked = some.is_asked;
        path = some.path;
        steps = refl;
        end = refl;
      }) in
      onwards (record { there = behind-there; back = behind-back })
      (forks-kept body found B x known asked (branches k found asked at_exit kept turned) are-of p e way)
