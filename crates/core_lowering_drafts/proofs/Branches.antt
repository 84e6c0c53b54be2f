-- One branch: paths of a body that end by ends of a set, and what is done behind them.
use Rattle.std.proofs.Common.{◌≡◌, ℕ, true, false, [], ◌∷◌, ◌++◌, refl, sym, ap, ◌∙◌, subst, inl}
use Rattle.std.proofs.Common.{inr}
use Rattle.std.proofs.Common.{⊎_elim, append-nil, true≢false}
use Rattle.std.specs.List.{list_any}
use Rattle.std.proofs.lemmas.Bool.{and_parts, and_from, cases_Bool}
use Rattle.core_lowering_drafts.specs.Drafts.{End, Normal, Return, Exception, Exit, Ends, has, without, is_final}
use Rattle.core_lowering_drafts.specs.Paths.{Steps, Paths, cut, cut_end, read, IsOne, IsThen, IsLast, IsBehind}
use Rattle.core_lowering_drafts.specs.Only.{code_in, is_met, Branch, does_stand}
use Rattle.core_lowering_drafts.proofs.Sets.{any-from, first-or, rest-there, is_normal, final-ends}
use Rattle.core_lowering_drafts.proofs.Cuts.{is_stopped, stopped-steps, stopped-end, stopped-final, whole-steps}
use Rattle.core_lowering_drafts.proofs.Cuts.{whole-end}
use Rattle.core_lowering_drafts.proofs.Cuts.{all-steps, all-end, normal-cut, other-cut, read-other}
use Rattle.core_lowering_drafts.proofs.Alike.{Alike, IsOf, itself, turned, onwards, then-alike}
use Rattle.core_lowering_drafts.proofs.Kept.{By, HasPath, by-alike, unmet-behind}
use Rattle.core_lowering_drafts.proofs.Rests.{IsRest, rest-kept, rest-path, rest-met, path-alike}
use Rattle.core_lowering_drafts.proofs.Forks.{IsBranchPath, IsStandingPath}

final-kind : (e : End) → (e ≡ Exception → ⊥) → (e ≡ Return → ⊥) → is_final e ≡ false
final-kind Normal f g = refl
final-kind Return f g = absurd (g refl)
final-kind Exception f g = absurd (f refl)
final-kind (Exit k) f g = refl

return-kind : (e : End) → is_final e ≡ true → (e ≡ Exception → ⊥) → e ≡ Return
return-kind Normal h f = absurd cc
return-kind Return h f = refl
return-kind Exception h f = absurd (f refl)
return-kind (Exit k) h f = absurd cc

-- what the rest is, for the ends that lead into a branch: R, of which these ends are asked for
pub record IsSuch (asked : Ends) (Behind : End → Paths) (R : Paths) (also : Ends) (from : End) : Type 0 where
  pub to : HasPath asked (Behind from) → HasPath also R
  pub back : HasPath also R → HasPath asked (Behind from)
  pub same : is_final from ≡ false → Alike (By asked (Behind from)) (By also R)

module _ (B F G : Paths) (k : ℕ) (asked : Ends) (returns : (q : Steps) → B q Return → is_stopped q ≡ true)
    (branch : Branch) (R : Paths) (rest : IsRest R branch.asked branch.behind)
    (such : (from : End) → has branch.by from ≡ true →
    (from ≡ Exception → ⊥) × IsSuch asked (λ f. IsThen F (IsLast k G f)) R branch.asked from) where
  abbrev Behind_it : End → Paths
  Behind_it from = IsThen F (IsLast k G from)

  goes-on : (q : Steps) (from : End) → B q from → has branch.by from ≡ true → is_stopped q ≡ false →
      is_final from ≡ false
  goes-on q from path h s = final-kind from (such from h).0
      (λ is. true≢false (sym (returns q (subst (λ f. B q f) is path)) ∙ s))

  does-stop : (q : Steps) (from : End) → B q from → has branch.by from ≡ true → is_final from ≡ true →
      is_stopped q ≡ true
  does-stop q from path h f =
      returns q (subst (λ e. B q e) (return-kind from f (such from h).0) path)

  standing-met : does_stand branch ≡ true → is_met branch.behind branch.asked ≡ true
  standing-met h = (and_parts (list_any (λ e. true) branch.by) (is_met branch.behind branch.asked) h).1

  -- a path of the body that comes here, and goes on
  module _ (q r : Steps) (from e : End) (path : B q from) (by : has branch.by from ≡ true) (more : Behind_it from r e)
      (is_asked : has asked e ≡ true) where
    way : HasPath branch.asked R
    way = (such from by).1.to (record { whole = r; from = e; is_asked = is_asked; path = more })

    met : is_met branch.behind branch.asked ≡ true
    met = rest-met R branch.asked branch.behind rest way.whole way.from way.path way.is_asked

    stands : does_stand branch ≡ true
    stands = and_from _ _ (any-from (λ f. true) branch.by from by refl) met

    stopped : is_stopped q ≡ true → IsBranchPath B branch (cut (q ++ r)) (cut_end (q ++ r) (read e))
    stopped s =
        let end = stopped-end q r (read e) (read from) s in
        inl (
          record {
            whole = q;
            from = from;
            is_asked = by;
            path = path;
            steps = stopped-steps q r s;
            end = end;
          },
          final-ends (cut_end (q ++ r) (read e)) (ap is_final end ∙ stopped-final q (read from) s),
        )

    whole : is_stopped q ≡ false → IsBranchPath B branch (cut (q ++ r)) (cut_end (q ++ r) (read e))
    whole s =
        let other = goes-on q from path by s in
        inr (
          q,
          cut r,
          whole-steps q r s,
          record {
            whole = q;
            from = from;
            is_asked = by;
            path = path;
            steps = sym (all-steps q s);
            end = sym (all-end q (read from) s ∙ read-other from other);
          },
          (rest-kept R branch.asked branch.behind rest met).there (cut r) (cut_end (q ++ r) (read e))
              (((such from by).1.same other).there (cut r) (cut_end (q ++ r) (read e)) (record {
                whole = r;
                from = e;
                is_asked = is_asked;
                path = more;
                steps = refl;
                end = whole-end q r (read e) s;
              })),
        )

    pub branch-there : IsStandingPath B branch (cut (q ++ r)) (cut_end (q ++ r) (read e))
    branch-there = (stands, ⊎_elim stopped whole (cases_Bool (is_stopped q)))

  pub branch-back : (p : Steps) (e : End) → IsStandingPath B branch p e → By asked (IsBehind B F k G) p e
  branch-back p e h = ⊎_elim stops goes h.1
    where
      stops : By branch.by B p e × (e ≡ Normal → ⊥) → By asked (IsBehind B F k G) p e
      stops t =
          let b : By branch.by B p e = t.0 in
          let fits = such b.from b.is_asked in
          let some = fits.1.back (rest-path R branch.asked branch.behind rest (standing-met h.0)) in
          let s : is_stopped b.whole ≡ true = ⊎_elim (λ s. s) (does-stop b.whole b.from b.path b.is_asked)
          (other-cut b.whole b.from (λ z. t.1 (b.end ∙ z))) in
          record {
            whole = b.whole ++ some.whole;
            from = some.from;
            is_asked = some.is_asked;
            path = inr (b.from, fits.0, b.whole, some.whole, refl, b.path, some.path);
            steps = b.steps ∙ sym (stopped-steps b.whole some.whole s);
            end = b.end ∙ sym (stopped-end b.whole some.whole (read some.from) (read b.from) s);
          }

      goes : ((q : Steps) × (r : Steps) × (p ≡ q ++ r) × By branch.by B q Normal × IsOf (code_in branch.behind) r e) →
          By asked (IsBehind B F k G) p e
      goes t =
          let b : By branch.by B t.0 Normal = t.3 in
          let fits = such b.from b.is_asked in
          let n = normal-cut b.whole b.from (sym b.end) in
          let d = (fits.1.same n.1).back t.1 e
          ((rest-kept R branch.asked branch.behind rest (standing-met h.0)).back t.1 e t.4) in
          record {
            whole = b.whole ++ d.whole;
            from = d.from;
            is_asked = d.is_asked;
            path = inr (b.from, fits.0, b.whole, d.whole, refl, b.path, d.path);
            steps = t.2 ∙ ap (λ q. q ++ t.1) (b.steps ∙ all-steps b.whole n.0) ∙ ap (λ r. b.whole ++ r) d.steps
                ∙ sym (whole-steps b.whole d.whole n.0);
            end = d.end ∙ sym (whole-end b.whole d.whole (read d.from) n.0);
          }

-- ---- what is behind, for each kind of end

last-exit : (k : ℕ) (G : Paths) (from : End) → from ≡ Exit k → Alike (IsLast k G from) G
last-exit k G from is = record {
  there = λ p e. ⊎_elim (λ h. h.1) (λ h. absurd (h.0 is));
  back = λ p e h. inl (is, h);
}

last-other : (k : ℕ) (G : Paths) (from : End) → (from ≡ Exit k → ⊥) → Alike (IsLast k G from) (IsOne [] from)
last-other k G from other = record {
  there = λ p e. ⊎_elim (λ h. absurd (other h.0)) (λ h. h.1);
  back = λ p e h. inr (other, h);
}

-- sets of paths of which the same are asked for
alike-such : (asked : Ends) (Behind : End → Paths) (R S : Paths) (also : Ends) (from : End) → Alike (Behind from) S →
    (HasPath asked S → HasPath also R) → (HasPath also R → HasPath asked S) →
    (is_final from ≡ false → Alike (By asked S) (By also R)) → IsSuch asked Behind R also from
alike-such asked Behind R S also from a to back same = record {
  to = λ h. to (path-alike asked (Behind from) S a h);
  back = λ h. path-alike asked S (Behind from) (turned a) (back h);
  same = λ o. onwards (by-alike asked a) (same o);
}

pub exit-such : (F G : Paths) (k : ℕ) (asked : Ends) (from : End) → from ≡ Exit k →
    IsSuch asked (λ f. IsThen F (IsLast k G f)) (IsThen F G) asked from
exit-such F G k asked from is =
    alike-such asked (λ f. IsThen F (IsLast k G f)) (IsThen F G) (IsThen F G) asked from
    (then-alike (itself F) (last-exit k G from is)) (λ h. h) (λ h. h) (λ o. itself (By asked (IsThen F G)))

-- the body ends by an end that is asked for
module _ (F : Paths) (asked : Ends) (from : End) (is_asked : has asked from ≡ true) where
  kept-to : HasPath asked (IsThen F (IsOne [] from)) → HasPath (Normal ∷ asked) F
  kept-to h = ⊎_elim
      (λ t. record { whole = h.whole; from = h.from; is_asked = rest-there Normal h.from asked h.is_asked; path = t.0 })
      (λ t. record { whole = t.0; from = Normal; is_asked = refl; path = t.3 }) h.path

  kept-back : HasPath (Normal ∷ asked) F → HasPath asked (IsThen F (IsOne [] from))
  kept-back h = ⊎_elim
      (λ n. record {
        whole = h.whole;
        from = from;
        is_asked = is_asked;
        path = inr (h.whole, [], sym (append-nil h.whole), subst (λ f. F h.whole f) n h.path, (refl, refl));
      })
      (λ o. ⊎_elim (λ n. absurd (o n))
      (λ t. record { whole = h.whole; from = h.from; is_asked = t; path = inl (h.path, o) })
      (first-or Normal h.from asked h.is_asked)) (is_normal h.from)

  module _ (other : is_final from ≡ false) where
    same-there : (p : Steps) (e : End) → By asked (IsThen F (IsOne [] from)) p e → By (Normal ∷ asked) F p e
    same-there p e b = ⊎_elim
        (λ t. record {
          whole = b.whole;
          from = b.from;
          is_asked = rest-there Normal b.from asked b.is_asked;
          path = t.0;
          steps = b.steps;
          end = b.end;
        })
        (λ t. let whole : b.whole ≡ t.0 = t.2 ∙ ap (λ r. t.0 ++ r) t.4.0 ∙ append-nil t.0 in record {
          whole = t.0;
          from = Normal;
          is_asked = refl;
          path = t.3;
          steps = b.steps ∙ ap cut whole;
          end = b.end ∙ ap (λ w. cut_end w (read b.from)) whole
              ∙ ap (λ f. cut_end t.0 f) (ap read t.4.1 ∙ read-other from other);
        }) b.path

    same-back : (p : Steps) (e : End) → By (Normal ∷ asked) F p e → By asked (IsThen F (IsOne [] from)) p e
    same-back p e b = ⊎_elim
        (λ n. record {
          whole = b.whole;
          from = from;
          is_asked = is_asked;
          steps = b.steps;
          path = inr (b.whole, [], sym (append-nil b.whole), subst (λ f. F b.whole f) n b.path, (refl, refl));
          end = b.end ∙ ap (λ f. cut_end b.whole f) (ap read n ∙ sym (read-other from other));
        })
        (λ o. ⊎_elim (λ n. absurd (o n))
        (λ t. record {
          whole = b.whole;
          from = b.from;
          is_asked = t;
          path = inl (b.path, o);
          steps = b.steps;
          end = b.end;
        }) (first-or Normal b.from asked b.is_asked)) (is_normal b.from)

  pub kept-such : (G : Paths) (k : ℕ) → (from ≡ Exit k → ⊥) →
      IsSuch asked (λ f. IsThen F (IsLast k G f)) F (Normal ∷ asked) from
  kept-such G k leaves =
      alike-such asked (λ f. IsThen F (IsLast k G f)) F (IsThen F (IsOne [] from)) (Normal ∷ asked) from
      (then-alike (itself F) (last-other k G from leaves)) kept-to kept-back
      (λ o. record { there = same-there o; back = same-back o })

has-by : (asked : Ends) (P : Paths) → (h : HasPath asked P) → By asked P (cut h.whole) (cut_end h.whole (read h.from))
has-by asked P h = record {
  whole = h.whole;
  from = h.from;
  is_asked = h.is_asked;
  path = h.path;
  steps = refl;
  end = refl;
}

by-has : (asked : Ends) (P : Paths) (p : Steps) (e : End) → By asked P p e → HasPath asked P
by-has asked P p e b = record { whole = b.whole; from = b.from; is_asked = b.is_asked; path = b.path }

-- it does not
pub turned-such : (F G : Paths) (k : ℕ) (asked : Ends) (from : End) → has asked from ≡ false → (from ≡ Exit k → ⊥) →
    IsSuch asked (λ f. IsThen F (IsLast k G f)) F (without Normal asked) from
turned-such F G k asked from none leaves =
    let both : Alike (By asked (IsThen F (IsOne [] from))) (By (without Normal asked) F) =
    unmet-behind asked F (IsOne [] from) (λ p e one h. true≢false (sym h ∙ ap (has asked) one.1 ∙ none)) in
    alike-such asked (λ f. IsThen F (IsLast k G f)) F (IsThen F (IsOne [] from)) (without Normal asked) from
    (then-alike (itself F) (last-other k G from leaves))
    (λ h. by-has (without Normal asked) F (cut h.whole) (cut_end h.whole (read h.from))
    (both.there (cut h.whole) (cut_end h.whole (read h.from)) (has-by asked (IsThen F (IsOne [] from)) h)))
    (λ h. by-has asked (IsThen F (IsOne [] from)) (cut h.whole) (cut_end h.whole (read h.from))
    (both.back (cut h.whole) (cut_end h.whole (read h.from)) (has-by (without Normal asked) F h)))
    (λ o. both)
