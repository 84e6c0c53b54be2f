-- The paths that are cut and end by an end that is asked for, of a part and what stands behind it.
use Rattle.std.proofs.Common.{◌≡◌, ◌⊎◌, true, false, [], ◌++◌, refl, sym, ap, ◌∙◌, subst, inl}
use Rattle.std.proofs.Common.{inr}
use Rattle.std.proofs.Common.{⊎_elim, true≢false}
use Rattle.std.proofs.lemmas.Bool.{cases_Bool}
use Rattle.core_lowering_drafts.specs.Drafts.{End, Normal, Ends, has, without, is_final}
use Rattle.core_lowering_drafts.specs.Drafts.{is_exit}
use Rattle.core_lowering_drafts.specs.Drafts.{final_ends, exits, on}
use Rattle.core_lowering_drafts.specs.Paths.{Steps, Paths, cut, cut_end, read, IsOne, IsThen}
use Rattle.core_lowering_drafts.proofs.Sets.{filter-parts, filter-from, without-from, without-parts, first-or}
use Rattle.core_lowering_drafts.proofs.Sets.{rest-there}
use Rattle.core_lowering_drafts.proofs.Sets.{kind-of, final-ends, exit-leaves}
use Rattle.core_lowering_drafts.proofs.Cuts.{is_stopped, stopped-steps, stopped-end, stopped-final, whole-steps}
use Rattle.core_lowering_drafts.proofs.Cuts.{whole-end}
use Rattle.core_lowering_drafts.proofs.Cuts.{all-steps, all-end, final-cut, normal-cut, other-cut}
use Rattle.core_lowering_drafts.proofs.Alike.{Alike, Either, turned}

-- a cut path of these that ends so, where an end that is asked for is read as code reads it
pub record By (asked : Ends) (P : Paths) (p : Steps) (e : End) : Type 0 where
  pub whole : Steps
  pub from : End
  pub is_asked : has asked from ≡ true
  pub path : P whole from
  pub steps : p ≡ cut whole
  pub end : e ≡ cut_end whole (read from)

-- there is one
pub record HasPath (asked : Ends) (P : Paths) : Type 0 where
  pub whole : Steps
  pub from : End
  pub is_asked : has asked from ≡ true
  pub path : P whole from

-- no exit is asked for
abbrev pub NoExit : Ends → Type 0
NoExit now = (e : End) → has now e ≡ true → (e ≡ Normal) ⊎ (is_final e ≡ true)

pub on-no_exit : (asked : Ends) → NoExit (on asked)
on-no_exit asked e h = ⊎_elim (λ normal. inl normal)
    (λ final. inr (filter-parts is_final asked e final).1) (first-or Normal e (final_ends asked) h)

pub on-from : (asked : Ends) (e : End) → has asked e ≡ true → is_final e ≡ true → has (on asked) e ≡ true
on-from asked e h final = rest-there Normal e (final_ends asked) (filter-from is_final asked e h final)

pub on-final : (asked : Ends) (e : End) → has (on asked) e ≡ true → is_final e ≡ true → has asked e ≡ true
on-final asked e h final = ⊎_elim (λ normal. absurd (final-ends e final normal))
    (λ there. (filter-parts is_final asked e there).0) (first-or Normal e (final_ends asked) h)

-- the same in other words
pub moved : (P : Paths) (p q : Steps) (e f : End) → p ≡ q → e ≡ f → P q f → P p e
moved P p q e f i j h = subst (λ s. P s e) (sym i) (subst (λ g. P q g) (sym j) h)

-- ---- what ends normally, and what does not

module _ (now : Ends) (P : Paths) (no_exit : NoExit now) where
  pub normal-by : (q : Steps) → By now P q Normal → P q Normal × (is_stopped q ≡ false)
  normal-by q b =
      let open_end = normal-cut b.whole b.from (sym b.end) in
      let is : q ≡ b.whole = b.steps ∙ all-steps b.whole open_end.0 in
      let normal : b.from ≡ Normal = ⊎_elim (λ n. n) (λ final. absurd (true≢false (sym final ∙ open_end.1)))
      (no_exit b.from b.is_asked) in
      (moved P q b.whole Normal b.from is (sym normal) b.path, ap is_stopped is ∙ open_end.0)

pub by-normal : (now : Ends) (P : Paths) (q : Steps) → has now Normal ≡ true → P q Normal → is_stopped q ≡ false →
    By now P q Normal
by-normal now P q h path open_end = record {
  whole = q;
  from = Normal;
  is_asked = h;
  path = path;
  steps = sym (all-steps q open_end);
  end = sym (all-end q Normal open_end);
}

-- ---- the same paths, and other sets

by-there : (asked : Ends) (P Q : Paths) → Alike P Q → (p : Steps) (e : End) → By asked P p e → By asked Q p e
by-there asked P Q a p e b = record {
  whole = b.whole;
  from = b.from;
  is_asked = b.is_asked;
  path = a.there b.whole b.from b.path;
  steps = b.steps;
  end = b.end;
}

pub by-alike : (asked : Ends) {P Q : Paths} → Alike P Q → Alike (By asked P) (By asked Q)
by-alike asked {P} {Q} a = record { there = by-there asked P Q a; back = by-there asked Q P (turned a) }

pub by-sets : (A B : Ends) (P : Paths) →
    ((p : Steps) (e : End) → P p e → has A e ≡ true → has B e ≡ true) → (p : Steps) (e : End) → By A P p e → By B P p e
by-sets A B P f p e b = record {
  whole = b.whole;
  from = b.from;
  is_asked = f b.whole b.from b.path b.is_asked;
  path = b.path;
  steps = b.steps;
  end = b.end;
}

-- ---- a part, and what stands behind it

module _ (asked : Ends) (P R : Paths) (more : HasPath asked R) where
  split-there : (p : Steps) (e : End) → By asked (IsThen P R) p e →
      Either (By (exits asked) P) (IsThen (By (on asked) P) (By asked R)) p e
  split-there p e b = ⊎_elim leaves goes b.path
    where
      final : P b.whole b.from → is_final b.from ≡ true →
          Either (By (exits asked) P) (IsThen (By (on asked) P) (By asked R)) p e
      final path h = inr (inl (
        record {
          whole = b.whole;
          from = b.from;
          is_asked = on-from asked b.from b.is_asked h;
          path = path;
          steps = b.steps;
          end = b.end;
        },
        final-ends e (ap is_final b.end ∙ final-cut b.whole b.from h),
      ))

      exit : P b.whole b.from → is_exit b.from ≡ true →
          Either (By (exits asked) P) (IsThen (By (on asked) P) (By asked R)) p e
      exit path h = inl (record {
        whole = b.whole;
        from = b.from;
        is_asked = filter-from is_exit asked b.from b.is_asked h;
        path = path;
        steps = b.steps;
        end = b.end;
      })

      leaves : P b.whole b.from × (b.from ≡ Normal → ⊥) →
          Either (By (exits asked) P) (IsThen (By (on asked) P) (By asked R)) p e
      leaves h = ⊎_elim (λ normal. absurd (h.1 normal)) (λ k. ⊎_elim (final h.0) (exit h.0) k) (kind-of b.from)

      stopped : (q r : Steps) → b.whole ≡ q ++ r → P q Normal → is_stopped q ≡ true →
          Either (By (exits asked) P) (IsThen (By (on asked) P) (By asked R)) p e
      stopped q r is path s =
          let end : e ≡ cut_end q Normal = b.end ∙ ap (λ w. cut_end w (read b.from)) is
          ∙ stopped-end q r (read b.from) Normal s in
          inr (inl (
            record {
              whole = q;
              from = Normal;
              is_asked = refl;
              path = path;
              steps = b.steps ∙ ap cut is ∙ stopped-steps q r s;
              end = end;
            },
            final-ends e (ap is_final end ∙ stopped-final q Normal s),
          ))

      goes_on : (q r : Steps) → b.whole ≡ q ++ r → P q Normal → R r b.from → is_stopped q ≡ false →
          Either (By (exits asked) P) (IsThen (By (on asked) P) (By asked R)) p e
      goes_on q r is path rest s = inr (inr (
        q,
        cut r,
        b.steps ∙ ap cut is ∙ whole-steps q r s,
        by-normal (on asked) P q refl path s,
        record {
          whole = r;
          from = b.from;
          is_asked = b.is_asked;
          path = rest;
          steps = refl;
          end = b.end ∙ ap (λ w. cut_end w (read b.from)) is ∙ whole-end q r (read b.from) s;
        },
      ))

      goes : ((q : Steps) × (r : Steps) × (b.whole ≡ q ++ r) × P q Normal × R r b.from) →
          Either (By (exits asked) P) (IsThen (By (on asked) P) (By asked R)) p e
      goes h = ⊎_elim (stopped h.0 h.1 h.2 h.3) (goes_on h.0 h.1 h.2 h.3 h.4) (cases_Bool (is_stopped h.0))

  -- a part that stops, with some way on
  glued : (p : Steps) (e : End) → (b : By (on asked) P p e) → b.from ≡ Normal → is_stopped b.whole ≡ true →
      By asked (IsThen P R) p e
  glued p e b normal s = record {
    whole = b.whole ++ more.whole;
    from = more.from;
    is_asked = more.is_asked;
    path = inr (b.whole, more.whole, refl, subst (λ f. P b.whole f) normal b.path, more.path);
    steps = b.steps ∙ sym (stopped-steps b.whole more.whole s);
    end = b.end ∙ sym (stopped-end b.whole more.whole (read more.from) (read b.from) s);
  }

  split-back : (p : Steps) (e : End) → Either (By (exits asked) P) (IsThen (By (on asked) P) (By asked R)) p e →
      By asked (IsThen P R) p e
  split-back p e (inl b) =
      let parts = filter-parts is_exit asked b.from b.is_asked in record {
        whole = b.whole;
        from = b.from;
        is_asked = parts.0;
        path = inl (b.path, exit-leaves b.from parts.1);
        steps = b.steps;
        end = b.end;
      }
  split-back p e (inr (inl h)) =
      ⊎_elim (λ normal. glued p e h.0 normal (stop normal)) final (on-no_exit asked h.0.from h.0.is_asked)
    where
      stop : h.0.from ≡ Normal → is_stopped h.0.whole ≡ true
      stop normal = ⊎_elim (λ s. s) (λ f. absurd (final-ends h.0.from f normal))
          (other-cut h.0.whole h.0.from (λ z. h.1 (h.0.end ∙ z)))

      final : is_final h.0.from ≡ true → By asked (IsThen P R) p e
      final f = record {
        whole = h.0.whole;
        from = h.0.from;
        is_asked = on-final asked h.0.from h.0.is_asked f;
        path = inl (h.0.path, final-ends h.0.from f);
        steps = h.0.steps;
        end = h.0.end;
      }
  split-back p e (inr (inr h)) =
      let n = normal-by (on asked) P (on-no_exit asked) h.0 h.3 in
      let c : By asked R h.1 e = h.4 in record {
        whole = h.0 ++ c.whole;
        from = c.from;
        is_asked = c.is_asked;
        path = inr (h.0, c.whole, refl, n.0, c.path);
        steps = h.2 ∙ ap (λ t. h.0 ++ t) c.steps ∙ sym (whole-steps h.0 c.whole n.1);
        end = c.end ∙ sym (whole-end h.0 c.whole (read c.from) n.1);
      }

  pub split : Alike (By asked (IsThen P R)) (Either (By (exits asked) P) (IsThen (By (on asked) P) (By asked R)))
  split = record { there = split-there; back = split-back }

-- what stands behind has no path that is asked for
module _ (asked : Ends) (P R : Paths) (none : (p : Steps) (e : End) → R p e → has asked e ≡ true → ⊥) where
  pub unmet-behind : Alike (By asked (IsThen P R)) (By (without Normal asked) P)
  unmet-behind = record { there = there; back = back }
    where
      there : (p : Steps) (e : End) → By asked (IsThen P R) p e → By (without Normal asked) P p e
      there p e b = ⊎_elim
          (λ h. record {
            whole = b.whole;
            from = b.from;
            is_asked = without-from Normal asked b.from b.is_asked h.1;
            path = h.0;
            steps = b.steps;
            end = b.end;
          })
          (λ h. absurd (none h.1 b.from h.4 b.is_asked)) b.path

      back : (p : Steps) (e : End) → By (without Normal asked) P p e → By asked (IsThen P R) p e
      back p e b =
          let parts = without-parts Normal asked b.from b.is_asked in record {
            whole = b.whole;
            from = b.from;
            is_asked = parts.0;
            path = inl (b.path, parts.1);
            steps = b.steps;
            end = b.end;
          }

-- nothing
pub one-by : (asked : Ends) → has asked Normal ≡ true → Alike (By asked (IsOne [] Normal)) (IsOne [] Normal)
one-by asked h = record {
  there = λ p e b. (b.steps ∙ ap cut b.path.0, b.end ∙ ap (λ w. cut_end w (read b.from)) b.path.0 ∙ ap read b.path.1);
  back = λ p e one. record {
    whole = [];
    from = Normal;
    is_asked = h;
    path = (refl, refl);
    steps = one.0;
    end = one.1;
  };
}
