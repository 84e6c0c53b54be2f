-- Sets of paths that are the same, and how they are put together.
use Rattle.std.proofs.Common.{◌⊎◌, [], ◌∷◌, ◌++◌, refl, sym, ap, ◌∙◌, subst, inl, inr, ⊎_elim}
use Rattle.std.proofs.Common.{append-nil}
use Rattle.std.proofs.lemmas.List.{append_assoc}
use Rattle.core_code.specs.Tree.{Tree, in_sequence}
use Rattle.core_lowering_drafts.specs.Drafts.{End, Normal}
use Rattle.core_lowering_drafts.specs.Paths.{Steps, Paths, IsOne, IsThen, IsCodePath}
use Rattle.core_lowering_drafts.specs.Only.{Code, fork}
use Rattle.core_lowering_drafts.proofs.Sets.{is_normal}

pub record Alike (P Q : Paths) : Type 0 where
  pub there : (p : Steps) (e : End) → P p e → Q p e
  pub back : (p : Steps) (e : End) → Q p e → P p e

abbrev pub Either : Paths → Paths → Paths
Either P Q p e = P p e ⊎ Q p e

-- the paths of code
abbrev pub IsOf : Code → Paths
IsOf code p e = IsCodePath (in_sequence code) p e

-- ---- the same

pub itself : (P : Paths) → Alike P P
itself P = record { there = λ p e h. h; back = λ p e h. h }

pub turned : {P Q : Paths} → Alike P Q → Alike Q P
turned a = record { there = a.back; back = a.there }

pub onwards : {P Q R : Paths} → Alike P Q → Alike Q R → Alike P R
onwards a b = record { there = λ p e h. b.there p e (a.there p e h); back = λ p e h. a.back p e (b.back p e h) }

pub either-alike : {P Q R S : Paths} → Alike P Q → Alike R S → Alike (Either P R) (Either Q S)
either-alike a b = record {
  there = λ p e. ⊎_elim (λ h. inl (a.there p e h)) (λ h. inr (b.there p e h));
  back = λ p e. ⊎_elim (λ h. inl (a.back p e h)) (λ h. inr (b.back p e h));
}

-- one side has no path
pub only-second : {P Q : Paths} → ((p : Steps) (e : End) → P p e → ⊥) → Alike (Either P Q) Q
only-second none = record { there = λ p e. ⊎_elim (λ h. absurd (none p e h)) (λ h. h); back = λ p e h. inr h }

pub only-first : {P Q : Paths} → ((p : Steps) (e : End) → Q p e → ⊥) → Alike (Either P Q) P
only-first none = record { there = λ p e. ⊎_elim (λ h. h) (λ h. absurd (none p e h)); back = λ p e h. inl h }

-- ---- one after another

then-there : (P Q R S : Paths) → Alike P Q → Alike R S → (p : Steps) (e : End) → IsThen P R p e → IsThen Q S p e
then-there P Q R S a b p e (inl h) = inl (a.there p e h.0, h.1)
then-there P Q R S a b p e (inr h) = inr (h.0, h.1, h.2, a.there h.0 Normal h.3, b.there h.1 e h.4)

pub then-alike : {P Q R S : Paths} → Alike P Q → Alike R S → Alike (IsThen P R) (IsThen Q S)
then-alike {P} {Q} {R} {S} a b =
    record { there = then-there P Q R S a b; back = then-there Q P S R (turned a) (turned b) }

-- nothing before
nothing-there : (P : Paths) (p : Steps) (e : End) → IsThen (IsOne [] Normal) P p e → P p e
nothing-there P p e (inl h) = absurd (h.1 h.0.1)
nothing-there P p e (inr h) = subst (λ q. P q e) (sym (h.2 ∙ ap (λ q. q ++ h.1) h.3.0)) h.4

pub nothing-then : (P : Paths) → Alike (IsThen (IsOne [] Normal) P) P
nothing-then P = record {
  there = nothing-there P;
  back = λ p e h. inr ([], p, refl, (refl, refl), h);
}

-- nothing behind
then-nothing-there : (P : Paths) (p : Steps) (e : End) → IsThen P (IsOne [] Normal) p e → P p e
then-nothing-there P p e (inl h) = h.0
then-nothing-there P p e (inr h) =
    subst (λ f. P p f) (sym h.4.1)
    (subst (λ q. P q Normal) (sym (h.2 ∙ ap (λ r. h.0 ++ r) h.4.0 ∙ append-nil h.0)) h.3)

then-nothing-back : (P : Paths) (p : Steps) (e : End) → P p e → IsThen P (IsOne [] Normal) p e
then-nothing-back P p e h = ⊎_elim
    (λ normal. inr (p, [], sym (append-nil p), subst (λ f. P p f) normal h, (refl, normal)))
    (λ other. inl (h, other)) (is_normal e)

pub then-nothing : (P : Paths) → Alike (IsThen P (IsOne [] Normal)) P
then-nothing P = record { there = then-nothing-there P; back = then-nothing-back P }

-- three
three-there : (P Q R : Paths) (p : Steps) (e : End) → IsThen (IsThen P Q) R p e → IsThen P (IsThen Q R) p e
three-there P Q R p e (inl h) = ⊎_elim
    (λ first. inl first)
    (λ both. inr (both.0, both.1, both.2, both.3, inl (both.4, h.1))) h.0
three-there P Q R p e (inr h) = ⊎_elim
    (λ first. absurd (first.1 refl))
    (λ both. inr (
      both.0,
      both.1 ++ h.1,
      h.2 ∙ ap (λ q. q ++ h.1) both.2 ∙ append_assoc both.0 both.1 h.1,
      both.3,
      inr (both.1, h.1, refl, both.4, h.4),
    )) h.3

three-back : (P Q R : Paths) (p : Steps) (e : End) → IsThen P (IsThen Q R) p e → IsThen (IsThen P Q) R p e
three-back P Q R p e (inl h) = inl (inl h, h.1)
three-back P Q R p e (inr h) = ⊎_elim
    (λ first. inl (inr (h.0, h.1, h.2, h.3, first.0), first.1))
    (λ both. inr (
      h.0 ++ both.0,
      both.1,
      h.2 ∙ ap (λ q. h.0 ++ q) both.2 ∙ sym (append_assoc h.0 both.0 both.1),
      inr (h.0, both.0, refl, h.3, both.3),
      both.4,
    )) h.4

pub three : (P Q R : Paths) → Alike (IsThen (IsThen P Q) R) (IsThen P (IsThen Q R))
three P Q R = record { there = three-there P Q R; back = three-back P Q R }

-- ---- code

pub parts-then : (first rest : Code) → Alike (IsOf (first ++ rest)) (IsThen (IsOf first) (IsOf rest))
parts-then [] rest = turned (nothing-then (IsOf rest))
parts-then (part ∷ first) rest =
    onwards (then-alike (itself (IsCodePath part)) (parts-then first rest))
    (turned (three (IsCodePath part) (IsOf first) (IsOf rest)))

pub one-part : (part : Tree) → Alike (IsOf (part ∷ [])) (IsCodePath part)
one-part part = then-nothing (IsCodePath part)

pub fork-paths : (left right : Code) → Alike (IsOf (fork left right)) (Either (IsOf left) (IsOf right))
fork-paths left right = then-nothing (Either (IsOf left) (IsOf right))
