-- Methods counted at the first of those that are called as they are, one after the other.
use Rattle.std.proofs.Common.{◌≡◌, ℕ, ◌+◌, ◌<◌, Bool, true, false, List, Option, Some, length, drop, get_or}
use Rattle.std.proofs.Common.{refl, sym, ap, ◌∙◌, subst, arith, nat_eq, slice_index_or, slice_set}
use Rattle.std.specs.Prelude.{if◌then◌else◌}
use borrow.Author.Tests.{eqb-true}
use Rattle.std.proofs.lemmas.Bool.{false≢true, eq-eqb}
use Rattle.std.proofs.lemmas.List.{at_drop_more, get_or-set_other, get_or-set_same}
use Rattle.racer_base.specs.declared.ids.MethodId.{MethodId}
use Rattle.java_resolver.specs.declared.infos.MethodInfo.{MethodInfo}
use Rattle.core_lowering_surveys.specs.Counts.{first_of, one_at, tally}

pub tally-next : (methods some : List MethodInfo) (i : ℕ) (m : MethodInfo) (o : Option MethodId) → i < length some →
    m ≡ get_or some i m → o ≡ first_of methods m → (n : ℕ) →
    tally methods n (drop i some) ≡ one_at o n + tally methods n (drop (i + 1) some)
tally-next methods some i m o within is e n =
    at_drop_more (tally methods n) some i m within
    ∙ ap (λ (x : MethodInfo). one_at (first_of methods x) n + tally methods n (drop (i + 1) some)) (sym is)
    ∙ ap (λ (p : Option MethodId). one_at p n + tally methods n (drop (i + 1) some)) (sym e)

pub counted-at : (old new : List ℕ) (f : MethodId) → f.0 < length old →
    new ≡ slice_set old f.0 (slice_index_or old f.0 0 + 1) → (n : ℕ) →
    slice_index_or new n 0 ≡ one_at (Some f) n + slice_index_or old n 0
counted-at old new f low set n = by (nat_eq f.0 n) refl
  where
    more : ℕ
    more = slice_index_or old f.0 0 + 1

    by : (t : Bool) → nat_eq f.0 n ≡ t → slice_index_or new n 0 ≡ one_at (Some f) n + slice_index_or old n 0
    by true h =
        let at : one_at (Some f) n ≡ 1 = ap (λ (t : Bool). if t then 1 else 0) h in
        let one : slice_index_or new n 0 ≡ slice_index_or old n 0 + 1 =
        subst (λ (k : ℕ). slice_index_or new k 0 ≡ slice_index_or old k 0 + 1) (eqb-true f.0 n h)
        (ap (λ (l : List ℕ). slice_index_or l f.0 0) set ∙ get_or-set_same old f.0 more 0 low) in
        omega (arith, at, one)
    by false h =
        let at : one_at (Some f) n ≡ 0 = ap (λ (t : Bool). if t then 1 else 0) h in
        let none : slice_index_or new n 0 ≡ slice_index_or old n 0 =
        ap (λ (l : List ℕ). slice_index_or l n 0) set
        ∙ get_or-set_other old f.0 n more 0 (λ s. false≢true (sym h ∙ eq-eqb f.0 n (sym s))) in
        omega (arith, at, none)
