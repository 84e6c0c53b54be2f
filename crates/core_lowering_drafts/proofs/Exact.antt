-- Each path of a draft ends by one of its ends, and each of these is the end of a path.
use Rattle.std.proofs.Common.{◌≡◌, ◌⊎◌, ℕ, Bool, true, false, not, [], ◌∷◌, ◌++◌, filter, cond, refl}
use Rattle.std.proofs.Common.{sym, ap}
use Rattle.std.proofs.Common.{◌∙◌, inl, inr, ⊎_elim}
use Rattle.std.specs.List.{list_any, flat_map}
use Rattle.std.proofs.lemmas.Bool.{and_parts, and_from, true≢false}
use Rattle.std.proofs.lemmas.List.Elements.{All-nil}
use Rattle.core_code.specs.Tree.{LockAt}
use Rattle.core_lowering_drafts.specs.Drafts.{End, Normal, Exception, Exit, Ends, has, without, is_same}
use Rattle.core_lowering_drafts.specs.Drafts.{is_kept}
use Rattle.core_lowering_drafts.specs.Drafts.{op_end, ends_then, ends_within, ends_last, ends_finally, ends_behind}
use Rattle.core_lowering_drafts.specs.Drafts.{Part, Draft, Op, Choice, Loop, Sync, Leave, Within, Never, Ending, Behind}
use Rattle.core_lowering_drafts.specs.Drafts.{no_part, part_then, part_ends, ends}
use Rattle.core_lowering_drafts.specs.Paths.{Steps, Paths, Did, Locks, Unlocks, IsOne, IsThen, IsLooped, behind}
use Rattle.core_lowering_drafts.specs.Paths.{IsWithBehind}
use Rattle.core_lowering_drafts.specs.Paths.{IsHeld, IsWithin, IsLast, IsBehind, cleared_steps, IsPathOfPart, IsPath}
use Rattle.core_lowering_drafts.proofs.Sets.{same_end, same_itself, other_end, filter-parts, filter-from, append-cases}
use Rattle.core_lowering_drafts.proofs.Sets.{append-left}
use Rattle.core_lowering_drafts.proofs.Sets.{append-right, not-back, without-from, without-parts, only-one, one-there}
use Rattle.core_lowering_drafts.proofs.Sets.{first-there, first-or, rest-there, any-found, any-from}

-- these are the ends of the paths
pub record IsExact (found : Ends) (P : Paths) : Type 0 where
  pub there : (p : Steps) (e : End) → P p e → has found e ≡ true
  pub back : (e : End) → has found e ≡ true → (p : Steps) × P p e

-- a set that is one of two
pub cond-has : (b : Bool) (xs ys : Ends) (e : End) → (b ≡ true → has xs e ≡ true) → (b ≡ false → has ys e ≡ true) →
    has (cond b xs ys) e ≡ true
cond-has true xs ys e f g = f refl
cond-has false xs ys e f g = g refl

pub has-cond : (b : Bool) (xs ys : Ends) (e : End) → has (cond b xs ys) e ≡ true →
    ((b ≡ true) × (has xs e ≡ true)) ⊎ ((b ≡ false) × (has ys e ≡ true))
has-cond true xs ys e h = inl (refl, h)
has-cond false xs ys e h = inr (refl, h)

-- ---- one path; two sides

pub one-exact : (steps : Steps) (end : End) → IsExact (end ∷ []) (IsOne steps end)
one-exact steps end = record {
  there = λ p e path. one-there end e path.1;
  back = λ e h. (steps, (refl, only-one end e h));
}

pub either-exact : (A B : Ends) (P Q : Paths) → IsExact A P → IsExact B Q → IsExact (A ++ B) (λ p e. P p e ⊎ Q p e)
either-exact A B P Q x y = record {
  there = λ p e. ⊎_elim (λ path. append-left A B e (x.there p e path)) (λ path. append-right A B e (y.there p e path));
  back = λ e h. ⊎_elim (λ a. let found = x.back e a in (found.0, inl found.1))
      (λ b. let found = y.back e b in (found.0, inr found.1)) (append-cases A B e h);
}

-- ---- one after another

module _ (A B : Ends) (P Q : Paths) (x : IsExact A P) (y : IsExact B Q) where
  then-there : (p : Steps) (e : End) → IsThen P Q p e → has (ends_then A B) e ≡ true
  then-there p e (inl h) = cond-has (has A Normal) (without Normal A ++ B) A e
      (λ on. append-left (without Normal A) B e (without-from Normal A e (x.there p e h.0) h.1))
      (λ off. x.there p e h.0)
  then-there p e (inr h) = cond-has (has A Normal) (without Normal A ++ B) A e
      (λ on. append-right (without Normal A) B e (y.there h.1 e h.4))
      (λ off. absurd (true≢false (sym (x.there h.0 Normal h.3) ∙ off)))

  then-back : (e : End) → has (ends_then A B) e ≡ true → (p : Steps) × IsThen P Q p e
  then-back e h = ⊎_elim on off (has-cond (has A Normal) (without Normal A ++ B) A e h)
    where
      on : (has A Normal ≡ true) × (has (without Normal A ++ B) e ≡ true) → (p : Steps) × IsThen P Q p e
      on k = ⊎_elim
          (λ here. let parts = without-parts Normal A e here in
          let found = x.back e parts.0 in (found.0, inl (found.1, parts.1)))
          (λ there. let front = x.back Normal k.0 in
          let found = y.back e there in
          (front.0 ++ found.0, inr (front.0, found.0, refl, front.1, found.1)))
          (append-cases (without Normal A) B e k.1)

      off : (has A Normal ≡ false) × (has A e ≡ true) → (p : Steps) × IsThen P Q p e
      off k = let found = x.back e k.1 in
          (found.0, inl (found.1, λ normal. true≢false (sym k.1 ∙ ap (has A) normal ∙ k.0)))

  pub then-exact : IsExact (ends_then A B) (IsThen P Q)
  then-exact = record { there = then-there; back = then-back }

-- ---- loops, locks, what is done behind

module _ (A : Ends) (P : Paths) (x : IsExact A P) where
  pub looped-exact : IsExact (Normal ∷ A) (IsLooped P)
  looped-exact = record {
    there = λ p e h. ⊎_elim (λ one. first-there Normal e A one.1) (λ path. rest-there Normal e A (x.there h.1 e path))
        h.4;
    back = λ e h. ⊎_elim
        (λ normal. ([], ([], [], refl, All-nil (λ r. P r Normal), inl (refl, normal))))
        (λ there. let found = x.back e there in
        (found.0, ([], found.0, refl, All-nil (λ r. P r Normal), inr found.1)))
        (first-or Normal e A h);
  }

  pub held-exact : (lock : LockAt) → IsExact A (IsHeld lock P)
  held-exact lock = record {
    there = λ p e h. x.there h.0 e h.2;
    back = λ e h. let found = x.back e h in
        (Locks lock ∷ found.0 ++ behind e (Unlocks lock ∷ []), (found.0, refl, found.1));
  }

  pub with-exact : (steps : Steps) → IsExact A (IsWithBehind P steps)
  with-exact steps = record {
    there = λ p e h. x.there h.0 e h.2;
    back = λ e h. let found = x.back e h in (found.0 ++ behind e steps, (found.0, refl, found.1));
  }

  -- ---- within an exit

  within-there : (k : ℕ) (p : Steps) (e : End) → IsWithin k P p e → has (ends_within k A) e ≡ true
  within-there k p e (inl h) = cond-has (has A (Exit k)) (Normal ∷ without (Exit k) A) A e
      (λ on. rest-there Normal e (without (Exit k) A) (without-from (Exit k) A e (x.there p e h.0) h.1))
      (λ off. x.there p e h.0)
  within-there k p e (inr h) = cond-has (has A (Exit k)) (Normal ∷ without (Exit k) A) A e
      (λ on. first-there Normal e (without (Exit k) A) h.0)
      (λ off. absurd (true≢false (sym (x.there p (Exit k) h.1) ∙ off)))

  within-back : (k : ℕ) (e : End) → has (ends_within k A) e ≡ true → (p : Steps) × IsWithin k P p e
  within-back k e h = ⊎_elim on off (has-cond (has A (Exit k)) (Normal ∷ without (Exit k) A) A e h)
    where
      on : (has A (Exit k) ≡ true) × (has (Normal ∷ without (Exit k) A) e ≡ true) → (p : Steps) × IsWithin k P p e
      on t = ⊎_elim
          (λ normal. let found = x.back (Exit k) t.0 in (found.0, inr (normal, found.1)))
          (λ there. let parts = without-parts (Exit k) A e there in
          let found = x.back e parts.0 in (found.0, inl (found.1, parts.1)))
          (first-or Normal e (without (Exit k) A) t.1)

      off : (has A (Exit k) ≡ false) × (has A e ≡ true) → (p : Steps) × IsWithin k P p e
      off t = let found = x.back e t.1 in
          (found.0, inl (found.1, λ is. true≢false (sym t.1 ∙ ap (has A) is ∙ t.0)))

  pub within-exact : (k : ℕ) → IsExact (ends_within k A) (IsWithin k P)
  within-exact k = record { there = within-there k; back = within-back k }

-- ---- a body with a `finally`

pub kept-from : (k : ℕ) (e : End) → (e ≡ Exception → ⊥) → (e ≡ Exit k → ⊥) → is_kept k e ≡ true
kept-from k e f g = and_from _ _ (ap not (other_end Exception e (λ i. f (sym i))))
    (ap not (other_end (Exit k) e (λ i. g (sym i))))

differs : (d e : End) → not (is_same d e) ≡ true → e ≡ d → ⊥
differs d e h i = true≢false (sym (ap (is_same d) i ∙ same_itself d) ∙ not-back (is_same d e) h)

pub kept-parts : (k : ℕ) (e : End) → is_kept k e ≡ true → (e ≡ Exception → ⊥) × (e ≡ Exit k → ⊥)
kept-parts k e h = let parts = and_parts _ _ h in (differs Exception e parts.0, differs (Exit k) e parts.1)

module _ (A B C : Ends) (P Q R : Paths) (k : ℕ) (x : IsExact A P) (y : IsExact B Q) (z : IsExact C R) where
  last-there : (from : End) (p : Steps) (e : End) → has A from ≡ true → (from ≡ Exception → ⊥) → IsLast k R from p e →
      has (ends_last k A C) e ≡ true
  last-there from p e h other (inl path) =
      append-left (cond (has A (Exit k)) C []) (filter (is_kept k) A) e
      (cond-has (has A (Exit k)) C [] e (λ on. z.there p e path.1)
      (λ off. absurd (true≢false (sym h ∙ ap (has A) path.0 ∙ off))))
  last-there from p e h other (inr path) =
      append-right (cond (has A (Exit k)) C []) (filter (is_kept k) A) e
      (filter-from (is_kept k) A e (ap (has A) path.1.1 ∙ h)
      (kept-from k e (λ i. other (sym path.1.1 ∙ i)) (λ i. path.0 (sym path.1.1 ∙ i))))

  finally-there : (from : End) (p : Steps) (e : End) → has A from ≡ true → (from ≡ Exception → ⊥) →
      IsThen Q (IsLast k R from) p e → has (ends_finally k A B C) e ≡ true
  finally-there from p e h other (inl path) =
      append-left (without Normal B) (cond (has B Normal) (ends_last k A C) []) e
      (without-from Normal B e (y.there p e path.0) path.1)
  finally-there from p e h other (inr path) =
      append-right (without Normal B) (cond (has B Normal) (ends_last k A C) []) e
      (cond-has (has B Normal) (ends_last k A C) [] e (λ on. last-there from path.1 e h other path.4)
      (λ off. absurd (true≢false (sym (y.there path.0 Normal path.3) ∙ off))))

  abbrev Goes : Bool
  Goes = list_any (λ e. not (is_same Exception e)) A

  behind-there : (p : Steps) (e : End) → IsBehind P Q k R p e → has (ends_behind k A B C) e ≡ true
  behind-there p e (inl h) =
      append-left (filter (is_same Exception) A) (cond Goes (ends_finally k A B C) []) e
      (filter-from (is_same Exception) A e (x.there p e h.0) (ap (is_same Exception) h.1))
  behind-there p e (inr h) =
      append-right (filter (is_same Exception) A) (cond Goes (ends_finally k A B C) []) e
      (cond-has Goes (ends_finally k A B C) [] e (λ on. finally-there h.0 h.3 e (x.there h.2 h.0 h.5) h.1 h.6)
      (λ off. absurd (true≢false (sym (any-from (λ f. not (is_same Exception f)) A h.0 (x.there h.2 h.0 h.5)
      (ap not (other_end Exception h.0 (λ i. h.1 (sym i))))) ∙ off))))

  -- a path of the body that goes on, with one of what stands behind it
  on-back : (from e : End) → has A from ≡ true → (from ≡ Exception → ⊥) →
      (r : Steps) × IsThen Q (IsLast k R from) r e → (p : Steps) × IsBehind P Q k R p e
  on-back from e h other more =
      let found = x.back from h in
      (found.0 ++ more.0, inr (from, other, found.0, more.0, refl, found.1, more.1))

  last-back : (e : End) → has B Normal ≡ true → has (ends_last k A C) e ≡ true → (p : Steps) × IsBehind P Q k R p e
  last-back e on h = ⊎_elim at_exit as_it_was (append-cases (cond (has A (Exit k)) C []) (filter (is_kept k) A) e h)
    where
      front : (p : Steps) × Q p Normal
      front = y.back Normal on

      at_exit : has (cond (has A (Exit k)) C []) e ≡ true → (p : Steps) × IsBehind P Q k R p e
      at_exit t = ⊎_elim
          (λ u. let found = z.back e u.1 in
          on-back (Exit k) e u.0 (λ i. cc)
          (front.0 ++ found.0, inr (front.0, found.0, refl, front.1, inl (refl, found.1))))
          (λ u. absurd cc) (has-cond (has A (Exit k)) C [] e t)

      as_it_was : has (filter (is_kept k) A) e ≡ true → (p : Steps) × IsBehind P Q k R p e
      as_it_was t =
          let parts = filter-parts (is_kept k) A e t in
          let kept = kept-parts k e parts.1 in
          on-back e e parts.0 kept.0
          (front.0 ++ [], inr (front.0, [], refl, front.1, inr (kept.1, (refl, refl))))

  behind-back : (e : End) → has (ends_behind k A B C) e ≡ true → (p : Steps) × IsBehind P Q k R p e
  behind-back e h = ⊎_elim thrown goes
      (append-cases (filter (is_same Exception) A) (cond Goes (ends_finally k A B C) []) e h)
    where
      thrown : has (filter (is_same Exception) A) e ≡ true → (p : Steps) × IsBehind P Q k R p e
      thrown t =
          let parts = filter-parts (is_same Exception) A e t in
          let found = x.back e parts.0 in
          (found.0, inl (found.1, sym (same_end Exception e parts.1)))

      behind_one : has (ends_finally k A B C) e ≡ true → (from : End) → has A from ≡ true → (from ≡ Exception → ⊥) →
          (p : Steps) × IsBehind P Q k R p e
      behind_one t from there other = ⊎_elim
          (λ u. let parts = without-parts Normal B e u in
          let found = y.back e parts.0 in
          on-back from e there other (found.0, inl (found.1, parts.1)))
          (λ u. ⊎_elim (λ v. last-back e v.0 v.1) (λ v. absurd cc) (has-cond (has B Normal) (ends_last k A C) [] e u))
          (append-cases (without Normal B) (cond (has B Normal) (ends_last k A C) []) e t)

      goes : has (cond Goes (ends_finally k A B C) []) e ≡ true → (p : Steps) × IsBehind P Q k R p e
      goes t = ⊎_elim
          (λ u. let found = any-found (λ f. not (is_same Exception f)) A u.0 in
          behind_one u.1 found.0 found.1 (differs Exception found.0 found.2))
          (λ u. absurd cc) (has-cond Goes (ends_finally k A B C) [] e t)

  pub behind-exact : IsExact (ends_behind k A B C) (IsBehind P Q k R)
  behind-exact = record { there = behind-there; back = behind-back }

-- ---- drafts

mutual
  pub part-exact : (part : Part) → IsExact (part_ends part) (IsPathOfPart part)
  part-exact (Op place op) = one-exact (Did place op ∷ []) (op_end op)
  part-exact (Choice left right) =
      either-exact (ends left) (ends right) (IsPath left) (IsPath right) (draft-exact left) (draft-exact right)
  part-exact (Loop body) = looped-exact (ends body) (IsPath body) (draft-exact body)
  part-exact (Sync lock body) = held-exact (ends body) (IsPath body) (draft-exact body) lock
  part-exact (Leave k) = one-exact [] (Exit k)
  part-exact (Within k body) = within-exact (ends body) (IsPath body) (draft-exact body) k
  part-exact Never = record { there = λ p e path. absurd path; back = λ e h. absurd cc }
  part-exact (Ending body place variables) =
      with-exact (ends body) (IsPath body) (draft-exact body) (flat_map (cleared_steps place) variables)
  part-exact (Behind body finally k last) =
      behind-exact (ends body) (ends finally) (ends last) (IsPath body) (IsPath finally) (IsPath last) k
      (draft-exact body)
      (draft-exact finally) (draft-exact last)

  pub draft-exact : (draft : Draft) → IsExact (ends draft) (IsPath draft)
  draft-exact no_part = one-exact [] Normal
  draft-exact (part_then part rest) =
      then-exact (part_ends part) (ends rest) (IsPathOfPart part) (IsPath rest) (part-exact part) (draft-exact rest)
