-- The code of an operation, a choice, a lock, a part that is left for an exit, and one with what is done behind it.
use Rattle.std.proofs.Common.{◌≡◌, ℕ, Bool, true, false, List, [], ◌∷◌, ◌++◌, cond, refl, sym, ap, ◌∙◌}
use Rattle.std.proofs.Common.{subst, inl}
use Rattle.std.proofs.Common.{inr, ⊎_elim, append-nil, true≢false}
use Rattle.std.specs.List.{flat_map}
use Rattle.std.proofs.lemmas.Bool.{or_cases, cases_Bool}
use Rattle.racer_base.specs.declared.ids.Place.{Place}
use Rattle.racer_base.specs.declared.ids.VarId.{VarId}
use Rattle.core_code.specs.declared.code.Op.{Op as CoreOp}
use Rattle.core_code.specs.declared.code.Op.TheVariants.{Ret, Throw, PushNull, Set, Drop}
use Rattle.core_code.specs.Tree.{LockAt, in_sequence}
use Rattle.core_code.specs.Tree as tree
use Rattle.core_lowering_drafts.specs.Drafts.{End, Normal, Return, Exception, Exit, Ends, has, without, do_meet}
use Rattle.core_lowering_drafts.specs.Drafts.{is_final}
use Rattle.core_lowering_drafts.specs.Drafts.{op_end, ends_within}
use Rattle.core_lowering_drafts.specs.Paths.{Step, Steps, Paths, Did, Locks, Unlocks, cut, cut_end, read, step_end}
use Rattle.core_lowering_drafts.specs.Paths.{behind}
use Rattle.core_lowering_drafts.specs.Paths.{IsOne, IsThen, IsHeld, IsWithin, IsWithBehind, cleared_steps}
use Rattle.core_lowering_drafts.specs.Only.{Code, one, cleared, chosen, asked_within}
use Rattle.core_lowering_drafts.proofs.Sets.{any-append, without-from, without-parts, first-there, first-or, rest-there}
use Rattle.core_lowering_drafts.proofs.Sets.{same-or}
use Rattle.core_lowering_drafts.proofs.Sets.{final-ends}
use Rattle.core_lowering_drafts.proofs.Cuts.{is_stopped, stopped-steps, stopped-end, stopped-final, whole-steps}
use Rattle.core_lowering_drafts.proofs.Cuts.{whole-end}
use Rattle.core_lowering_drafts.proofs.Cuts.{all-steps, all-end, final-cut, normal-cut, other-cut}
use Rattle.core_lowering_drafts.proofs.Cuts.{read-other}
use Rattle.core_lowering_drafts.proofs.Cuts.{behind-final, behind-other}
use Rattle.core_lowering_drafts.proofs.Exact.{IsExact, within-exact, cond-has, has-cond}
use Rattle.core_lowering_drafts.proofs.Alike.{Alike, Either, IsOf, itself, turned, onwards, either-alike, only-second}
use Rattle.core_lowering_drafts.proofs.Alike.{only-first, then-alike, parts-then, one-part, fork-paths}
use Rattle.core_lowering_drafts.proofs.Kept.{By}
use Rattle.core_lowering_drafts.proofs.Rests.{IsKept, no-by, some-path, path-meets}

-- ---- an operation

op-read : (op : CoreOp) → read (op_end op) ≡ op_end op
op-read Ret = refl
op-read Throw = refl
op-read _ = refl

pub either-way : {X : Type 0} (b : Bool) (x : X) → cond b x x ≡ x
either-way true x = refl
either-way false x = refl

step-kept : (step : Step) (asked : Ends) → has asked (step_end step) ≡ true → read (step_end step) ≡ step_end step →
    Alike (By asked (IsOne (step ∷ []) (step_end step))) (IsOne (step ∷ []) (step_end step))
step-kept step asked h r =
    let steps : cut (step ∷ []) ≡ step ∷ [] = ap (λ t. step ∷ t) (either-way (is_final (step_end step)) []) in
    let end : cut_end (step ∷ []) (step_end step) ≡ step_end step = either-way (is_final (step_end step))
    (step_end step) in
    record {
      there = λ p e b. (
        b.steps ∙ ap cut b.path.0 ∙ steps,
        b.end ∙ ap (λ w. cut_end w (read b.from)) b.path.0
            ∙ ap (λ f. cut_end (step ∷ []) (read f)) b.path.1
            ∙ ap (λ f. cut_end (step ∷ []) f) r ∙ end,
      );
      back = λ p e path. record {
        whole = step ∷ [];
        from = step_end step;
        is_asked = h;
        path = (refl, refl);
        steps = path.0 ∙ sym steps;
        end = path.1 ∙ sym end ∙ ap (λ f. cut_end (step ∷ []) f) (sym r);
      };
    }

only-asked : (asked : Ends) (e : End) → do_meet (e ∷ []) asked ≡ true → has asked e ≡ true
only-asked asked e h = ⊎_elim (λ here. here) (λ there. absurd cc) (or_cases _ _ h)

pub op-kept : (place : Place) (op : CoreOp) (asked : Ends) → do_meet (op_end op ∷ []) asked ≡ true →
    Alike (By asked (IsOne (Did place op ∷ []) (op_end op))) (IsOf (one place op))
op-kept place op asked m = onwards (step-kept (Did place op) asked (only-asked asked (op_end op) m) (op-read op))
    (turned (one-part (tree.Op (record { 0 = 0 }) place op)))

-- ---- what leaves for an exit

pub leave-kept : (k : ℕ) (asked : Ends) → do_meet (Exit k ∷ []) asked ≡ true →
    Alike (By asked (IsOne [] (Exit k))) (IsOf [])
leave-kept k asked m = record {
  there = λ p e b. (b.steps ∙ ap cut b.path.0, b.end ∙ ap (λ w. cut_end w (read b.from)) b.path.0 ∙ ap read b.path.1);
  back = λ p e path. record {
    whole = [];
    from = Exit k;
    is_asked = only-asked asked (Exit k) m;
    path = (refl, refl);
    steps = path.0;
    end = path.1;
  };
}

-- ---- a choice

either-there : (asked : Ends) (P Q : Paths) (p : Steps) (e : End) → By asked (Either P Q) p e →
    Either (By asked P) (By asked Q) p e
either-there asked P Q p e b = ⊎_elim
    (λ path. inl (record {
      whole = b.whole;
      from = b.from;
      is_asked = b.is_asked;
      path = path;
      steps = b.steps;
      end = b.end;
    }))
    (λ path. inr (record {
      whole = b.whole;
      from = b.from;
      is_asked = b.is_asked;
      path = path;
      steps = b.steps;
      end = b.end;
    })) b.path

either-back : (asked : Ends) (P Q : Paths) (p : Steps) (e : End) → Either (By asked P) (By asked Q) p e →
    By asked (Either P Q) p e
either-back asked P Q p e (inl b) = record {
  whole = b.whole;
  from = b.from;
  is_asked = b.is_asked;
  path = inl b.path;
  steps = b.steps;
  end = b.end;
}
either-back asked P Q p e (inr b) = record {
  whole = b.whole;
  from = b.from;
  is_asked = b.is_asked;
  path = inr b.path;
  steps = b.steps;
  end = b.end;
}

pub either-by : (asked : Ends) (P Q : Paths) → Alike (By asked (Either P Q)) (Either (By asked P) (By asked Q))
either-by asked P Q = record { there = either-there asked P Q; back = either-back asked P Q }

module _ (left right : Ends → Code) (A B : Ends) (P Q : Paths) (x : IsExact A P) (y : IsExact B Q)
    (left_kept : IsKept left A P) (right_kept : IsKept right B Q) (asked : Ends) where
  sides : (t u : Bool) → do_meet A asked ≡ t → do_meet B asked ≡ u → do_meet (A ++ B) asked ≡ true →
      Alike (By asked (Either P Q)) (IsOf (chosen t u (left asked) (right asked)))
  sides true true h k m = onwards (either-by asked P Q)
      (onwards (either-alike (left_kept asked h) (right_kept asked k)) (turned (fork-paths (left asked) (right asked))))
  sides true false h k m =
      onwards (either-by asked P Q) (onwards (only-first (no-by B Q y asked k)) (left_kept asked h))
  sides false true h k m =
      onwards (either-by asked P Q) (onwards (only-second (no-by A P x asked h)) (right_kept asked k))
  sides false false h k m = absurd (⊎_elim (λ l. true≢false (sym l ∙ h)) (λ r. true≢false (sym r ∙ k))
      (or_cases _ _ (sym (any-append (has asked) A B) ∙ m)))

  pub choice-kept : do_meet (A ++ B) asked ≡ true →
      Alike (By asked (Either P Q)) (IsOf (chosen (do_meet A asked) (do_meet B asked) (left asked) (right asked)))
  choice-kept m = sides (do_meet A asked) (do_meet B asked) refl refl m

-- ---- within an exit

module _ (k : ℕ) (first : Ends) (P : Paths) (x : IsExact first P) (asked : Ends) where
  normal-there : has asked Normal ≡ true → has (asked_within k asked) (Exit k) ≡ true
  normal-there n = cond-has (has asked Normal) (Exit k ∷ asked) (without (Exit k) asked) (Exit k)
      (λ on. first-there (Exit k) (Exit k) asked refl) (λ off. absurd (true≢false (sym n ∙ off)))

  within-by-there : (p : Steps) (e : End) → By asked (IsWithin k P) p e → By (asked_within k asked) P p e
  within-by-there p e b = ⊎_elim
      (λ h. record {
        whole = b.whole;
        from = b.from;
        path = h.0;
        steps = b.steps;
        end = b.end;
        is_asked = cond-has (has asked Normal) (Exit k ∷ asked) (without (Exit k) asked) b.from
            (λ on. rest-there (Exit k) b.from asked b.is_asked)
            (λ off. without-from (Exit k) asked b.from b.is_asked h.1);
      })
      (λ h. record {
        whole = b.whole;
        from = Exit k;
        path = h.1;
        steps = b.steps;
        is_asked = normal-there (sym (ap (has asked) h.0) ∙ b.is_asked);
        end = b.end ∙ ap (λ f. cut_end b.whole (read f)) h.0;
      }) b.path

  -- what leaves for the exit
  at-exit : (p : Steps) (e : End) → (b : By (asked_within k asked) P p e) → b.from ≡ Exit k → has asked Normal ≡ true →
      By asked (IsWithin k P) p e
  at-exit p e b is n = record {
    whole = b.whole;
    from = Normal;
    is_asked = n;
    path = inr (refl, subst (λ f. P b.whole f) is b.path);
    steps = b.steps;
    end = b.end ∙ ap (λ f. cut_end b.whole (read f)) is;
  }

  not-exit : (p : Steps) (e : End) → (b : By (asked_within k asked) P p e) → (b.from ≡ Exit k → ⊥) →
      has asked b.from ≡ true → By asked (IsWithin k P) p e
  not-exit p e b other h = record {
    whole = b.whole;
    from = b.from;
    is_asked = h;
    path = inl (b.path, other);
    steps = b.steps;
    end = b.end;
  }

  within-by-back : (p : Steps) (e : End) → By (asked_within k asked) P p e → By asked (IsWithin k P) p e
  within-by-back p e b = ⊎_elim
      (λ on. ⊎_elim (λ is. at-exit p e b is on.0)
      (λ other. ⊎_elim (λ is. absurd (other is)) (λ h. not-exit p e b other h) (first-or (Exit k) b.from asked on.1))
      (same-or b.from (Exit k)))
      (λ off. let parts = without-parts (Exit k) asked b.from off.1 in not-exit p e b parts.1 parts.0)
      (has-cond (has asked Normal) (Exit k ∷ asked) (without (Exit k) asked) b.from b.is_asked)

  within-meets : do_meet (ends_within k first) asked ≡ true → do_meet first (asked_within k asked) ≡ true
  within-meets m =
      let some = some-path (ends_within k first) (IsWithin k P) (within-exact first P x k) asked m in
      let b = within-by-there (cut some.whole) (cut_end some.whole (read some.from)) (record {
        whole = some.whole;
        from = some.from;
        is_asked = some.is_asked;
        path = some.path;
        steps = refl;
        end = refl;
      }) in
      path-meets first P x (asked_within k asked) (record {
        whole = b.whole;
        from = b.from;
        is_asked = b.is_asked;
        path = b.path;
      })

  pub within-kept : (body : Ends → Code) → IsKept body first P → do_meet (ends_within k first) asked ≡ true →
      Alike (By asked (IsWithin k P)) (IsOf (body (asked_within k asked)))
  within-kept body kept m = onwards (record { there = within-by-there; back = within-by-back })
      (kept (asked_within k asked) (within-meets m))

-- ---- what is done behind

module _ (steps : Steps) (open_end : is_stopped steps ≡ false) (P : Paths) (asked : Ends) where
  with-there : (p : Steps) (e : End) → By asked (IsWithBehind P steps) p e →
      IsThen (By asked P) (IsOne steps Normal) p e
  with-there p e b = ⊎_elim stopped (λ s. ⊎_elim (final s) (other s) (cases_Bool (is_final b.from)))
      (cases_Bool (is_stopped q))
    where
      q : Steps
      q = b.path.0

      is : b.whole ≡ b.path.0 ++ behind b.from steps
      is = b.path.1

      path : P b.path.0 b.from
      path = b.path.2

      stopped : is_stopped b.path.0 ≡ true → IsThen (By asked P) (IsOne steps Normal) p e
      stopped s =
          let end : e ≡ cut_end b.path.0 (read b.from) = b.end ∙ ap (λ w. cut_end w (read b.from)) b.path.1
          ∙ stopped-end b.path.0 (behind b.from steps) (read b.from) (read b.from) s in
          inl (
            record {
              whole = b.path.0;
              from = b.from;
              is_asked = b.is_asked;
              path = b.path.2;
              steps = b.steps ∙ ap cut b.path.1 ∙ stopped-steps b.path.0 (behind b.from steps) s;
              end = end;
            },
            final-ends e (ap is_final end ∙ stopped-final b.path.0 (read b.from) s),
          )

      final : is_stopped b.path.0 ≡ false → is_final b.from ≡ true → IsThen (By asked P) (IsOne steps Normal) p e
      final s f =
          let same : b.whole ≡ b.path.0 = b.path.1 ∙ ap (λ r. b.path.0 ++ r) (behind-final b.from steps f)
          ∙ append-nil b.path.0 in
          let end : e ≡ cut_end b.path.0 (read b.from) = b.end ∙ ap (λ w. cut_end w (read b.from)) same in
          inl (
            record {
              whole = b.path.0;
              from = b.from;
              is_asked = b.is_asked;
              path = b.path.2;
              steps = b.steps ∙ ap cut same;
              end = end;
            },
            final-ends e (ap is_final end ∙ final-cut b.path.0 b.from f),
          )

      other : is_stopped b.path.0 ≡ false → is_final b.from ≡ false → IsThen (By asked P) (IsOne steps Normal) p e
      other s o =
          let same : b.whole ≡ b.path.0 ++ steps = b.path.1 ∙ ap (λ r. b.path.0 ++ r) (behind-other b.from steps o) in
          inr (
            b.path.0,
            steps,
            b.steps ∙ ap cut same ∙ whole-steps b.path.0 steps s ∙ ap (λ r. b.path.0 ++ r) (all-steps steps open_end),
            record {
              whole = b.path.0;
              from = b.from;
              is_asked = b.is_asked;
              path = b.path.2;
              steps = sym (all-steps b.path.0 s);
              end = sym (all-end b.path.0 (read b.from) s ∙ read-other b.from o);
            },
            (
              refl,
              b.end ∙ ap (λ w. cut_end w (read b.from)) same ∙ whole-end b.path.0 steps (read b.from) s
                  ∙ all-end steps (read b.from) open_end ∙ read-other b.from o,
            ),
          )

  with-back : (p : Steps) (e : End) → IsThen (By asked P) (IsOne steps Normal) p e → By asked (IsWithBehind P steps) p e
  with-back p e (inl h) = ⊎_elim stopped final (other-cut b.whole b.from (λ z. h.1 (b.end ∙ z)))
    where
      b : By asked P p e
      b = h.0

      stopped : is_stopped h.0.whole ≡ true → By asked (IsWithBehind P steps) p e
      stopped s = record {
        whole = h.0.whole ++ behind h.0.from steps;
        from = h.0.from;
        is_asked = h.0.is_asked;
        path = (h.0.whole, refl, h.0.path);
        steps = h.0.steps ∙ sym (stopped-steps h.0.whole (behind h.0.from steps) s);
        end = h.0.end ∙ sym (stopped-end h.0.whole (behind h.0.from steps) (read h.0.from) (read h.0.from) s);
      }

      final : is_final h.0.from ≡ true → By asked (IsWithBehind P steps) p e
      final f =
          let same : h.0.whole ≡ h.0.whole ++ behind h.0.from steps =
          sym (ap (λ r. h.0.whole ++ r) (behind-final h.0.from steps f) ∙ append-nil h.0.whole) in
          record {
            whole = h.0.whole ++ behind h.0.from steps;
            from = h.0.from;
            is_asked = h.0.is_asked;
            path = (h.0.whole, refl, h.0.path);
            steps = h.0.steps ∙ ap cut same;
            end = h.0.end ∙ ap (λ w. cut_end w (read h.0.from)) same;
          }
  with-back p e (inr h) =
      let b : By asked P h.0 Normal = h.3 in
      let n = normal-cut b.whole b.from (sym b.end) in
      let same : b.whole ++ behind b.from steps ≡ b.whole ++ steps =
      ap (λ r. b.whole ++ r) (behind-other b.from steps n.1) in
      record {
        whole = b.whole ++ behind b.from steps;
        from = b.from;
        is_asked = b.is_asked;
        path = (b.whole, refl, b.path);
        steps = h.2 ∙ ap (λ q. q ++ h.1) (b.steps ∙ all-steps b.whole n.0) ∙ ap (λ r. b.whole ++ r) h.4.0
            ∙ sym (ap cut same ∙ whole-steps b.whole steps n.0 ∙ ap (λ r. b.whole ++ r) (all-steps steps open_end));
        end = h.4.1 ∙ sym (ap (λ w. cut_end w (read b.from)) same ∙ whole-end b.whole steps (read b.from) n.0
            ∙ all-end steps (read b.from) open_end ∙ read-other b.from n.1);
      }

  pub with-by : Alike (By asked (IsWithBehind P steps)) (IsThen (By asked P) (IsOne steps Normal))
  with-by = record { there = with-there; back = with-back }

-- variables that are made null
one-then : (step : Step) (steps : Steps) →
    Alike (IsThen (IsOne (step ∷ []) Normal) (IsOne steps Normal)) (IsOne (step ∷ steps) Normal)
one-then step steps = record {
  there = λ p e. ⊎_elim (λ h. absurd (h.1 h.0.1))
      (λ h. (h.2 ∙ ap (λ q. q ++ h.1) h.3.0 ∙ ap (λ r. step ∷ r) h.4.0, h.4.1));
  back = λ p e h. inr (step ∷ [], steps, h.0, (refl, refl), (refl, h.1));
}

cleared-open : (place : Place) (variables : List VarId) → is_stopped (flat_map (cleared_steps place) variables) ≡ false
cleared-open place [] = refl
cleared-open place (v ∷ variables) = cleared-open place variables

cleared-paths : (place : Place) (variables : List VarId) →
    Alike (IsOf (flat_map (cleared place) variables)) (IsOne (flat_map (cleared_steps place) variables) Normal)
cleared-paths place [] = itself (IsOne [] Normal)
cleared-paths place (v ∷ variables) =
    let rest = flat_map (cleared_steps place) variables in
    let drop = onwards (then-alike (itself (IsOne (Did place Drop ∷ []) Normal)) (cleared-paths place variables))
    (one-then (Did place Drop) rest) in
    let stored = onwards (then-alike (itself (IsOne (Did place (Set v) ∷ []) Normal)) drop)
    (one-then (Did place (Set v)) (Did place Drop ∷ rest)) in
    onwards (then-alike (itself (IsOne (Did place PushNull ∷ []) Normal)) stored)
    (one-then (Did place PushNull) (Did place (Set v) ∷ Did place Drop ∷ rest))

pub ending-kept : (first : Ends) (P : Paths) (body : Ends → Code) → IsKept body first P → (place : Place)
    (variables : List VarId) (asked : Ends) → do_meet first asked ≡ true →
    Alike (By asked (IsWithBehind P (flat_map (cleared_steps place) variables)))
    (IsOf (body asked ++ flat_map (cleared place) variables))
ending-kept first P body kept place variables asked m =
    onwards (with-by (flat_map (cleared_steps place) variables) (cleared-open place variables) P asked)
    (onwards (then-alike (kept asked m) (turned (cleared-paths place variables)))
    (turned (parts-then (body asked) (flat_map (cleared place) variables))))

-- ---- a lock

pub unlocks-open : (lock : LockAt) (e : End) → is_stopped (behind e (Unlocks lock ∷ [])) ≡ false
unlocks-open lock Normal = refl
unlocks-open lock Return = refl
unlocks-open lock Exception = refl
unlocks-open lock (Exit k) = refl

behind-read : (e : End) (steps : Steps) → behind (read e) steps ≡ behind e steps
behind-read Normal steps = refl
behind-read Return steps = refl
behind-read Exception steps = refl
behind-read (Exit k) steps = refl

module _ (lock : LockAt) (P : Paths) (asked : Ends) where
  abbrev Free : End → Steps
  Free e = behind e (Unlocks lock ∷ [])

  -- what is done under the lock, cut
  held-steps : (q : Steps) (from : End) → cut (q ++ Free from) ≡ cut q ++ Free (cut_end q (read from))
  held-steps q from = ⊎_elim
      (λ s. stopped-steps q (Free from) s
      ∙ sym (ap (λ r. cut q ++ r)
      (behind-final (cut_end q (read from)) (Unlocks lock ∷ []) (stopped-final q (read from) s))
      ∙ append-nil (cut q)))
      (λ s. whole-steps q (Free from) s ∙ ap (λ r. q ++ r) (all-steps (Free from) (unlocks-open lock from))
      ∙ ap (λ t. t ++ Free from) (sym (all-steps q s))
      ∙ ap (λ r. cut q ++ r) (sym (ap Free (all-end q (read from) s) ∙ behind-read from (Unlocks lock ∷ []))))
      (cases_Bool (is_stopped q))

  held-end : (q : Steps) (from : End) → cut_end (q ++ Free from) (read from) ≡ cut_end q (read from)
  held-end q from = ⊎_elim (λ s. stopped-end q (Free from) (read from) (read from) s)
      (λ s. whole-end q (Free from) (read from) s ∙ all-end (Free from) (read from) (unlocks-open lock from)
      ∙ sym (all-end q (read from) s)) (cases_Bool (is_stopped q))

  held-there : (p : Steps) (e : End) → By asked (IsHeld lock P) p e → IsHeld lock (By asked P) p e
  held-there p e b =
      let q = b.path.0 in
      let end : e ≡ cut_end q (read b.from) =
      b.end ∙ ap (λ w. cut_end w (read b.from)) b.path.1 ∙ held-end q b.from in (
        cut q,
        b.steps ∙ ap cut b.path.1
            ∙ ap (λ t. Locks lock ∷ t) (held-steps q b.from ∙ ap (λ f. cut q ++ Free f) (sym end)),
        record { whole = q; from = b.from; is_asked = b.is_asked; path = b.path.2; steps = refl; end = end },
      )

  held-back : (p : Steps) (e : End) → IsHeld lock (By asked P) p e → By asked (IsHeld lock P) p e
  held-back p e h =
      let b : By asked P h.0 e = h.2 in record {
        whole = Locks lock ∷ b.whole ++ Free b.from;
        from = b.from;
        is_asked = b.is_asked;
        path = (b.whole, refl, b.path);
        steps = h.1 ∙ ap (λ t. Locks lock ∷ t) (ap (λ q. q ++ Free e) b.steps ∙ ap (λ f. cut b.whole ++ Free f) b.end
            ∙ sym (held-steps b.whole b.from));
        end = b.end ∙ sym (held-end b.whole b.from);
      }

held-alike : (lock : LockAt) (P Q : Paths) → Alike P Q → Alike (IsHeld lock P) (IsHeld lock Q)
held-alike lock P Q a = record {
  there = λ p e h. (h.0, h.1, a.there h.0 e h.2);
  back = λ p e h. (h.0, h.1, a.back h.0 e h.2);
}

pub sync-kept : (lock : LockAt) (first : Ends) (P : Paths) (body : Ends → Code) → IsKept body first P → (asked : Ends) →
    do_meet first asked ≡ true →
    Alike (By asked (IsHeld lock P)) (IsOf (tree.Sync lock (in_sequence (body asked)) ∷ []))
sync-kept lock first P body kept asked m = onwards
    (record { there = held-there lock P asked; back = held-back lock P asked })
    (onwards (held-alike lock (By asked P) (IsOf (body asked)) (kept asked m))
    (turned (one-part (tree.Sync lock (in_sequence (body asked))))))
