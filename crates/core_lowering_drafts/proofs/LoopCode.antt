-- The code of a loop has the paths that are asked for.
use Rattle.std.proofs.Common.{◌≡◌, ◌⊎◌, true, false, [], ◌∷◌, ◌++◌, cond, refl, sym, ap, ◌∙◌, inl, inr}
use Rattle.std.proofs.Common.{⊎_elim}
use Rattle.std.proofs.Common.{true≢false}
use Rattle.std.proofs.lemmas.Bool.{cond_both}
use Rattle.core_code.specs.Tree.{in_sequence}
use Rattle.core_code.specs.Tree as tree
use Rattle.core_lowering_drafts.specs.Drafts.{End, Normal, Ends, has, do_meet, is_final, is_exit, final_ends, exits, on}
use Rattle.core_lowering_drafts.specs.Drafts.{Draft}
use Rattle.core_lowering_drafts.specs.Drafts.{ends, meets}
use Rattle.core_lowering_drafts.specs.Paths.{Steps, Paths, cut, cut_end, read, IsOne, IsThen, IsLooped}
use Rattle.core_lowering_drafts.specs.Only.{Code, fork, loop_of, rounds, looped}
use Rattle.core_lowering_drafts.proofs.Sets.{do_meet-found, do_meet-from, filter-parts, filter-from, kind-of, first-or}
use Rattle.core_lowering_drafts.proofs.Sets.{only-one}
use Rattle.core_lowering_drafts.proofs.Sets.{final-ends}
use Rattle.core_lowering_drafts.proofs.Exact.{IsExact}
use Rattle.core_lowering_drafts.proofs.Alike.{Alike, Either, IsOf, itself, turned, onwards, either-alike, then-alike}
use Rattle.core_lowering_drafts.proofs.Alike.{parts-then}
use Rattle.core_lowering_drafts.proofs.Alike.{one-part, fork-paths}
use Rattle.core_lowering_drafts.proofs.Kept.{By, HasPath, on-no_exit, on-from, on-final}
use Rattle.core_lowering_drafts.proofs.Rests.{IsKept, no-by, some-path}
use Rattle.core_lowering_drafts.proofs.Rounds.{no-round, last-round, looped-alike, nothing-looped, looped-paths}

module _ (draft : Draft) (body : Ends → Code) (B : Paths) (x : IsExact (ends draft) B)
    (kept : IsKept body (ends draft) B)
    (asked : Ends) where
  rounds-kept : (A : Ends) → Alike (IsLooped (By A B)) (IsOf (rounds draft body A))
  rounds-kept A = cond_both (meets draft A) (loop_of (body A)) [] (λ c. Alike (IsLooped (By A B)) (IsOf c))
      (λ h. onwards (looped-alike (kept A h)) (turned (one-part (tree.Loop (in_sequence (body A))))))
      (λ h. nothing-looped (By A B) (no-by (ends draft) B x A h))

  then-code : (Tail : Paths) (A : Ends) (code : Code) → Alike Tail (IsOf code) →
      Alike (IsThen (IsLooped (By A B)) Tail) (IsOf (rounds draft body A ++ code))
  then-code Tail A code a = onwards (then-alike (rounds-kept A) a) (turned (parts-then (rounds draft body A) code))

  -- one round, by ends of those that are asked for
  one-back : (A : Ends) → ((e : End) → has A e ≡ true → has asked e ≡ true) → (p : Steps) (e : End) → By A B p e →
      By asked (IsLooped B) p e
  one-back A f p e b = record {
    whole = b.whole;
    from = b.from;
    is_asked = f b.from b.is_asked;
    path = last-round B b.whole b.from b.path;
    steps = b.steps;
    end = b.end;
  }

  exit-asked : (e : End) → has (exits asked) e ≡ true → has asked e ≡ true
  exit-asked e h = (filter-parts is_exit asked e h).0

  final-asked : (e : End) → has (final_ends asked) e ≡ true → has asked e ≡ true
  final-asked e h = (filter-parts is_final asked e h).0

  abbrev Out : Paths
  Out = By (exits asked) B

  out : (q : Steps) (from : End) → B q from → has asked from ≡ true → (from ≡ Normal → ⊥) →
      ((is_final from ≡ true) × (has (on asked) from ≡ true)) ⊎ Out (cut q) (cut_end q (read from))
  out q from path h o = ⊎_elim (λ n. absurd (o n)) (λ k. ⊎_elim (λ f. inl (f, on-from asked from h f))
      (λ exit. inr (record {
        whole = q;
        from = from;
        is_asked = filter-from is_exit asked from h exit;
        path = path;
        steps = refl;
        end = refl;
      })) k) (kind-of from)

  abbrev Holds : Code → Type 0
  Holds code = Alike (By asked (IsLooped B)) (IsOf code)

  -- ---- nothing more is asked for, too

  module _ (normal : has asked Normal ≡ true) where
    stays : HasPath asked (IsLooped B)
    stays = record { whole = []; from = Normal; is_asked = normal; path = no-round B }

    nothing-back : (p : Steps) (e : End) → IsOne [] Normal p e → By asked (IsLooped B) p e
    nothing-back p e one = record {
      whole = [];
      from = Normal;
      is_asked = normal;
      path = no-round B;
      steps = one.0;
      end = one.1;
    }

    abbrev Leaves : Paths
    Leaves = Either Out (IsOne [] Normal)

    leaves-out : (q : Steps) (from : End) → B q from → has asked from ≡ true → (from ≡ Normal → ⊥) →
        ((is_final from ≡ true) × (has (on asked) from ≡ true)) ⊎ Leaves (cut q) (cut_end q (read from))
    leaves-out q from path h o = ⊎_elim (λ f. inl f) (λ t. inr (inl t)) (out q from path h o)

    leaves-back : (p : Steps) (e : End) → Leaves p e → By asked (IsLooped B) p e
    leaves-back p e = ⊎_elim (one-back (exits asked) exit-asked p e) (nothing-back p e)

    with-exits : meets draft (exits asked) ≡ true → Holds (rounds draft body (on asked) ++ fork (body (exits asked)) [])
    with-exits l = onwards
        (looped-paths B Leaves (on asked) asked (on-no_exit asked) refl (on-final asked) leaves-out
        (λ h. inr (refl, refl))
        leaves-back stays)
        (then-code Leaves (on asked) (fork (body (exits asked)) [])
        (onwards (either-alike (kept (exits asked) l) (itself (IsOne [] Normal)))
        (turned (fork-paths (body (exits asked)) []))))

    stays-out : meets draft (exits asked) ≡ false → (q : Steps) (from : End) → B q from → has asked from ≡ true →
        (from ≡ Normal → ⊥) →
        ((is_final from ≡ true) × (has (on asked) from ≡ true)) ⊎ IsOne [] Normal (cut q) (cut_end q (read from))
    stays-out l q from path h o = ⊎_elim (λ f. inl f) (λ t. absurd (no-by (ends draft) B x (exits asked) l _ _ t))
        (out q from path h o)

    without-exits : meets draft (exits asked) ≡ false → Holds (rounds draft body (on asked) ++ [])
    without-exits l = onwards
        (looped-paths B (IsOne [] Normal) (on asked) asked (on-no_exit asked) refl (on-final asked) (stays-out l)
        (λ h. (refl, refl)) nothing-back stays)
        (then-code (IsOne [] Normal) (on asked) [] (itself (IsOne [] Normal)))

    normal-kept : Holds (rounds draft body (on asked) ++ cond (meets draft (exits asked)) (fork (body (exits asked)) [])
        [])
    normal-kept = cond_both (meets draft (exits asked)) (fork (body (exits asked)) []) []
        (λ c. Holds (rounds draft body (on asked) ++ c)) with-exits without-exits

  -- ---- only one more round is asked for

  module _ (other : has asked Normal ≡ false) where
    one-way : (A : Ends) → ((e : End) → has A e ≡ true → has asked e ≡ true) → do_meet (ends draft) A ≡ true →
        HasPath asked (IsLooped B)
    one-way A f h =
        let some = some-path (ends draft) B x A h in record {
          whole = some.whole;
          from = some.from;
          is_asked = f some.from some.is_asked;
          path = last-round B some.whole some.from some.path;
        }

    exits-kept : meets draft (exits asked) ≡ true → Holds (rounds draft body (on asked) ++ body (exits asked))
    exits-kept l = onwards
        (looped-paths B Out (on asked) asked (on-no_exit asked) refl (on-final asked) out
        (λ h. absurd (true≢false (sym h ∙ other))) (one-back (exits asked) exit-asked)
        (one-way (exits asked) exit-asked l))
        (then-code Out (on asked) (body (exits asked)) (kept (exits asked) l))

    -- only returns and exceptions are left
    module _ (none : meets draft (exits asked) ≡ false) where
      is-left : (e : End) → has (ends draft) e ≡ true → has asked e ≡ true → has (final_ends asked) e ≡ true
      is-left e h k = ⊎_elim (λ n. absurd (true≢false (sym (sym (ap (has asked) n) ∙ k) ∙ other)))
          (λ t. ⊎_elim (λ f. filter-from is_final asked e k f)
          (λ exit. absurd (true≢false
          (sym (do_meet-from (ends draft) (exits asked) e h (filter-from is_exit asked e k exit))
          ∙ none))) t) (kind-of e)

      left-met : do_meet (Normal ∷ ends draft) asked ≡ true → do_meet (ends draft) (final_ends asked) ≡ true
      left-met m =
          let found = do_meet-found (Normal ∷ ends draft) asked m in
          ⊎_elim (λ n. absurd (true≢false (sym (sym (ap (has asked) n) ∙ found.2) ∙ other)))
          (λ h. do_meet-from (ends draft) (final_ends asked) found.0 h (is-left found.0 h found.2))
          (first-or Normal found.0 (ends draft) found.1)

      abbrev Finals : Paths
      Finals = By (final_ends asked) B

      final-out : (q : Steps) (from : End) → B q from → has asked from ≡ true → (from ≡ Normal → ⊥) →
          ((is_final from ≡ true) × (has (Normal ∷ []) from ≡ true)) ⊎ Finals (cut q) (cut_end q (read from))
      final-out q from path h o = inr (record {
        whole = q;
        from = from;
        is_asked = is-left from (x.there q from path) h;
        path = path;
        steps = refl;
        end = refl;
      })

      finals-kept : do_meet (Normal ∷ ends draft) asked ≡ true →
          Holds (rounds draft body (Normal ∷ []) ++ body (final_ends asked))
      finals-kept m = onwards
          (looped-paths B Finals (Normal ∷ []) asked (λ e h. inl (only-one Normal e h)) refl
          (λ e h f. absurd (final-ends e f (only-one Normal e h))) final-out (λ h. absurd (true≢false (sym h ∙ other)))
          (one-back (final_ends asked) final-asked) (one-way (final_ends asked) final-asked (left-met m)))
          (then-code Finals (Normal ∷ []) (body (final_ends asked)) (kept (final_ends asked) (left-met m)))

  pub looped-kept : do_meet (Normal ∷ ends draft) asked ≡ true → Holds (looped draft body asked)
  looped-kept m = cond_both (has asked Normal)
      (rounds draft body (on asked) ++ cond (meets draft (exits asked)) (fork (body (exits asked)) []) [])
      (cond (meets draft (exits asked)) (rounds draft body (on asked) ++ body (exits asked))
      (rounds draft body (Normal ∷ []) ++ body (final_ends asked))) Holds normal-kept
      (λ o. cond_both (meets draft (exits asked)) (rounds draft body (on asked) ++ body (exits asked))
      (rounds draft body (Normal ∷ []) ++ body (final_ends asked)) Holds (exits-kept o) (λ l. finals-kept o l m))
