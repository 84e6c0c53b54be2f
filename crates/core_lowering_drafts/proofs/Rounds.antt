-- Rounds, and then a way out of them.
use Rattle.std.proofs.Common.{◌≡◌, ◌⊎◌, true, false, List, [], ◌∷◌, ◌++◌, All, refl, sym, ap, ◌∙◌, subst, inl}
use Rattle.std.proofs.Common.{inr}
use Rattle.std.proofs.Common.{⊎_elim, append-nil}
use Rattle.std.specs.List.{flat_map}
use Rattle.std.proofs.lemmas.Bool.{cases_Bool}
use Rattle.std.proofs.lemmas.List.{append_assoc}
use Rattle.std.proofs.lemmas.List.Elements.{All-nil, All-cons, All-head, All-tail}
use Rattle.core_lowering_drafts.specs.Drafts.{End, Normal, Ends, has, is_final}
use Rattle.core_lowering_drafts.specs.Paths.{Steps, Paths, cut, cut_end, read, IsOne, IsThen, IsLooped}
use Rattle.core_lowering_drafts.proofs.Sets.{final-ends, is_normal}
use Rattle.core_lowering_drafts.proofs.Cuts.{is_stopped, stopped-steps, stopped-end, stopped-final, whole-steps}
use Rattle.core_lowering_drafts.proofs.Cuts.{whole-end}
use Rattle.core_lowering_drafts.proofs.Cuts.{all-steps, all-end, final-cut, other-cut}
use Rattle.core_lowering_drafts.proofs.Alike.{Alike}
use Rattle.core_lowering_drafts.proofs.Kept.{By, HasPath, NoExit, normal-by, by-normal, moved}

abbrev flat : List Steps → Steps
flat rounds = flat_map (λ r. r) rounds

-- ---- any loop

module _ (P : Paths) where
  abbrev Round : Steps → Type 0
  Round r = P r Normal

  pub no-round : IsLooped P [] Normal
  no-round = ([], [], refl, All-nil Round, inl (refl, refl))

  pub last-round : (p : Steps) (e : End) → P p e → IsLooped P p e
  last-round p e h = ([], p, refl, All-nil Round, inr h)

  pub one-more : (r p : Steps) (e : End) → P r Normal → IsLooped P p e → IsLooped P (r ++ p) e
  one-more r p e h l = (
    r ∷ l.0,
    l.1,
    ap (λ s. r ++ s) l.2 ∙ sym (append_assoc r (flat l.0) l.1),
    All-cons Round r l.0 h l.3,
    l.4,
  )

  pub more-then : (Q : Paths) (r p : Steps) (e : End) → P r Normal → IsThen (IsLooped P) Q p e →
      IsThen (IsLooped P) Q (r ++ p) e
  more-then Q r p e h (inl t) = inl (one-more r p e h t.0, t.1)
  more-then Q r p e h (inr t) = inr (
    r ++ t.0,
    t.1,
    ap (λ s. r ++ s) t.2 ∙ sym (append_assoc r t.0 t.1),
    one-more r t.0 Normal h t.3,
    t.4,
  )

rounds-there : (P Q : Paths) → Alike P Q → (rounds : List Steps) → All (λ r. P r Normal) rounds →
    All (λ r. Q r Normal) rounds
rounds-there P Q a [] all = All-nil (λ r. Q r Normal)
rounds-there P Q a (r ∷ rounds) all =
    All-cons (λ s. Q s Normal) r rounds (a.there r Normal (All-head (λ s. P s Normal) r rounds all))
    (rounds-there P Q a rounds (All-tail (λ s. P s Normal) r rounds all))

looped-there : (P Q : Paths) → Alike P Q → (p : Steps) (e : End) → IsLooped P p e → IsLooped Q p e
looped-there P Q a p e l = (
  l.0,
  l.1,
  l.2,
  rounds-there P Q a l.0 l.3,
  ⊎_elim (λ one. inl one) (λ path. inr (a.there l.1 e path)) l.4,
)

pub looped-alike : {P Q : Paths} → Alike P Q → Alike (IsLooped P) (IsLooped Q)
looped-alike {P} {Q} a =
    record { there = looped-there P Q a; back = looped-there Q P (record { there = a.back; back = a.there }) }

-- no round can be done
nothing-round : (P : Paths) → ((p : Steps) (e : End) → P p e → ⊥) → (rounds : List Steps) (q p : Steps) (e : End) →
    p ≡ flat rounds ++ q → All (λ r. P r Normal) rounds → IsOne [] Normal q e ⊎ P q e → IsOne [] Normal p e
nothing-round P none [] q p e is all (inl one) = (is ∙ one.0, one.1)
nothing-round P none [] q p e is all (inr path) = absurd (none q e path)
nothing-round P none (r ∷ rounds) q p e is all last = absurd (none r Normal (All-head (λ s. P s Normal) r rounds all))

pub nothing-looped : (P : Paths) → ((p : Steps) (e : End) → P p e → ⊥) → Alike (IsLooped P) (IsOne [] Normal)
nothing-looped P none = record {
  there = λ p e l. nothing-round P none l.0 l.1 p e l.2 l.3 l.4;
  back = λ p e one. moved (IsLooped P) p [] e Normal one.0 one.1 (no-round P);
}

-- ---- a loop whose body's paths are cut, and that is left by ends that are asked for: some of these end the rounds,
-- and the others come behind

module _ (B Tail : Paths) (now asked : Ends) (no_exit : NoExit now) (on_now : has now Normal ≡ true)
    (is_asked : (e : End) → has now e ≡ true → is_final e ≡ true → has asked e ≡ true)
    (leaves : (q : Steps) (from : End) → B q from → has asked from ≡ true → (from ≡ Normal → ⊥) →
    ((is_final from ≡ true) × (has now from ≡ true)) ⊎ Tail (cut q) (cut_end q (read from)))
    (ends : has asked Normal ≡ true → Tail [] Normal)
    (tail_back : (p : Steps) (e : End) → Tail p e → By asked (IsLooped B) p e)
    (some : HasPath asked (IsLooped B)) where
  abbrev Round_by : Paths
  Round_by = By now B

  abbrev Whole : Paths
  Whole = IsThen (IsLooped Round_by) Tail

  -- a last round that stops
  stops-there : (q w p : Steps) (e f : End) → B q Normal → is_stopped q ≡ true → p ≡ cut (q ++ w) →
      e ≡ cut_end (q ++ w) f → Whole p e
  stops-there q w p e f h s steps end =
      let end_here : e ≡ cut_end q Normal = end ∙ stopped-end q w f Normal s in
      inl (
        last-round Round_by p e (record {
          whole = q;
          from = Normal;
          is_asked = on_now;
          path = h;
          steps = steps ∙ stopped-steps q w s;
          end = end_here;
        }),
        final-ends e (ap is_final end_here ∙ stopped-final q Normal s),
      )

  last-there : (q : Steps) (from : End) → IsOne [] Normal q from ⊎ B q from → has asked from ≡ true →
      Whole (cut q) (cut_end q (read from))
  last-there q from (inl one) h =
      moved Whole (cut q) [] (cut_end q (read from)) Normal (ap cut one.0)
      (ap (λ w. cut_end w (read from)) one.0 ∙ ap read one.1)
      (inr ([], [], refl, no-round Round_by, ends (sym (ap (has asked) one.1) ∙ h)))
  last-there q from (inr path) h = ⊎_elim normal other (is_normal from)
    where
      whole : from ≡ Normal → is_stopped q ≡ false → Whole (cut q) (cut_end q (read from))
      whole n s = moved Whole (cut q) q (cut_end q (read from)) Normal (all-steps q s)
          (all-end q (read from) s ∙ ap read n)
          (inr (
            q,
            [],
            sym (append-nil q),
            last-round Round_by q Normal (by-normal now B q on_now (subst (λ f. B q f) n path) s),
            ends (sym (ap (has asked) n) ∙ h),
          ))

      normal : from ≡ Normal → Whole (cut q) (cut_end q (read from))
      normal n = ⊎_elim
          (λ s. stops-there q [] (cut q) (cut_end q (read from)) (read from) (subst (λ f. B q f) n path) s
          (ap cut (sym (append-nil q))) (ap (λ w. cut_end w (read from)) (sym (append-nil q))))
          (whole n) (cases_Bool (is_stopped q))

      other : (from ≡ Normal → ⊥) → Whole (cut q) (cut_end q (read from))
      other o = ⊎_elim
          (λ final. inl (
            last-round Round_by (cut q) (cut_end q (read from)) (record {
              whole = q;
              from = from;
              is_asked = final.1;
              path = path;
              steps = refl;
              end = refl;
            }),
            final-ends (cut_end q (read from)) (final-cut q from final.0),
          ))
          (λ tail. inr ([], cut q, refl, no-round Round_by, tail)) (leaves q from path h o)

  rounds-then : (rounds : List Steps) (q : Steps) (from : End) → All (λ r. B r Normal) rounds →
      IsOne [] Normal q from ⊎ B q from → has asked from ≡ true →
      Whole (cut (flat rounds ++ q)) (cut_end (flat rounds ++ q) (read from))
  rounds-then [] q from all last h = last-there q from last h
  rounds-then (r ∷ rounds) q from all last h =
      let rest = flat rounds ++ q in
      let path = All-head (λ s. B s Normal) r rounds all in
      let more = rounds-then rounds q from (All-tail (λ s. B s Normal) r rounds all) last h in
      let joined = append_assoc r (flat rounds) q in
      ⊎_elim
      (λ s. stops-there r rest (cut ((r ++ flat rounds) ++ q)) (cut_end ((r ++ flat rounds) ++ q) (read from))
      (read from)
      path s (ap cut joined) (ap (λ w. cut_end w (read from)) joined))
      (λ s. moved Whole (cut ((r ++ flat rounds) ++ q)) (r ++ cut rest) (cut_end ((r ++ flat rounds) ++ q) (read from))
      (cut_end rest (read from)) (ap cut joined ∙ whole-steps r rest s)
      (ap (λ w. cut_end w (read from)) joined ∙ whole-end r rest (read from) s)
      (more-then Round_by Tail r (cut rest) (cut_end rest (read from)) (by-normal now B r on_now path s) more))
      (cases_Bool (is_stopped r))

  looped-by : (p : Steps) (e : End) → By asked (IsLooped B) p e → Whole p e
  looped-by p e b =
      let l : IsLooped B b.whole b.from = b.path in
      moved Whole p (cut (flat l.0 ++ l.1)) e (cut_end (flat l.0 ++ l.1) (read b.from)) (b.steps ∙ ap cut l.2)
      (b.end ∙ ap (λ w. cut_end w (read b.from)) l.2) (rounds-then l.0 l.1 b.from l.3 l.4 b.is_asked)

  -- ---- back

  -- one more round
  by-more : (r p : Steps) (e : End) → Round_by r Normal → By asked (IsLooped B) p e → By asked (IsLooped B) (r ++ p) e
  by-more r p e h b =
      let n = normal-by now B no_exit r h in record {
        whole = r ++ b.whole;
        from = b.from;
        is_asked = b.is_asked;
        path = one-more B r b.whole b.from n.0 b.path;
        steps = ap (λ t. r ++ t) b.steps ∙ sym (whole-steps r b.whole n.1);
        end = b.end ∙ sym (whole-end r b.whole (read b.from) n.1);
      }

  last-back : (p : Steps) (e : End) → Round_by p e → (e ≡ Normal → ⊥) → By asked (IsLooped B) p e
  last-back p e b o = ⊎_elim normal final (no_exit b.from b.is_asked)
    where
      stopped : b.from ≡ Normal → is_stopped b.whole ≡ true
      stopped n = ⊎_elim (λ s. s) (λ f. absurd (final-ends b.from f n)) (other-cut b.whole b.from (λ z. o (b.end ∙ z)))

      normal : b.from ≡ Normal → By asked (IsLooped B) p e
      normal n = record {
        whole = b.whole ++ some.whole;
        from = some.from;
        is_asked = some.is_asked;
        path = one-more B b.whole some.whole some.from (subst (λ f. B b.whole f) n b.path) some.path;
        steps = b.steps ∙ sym (stopped-steps b.whole some.whole (stopped n));
        end = b.end ∙ sym (stopped-end b.whole some.whole (read some.from) (read b.from) (stopped n));
      }

      final : is_final b.from ≡ true → By asked (IsLooped B) p e
      final f = record {
        whole = b.whole;
        from = b.from;
        is_asked = is_asked b.from b.is_asked f;
        path = last-round B b.whole b.from b.path;
        steps = b.steps;
        end = b.end;
      }

  stops-back : (rounds : List Steps) (q : Steps) (e : End) → All (λ r. Round_by r Normal) rounds →
      IsOne [] Normal q e ⊎ Round_by q e → (e ≡ Normal → ⊥) → By asked (IsLooped B) (flat rounds ++ q) e
  stops-back [] q e all (inl one) o = absurd (o one.1)
  stops-back [] q e all (inr b) o = last-back q e b o
  stops-back (r ∷ rounds) q e all last o =
      subst (λ s. By asked (IsLooped B) s e) (sym (append_assoc r (flat rounds) q))
      (by-more r (flat rounds ++ q) e (All-head (λ s. Round_by s Normal) r rounds all)
      (stops-back rounds q e (All-tail (λ s. Round_by s Normal) r rounds all) last o))

  goes-back : (rounds : List Steps) (q t : Steps) (e : End) → All (λ r. Round_by r Normal) rounds →
      IsOne [] Normal q Normal ⊎ Round_by q Normal → By asked (IsLooped B) t e →
      By asked (IsLooped B) ((flat rounds ++ q) ++ t) e
  goes-back [] q t e all (inl one) b = subst (λ s. By asked (IsLooped B) (s ++ t) e) (sym one.0) b
  goes-back [] q t e all (inr h) b = by-more q t e h b
  goes-back (r ∷ rounds) q t e all last b =
      subst (λ s. By asked (IsLooped B) s e)
      (sym (ap (λ s. s ++ t) (append_assoc r (flat rounds) q) ∙ append_assoc r (flat rounds ++ q) t))
      (by-more r ((flat rounds ++ q) ++ t) e (All-head (λ s. Round_by s Normal) r rounds all)
      (goes-back rounds q t e (All-tail (λ s. Round_by s Normal) r rounds all) last b))

  looped-back : (p : Steps) (e : End) → Whole p e → By asked (IsLooped B) p e
  looped-back p e (inl t) =
      let l : IsLooped Round_by p e = t.0 in
      subst (λ s. By asked (IsLooped B) s e) (sym l.2) (stops-back l.0 l.1 e l.3 l.4 t.1)
  looped-back p e (inr t) =
      let l : IsLooped Round_by t.0 Normal = t.3 in
      subst (λ s. By asked (IsLooped B) s e) (sym (t.2 ∙ ap (λ s. s ++ t.1) l.2))
      (goes-back l.0 l.1 t.1 e l.3 l.4 (tail_back t.1 e t.4))

  pub looped-paths : Alike (By asked (IsLooped B)) Whole
  looped-paths = record { there = looped-by; back = looped-back }
