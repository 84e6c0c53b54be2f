-- The code of a part with what stands behind it has the paths that are asked for.
use Rattle.std.proofs.Common.{◌≡◌, true, false, ◌&&◌, [], ◌++◌, cond, refl, sym, ap, ◌∙◌}
use Rattle.std.proofs.Common.{inl, inr, ⊎_elim, true≢false}
use Rattle.std.proofs.lemmas.Bool.{and_parts, and_from, or_left, or_right, or_cases, cond_both}
use Rattle.core_lowering_drafts.specs.Drafts.{End, Normal, Ends, has, without, do_meet, is_final, is_exit, final_ends}
use Rattle.core_lowering_drafts.specs.Drafts.{exits, on}
use Rattle.core_lowering_drafts.specs.Paths.{Steps, Paths, IsOne, IsThen}
use Rattle.core_lowering_drafts.specs.Only.{Code, fork, Rest, Last, Unmet, Met, code_in, is_met, are_met, parted}
use Rattle.core_lowering_drafts.specs.Only.{before}
use Rattle.core_lowering_drafts.proofs.Sets.{do_meet-found, do_meet-from, filter-from, without-from, without-parts}
use Rattle.core_lowering_drafts.proofs.Sets.{kind-of}
use Rattle.core_lowering_drafts.proofs.Sets.{rest-there}
use Rattle.core_lowering_drafts.proofs.Exact.{IsExact}
use Rattle.core_lowering_drafts.proofs.Alike.{Alike, IsOf, itself, turned, onwards, either-alike, only-second}
use Rattle.core_lowering_drafts.proofs.Alike.{only-first, then-alike, then-nothing, parts-then, fork-paths}
use Rattle.core_lowering_drafts.proofs.Kept.{By, HasPath, by-alike, split, unmet-behind, one-by}

-- what stands behind has these paths, and where there is code, it has those of them that are asked for
abbrev pub IsRest : Paths → Ends → Rest → Type 0
IsRest R asked Last = Alike R (IsOne [] Normal)
IsRest R asked Unmet = (p : Steps) (e : End) → R p e → has asked e ≡ true → ⊥
IsRest R asked (Met code) = Alike (By asked R) (IsOf code) × HasPath asked R

module _ (R : Paths) (asked : Ends) where
  pub rest-kept : (rest : Rest) → IsRest R asked rest → is_met rest asked ≡ true →
      Alike (By asked R) (IsOf (code_in rest))
  rest-kept Last i h = onwards (by-alike asked i) (one-by asked h)
  rest-kept Unmet i h = absurd cc
  rest-kept (Met code) i h = i.0

  pub rest-path : (rest : Rest) → IsRest R asked rest → is_met rest asked ≡ true → HasPath asked R
  rest-path Last i h =
      record { whole = []; from = Normal; is_asked = h; path = i.back [] Normal (refl, refl) }
  rest-path Unmet i h = absurd cc
  rest-path (Met code) i h = i.1

  pub rest-met : (rest : Rest) → IsRest R asked rest → (p : Steps) (e : End) → R p e → has asked e ≡ true →
      is_met rest asked ≡ true
  rest-met Last i p e path h = sym (ap (has asked) (i.there p e path).1) ∙ h
  rest-met Unmet i p e path h = absurd (i p e path h)
  rest-met (Met code) i p e path h = refl

pub path-alike : (asked : Ends) (P Q : Paths) → Alike P Q → HasPath asked P → HasPath asked Q
path-alike asked P Q a h =
    record { whole = h.whole; from = h.from; is_asked = h.is_asked; path = a.there h.whole h.from h.path }

pub rest-alike : (P Q : Paths) (asked : Ends) (rest : Rest) → Alike P Q → IsRest P asked rest → IsRest Q asked rest
rest-alike P Q asked Last a i = onwards (turned a) i
rest-alike P Q asked Unmet a i = λ p e path. i p e (a.back p e path)
rest-alike P Q asked (Met code) a i = (onwards (by-alike asked (turned a)) i.0, path-alike asked P Q a i.1)

-- the code of a part has the paths of it that are asked for, where it has one
abbrev pub IsKept : (Ends → Code) → Ends → Paths → Type 0
IsKept part first P = (A : Ends) → do_meet first A ≡ true → Alike (By A P) (IsOf (part A))

module _ (first : Ends) (P : Paths) (x : IsExact first P) (A : Ends) where
  pub no-by : do_meet first A ≡ false → (p : Steps) (e : End) → By A P p e → ⊥
  no-by h p e b =
      true≢false (sym (do_meet-from first A b.from (x.there b.whole b.from b.path) b.is_asked) ∙ h)

  pub some-path : do_meet first A ≡ true → HasPath A P
  some-path h =
      let found = do_meet-found first A h in
      let path = x.back found.0 found.1 in
      record { whole = path.0; from = found.0; is_asked = found.2; path = path.1 }

  pub path-meets : HasPath A P → do_meet first A ≡ true
  path-meets h = do_meet-from first A h.from (x.there h.whole h.from h.path) h.is_asked

module _ (part : Ends → Code) (first : Ends) (P R : Paths) (x : IsExact first P) (kept : IsKept part first P)
    (asked : Ends) where
  -- what goes on, where no exit is asked for
  on-met : (code : Code) → do_meet first (exits asked) ≡ false → are_met first (Met code) asked ≡ true →
      do_meet first (on asked) ≡ true
  on-met code none h = ⊎_elim other (λ m. do_meet-from first (on asked) Normal (and_parts _ _ m).0 refl)
      (or_cases _ _ h)
    where
      other : do_meet first (without Normal asked) ≡ true → do_meet first (on asked) ≡ true
      other m =
          let found = do_meet-found first (without Normal asked) m in
          let parts = without-parts Normal asked found.0 found.2 in
          ⊎_elim (λ normal. absurd (parts.1 normal)) (λ k. ⊎_elim
          (λ final. do_meet-from first (on asked) found.0 found.1
          (rest-there Normal found.0 (final_ends asked) (filter-from is_final asked found.0 parts.0 final)))
          (λ exit. absurd (true≢false (sym (do_meet-from first (exits asked) found.0 found.1
          (filter-from is_exit asked found.0 parts.0 exit)) ∙ none))) k) (kind-of found.0)

  abbrev Holds : Code → Type 0
  Holds code = Alike (By asked (IsThen P R)) (IsOf code)

  none-goes : do_meet first (on asked) ≡ false → (p : Steps) (e : End) → IsThen (By (on asked) P) (By asked R) p e → ⊥
  none-goes h p e (inl t) = no-by first P x (on asked) h p e t.0
  none-goes h p e (inr t) = no-by first P x (on asked) h t.0 Normal t.3

  module _ (code : Code) (behind : Alike (By asked R) (IsOf code)) (more : HasPath asked R) where
    goes-kept : do_meet first (on asked) ≡ true →
        Alike (IsThen (By (on asked) P) (By asked R)) (IsOf (part (on asked) ++ code))
    goes-kept h = onwards (then-alike (kept (on asked) h) behind) (turned (parts-then (part (on asked)) code))

    parted-kept : do_meet first (exits asked) ≡ true → Holds (parted part first asked code)
    parted-kept h = cond_both (do_meet first (on asked)) (fork (part (exits asked)) (part (on asked) ++ code))
        (part (exits asked)) Holds
        (λ o. onwards (split asked P R more) (onwards (either-alike (kept (exits asked) h) (goes-kept o))
        (turned (fork-paths (part (exits asked)) (part (on asked) ++ code)))))
        (λ o. onwards (split asked P R more) (onwards (only-first (none-goes o)) (kept (exits asked) h)))

    met-kept : are_met first (Met code) asked ≡ true → Holds (before part first asked (Met code))
    met-kept h = cond_both (do_meet first (exits asked)) (parted part first asked code) (part (on asked) ++ code) Holds
        parted-kept
        (λ none. onwards (split asked P R more) (onwards (only-second (no-by first P x (exits asked) none))
        (goes-kept (on-met code none h))))

  unmet-meets : are_met first Unmet asked ≡ true → do_meet first (without Normal asked) ≡ true
  unmet-meets h = ⊎_elim (λ m. m) (λ m. let parts = and_parts (has first Normal) false m in absurd cc) (or_cases _ _ h)

  last-meets : are_met first Last asked ≡ true → do_meet first asked ≡ true
  last-meets h = ⊎_elim
      (λ m. let found = do_meet-found first (without Normal asked) m in
      do_meet-from first asked found.0 found.1 (without-parts Normal asked found.0 found.2).0)
      (λ m. let parts = and_parts _ _ m in do_meet-from first asked Normal parts.0 parts.1) (or_cases _ _ h)

  code-kept : (rest : Rest) → IsRest R asked rest → are_met first rest asked ≡ true →
      Holds (before part first asked rest)
  code-kept Last i h = onwards (by-alike asked (onwards (then-alike (itself P) i) (then-nothing P)))
      (kept asked (last-meets h))
  code-kept Unmet i h = onwards (unmet-behind asked P R i) (kept (without Normal asked) (unmet-meets h))
  code-kept (Met code) i h = met-kept code i.0 i.1 h

  some-way : (rest : Rest) → IsRest R asked rest → are_met first rest asked ≡ true → HasPath asked (IsThen P R)
  some-way rest i h = ⊎_elim out goes (or_cases _ _ h)
    where
      out : do_meet first (without Normal asked) ≡ true → HasPath asked (IsThen P R)
      out m =
          let found = do_meet-found first (without Normal asked) m in
          let parts = without-parts Normal asked found.0 found.2 in
          let path = x.back found.0 found.1 in
          record { whole = path.0; from = found.0; is_asked = parts.0; path = inl (path.1, parts.1) }

      goes : (has first Normal && is_met rest asked) ≡ true → HasPath asked (IsThen P R)
      goes m =
          let parts = and_parts _ _ m in
          let path = x.back Normal parts.0 in
          let more = rest-path R asked rest i parts.1 in
          record {
            whole = path.0 ++ more.whole;
            from = more.from;
            is_asked = more.is_asked;
            path = inr (path.0, more.whole, refl, path.1, more.path);
          }

  no-way : (rest : Rest) → IsRest R asked rest → are_met first rest asked ≡ false →
      (p : Steps) (e : End) → IsThen P R p e → has asked e ≡ true → ⊥
  no-way rest i h p e (inl t) k = true≢false (sym (or_left _ _ (do_meet-from first (without Normal asked) e
      (x.there p e t.0) (without-from Normal asked e k t.1))) ∙ h)
  no-way rest i h p e (inr t) k =
      true≢false (sym (or_right (do_meet first (without Normal asked)) _ (and_from _ _ (x.there t.0 Normal t.3)
      (rest-met R asked rest i t.1 e t.4 k))) ∙ h)

  pub before-kept : (rest : Rest) → IsRest R asked rest →
      IsRest (IsThen P R) asked (cond (are_met first rest asked) (Met (before part first asked rest)) Unmet)
  before-kept rest i = cond_both (are_met first rest asked) (Met (before part first asked rest)) Unmet
      (IsRest (IsThen P R) asked) (λ h. (code-kept rest i h, some-way rest i h)) (no-way rest i)
