-- The shortest prefix of a path that is wobbly in one of two methods.
use Rattle.std.proofs.Common.{◌≡◌, ℕ, zero, suc, ◌+◌, ◌≤◌, ◌<◌, Bool, true, false, cond, ◌||◌, length, refl}
use Rattle.std.proofs.Common.{sym, ap, ◌∙◌, Option, None, Some, map, nat_lt, arith, inl, inr, option_map}
use Rattle.std.proofs.lemmas.Bool.{cases_lt, false≢true, lt-ltb, ltb-true, or_from, or_left, or_right}
use Rattle.std.specs.FinSet as set
use Rattle.std.specs.List.{find, list_any}
use Rattle.racer_base.specs.declared.ids.MethodId.{MethodId}
use Rattle.access_paths.specs.declared.path.Path.{Path}
use Rattle.access_paths.specs.Paths.{front, same_path}
use Rattle.access_paths.specs.Same.{path_cmp-total, tied}
use Rattle.access_domain.specs.Findings.{Known, Large, Whole, outcome_from}
use Rattle.access_domain.specs.Summaries.{known_of, outcome_of}
use Rattle.access_domain.specs.Outcomes.{wobbly_held}
use Rattle.core_code.specs.Core.{Core}
use Rattle.core_ways.specs.Stable.{counting, is_wobbly, proper_prefixes, wobbly_in}
use Rattle.witness_build.specs.ShortestPrefix.{IsFirst, IsLeast, is_held, least}

-- ---- the first of two tests

abbrev pub either : (ℕ → Bool) → (ℕ → Bool) → ℕ → Bool
either t u k = t k || u k

smaller : (t u : ℕ → Bool) (n j k : ℕ) (b : Bool) → nat_lt j k ≡ b → IsFirst t n j → IsFirst u n k →
    IsLeast (either t u) n (cond b (Some j) (Some k))
smaller t u n j k true e a c =
    let less : j < k = ltb-true j k e in
    record {
      within = a.within;
      passes = or_left (t j) (u j) a.passes;
      none_before = λ i lt. or_from (t i) (u i) (a.none_before i lt) (c.none_before i (omega arith));
    }
smaller t u n j k false e a c =
    elim (cases_lt j k) [
      | inl less ↦ absurd (false≢true (not_less j k less e))
      | inr more ↦ record {
        within = c.within;
        passes = or_right (t k) (u k) c.passes;
        none_before = λ i lt. or_from (t i) (u i) (a.none_before i (omega arith)) (c.none_before i lt);
      }
    ]
  where
    not_less : (j k : ℕ) → j < k → nat_lt j k ≡ false → false ≡ true
    not_less j k less e = sym e ∙ lt-ltb j k less

pub least-both : (t u : ℕ → Bool) (n : ℕ) (a b : Option ℕ) → IsLeast t n a → IsLeast u n b →
    IsLeast (either t u) n (least a b)
least-both t u n None None a b = λ k lt. or_from (t k) (u k) (a k lt) (b k lt)
least-both t u n None (Some k) a b =
    record {
      within = b.within;
      passes = or_right (t k) (u k) b.passes;
      none_before = λ i lt. or_from (t i) (u i) (a i (omega (arith, b.within))) (b.none_before i lt);
    }
least-both t u n (Some j) None a b =
    record {
      within = a.within;
      passes = or_left (t j) (u j) a.passes;
      none_before = λ i lt. or_from (t i) (u i) (a.none_before i lt) (b i (omega (arith, a.within)));
    }
least-both t u n (Some j) (Some k) a b = smaller t u n j k (nat_lt j k) refl a b

-- ---- the first of the prefixes

none-found : (test : Path → Bool) (f : ℕ → Path) (from n : ℕ) →
    ((k : ℕ) → from ≤ k → k < from + n → test (f k) ≡ false) → find test (map f (counting from n)) ≡ None
none-found test f from zero fails = refl
none-found test f from (suc n) fails =
    ap (λ b. cond b (Some (f from)) (find test (map f (counting (suc from) n))))
    (fails from (omega arith) (omega arith))
    ∙ none-found test f (suc from) n (λ k low high. fails k (omega arith) (omega arith))

one-found : (test : Path → Bool) (f : ℕ → Path) (from n at : ℕ) → from ≤ at → at < from + n → test (f at) ≡ true →
    ((k : ℕ) → from ≤ k → k < at → test (f k) ≡ false) → find test (map f (counting from n)) ≡ Some (f at)
one-found test f from zero at low high passes fails = absurd (omega arith)
one-found test f from (suc n) at low high passes fails =
    elim (cases_lt from at) [
      | inl less ↦
          ap (λ b. cond b (Some (f from)) (find test (map f (counting (suc from) n)))) (fails from (omega arith) less)
          ∙ one-found test f (suc from) n at (omega arith) (omega arith) passes
          (λ k l h. fails k (omega arith) h)
      | inr more ↦
          let same : from ≡ at = omega arith in
          ap (λ b. cond b (Some (f from)) (find test (map f (counting (suc from) n))))
          (ap (λ k. test (f k)) same ∙ passes)
          ∙ ap (λ (k : ℕ). Some (f k)) same
    ]

pub first-prefix : (test : Path → Bool) (p : Path) (answer : Option ℕ) →
    IsLeast (λ k. test (front k p)) (length p.fields) answer →
    find test (proper_prefixes p) ≡ option_map (λ n. front n p) answer
first-prefix test p None is =
    none-found test (λ n. front n p) 0 (length p.fields) (λ k low high. is k (omega arith))
first-prefix test p (Some k) is =
    let within : k < 0 + length p.fields = omega (arith, is.within) in
    one-found test (λ n. front n p) 0 (length p.fields) k (omega arith) within is.passes
    (λ i low lt. is.none_before i lt)

-- ---- wobbly paths, as the outcome has them

same-known : (o : Option Known) (p : Path) →
    list_any (same_path p) (wobbly_in o) ≡ is_held (wobbly_held (option_map outcome_from o)) p
same-known None p = refl
same-known (Some Large) p = refl
same-known (Some (Whole found)) p =
    sym (λ i. list_any (λ q. tied p q i) found.wobbly)
    ∙ sym (set.contains-from_list path_cmp-total found.wobbly p)

pub wobbly-held : (core : Core) (m : MethodId) (p : Path) →
    is_wobbly core m p ≡ is_held (wobbly_held (outcome_of core m)) p
wobbly-held core m p = same-known (known_of core m) p
