-- A stable path goes on from a quiet one.
use Rattle.std.proofs.Common.{◌≡◌, ℕ, zero, suc, ◌+◌, ◌<◌, ◌≤◌, Bool, true, false, cond, ◌||◌, [], ◌∷◌, ◌++◌}
use Rattle.std.proofs.Common.{None, Some, length, map, take, refl, sym, ap, ◌∙◌, subst, arith}
use Rattle.std.specs.Prelude.{IsTrue}
use Rattle.std.specs.List.{find}
use Rattle.std.proofs.lemmas.List.{take-append-le, length-append}
use Rattle.std.proofs.lemmas.Bool.{or_parts}
use Rattle.racer_base.specs.declared.ids.FieldId.{FieldId}
use Rattle.racer_base.specs.declared.ids.MethodId.{MethodId}
use Rattle.racer_base.specs.declared.limits.TheConstants.{MAX_PATH_FIELDS}
use Rattle.access_paths.specs.declared.path.Path.{Path}
use Rattle.access_paths.specs.Paths.{front, front_of, last_of}
use Rattle.access_domain.proofs.ReachedPaths.{front_and_last}
use Rattle.core_code.specs.Core.{Core}
use Rattle.core_ways.specs.Stable.{IsStable, counting, is_wobbly}
use Rattle.core_ways_laws.specs.Meets.{base_path}
use Rattle.core_ways_laws.specs.Quiet.{IsQuiet, are_declared}

this-or-later : (test : Path → Bool) (f : ℕ → Path) (from n : ℕ) →
    ((k : ℕ) → k < n → test (f (suc from + k)) ≡ false) → (j : ℕ) → j < suc n → test (f from) ≡ false →
    test (f (from + j)) ≡ false
this-or-later test f from n later zero within e =
    let same : from + 0 ≡ from = omega arith in ap (λ (x : ℕ). test (f x)) same ∙ e
this-or-later test f from n later (suc k) within e =
    let same : from + suc k ≡ suc from + k = omega arith in
    ap (λ (x : ℕ). test (f x)) same ∙ later k (omega arith)

-- where nothing is found among numbered things, each fails
none-passes : (test : Path → Bool) (f : ℕ → Path) (from n j : ℕ) → find test (map f (counting from n)) ≡ None → j < n →
    test (f (from + j)) ≡ false
none-passes test f from zero j none within = absurd (omega arith)
none-passes test f from (suc n) j none within =
    elim (test (f from)) as (λ b. test (f from) ≡ b →
    cond b (Some (f from)) (find test (map f (counting (suc from) n))) ≡ None → test (f (from + j)) ≡ false) [
      | true ↦ λ e is. absurd cc
      | false ↦ λ e is. this-or-later test f from n (λ k below. none-passes test f (suc from) n k is below) j within e
    ] refl none

-- the base of a stable path is quiet, where all its fields have classes of the program as their kinds
pub stable-base : (core : Core) (m1 m2 : MethodId) (p : Path) (f : FieldId) → last_of p.fields ≡ Some f →
    IsStable core m1 m2 p → length (base_path p).fields ≤ MAX_PATH_FIELDS →
    IsTrue (are_declared core (base_path p)) → IsQuiet core m1 m2 (base_path p)
stable-base core m1 m2 p f last stable short declared =
    let split : p.fields ≡ front_of p.fields ++ f ∷ [] = sym (front_and_last p.fields f last) in
    let long : length p.fields ≡ length (front_of p.fields) + 1 =
    ap length split ∙ length-append (front_of p.fields) (f ∷ []) in
    record {
      lasts = stable.root;
      short = short;
      declared = declared;
      calm = λ k within.
          let start : take k p.fields ≡ take k (front_of p.fields) =
          ap (take k) split ∙ take-append-le k (front_of p.fields) (f ∷ []) within in
          let same : front k p ≡ front k (base_path p) = (λ i. record { root = p.root; fields = start i }) in
          let zero-more : 0 + k ≡ k = omega arith in
          let fails : (is_wobbly core m1 (front k p) || is_wobbly core m2 (front k p)) ≡ false =
          subst (λ (j : ℕ). (is_wobbly core m1 (front j p) || is_wobbly core m2 (front j p)) ≡ false) zero-more
          (none-passes (λ q. is_wobbly core m1 q || is_wobbly core m2 q) (λ n. front n p) 0 (length p.fields) k
          stable.prefixes (omega arith)) in
          subst (λ (q : Path). (is_wobbly core m1 q ≡ false) × (is_wobbly core m2 q ≡ false)) same
          (or_parts (is_wobbly core m1 (front k p)) (is_wobbly core m2 (front k p)) fails);
    }
