-- Lists of paths with one set, and what is made of each of their paths.
use Rattle.std.proofs.Common.{◌≡◌, Bool, true, false, ◌||◌, List, [], ◌∷◌, ◌++◌, refl, sym, ap, ◌∙◌}
use Rattle.std.proofs.lemmas.Bool.{false≢true}
use Rattle.std.specs.Cmp.{both_ways}
use Rattle.std.specs.FinSet as set
use Rattle.std.specs.List.{list_any, flat_map}
use Rattle.std.specs.Ordering.{eq_by_cmp}
use Rattle.std.proofs.Math.Bool.{or-true}
use Rattle.access_paths.specs.declared.path.Path.{Path}
use Rattle.access_paths.specs.Order.{PathSet, path_cmp}
use Rattle.access_paths.specs.Same.{path_cmp-total, path_cmp-IsAntisymmetric, equal_of_same, same_path-itself, tied}
use Rattle.owner_domain.proofs.MetValues.{grouped}

-- a path of the list that passes
record Passes (test : Path → Bool) (paths : List Path) : Type 0 where
  path : Path
  passes : test path ≡ true
  there : list_any (eq_by_cmp path_cmp path) paths ≡ true

one_passes : (test : Path → Bool) (paths : List Path) → list_any test paths ≡ true → Passes test paths
one_passes test [] one = absurd (false≢true one)
one_passes test (p ∷ paths) one =
    elim (test p) as (λ b. test p ≡ b → (b || list_any test paths) ≡ true → Passes test (p ∷ paths)) [
      | true ↦ λ e _.
          record {
            path = p;
            passes = e;
            there = ap (λ b. b || list_any (eq_by_cmp path_cmp p) paths) (tied p p ∙ same_path-itself p);
          }
      | false ↦ λ e later.
          let found = one_passes test paths later in
          record {
            path = found.path;
            passes = found.passes;
            there = ap (λ b. eq_by_cmp path_cmp found.path p || b) found.there
                ∙ or-true (eq_by_cmp path_cmp found.path p);
          }
    ] refl one

passes_there : (test : Path → Bool) (paths : List Path) (p : Path) → test p ≡ true →
    list_any (eq_by_cmp path_cmp p) paths ≡ true → list_any test paths ≡ true
passes_there test [] p passes there = absurd (false≢true there)
passes_there test (q ∷ paths) p passes there =
    elim (eq_by_cmp path_cmp p q) as (λ b. eq_by_cmp path_cmp p q ≡ b →
    (b || list_any (eq_by_cmp path_cmp p) paths) ≡ true → (test q || list_any test paths) ≡ true) [
      | true ↦ λ e _.
          let same : p ≡ q = equal_of_same p q (sym (tied p q) ∙ e) in
          ap (λ b. b || list_any test paths) (ap test (sym same) ∙ passes)
      | false ↦ λ e later.
          ap (λ b. test q || b) (passes_there test paths p passes later) ∙ or-true (test q)
    ] refl there

-- what is in one list is in the other
within : (test : Path → Bool) (ps qs : List Path) →
    set.from_list {R = path_cmp} ps ≡ set.from_list qs → list_any test ps ≡ true → list_any test qs ≡ true
within test ps qs same one =
    let found = one_passes test ps one in
    passes_there test qs found.path found.passes
    (sym (set.contains-from_list path_cmp-total qs found.path)
    ∙ ap (λ (s : PathSet). set.contains s found.path) (sym same)
    ∙ set.contains-from_list path_cmp-total ps found.path
    ∙ found.there)

pub any-same_set : (test : Path → Bool) (ps qs : List Path) →
    set.from_list {R = path_cmp} ps ≡ set.from_list qs → list_any test ps ≡ list_any test qs
any-same_set test ps qs same =
    both_ways (list_any test ps) (list_any test qs) (within test ps qs same) (within test qs ps (sym same))

pub any-append : {X : Type 0} (test : X → Bool) (xs ys : List X) →
    list_any test (xs ++ ys) ≡ (list_any test xs || list_any test ys)
any-append test [] ys = refl
any-append test (x ∷ xs) ys = ap (λ b. test x || b) (any-append test xs ys)
    ∙ sym (grouped (test x) (list_any test xs) (list_any test ys))

any-flat_map : (test : Path → Bool) (f : Path → List Path) (ps : List Path) →
    list_any test (flat_map f ps) ≡ list_any (λ p. list_any test (f p)) ps
any-flat_map test f [] = refl
any-flat_map test f (p ∷ ps) = any-append test (f p) (flat_map f ps)
    ∙ ap (λ b. list_any test (f p) || b) (any-flat_map test f ps)

-- lists with one set make lists with one set
pub flat_map-same_set : (f : Path → List Path) (ps qs : List Path) →
    set.from_list {R = path_cmp} ps ≡ set.from_list qs →
    set.from_list {R = path_cmp} (flat_map f ps) ≡ set.from_list (flat_map f qs)
flat_map-same_set f ps qs same =
    set.same_set path_cmp-total path_cmp-IsAntisymmetric _ _
    (λ q.
    set.contains-from_list path_cmp-total (flat_map f ps) q
    ∙ any-flat_map (eq_by_cmp path_cmp q) f ps
    ∙ any-same_set (λ p. list_any (eq_by_cmp path_cmp q) (f p)) ps qs same
    ∙ sym (any-flat_map (eq_by_cmp path_cmp q) f qs)
    ∙ sym (set.contains-from_list path_cmp-total (flat_map f qs) q))

-- the set of a set's items
pub from_list-items : (s : PathSet) → set.from_list {R = path_cmp} (set.items s) ≡ s
from_list-items s =
    set.same_set path_cmp-total path_cmp-IsAntisymmetric _ _
    (λ q. set.contains-from_list path_cmp-total (set.items s) q ∙ sym (set.contains-items s q))
