-- The different paths of a list have the same set.
use Rattle.std.proofs.Common.{◌≡◌, Bool, true, false, cond, ◌||◌, not, List, [], ◌∷◌, filter, refl, sym, ap, ◌∙◌}
use Rattle.std.specs.List.{list_any}
use Rattle.std.specs.Ordering.{eq_by_cmp}
use Rattle.std.specs.FinSet as set
use Rattle.access_paths.specs.declared.path.Path.{Path}
use Rattle.access_paths.specs.Paths.{same_path}
use Rattle.access_paths.specs.Order.{path_cmp}
use Rattle.access_paths.specs.Same.{equal_of_same, path_cmp-total, path_cmp-IsAntisymmetric}
use Rattle.access_domain.specs.Records.{firsts, different_paths}

-- what a test that fails at x and at all that is the same leaves
other_than : {X : Type 0} (p : X → Bool) (same : X → X → Bool) (x : X) → ((y : X) → same x y ≡ true → p y ≡ false) →
    (ys : List X) → list_any p (filter (λ y. not (same x y)) ys) ≡ list_any p ys
other_than p same x fails [] = refl
other_than p same x fails (y ∷ ys) =
    elim (same x y) as (λ b. same x y ≡ b → list_any p
    (cond (not b) (y ∷ filter (λ z. not (same x z)) ys) (filter (λ z. not (same x z)) ys)) ≡
    (p y || list_any p ys)) [
      | true ↦ λ e. other_than p same x fails ys ∙ ap (λ b. b || list_any p ys) (sym (fails y e))
      | false ↦ λ e. ap (λ b. p y || b) (other_than p same x fails ys)
    ] refl

-- one of the firsts passes exactly where one of all does
pub list_any-firsts : {X : Type 0} (p : X → Bool) (same : X → X → Bool) → ((x y : X) → same x y ≡ true → p y ≡ p x) →
    (xs : List X) → list_any p (firsts same xs) ≡ list_any p xs
list_any-firsts p same alike [] = refl
list_any-firsts p same alike (x ∷ xs) =
    elim (p x) as (λ b. p x ≡ b → (b || list_any p (filter (λ y. not (same x y)) (firsts same xs))) ≡
    (b || list_any p xs)) [
      | true ↦ λ e. refl
      | false ↦ λ e. other_than p same x (λ y same_one. alike x y same_one ∙ e) (firsts same xs)
          ∙ list_any-firsts p same alike xs
    ] refl

pub from_list-different : (paths : List Path) →
    set.from_list {R = path_cmp} (different_paths paths) ≡ set.from_list paths
from_list-different paths =
    set.same_set path_cmp-total path_cmp-IsAntisymmetric _ _
    (λ q.
    set.contains-from_list path_cmp-total (different_paths paths) q
    ∙ list_any-firsts (eq_by_cmp path_cmp q) same_path (λ x y same_one.
    ap (eq_by_cmp path_cmp q) (sym (equal_of_same x y same_one))) paths
    ∙ sym (set.contains-from_list path_cmp-total paths q))
