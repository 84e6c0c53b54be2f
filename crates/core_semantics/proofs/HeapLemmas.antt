-- The set of the objects of a list of start paths.
use Rattle.std.proofs.Common.{◌≡◌, Bool, true, false, cond, ◌||◌, List, [], ◌∷◌, refl, sym, ap, ◌∙◌}
use Rattle.std.specs.BTreeSet.{BTreeSet, Updates, contains_by}
use Rattle.std.specs.List.{list_any}
use Rattle.std.proofs.Math.Bool.{or-false}
use Rattle.core_semantics.specs.declared.object.Object.{Object}
use Rattle.core_semantics.specs.declared.object.Object.TheVariants.{Start}
use Rattle.core_semantics.specs.declared.object.StartPath.{StartPath}
use Rattle.core_semantics.specs.Objects.{same_start_path}
use Rattle.core_semantics.specs.Order.{object_cmp}
use Rattle.core_semantics.specs.Same.{tied}

abbrev pub has : BTreeSet Object → StartPath → Bool
has objects p = contains_by (object_cmp (Start p)) objects

abbrev pub is_one_of : List StartPath → StartPath → Bool
is_one_of paths p = list_any (λ q. same_start_path q p) paths

-- the objects so far, and the paths that are left, are all paths
abbrev pub DoMake : BTreeSet Object → List StartPath → List StartPath → Type 0
DoMake objects left all = (p : StartPath) → (has objects p || is_one_of left p) ≡ is_one_of all p

either : (s o r : Bool) → (cond s true o || r) ≡ (o || (s || r))
either true true r = refl
either true false r = refl
either false o r = refl

pub one_more : (old new : BTreeSet Object) (x : StartPath) (left rest all : List StartPath) →
    DoMake old left all → left ≡ x ∷ rest → Updates object_cmp old new (Start x) true → DoMake new rest all
one_more old new x left rest all make steps updates = λ p.
    ap (λ b. b || is_one_of rest p) (updates.0 (Start p))
    ∙ ap (λ b. cond b true (has old p) || is_one_of rest p) (tied (Start x) (Start p))
    ∙ either (same_start_path x p) (has old p) (is_one_of rest p)
    ∙ ap (λ ys. has old p || is_one_of ys p) (sym steps)
    ∙ make p

pub all_made : (objects : BTreeSet Object) (left all : List StartPath) → DoMake objects left all → left ≡ [] →
    ◌≡◌ {A = StartPath → Bool} (λ p. has objects p) (λ p. is_one_of all p)
all_made objects left all make none = λ i p. (
    sym (or-false (has objects p)) ∙ ap (λ ys. has objects p || is_one_of ys p) (sym none) ∙ make p) i
