-- Sets of paths that are kept as lists.
use Rattle.std.proofs.Common.{◌≡◌, ◌+◌, ◌<◌, ◌≤◌, Bool, true, false, cond, ◌||◌, List, [], length, sym, ap, ◌∙◌, arith}
use Rattle.std.specs.List.{list_any}
use Rattle.std.specs.FinSet as set
use Rattle.std.specs.Ordering.{eq_by_cmp}
use Rattle.racer_base.specs.declared.limits.TheConstants.{MAX_SUMMARY_KEYS}
use Rattle.access_paths.specs.declared.path.Path.{Path}
use Rattle.access_paths.specs.Paths.{same_path}
use Rattle.access_paths.specs.Order.{path_cmp}
use Rattle.access_paths.specs.Same.{tied, same_path-laws, path_cmp-total, path_cmp-IsAntisymmetric}
use Rattle.wobbly_paths.specs.Inside.{set_of, IsWithin}

-- what the ordered set has is in the set
pub contains-set : (paths : List Path) (q : Path) →
    list_any (eq_by_cmp path_cmp q) paths ≡ set.contains (set_of paths) q
contains-set paths q = sym (set.contains-from_list path_cmp-total paths q)

either : (a b c : Bool) → a ≡ b → cond a true c ≡ (b || c)
either true b c e = ap (λ d. d || c) e
either false b c e = ap (λ d. d || c) e

tied_back : (x q : Path) → eq_by_cmp path_cmp x q ≡ eq_by_cmp path_cmp q x
tied_back x q = tied x q ∙ same_path-laws.symm x q ∙ sym (tied q x)

-- one more path
pub set_of-added : (old new : List Path) (x : Path) →
    ((q : Path) → list_any (eq_by_cmp path_cmp q) new ≡
    cond (eq_by_cmp path_cmp x q) true (list_any (eq_by_cmp path_cmp q) old)) →
    set_of new ≡ set.insert (set_of old) x
set_of-added old new x has =
    set.same_set path_cmp-total path_cmp-IsAntisymmetric _ _
    (λ q.
    sym (contains-set new q)
    ∙ has q
    ∙ either (eq_by_cmp path_cmp x q) (eq_by_cmp path_cmp q x) (list_any (eq_by_cmp path_cmp q) old) (tied_back x q)
    ∙ ap (λ b. eq_by_cmp path_cmp q x || b) (contains-set old q)
    ∙ sym (set.contains-insert path_cmp-total (set_of old) x q))

pub IsWithin-added : (old new : List Path) (x : Path) → IsWithin old → set.contains (set_of old) x ≡ false →
    set_of new ≡ set.insert (set_of old) x → length new ≡ length old + 1 → length old < MAX_SUMMARY_KEYS → IsWithin new
IsWithin-added old new x w fresh grown long room =
    let count : set.len (set_of new) ≡ cond false (set.len (set_of old)) (set.len (set_of old) + 1) =
    ap set.len grown ∙ set.len-insert path_cmp-total (set_of old) x
    ∙ ap (λ b. cond b (set.len (set_of old)) (set.len (set_of old) + 1)) fresh
    in
    let were : set.len (set_of old) ≡ length old = w.different in
    record { different = omega arith; limit = omega arith }

-- such a list has a set within the limit
pub IsWithin-limit : (paths : List Path) → IsWithin paths → set.len (set_of paths) ≤ MAX_SUMMARY_KEYS
IsWithin-limit paths w = omega (arith, w.different, w.limit)

pub IsWithin-none : IsWithin []
IsWithin-none = record { different = set.len-empty path_cmp; limit = omega arith }
