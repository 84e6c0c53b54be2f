-- What a table has answered of paths with one field more stays so.
use Rattle.std.proofs.Common.{◌≡◌, ℕ, zero, suc, Bool, true, false, cond, List, [], ◌∷◌, ◌++◌, slice_get, nat_eq}
use Rattle.std.proofs.Common.{Option, None, Some, refl, sym, ap, subst, ◌∙◌}
use Rattle.std.specs.Map.{lookup}
use Rattle.std.proofs.lemmas.Bool.{eqb-true, and_parts}
use Rattle.access_paths.specs.declared.path.Path.{Path}
use Rattle.access_paths.specs.declared.table.Extension.{Extension}
use Rattle.access_paths.specs.Paths.{extended}
use Rattle.access_paths.specs.Table.{GoesOn, IsLonger, IsLengthened}
use Rattle.access_paths.specs.Extensions.{AreExtensions, same_extension}
use Rattle.access_paths.proofs.Numbers.{interned-there, interned-goes_on, goes_on-same}

stays : (a rest : List Path) (n : ℕ) (p : Path) → slice_get a n ≡ Some p → slice_get (a ++ rest) n ≡ Some p
stays [] rest n p at = cc
stays (x ∷ a) rest zero p at = at
stays (x ∷ a) rest (suc n) p at = stays a rest n p at

-- each number keeps its path
pub path-stays : (a b : List Path) (n : ℕ) (p : Path) → GoesOn a b → slice_get a n ≡ Some p → slice_get b n ≡ Some p
path-stays a b n p h at = ap (λ (ps : List Path). slice_get ps n) h.1 ∙ stays a h.0 n p at

longer-stays : (a b : List Path) (q : Option Path) (answer : Option ℕ) → GoesOn a b → IsLonger a q answer a →
    IsLonger b q answer b
longer-stays a b None None h is = refl
longer-stays a b None (Some n) h is = absurd is
longer-stays a b (Some q) None h is = absurd is
longer-stays a b (Some q) (Some n) h is =
    let at : slice_get b n ≡ Some q = path-stays a b n q h is.0 in
    (at, sym (interned-there b q n at))

pub extensions-stay : (a b : List Path) (answers : List (Extension × Option ℕ)) → GoesOn a b →
    AreExtensions a answers → AreExtensions b answers
extensions-stay a b answers h are e answer found =
    let is = are e answer found in
    (is.0, path-stays a b e.front is.0 h is.1, longer-stays a b _ answer h is.2)

-- with the longer path in it, the table says so of itself
pub answered : (a b : List Path) (q : Option Path) (answer : Option ℕ) → IsLonger a q answer b →
    GoesOn a b × IsLonger b q answer b
answered a b None None is = (subst (GoesOn a) (sym is) (goes_on-same a), refl)
answered a b None (Some n) is = absurd is
answered a b (Some q) None is = absurd is
answered a b (Some q) (Some n) is =
    (subst (GoesOn a) (sym is.1) (interned-goes_on a q), (is.0, sym (interned-there b q n is.0)))

made : ℕ → ℕ → Extension
made front field = record { front = front; field = record { 0 = field } }

equal_extensions : (e d : Extension) → same_extension e d ≡ true → e ≡ d
unfolding made
equal_extensions e d same =
    let fronts : e.front ≡ d.front = eqb-true e.front d.front (and_parts (nat_eq e.front d.front) _ same).0 in
    let fields : e.field.0 ≡ d.field.0 =
    eqb-true e.field.0 d.field.0 (and_parts (nat_eq e.front d.front) _ same).1 in
    (λ i. made (fronts i) (fields i))

inside : (x y : Option ℕ) → Some x ≡ Some y → x ≡ y
inside x y h = cc

-- one more answer, which the table gives
pub extensions-added : (a b : List Path) (old new : List (Extension × Option ℕ)) (e : Extension) (answer : Option ℕ) →
    AreExtensions a old → IsLengthened a e.front e.field answer b →
    ((d : Extension) → lookup (same_extension d) new ≡
    cond (same_extension e d) (Some answer) (lookup (same_extension d) old)) →
    AreExtensions b new
extensions-added a b old new e answer are is updated d given found =
    by (same_extension e d) refl
  where
    on : GoesOn a b × IsLonger b (extended is.0 e.field) answer b
    on = answered a b (extended is.0 e.field) answer is.2

    there : (test : Bool) → same_extension e d ≡ test →
        cond test (Some answer) (lookup (same_extension d) old) ≡ Some given
    there test is_test =
        sym (updated d ∙ ap (λ t. cond t (Some answer) (lookup (same_extension d) old)) is_test) ∙ found

    by : (test : Bool) → same_extension e d ≡ test → IsLengthened b d.front d.field given b
    by true same =
        subst (λ (x : Extension). IsLengthened b x.front x.field given b) (equal_extensions e d same)
        (subst (λ (x : Option ℕ). IsLengthened b e.front e.field x b) (inside answer given (there true same))
        (is.0, path-stays a b e.front is.0 on.0 is.1, on.1))
    by false differs = extensions-stay a b old on.0 are d given (there false differs)
