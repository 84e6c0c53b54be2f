-- Sets of paths, and what is given of their paths.
use Rattle.std.proofs.Common.{◌≡◌, ℕ, ◌+◌, ◌<◌, ◌≤◌, Bool, true, false, not, ◌&&◌, ◌||◌, List, [], ◌∷◌}
use Rattle.std.proofs.Common.{Some, None, map, take, get_or, length, refl, sym, ap, ◌∙◌}
use Rattle.std.specs.Prelude.{Option, is_some, option_map}
use Rattle.std.specs.FinSet as set
use Rattle.std.specs.List.{Contains, list_all, list_any}
use Rattle.std.specs.Ordering.{eq_by_cmp}
use Rattle.std.proofs.lemmas.Bool.{and_from, and_parts, both_ways, false_from_ne_true, false≢true, true≢false}
use Rattle.std.proofs.lemmas.List.{take_all}
use Rattle.std.proofs.lemmas.Option.{none-some, same_Some}
use Rattle.racer_base.proofs.Tests.{same_truth}
use Rattle.access_paths.specs.declared.path.Path.{Path}
use Rattle.access_paths.specs.Order.{PathSet, path_cmp}
use Rattle.access_paths.specs.Paths.{same_path}
use Rattle.access_paths.specs.Same.{equal_of_same, path_cmp-IsAntisymmetric, path_cmp-total, same_path-itself}
use Rattle.access_paths.specs.Same.{same_path-laws, tied}
use Rattle.core_code.specs.Core.{Core}
use Rattle.core_code.proofs.Members.{each, in_tail, passes, passing}
use Rattle.core_code.proofs.Ranks.{in_head}
use Rattle.transfer_ties.specs.declared.partners.Ties.{Ties}
use Rattle.transfer_ties.specs.Outcomes.{same_paths, ties_paths}
use Rattle.transfer_ties.specs.Names.{is_partner, is_set, same_sets, set_in, set_of}
use Rattle.transfer_ties.specs.Partners.{AreTies, all_given, path_in, paths_in}
use Rattle.transfer_ties.proofs.Given.{all_images, any_images, given_next, images, is_given, none_given}
use Rattle.transfer_ties.proofs.Tied.{path_tells}

-- ---- lists of paths with one set

abbrev set_from : List Path → PathSet
set_from ps = set.from_list ps

within : (test : Path → Bool) (ps qs : List Path) → set_from ps ≡ set_from qs → list_any test ps ≡ true →
    list_any test qs ≡ true
within test ps qs same one =
    let found = passing test ps one in
    let here : list_any (eq_by_cmp path_cmp found.0) qs ≡ true =
    sym (set.contains-from_list path_cmp-total qs found.0)
    ∙ ap (λ (s : PathSet). set.contains s found.0) (sym same)
    ∙ set.contains-from_list path_cmp-total ps found.0
    ∙ passes (eq_by_cmp path_cmp found.0) ps found.0 found.1 (tied found.0 found.0 ∙ same_path-itself found.0) in
    let other = passing (eq_by_cmp path_cmp found.0) qs here in
    let equal = equal_of_same found.0 other.0 (sym (tied found.0 other.0) ∙ other.2) in
    passes test qs other.0 other.1 (ap test (sym equal) ∙ found.2)

any_same : (test : Path → Bool) (ps qs : List Path) → set_from ps ≡ set_from qs → list_any test ps ≡ list_any test qs
any_same test ps qs same =
    same_truth (list_any test ps) (list_any test qs) (within test ps qs same) (within test qs ps (sym same))

none_fails : {A : Type 0} (test : A → Bool) (xs : List A) → list_all test xs ≡ not (list_any (λ x. not (test x)) xs)
none_fails test [] = refl
none_fails test (x ∷ xs) =
    elim (test x) as (λ b. (b && list_all test xs) ≡ not (not b || list_any (λ y. not (test y)) xs))
    [ true ↦ none_fails test xs | false ↦ refl ]

all_same : (test : Path → Bool) (ps qs : List Path) → set_from ps ≡ set_from qs → list_all test ps ≡ list_all test qs
all_same test ps qs same =
    none_fails test ps
    ∙ ap not (any_same (λ p. not (test p)) ps qs same)
    ∙ sym (none_fails test qs)

from_items : (s : PathSet) → set_from (set.items s) ≡ s
from_items s =
    set.same_set path_cmp-total path_cmp-IsAntisymmetric _ _
    (λ q. set.contains-from_list path_cmp-total (set.items s) q ∙ sym (set.contains-items s q))

-- ---- what is given of each

module _ (f : Path → Option Path) where
  abbrev given : List Path → Option PathSet
  given ps = option_map set_from (all_given (map f ps))

  -- this is given of a path
  abbrev gives : Path → Path → Bool
  gives z p = is_partner (λ (y x : Path). eq_by_cmp path_cmp x y) (f p) z

  contains_given : (ps made : List Path) → all_given (map f ps) ≡ Some made → (z : Path) →
      set.contains (set_from made) z ≡ list_any (gives z) ps
  contains_given ps made e z =
      set.contains-from_list path_cmp-total made z
      ∙ sym (any_images f (gives z) (eq_by_cmp path_cmp z)
      (λ p y h. ap (λ (o : Option Path). is_partner (λ (w x : Path). eq_by_cmp path_cmp x w) o z) h)
      ps made (images f ps made e))

  same_given_sets : (ps qs : List Path) → set_from ps ≡ set_from qs → (left right : Option (List Path)) →
      all_given (map f ps) ≡ left → all_given (map f qs) ≡ right → is_some left ≡ is_some right →
      option_map set_from left ≡ option_map set_from right
  same_given_sets ps qs same None None e g h = refl
  same_given_sets ps qs same None (Some b) e g h = absurd (false≢true h)
  same_given_sets ps qs same (Some a) None e g h = absurd (true≢false h)
  same_given_sets ps qs same (Some a) (Some b) e g h =
      ap Some (set.same_set path_cmp-total path_cmp-IsAntisymmetric _ _
      (λ z. contains_given ps a e z ∙ any_same (gives z) ps qs same ∙ sym (contains_given qs b g z)))

  given_of_same : (ps qs : List Path) → set_from ps ≡ set_from qs → given ps ≡ given qs
  given_of_same ps qs same =
      same_given_sets ps qs same (all_given (map f ps)) (all_given (map f qs)) refl refl
      (is_given f ps ∙ all_same (λ p. is_some (f p)) ps qs same ∙ sym (is_given f qs))

-- the paths of a set, in whatever order
pub set_in_of : (ties : Ties) (ps : List Path) (s : PathSet) → set.from_list ps ≡ s → set_of ties ps ≡ set_in ties s
set_in_of ties ps s e = given_of_same (path_in ties) ps (set.items s) (e ∙ sym (from_items s))

-- one more path
pub set_next : (ties : Ties) (paths : List Path) (i : ℕ) (one p : Path) (old new : PathSet) → i < length paths →
    one ≡ get_or paths i one → path_in ties one ≡ Some p → set_of ties (take i paths) ≡ Some old →
    new ≡ set.insert old p → set_of ties (take (i + 1) paths) ≡ Some new
set_next ties paths i one p old new within is gives before put =
    more (paths_in ties (take i paths)) refl before
  where
    more : (o : Option (List Path)) → paths_in ties (take i paths) ≡ o → option_map set_from o ≡ Some old →
        set_of ties (take (i + 1) paths) ≡ Some new
    more None e h = absurd (none-some old h)
    more (Some made) e h =
        ap (option_map set_from) (given_next (path_in ties) paths i one p made within is gives e)
        ∙ ap Some (set.from_list_push path_cmp-total path_cmp-IsAntisymmetric made p
        ∙ ap (λ (s : PathSet). set.insert s p) (same_Some (set_from made) old h) ∙ sym put)

pub set_all : (ties : Ties) (paths : List Path) (i : ℕ) (made : PathSet) → length paths ≤ i →
    set_of ties (take i paths) ≡ Some made → set_of ties paths ≡ Some made
set_all ties paths i made past before = ap (set_of ties) (sym (take_all i paths past)) ∙ before

pub no_set : (ties : Ties) (paths : List Path) (i : ℕ) (one : Path) → i < length paths → one ≡ get_or paths i one →
    path_in ties one ≡ None → set_of ties paths ≡ None
no_set ties paths i one within is none =
    ap (option_map set_from) (none_given (path_in ties) paths i one within is none)

-- a set whose paths stay
pub set_stays : (ties : Ties) (ps : List Path) (s : PathSet) → set.from_list ps ≡ s → paths_in ties ps ≡ Some ps →
    set_in ties s ≡ Some s
set_stays ties ps s e stay = sym (set_in_of ties ps s e) ∙ ap (option_map set_from) stay ∙ ap Some e

-- a path that is there
pub present : (s : PathSet) (p : Path) → set.contains s p ≡ true → s ≡ set.insert s p
present s p there =
    set.same_set path_cmp-total path_cmp-IsAntisymmetric _ _
    (λ q. sym (set.contains-insert path_cmp-total s p q ∙ already q (eq_by_cmp path_cmp q p) refl))
  where
    already : (q : Path) (b : Bool) → eq_by_cmp path_cmp q p ≡ b → (b || set.contains s q) ≡ set.contains s q
    already q true e =
        let same : q ≡ p = equal_of_same q p (sym (tied q p) ∙ e) in
        sym (ap (set.contains s) same ∙ there)
    already q false e = refl

-- ---- two sets

pub none_any : {A : Type 0} (test : A → Bool) (xs : List A) → ((x : A) → test x ≡ false) → list_any test xs ≡ false
none_any test [] none = refl
none_any test (x ∷ xs) none = ap (λ b. b || list_any test xs) (none x) ∙ none_any test xs none

same_any : {A : Type 0} (some others : A → Bool) (xs : List A) → ((x : A) → some x ≡ others x) →
    list_any some xs ≡ list_any others xs
same_any some others [] same = refl
same_any some others (x ∷ xs) same = λ i. same x i || same_any some others xs same i

same_all : {A : Type 0} (some others : A → Bool) (xs : List A) → ((x : A) → some x ≡ others x) →
    list_all some xs ≡ list_all others xs
same_all some others [] same = refl
same_all some others (x ∷ xs) same = λ i. same x i && same_all some others xs same i

fewer_all : {A : Type 0} (some others : A → Bool) (xs : List A) → ((x : A) → some x ≡ true → others x ≡ true) →
    list_all some xs ≡ true → list_all others xs ≡ true
fewer_all some others [] more h = refl
fewer_all some others (x ∷ xs) more h =
    let parts = and_parts (some x) (list_all some xs) h in
    and_from (others x) (list_all others xs) (more x parts.0) (fewer_all some others xs more parts.1)

all_by : {A : Type 0} (test : A → Bool) (xs : List A) → ((x : A) → Contains xs x → test x ≡ true) →
    list_all test xs ≡ true
all_by test [] each = refl
all_by test (x ∷ xs) each =
    and_from (test x) (list_all test xs) (each x (in_head x xs))
    (all_by test xs (λ y there. each y (in_tail x xs y there)))

subset_is : (s t : PathSet) → list_all (set.contains t) (set.items s) ≡ set.is_subset s t
subset_is s t =
    same_truth (list_all (set.contains t) (set.items s)) (set.is_subset s t)
    (λ h. set.contains-is_subset path_cmp-total s t
    (λ q has.
    let found = passing (eq_by_cmp path_cmp q) (set.items s) (sym (set.contains-items s q) ∙ has) in
    let equal = equal_of_same q found.0 (sym (tied q found.0) ∙ found.2) in
    ap (set.contains t) equal ∙ each (set.contains t) (set.items s) found.0 h found.1))
    (λ h. all_by (set.contains t) (set.items s)
    (λ x there. set.is_subset-contains path_cmp-total s t h x
    (set.contains-items s x
    ∙ passes (eq_by_cmp path_cmp x) (set.items s) x there (tied x x ∙ same_path-itself x))))

-- each path of a list that has a set's paths is in another
pub subset_of : (ps : List Path) (s t : PathSet) → set.from_list ps ≡ s →
    list_all (set.contains t) ps ≡ set.is_subset s t
subset_of ps s t e = all_same (set.contains t) ps (set.items s) (e ∙ sym (from_items s)) ∙ subset_is s t

module _ (f : Path → Option Path) (tie : Path → Path → Bool)
    (tells : (a b : Path) → is_partner same_path (f a) b ≡ tie a b) where
  -- where this is given of a path, it alone is the same
  tie_is : (a g b : Path) → f a ≡ Some g → tie a b ≡ eq_by_cmp path_cmp g b
  tie_is a g b e = sym (tells a b) ∙ ap (λ (o : Option Path). is_partner same_path o b) e ∙ sym (tied g b)

  tie_back : (a g b : Path) → f a ≡ Some g → tie a b ≡ eq_by_cmp path_cmp b g
  tie_back a g b e = tie_is a g b e ∙ tied g b ∙ same_path-laws.symm g b ∙ sym (tied b g)

  untied : (a : Path) (bs : List Path) → f a ≡ None → list_any (tie a) bs ≡ false
  untied a bs e = none_any (tie a) bs (λ b. sym (tells a b) ∙ ap (λ (o : Option Path). is_partner same_path o b) e)

  abbrev left_in : List Path → List Path → Bool
  left_in xs bs = list_all (λ a. list_any (tie a) bs) xs

  abbrev right_in : List Path → List Path → Bool
  right_in xs bs = list_all (λ b. list_any (λ a. tie a b) xs) bs

  has_given : (a : Path) (bs : List Path) → list_any (tie a) bs ≡ true → is_some (f a) ≡ true
  has_given a bs h =
      elim (f a) as (λ o. f a ≡ o → is_some o ≡ true) [
        | None ↦ λ e. absurd (both_ways (list_any (tie a) bs) (untied a bs e) h)
        | Some g ↦ λ e. refl
      ] refl

  by_given : (xs : List Path) (t : PathSet) (o : Option (List Path)) → all_given (map f xs) ≡ o →
      is_partner same_sets (option_map set_from o) t ≡ (left_in xs (set.items t) && right_in xs (set.items t))
  by_given xs t None e =
      sym (ap (λ b. b && right_in xs (set.items t))
      (false_from_ne_true (left_in xs (set.items t))
      (λ h. both_ways (list_all (λ a. is_some (f a)) xs) (sym (is_given f xs) ∙ ap is_some e)
      (fewer_all (λ a. list_any (tie a) (set.items t)) (λ a. is_some (f a)) xs
      (λ a. has_given a (set.items t)) h))))
  by_given xs t (Some made) e =
      let all = images f xs made e in
      let left : left_in xs (set.items t) ≡ set.is_subset (set_from made) t =
      all_images f (λ a. list_any (tie a) (set.items t)) (set.contains t)
      (λ a g h. same_any (tie a) (eq_by_cmp path_cmp g) (set.items t) (λ b. tie_is a g b h)
      ∙ sym (set.contains-items t g)) xs made all
      ∙ all_same (set.contains t) made (set.items (set_from made)) (sym (from_items (set_from made)))
      ∙ subset_is (set_from made) t in
      let right : right_in xs (set.items t) ≡ set.is_subset t (set_from made) =
      same_all (λ b. list_any (λ a. tie a b) xs) (set.contains (set_from made)) (set.items t)
      (λ b. any_images f (λ a. tie a b) (eq_by_cmp path_cmp b) (λ a g h. tie_back a g b h) xs made all
      ∙ sym (set.contains-from_list path_cmp-total made b))
      ∙ subset_is t (set_from made) in
      sym (λ i. left i && right i)

-- the set that is given is the one that is the same
pub set_tells : (p q : Core) (ties : Ties) → AreTies p q ties → (s t : PathSet) →
    is_set (set_in ties s) t ≡ same_paths p q s t
set_tells p q ties are s t =
    by_given (path_in ties) (ties_paths p q) (path_tells p q ties are) (set.items s) t
    (paths_in ties (set.items s)) refl
