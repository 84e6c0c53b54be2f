-- What is seen of the sets of ends in the code.
use Rattle.std.proofs.Common.{◌≡◌, ℕ, Bool, true, false, not, ◌&&◌, ◌||◌}
use Rattle.std.proofs.Common.{List, [], ◌∷◌, ◌++◌, map, cond, filter, nat_eq, refl}
use Rattle.std.proofs.Common.{suc, length, sym, ap, ◌∙◌, eqb-true, eq-eqb, IsTrue, ◌↔◌, arith}
use Rattle.std.specs.List.{list_any, list_all}
use Rattle.std.specs.Ordering.{nat_cmp, eq_by_cmp}
use Rattle.std.specs.Cmp.{unsigned_ties}
use Rattle.racer_base.proofs.Tests.{same_truth}
use Rattle.core_lowering_drafts.specs.Drafts.{End, Normal, Return, Exception, Exit, Ends, SameEnds, is_same, has}
use Rattle.core_lowering_drafts.specs.Drafts.{without, do_meet, is_final, is_exit, is_kept, final_ends, exits, on}
use Rattle.core_lowering_drafts.specs.EndSets.{flag, listed, is_nil}
use Rattle.core_lowering_drafts.proofs.Sets.{any-append, has-append, has-filter}

abbrev pub at : ℕ → List ℕ → Bool
at k xs = list_any (eq_by_cmp nat_cmp k) xs

-- ---- members

abbrev pub told : Bool → Bool → Bool → List ℕ → End → Bool
told n r t xs Normal = n
told n r t xs Return = r
told n r t xs Exception = t
told n r t xs (Exit k) = at k xs

exits-told : (xs : List ℕ) (e : End) → has (map Exit xs) e ≡ told false false false xs e
exits-told [] Normal = refl
exits-told [] Return = refl
exits-told [] Exception = refl
exits-told [] (Exit k) = refl
exits-told (x ∷ xs) Normal = exits-told xs Normal
exits-told (x ∷ xs) Return = exits-told xs Return
exits-told (x ∷ xs) Exception = exits-told xs Exception
exits-told (x ∷ xs) (Exit k) =
    ap (λ b. b || has (map Exit xs) (Exit k)) (unsigned_ties k x)
    ∙ ap (λ b. eq_by_cmp nat_cmp k x || b) (exits-told xs (Exit k))

throws-told : (t : Bool) (xs : List ℕ) (e : End) → has (flag t Exception ++ map Exit xs) e ≡ told false false t xs e
throws-told false xs e = exits-told xs e
throws-told true xs e = ap (λ b. is_same e Exception || b) (exits-told xs e) ∙ first e
  where
    first : (e : End) → (is_same e Exception || told false false false xs e) ≡ told false false true xs e
    first Normal = refl
    first Return = refl
    first Exception = refl
    first (Exit k) = refl

returns-told : (r t : Bool) (xs : List ℕ) (e : End) →
    has (flag r Return ++ (flag t Exception ++ map Exit xs)) e ≡ told false r t xs e
returns-told false t xs e = throws-told t xs e
returns-told true t xs e = ap (λ b. is_same e Return || b) (throws-told t xs e) ∙ first e
  where
    first : (e : End) → (is_same e Return || told false false t xs e) ≡ told false true t xs e
    first Normal = refl
    first Return = refl
    first Exception = refl
    first (Exit k) = refl

pub has-listed : (n r t : Bool) (xs : List ℕ) (e : End) → has (listed n r t xs) e ≡ told n r t xs e
has-listed false r t xs e = returns-told r t xs e
has-listed true r t xs e = ap (λ b. is_same e Normal || b) (returns-told r t xs e) ∙ first e
  where
    first : (e : End) → (is_same e Normal || told false r t xs e) ≡ told true r t xs e
    first Normal = refl
    first Return = refl
    first Exception = refl
    first (Exit k) = refl

-- ---- sets that are made of others

pub added-told : (n r t m s u : Bool) (xs ys zs : List ℕ) → ((k : ℕ) → at k zs ≡ (at k xs || at k ys)) →
    SameEnds (listed (n || m) (r || s) (t || u) zs) (listed n r t xs ++ listed m s u ys)
added-told n r t m s u xs ys zs h e =
    has-listed (n || m) (r || s) (t || u) zs e ∙ both e
    ∙ sym (has-append (listed n r t xs) (listed m s u ys) e
    ∙ ap (λ b. b || has (listed m s u ys) e) (has-listed n r t xs e)
    ∙ ap (λ b. told n r t xs e || b) (has-listed m s u ys e))
  where
    both : (e : End) → told (n || m) (r || s) (t || u) zs e ≡ (told n r t xs e || told m s u ys e)
    both Normal = refl
    both Return = refl
    both Exception = refl
    both (Exit k) = h k

pub and-true : (b : Bool) → b ≡ (b && true)
and-true true = refl
and-true false = refl

cond-and : (b c : Bool) → cond b false c ≡ (c && not b)
cond-and true true = refl
cond-and true false = refl
cond-and false true = refl
cond-and false false = refl

-- without an exit
pub left-out : (n r t : Bool) (xs zs : List ℕ) (k : ℕ) →
    ((j : ℕ) → at j zs ≡ cond (eq_by_cmp nat_cmp k j) false (at j xs)) →
    SameEnds (listed n r t zs) (without (Exit k) (listed n r t xs))
left-out n r t xs zs k h e =
    has-listed n r t zs e ∙ both e
    ∙ sym (has-filter (λ f. not (is_same (Exit k) f)) (listed n r t xs) e
    ∙ ap (λ b. b && not (is_same (Exit k) e)) (has-listed n r t xs e))
  where
    both : (e : End) → told n r t zs e ≡ (told n r t xs e && not (is_same (Exit k) e))
    both Normal = and-true n
    both Return = and-true r
    both Exception = and-true t
    both (Exit j) =
        h j ∙ cond-and (eq_by_cmp nat_cmp k j) (at j xs)
        ∙ ap (λ b. at j xs && not b) (sym (unsigned_ties k j))

turned : (i j : ℕ) → nat_eq i j ≡ nat_eq j i
turned i j = same_truth _ _ (λ h. eq-eqb j i (sym (eqb-true i j h))) (λ h. eq-eqb i j (sym (eqb-true j i h)))

cond-or : (b c : Bool) → cond b true c ≡ (b || c)
cond-or true c = refl
cond-or false c = refl

-- with an exit
pub put-in : (n r t : Bool) (xs zs : List ℕ) (k : ℕ) →
    ((j : ℕ) → at j zs ≡ cond (eq_by_cmp nat_cmp k j) true (at j xs)) →
    SameEnds (listed n r t zs) (Exit k ∷ listed n r t xs)
put-in n r t xs zs k h e =
    has-listed n r t zs e ∙ both e ∙ ap (λ b. is_same e (Exit k) || b) (sym (has-listed n r t xs e))
  where
    both : (e : End) → told n r t zs e ≡ (is_same e (Exit k) || told n r t xs e)
    both Normal = refl
    both Return = refl
    both Exception = refl
    both (Exit j) =
        h j ∙ cond-or (eq_by_cmp nat_cmp k j) (at j xs)
        ∙ ap (λ b. b || at j xs) (sym (unsigned_ties k j) ∙ turned k j)

-- ---- tests

any-flag : (test : End → Bool) (b : Bool) (e : End) → list_any test (flag b e) ≡ (b && test e)
any-flag test true e = or-false (test e)
  where
    or-false : (b : Bool) → (b || false) ≡ b
    or-false true = refl
    or-false false = refl
any-flag test false e = refl

any-throws : (test : End → Bool) (t : Bool) (xs : List ℕ) →
    list_any test (flag t Exception ++ map Exit xs) ≡ ((t && test Exception) || list_any test (map Exit xs))
any-throws test t xs =
    any-append test (flag t Exception) (map Exit xs)
    ∙ ap (λ b. b || list_any test (map Exit xs)) (any-flag test t Exception)

any-returns : (test : End → Bool) (r t : Bool) (xs : List ℕ) →
    list_any test (flag r Return ++ (flag t Exception ++ map Exit xs))
    ≡ ((r && test Return) || ((t && test Exception) || list_any test (map Exit xs)))
any-returns test r t xs =
    any-append test (flag r Return) (flag t Exception ++ map Exit xs)
    ∙ ap (λ b. b || list_any test (flag t Exception ++ map Exit xs)) (any-flag test r Return)
    ∙ ap (λ b. (r && test Return) || b) (any-throws test t xs)

pub any-listed : (test : End → Bool) (n r t : Bool) (xs : List ℕ) →
    list_any test (listed n r t xs)
    ≡ ((n && test Normal) || ((r && test Return) || ((t && test Exception) || list_any test (map Exit xs))))
any-listed test n r t xs =
    any-append test (flag n Normal) (flag r Return ++ (flag t Exception ++ map Exit xs))
    ∙ ap (λ b. b || list_any test (flag r Return ++ (flag t Exception ++ map Exit xs))) (any-flag test n Normal)
    ∙ ap (λ b. (n && test Normal) || b) (any-returns test r t xs)

any-exits : (n r t : Bool) (ys xs : List ℕ) →
    list_any (has (listed n r t ys)) (map Exit xs) ≡ list_any (λ k. at k ys) xs
any-exits n r t ys [] = refl
any-exits n r t ys (x ∷ xs) =
    ap (λ b. b || list_any (has (listed n r t ys)) (map Exit xs)) (has-listed n r t ys (Exit x))
    ∙ ap (λ b. at x ys || b) (any-exits n r t ys xs)

four : (n r t m m' s s' u u' x x' : Bool) → m ≡ m' → s ≡ s' → u ≡ u' → x ≡ x' →
    ((n && m) || ((r && s) || ((t && u) || x))) ≡ ((n && m') || ((r && s') || ((t && u') || x')))
four n r t m m' s s' u u' x x' e f g h =
    ap (λ b. (n && b) || ((r && s) || ((t && u) || x))) e
    ∙ ap (λ b. (n && m') || ((r && b) || ((t && u) || x))) f
    ∙ ap (λ b. (n && m') || ((r && s') || ((t && b) || x))) g
    ∙ ap (λ b. (n && m') || ((r && s') || ((t && u') || b))) h

pub meet-told : (n r t m s u : Bool) (xs ys : List ℕ) →
    ((n && m) || ((r && s) || ((t && u) || list_any (λ k. at k ys) xs)))
    ≡ do_meet (listed n r t xs) (listed m s u ys)
meet-told n r t m s u xs ys =
    let A = listed m s u ys in
    sym (any-listed (has A) n r t xs
    ∙ four n r t (has A Normal) m (has A Return) s (has A Exception) u (list_any (has A) (map Exit xs))
    (list_any (λ k. at k ys) xs) (has-listed m s u ys Normal) (has-listed m s u ys Return)
    (has-listed m s u ys Exception) (any-exits m s u ys xs))

pub none-asked : (xs : List ℕ) → list_any (λ k. at k []) xs ≡ false
none-asked [] = refl
none-asked (x ∷ xs) = none-asked xs

-- one more number, of those that are still to come
pub one-more : (k x : ℕ) (o n r : Bool) → n ≡ cond (eq_by_cmp nat_cmp x k) true o →
    (n || r) ≡ (o || (eq_by_cmp nat_cmp k x || r))
one-more k x o n r e =
    ap (λ b. b || r) (e ∙ ap (λ b. cond b true o) (sym (unsigned_ties x k) ∙ turned x k ∙ unsigned_ties k x))
    ∙ by o (eq_by_cmp nat_cmp k x)
  where
    by : (o b : Bool) → (cond b true o || r) ≡ (o || (b || r))
    by true true = refl
    by true false = refl
    by false true = refl
    by false false = refl

-- ---- kinds of ends

none-final : (xs : List ℕ) → filter is_final (map Exit xs) ≡ []
none-final [] = refl
none-final (x ∷ xs) = none-final xs

all-exits : (xs : List ℕ) → filter is_exit (map Exit xs) ≡ map Exit xs
all-exits [] = refl
all-exits (x ∷ xs) = ap (λ ys. Exit x ∷ ys) (all-exits xs)

none-normal : (xs : List ℕ) → filter (λ f. not (is_same Normal f)) (map Exit xs) ≡ map Exit xs
none-normal [] = refl
none-normal (x ∷ xs) = ap (λ ys. Exit x ∷ ys) (none-normal xs)

pub final-listed : (n r t : Bool) (xs : List ℕ) → listed false r t [] ≡ final_ends (listed n r t xs)
final-listed true true true xs = ap (λ ys. Return ∷ Exception ∷ ys) (sym (none-final xs))
final-listed true true false xs = ap (λ ys. Return ∷ ys) (sym (none-final xs))
final-listed true false true xs = ap (λ ys. Exception ∷ ys) (sym (none-final xs))
final-listed true false false xs = sym (none-final xs)
final-listed false true true xs = ap (λ ys. Return ∷ Exception ∷ ys) (sym (none-final xs))
final-listed false true false xs = ap (λ ys. Return ∷ ys) (sym (none-final xs))
final-listed false false true xs = ap (λ ys. Exception ∷ ys) (sym (none-final xs))
final-listed false false false xs = sym (none-final xs)

pub on-listed : (n r t : Bool) (xs : List ℕ) → listed true r t [] ≡ on (listed n r t xs)
on-listed n r t xs = ap (λ ys. Normal ∷ ys) (final-listed n r t xs)

pub exits-listed : (n r t : Bool) (xs : List ℕ) → listed false false false xs ≡ exits (listed n r t xs)
exits-listed true true true xs = sym (all-exits xs)
exits-listed true true false xs = sym (all-exits xs)
exits-listed true false true xs = sym (all-exits xs)
exits-listed true false false xs = sym (all-exits xs)
exits-listed false true true xs = sym (all-exits xs)
exits-listed false true false xs = sym (all-exits xs)
exits-listed false false true xs = sym (all-exits xs)
exits-listed false false false xs = sym (all-exits xs)

pub without-listed : (n r t : Bool) (xs : List ℕ) → listed false r t xs ≡ without Normal (listed n r t xs)
without-listed true true true xs = ap (λ ys. Return ∷ Exception ∷ ys) (sym (none-normal xs))
without-listed true true false xs = ap (λ ys. Return ∷ ys) (sym (none-normal xs))
without-listed true false true xs = ap (λ ys. Exception ∷ ys) (sym (none-normal xs))
without-listed true false false xs = sym (none-normal xs)
without-listed false true true xs = ap (λ ys. Return ∷ Exception ∷ ys) (sym (none-normal xs))
without-listed false true false xs = ap (λ ys. Return ∷ ys) (sym (none-normal xs))
without-listed false false true xs = ap (λ ys. Exception ∷ ys) (sym (none-normal xs))
without-listed false false false xs = sym (none-normal xs)

-- ---- whether there are others

pub goes-on-listed : (n r t : Bool) (xs : List ℕ) →
    (n || (r || not (is_nil xs))) ≡ list_any (λ e. not (is_same Exception e)) (listed n r t xs)
goes-on-listed true r t xs = refl
goes-on-listed false true t xs = refl
goes-on-listed false false true [] = refl
goes-on-listed false false true (x ∷ xs) = refl
goes-on-listed false false false [] = refl
goes-on-listed false false false (x ∷ xs) = refl

pub falls-listed : (n r t : Bool) (xs : List ℕ) →
    not (r || (t || not (is_nil xs))) ≡ list_all (is_same Normal) (listed n r t xs)
falls-listed true true t xs = refl
falls-listed false true t xs = refl
falls-listed true false true xs = refl
falls-listed false false true xs = refl
falls-listed true false false [] = refl
falls-listed false false false [] = refl
falls-listed true false false (x ∷ xs) = refl
falls-listed false false false (x ∷ xs) = refl

pub nil-truth : (b : Bool) (xs : List ℕ) → (IsTrue b ↔ (length xs ≡ 0)) → b ≡ is_nil xs
nil-truth true [] h = refl
nil-truth true (x ∷ xs) h = absurd (pos-or (length xs) (h.0 refl))
  where
    pos-or : (n : ℕ) → suc n ≡ 0 → ⊥
    pos-or n e = omega (arith, e)
nil-truth false [] h = h.1 refl
nil-truth false (x ∷ xs) h = refl

pub or-nothing : (b : Bool) → b ≡ (b || false)
or-nothing true = refl
or-nothing false = refl

pub meet-made : (n r t m s u : Bool) (xs ys : List ℕ) (bn br bt be e1 e2 e3 : Bool) → bn ≡ (n && m) → br ≡ (r && s) →
    bt ≡ (t && u) → be ≡ list_any (λ k. at k ys) xs → e1 ≡ (bt || be) → e2 ≡ (br || e1) → e3 ≡ (bn || e2) →
    e3 ≡ do_meet (listed n r t xs) (listed m s u ys)
meet-made n r t m s u xs ys bn br bt be e1 e2 e3 hn hr ht he h1 h2 h3 =
    let one : e1 ≡ ((t && u) || list_any (λ k. at k ys) xs) = h1 ∙ ap (λ b. b || be) ht ∙ ap (λ b. (t && u) || b) he in
    let two : e2 ≡ ((r && s) || ((t && u) || list_any (λ k. at k ys) xs)) =
    h2 ∙ ap (λ b. b || e1) hr ∙ ap (λ b. (r && s) || b) one in
    h3 ∙ ap (λ b. b || e2) hn ∙ ap (λ b. (n && m) || b) two ∙ meet-told n r t m s u xs ys

none-thrown : (xs : List ℕ) → filter (is_same Exception) (map Exit xs) ≡ []
none-thrown [] = refl
none-thrown (x ∷ xs) = none-thrown xs

pub thrown-listed : (n r t : Bool) (xs : List ℕ) →
    listed false false t [] ≡ filter (is_same Exception) (listed n r t xs)
thrown-listed true true true xs = ap (λ ys. Exception ∷ ys) (sym (none-thrown xs))
thrown-listed true true false xs = sym (none-thrown xs)
thrown-listed true false true xs = ap (λ ys. Exception ∷ ys) (sym (none-thrown xs))
thrown-listed true false false xs = sym (none-thrown xs)
thrown-listed false true true xs = ap (λ ys. Exception ∷ ys) (sym (none-thrown xs))
thrown-listed false true false xs = sym (none-thrown xs)
thrown-listed false false true xs = ap (λ ys. Exception ∷ ys) (sym (none-thrown xs))
thrown-listed false false false xs = sym (none-thrown xs)

-- behind a `finally` that ends normally
pub kept-told : (n r t : Bool) (xs : List ℕ) (k : ℕ) (F : Ends) →
    SameEnds F (without (Exit k) (listed n r false xs)) → SameEnds F (filter (is_kept k) (listed n r t xs))
kept-told n r t xs k F s e =
    s e ∙ has-filter (λ f. not (is_same (Exit k) f)) (listed n r false xs) e
    ∙ ap (λ b. b && not (is_same (Exit k) e)) (has-listed n r false xs e) ∙ by e
    ∙ sym (has-filter (is_kept k) (listed n r t xs) e ∙ ap (λ b. b && is_kept k e) (has-listed n r t xs e))
  where
    never : (b : Bool) → false ≡ (b && false)
    never true = refl
    never false = refl

    by : (e : End) → (told n r false xs e && not (is_same (Exit k) e)) ≡ (told n r t xs e && is_kept k e)
    by Normal = refl
    by Return = refl
    by Exception = never t
    by (Exit j) = refl

-- ---- sets without others

-- one number fewer, of those that are still to go
pub one-fewer : (k x : ℕ) (o n r : Bool) → n ≡ cond (eq_by_cmp nat_cmp x k) false o →
    (n && not r) ≡ (o && not (eq_by_cmp nat_cmp k x || r))
one-fewer k x o n r e =
    ap (λ b. b && not r) (e ∙ ap (λ b. cond b false o) (sym (unsigned_ties x k) ∙ turned x k ∙ unsigned_ties k x))
    ∙ by o (eq_by_cmp nat_cmp k x)
  where
    by : (o b : Bool) → (cond b false o && not r) ≡ (o && not (b || r))
    by true true = refl
    by true false = refl
    by false true = refl
    by false false = refl

pub none-fewer : (b : Bool) → b ≡ (b && not false)
none-fewer true = refl
none-fewer false = refl

pub all-left-out : (n r t m s u : Bool) (xs ys zs : List ℕ) → ((k : ℕ) → at k zs ≡ (at k xs && not (at k ys))) →
    SameEnds (listed (n && not m) (r && not s) (t && not u) zs)
    (filter (λ e. not (has (listed m s u ys) e)) (listed n r t xs))
all-left-out n r t m s u xs ys zs h e =
    has-listed (n && not m) (r && not s) (t && not u) zs e ∙ both e
    ∙ sym (has-filter (λ f. not (has (listed m s u ys) f)) (listed n r t xs) e
    ∙ ap (λ b. b && not (has (listed m s u ys) e)) (has-listed n r t xs e)
    ∙ ap (λ b. told n r t xs e && not b) (has-listed m s u ys e))
  where
    both : (e : End) → told (n && not m) (r && not s) (t && not u) zs e ≡ (told n r t xs e && not (told m s u ys e))
    both Normal = refl
    both Return = refl
    both Exception = refl
    both (Exit k) = h k

-- with the exception
pub thrown-put : (n r t m s u : Bool) (xs ys : List ℕ) →
    SameEnds (listed n r (t || u) xs) (listed n r t xs ++ filter (is_same Exception) (listed m s u ys))
thrown-put n r t m s u xs ys e =
    has-listed n r (t || u) xs e ∙ both e
    ∙ sym (has-append (listed n r t xs) (filter (is_same Exception) (listed m s u ys)) e
    ∙ ap (λ b. b || has (filter (is_same Exception) (listed m s u ys)) e) (has-listed n r t xs e)
    ∙ ap (λ b. told n r t xs e || b) (has-filter (is_same Exception) (listed m s u ys) e
    ∙ ap (λ b. b && is_same Exception e) (has-listed m s u ys e)))
  where
    never : (a b : Bool) → a ≡ (a || (b && false))
    never true b = refl
    never false true = refl
    never false false = refl

    both : (e : End) → told n r (t || u) xs e ≡ (told n r t xs e || (told m s u ys e && is_same Exception e))
    both Normal = never n m
    both Return = never r s
    both Exception = ap (λ b. t || b) (and-true u)
    both (Exit k) = never (at k xs) (at k ys)

pub some-listed : (n r t : Bool) (xs : List ℕ) →
    (n || (r || (t || not (is_nil xs)))) ≡ list_any (λ e. true) (listed n r t xs)
some-listed true r t xs = refl
some-listed false true t xs = refl
some-listed false false true xs = refl
some-listed false false false [] = refl
some-listed false false false (x ∷ xs) = refl
