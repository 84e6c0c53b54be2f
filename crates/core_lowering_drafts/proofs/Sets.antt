-- Sets of ends: which ends are in what is made of them.
use Rattle.std.proofs.Common.{◌≡◌, ◌⊎◌, Bool, true, false, not, ◌&&◌, ◌||◌, List, [], ◌∷◌, ◌++◌, filter}
use Rattle.std.proofs.Common.{cond, refl, sym, ap, ◌∙◌, inl, inr, ⊎_elim, eqb-true, eq-eqb, true≢false}
use Rattle.std.specs.List.{list_any}
use Rattle.std.proofs.lemmas.Bool.{and_parts, and_from, or_left, or_right, or_cases}
use Rattle.racer_base.proofs.Tests.{same_truth}
use Rattle.core_lowering_drafts.specs.Drafts.{End, Normal, Return, Exception, Exit, Ends, is_same, has, without}
use Rattle.core_lowering_drafts.specs.Drafts.{do_meet}
use Rattle.core_lowering_drafts.specs.Drafts.{is_final, is_exit}

-- ---- ends

pub same_end : (e f : End) → is_same e f ≡ true → e ≡ f
same_end Normal Normal h = refl
same_end Normal Return h = cc
same_end Normal Exception h = cc
same_end Normal (Exit k) h = cc
same_end Return Normal h = cc
same_end Return Return h = refl
same_end Return Exception h = cc
same_end Return (Exit k) h = cc
same_end Exception Normal h = cc
same_end Exception Return h = cc
same_end Exception Exception h = refl
same_end Exception (Exit k) h = cc
same_end (Exit k) Normal h = cc
same_end (Exit k) Return h = cc
same_end (Exit k) Exception h = cc
same_end (Exit k) (Exit l) h = ap Exit (eqb-true k l h)

pub same_itself : (e : End) → is_same e e ≡ true
same_itself Normal = refl
same_itself Return = refl
same_itself Exception = refl
same_itself (Exit k) = eq-eqb k k refl

pub other_end : (e f : End) → (e ≡ f → ⊥) → is_same e f ≡ false
other_end e f other = by (is_same e f) refl
  where
    by : (b : Bool) → is_same e f ≡ b → b ≡ false
    by true h = absurd (other (same_end e f h))
    by false h = refl

-- ---- tests of members

regrouped : (a b c : Bool) → (a || (b || c)) ≡ ((a || b) || c)
regrouped true b c = refl
regrouped false b c = refl

one_filtered : {X : Type 0} (test : X → Bool) (x : X) (xs : List X) (k : Bool) (rest : Bool) →
    list_any test xs ≡ rest → list_any test (cond k (x ∷ xs) xs) ≡ ((test x && k) || rest)
one_filtered test x xs true rest e = ap (λ b. test x || b) e ∙ by (test x)
  where
    by : (t : Bool) → (t || rest) ≡ ((t && true) || rest)
    by true = refl
    by false = refl
one_filtered test x xs false rest e = e ∙ by (test x)
  where
    by : (t : Bool) → rest ≡ ((t && false) || rest)
    by true = refl
    by false = refl

pub any-append : {X : Type 0} (test : X → Bool) (xs ys : List X) →
    list_any test (xs ++ ys) ≡ (list_any test xs || list_any test ys)
any-append test [] ys = refl
any-append test (x ∷ xs) ys = ap (λ b. test x || b) (any-append test xs ys) ∙ regrouped (test x) _ _

pub any-filter : {X : Type 0} (test kept : X → Bool) (xs : List X) →
    list_any test (filter kept xs) ≡ list_any (λ x. test x && kept x) xs
any-filter test kept [] = refl
any-filter test kept (x ∷ xs) = one_filtered test x (filter kept xs) (kept x) _ (any-filter test kept xs)

pub any-found : (test : End → Bool) (xs : Ends) → list_any test xs ≡ true →
    (e : End) × (has xs e ≡ true) × (test e ≡ true)
any-found test [] h = absurd cc
any-found test (x ∷ xs) h = by (test x) refl (any-found test xs)
  where
    by : (b : Bool) → test x ≡ b → (list_any test xs ≡ true → (e : End) × (has xs e ≡ true) × (test e ≡ true)) →
        (e : End) × (has (x ∷ xs) e ≡ true) × (test e ≡ true)
    by true e rest = (x, or_left _ _ (same_itself x), e)
    by false e rest =
        let there : list_any test xs ≡ true = sym (ap (λ b. b || list_any test xs) e) ∙ h in
        let found = rest there in (found.0, or_right _ _ found.1, found.2)

pub any-from : (test : End → Bool) (xs : Ends) (e : End) → has xs e ≡ true → test e ≡ true → list_any test xs ≡ true
any-from test [] e h t = absurd cc
any-from test (x ∷ xs) e h t =
    ⊎_elim (λ here. or_left _ _ (ap test (sym (same_end e x here)) ∙ t))
    (λ there. or_right _ _ (any-from test xs e there t))
    (or_cases _ _ h)

-- ---- members

pub has-append : (xs ys : Ends) (e : End) → has (xs ++ ys) e ≡ (has xs e || has ys e)
has-append xs ys e = any-append (is_same e) xs ys

pub has-filter : (kept : End → Bool) (xs : Ends) (e : End) → has (filter kept xs) e ≡ (has xs e && kept e)
has-filter kept xs e = any-filter (is_same e) kept xs ∙ same_truth _ _ there back
  where
    both : End → Bool
    both f = is_same e f && kept f

    there : list_any (λ f. is_same e f && kept f) xs ≡ true → (has xs e && kept e) ≡ true
    there h =
        let found = any-found (λ f. is_same e f && kept f) xs h in
        let parts = and_parts _ _ found.2 in
        let is = same_end e found.0 parts.0 in
        and_from _ _ (ap (has xs) is ∙ found.1) (ap kept is ∙ parts.1)

    back : (has xs e && kept e) ≡ true → list_any (λ f. is_same e f && kept f) xs ≡ true
    back h =
        let parts = and_parts _ _ h in
        any-from (λ f. is_same e f && kept f) xs e parts.0 (and_from _ _ (same_itself e) parts.1)

pub do_meet-found : (xs ys : Ends) → do_meet xs ys ≡ true → (e : End) × (has xs e ≡ true) × (has ys e ≡ true)
do_meet-found xs ys h = any-found (has ys) xs h

pub do_meet-from : (xs ys : Ends) (e : End) → has xs e ≡ true → has ys e ≡ true → do_meet xs ys ≡ true
do_meet-from xs ys e h k = any-from (has ys) xs e h k

pub filter-parts : (kept : End → Bool) (xs : Ends) (e : End) → has (filter kept xs) e ≡ true →
    (has xs e ≡ true) × (kept e ≡ true)
filter-parts kept xs e h = and_parts _ _ (sym (has-filter kept xs e) ∙ h)

pub filter-from : (kept : End → Bool) (xs : Ends) (e : End) → has xs e ≡ true → kept e ≡ true →
    has (filter kept xs) e ≡ true
filter-from kept xs e h k = has-filter kept xs e ∙ and_from _ _ h k

pub append-cases : (xs ys : Ends) (e : End) → has (xs ++ ys) e ≡ true → (has xs e ≡ true) ⊎ (has ys e ≡ true)
append-cases xs ys e h = or_cases _ _ (sym (has-append xs ys e) ∙ h)

pub append-left : (xs ys : Ends) (e : End) → has xs e ≡ true → has (xs ++ ys) e ≡ true
append-left xs ys e h = has-append xs ys e ∙ or_left _ _ h

pub append-right : (xs ys : Ends) (e : End) → has ys e ≡ true → has (xs ++ ys) e ≡ true
append-right xs ys e h = has-append xs ys e ∙ or_right _ _ h

pub not-back : (b : Bool) → not b ≡ true → b ≡ false
not-back true h = absurd cc
not-back false h = refl

pub without-from : (d : End) (xs : Ends) (e : End) → has xs e ≡ true → (e ≡ d → ⊥) → has (without d xs) e ≡ true
without-from d xs e h other = filter-from (λ f. not (is_same d f)) xs e h (ap not (other_end d e (λ i. other (sym i))))

pub without-parts : (d : End) (xs : Ends) (e : End) → has (without d xs) e ≡ true →
    (has xs e ≡ true) × (e ≡ d → ⊥)
without-parts d xs e h =
    let parts = filter-parts (λ f. not (is_same d f)) xs e h in
    (parts.0, λ i. true≢false (sym (ap (is_same d) i ∙ same_itself d) ∙ not-back (is_same d e) parts.1))

pub only-one : (f e : End) → has (f ∷ []) e ≡ true → e ≡ f
only-one f e h = same_end e f (⊎_elim (λ here. here) (λ there. absurd cc) (or_cases _ _ h))

pub one-there : (f e : End) → e ≡ f → has (f ∷ []) e ≡ true
one-there f e i = or_left _ _ (ap (is_same e) (sym i) ∙ same_itself e)

pub first-there : (f e : End) (xs : Ends) → e ≡ f → has (f ∷ xs) e ≡ true
first-there f e xs i = or_left _ _ (ap (is_same e) (sym i) ∙ same_itself e)

pub first-or : (f e : End) (xs : Ends) → has (f ∷ xs) e ≡ true → (e ≡ f) ⊎ (has xs e ≡ true)
first-or f e xs h = ⊎_elim (λ here. inl (same_end e f here)) (λ there. inr there) (or_cases _ _ h)

pub rest-there : (f e : End) (xs : Ends) → has xs e ≡ true → has (f ∷ xs) e ≡ true
rest-there f e xs h = or_right _ _ h

-- ---- kinds of ends

pub is_normal : (e : End) → (e ≡ Normal) ⊎ (e ≡ Normal → ⊥)
is_normal Normal = inl refl
is_normal Return = inr (λ h. cc)
is_normal Exception = inr (λ h. cc)
is_normal (Exit k) = inr (λ h. cc)

pub kind-of : (e : End) → (e ≡ Normal) ⊎ ((is_final e ≡ true) ⊎ (is_exit e ≡ true))
kind-of Normal = inl refl
kind-of Return = inr (inl refl)
kind-of Exception = inr (inl refl)
kind-of (Exit k) = inr (inr refl)

pub final-ends : (e : End) → is_final e ≡ true → e ≡ Normal → ⊥
final-ends e h i = true≢false (sym h ∙ ap is_final i)

pub exit-leaves : (e : End) → is_exit e ≡ true → e ≡ Normal → ⊥
exit-leaves e h i = true≢false (sym h ∙ ap is_exit i)

pub same-or : (e f : End) → (e ≡ f) ⊎ (e ≡ f → ⊥)
same-or e f = by (is_same e f) refl
  where
    by : (b : Bool) → is_same e f ≡ b → (e ≡ f) ⊎ (e ≡ f → ⊥)
    by true h = inl (same_end e f h)
    by false h = inr (λ i. true≢false (sym (same_itself e) ∙ ap (is_same e) i ∙ h))

-- ---- a choice of two

pub chosen-both : {A : Type 0} (test : A → Bool) (b : Bool) (x y : A) → test x ≡ true → test y ≡ true →
    test (cond b x y) ≡ true
chosen-both test true x y h k = h
chosen-both test false x y h k = k
