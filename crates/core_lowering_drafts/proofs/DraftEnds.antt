-- How drafts end that stand one after another.
use Rattle.std.proofs.Common.{◌≡◌, ℕ, Bool, true, false, not, ◌&&◌, ◌||◌, List, [], ◌∷◌, ◌++◌, cond, refl, sym, ap}
use Rattle.std.proofs.Common.{subst, ◌∙◌}
use Rattle.core_lowering_drafts.specs.Drafts.{End, Normal, Return, Exception, Exit, Ends, SameEnds, is_same, has}
use Rattle.core_lowering_drafts.specs.Drafts.{without, ends_then, ends_within}
use Rattle.core_lowering_drafts.specs.Drafts.{Part, Loop, in_order, part_ends}
use Rattle.core_lowering_drafts.specs.EndSets.{listed}
use Rattle.core_lowering_drafts.specs.declared.draft.Part.{Part as CodePart}
use Rattle.core_lowering_drafts.specs.declared.draft.Piece.{Piece}
use Rattle.core_lowering_drafts.specs.Lists.{ends_of}
use Rattle.core_lowering_drafts.specs.Pieces.{all_parts, part_of, parts_of}
use Rattle.core_lowering_drafts.proofs.EndSets.{told, has-listed}
use Rattle.core_lowering_drafts.proofs.Sets.{has-append, has-filter}
use Rattle.core_lowering_drafts.proofs.SameEnds.{then-same}

pub same-trans : (A B C : Ends) → SameEnds A B → SameEnds B C → SameEnds A C
same-trans A B C s t e = s e ∙ t e

pub same-back : (A B : Ends) → SameEnds A B → SameEnds B A
same-back A B s e = sym (s e)

pub equal-same : (A B : Ends) → A ≡ B → SameEnds A B
equal-same A B i e = ap (λ X. has X e) i

-- ---- one after another

pub has-then : (A B : Ends) (e : End) →
    has (ends_then A B) e ≡ cond (has A Normal) ((has A e && not (is_same Normal e)) || has B e) (has A e)
has-then A B e = by (has A Normal)
  where
    by : (b : Bool) → has (cond b (without Normal A ++ B) A) e
        ≡ cond b ((has A e && not (is_same Normal e)) || has B e) (has A e)
    by true =
        has-append (without Normal A) B e ∙ ap (λ b. b || has B e) (has-filter (λ f. not (is_same Normal f)) A e)
    by false = refl

regrouped : (aN bN ae be nn c : Bool) →
    cond (cond aN ((aN && false) || bN) aN) (((cond aN ((ae && nn) || be) ae) && nn) || c)
    (cond aN ((ae && nn) || be) ae)
    ≡ cond aN ((ae && nn) || cond bN ((be && nn) || c) be) ae
regrouped false bN ae be nn c = refl
regrouped true false ae be nn c = refl
regrouped true true true true true c = refl
regrouped true true true true false c = refl
regrouped true true true false true c = refl
regrouped true true true false false c = refl
regrouped true true false true true c = refl
regrouped true true false true false c = refl
regrouped true true false false true c = refl
regrouped true true false false false c = refl

pub then-assoc : (A B C : Ends) → SameEnds (ends_then (ends_then A B) C) (ends_then A (ends_then B C))
then-assoc A B C e =
    let nn = not (is_same Normal e) in
    let AB = ends_then A B in
    has-then AB C e
    ∙ ap (λ b. cond b ((has AB e && nn) || has C e) (has AB e)) (has-then A B Normal)
    ∙ ap (λ b. cond (cond (has A Normal) ((has A Normal && false) || has B Normal) (has A Normal))
    ((b && nn) || has C e) b) (has-then A B e)
    ∙ regrouped (has A Normal) (has B Normal) (has A e) (has B e) nn (has C e)
    ∙ sym (has-then A (ends_then B C) e
    ∙ ap (λ b. cond (has A Normal) ((has A e && nn) || b) (has A e)) (has-then B C e))

pub ends-append : (xs ys : List Part) → SameEnds (ends_of (xs ++ ys)) (ends_then (ends_of xs) (ends_of ys))
ends-append [] ys = λ e. refl
ends-append (x ∷ xs) ys =
    let here = part_ends x in
    same-trans (ends_of (x ∷ xs ++ ys)) (ends_then here (ends_then (ends_of xs) (ends_of ys)))
    (ends_then (ends_of (x ∷ xs)) (ends_of ys))
    (then-same here here (ends_of (xs ++ ys)) (ends_then (ends_of xs) (ends_of ys)) (λ e. refl) (ends-append xs ys))
    (same-back (ends_then (ends_of (x ∷ xs)) (ends_of ys)) (ends_then here (ends_then (ends_of xs) (ends_of ys)))
    (then-assoc here (ends_of xs) (ends_of ys)))

-- ---- a body that is done at least once

last-case : (xN xe : Bool) → cond xN ((xe && true) || false) xe ≡ xe
last-case true true = refl
last-case true false = refl
last-case false xe = refl

pub then-nothing : (X : Ends) → SameEnds (ends_then X (Normal ∷ [])) X
then-nothing X e = has-then X (Normal ∷ []) e ∙ by e
  where
    normal : (b : Bool) → cond b ((b && false) || true) b ≡ b
    normal true = refl
    normal false = refl

    by : (e : End) → cond (has X Normal) ((has X e && not (is_same Normal e)) || has (Normal ∷ []) e) (has X e)
        ≡ has X e
    by Normal = normal (has X Normal)
    by Return = last-case (has X Normal) (has X Return)
    by Exception = last-case (has X Normal) (has X Exception)
    by (Exit k) = last-case (has X Normal) (has X (Exit k))

pub then-rounds : (X : Ends) → SameEnds (ends_then X (Normal ∷ X)) X
then-rounds X e = has-then X (Normal ∷ X) e ∙ by e
  where
    normal : (b : Bool) → cond b ((b && false) || true) b ≡ b
    normal true = refl
    normal false = refl

    other : (xN xe : Bool) → cond xN ((xe && true) || xe) xe ≡ xe
    other true true = refl
    other true false = refl
    other false xe = refl

    by : (e : End) → cond (has X Normal) ((has X e && not (is_same Normal e)) || has (Normal ∷ X) e) (has X e)
        ≡ has X e
    by Normal = normal (has X Normal)
    by Return = other (has X Normal) (has X Return)
    by Exception = other (has X Normal) (has X Exception)
    by (Exit k) = other (has X Normal) (has X (Exit k))

pub again-ends : (body : List Part) → SameEnds (ends_of body) (ends_of (body ++ Loop (in_order body) ∷ []))
again-ends body =
    let E = ends_of body in
    let rounds = ends_then (Normal ∷ E) (Normal ∷ []) in
    same-back (ends_of (body ++ Loop (in_order body) ∷ [])) E
    (same-trans (ends_of (body ++ Loop (in_order body) ∷ [])) (ends_then E rounds) E
    (ends-append body (Loop (in_order body) ∷ []))
    (same-trans (ends_then E rounds) (ends_then E (Normal ∷ E)) E
    (then-same E E rounds (Normal ∷ E) (λ e. refl) (then-nothing (Normal ∷ E))) (then-rounds E)))

-- one part is a sequence
pub one-ends : (part : Part) → SameEnds (part_ends part) (ends_of (part ∷ []))
one-ends part = same-back (ends_of (part ∷ [])) (part_ends part) (then-nothing (part_ends part))

-- ---- sets of the code

-- a set to which the normal end is added
pub normal-put : (n r t : Bool) (xs : List ℕ) → SameEnds (listed true r t xs) (Normal ∷ listed n r t xs)
normal-put n r t xs e =
    has-listed true r t xs e ∙ by e ∙ ap (λ b. is_same e Normal || b) (sym (has-listed n r t xs e))
  where
    by : (e : End) → told true r t xs e ≡ (is_same e Normal || told n r t xs e)
    by Normal = refl
    by Return = refl
    by Exception = refl
    by (Exit k) = refl

turned-or : (a b : Bool) → (a || b) ≡ ((b && true) || a)
turned-or true true = refl
turned-or true false = refl
turned-or false true = refl
turned-or false false = refl

-- what stands behind, and takes the ends in of what stands before, but the normal one
pub before-put : (m n r t : Bool) (xs : List ℕ) (F R : Ends) → has F Normal ≡ true → m ≡ has R Normal →
    SameEnds (listed n r t xs) (R ++ F) → SameEnds (listed m r t xs) (ends_then F R)
before-put m n r t xs F R goes_on same put e =
    has-listed m r t xs e ∙ by e
    ∙ sym (has-then F R e ∙ ap (λ b. cond b ((has F e && not (is_same Normal e)) || has R e) (has F e)) goes_on)
  where
    from : (e : End) → told n r t xs e ≡ (has R e || has F e)
    from e = sym (has-listed n r t xs e) ∙ put e ∙ has-append R F e

    normal : (b : Bool) → (b && false) ≡ false
    normal true = refl
    normal false = refl

    by : (e : End) → told m r t xs e ≡ ((has F e && not (is_same Normal e)) || has R e)
    by Normal = same ∙ ap (λ b. b || has R Normal) (sym (normal (has F Normal)))
    by Return = from Return ∙ turned-or (has R Return) (has F Return)
    by Exception = from Exception ∙ turned-or (has R Exception) (has F Exception)
    by (Exit k) = from (Exit k) ∙ turned-or (has R (Exit k)) (has F (Exit k))

-- where what stands before does not end normally, it is all
pub then-unmet : (F R : Ends) → has F Normal ≡ false → ends_then F R ≡ F
then-unmet F R h = ap (λ b. cond b (without Normal F ++ R) F) h

pub within-met : (k : ℕ) (B : Ends) → has B (Exit k) ≡ true → Normal ∷ without (Exit k) B ≡ ends_within k B
within-met k B h = sym (ap (λ b. cond b (Normal ∷ without (Exit k) B) B) h)

pub within-unmet : (k : ℕ) (B : Ends) → has B (Exit k) ≡ false → B ≡ ends_within k B
within-unmet k B h = sym (ap (λ b. cond b (Normal ∷ without (Exit k) B) B) h)

-- a piece before others
pub ends-next : (new first old : Ends) (p : Piece) (ps all : List Piece) → all ≡ p ∷ ps →
    SameEnds new (ends_then first old) → SameEnds first (ends_of (parts_of p)) → SameEnds old (ends_of (all_parts ps)) →
    SameEnds new (ends_of (all_parts all))
ends-next new first old p ps all is made here behind =
    let E = ends_of (parts_of p) in
    let R = ends_of (all_parts ps) in
    subst (λ (xs : List Piece). SameEnds new (ends_of (all_parts xs))) (sym is)
    (same-trans new (ends_then first old) (ends_of (all_parts (p ∷ ps))) made
    (same-trans (ends_then first old) (ends_then E R) (ends_of (all_parts (p ∷ ps)))
    (then-same first E old R here behind)
    (same-back (ends_of (all_parts (p ∷ ps))) (ends_then E R) (ends-append (parts_of p) (all_parts ps)))))

-- ---- arms

pub copy-same : (x B E : Ends) → x ≡ B → SameEnds B E → SameEnds x E
copy-same x B E i s e = ap (λ X. has X e) i ∙ s e

pub part-arm : (x mid : Ends) (P p : CodePart) → P ≡ p → SameEnds x mid → SameEnds mid (part_ends (part_of p)) →
    SameEnds x (part_ends (part_of P))
part-arm x mid P p is s t =
    subst (λ (q : CodePart). SameEnds x (part_ends (part_of q))) (sym is) (same-trans x mid (part_ends (part_of p)) s t)

pub piece-arm : (x : Ends) (P p : Piece) → P ≡ p → SameEnds x (ends_of (parts_of p)) →
    SameEnds x (ends_of (parts_of P))
piece-arm x P p is s = subst (λ (q : Piece). SameEnds x (ends_of (parts_of q))) (sym is) s

pub kept-ends : (seen_ends : Ends) (ps qs : List Part) → ps ≡ qs → SameEnds seen_ends (ends_of ps) →
    SameEnds seen_ends (ends_of qs)
kept-ends x ps qs is s = subst (λ (rs : List Part). SameEnds x (ends_of rs)) is s
