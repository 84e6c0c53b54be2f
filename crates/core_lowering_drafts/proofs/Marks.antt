-- Code of items one after another, and choices that are open to the right.
use Rattle.std.proofs.Common.{◌≡◌, ℕ, Bool, true, false, ◌&&◌, ◌||◌, List}
use Rattle.std.proofs.Common.{[], ◌∷◌, ◌++◌, length, map, take, drop, cond, refl}
use Rattle.std.proofs.Common.{sym, ap, ◌∙◌, append_assoc}
use Rattle.std.proofs.Math.Seq.{take-append_seam, drop-append_seam}
use Rattle.core_lowering_drafts.specs.declared.ahead.Behind.{Behind}
use Rattle.core_lowering_drafts.specs.declared.ahead.Behind.TheVariants as behind
use Rattle.core_lowering_drafts.specs.declared.ahead.Way.TheVariants as way
use Rattle.core_lowering_drafts.specs.declared.ahead.Fork.{Fork}
use Rattle.core_lowering_drafts.specs.declared.ahead.Item.{Item}
use Rattle.core_lowering_drafts.specs.Drafts.{Ends, Normal, SameEnds, Part, do_meet, exits, has, on}
use Rattle.core_lowering_drafts.specs.Drafts.{without, part_ends}
use Rattle.core_lowering_drafts.specs.Only.{Code, Rest, Last, Unmet, Met, are_met, before, code_in, fork}
use Rattle.core_lowering_drafts.specs.Only.{only_part, is_met}
use Rattle.core_lowering_drafts.specs.Ahead.{item_of, closed, closed_one, done_by, rest_of, shape, shape_before, shapes}
use Rattle.core_lowering_drafts.specs.Ahead.{some_rest, way_by, way_met, way_on}
use Rattle.core_lowering_drafts.proofs.SameEnds.{meet-same}

-- ---- parts that are made of those that were written last

pub here-taken : (W B : Code) → take (length W) (W ++ B) ≡ W
here-taken W B = take-append_seam W B

pub here-left : (W B : Code) → drop (length W) (W ++ B) ≡ B
here-left W B = drop-append_seam W B

abbrev forked_at : ℕ → ℕ → Code → Code
forked_at l r code = take l (take r code) ++ fork (drop l (take r code)) (drop r code)

pub closed-here : (W E X : Code) → forked_at (length W) (length (W ++ E)) ((W ++ E) ++ X) ≡ W ++ fork E X
closed-here W E X =
    let l = length W in
    let r = length (W ++ E) in
    let whole = (W ++ E) ++ X in
    ap (λ t. take l t ++ fork (drop l t) (drop r whole)) (take-append_seam (W ++ E) X)
    ∙ ap (λ t. t ++ fork (drop l (W ++ E)) (drop r whole)) (take-append_seam W E)
    ∙ ap (λ t. W ++ fork t (drop r whole)) (drop-append_seam W E)
    ∙ ap (λ t. W ++ fork E t) (drop-append_seam (W ++ E) X)

-- two sides that were written one after the other
pub forked-here : (c0 c1 c2 c3 c4 L R : Code) (first second : ℕ) → c1 ≡ c0 → first ≡ length c1 → c2 ≡ c1 ++ L →
    second ≡ length c2 → c3 ≡ c2 ++ R →
    c4 ≡ take first (take second c3) ++ fork (drop first (take second c3)) (drop second c3) → c4 ≡ c0 ++ fork L R
forked-here c0 c1 c2 c3 c4 L R first second e1 e2 e3 e4 e5 e6 =
    let with-left : c2 ≡ c0 ++ L = e3 ∙ ap (λ x. x ++ L) e1 in
    let with-right : c3 ≡ (c0 ++ L) ++ R = e5 ∙ ap (λ x. x ++ R) with-left in
    let f : first ≡ length c0 = e2 ∙ ap (λ (x : Code). length x) e1 in
    let s : second ≡ length (c0 ++ L) = e4 ∙ ap (λ (x : Code). length x) with-left in
    e6 ∙ ap (λ x. forked_at x second c3) f ∙ ap (λ x. forked_at (length c0) x c3) s
    ∙ ap (λ x. forked_at (length c0) (length (c0 ++ L)) x) with-right ∙ closed-here c0 L R

-- one that was written
pub wrapped-here : (wrap : Code → Code) (c0 c1 c2 c3 B : Code) (at : ℕ) → c1 ≡ c0 → at ≡ length c1 → c2 ≡ c1 ++ B →
    c3 ≡ take at c2 ++ wrap (drop at c2) → c3 ≡ c0 ++ wrap B
wrapped-here wrap c0 c1 c2 c3 B at e1 e2 e3 e4 =
    let with-body : c2 ≡ c0 ++ B = e3 ∙ ap (λ x. x ++ B) e1 in
    let f : at ≡ length c0 = e2 ∙ ap (λ (x : Code). length x) e1 in
    e4 ∙ ap (λ x. take x c2 ++ wrap (drop x c2)) f
    ∙ ap (λ x. take (length c0) x ++ wrap (drop (length c0) x)) with-body
    ∙ ap (λ t. t ++ wrap (drop (length c0) (c0 ++ B))) (take-append_seam c0 B)
    ∙ ap (λ t. c0 ++ wrap t) (drop-append_seam c0 B)

-- one behind another
pub two-here : (c0 c1 c2 A B : Code) → c1 ≡ c0 ++ A → c2 ≡ c1 ++ B → c2 ≡ c0 ++ (A ++ B)
two-here c0 c1 c2 A B e f = f ∙ ap (λ x. x ++ B) e ∙ append_assoc c0 A B

-- ---- choices that stay open

pub closed-push : (marks : List Fork) (m : Fork) (code : Code) →
    closed (marks ++ m ∷ []) code ≡ closed marks (closed_one m code)
closed-push [] m code = refl
closed-push (x ∷ marks) m code = ap (closed_one x) (closed-push marks m code)

-- ---- what is written of a part

way-at : (part : Ends → Code) (E A : Ends) (rest : Rest) (met leaves goes : Bool) →
    are_met E rest A ≡ met → do_meet E (exits A) ≡ leaves → do_meet E (on A) ≡ goes →
    code_in (cond (are_met E rest A) (Met (before part E A rest)) Unmet)
    ≡ done_by (cond (are_met E rest A) (way_met E (shape rest) A) way.Nothing) part A (code_in rest)
way-at part E A rest false leaves goes e f g =
    ap (λ b. code_in (cond b (Met (before part E A rest)) Unmet)) e
    ∙ sym (ap (λ b. done_by (cond b (way_met E (shape rest) A) way.Nothing) part A (code_in rest)) e)
way-at part E A Last true leaves goes e f g =
    ap (λ b. code_in (cond b (Met (before part E A Last)) Unmet)) e
    ∙ sym (ap (λ b. done_by (cond b (way_met E (shape Last) A) way.Nothing) part A []) e)
way-at part E A Unmet true leaves goes e f g =
    ap (λ b. code_in (cond b (Met (before part E A Unmet)) Unmet)) e
    ∙ sym (ap (λ b. done_by (cond b (way_met E (shape Unmet) A) way.Nothing) part A []) e)
way-at part E A (Met code) true leaves goes e f g =
    ap (λ b. code_in (cond b (Met (before part E A (Met code))) Unmet)) e ∙ by leaves goes f g
    ∙ sym (ap (λ b. done_by (cond b (way_met E (shape (Met code)) A) way.Nothing) part A code) e)
  where
    made : Bool → Bool → Code
    made x y =
        cond x (cond y (fork (part (exits A)) (part (on A) ++ code)) (part (exits A))) (part (on A) ++ code)

    done : Bool → Bool → Code
    done x y = done_by (cond x (cond y way.Both way.Exits) way.On) part A code

    same : (x y : Bool) → made x y ≡ done x y
    same true true = refl
    same true false = refl
    same false y = refl

    by : (x y : Bool) → do_meet E (exits A) ≡ x → do_meet E (on A) ≡ y →
        made (do_meet E (exits A)) (do_meet E (on A)) ≡ done (do_meet E (exits A)) (do_meet E (on A))
    by x y f g = same (do_meet E (exits A)) (do_meet E (on A))

some-met : (E A : Ends) (rest : Rest) → are_met E rest A ≡ are_met E (some_rest (shape rest)) A
some-met E A Last = refl
some-met E A Unmet = refl
some-met E A (Met code) = refl

-- the code of a part before what stands behind it
pub way-right : (part : Part) (parts : List Part) (A : Ends) →
    code_in (rest_of (part ∷ parts) A)
    ≡ done_by (way_by (part_ends part) (shape (rest_of parts A)) A) (only_part part) A (code_in (rest_of parts A))
way-right part parts A =
    let E = part_ends part in
    let rest = rest_of parts A in
    way-at (only_part part) E A rest (are_met E rest A) (do_meet E (exits A)) (do_meet E (on A)) refl refl refl
    ∙ ap (λ b. done_by (cond b (way_met E (shape rest) A) way.Nothing) (only_part part) A (code_in rest))
    (some-met E A rest)

pub shape-right : (part : Part) (parts : List Part) (A : Ends) →
    shape (rest_of (part ∷ parts) A) ≡ shape_before (part_ends part) (shape (rest_of parts A)) A
shape-right part parts A =
    let E = part_ends part in
    let rest = rest_of parts A in
    by (are_met E rest A) (before (only_part part) E A rest)
    ∙ ap (λ b. cond b behind.Met behind.Unmet) (some-met E A rest)
  where
    by : (b : Bool) (code : Code) → shape (cond b (Met code) Unmet) ≡ cond b behind.Met behind.Unmet
    by true code = refl
    by false code = refl

pub met-right : (rest : Rest) (A : Ends) → is_met (some_rest (shape rest)) A ≡ is_met rest A
met-right Last A = refl
met-right Unmet A = refl
met-right (Met code) A = refl

-- sets that are the same lead to the same
pub met-alike : (F E A : Ends) (b : Behind) → SameEnds F E →
    are_met F (some_rest b) A ≡ are_met E (some_rest b) A
met-alike F E A b s =
    ap (λ x. x || (has F Normal && is_met (some_rest b) A))
    (meet-same F E (without Normal A) (without Normal A) s (λ e. refl))
    ∙ ap (λ x. do_meet E (without Normal A) || (x && is_met (some_rest b) A)) (s Normal)

on-alike : (F E A : Ends) → SameEnds F E → way_on F A ≡ way_on E A
on-alike F E A s =
    let leave = meet-same F E (exits A) (exits A) s (λ e. refl) in
    let goes = meet-same F E (on A) (on A) s (λ e. refl) in
    ap (λ x. cond x (cond (do_meet F (on A)) way.Both way.Exits) way.On) leave
    ∙ ap (λ x. cond (do_meet E (exits A)) (cond x way.Both way.Exits) way.On) goes

way_met-alike : (F E A : Ends) (b : Behind) → SameEnds F E → way_met F b A ≡ way_met E b A
way_met-alike F E A behind.Last s = refl
way_met-alike F E A behind.Unmet s = refl
way_met-alike F E A behind.Met s = on-alike F E A s

pub way-alike : (F E A : Ends) (b : Behind) → SameEnds F E → way_by F b A ≡ way_by E b A
way-alike F E A b s =
    ap (λ x. cond x (way_met F b A) way.Nothing) (met-alike F E A b s)
    ∙ ap (λ x. cond (are_met E (some_rest b) A) x way.Nothing) (way_met-alike F E A b s)

pub shape-alike : (F E A : Ends) (b : Behind) → SameEnds F E → shape_before F b A ≡ shape_before E b A
shape-alike F E A b s = ap (λ x. cond x behind.Met behind.Unmet) (met-alike F E A b s)

-- ---- items, from the last one on

pub shape-next : (items all : List Item) (x : Item) (A : Ends) (b n : Behind) → all ≡ x ∷ items →
    b ≡ shape (rest_of (map item_of items) A) → n ≡ shape_before (part_ends (item_of x)) b A →
    n ≡ shape (rest_of (map item_of all) A)
shape-next items all x A b n is here next =
    next ∙ ap (λ c. shape_before (part_ends (item_of x)) c A) here
    ∙ sym (shape-right (item_of x) (map item_of items) A)
    ∙ ap (λ (xs : List Item). shape (rest_of (map item_of xs) A)) (sym is)

pub shapes-next : (items all : List Item) (x : Item) (A : Ends) (b : Behind) (old new : List Behind) →
    all ≡ x ∷ items → b ≡ shape (rest_of (map item_of items) A) → old ≡ shapes (map item_of items) A →
    new ≡ old ++ b ∷ [] → new ≡ shapes (map item_of all) A
shapes-next items all x A b old new is here ahead put =
    put ∙ ap (λ (xs : List Behind). xs ++ b ∷ []) ahead
    ∙ ap (λ c. shapes (map item_of items) A ++ c ∷ []) here
    ∙ ap (λ (xs : List Item). shapes (map item_of xs) A) (sym is)
