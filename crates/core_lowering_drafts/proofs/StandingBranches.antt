-- Branches behind a body with a `finally`, as the code finds them.
use Rattle.std.proofs.Common.{◌≡◌, ℕ, Bool, true, false, not, ◌&&◌, ◌||◌, List, [], ◌∷◌, ◌++◌, filter, map, cond, refl}
use Rattle.std.proofs.Common.{sym}
use Rattle.std.proofs.Common.{ap, ◌∙◌, ◌≤◌, suc, length, append_assoc, true≢false, arith}
use Rattle.std.specs.Prelude.{⊤}
use Rattle.std.specs.List.{list_any}
use Rattle.std.proofs.lemmas.Bool.{and_parts, and_from}
use Rattle.std.proofs.lemmas.List.{append-nil, length-map, map-append}
use Rattle.racer_base.proofs.Lists.{same_3}
use Rattle.racer_base.proofs.Tests.{same_truth}
use Rattle.core_lowering_drafts.specs.declared.behind.After.{After}
use Rattle.core_lowering_drafts.specs.declared.behind.Branch.{Branch as CodeBranch}
use Rattle.core_lowering_drafts.specs.declared.behind.Tail.{Tail}
use Rattle.core_lowering_drafts.specs.declared.behind.Tail.TheVariants.{AtExit, Kept, Turned}
use Rattle.core_lowering_drafts.specs.Ahead.{rest_of}
use Rattle.core_lowering_drafts.specs.Branches.{AreAlike, after_size, asked_behind, branch_of, parts_behind, rest_behind}
use Rattle.core_lowering_drafts.specs.Drafts.{Draft, Part, Normal, Exit, Ends, SameEnds, has, is_kept, is_same}
use Rattle.core_lowering_drafts.specs.Drafts.{ends, in_order, meets, without}
use Rattle.core_lowering_drafts.specs.EndSets.{seen_asked}
use Rattle.core_lowering_drafts.specs.Lists.{size_of}
use Rattle.core_lowering_drafts.specs.Only.{Branch, Code, Last, Rest, branches, code_in, does_stand, fork, forked}
use Rattle.core_lowering_drafts.specs.Only.{is_met}
use Rattle.core_lowering_drafts.specs.Only.{onto, thrown}
use Rattle.core_lowering_drafts.specs.PieceFalls.{size_of-append}
use Rattle.core_lowering_drafts.proofs.SameEnds.{any-same, append-same, filter-same, meets-alike, only-alike}
use Rattle.core_lowering_drafts.proofs.Sequences.{onto-append}
use Rattle.core_lowering_drafts.proofs.Sets.{has-filter, one-there, only-one, same_end, same_itself}
use Rattle.core_lowering_drafts.proofs.Unmet.{alone-met, onto-met}

-- ---- the ends that lead into them

pub at-exit-found : (k : ℕ) (B : Ends) → has B (Exit k) ≡ true →
    SameEnds (Exit k ∷ []) (filter (is_same (Exit k)) B)
at-exit-found k B h e =
    same_truth (has (Exit k ∷ []) e) (has B e && is_same (Exit k) e) there back
    ∙ sym (has-filter (is_same (Exit k)) B e)
  where
    there : has (Exit k ∷ []) e ≡ true → (has B e && is_same (Exit k) e) ≡ true
    there i =
        let is : e ≡ Exit k = only-one (Exit k) e i in
        and_from (has B e) (is_same (Exit k) e) (ap (has B) is ∙ h) (ap (is_same (Exit k)) is ∙ same_itself (Exit k))

    back : (has B e && is_same (Exit k) e) ≡ true → has (Exit k ∷ []) e ≡ true
    back i =
        one-there (Exit k) e (sym (same_end (Exit k) e (and_parts (has B e) (is_same (Exit k) e) i).1))

pub at-exit-none : (k : ℕ) (B : Ends) → has B (Exit k) ≡ false → SameEnds [] (filter (is_same (Exit k)) B)
at-exit-none k B h e = by (has B e && is_same (Exit k) e) refl ∙ sym (has-filter (is_same (Exit k)) B e)
  where
    by : (b : Bool) → (has B e && is_same (Exit k) e) ≡ b → false ≡ b
    by true i =
        let parts = and_parts (has B e) (is_same (Exit k) e) i in
        absurd (true≢false (sym parts.0 ∙ ap (has B) (sym (same_end (Exit k) e parts.1)) ∙ h))
    by false i = refl

pub turned-made : (k : ℕ) (B A K T : Ends) → SameEnds K (filter (is_kept k) B) →
    SameEnds T (filter (λ e. not (has A e)) K) →
    SameEnds T (filter (λ e. is_kept k e && not (has A e)) B)
turned-made k B A K T s t e =
    t e ∙ has-filter (λ f. not (has A f)) K e ∙ ap (λ b. b && not (has A e)) (s e ∙ has-filter (is_kept k) B e)
    ∙ by (has B e) (is_kept k e) (not (has A e)) ∙ sym (has-filter (λ f. is_kept k f && not (has A f)) B e)
  where
    by : (a b c : Bool) → ((a && b) && c) ≡ (a && (b && c))
    by true b c = refl
    by false b c = refl

pub kept-made : (k : ℕ) (B A K T O R : Ends) → SameEnds K (filter (is_kept k) B) →
    SameEnds T (filter (λ e. is_kept k e && not (has A e)) B) → O ≡ T → SameEnds R (filter (λ e. not (has O e)) K) →
    SameEnds R (filter (λ e. is_kept k e && has A e) B)
kept-made k B A K T O R s t o r e =
    r e ∙ has-filter (λ f. not (has O f)) K e ∙ ap (λ b. b && not (has O e)) (s e ∙ has-filter (is_kept k) B e)
    ∙ ap (λ b. (has B e && is_kept k e) && not b)
    (ap (λ X. has X e) o ∙ t e ∙ has-filter (λ f. is_kept k f && not (has A f)) B e)
    ∙ by (has B e) (is_kept k e) (has A e) ∙ sym (has-filter (λ f. is_kept k f && has A f) B e)
  where
    by : (a b c : Bool) → ((a && b) && not (a && (b && not c))) ≡ (a && (b && c))
    by true true true = refl
    by true true false = refl
    by true false c = refl
    by false b c = refl

-- ---- whether what is done behind is met

pub both-met : (F L : Draft) (A : Ends) (leaves goes normal met : Bool) → leaves ≡ meets F (without Normal A) →
    normal ≡ has (ends F) Normal → met ≡ meets L A → goes ≡ (normal && met) →
    (leaves || goes) ≡ is_met (onto F A (onto L A Last)) A
both-met F L A leaves goes normal met l n m g =
    ap (λ b. b || goes) l ∙ ap (λ b. meets F (without Normal A) || b) (g ∙ ap (λ b. b && met) n
    ∙ ap (λ b. has (ends F) Normal && b) (m ∙ sym (alone-met L A)))
    ∙ sym (onto-met F A (onto L A Last))

pub alone-same : (F : Draft) (X A : Ends) (met : Bool) → met ≡ meets F X → SameEnds X A → met ≡ is_met (onto F A Last) A
alone-same F X A met m s = m ∙ meets-alike F X A s ∙ sym (alone-met F A)

-- ---- branches one after another

pub put-standing : (after : After) (old new : List CodeBranch) (b : CodeBranch) →
    does_stand (branch_of after b) ≡ true → new ≡ old ++ b ∷ [] →
    map (branch_of after) new ≡ map (branch_of after) old ++ filter does_stand (branch_of after b ∷ [])
put-standing after old new b h put =
    ap (map (branch_of after)) put ∙ map-append (branch_of after) old (b ∷ [])
    ∙ ap (λ t. map (branch_of after) old ++ cond t (branch_of after b ∷ []) []) (sym h)

pub put-none : (after : After) (old : List CodeBranch) (b : CodeBranch) → does_stand (branch_of after b) ≡ false →
    map (branch_of after) old ≡ map (branch_of after) old ++ filter does_stand (branch_of after b ∷ [])
put-none after old b h =
    sym (append-nil (map (branch_of after) old))
    ∙ ap (λ t. map (branch_of after) old ++ cond t (branch_of after b ∷ []) []) (sym h)

one-kept : (b : Branch) (bs : List Branch) →
    filter does_stand (b ∷ []) ++ filter does_stand bs ≡ filter does_stand (b ∷ bs)
one-kept b bs = by (does_stand b)
  where
    by : (t : Bool) → cond t (b ∷ []) [] ++ filter does_stand bs ≡ cond t (b ∷ filter does_stand bs)
        (filter does_stand bs)
    by true = refl
    by false = refl

pub three-kept : (a b c : Branch) (all one two : List Branch) → one ≡ filter does_stand (a ∷ []) →
    two ≡ one ++ filter does_stand (b ∷ []) → all ≡ two ++ filter does_stand (c ∷ []) →
    all ≡ filter does_stand (a ∷ b ∷ c ∷ [])
three-kept a b c all one two x y z =
    let first = filter does_stand (a ∷ []) in
    let second = filter does_stand (b ∷ []) in
    let third = filter does_stand (c ∷ []) in
    z ∙ ap (λ (bs : List Branch). bs ++ third) (y ∙ ap (λ (bs : List Branch). bs ++ second) x)
    ∙ append_assoc first second third ∙ ap (λ (bs : List Branch). first ++ bs) (one-kept b (c ∷ []))
    ∙ one-kept a (b ∷ c ∷ [])

-- ---- the same branches

-- as in AreAlike, and they are done behind for the same ends
abbrev pub AreEqual : List Branch → List Branch → Type 0
AreEqual [] [] = ⊤
AreEqual [] (c ∷ cs) = ⊥
AreEqual (b ∷ bs) [] = ⊥
AreEqual (b ∷ bs) (c ∷ cs) = SameEnds b.by c.by × (b.behind ≡ c.behind) × (b.asked ≡ c.asked) × AreEqual bs cs

same-stands : (b c : Branch) → SameEnds b.by c.by → b.behind ≡ c.behind → b.asked ≡ c.asked →
    does_stand b ≡ does_stand c
same-stands b c by behind asked =
    ap (λ t. t && is_met b.behind b.asked) (any-same (λ e. true) b.by c.by by)
    ∙ ap (λ (r : Rest). list_any (λ e. true) c.by && is_met r b.asked) behind
    ∙ ap (λ (x : Ends). list_any (λ e. true) c.by && is_met c.behind x) asked

one-alike : (b c : Branch) (bs cs : List Branch) (t u : Bool) → SameEnds b.by c.by → b.behind ≡ c.behind → t ≡ u →
    AreAlike bs cs → AreAlike (cond t (b ∷ bs) bs) (cond u (c ∷ cs) cs)
one-alike b c bs cs true true by behind h s = (by, behind, s)
one-alike b c bs cs true false by behind h s = absurd (true≢false h)
one-alike b c bs cs false true by behind h s = absurd (true≢false (sym h))
one-alike b c bs cs false false by behind h s = s

pub standing-alike : (bs cs : List Branch) → AreEqual bs cs → AreAlike (filter does_stand bs) (filter does_stand cs)
standing-alike [] [] s = s
standing-alike [] (c ∷ cs) s = absurd s
standing-alike (b ∷ bs) [] s = absurd s
standing-alike (b ∷ bs) (c ∷ cs) s =
    one-alike b c (filter does_stand bs) (filter does_stand cs) (does_stand b) (does_stand c) s.0 s.1
    (same-stands b c s.0 s.1 s.2) (standing-alike bs cs s.3)

alike-length : (bs cs : List Branch) → AreAlike bs cs → length bs ≡ length cs
alike-length [] [] s = refl
alike-length [] (c ∷ cs) s = absurd s
alike-length (b ∷ bs) [] s = absurd s
alike-length (b ∷ bs) (c ∷ cs) s = ap suc (alike-length bs cs s.2)

kept-length : (bs : List Branch) → length (filter does_stand bs) ≤ length bs
kept-length [] = omega arith
kept-length (b ∷ bs) = by (does_stand b) (filter does_stand bs) (kept-length bs)
  where
    by : (t : Bool) (cs : List Branch) → length cs ≤ length bs → length (cond t (b ∷ cs) cs) ≤ length (b ∷ bs)
    by true cs h = omega (arith, h)
    by false cs h = omega (arith, h)

pub few : (bs : List CodeBranch) (f : CodeBranch → Branch) (cs : List Branch) →
    AreAlike (map f bs) (filter does_stand cs) → length bs ≤ length cs
few bs f cs s =
    omega (arith, alike-length (map f bs) (filter does_stand cs) s, kept-length cs, length-map bs f)

-- the code of branches that are the same
module _ (part : Ends → Code) (alike : (A B : Ends) → SameEnds A B → part A ≡ part B) (A : Ends) where
  pub forked-alike : (bs cs : List Branch) → AreAlike bs cs → forked part A bs ≡ forked part A cs
  forked-alike [] [] s = refl
  forked-alike [] (c ∷ cs) s = absurd s
  forked-alike (b ∷ bs) [] s = absurd s
  forked-alike (b ∷ []) (c ∷ []) s =
      ap (λ r. part (b.by ++ thrown A) ++ code_in r) s.1
      ∙ ap (λ x. x ++ code_in c.behind) (alike (b.by ++ thrown A) (c.by ++ thrown A)
      (append-same b.by c.by (thrown A) (thrown A) s.0 (λ e. refl)))
  forked-alike (b ∷ []) (c ∷ d ∷ cs) s = absurd s.2
  forked-alike (b ∷ d ∷ bs) (c ∷ []) s = absurd s.2
  forked-alike (b ∷ d ∷ bs) (c ∷ e ∷ cs) s =
      same_3 (λ x r y. fork (x ++ code_in r) y) (alike b.by c.by s.0) s.1 (forked-alike (d ∷ bs) (e ∷ cs) s.2)

-- of two sets of ends of a body that are the same
pub bodies-same : (k : ℕ) (B C A : Ends) (x y z : Rest) → SameEnds B C →
    AreEqual (branches k B A x y z) (branches k C A x y z)
bodies-same k B C A x y z s = (
  filter-same (is_same (Exit k)) B C s,
  refl,
  refl,
  (
    filter-same (λ e. is_kept k e && has A e) B C s,
    refl,
    refl,
    (filter-same (λ e. is_kept k e && not (has A e)) B C s, refl, refl, tt),
  ),
)

-- of those that the code finds
pub behind-code : (part : Ends → Code) → ((A B : Ends) → SameEnds A B → part A ≡ part B) → (k : ℕ) (B C A : Ends)
    (x y z : Rest) → SameEnds B C → (bs : List Branch) → AreAlike bs (filter does_stand (branches k B A x y z)) →
    forked part A bs ≡ forked part A (filter does_stand (branches k C A x y z))
behind-code part alike k B C A x y z same bs found =
    forked-alike part alike A bs (filter does_stand (branches k B A x y z)) found
    ∙ forked-alike part alike A (filter does_stand (branches k B A x y z)) (filter does_stand (branches k C A x y z))
    (standing-alike (branches k B A x y z) (branches k C A x y z) (bodies-same k B C A x y z same))

-- ---- what is done behind

pub behind-size : (after : After) (tail : Tail) → size_of (parts_behind after tail) ≤ after_size after
behind-size after AtExit = omega (arith, size_of-append after.finally.now after.last.now)
behind-size after Kept = omega arith
behind-size after Turned = omega arith

pub tail-code : (after : After) (tail : Tail) (X : Ends) → SameEnds X (asked_behind after tail) →
    code_in (rest_of (parts_behind after tail) X) ≡ code_in (rest_behind after tail)
tail-code after AtExit X s =
    only-alike (in_order (after.finally.now ++ after.last.now)) X (seen_asked after.asked) s
    ∙ ap code_in (onto-append after.finally.now after.last.now (seen_asked after.asked) Last)
tail-code after Kept X s = only-alike (in_order after.finally.now) X (asked_behind after Kept) s
tail-code after Turned X s = only-alike (in_order after.finally.now) X (asked_behind after Turned) s
