-- What is made of sets of ends depends on their members alone.
use Rattle.std.proofs.Common.{◌≡◌, ℕ, Bool, true, false, not, ◌&&◌, ◌||◌, List, [], ◌∷◌, ◌++◌, filter, cond, refl, sym}
use Rattle.std.proofs.Common.{ap, ◌∙◌}
use Rattle.std.specs.Prelude.{⊤}
use Rattle.std.specs.List.{list_any, flat_map}
use Rattle.racer_base.proofs.Lists.{same_3}
use Rattle.racer_base.proofs.Tests.{same_truth}
use Rattle.core_code.specs.Tree.{in_sequence}
use Rattle.core_code.specs.Tree as tree
use Rattle.core_lowering_drafts.specs.Drafts.{End, Normal, Exception, Exit, Ends, has, without, do_meet, exits, on}
use Rattle.core_lowering_drafts.specs.Drafts.{final_ends}
use Rattle.core_lowering_drafts.specs.Drafts.{SameEnds, is_same, is_exit, is_final, is_kept, ends_then, ends_within}
use Rattle.core_lowering_drafts.specs.Drafts.{ends_last, ends_finally, ends_behind, meets}
use Rattle.core_lowering_drafts.specs.Drafts.{Part, Draft, Op, Choice, Loop, Sync, Leave, Within, Never, Ending, Behind}
use Rattle.core_lowering_drafts.specs.Drafts.{no_part, part_then, part_ends, ends}
use Rattle.core_lowering_drafts.specs.Only.{Code, fork, loop_of, cleared, Rest, Last, Unmet, Met, code_in, is_met}
use Rattle.core_lowering_drafts.specs.Only.{are_met}
use Rattle.core_lowering_drafts.specs.Only.{parted, before, chosen, rounds, looped, asked_within, Branch, branches}
use Rattle.core_lowering_drafts.specs.Only.{does_stand, thrown, forked, alone, only_part, onto, only}
use Rattle.core_lowering_drafts.proofs.Sets.{any-found, any-from, has-append, has-filter}

-- ---- sets that are made of such

pub any-same : (test : End → Bool) (A B : Ends) → SameEnds A B → list_any test A ≡ list_any test B
any-same test A B s = same_truth _ _
    (λ h. let found = any-found test A h in any-from test B found.0 (sym (s found.0) ∙ found.1) found.2)
    (λ h. let found = any-found test B h in any-from test A found.0 (s found.0 ∙ found.1) found.2)

any-tests : (f g : End → Bool) (xs : Ends) → ((e : End) → f e ≡ g e) → list_any f xs ≡ list_any g xs
any-tests f g [] s = refl
any-tests f g (x ∷ xs) s = ap (λ b. b || list_any f xs) (s x) ∙ ap (λ b. g x || b) (any-tests f g xs s)

pub filter-tests : (f g : End → Bool) (xs : Ends) → ((e : End) → f e ≡ g e) → filter f xs ≡ filter g xs
filter-tests f g [] s = refl
filter-tests f g (x ∷ xs) s = same_3 (λ b (ys zs : Ends). cond b (x ∷ ys) zs) (s x) (filter-tests f g xs s)
    (filter-tests f g xs s)

pub filter-same : (f : End → Bool) (A B : Ends) → SameEnds A B → SameEnds (filter f A) (filter f B)
filter-same f A B s e = has-filter f A e ∙ ap (λ b. b && f e) (s e) ∙ sym (has-filter f B e)

pub append-same : (A B C D : Ends) → SameEnds A B → SameEnds C D → SameEnds (A ++ C) (B ++ D)
append-same A B C D s t e =
    has-append A C e ∙ ap (λ b. b || has C e) (s e) ∙ ap (λ b. has B e || b) (t e) ∙ sym (has-append B D e)

pub first-same : (d : End) (A B : Ends) → SameEnds A B → SameEnds (d ∷ A) (d ∷ B)
first-same d A B s e = ap (λ b. is_same e d || b) (s e)

pub cond-same : (a b : Bool) (A B C D : Ends) → a ≡ b → SameEnds A B → SameEnds C D →
    SameEnds (cond a A C) (cond b B D)
cond-same true true A B C D h s t = s
cond-same true false A B C D h s t = absurd cc
cond-same false true A B C D h s t = absurd cc
cond-same false false A B C D h s t = t

pub meet-same : (A B C D : Ends) → SameEnds A B → SameEnds C D → do_meet A C ≡ do_meet B D
meet-same A B C D s t = any-same (has C) A B s ∙ any-tests (has C) (has D) B t

pub on-same : (A B : Ends) → SameEnds A B → SameEnds (on A) (on B)
on-same A B s = first-same Normal (final_ends A) (final_ends B) (filter-same is_final A B s)

-- ---- the ends of what is made of drafts

pub then-same : (A B C D : Ends) → SameEnds A B → SameEnds C D → SameEnds (ends_then A C) (ends_then B D)
then-same A B C D s t = cond-same (has A Normal) (has B Normal) (without Normal A ++ C) (without Normal B ++ D) A B
    (s Normal)
    (append-same (without Normal A) (without Normal B) C D (filter-same (λ f. not (is_same Normal f)) A B s) t) s

pub within-same : (k : ℕ) (A B : Ends) → SameEnds A B → SameEnds (ends_within k A) (ends_within k B)
within-same k A B s = cond-same (has A (Exit k)) (has B (Exit k)) (Normal ∷ without (Exit k) A)
    (Normal ∷ without (Exit k) B) A B
    (s (Exit k)) (first-same Normal (without (Exit k) A) (without (Exit k) B)
    (filter-same (λ f. not (is_same (Exit k) f)) A B s)) s

last-same : (k : ℕ) (A B C D : Ends) → SameEnds A B → SameEnds C D → SameEnds (ends_last k A C) (ends_last k B D)
last-same k A B C D s t =
    append-same (cond (has A (Exit k)) C []) (cond (has B (Exit k)) D []) (filter (is_kept k) A) (filter (is_kept k) B)
    (cond-same (has A (Exit k)) (has B (Exit k)) C D [] [] (s (Exit k)) t (λ e. refl)) (filter-same (is_kept k) A B s)

finally-same : (k : ℕ) (A B C D E F : Ends) → SameEnds A B → SameEnds C D → SameEnds E F →
    SameEnds (ends_finally k A C E) (ends_finally k B D F)
finally-same k A B C D E F s t u =
    append-same (without Normal C) (without Normal D) (cond (has C Normal) (ends_last k A E) [])
    (cond (has D Normal) (ends_last k B F) []) (filter-same (λ f. not (is_same Normal f)) C D t)
    (cond-same (has C Normal) (has D Normal) (ends_last k A E) (ends_last k B F) [] [] (t Normal)
    (last-same k A B E F s u) (λ e. refl))

pub behind-same : (k : ℕ) (A B C D E F : Ends) → SameEnds A B → SameEnds C D → SameEnds E F →
    SameEnds (ends_behind k A C E) (ends_behind k B D F)
behind-same k A B C D E F s t u =
    let goes_on : End → Bool = λ e. not (is_same Exception e) in
    append-same (filter (is_same Exception) A) (filter (is_same Exception) B)
    (cond (list_any goes_on A) (ends_finally k A C E) []) (cond (list_any goes_on B) (ends_finally k B D F) [])
    (filter-same (is_same Exception) A B s)
    (cond-same (list_any goes_on A) (list_any goes_on B) (ends_finally k A C E) (ends_finally k B D F) [] []
    (any-same goes_on A B s) (finally-same k A B C D E F s t u) (λ e. refl))

-- ---- what stands behind

met-same : (rest : Rest) (A B : Ends) → SameEnds A B → is_met rest A ≡ is_met rest B
met-same Last A B s = s Normal
met-same Unmet A B s = refl
met-same (Met code) A B s = refl

are-same : (first : Ends) (rest : Rest) (A B : Ends) → SameEnds A B → are_met first rest A ≡ are_met first rest B
are-same first rest A B s =
    ap (λ b. b || (has first Normal && is_met rest A)) (meet-same first first (without Normal A) (without Normal B)
    (λ e. refl) (filter-same (λ f. not (is_same Normal f)) A B s))
    ∙ ap (λ b. do_meet first (without Normal B) || (has first Normal && b)) (met-same rest A B s)

-- code for a set depends on its members alone
abbrev Alike : (Ends → Code) → Type 0
Alike part = (A B : Ends) → SameEnds A B → part A ≡ part B

module _ (part : Ends → Code) (alike : Alike part) where
  on-alike : (A B : Ends) → SameEnds A B → part (on A) ≡ part (on B)
  on-alike A B s = alike (on A) (on B) (on-same A B s)

  exits-alike : (A B : Ends) → SameEnds A B → part (exits A) ≡ part (exits B)
  exits-alike A B s = alike (exits A) (exits B) (filter-same is_exit A B s)

  parted-same : (first : Ends) (A B : Ends) (code : Code) → SameEnds A B →
      parted part first A code ≡ parted part first B code
  parted-same first A B code s =
      same_3 (λ b (x y : Code). cond b (fork x (y ++ code)) x)
      (meet-same first first (on A) (on B) (λ e. refl) (on-same A B s)) (exits-alike A B s) (on-alike A B s)

  before-same : (first : Ends) (rest : Rest) (A B : Ends) → SameEnds A B →
      before part first A rest ≡ before part first B rest
  before-same first Last A B s = alike A B s
  before-same first Unmet A B s =
      alike (without Normal A) (without Normal B) (filter-same (λ f. not (is_same Normal f)) A B s)
  before-same first (Met code) A B s =
      same_3 (λ b (x y : Code). cond b x (y ++ code))
      (meet-same first first (exits A) (exits B) (λ e. refl) (filter-same is_exit A B s))
      (parted-same first A B code s) (on-alike A B s)

  rounds-same : (draft : Draft) (A B : Ends) → SameEnds A B → rounds draft part A ≡ rounds draft part B
  rounds-same draft A B s =
      same_3 (λ b (x y : Code). cond b (loop_of x) []) (meet-same (ends draft) (ends draft) A B (λ e. refl) s)
      (alike A B s)
      (alike A B s)

  looped-same : (draft : Draft) (A B : Ends) → SameEnds A B → looped draft part A ≡ looped draft part B
  looped-same draft A B s =
      let leaves = meet-same (ends draft) (ends draft) (exits A) (exits B) (λ e. refl) (filter-same is_exit A B s) in
      let on_round = rounds-same draft (on A) (on B) (on-same A B s) in
      let out = exits-alike A B s in
      let to_normal = same_3 (λ b (x y : Code). x ++ cond b (fork y []) []) leaves on_round out in
      let to_end = same_3 (λ b (x y : Code). cond b (x ++ y) (rounds draft part (Normal ∷ []) ++ part (final_ends A)))
      leaves on_round out
      ∙ ap (λ x. cond (meets draft (exits B)) (rounds draft part (on B) ++ part (exits B))
      (rounds draft part (Normal ∷ []) ++ x)) (alike (final_ends A) (final_ends B) (filter-same is_final A B s)) in
      same_3 (λ b (x y : Code). cond b x y) (s Normal) to_normal to_end

-- ---- branches

abbrev AreSame : List Branch → List Branch → Type 0
AreSame [] [] = ⊤
AreSame [] (c ∷ cs) = ⊥
AreSame (b ∷ bs) [] = ⊥
AreSame (b ∷ bs) (c ∷ cs) =
    (b.by ≡ c.by) × (b.behind ≡ c.behind) × (does_stand b ≡ does_stand c) × AreSame bs cs

kept-same : (b c : Branch) (bs cs : List Branch) (t u : Bool) → t ≡ u → b.by ≡ c.by → b.behind ≡ c.behind →
    does_stand b ≡ does_stand c → AreSame bs cs → AreSame (cond t (b ∷ bs) bs) (cond u (c ∷ cs) cs)
kept-same b c bs cs true true h by behind stand rest = (by, behind, stand, rest)
kept-same b c bs cs true false h by behind stand rest = absurd cc
kept-same b c bs cs false true h by behind stand rest = absurd cc
kept-same b c bs cs false false h by behind stand rest = rest

standing-same : (bs cs : List Branch) → AreSame bs cs → AreSame (filter does_stand bs) (filter does_stand cs)
standing-same [] [] s = s
standing-same [] (c ∷ cs) s = absurd s
standing-same (b ∷ bs) [] s = absurd s
standing-same (b ∷ bs) (c ∷ cs) s =
    kept-same b c (filter does_stand bs) (filter does_stand cs) (does_stand b) (does_stand c) s.2 s.0 s.1 s.2
    (standing-same bs cs s.3)

forked-same : (body : Ends → Code) → Alike body → (A B : Ends) → SameEnds A B → (bs cs : List Branch) → AreSame bs cs →
    forked body A bs ≡ forked body B cs
forked-same body alike A B s [] [] h = alike (thrown A) (thrown B) (filter-same (is_same Exception) A B s)
forked-same body alike A B s [] (c ∷ cs) h = absurd h
forked-same body alike A B s (b ∷ bs) [] h = absurd h
forked-same body alike A B s (b ∷ []) (c ∷ []) h =
    ap (λ r. body (b.by ++ thrown A) ++ code_in r) h.1
    ∙ ap (λ x. body (x ++ thrown A) ++ code_in c.behind) h.0
    ∙ ap (λ x. x ++ code_in c.behind) (alike (c.by ++ thrown A) (c.by ++ thrown B)
    (append-same c.by c.by (thrown A) (thrown B) (λ e. refl) (filter-same (is_same Exception) A B s)))
forked-same body alike A B s (b ∷ []) (c ∷ d ∷ cs) h = absurd h.3
forked-same body alike A B s (b ∷ d ∷ bs) (c ∷ []) h = absurd h.3
forked-same body alike A B s (b ∷ d ∷ bs) (c ∷ e ∷ cs) h =
    same_3 (λ x r y. fork (body x ++ code_in r) y) h.0 h.1 (forked-same body alike A B s (d ∷ bs) (e ∷ cs) h.3)

stand-same : (x y : Ends) (r t : Rest) (A B : Ends) → x ≡ y → r ≡ t → SameEnds A B →
    (list_any (λ e. true) x && is_met r A) ≡ (list_any (λ e. true) y && is_met t B)
stand-same x y r t A B p q s =
    ap (λ z. list_any (λ e. true) z && is_met r A) p ∙ ap (λ z. list_any (λ e. true) y && is_met z A) q
    ∙ ap (λ z. list_any (λ e. true) y && z) (met-same t A B s)

branches-same : (k : ℕ) (body A B : Ends) → SameEnds A B → (x x' y y' z z' : Rest) → x ≡ x' → y ≡ y' → z ≡ z' →
    AreSame (branches k body A x y z) (branches k body B x' y' z')
branches-same k body A B s x x' y y' z z' p q r =
    let kept = filter-tests (λ e. is_kept k e && has A e) (λ e. is_kept k e && has B e) body
    (λ e. ap (λ b. is_kept k e && b) (s e)) in
    let turned = filter-tests (λ e. is_kept k e && not (has A e)) (λ e. is_kept k e && not (has B e)) body
    (λ e. ap (λ b. is_kept k e && not b) (s e)) in (
      refl,
      p,
      stand-same _ _ x x' A B refl p s,
      (
        kept,
        q,
        stand-same _ _ y y' (Normal ∷ A) (Normal ∷ B) kept q (first-same Normal A B s),
        (
          turned,
          r,
          stand-same _ _ z z' (without Normal A) (without Normal B) turned r
              (filter-same (λ f. not (is_same Normal f)) A B s),
          tt,
        ),
      ),
    )

fork-same : (part : Ends → Code) → Alike part → (k : ℕ) (body A B : Ends) → SameEnds A B → (x x' y y' z z' : Rest) →
    x ≡ x' → y ≡ y' → z ≡ z' →
    forked part A (filter does_stand (branches k body A x y z)) ≡
    forked part B (filter does_stand (branches k body B x' y' z'))
fork-same part alike k body A B s x x' y y' z z' p q r =
    forked-same part alike A B s (filter does_stand (branches k body A x y z))
    (filter does_stand (branches k body B x' y' z'))
    (standing-same (branches k body A x y z) (branches k body B x' y' z')
    (branches-same k body A B s x x' y y' z z' p q r))

-- ---- drafts

asked-same : (k : ℕ) (A B : Ends) → SameEnds A B → SameEnds (asked_within k A) (asked_within k B)
asked-same k A B s = cond-same (has A Normal) (has B Normal) (Exit k ∷ A) (Exit k ∷ B) (without (Exit k) A)
    (without (Exit k) B)
    (s Normal) (first-same (Exit k) A B s) (filter-same (λ f. not (is_same (Exit k) f)) A B s)

put-same : (part : Ends → Code) → Alike part → (first : Ends) (A B : Ends) → SameEnds A B → (rest more : Rest) →
    rest ≡ more →
    cond (are_met first rest A) (Met (before part first A rest)) Unmet ≡
    cond (are_met first more B) (Met (before part first B more)) Unmet
put-same part alike first A B s rest more e =
    ap (λ r. cond (are_met first r A) (Met (before part first A r)) Unmet) e
    ∙ ap (λ b. cond b (Met (before part first A more)) Unmet) (are-same first more A B s)
    ∙ ap (λ c. cond (are_met first more B) (Met c) Unmet) (before-same part alike first more A B s)

mutual
  part-alike : (part : Part) (A B : Ends) → SameEnds A B → only_part part A ≡ only_part part B
  part-alike (Op place op) A B s = refl
  part-alike (Choice left right) A B s =
      let x = meet-same (ends left) (ends left) A B (λ e. refl) s in
      let y = meet-same (ends right) (ends right) A B (λ e. refl) s in
      let l = ap code_in (onto-alike left A B Last s) in
      let r = ap code_in (onto-alike right A B Last s) in
      ap (λ b. chosen b (meets right A) (alone (onto left) A) (alone (onto right) A)) x
      ∙ same_3 (chosen (meets left B)) y l r
  part-alike (Loop body) A B s =
      looped-same (alone (onto body)) (λ X Y t. ap code_in (onto-alike body X Y Last t)) body A B s
  part-alike (Sync lock body) A B s =
      ap (λ r. tree.Sync lock (in_sequence (code_in r)) ∷ []) (onto-alike body A B Last s)
  part-alike (Leave k) A B s = refl
  part-alike (Within k body) A B s =
      ap code_in (onto-alike body (asked_within k A) (asked_within k B) Last (asked-same k A B s))
  part-alike Never A B s = refl
  part-alike (Ending body place variables) A B s =
      ap (λ r. code_in r ++ flat_map (cleared place) variables) (onto-alike body A B Last s)
  part-alike (Behind body finally k last) A B s =
      fork-same (alone (onto body)) (λ X Y t. ap code_in (onto-alike body X Y Last t)) k (ends body) A B s
      (onto finally A (onto last A Last)) (onto finally B (onto last B Last))
      (onto finally (Normal ∷ A) Last) (onto finally (Normal ∷ B) Last)
      (onto finally (without Normal A) Last) (onto finally (without Normal B) Last)
      (onto-alike finally A B (onto last A Last) s ∙ ap (onto finally B) (onto-alike last A B Last s))
      (onto-alike finally (Normal ∷ A) (Normal ∷ B) Last (first-same Normal A B s))
      (onto-alike finally (without Normal A) (without Normal B) Last (filter-same (λ f. not (is_same Normal f)) A B s))

  pub onto-alike : (draft : Draft) (A B : Ends) (rest : Rest) → SameEnds A B → onto draft A rest ≡ onto draft B rest
  onto-alike no_part A B rest s = refl
  onto-alike (part_then part more) A B rest s =
      put-same (only_part part) (part-alike part) (part_ends part) A B s (onto more A rest) (onto more B rest)
      (onto-alike more A B rest s)

pub only-alike : (draft : Draft) (A B : Ends) → SameEnds A B → only draft A ≡ only draft B
only-alike draft A B s = ap code_in (onto-alike draft A B Last s)

pub meets-alike : (draft : Draft) (A B : Ends) → SameEnds A B → meets draft A ≡ meets draft B
meets-alike draft A B s = meet-same (ends draft) (ends draft) A B (λ e. refl) s
