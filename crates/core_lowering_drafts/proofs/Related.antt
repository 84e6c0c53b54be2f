-- A fact of two codes side by side that goes through sequences, choices and loops: where the parts of two drafts have
-- it, and the same ends, the codes of the drafts have it for each set of ends that is asked for. What one draft has
-- beside the other may stand in values of expressions alone, since those leave for no exit.
use Rattle.std.proofs.Common.{◌≡◌, Bool, true, false, ◌&&◌, ◌||◌, List, [], ◌∷◌, ◌++◌, filter, cond, refl, sym, ap, ◌∙◌}
use Rattle.std.proofs.Common.{subst, ℕ}
use Rattle.std.specs.List.{list_any, flat_map}
use Rattle.std.proofs.lemmas.Bool.{and_from}
use Rattle.racer_base.specs.declared.ids.Place.{Place}
use Rattle.racer_base.specs.declared.ids.VarId.{VarId}
use Rattle.core_code.specs.declared.code.Op.{Op as CoreOp}
use Rattle.core_code.specs.Tree.{LockAt, in_sequence}
use Rattle.core_code.specs.Tree as tree
use Rattle.core_lowering_drafts.specs.Drafts.{Normal, Ends, is_same, has, without, do_meet, exits, on, final_ends}
use Rattle.core_lowering_drafts.specs.Drafts.{op_end, ends_then, ends_within, ends_behind, meets}
use Rattle.core_lowering_drafts.specs.Drafts.{Part, Draft, Op, Choice, Loop, Sync, Leave, Within, Never, Ending, Behind}
use Rattle.core_lowering_drafts.specs.Drafts.{no_part, part_then, in_order, part_ends, ends}
use Rattle.core_lowering_drafts.specs.Only.{Code, one, fork, loop_of, cleared, Rest, Last, Unmet, Met, code_in, is_met}
use Rattle.core_lowering_drafts.specs.Only.{are_met, before, chosen, asked_within, Branch, branches}
use Rattle.core_lowering_drafts.specs.Only.{does_stand, thrown, forked, only_part, onto, only}
use Rattle.core_lowering_drafts.specs.Plain.{plain_code}
use Rattle.core_lowering_drafts.proofs.Sequences.{onto-append, ends-append}
use Rattle.core_lowering_drafts.proofs.Steady.{is_steady, steady-ends, steady-met, steady-unmet}
use Rattle.core_lowering_drafts.proofs.Steady.{whole_of, late_of, steady-last, steady-late}
use Rattle.core_lowering_drafts.proofs.Steady.{steady-append, plain-append}

pub record CodeFact : Type 1 where
  pub Holds : Code → Code → Type 0
  pub nothing : Holds [] []
  pub followed : (a b c d : Code) → Holds a c → Holds b d → Holds (a ++ b) (c ++ d)
  pub chosen : (a b c d : Code) → Holds a c → Holds b d → Holds (fork a b) (fork c d)
  pub looped : (a c : Code) → Holds a c → Holds (loop_of a) (loop_of c)

module _ (f : CodeFact) where
  -- ---- what stands behind

  abbrev pub Such : Rest → Rest → Type 0
  Such Last Last = Unit {0}
  Such Last Unmet = ⊥
  Such Last (Met d) = ⊥
  Such Unmet Last = ⊥
  Such Unmet Unmet = Unit {0}
  Such Unmet (Met d) = ⊥
  Such (Met c) Last = ⊥
  Such (Met c) Unmet = ⊥
  Such (Met c) (Met d) = f.Holds c d

  such-code : (x y : Rest) → Such x y → f.Holds (code_in x) (code_in y)
  such-code Last Last h = f.nothing
  such-code Last Unmet h = absurd h
  such-code Last (Met d) h = absurd h
  such-code Unmet Last h = absurd h
  such-code Unmet Unmet h = f.nothing
  such-code Unmet (Met d) h = absurd h
  such-code (Met c) Last h = absurd h
  such-code (Met c) Unmet h = absurd h
  such-code (Met c) (Met d) h = h

  pub such-met : (x y : Rest) → Such x y → (asked : Ends) → is_met x asked ≡ is_met y asked
  such-met Last Last h asked = refl
  such-met Last Unmet h asked = absurd h
  such-met Last (Met d) h asked = absurd h
  such-met Unmet Last h asked = absurd h
  such-met Unmet Unmet h asked = refl
  such-met Unmet (Met d) h asked = absurd h
  such-met (Met c) Last h asked = absurd h
  such-met (Met c) Unmet h asked = absurd h
  such-met (Met c) (Met d) h asked = refl

  -- the same ends, and the fact for each set that is asked for
  pub record RelatedParts (p q : Part) : Type 0 where
    pub same_ends : part_ends p ≡ part_ends q
    pub code : (asked : Ends) → f.Holds (only_part p asked) (only_part q asked)

  pub record Related (d e : Draft) : Type 0 where
    pub same_ends : ends d ≡ ends e
    pub put : (asked : Ends) (x y : Rest) → Such x y → Such (onto d asked x) (onto e asked y)

  abbrev pub RelatedLists : List Part → List Part → Type 0
  RelatedLists a c = Related (in_order a) (in_order c)

  pub related-code : (d e : Draft) → Related d e → (asked : Ends) → f.Holds (only d asked) (only e asked)
  related-code d e r asked = such-code (onto d asked Last) (onto e asked Last) (r.put asked Last Last tt)

  -- ---- a part and what follows

  by-test : (b : Bool) (a c d e : Code) → f.Holds a c → f.Holds d e → f.Holds (cond b a d) (cond b c e)
  by-test true a c d e p q = p
  by-test false a c d e p q = q

  if-such : (b c : Bool) → b ≡ c → (x y : Code) → f.Holds x y → Such (cond b (Met x) Unmet) (cond c (Met y) Unmet)
  if-such true true h x y p = p
  if-such true false h x y p = absurd cc
  if-such false true h x y p = absurd cc
  if-such false false h x y p = tt

  module _ (F G : Ends → Code) (all : (asked : Ends) → f.Holds (F asked) (G asked)) where
    before-such : (first asked : Ends) (x y : Rest) → Such x y →
        f.Holds (before F first asked x) (before G first asked y)
    before-such first asked Last Last h = all asked
    before-such first asked Last Unmet h = absurd h
    before-such first asked Last (Met d) h = absurd h
    before-such first asked Unmet Last h = absurd h
    before-such first asked Unmet Unmet h = all (without Normal asked)
    before-such first asked Unmet (Met d) h = absurd h
    before-such first asked (Met c) Last h = absurd h
    before-such first asked (Met c) Unmet h = absurd h
    before-such first asked (Met c) (Met d) h =
        let on_it = f.followed (F (on asked)) c (G (on asked)) d (all (on asked)) h in
        by-test (do_meet first (exits asked))
        (cond (do_meet first (on asked)) (fork (F (exits asked)) (F (on asked) ++ c)) (F (exits asked)))
        (cond (do_meet first (on asked)) (fork (G (exits asked)) (G (on asked) ++ d)) (G (exits asked)))
        (F (on asked) ++ c) (G (on asked) ++ d)
        (by-test (do_meet first (on asked)) (fork (F (exits asked)) (F (on asked) ++ c))
        (fork (G (exits asked)) (G (on asked) ++ d)) (F (exits asked)) (G (exits asked))
        (f.chosen (F (exits asked)) (F (on asked) ++ c) (G (exits asked)) (G (on asked) ++ d) (all (exits asked)) on_it)
        (all (exits asked)))
        on_it

    put-such : (first other asked : Ends) → first ≡ other → (x y : Rest) → Such x y →
        Such (cond (are_met first x asked) (Met (before F first asked x)) Unmet)
        (cond (are_met other y asked) (Met (before G other asked y)) Unmet)
    put-such first other asked e x y s =
        subst (λ (es : Ends). Such (cond (are_met first x asked) (Met (before F first asked x)) Unmet)
        (cond (are_met es y asked) (Met (before G es asked y)) Unmet)) e
        (if-such (are_met first x asked) (are_met first y asked)
        (ap (λ b. do_meet first (without Normal asked) || has first Normal && b) (such-met x y s asked))
        (before F first asked x) (before G first asked y) (before-such first asked x y s))

  pub no-parts : Related no_part no_part
  no-parts = record { same_ends = refl; put = λ asked x y s. s }

  pub part-first : (p q : Part) (d e : Draft) → RelatedParts p q → Related d e →
      Related (part_then p d) (part_then q e)
  part-first p q d e r s =
      record {
        same_ends = ap (λ (es : Ends). ends_then es (ends d)) r.same_ends
            ∙ ap (ends_then (part_ends q)) s.same_ends;
        put = λ asked x y h. put-such (only_part p) (only_part q) r.code (part_ends p) (part_ends q) asked r.same_ends
            (onto d asked x) (onto e asked y) (s.put asked x y h);
      }

  pub part-alone : (p q : Part) → RelatedParts p q → RelatedLists (p ∷ []) (q ∷ [])
  part-alone p q r = part-first p q no_part no_part r no-parts

  pub lists-joined : (a b c d : List Part) → RelatedLists a c → RelatedLists b d → RelatedLists (a ++ b) (c ++ d)
  lists-joined a b c d r s =
      record {
        same_ends = ends-append a b ∙ ap (λ (es : Ends). ends_then es (ends (in_order b))) r.same_ends
            ∙ ap (ends_then (ends (in_order c))) s.same_ends ∙ sym (ends-append c d);
        put = λ asked x y h.
            subst (λ (z : Rest). Such z (onto (in_order (c ++ d)) asked y)) (sym (onto-append a b asked x))
            (subst (λ (z : Rest). Such (onto (in_order a) asked (onto (in_order b) asked x)) z)
            (sym (onto-append c d asked y))
            (r.put asked (onto (in_order b) asked x) (onto (in_order d) asked y) (s.put asked x y h)));
      }

  -- ---- parts

  pub of-ops : (place : Place) (o u : CoreOp) → op_end o ≡ op_end u → f.Holds (one place o) (one place u) →
      RelatedParts (Op place o) (Op place u)
  of-ops place o u e h = record { same_ends = ap (λ x. x ∷ []) e; code = λ asked. h }

  pub of-leave : (k : ℕ) → RelatedParts (Leave k) (Leave k)
  of-leave k = record { same_ends = refl; code = λ asked. f.nothing }

  pub of-never : RelatedParts Never Never
  of-never = record { same_ends = refl; code = λ asked. f.nothing }

  both-sides : (i j k l : Bool) → i ≡ k → j ≡ l → (a b c d : Code) → f.Holds a c → f.Holds b d →
      f.Holds (chosen i j a b) (chosen k l c d)
  both-sides i j k l p q a b c d x y =
      subst (λ (t : Bool). f.Holds (chosen i j a b) (chosen t l c d)) p
      (subst (λ (t : Bool). f.Holds (chosen i j a b) (chosen i t c d)) q (by i j))
    where
      by : (i j : Bool) → f.Holds (chosen i j a b) (chosen i j c d)
      by true true = f.chosen a b c d x y
      by true false = x
      by false true = y
      by false false = y

  pub of-choices : (a b c d : Draft) → Related a c → Related b d → RelatedParts (Choice a b) (Choice c d)
  of-choices a b c d r s =
      record {
        same_ends = ap (λ (es : Ends). es ++ ends b) r.same_ends ∙ ap (λ (es : Ends). ends c ++ es) s.same_ends;
        code = λ asked.
            both-sides (meets a asked) (meets b asked) (meets c asked) (meets d asked)
            (ap (λ (es : Ends). do_meet es asked) r.same_ends) (ap (λ (es : Ends). do_meet es asked) s.same_ends)
            (only a asked) (only b asked) (only c asked) (only d asked) (related-code a c r asked)
            (related-code b d s asked);
      }

  -- a loop whose body has these ends
  abbrev rounds_by : Ends → (Ends → Code) → Ends → Code
  rounds_by es F asked = cond (do_meet es asked) (loop_of (F asked)) []

  abbrev looped_by : Ends → (Ends → Code) → Ends → Code
  looped_by es F asked =
      cond (has asked Normal)
      (rounds_by es F (on asked) ++ cond (do_meet es (exits asked)) (fork (F (exits asked)) []) [])
      (cond (do_meet es (exits asked)) (rounds_by es F (on asked) ++ F (exits asked))
      (rounds_by es F (Normal ∷ []) ++ F (final_ends asked)))

  module _ (F G : Ends → Code) (all : (asked : Ends) → f.Holds (F asked) (G asked)) (es : Ends) where
    rounds-hold : (asked : Ends) → f.Holds (rounds_by es F asked) (rounds_by es G asked)
    rounds-hold asked =
        by-test (do_meet es asked) (loop_of (F asked)) (loop_of (G asked)) [] []
        (f.looped (F asked) (G asked) (all asked)) f.nothing

    rounds-then : (asked : Ends) (c d : Code) → f.Holds c d →
        f.Holds (rounds_by es F asked ++ c) (rounds_by es G asked ++ d)
    rounds-then asked c d h = f.followed (rounds_by es F asked) c (rounds_by es G asked) d (rounds-hold asked) h

    looped-hold : (asked : Ends) → f.Holds (looped_by es F asked) (looped_by es G asked)
    looped-hold asked =
        by-test (has asked Normal) _ _ _ _
        (rounds-then (on asked) _ _
        (by-test (do_meet es (exits asked)) (fork (F (exits asked)) []) (fork (G (exits asked)) []) [] []
        (f.chosen (F (exits asked)) [] (G (exits asked)) [] (all (exits asked)) f.nothing) f.nothing))
        (by-test (do_meet es (exits asked)) _ _ _ _
        (rounds-then (on asked) (F (exits asked)) (G (exits asked)) (all (exits asked)))
        (rounds-then (Normal ∷ []) (F (final_ends asked)) (G (final_ends asked)) (all (final_ends asked))))

  pub of-loops : (a c : Draft) → Related a c → RelatedParts (Loop a) (Loop c)
  of-loops a c r =
      record {
        same_ends = ap (λ (es : Ends). Normal ∷ es) r.same_ends;
        code = λ asked.
            subst (λ (es : Ends). f.Holds (looped_by (ends a) (only a) asked) (looped_by es (only c) asked)) r.same_ends
            (looped-hold (only a) (only c) (related-code a c r) (ends a) asked);
      }

  pub of-locks : (lock : LockAt) →
      ((a c : Code) → f.Holds a c →
      f.Holds (tree.Sync lock (in_sequence a) ∷ []) (tree.Sync lock (in_sequence c) ∷ [])) →
      (a c : Draft) → Related a c → RelatedParts (Sync lock a) (Sync lock c)
  of-locks lock held a c r =
      record {
        same_ends = r.same_ends;
        code = λ asked. held (only a asked) (only c asked) (related-code a c r asked);
      }

  pub of-within : (k : ℕ) (a c : Draft) → Related a c → RelatedParts (Within k a) (Within k c)
  of-within k a c r =
      record {
        same_ends = ap (ends_within k) r.same_ends;
        code = λ asked. related-code a c r (asked_within k asked);
      }

  pub of-endings : (place : Place) (vs : List VarId) →
      f.Holds (flat_map (cleared place) vs) (flat_map (cleared place) vs) →
      (a c : Draft) → Related a c → RelatedParts (Ending a place vs) (Ending c place vs)
  of-endings place vs h a c r =
      record {
        same_ends = r.same_ends;
        code = λ asked.
            f.followed (only a asked) (flat_map (cleared place) vs) (only c asked) (flat_map (cleared place) vs)
            (related-code a c r asked) h;
      }

  -- ---- a body with a `finally`

  abbrev Branches : List Branch → List Branch → Type 0
  Branches [] [] = Unit {0}
  Branches [] (c ∷ cs) = ⊥
  Branches (b ∷ bs) [] = ⊥
  Branches (b ∷ bs) (c ∷ cs) =
      (b.by ≡ c.by) × Such b.behind c.behind × (does_stand b ≡ does_stand c) × Branches bs cs

  kept-branch : (b c : Branch) (bs cs : List Branch) (t u : Bool) → t ≡ u → b.by ≡ c.by → Such b.behind c.behind →
      does_stand b ≡ does_stand c → Branches bs cs → Branches (cond t (b ∷ bs) bs) (cond u (c ∷ cs) cs)
  kept-branch b c bs cs true true h by behind stand rest = (by, behind, stand, rest)
  kept-branch b c bs cs true false h by behind stand rest = absurd cc
  kept-branch b c bs cs false true h by behind stand rest = absurd cc
  kept-branch b c bs cs false false h by behind stand rest = rest

  standing : (bs cs : List Branch) → Branches bs cs → Branches (filter does_stand bs) (filter does_stand cs)
  standing [] [] s = s
  standing [] (c ∷ cs) s = absurd s
  standing (b ∷ bs) [] s = absurd s
  standing (b ∷ bs) (c ∷ cs) s =
      kept-branch b c (filter does_stand bs) (filter does_stand cs) (does_stand b) (does_stand c) s.2 s.0 s.1 s.2
      (standing bs cs s.3)

  stands-alike : (by : Ends) (x y : Rest) (asked : Ends) → Such x y →
      (list_any (λ e. true) by && is_met x asked) ≡ (list_any (λ e. true) by && is_met y asked)
  stands-alike by x y asked s = ap (λ b. list_any (λ e. true) by && b) (such-met x y s asked)

  branches-such : (k : ℕ) (body other asked : Ends) → body ≡ other → (x r y s z t : Rest) → Such x r → Such y s →
      Such z t → Branches (branches k body asked x y z) (branches k other asked r s t)
  branches-such k body other asked e x r y s z t p q w =
      subst (λ (es : Ends). Branches (branches k body asked x y z) (branches k es asked r s t)) e (
        refl,
        p,
        stands-alike _ x r asked p,
        (
          refl,
          q,
          stands-alike _ y s (Normal ∷ asked) q,
          (refl, w, stands-alike _ z t (without Normal asked) w, tt),
        ),
      )

  module _ (F G : Ends → Code) (all : (asked : Ends) → f.Holds (F asked) (G asked)) (asked : Ends) where
    branch-holds : (by other : Ends) (x y : Rest) → by ≡ other → Such x y →
        f.Holds (F by ++ code_in x) (G other ++ code_in y)
    branch-holds by other x y e s =
        subst (λ (es : Ends). f.Holds (F by ++ code_in x) (G es ++ code_in y)) e
        (f.followed (F by) (code_in x) (G by) (code_in y) (all by) (such-code x y s))

    forked-hold : (bs cs : List Branch) → Branches bs cs → f.Holds (forked F asked bs) (forked G asked cs)
    forked-hold [] [] h = all (thrown asked)
    forked-hold [] (c ∷ cs) h = absurd h
    forked-hold (b ∷ bs) [] h = absurd h
    forked-hold (b ∷ []) (c ∷ []) h =
        branch-holds (b.by ++ thrown asked) (c.by ++ thrown asked) b.behind c.behind
        (ap (λ (es : Ends). es ++ thrown asked) h.0) h.1
    forked-hold (b ∷ []) (c ∷ d ∷ cs) h = absurd h.3
    forked-hold (b ∷ d ∷ bs) (c ∷ []) h = absurd h.3
    forked-hold (b ∷ d ∷ bs) (c ∷ e ∷ cs) h =
        f.chosen (F b.by ++ code_in b.behind) (forked F asked (d ∷ bs)) (G c.by ++ code_in c.behind)
        (forked G asked (e ∷ cs)) (branch-holds b.by c.by b.behind c.behind h.0 h.1)
        (forked-hold (d ∷ bs) (e ∷ cs) h.3)

  pub of-finally : (k : ℕ) (a b c d e g : Draft) → Related a d → Related b e → Related c g →
      RelatedParts (Behind a b k c) (Behind d e k g)
  of-finally k a b c d e g r s t =
      record {
        same_ends =
            ap (λ (es : Ends). ends_behind k es (ends b) (ends c)) r.same_ends
            ∙ ap (λ (es : Ends). ends_behind k (ends d) es (ends c)) s.same_ends
            ∙ ap (ends_behind k (ends d) (ends e)) t.same_ends;
        code = λ asked.
            let x = onto b asked (onto c asked Last) in
            let y = onto e asked (onto g asked Last) in
            let bs = branches k (ends a) asked x (onto b (Normal ∷ asked) Last) (onto b (without Normal asked) Last) in
            let cs = branches k (ends d) asked y (onto e (Normal ∷ asked) Last) (onto e (without Normal asked) Last) in
            forked-hold (only a) (only d) (related-code a d r) asked (filter does_stand bs) (filter does_stand cs)
            (standing bs cs
            (branches-such k (ends a) (ends d) asked r.same_ends x y (onto b (Normal ∷ asked) Last)
            (onto e (Normal ∷ asked) Last) (onto b (without Normal asked) Last) (onto e (without Normal asked) Last)
            (s.put asked (onto c asked Last) (onto g asked Last) (t.put asked Last Last tt))
            (s.put (Normal ∷ asked) Last Last tt) (s.put (without Normal asked) Last Last tt)));
      }

  -- ---- values of expressions

  -- both are their own code, which may differ
  pub record Values (a c : List Part) : Type 0 where
    pub left : is_steady (in_order a) ≡ true
    pub right : is_steady (in_order c) ≡ true
    pub same : f.Holds (plain_code (in_order a)) (plain_code (in_order c))

  pub no-value : Values [] []
  no-value = record { left = refl; right = refl; same = f.nothing }

  pub values-joined : (a b c d : List Part) → Values a c → Values b d → Values (a ++ b) (c ++ d)
  values-joined a b c d v w =
      record {
        left = steady-append a b v.left w.left;
        right = steady-append c d v.right w.right;
        same =
            subst (λ (x : Code). f.Holds x (plain_code (in_order (c ++ d)))) (sym (plain-append a b))
            (subst (λ (y : Code). f.Holds (plain_code (in_order a) ++ plain_code (in_order b)) y)
            (sym (plain-append c d))
            (f.followed (plain_code (in_order a)) (plain_code (in_order b)) (plain_code (in_order c))
            (plain_code (in_order d)) v.same w.same));
      }

  pub value-choices : (a b c d : List Part) → Values a c → Values b d →
      Values (Choice (in_order a) (in_order b) ∷ []) (Choice (in_order c) (in_order d) ∷ [])
  value-choices a b c d v w =
      record {
        left = and_from (is_steady (in_order a) && is_steady (in_order b)) true
            (and_from (is_steady (in_order a)) (is_steady (in_order b)) v.left w.left) refl;
        right = and_from (is_steady (in_order c) && is_steady (in_order d)) true
            (and_from (is_steady (in_order c)) (is_steady (in_order d)) v.right w.right) refl;
        same = f.chosen (plain_code (in_order a)) (plain_code (in_order b)) (plain_code (in_order c))
            (plain_code (in_order d)) v.same w.same;
      }

  pub value-ops : (place : Place) (o u : CoreOp) → is_same Normal (op_end o) ≡ true →
      is_same Normal (op_end u) ≡ true → f.Holds (one place o) (one place u) →
      Values (Op place o ∷ []) (Op place u ∷ [])
  value-ops place o u h k same =
      record {
        left = and_from (is_same Normal (op_end o)) true h refl;
        right = and_from (is_same Normal (op_end u)) true k refl;
        same = same;
      }

  -- an operation on one side
  pub value-missing : (place : Place) (o : CoreOp) → is_same Normal (op_end o) ≡ true → f.Holds [] (one place o) →
      Values [] (Op place o ∷ [])
  value-missing place o h same =
      record { left = refl; right = and_from (is_same Normal (op_end o)) true h refl; same = same }

  pub value-added : (place : Place) (o : CoreOp) → is_same Normal (op_end o) ≡ true → f.Holds (one place o) [] →
      Values (Op place o ∷ []) []
  value-added place o h same =
      record { left = and_from (is_same Normal (op_end o)) true h refl; right = refl; same = same }

  abbrev IsPut : Rest → Type 0
  IsPut Last = ⊥
  IsPut Unmet = Unit {0}
  IsPut (Met c) = Unit {0}

  if-put : (b : Bool) (c : Code) → IsPut (cond b (Met c) Unmet)
  if-put true c = tt
  if-put false c = tt

  values-before : (a c : List Part) → Values a c → (asked : Ends) (x y : Rest) → Such x y → IsPut x →
      Such (onto (in_order a) asked x) (onto (in_order c) asked y)
  values-before a c v asked Last y s p = absurd p
  values-before a c v asked Unmet Last s p = absurd s
  values-before a c v asked Unmet (Met d) s p = absurd s
  values-before a c v asked (Met b) Last s p = absurd s
  values-before a c v asked (Met b) Unmet s p = absurd s
  values-before a c v asked Unmet Unmet s p =
      subst (λ (z : Rest). Such z (onto (in_order c) asked Unmet)) (sym (steady-unmet (in_order a) v.left asked))
      (subst (λ (z : Rest). Such Unmet z) (sym (steady-unmet (in_order c) v.right asked)) tt)
  values-before a c v asked (Met b) (Met d) s p =
      subst (λ (z : Rest). Such z (onto (in_order c) asked (Met d))) (sym (steady-met (in_order a) v.left asked b))
      (subst (λ (z : Rest). Such (Met (plain_code (in_order a) ++ b)) z)
      (sym (steady-met (in_order c) v.right asked d))
      (f.followed (plain_code (in_order a)) b (plain_code (in_order c)) d v.same s))

  -- a value, and then what begins with a part on both sides
  pub value-then : (a c : List Part) → Values a c → (p q : Part) (b d : List Part) →
      RelatedLists (p ∷ b) (q ∷ d) → RelatedLists (a ++ (p ∷ b)) (c ++ (q ∷ d))
  value-then a c v p q b d r =
      record {
        same_ends =
            ends-append a (p ∷ b) ∙ ap (λ (es : Ends). ends_then es (ends (in_order (p ∷ b))))
            (steady-ends (in_order a) v.left) ∙ r.same_ends
            ∙ ap (λ (es : Ends). ends_then es (ends (in_order (q ∷ d)))) (sym (steady-ends (in_order c) v.right))
            ∙ sym (ends-append c (q ∷ d));
        put = λ asked x y h.
            subst (λ (z : Rest). Such z (onto (in_order (c ++ (q ∷ d))) asked y))
            (sym (onto-append a (p ∷ b) asked x))
            (subst (λ (z : Rest). Such (onto (in_order a) asked (onto (in_order (p ∷ b)) asked x)) z)
            (sym (onto-append c (q ∷ d) asked y))
            (values-before a c v asked (onto (in_order (p ∷ b)) asked x) (onto (in_order (q ∷ d)) asked y)
            (r.put asked x y h)
            (if-put (are_met (part_ends p) (onto (in_order b) asked x) asked)
            (before (only_part p) (part_ends p) asked (onto (in_order b) asked x)))));
      }

  -- a value alone
  whole-such : (d : Draft) → f.Holds (plain_code d) (plain_code d) → Such (whole_of d) (whole_of d)
  whole-such no_part h = tt
  whole-such (part_then part rest) h = h

  late-such : (d : Draft) → Such (late_of d) (late_of d)
  late-such no_part = tt
  late-such (part_then part rest) = tt

  values-last : (a : List Part) → Values a a → (asked : Ends) (b : Bool) → has asked Normal ≡ b →
      Such (onto (in_order a) asked Last) (onto (in_order a) asked Last)
  values-last a v asked true e =
      subst (λ (z : Rest). Such z z) (sym (steady-last (in_order a) v.left asked e))
      (whole-such (in_order a) v.same)
  values-last a v asked false e =
      subst (λ (z : Rest). Such z z) (sym (steady-late (in_order a) v.left asked e)) (late-such (in_order a))

  alone-such : (a : List Part) → Values a a → (asked : Ends) (x y : Rest) → Such x y →
      Such (onto (in_order a) asked x) (onto (in_order a) asked y)
  alone-such a v asked Last Last s = values-last a v asked (has asked Normal) refl
  alone-such a v asked Last Unmet s = absurd s
  alone-such a v asked Last (Met d) s = absurd s
  alone-such a v asked Unmet y s = values-before a a v asked Unmet y s tt
  alone-such a v asked (Met b) y s = values-before a a v asked (Met b) y s tt

  pub value-alone : (a : List Part) → Values a a → RelatedLists a a
  value-alone a v = record { same_ends = refl; put = λ asked x y s. alone-such a v asked x y s }
