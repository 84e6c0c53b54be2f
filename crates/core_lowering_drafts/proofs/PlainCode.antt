-- A draft of operations, choices, loops and locks alone is its own code.
use Rattle.std.proofs.Common.{◌≡◌, true, false, [], ◌∷◌, ◌++◌, cond, refl, sym, ap, ◌∙◌}
use Rattle.std.proofs.Common.{⊎_elim, append-nil}
use Rattle.std.proofs.lemmas.Bool.{and_parts, and_from, or_left, or_right, cond-true, cond-false}
use Rattle.racer_base.proofs.Lists.{same_4}
use Rattle.core_code.specs.declared.code.Op.{Op as CoreOp}
use Rattle.core_code.specs.declared.code.Op.TheVariants.{Ret, Throw}
use Rattle.core_code.specs.Tree.{Tree, LockAt, in_sequence}
use Rattle.core_code.specs.Tree as tree
use Rattle.core_lowering_drafts.specs.Drafts.{Normal, Ends, has, without, do_meet, exits, op_end}
use Rattle.core_lowering_drafts.specs.Drafts.{meets}
use Rattle.core_lowering_drafts.specs.Drafts.{Part, Draft, Op, Choice, Loop, Sync, Leave, Within, Never, Ending, Behind}
use Rattle.core_lowering_drafts.specs.Drafts.{no_part, part_then, part_ends, ends}
use Rattle.core_lowering_drafts.specs.Only.{Code, fork, loop_of, Rest, Last, Unmet, Met, code_in, is_met, are_met}
use Rattle.core_lowering_drafts.specs.Only.{before}
use Rattle.core_lowering_drafts.specs.Only.{chosen, looped, alone, only_part, onto, all_ends, code_of}
use Rattle.core_lowering_drafts.specs.Plain.{is_plain_part, is_plain, plain_part, plain_code}
use Rattle.core_lowering_drafts.proofs.Sets.{any-append, do_meet-found, do_meet-from, without-from, is_normal}
use Rattle.core_lowering_drafts.proofs.Sets.{chosen-both}
use Rattle.core_lowering_drafts.proofs.Unmet.{alone-met}

-- ---- such drafts have one of the ends

op-there : (op : CoreOp) → has all_ends (op_end op) ≡ true
op-there Ret = refl
op-there Throw = refl
op-there _ = refl

append-met : (xs ys : Ends) → do_meet ys all_ends ≡ true → do_meet (xs ++ ys) all_ends ≡ true
append-met xs ys h = any-append (has all_ends) xs ys ∙ or_right _ _ h

front-met : (xs ys : Ends) → do_meet xs all_ends ≡ true → do_meet (xs ++ ys) all_ends ≡ true
front-met xs ys h = any-append (has all_ends) xs ys ∙ or_left _ _ h

mutual
  part-there : (part : Part) → is_plain_part part ≡ true → do_meet (part_ends part) all_ends ≡ true
  part-there (Op place op) h = or_left _ _ (op-there op)
  part-there (Choice left right) h = front-met (ends left) (ends right) (draft-there left (and_parts _ _ h).0)
  part-there (Loop body) h = refl
  part-there (Sync lock body) h = draft-there body h
  part-there (Leave k) h = absurd cc
  part-there (Within k body) h = absurd cc
  part-there Never h = absurd cc
  part-there (Ending body place variables) h = absurd cc
  part-there (Behind body finally k last) h = absurd cc

  draft-there : (draft : Draft) → is_plain draft ≡ true → do_meet (ends draft) all_ends ≡ true
  draft-there no_part h = refl
  draft-there (part_then part rest) h =
      chosen-both (λ xs. do_meet xs all_ends) (has (part_ends part) Normal)
      (without Normal (part_ends part) ++ ends rest) (part_ends part)
      (append-met (without Normal (part_ends part)) (ends rest) (draft-there rest (and_parts _ _ h).1))
      (part-there part (and_parts _ _ h).0)

-- ---- one part, and the rest behind it

none-met : (xs : Ends) → do_meet xs [] ≡ false
none-met [] = refl
none-met (x ∷ xs) = none-met xs

all-met : (first : Ends) (behind : Rest) → do_meet first all_ends ≡ true → is_met behind all_ends ≡ true →
    are_met first behind all_ends ≡ true
all-met first behind h k =
    let found = do_meet-found first all_ends h in
    ⊎_elim (λ normal. or_right _ _ (and_from _ _ (sym (ap (has first) normal) ∙ found.1) k))
    (λ other. or_left _ _ (do_meet-from first (without Normal all_ends) found.0 found.1
    (without-from Normal all_ends found.0 found.2 other))) (is_normal found.0)

module _ (part : Ends → Code) (first : Ends) (own : Code) (is : part all_ends ≡ own) where
  before-plain : (behind : Rest) (more : Code) → is_met behind all_ends ≡ true → code_in behind ≡ more →
      before part first all_ends behind ≡ own ++ more
  before-plain Last more h e = is ∙ sym (append-nil own) ∙ ap (λ c. own ++ c) e
  before-plain Unmet more h e = absurd cc
  before-plain (Met code) more h e =
      cond-false _ _ _ (none-met first) ∙ ap (λ c. c ++ code) is ∙ ap (λ c. own ++ c) e

  then-plain : (behind : Rest) (more : Code) → do_meet first all_ends ≡ true → is_met behind all_ends ≡ true →
      code_in behind ≡ more →
      code_in (cond (are_met first behind all_ends) (Met (before part first all_ends behind)) Unmet) ≡ own ++ more
  then-plain behind more there h e =
      ap code_in (cond-true _ (Met (before part first all_ends behind)) Unmet (all-met first behind there h))
      ∙ before-plain behind more h e

-- ---- code

loop-plain : (body : Draft) (code : Code) → meets body all_ends ≡ true → alone (onto body) all_ends ≡ code →
    looped body (alone (onto body)) all_ends ≡ loop_of code
loop-plain body code there is =
    ap (λ b. cond (meets body all_ends) (loop_of (alone (onto body) all_ends)) []
    ++ cond b (fork (alone (onto body) (exits all_ends)) []) []) (none-met (ends body))
    ∙ ap (λ b. cond b (loop_of (alone (onto body) all_ends)) [] ++ []) there
    ∙ ap loop_of is

mutual
  part-plain : (part : Part) → is_plain_part part ≡ true → only_part part all_ends ≡ plain_part part
  part-plain (Op place op) h = refl
  part-plain (Choice left right) h =
      let parts = and_parts (is_plain left) (is_plain right) h in
      same_4 chosen (draft-there left parts.0) (draft-there right parts.1) (draft-plain left parts.0)
      (draft-plain right parts.1)
  part-plain (Loop body) h = loop-plain body (plain_code body) (draft-there body h) (draft-plain body h)
  part-plain (Sync lock body) h = ap (λ c. tree.Sync lock (in_sequence c) ∷ []) (draft-plain body h)
  part-plain (Leave k) h = absurd cc
  part-plain (Within k body) h = absurd cc
  part-plain Never h = absurd cc
  part-plain (Ending body place variables) h = absurd cc
  part-plain (Behind body finally k last) h = absurd cc

  draft-plain : (draft : Draft) → is_plain draft ≡ true → alone (onto draft) all_ends ≡ plain_code draft
  draft-plain no_part h = refl
  draft-plain (part_then part rest) h =
      let parts = and_parts (is_plain_part part) (is_plain rest) h in
      then-plain (only_part part) (part_ends part) (plain_part part) (part-plain part parts.0)
      (onto rest all_ends Last) (plain_code rest) (part-there part parts.0)
      (alone-met rest all_ends ∙ draft-there rest parts.1) (draft-plain rest parts.1)

pub plain-code : (draft : Draft) → is_plain draft ≡ true → code_of draft ≡ plain_code draft
plain-code draft h = draft-plain draft h
