-- Drafts of operations and choices that neither return nor throw, as those of expressions: each is its own code,
-- whichever ends are asked for behind it.
use Rattle.std.proofs.Common.{◌≡◌, ◌⊎◌, Bool, true, false, ◌&&◌, ◌||◌, List, [], ◌∷◌, ◌++◌, cond, refl, sym, ap, ◌∙◌}
use Rattle.std.proofs.Common.{inl, inr, append_assoc, append-nil}
use Rattle.std.proofs.lemmas.Bool.{and_parts, and_from, or_right, cond-true, cond-false}
use Rattle.std.proofs.Math.Bool.{and-false}
use Rattle.racer_base.proofs.Lists.{same_4}
use Rattle.core_lowering_drafts.specs.Drafts.{Normal, Ends, is_same, has, without, do_meet, exits, on, is_exit, op_end}
use Rattle.core_lowering_drafts.specs.Drafts.{meets}
use Rattle.core_lowering_drafts.specs.Drafts.{Part, Draft, Op, Choice, Loop, Sync, Leave, Within, Never, Ending, Behind}
use Rattle.core_lowering_drafts.specs.Drafts.{no_part, part_then, in_order, part_ends, ends, ends_then}
use Rattle.core_lowering_drafts.specs.Only.{Code, Rest, Last, Unmet, Met, code_in, is_met, are_met, before}
use Rattle.core_lowering_drafts.specs.Only.{parted}
use Rattle.core_lowering_drafts.specs.Only.{chosen, alone, only_part, onto}
use Rattle.core_lowering_drafts.specs.Plain.{plain_part, plain_code}
use Rattle.core_lowering_drafts.proofs.Sets.{same_end, has-filter}
use Rattle.core_lowering_drafts.proofs.Sequences.{none-left}

abbrev mutual
  pub is_steady_part : Part → Bool
  is_steady_part (Op place op) = is_same Normal (op_end op)
  is_steady_part (Choice left right) = is_steady left && is_steady right
  is_steady_part (Loop body) = false
  is_steady_part (Sync lock body) = false
  is_steady_part (Leave k) = false
  is_steady_part (Within k body) = false
  is_steady_part Never = false
  is_steady_part (Ending body place variables) = false
  is_steady_part (Behind body finally k last) = false

  pub is_steady : Draft → Bool
  is_steady no_part = true
  is_steady (part_then part rest) = is_steady_part part && is_steady rest

-- ---- ends that are all normal

abbrev IsQuiet : Ends → Type 0
IsQuiet es = (es ≡ Normal ∷ []) ⊎ (es ≡ Normal ∷ Normal ∷ [])

quiet-there : (es : Ends) → IsQuiet es → has es Normal ≡ true
quiet-there es (inl e) = ap (λ (xs : Ends). has xs Normal) e
quiet-there es (inr e) = ap (λ (xs : Ends). has xs Normal) e

quiet-then : (es more : Ends) → IsQuiet es → ends_then es more ≡ more
quiet-then es more (inl e) = ap (λ (xs : Ends). ends_then xs more) e
quiet-then es more (inr e) = ap (λ (xs : Ends). ends_then xs more) e

quiet-apart : (es other : Ends) → IsQuiet es → has other Normal ≡ false → do_meet es other ≡ false
quiet-apart es other (inl e) h = ap (λ (xs : Ends). do_meet xs other) e ∙ ap (λ b. b || false) h
quiet-apart es other (inr e) h = ap (λ (xs : Ends). do_meet xs other) e ∙ ap (λ b. b || (b || false)) h

no-exit : (asked : Ends) → has (exits asked) Normal ≡ false
no-exit asked = has-filter is_exit asked Normal ∙ and-false (has asked Normal)

quiet-met : (es asked : Ends) (rest : Rest) → IsQuiet es → is_met rest asked ≡ true → are_met es rest asked ≡ true
quiet-met es asked rest q h =
    or_right (do_meet es (without Normal asked)) (has es Normal && is_met rest asked)
    (and_from (has es Normal) (is_met rest asked) (quiet-there es q) h)

quiet-unmet : (es asked : Ends) → IsQuiet es → are_met es Unmet asked ≡ false
quiet-unmet es asked q =
    ap (λ b. b || (has es Normal && false)) (quiet-apart es (without Normal asked) q (none-left asked))
    ∙ and-false (has es Normal)

-- ---- one part

module _ (part : Ends → Code) (first : Ends) (own : Code) (quiet : IsQuiet first)
    (is : (asked : Ends) → has asked Normal ≡ true → part asked ≡ own) where
  put-met : (asked : Ends) (code : Code) →
      cond (are_met first (Met code) asked) (Met (before part first asked (Met code))) Unmet ≡ Met (own ++ code)
  put-met asked code =
      cond-true _ (Met (before part first asked (Met code))) Unmet (quiet-met first asked (Met code) quiet refl)
      ∙ ap Met
      (cond-false _ (parted part first asked code) (part (on asked) ++ code)
      (quiet-apart first (exits asked) quiet (no-exit asked)))
      ∙ ap (λ (c : Code). Met (c ++ code)) (is (on asked) refl)

  put-unmet : (asked : Ends) →
      cond (are_met first Unmet asked) (Met (before part first asked Unmet)) Unmet ≡ Unmet
  put-unmet asked = cond-false _ (Met (before part first asked Unmet)) Unmet (quiet-unmet first asked quiet)

  put-last : (asked : Ends) → has asked Normal ≡ true →
      cond (are_met first Last asked) (Met (before part first asked Last)) Unmet ≡ Met own
  put-last asked h =
      cond-true _ (Met (part asked)) Unmet (quiet-met first asked Last quiet h) ∙ ap Met (is asked h)

-- ---- drafts

mutual
  part-quiet : (part : Part) → is_steady_part part ≡ true → IsQuiet (part_ends part)
  part-quiet (Op place op) h = inl (ap (λ e. e ∷ []) (sym (same_end Normal (op_end op) h)))
  part-quiet (Choice left right) h =
      let parts = and_parts (is_steady left) (is_steady right) h in
      inr (ap (λ (es : Ends). es ++ ends right) (steady-ends left parts.0)
      ∙ ap (λ (es : Ends). Normal ∷ es) (steady-ends right parts.1))
  part-quiet (Loop body) h = absurd cc
  part-quiet (Sync lock body) h = absurd cc
  part-quiet (Leave k) h = absurd cc
  part-quiet (Within k body) h = absurd cc
  part-quiet Never h = absurd cc
  part-quiet (Ending body place variables) h = absurd cc
  part-quiet (Behind body finally k last) h = absurd cc

  pub steady-ends : (draft : Draft) → is_steady draft ≡ true → ends draft ≡ Normal ∷ []
  steady-ends no_part h = refl
  steady-ends (part_then part rest) h =
      let parts = and_parts (is_steady_part part) (is_steady rest) h in
      quiet-then (part_ends part) (ends rest) (part-quiet part parts.0) ∙ steady-ends rest parts.1

steady-meets : (draft : Draft) (asked : Ends) → is_steady draft ≡ true → has asked Normal ≡ true →
    meets draft asked ≡ true
steady-meets draft asked h k = ap (λ (es : Ends). do_meet es asked) (steady-ends draft h) ∙ ap (λ b. b || false) k

-- before nothing
abbrev pub whole_of : Draft → Rest
whole_of no_part = Last
whole_of (part_then part rest) = Met (plain_part part ++ plain_code rest)

whole-code : (draft : Draft) → code_in (whole_of draft) ≡ plain_code draft
whole-code no_part = refl
whole-code (part_then part rest) = refl

put-whole : (part : Part) (rest : Draft) → IsQuiet (part_ends part) →
    ((asked : Ends) → has asked Normal ≡ true → only_part part asked ≡ plain_part part) → (asked : Ends) →
    has asked Normal ≡ true →
    cond (are_met (part_ends part) (whole_of rest) asked)
    (Met (before (only_part part) (part_ends part) asked (whole_of rest))) Unmet ≡
    Met (plain_part part ++ plain_code rest)
put-whole part no_part quiet is asked k =
    put-last (only_part part) (part_ends part) (plain_part part) quiet is asked k
    ∙ ap Met (sym (append-nil (plain_part part)))
put-whole part (part_then next more) quiet is asked k =
    put-met (only_part part) (part_ends part) (plain_part part) quiet is asked (plain_part next ++ plain_code more)

mutual
  part-code : (part : Part) → is_steady_part part ≡ true → (asked : Ends) → has asked Normal ≡ true →
      only_part part asked ≡ plain_part part
  part-code (Op place op) h asked k = refl
  part-code (Choice left right) h asked k =
      let parts = and_parts (is_steady left) (is_steady right) h in
      same_4 chosen (steady-meets left asked parts.0 k) (steady-meets right asked parts.1 k)
      (ap code_in (steady-last left parts.0 asked k) ∙ whole-code left)
      (ap code_in (steady-last right parts.1 asked k) ∙ whole-code right)
  part-code (Loop body) h asked k = absurd cc
  part-code (Sync lock body) h asked k = absurd cc
  part-code (Leave n) h asked k = absurd cc
  part-code (Within n body) h asked k = absurd cc
  part-code Never h asked k = absurd cc
  part-code (Ending body place variables) h asked k = absurd cc
  part-code (Behind body finally n last) h asked k = absurd cc

  pub steady-last : (draft : Draft) → is_steady draft ≡ true → (asked : Ends) → has asked Normal ≡ true →
      onto draft asked Last ≡ whole_of draft
  steady-last no_part h asked k = refl
  steady-last (part_then part rest) h asked k =
      let parts = and_parts (is_steady_part part) (is_steady rest) h in
      ap (λ (behind : Rest).
      cond (are_met (part_ends part) behind asked) (Met (before (only_part part) (part_ends part) asked behind)) Unmet)
      (steady-last rest parts.1 asked k)
      ∙ put-whole part rest (part-quiet part parts.0) (part-code part parts.0) asked k

-- of such a draft alone, where it may end normally
pub steady-alone : (draft : Draft) → is_steady draft ≡ true → (asked : Ends) → has asked Normal ≡ true →
    alone (onto draft) asked ≡ plain_code draft
steady-alone draft h asked k = ap code_in (steady-last draft h asked k) ∙ whole-code draft

-- before nothing, where it may not end normally
abbrev pub late_of : Draft → Rest
late_of no_part = Last
late_of (part_then part rest) = Unmet

late-met : (rest : Draft) (asked : Ends) → has asked Normal ≡ false → is_met (late_of rest) asked ≡ false
late-met no_part asked h = h
late-met (part_then part rest) asked h = refl

pub steady-late : (draft : Draft) → is_steady draft ≡ true → (asked : Ends) → has asked Normal ≡ false →
    onto draft asked Last ≡ late_of draft
steady-late no_part h asked k = refl
steady-late (part_then part rest) h asked k =
    let parts = and_parts (is_steady_part part) (is_steady rest) h in
    let quiet = part-quiet part parts.0 in
    ap (λ (behind : Rest).
    cond (are_met (part_ends part) behind asked) (Met (before (only_part part) (part_ends part) asked behind)) Unmet)
    (steady-late rest parts.1 asked k)
    ∙ cond-false _ (Met (before (only_part part) (part_ends part) asked (late_of rest))) Unmet
    (ap (λ b. b || (has (part_ends part) Normal && is_met (late_of rest) asked))
    (quiet-apart (part_ends part) (without Normal asked) quiet (none-left asked))
    ∙ ap (λ b. has (part_ends part) Normal && b) (late-met rest asked k) ∙ and-false (has (part_ends part) Normal))

-- before code
pub steady-met : (draft : Draft) → is_steady draft ≡ true → (asked : Ends) (code : Code) →
    onto draft asked (Met code) ≡ Met (plain_code draft ++ code)
steady-met no_part h asked code = refl
steady-met (part_then part rest) h asked code =
    let parts = and_parts (is_steady_part part) (is_steady rest) h in
    ap (λ (behind : Rest).
    cond (are_met (part_ends part) behind asked) (Met (before (only_part part) (part_ends part) asked behind)) Unmet)
    (steady-met rest parts.1 asked code)
    ∙ put-met (only_part part) (part_ends part) (plain_part part) (part-quiet part parts.0) (part-code part parts.0)
    asked (plain_code rest ++ code)
    ∙ ap Met (sym (append_assoc (plain_part part) (plain_code rest) code))

-- before what is left out
pub steady-unmet : (draft : Draft) → is_steady draft ≡ true → (asked : Ends) → onto draft asked Unmet ≡ Unmet
steady-unmet no_part h asked = refl
steady-unmet (part_then part rest) h asked =
    let parts = and_parts (is_steady_part part) (is_steady rest) h in
    ap (λ (behind : Rest).
    cond (are_met (part_ends part) behind asked) (Met (before (only_part part) (part_ends part) asked behind)) Unmet)
    (steady-unmet rest parts.1 asked)
    ∙ put-unmet (only_part part) (part_ends part) (plain_part part) (part-quiet part parts.0)
    (part-code part parts.0) asked

-- ---- lists of parts

pub steady-append : (a b : List Part) → is_steady (in_order a) ≡ true → is_steady (in_order b) ≡ true →
    is_steady (in_order (a ++ b)) ≡ true
steady-append [] b h k = k
steady-append (part ∷ a) b h k =
    let parts = and_parts (is_steady_part part) (is_steady (in_order a)) h in
    and_from (is_steady_part part) (is_steady (in_order (a ++ b))) parts.0 (steady-append a b parts.1 k)

pub plain-append : (a b : List Part) →
    plain_code (in_order (a ++ b)) ≡ plain_code (in_order a) ++ plain_code (in_order b)
plain-append [] b = refl
plain-append (part ∷ a) b =
    ap (λ (c : Code). plain_part part ++ c) (plain-append a b)
    ∙ sym (append_assoc (plain_part part) (plain_code (in_order a)) (plain_code (in_order b)))
