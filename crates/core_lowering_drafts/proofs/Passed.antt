-- Groups of a `switch` of which nothing is written.
use Rattle.std.proofs.Common.{◌≡◌, ℕ, zero, suc, Bool, true, false, not, ◌&&◌, ◌||◌, List, [], ◌∷◌, ◌++◌, cond, refl}
use Rattle.std.proofs.Common.{sym, ap}
use Rattle.std.proofs.Common.{◌∙◌, ◌<◌, ◌≤◌, ◌+◌, ◌-◌, length, take, get_or, append_assoc, true≢false, arith}
use Rattle.std.proofs.lemmas.List.{length-take-le, take_more}
use Rattle.core_lowering_drafts.specs.Drafts.{End, Normal, Return, Exception, Exit, Ends, SameEnds, is_same, has}
use Rattle.core_lowering_drafts.specs.Drafts.{without}
use Rattle.core_lowering_drafts.specs.Drafts.{Draft, Choice, do_meet, ends, in_order, meets, no_part, part_ends}
use Rattle.core_lowering_drafts.specs.Drafts.{part_then}
use Rattle.core_lowering_drafts.specs.Falls.{IsPassed}
use Rattle.core_lowering_drafts.specs.Groups.{entered, fall_in, fallen}
use Rattle.core_lowering_drafts.specs.Lists.{Parts, size_of}
use Rattle.core_lowering_drafts.specs.Only.{Code, Last, Met, Rest, Unmet, are_met, before, chosen, code_in, is_met}
use Rattle.core_lowering_drafts.specs.Only.{only}
use Rattle.core_lowering_drafts.specs.Only.{onto, only_part}
use Rattle.core_lowering_drafts.specs.PieceFalls.{fall_in-more}
use Rattle.core_lowering_drafts.proofs.EndSets.{and-true}
use Rattle.core_lowering_drafts.proofs.Falling.{fallen-last}
use Rattle.core_lowering_drafts.proofs.SameEnds.{meet-same, only-alike}
use Rattle.core_lowering_drafts.proofs.Sequences.{none-left}
use Rattle.core_lowering_drafts.proofs.Sets.{any-append, has-filter, not-back}
use Rattle.core_lowering_drafts.proofs.Unmet.{alone-met, met-last, unmet-code}

-- ---- a choice with nothing of which no path that ends normally is asked for

left-false : (a b : Bool) → (a || b) ≡ false → a ≡ false
left-false true b h = h
left-false false b h = refl

chosen-left : (m r : Bool) (x : Code) → r ≡ false → (m ≡ false → x ≡ []) → chosen m r x [] ≡ x
chosen-left true true x h none = absurd (true≢false h)
chosen-left true false x h none = refl
chosen-left false r x h none = sym (none refl)

guarded : (b : Bool) (x : Code) → (b ≡ false → x ≡ []) → code_in (cond b (Met x) Unmet) ≡ x
guarded true x none = refl
guarded false x none = sym (none refl)

module _ (H : Draft) where
  abbrev Here : Ends
  Here = part_ends (Choice H no_part)

  left-alone : (A : Ends) → has A Normal ≡ false → only_part (Choice H no_part) A ≡ only H A
  left-alone A h =
      chosen-left (meets H A) (meets no_part A) (only H A) (ap (λ b. b || false) h) (λ m. unmet-code H A m)

  unmet-left : (A : Ends) → do_meet Here A ≡ false → only H A ≡ []
  unmet-left A h =
      unmet-code H A (left-false (meets H A) (do_meet (Normal ∷ []) A)
      (sym (any-append (has A) (ends H) (Normal ∷ [])) ∙ h))

  module _ (A : Ends) where
    abbrev W : Ends
    W = without Normal A

    same : has A Normal ≡ false → SameEnds A W
    same h e = by e ∙ sym (has-filter (λ f. not (is_same Normal f)) A e)
      where
        by : (e : End) → has A e ≡ (has A e && not (is_same Normal e))
        by Normal = h ∙ sym (ap (λ b. b && false) h)
        by Return = and-true (has A Return)
        by Exception = and-true (has A Exception)
        by (Exit k) = and-true (has A (Exit k))

    by-rest : (rest : Rest) → is_met rest A ≡ false →
        code_in (cond (are_met Here rest A) (Met (before (only_part (Choice H no_part)) Here A rest)) Unmet)
        ≡ only H W
    by-rest Last h =
        ap (λ (x : Code). code_in (cond (are_met Here Last A) (Met x) Unmet)) (left-alone A h)
        ∙ guarded (are_met Here Last A) (only H A) (λ m. unmet-left A (sym (met-last Here A) ∙ m))
        ∙ only-alike H A W (same h)
    by-rest Unmet h =
        ap (λ (x : Code). code_in (cond (are_met Here Unmet A) (Met x) Unmet)) (left-alone W (none-left A))
        ∙ guarded (are_met Here Unmet A) (only H W)
        (λ m. unmet-left W (left-false (do_meet Here W) (has Here Normal && false) m))
    by-rest (Met code) h = absurd (true≢false h)

    -- of a group that has no end that is asked for, behind what goes on in it
    pub unmet-last : (G : Draft) → meets G A ≡ false → only (part_then (Choice H no_part) G) A ≡ only H W
    unmet-last G h = by-rest (onto G A Last) (alone-met G A ∙ h)

-- ---- the first so many groups

some-entered : (groups : List Parts) → 0 < length groups →
    entered groups ≡ Choice (in_order (fallen groups)) no_part ∷ []
some-entered [] h = absurd (omega (arith, h))
some-entered (group ∷ groups) h = refl

-- the last of them
pub last-of : (groups : List Parts) (i : ℕ) (x : Parts) → i < length groups → x ≡ get_or groups i x →
    fallen (take (i + 1) groups) ≡ entered (take i groups) ++ x
last-of groups i x there is =
    ap (λ (gs : List Parts). fallen gs) (take_more groups i x there
    ∙ ap (λ (y : Parts). take i groups ++ y ∷ []) (sym is))
    ∙ fallen-last (take i groups) x

pub entered-first : (groups : List Parts) (i : ℕ) → 0 < i → i < length groups →
    entered (take i groups) ≡ Choice (in_order (fallen (take i groups))) no_part ∷ []
entered-first groups i some within =
    let long : length (take i groups) ≡ i = length-take-le i groups (omega (arith, within)) in
    some-entered (take i groups) (omega (arith, some, long))

pub passed-code : (groups : List Parts) (count : ℕ) (group : Parts) (A : Ends) → 1 < count →
    count - 1 < length groups → group ≡ get_or groups (count - 1) group → meets (in_order group) A ≡ false →
    IsPassed groups count A
passed-code groups count group A some within is unmet =
    let i = count - 1 in
    let counted : i + 1 ≡ count = omega (arith, some) in
    let positive : 0 < i = omega (arith, some) in
    let H = in_order (fallen (take i groups)) in (
      some,
      sym (ap (λ n. only (in_order (fallen (take n groups))) A) (sym counted)
          ∙ ap (λ (parts : Parts). only (in_order parts) A) (last-of groups i group within is
          ∙ ap (λ (parts : Parts). parts ++ group) (entered-first groups i positive within))
          ∙ unmet-last H A (in_order group) unmet),
    )

-- ---- items

pub pushed-groups : (groups : List Parts) (count i : ℕ) (x : Parts) (old mid new pieces : Parts) → 1 ≤ count →
    i ≡ count - 1 → i < length groups → x ≡ get_or groups i x → mid ≡ old ++ entered (take i groups) →
    pieces ≡ x → new ≡ mid ++ pieces → new ≡ old ++ fallen (take count groups)
pushed-groups groups count i x old mid new pieces some at there is first seen put =
    let counted : i + 1 ≡ count = omega (arith, some, at) in
    put ∙ ap (λ (ps : Parts). mid ++ ps) seen ∙ ap (λ (ps : Parts). ps ++ x) first
    ∙ append_assoc old (entered (take i groups)) x ∙ ap (λ (ps : Parts). old ++ ps) (sym (last-of groups i x there is))
    ∙ ap (λ n. old ++ fallen (take n groups)) counted

-- of a group as the code reads it
pub read-passed : (drafts groups read : List Parts) (count : ℕ) (group : Parts) (A E : Ends) (met : Bool) →
    drafts ≡ groups → read ≡ drafts → 1 < count → count - 1 < length read → group ≡ get_or read (count - 1) group →
    SameEnds E (ends (in_order group)) → met ≡ do_meet E A → not met ≡ true → IsPassed groups count A
read-passed drafts groups read count group A E met view whole some within is same found h =
    let all : read ≡ groups = whole ∙ view in
    passed-code groups count group A some (omega (arith, within, ap (λ (gs : List Parts). length gs) all))
    (is ∙ ap (λ (gs : List Parts). get_or gs (count - 1) group) all)
    (sym (meet-same E (ends (in_order group)) A A same (λ e. refl)) ∙ sym found ∙ not-back met h)

-- ---- how large they are

fall-taken : (before : Parts) (groups : List Parts) (n m : ℕ) → n ≤ m →
    size_of (fall_in before (take n groups)) ≤ size_of (fall_in before (take m groups))
fall-taken before groups zero m h = fall_in-more before (take m groups)
fall-taken before groups (suc n) zero h = absurd (omega (arith, h))
fall-taken before [] (suc n) (suc m) h = omega arith
fall-taken before (group ∷ groups) (suc n) (suc m) h =
    fall-taken (Choice (in_order before) no_part ∷ group) groups n m (omega (arith, h))

pub taken-size : (groups : List Parts) (n m : ℕ) → n ≤ m →
    size_of (fallen (take n groups)) ≤ size_of (fallen (take m groups))
taken-size groups zero m h = omega arith
taken-size groups (suc n) zero h = absurd (omega (arith, h))
taken-size [] (suc n) (suc m) h = omega arith
taken-size (group ∷ groups) (suc n) (suc m) h = fall-taken group groups n m (omega (arith, h))
