-- Drafts one after another, as lists of parts.
use Rattle.std.proofs.Common.{◌≡◌, Bool, true, false, not, ◌||◌, List, [], ◌∷◌, ◌++◌, filter, cond, refl, sym, ap, ◌∙◌}
use Rattle.std.proofs.Common.{append_assoc}
use Rattle.std.proofs.lemmas.Bool.{cond-true, cond-false}
use Rattle.std.proofs.lemmas.List.Elements.{filter-append}
use Rattle.std.proofs.Math.Bool.{and-false}
use Rattle.core_lowering_drafts.specs.Drafts.{End, Normal, Ends, is_same, has, without, Part, in_order}
use Rattle.core_lowering_drafts.specs.Drafts.{part_ends, ends, ends_then}
use Rattle.core_lowering_drafts.specs.Only.{Rest, Met, Unmet, are_met, before, only_part, onto}
use Rattle.core_lowering_drafts.proofs.Sets.{has-append, has-filter}

-- ---- what stands behind

pub onto-append : (a b : List Part) (asked : Ends) (rest : Rest) →
    onto (in_order (a ++ b)) asked rest ≡ onto (in_order a) asked (onto (in_order b) asked rest)
onto-append [] b asked rest = refl
onto-append (part ∷ a) b asked rest =
    ap (λ (behind : Rest).
    cond (are_met (part_ends part) behind asked) (Met (before (only_part part) (part_ends part) asked behind)) Unmet)
    (onto-append a b asked rest)

-- ---- ends

kept-once : (b : Bool) (e : End) (es fs : Ends) → filter (λ f. not (is_same Normal f)) es ≡ fs →
    not (is_same Normal e) ≡ b →
    filter (λ f. not (is_same Normal f)) (cond b (e ∷ es) es) ≡ cond b (e ∷ fs) fs
kept-once true e es fs h k = ap (λ c. cond c (e ∷ filter (λ f. not (is_same Normal f)) es)
    (filter (λ f. not (is_same Normal f)) es)) k ∙ ap (λ (xs : Ends). e ∷ xs) h
kept-once false e es fs h k = h

-- ends are left out once
without-twice : (es : Ends) → without Normal (without Normal es) ≡ without Normal es
without-twice [] = refl
without-twice (e ∷ es) =
    kept-once (not (is_same Normal e)) e (without Normal es) (without Normal es) (without-twice es) refl

pub none-left : (es : Ends) → has (without Normal es) Normal ≡ false
none-left es = has-filter (λ f. not (is_same Normal f)) es Normal ∙ and-false (has es Normal)

module _ (first more last : Ends) where
  abbrev Rests : Ends
  Rests = without Normal first ++ more

  behind-first : has Rests Normal ≡ has more Normal
  behind-first = has-append (without Normal first) more Normal ∙ ap (λ b. b || has more Normal) (none-left first)

  rest-on : without Normal Rests ++ last ≡ without Normal first ++ (without Normal more ++ last)
  rest-on =
      ap (λ (es : Ends). es ++ last) (filter-append (λ f. not (is_same Normal f)) (without Normal first) more)
      ∙ ap (λ (es : Ends). (es ++ without Normal more) ++ last) (without-twice first)
      ∙ append_assoc (without Normal first) (without Normal more) last

  by-more : (b : Bool) → has more Normal ≡ b →
      without Normal first ++ ends_then more last ≡ ends_then Rests last
  by-more true e =
      ap (λ (es : Ends). without Normal first ++ es) (cond-true _ (without Normal more ++ last) more e)
      ∙ sym rest-on ∙ sym (cond-true _ (without Normal Rests ++ last) Rests (behind-first ∙ e))
  by-more false e =
      ap (λ (es : Ends). without Normal first ++ es) (cond-false _ (without Normal more ++ last) more e)
      ∙ sym (cond-false _ (without Normal Rests ++ last) Rests (behind-first ∙ e))

  by-first : (b : Bool) → has first Normal ≡ b →
      ends_then first (ends_then more last) ≡ ends_then (ends_then first more) last
  by-first true e =
      cond-true _ (without Normal first ++ ends_then more last) first e ∙ by-more (has more Normal) refl
      ∙ ap (λ (es : Ends). ends_then es last) (sym (cond-true _ Rests first e))
  by-first false e =
      cond-false _ (without Normal first ++ ends_then more last) first e
      ∙ sym (cond-false _ (without Normal first ++ last) first e)
      ∙ ap (λ (es : Ends). ends_then es last) (sym (cond-false _ Rests first e))

  pub then-then : ends_then first (ends_then more last) ≡ ends_then (ends_then first more) last
  then-then = by-first (has first Normal) refl

pub ends-append : (a b : List Part) →
    ends (in_order (a ++ b)) ≡ ends_then (ends (in_order a)) (ends (in_order b))
ends-append [] b = refl
ends-append (part ∷ a) b =
    ap (ends_then (part_ends part)) (ends-append a b)
    ∙ then-then (part_ends part) (ends (in_order a)) (ends (in_order b))
