-- Counts of parts, one after another.
use Rattle.std.proofs.Common.{◌≡◌, ℕ, ◌+◌, ◌≤◌, ◌<◌, min, List, [], ◌∷◌, ◌++◌, Option, None, Some, slice_get}
use Rattle.std.proofs.Common.{refl, sym, ap, ◌∙◌, arith}
use Rattle.std.specs.Option.{option_or}
use Rattle.racer_base.specs.declared.ids.Place.{Place}
use Rattle.core_ways.specs.declared.count.Count.{Count}
use Rattle.racer_base.specs.declared.limits.TheConstants.{MAX_WAY_STEPS}
use Rattle.racer_base.proofs.Lists.{no_first, option_or-assoc, option_or-none}
use Rattle.core_semantics.specs.declared.answer.Turn.{Turn}
use Rattle.core_ways.specs.Answers.{counted, IsLong, IsTaken}
use Rattle.core_ways.specs.Counts.{count_of, added}
use Rattle.core_ways.specs.Ways.{Trip, straight, joined}

pub counted-both : (a b : ℕ) → counted (a + b) ≡ counted (counted a + counted b)
counted-both a b = omega arith

pub counted-assoc : (a b c : ℕ) → counted (a + counted (b + c)) ≡ counted (counted (a + b) + c)
counted-assoc a b c = omega arith

pub first-both : (xs ys : List Place) → slice_get (xs ++ ys) 0 ≡ option_or (slice_get xs 0) (slice_get ys 0)
first-both [] ys = refl
first-both (x ∷ xs) ys = refl

abbrev made : ℕ → Option Place → Count
made steps unread = record { steps = steps; unread = unread }

pub count_of-joined : (a b : Trip) → count_of (joined a b) ≡ added (count_of a) (count_of b)
count_of-joined a b = (λ i. made (counted-both a.steps b.steps i) (first-both a.unread b.unread i))

pub added-assoc : (a b c : Count) → added a (added b c) ≡ added (added a b) c
added-assoc a b c = (λ i. made (counted-assoc a.steps b.steps c.steps i) (option_or-assoc a.unread b.unread c.unread i))

-- nothing before, and nothing behind
pub none-before : (t : Trip) → added (made 0 None) (count_of t) ≡ count_of t
none-before t = let same : counted (0 + counted t.steps) ≡ counted t.steps = omega arith in
    (λ i. made (same i) (slice_get t.unread 0))

pub none-behind : (c : Count) → c.steps ≤ 4294967295 → added c (count_of (straight 0)) ≡ c
none-behind c within =
    let same : counted (c.steps + 0) ≡ c.steps = omega arith in
    (λ i. made (same i) (option_or-none c.unread i))

-- one more part of what is left
pub counts-on : (t : Trip) (at part : Count) (here rest whole : Trip) → part ≡ count_of here →
    t ≡ joined here rest → added at (count_of t) ≡ count_of whole →
    added (added at part) (count_of rest) ≡ count_of whole
counts-on t at part here rest whole is next so_far =
    ap (λ (c : Count). added (added at c) (count_of rest)) is
    ∙ sym (added-assoc at (count_of here) (count_of rest))
    ∙ ap (added at) (sym (count_of-joined here rest))
    ∙ ap (λ (x : Trip). added at (count_of x)) (sym next)
    ∙ so_far

steps-of-count : (t : Trip) (c : Count) → c ≡ count_of t → c.steps ≡ min t.steps 4294967295
steps-of-count t c is = ap (λ (x : Count). x.steps) is

all-read : (t : Trip) (c : Count) → c ≡ count_of t → c.unread ≡ None → t.unread ≡ []
all-read t c is none = no_first t.unread (sym (ap (λ (x : Count). x.unread) is) ∙ none)

pub first-unread : (t : Trip) (c : Count) (place : Place) → c ≡ count_of t → c.unread ≡ Some place →
    slice_get t.unread 0 ≡ Some place
first-unread t c place is some = sym (ap (λ (x : Count). x.unread) is) ∙ some

pub is-long : (t : Trip) (c : Count) → c ≡ count_of t → c.unread ≡ None → MAX_WAY_STEPS < c.steps → IsLong t c.steps
is-long t c is none over =
    let steps = steps-of-count t c is in
    record { read = all-read t c is none; long = omega (arith, steps); count = steps }

pub is-taken : (t : Trip) (c : Count) (turns : List Turn) → c ≡ count_of t → c.unread ≡ None →
    c.steps ≤ MAX_WAY_STEPS → turns ≡ t.turns → IsTaken t (record { turns = turns; steps = c.steps })
is-taken t c turns is none within same =
    let steps = steps-of-count t c is in
    record { read = all-read t c is none; short = omega (arith, steps); turns = same; steps = omega (arith, steps) }
