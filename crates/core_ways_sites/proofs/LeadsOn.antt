-- What is gone, and what leads on from there.
use Rattle.std.proofs.Common.{◌≡◌, ℕ, ◌+◌, min, List, [], ◌∷◌, ◌++◌, Option, None, Some, length, take}
use Rattle.std.proofs.Common.{refl, sym, ap, subst, ◌∙◌, append_assoc, arith}
use Rattle.std.proofs.Math.Seq.{take-append_seam}
use Rattle.std.specs.Option.{option_or}
use Rattle.racer_base.specs.declared.ids.Place.{Place}
use Rattle.core_semantics.specs.declared.answer.Turn.{Turn}
use Rattle.core_ways.specs.declared.count.Count.{Count}
use Rattle.core_ways.specs.Counts.{added, count_of}
use Rattle.core_ways.specs.Ways.{Trip, joined, straight}
use Rattle.core_ways.proofs.Counted.{added-assoc, count_of-joined, none-before, none-behind}
use Rattle.core_ways_sites.specs.Gone.{IsGone, IsLonger, IsOpen, LeadsOn}

first-none : (p q : Option Place) → option_or p q ≡ None → p ≡ None
first-none None q e = refl
first-none (Some x) q e = e

second-none : (p q : Option Place) → option_or p q ≡ None → q ≡ None
second-none None q e = e
second-none (Some x) q e = absurd cc

-- what is open was open before
pub open-before : (a b : Count) → IsOpen (added a b) → IsOpen a
open-before a b is_open =
    record {
      read = first-none a.unread b.unread is_open.read;
      short = omega (arith, is_open.short);
    }

-- nothing is gone yet
pub starts : (whole : Trip) (count : Count) → count ≡ count_of (straight 0) → LeadsOn count [] whole whole
starts whole count is =
    record {
      small = let none = ap (λ (c : Count). c.steps) is in omega (arith, none);
      counted = ap (λ (c : Count). added c (count_of whole)) is ∙ none-before whole;
      turned = λ o. refl;
    }

zero-count : count_of (straight 0) ≡ (let none : Count = record { steps = 0; unread = None } in none)
zero-count =
    let none : min 0 4294967295 ≡ 0 = omega arith in
    (λ i. let made : Count = record { steps = none i; unread = None } in made)

pub starts-empty : (whole : Trip) (turns : List Turn) → turns ≡ [] →
    LeadsOn (record { steps = 0; unread = None }) turns whole whole
starts-empty whole turns none =
    subst (λ (ts : List Turn). LeadsOn (record { steps = 0; unread = None }) ts whole whole) (sym none)
    (starts whole (record { steps = 0; unread = None }) (sym zero-count))

-- one part more is gone
pub goes : (count now : Count) (turns more : List Turn) (here rest whole : Trip) → now ≡ added count (count_of here) →
    (IsOpen now → more ≡ turns ++ here.turns) → LeadsOn count turns (joined here rest) whole →
    LeadsOn now more rest whole
goes count now turns more here rest whole is grown leads =
    let counted : added now (count_of rest) ≡ count_of whole =
    ap (λ (c : Count). added c (count_of rest)) is
    ∙ sym (added-assoc count (count_of here) (count_of rest))
    ∙ ap (added count) (sym (count_of-joined here rest))
    ∙ leads.counted in
    let steps = ap (λ (c : Count). c.steps) is in
    record {
      small = omega (arith, steps);
      counted = counted;
      turned = λ o.
          ap (λ (ts : List Turn). ts ++ rest.turns)
          (grown (open-before now (count_of rest) (subst IsOpen (sym counted) o)))
          ∙ append_assoc turns here.turns rest.turns
          ∙ leads.turned o;
    }

-- what is open behind others was open by itself
pub open-behind : (a b : Count) → IsOpen (added a b) → IsOpen b
open-behind a b is_open =
    record {
      read = second-none a.unread b.unread is_open.read;
      short = omega (arith, is_open.short);
    }

-- what is gone by itself is gone more
pub adds : (count more now : Count) (turns behind new : List Turn) (here rest whole : Trip) → now ≡ added count more →
    (IsOpen now → new ≡ turns ++ behind) → IsGone here more behind → LeadsOn count turns (joined here rest) whole →
    LeadsOn now new rest whole
adds count more now turns behind new here rest whole is grown gone leads =
    goes count now turns new here rest whole (is ∙ ap (added count) gone.counted)
    (λ o. grown o
    ∙ ap (λ (ts : List Turn). turns ++ ts) (gone.turned (open-behind count more (subst IsOpen is o))))
    leads

append-none : (turns : List Turn) → turns ++ [] ≡ turns
append-none [] = refl
append-none (t ∷ turns) = ap (λ (ts : List Turn). t ∷ ts) (append-none turns)

-- nothing is left
pub arrives : (count : Count) (turns : List Turn) (whole : Trip) → LeadsOn count turns (straight 0) whole →
    IsGone whole count turns
arrives count turns whole leads =
    let counted : count ≡ count_of whole = sym (none-behind count leads.small) ∙ leads.counted in
    record {
      counted = counted;
      turned = λ o. sym (append-none turns) ∙ leads.turned (subst IsOpen counted o);
    }

-- the last part is gone
pub arrives-behind : (count : Count) (turns : List Turn) (rest whole : Trip) → rest ≡ straight 0 →
    LeadsOn count turns rest whole → IsGone whole count turns
arrives-behind count turns rest whole none leads =
    arrives count turns whole (subst (λ (t : Trip). LeadsOn count turns t whole) none leads)

-- ---- turns that grow and are cut back

pub no-longer : (turns : List Turn) → IsLonger turns turns
no-longer turns = ([], sym (append-none turns))

pub longer-by : (old new more : List Turn) → new ≡ old ++ more → IsLonger old new
longer-by old new more is = (more, is)

pub longer-then : (a b c : List Turn) → IsLonger a b → IsLonger b c → IsLonger a c
longer-then a b c first second = (
  first.0 ++ second.0,
  second.1 ∙ ap (λ (ts : List Turn). ts ++ second.0) first.1 ∙ append_assoc a first.0 second.0,
)

pub cut-back : (old new cut : List Turn) (n : ℕ) → n ≡ length old → IsLonger old new → cut ≡ take n new → cut ≡ old
cut-back old new cut n count longer is =
    is ∙ (λ i. take (count i) (longer.1 i)) ∙ take-append_seam old longer.0
