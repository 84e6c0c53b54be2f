-- Outcomes that are the same by partners are the same by names.
use Rattle.std.proofs.Common.{◌≡◌, Bool, true, false, ◌&&◌, refl}
use Rattle.core_code.specs.Core.{Core}
use Rattle.access_domain.specs.declared.summary.Summary.{Summary}
use Rattle.access_domain.specs.declared.summary.Outcome.{Outcome}
use Rattle.access_domain.specs.declared.summary.Outcome.TheVariants as code
use Rattle.transfer_ties.specs.declared.partners.Ties.{Ties}
use Rattle.transfer_ties.specs.Names as named
use Rattle.transfer_ties.specs.Outcomes.{same_outcome, same_summary}
use Rattle.transfer_ties.specs.Partners.{AreTies}
use Rattle.transfer_ties.proofs.Sets.{set_tells}
use Rattle.transfer_ties.proofs.Tied.{tied_records, tied_value}

pub with_true : (b : Bool) → (b && true) ≡ b
with_true true = refl
with_true false = refl

module _ (p q : Core) (ties : Ties) (are : AreTies p q ties) where
  tied_summary : (s t : Summary) → named.same_summary ties s t ≡ same_summary p q s t
  tied_summary s t = λ i.
      tied_records p q ties are s.accesses t.accesses i && set_tells p q ties are s.wobbly t.wobbly i
      && tied_value p q ties are s.result t.result i

  pub tied_outcome : (a b : Outcome) → named.same_outcome ties a b ≡ same_outcome p q a b
  tied_outcome (code.Summary s) (code.Summary t) = tied_summary s t
  tied_outcome _ _ = refl
