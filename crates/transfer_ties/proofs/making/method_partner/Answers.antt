use Rattle.std.proofs.Common.{◌≡◌, ℕ, false, not, length, List, Some, None, option_map, sym, ap, ◌∙◌}
use Rattle.std.specs.Prelude.{Option, if◌then◌else◌, is_some}
use Rattle.racer_base.specs.declared.ids.MethodId.{MethodId}
use Rattle.core_code.specs.declared.parts.MethodCore.{MethodCore}
use Rattle.keyed_numbers.specs.Numbers.{Named, number_at}
use Rattle.transfer_ties.specs.Names.{method_partner}
use Rattle.transfer_ties.proofs.making.method_partner.Goals as goal

abbrev method_id : ℕ → MethodId
method_id n = record { 0 = n }

-- the number that is found for an analysed method
found_for : (numbers : Named) (m : MethodCore) (count : ℕ) (name : List ℕ) (o : Option ℕ) →
    is_some m.status ≡ false → name ≡ m.name → count ≡ length m.parameters →
    o ≡ number_at numbers name (m.class.0, count) → option_map method_id o ≡ method_partner numbers m
found_for numbers m count name o read own few found =
    ap (option_map method_id) (found ∙ (λ i. number_at numbers (own i) (m.class.0, few i)))
    ∙ sym (ap (λ b. if not b
    then option_map method_id (number_at numbers m.name (m.class.0, length m.parameters)) else None) read)

pub returns-in-Some : goal.returns-in-Some
returns-in-Some c =
    found_for c.args.numbers.now c.args.method.now c.in_ok-number_of.field-0 c.as_str.result.now
    (Some c.in-Some.number) (sym c.is_some.ensures ∙ c.if-is_some.false) c.as_str.ensures
    (c.in_ok-number_of.ensures ∙ c.len.ensures) c.in-Some.ensures

pub returns-in-None : goal.returns-in-None
returns-in-None c =
    found_for c.args.numbers.now c.args.method.now c.in_ok-number_of.field-0 c.as_str.result.now None
    (sym c.is_some.ensures ∙ c.if-is_some.false) c.as_str.ensures (c.in_ok-number_of.ensures ∙ c.len.ensures)
    c.in-None.ensures
