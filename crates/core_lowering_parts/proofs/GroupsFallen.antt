-- Groups that go on each in the next one, as a part of a draft holds them.
use Rattle.std.proofs.Common.{◌≡◌, ◌≤◌, List, [], ◌∷◌, Some, None, length, refl, sym, ap, arith}
use Rattle.core_lowering_drafts.specs.Drafts.{Choice, in_order, no_part}
use Rattle.core_lowering_drafts.specs.Groups.{fall_in}
use Rattle.core_lowering_drafts.specs.Groups as groups
use Rattle.core_lowering_rules.specs.Context.{Code}
use Rattle.core_lowering_rules.specs.Statements.{entered}
use Rattle.core_lowering_parts.specs.StatementParts.{fallen}

fallen-some : (before : Code) (all : List Code) → fallen (Some before) all ≡ Some (fall_in before all)
fallen-some before [] = refl
fallen-some before (group ∷ all) = fallen-some (Choice (in_order before) no_part ∷ group) all

pub fallen-there : (all : List Code) → 1 ≤ length all →
    Choice (in_order (groups.fallen all)) no_part ∷ [] ≡ entered (fallen None all)
fallen-there [] more = absurd (omega (arith, more))
fallen-there (group ∷ all) more = ap entered (sym (fallen-some group all))
