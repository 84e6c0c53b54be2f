use Rattle.std.proofs.Common.{◌≡◌, ◌++◌, OnOk, Some, sym, ap, subst, ◌∙◌, arith}
use Rattle.std.specs.BTreeMap.{get}
use Rattle.std.specs.Option.{option_copied}
use Rattle.std.specs.Ordering.{nat_cmp}
use Rattle.core_code.specs.Program.{core}
use Rattle.core_ways.specs.declared.part.WayPart.TheVariants.{Step}
use Rattle.core_ways.specs.Ways.{Trip}
use Rattle.core_ways.proofs.Tables.{entry-right, height-of-method, part-within, trip-of-method}
use Rattle.core_ways.proofs.turns.+turning.Goals as goal

pub push_method-push_turns-requires : goal.push_method-push_turns-requires
push_method-push_turns-requires t c =
    let program = core c.args.program.now in
    let m = c.args.method in
    let is : get nat_cmp c.args.table.now m.0 ≡ Some c.in-Some.passing.now =
    sym c.get.ensures.value ∙ ap option_copied c.in-Some.is in
    let right = entry-right program c.args.table.now m c.in-Some.passing.now c.requires is in
    let low = height-of-method program m c.as_slice.result.now c.args.program.now.ranks_there
    (c.as_slice.ensures.value ∙ right.parts) in
    (omega (arith, low, c.decreases), c.requires)

pub push_method-returns-in-Some : goal.push_method-returns-in-Some
push_method-returns-in-Some t c =
    let program = core c.args.program.now in
    let m = c.args.method in
    let is : get nat_cmp c.args.table.now m.0 ≡ Some c.in-Some.passing.now =
    sym c.get.ensures.value ∙ ap option_copied c.in-Some.is in
    let right = entry-right program c.args.table.now m c.in-Some.passing.now c.requires is in
    subst (λ (trip : Trip). OnOk c.push_turns.result
    (c.push_turns.new.turns.items ≡ c.args.turns.now.items ++ trip.turns))
    (sym (trip-of-method program m c.as_slice.result.now c.args.program.now.ranks_there
    (c.as_slice.ensures.value ∙ right.parts))) c.push_turns.ensures

pub push_method-push_turns-requires-2 : goal.push_method-push_turns-requires-2
push_method-push_turns-requires-2 t c =
    let low = height-of-method (core c.args.program.now) c.args.method c.as_slice-2.result.now
    c.args.program.now.ranks_there (c.as_slice-2.ensures.value ∙ c.in-Ok.ensures) in
    (omega (arith, low, c.decreases), c.requires)

pub push_method-returns : goal.push_method-returns
push_method-returns t c =
    subst (λ (trip : Trip). OnOk c.push_turns-2.result
    (c.push_turns-2.new.turns.items ≡ c.args.turns.now.items ++ trip.turns))
    (sym (trip-of-method (core c.args.program.now) c.args.method c.as_slice-2.result.now c.args.program.now.ranks_there
    (c.as_slice-2.ensures.value ∙ c.in-Ok.ensures))) c.push_turns-2.ensures

pub push_turns-push_part-requires : goal.push_turns-push_part-requires
push_turns-push_part-requires t c =
    let within = part-within (core c.args.program.now) c.args.parts.now c.loop-part.part-index Step
    c.loop-part-test.true in
    (omega (arith, within, c.decreases), c.requires)
