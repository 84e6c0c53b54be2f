use Rattle.std.proofs.Common.{Bool, nat_eq, refl}
use Rattle.std.specs.List.{list_any}
use Rattle.racer_base.specs.declared.ids.MethodId.{MethodId}
use Rattle.core_code.specs.Falling.{number_of}
use Rattle.core_code.proofs.Passing.{none_yet, found, none, same_numbers, other_numbers}
use Rattle.core_code.proofs.cycles.has_number.Goals as goal

pub loop-callee-preserved : goal.loop-callee-preserved
loop-callee-preserved c =
    let test : MethodId → Bool = λ n. nat_eq (number_of c.args.numbers.now n) c.args.own in
    let callees = c.args.callees.now in
    none_yet test callees c.loop-callee.callee-index (list_any test callees) _ c.loop-callee-test.true
    (other_numbers _ _ _ _ c.entry.ensures refl c.if-entry-own.false) c.loop-callee.invariant

pub returns-then-entry-own : goal.returns-then-entry-own
returns-then-entry-own c =
    let test : MethodId → Bool = λ n. nat_eq (number_of c.args.numbers.now n) c.args.own in
    let callees = c.args.callees.now in
    found test callees c.loop-callee.callee-index (list_any test callees) _ c.loop-callee-test.true
    (same_numbers _ _ _ _ c.entry.ensures refl c.if-entry-own.true) c.loop-callee.invariant

pub returns : goal.returns
returns c =
    let test : MethodId → Bool = λ n. nat_eq (number_of c.args.numbers.now n) c.args.own in
    let callees = c.args.callees.now in
    none test callees c.loop-callee.callee-index (list_any test callees) c.loop-callee-test.false
    c.loop-callee.invariant
