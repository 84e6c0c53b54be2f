use Rattle.std.proofs.Common.{◌≡◌, ◌<◌, true, List, Some, is_none, length, map, sym, ap, subst, ◌∙◌}
use Rattle.std.specs.Prelude.{slice_get}
use Rattle.std.specs.Arc.{arc_value}
use Rattle.core_code.specs.declared.program.Program.{Program}
use Rattle.core_code.specs.Calls.{method_at}
use Rattle.core_code.specs.Core.{Method, method_of}
use Rattle.core_code.specs.Program.{core, methods}
use Rattle.access_domain.specs.Findings.{outcome_from}
use Rattle.access_domain.specs.Summaries.{known_given, outcome_of}
use Rattle.core_code.proofs.RowCallees.{analysed_at}
use Rattle.transfer_steps.specs.Known.{table_of}
use Rattle.transfer.proofs.HighEnough.{enough_at}
use Rattle.transfer.proofs.Handed.{in_range, found_at, outcome-known}
use Rattle.transfer.proofs.analysis.analyse.Goals as goal

pub bounds-methods-method : goal.bounds-methods-method
bounds-methods-method c =
    let ms = c.methods.result.now in
    let all : map method_of ms ≡ methods (arc_value c.args.program.now) =
    c.methods.ensures ∙ ap methods c.deref.ensures in
    in_range ms c.args.method.0
    (subst (λ (xs : List Method). analysed_at (slice_get xs c.args.method.0) ≡ true) (sym all) c.requires.analysed)

pub invariant_of-result : goal.invariant_of-result
invariant_of-result c =
    let program = core (arc_value c.args.program.now) in
    let m = c.args.method in
    let ms = c.methods.result.now in
    let x = c.index-methods-method.result in
    let callees = c.in-Ok.callees.items in
    let all : map method_of ms ≡ methods (arc_value c.args.program.now) =
    c.methods.ensures ∙ ap methods c.deref.ensures in
    let within : m.0 < length ms =
    in_range ms m.0
    (subst (λ (xs : List Method). analysed_at (slice_get xs m.0) ≡ true) (sym all) c.requires.analysed) in
    let at : method_at program m ≡ Some (method_of x) =
    ap (λ (xs : List Method). slice_get xs m.0) (sym all) ∙ found_at ms m.0 x within c.index-methods-method.is in
    let analysed : is_none (method_of x).status ≡ true = ap analysed_at (sym at) ∙ c.requires.analysed in
    record {
      right =
          ap Some
          (c.in-Ok-new.ensures.ok
          ∙ c.in-Ok-outcome.ensures
          ∙ (λ i. outcome_from
          (known_given (core (c.deref-2.ensures i)) (table_of (c.as_slice.ensures.value i)) (method_of x))))
          ∙ outcome-known program m (method_of x) callees c.args.callees.now
          (arc_value c.args.program.now).ranks_there at analysed c.in-Ok.ensures c.requires.callees
          ∙ ap (λ (p : Program). outcome_of (core p) m) (sym c.in_ok-clone.ensures.cases);
    }

pub outcome-requires : goal.outcome-requires
outcome-requires c =
    let program = arc_value c.args.program.now in
    let ms = c.methods.result.now in
    let x = c.index-methods-method.result in
    let all : map method_of ms ≡ methods program = c.methods.ensures ∙ ap methods c.deref.ensures in
    let within : c.args.method.0 < length ms =
    in_range ms c.args.method.0
    (subst (λ (xs : List Method). analysed_at (slice_get xs c.args.method.0) ≡ true) (sym all) c.requires.analysed) in
    enough_at (methods program) c.args.method.0 (method_of x) program.stacks_enough
    (ap (λ (xs : List Method). slice_get xs c.args.method.0) (sym all)
    ∙ found_at ms c.args.method.0 x within c.index-methods-method.is)
