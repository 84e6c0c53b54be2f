use Rattle.std.proofs.Common.{◌≡◌, drop}
use Rattle.std.specs.Prelude.{slice_get}
use Rattle.std.specs.Arc.{arc_value}
use Rattle.std.specs.List.{list_all}
use Rattle.racer_base.specs.declared.ids.MethodId.{MethodId}
use Rattle.summary_store.specs.Kept.{pieces_of, has_piece}
use Rattle.summary_store.proofs.locked.all_there.Given as goal

abbrev pub invariant-loop-callee : goal.invariant-loop-callee
invariant-loop-callee g l =
    let test = λ (c : MethodId). has_piece (slice_get (pieces_of arc_value l.table) c.0) in
    list_all test (drop l.callee-index l.row) ≡ list_all test l.row
