use Rattle.std.proofs.Common.{◌≡◌, suc, ◌≤◌, List, None, Option, length, ap, ◌∙◌, arith}
use Rattle.std.specs.Prelude.{slice_index_or}
use Rattle.typed_core.specs.declared.states.KindState.{KindState}
use Rattle.typed_core.specs.Resuming.{entered}
use Rattle.typed_core.proofs.loops.Walk.enter.Goals as goal

pub go_on-requires : goal.go_on-requires
go_on-requires c =
    let mid = c.pass.new.self in
    let long : length c.as_slice.result.now ≡ length mid.heads.items = ap length c.as_slice.ensures.value in
    let room : mid.next ≤ length mid.heads.items = c.in-Ok.ensures.room in
    let next : mid.next ≡ suc c.args.self.now.next = c.in-Ok.ensures.number in
    let is : c.in-Ok.number ≡ c.args.self.now.next = c.in-Ok.ensures.is in
    omega arith

pub returns : goal.returns
returns c =
    let passed = c.in-Ok.ensures in
    let number = c.in-Ok.number in
    let here = c.args.here.now in
    record {
      is = passed.is;
      number = passed.number;
      room = passed.room;
      heads = passed.heads;
      doubts = passed.doubts;
      joined =
          c.in-Ok-go_on.ensures
          ∙ ap (λ (list : List (Option KindState)). entered (slice_index_or list number None) here)
          c.as_slice.ensures.value
          ∙ ap (λ (o : Option KindState). entered o here) (passed.heads number);
    }
