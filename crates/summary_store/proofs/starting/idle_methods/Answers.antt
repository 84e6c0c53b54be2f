use Rattle.std.proofs.Common.{◌<◌, [], ◌∷◌, ◌++◌, true, false, length, take, sym, ap, ◌∙◌, arith, append-nil}
use Rattle.std.proofs.Common.{vec_capacity, length-take}
use Rattle.racer_base.specs.declared.ids.MethodId.{MethodId}
use Rattle.core_code.specs.Counting.{flags_of}
use Rattle.core_code.specs.Program.{core}
use Rattle.core_code.proofs.KindLemmas.{same_method}
use Rattle.summary_store.proofs.Weights.{flagged_step, flagged-length}
use Rattle.summary_store.proofs.starting.idle_methods.Goals.{then-is_analysed, else-is_analysed}
use Rattle.summary_store.proofs.starting.idle_methods.Goals as goal

pub push_reserved-requires : goal.push_reserved-requires
push_reserved-requires c =
    let l = ap length c.loop-place.invariant.items in
    omega (
      arith,
      flagged-length 0 (take c.loop-place.place (flags_of (core c.args.program.now))),
      length-take c.loop-place.place (flags_of (core c.args.program.now)),
      c.loop-place.methods.ok.0,
      c.loop-place.invariant.room,
      c.loop-place-test.true,
      c.count-place-end.ensures,
    )

pub loop-place-preserved : goal.loop-place-preserved
loop-place-preserved c =
    let low : c.loop-place.place < length (flags_of (core c.args.program.now)) =
    omega (arith, c.loop-place-test.true, c.count-place-end.ensures) in
    elim c.if-is_analysed.branch [
      | then-is_analysed w ↦ record {
        items = flagged_step (flags_of (core c.args.program.now)) c.loop-place.place true c.loop-place.methods.items _
            low w.if-is_analysed.ensures c.loop-place.invariant.items (ap (λ v. v.items) w.methods-is
            ∙ w.push_reserved.ensures.items ∙ ap (λ (k : MethodId). c.loop-place.methods.items ++ k ∷ [])
            (same_method c.in_ok-m.m (record { 0 = c.loop-place.place }) c.in_ok-m.ensures));
        room = (let e = ap vec_capacity w.methods-is in
            omega (arith, w.push_reserved.ensures.capacity, c.loop-place.invariant.room));
      }
      | else-is_analysed w ↦ record {
        items = flagged_step (flags_of (core c.args.program.now)) c.loop-place.place false c.loop-place.methods.items _
            low w.if-is_analysed.ensures c.loop-place.invariant.items (ap (λ v. v.items) w.methods-is
            ∙ sym (append-nil c.loop-place.methods.items));
        room = (let e = ap vec_capacity w.methods-is in omega (arith, c.loop-place.invariant.room));
      }
    ]
