use Rattle.std.proofs.Common.{sym, ap, drop, ◌∙◌, ◌+◌, ◌++◌, get_or, append_assoc, subst}
use Rattle.std.proofs.lemmas.Result.{err_from_is_err_and}
use Rattle.std.specs.List.{flat_map}
use Rattle.std.proofs.lemmas.List.{drop_all}
use Rattle.racer_base.specs.declared.ids.VarId.{VarId}
use Rattle.core_lowering_drafts.specs.Only.{Code, cleared}
use Rattle.core_lowering_drafts.specs.Rooms.{IsStopped, room_behind}
use Rattle.core_lowering_drafts.specs.Written.{code_of, room_of}
use Rattle.core_lowering_drafts_code.proofs.RoomSteps.{clear-one, cleared-goes, cleared-stopped}
use Rattle.core_lowering_drafts.proofs.Rooms.{room-nothing}
use Rattle.core_lowering_drafts_code.proofs.only.write_cleared.Goals as goal
use Rattle.std.proofs.Common.{List}

pub returns-clause-room : goal.returns-clause-room
returns-clause-room c =
    let place = c.args.place in
    let r = room_of c.loop-variable.written in
    sym c.loop-variable.invariant.room
    ∙ ap (λ (vs : List VarId). room_behind (flat_map (cleared place) vs) r)
    (drop_all c.loop-variable.variable-index c.args.variables.now c.loop-variable-test.false)
    ∙ room-nothing r

pub loop-variable-preserved : goal.loop-variable-preserved
loop-variable-preserved c =
    let place = c.args.place in
    let vs = c.args.variables.now in
    let i = c.loop-variable.variable-index in
    let old = code_of c.loop-variable.written in
    let rest = flat_map (cleared place) (drop (i + 1) vs) in
    let v = get_or vs i (record { 0 = 0 }) in
    record {
      code =
          ap (λ (code : Code). code ++ rest) c.in_ok-write_null.ensures.code
          ∙ append_assoc old (cleared place v) rest
          ∙ ap (λ (code : Code). old ++ code) (sym (clear-one place vs i (record { 0 = 0 }) c.loop-variable-test.true))
          ∙ c.loop-variable.invariant.code;
      room =
          cleared-goes place vs i (record { 0 = 0 }) (room_of c.loop-variable.written)
          (room_of c.write_null.new.written) c.loop-variable-test.true c.in_ok-write_null.ensures.room
          ∙ c.loop-variable.invariant.room;
    }

pub returns-in_err-write_null-clause-room : goal.returns-in_err-write_null-clause-room
returns-in_err-write_null-clause-room c =
    let e = c.in_err-write_null.field-0.0 in
    let p = err_from_is_err_and c.from_residual.result c.from_residual.ensures.1 in
    rw (p.1, p.2)
    (subst (λ o. IsStopped o e) c.loop-variable.invariant.room
    (cleared-stopped c.args.place c.args.variables.now c.loop-variable.variable-index (record { 0 = 0 })
    (room_of c.loop-variable.written) e c.loop-variable-test.true c.in_err-write_null.ensures.room))
