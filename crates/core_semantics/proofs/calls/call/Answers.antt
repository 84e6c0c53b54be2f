use Rattle.std.proofs.Common.{◌≡◌, ◌⊎◌, List, None, true, inl, inr, refl, sym, ap, ◌∙◌, slice_index_or, rules}
use Rattle.core_code.specs.Program.{core}
use Rattle.core_semantics.specs.View.{behind_spot, frames_of}
use Rattle.core_semantics.specs.State.{Frame}
use Rattle.core_semantics.specs.Steps.{base_of, reason}
use Rattle.core_semantics.specs.declared.object.Value.{Value}
use Rattle.core_semantics.specs.declared.object.Value.TheVariants.{Null}
use Rattle.core_semantics.proofs.calls.call.Goals.{else-not-method-via-else-not-method}
use Rattle.core_semantics.proofs.calls.call.Goals.{else-not-method-via-then-not-method+in-None-1}
use Rattle.core_semantics.proofs.Entries.{no_call, call_sticks, call_goes}
use Rattle.core_semantics.proofs.calls.call.Goals as goal

pub returns-in_default : goal.returns-in_default
returns-in_default c =
    λ store locks. (
      no_call (core c.args.program.now) c.methods.result.now (behind_spot store c.args.running.now locks) c.args.method
          c.args.count c.methods.ensures c.in_default.ensures.lookup.0,
      refl,
    )

pub returns : goal.returns
returns c =
    λ store locks. (
      call_sticks (core c.args.program.now) c.methods.result.now (behind_spot store c.args.running.now locks)
          c.args.method c.args.count c.in-Some.method.now c.in-Ok.passed.items c.methods.ensures
          c.in-Some.ensures.lookup.0 c.in-Some.ensures.lookup.1 c.in-Ok.ensures c.in-Some-receiver_fault.why
          c.if-not-method.true
          (ap (λ (vs : List Value). reason (base_of (slice_index_or vs 0 Null))) (sym c.as_slice.ensures.value)
          ∙ sym c.receiver_fault.ensures
          ∙ c.in-Some-receiver_fault.is),
      refl,
    )

pub returns-in-Ok-enter : goal.returns-in-Ok-enter
returns-in-Ok-enter c =
    let admitted : (c.in-Some.method.now.is_static ≡ true)
    ⊎ (reason (base_of (slice_index_or c.in-Ok.passed.items 0 Null)) ≡ None) =
    elim c.else-not-method.branch [
      | else-not-method-via-else-not-method w ↦ inl w.if-not-method.false
      | else-not-method-via-then-not-method+in-None-1 w ↦
          let none : w.receiver_fault.result ≡ None = search rules in
          inr (ap (λ (vs : List Value). reason (base_of (slice_index_or vs 0 Null))) (sym w.as_slice.ensures.value)
          ∙ sym w.receiver_fault.ensures
          ∙ none)
    ] in
    λ store locks.
    call_goes (core c.args.program.now) c.methods.result.now (behind_spot store c.args.running.now locks)
    c.args.method c.args.count c.in-Some.method.now c.in-Ok.passed.items c.methods.ensures
    c.in-Some.ensures.lookup.0 c.in-Some.ensures.lookup.1 c.in-Ok.ensures (frames_of c.enter.new.running) admitted
    c.in-Ok-enter.ensures.ok

pub returns-in-Err : goal.returns-in-Err
returns-in-Err c =
    λ store locks. ap (λ (frames : List Frame). record {
      store = store;
      thread = record { frames = frames; locks = locks };
    }) c.in-Err.ensures.err
