use Rattle.std.proofs.Common.{◌≡◌, ℕ, suc, ◌+◌, ◌-◌, [], ◌++◌, Some, length, option_map}
use Rattle.std.proofs.Common.{refl, sym, ap, ◌∙◌, arith, append-nil}
use Rattle.std.proofs.lemmas.List.{length-map}
use Rattle.core_code.specs.Core.{method_of}
use Rattle.core_code.specs.Program.{core}
use Rattle.race_report_parts.specs.Places.{operation_at, places_within}
use Rattle.race_report_parts.specs.Sides.{held_of}
use Rattle.race_report_parts.proofs.PlaceSteps.{next_place, no_turn, none_left, no_site}
use Rattle.race_report_parts.proofs.sides.places_of.Goals as goal
use Rattle.race_report_parts.proofs.sides.places_of.Goals.{else-loop-turn-test, then-loop-turn-test+in_default}
use Rattle.race_report_parts.proofs.sides.places_of.Goals.{then-loop-turn-test+in-Some+in_default-site_at}

pub loop-turn-preserved : goal.loop-turn-preserved
loop-turn-preserved c =
    let program = core c.args.program.now in
    let here = held_of c.in-Some.here in
    let turn : ℕ = c.loop-turn._turn in
    let count : ℕ = length program.methods in
    let as_many : count ≡ length c.methods-turn-end.result.now =
    ap length (sym c.methods-turn-end.ensures) ∙ length-map c.methods-turn-end.result.now method_of in
    let within = c.loop-turn-test.true in
    let long : count - turn ≡ suc (count - (turn + 1)) = omega (arith, as_many, within) in
    let left : option_map held_of c.loop-turn.left ≡ Some here = ap (option_map held_of) c.in-Some.is in
    next_place program here (operation_at program here.method here.access.site) c.in-Some-site_at.site (count - turn)
    (count - (turn + 1)) c.loop-turn.places.items c.push.new.self.items (option_map held_of c.record_below-left.result)
    refl (sym c.site_at.ensures ∙ c.in-Some-site_at.is) long c.in_ok-push.ensures.items c.record_below-left.ensures
    ∙ ap (λ h. c.loop-turn.places.items ++ places_within program h (count - turn)) (sym left)
    ∙ c.loop-turn.invariant

pub returns : goal.returns
returns c =
    let program = core c.args.program.now in
    let left = option_map held_of c.loop-turn.left in
    let count : ℕ = length program.methods in
    let turns : ℕ = count - c.loop-turn._turn in
    let as_many : count ≡ length c.methods-turn-end.result.now =
    ap length (sym c.methods-turn-end.ensures) ∙ length-map c.methods-turn-end.result.now method_of in
    let none : places_within program left turns ≡ [] = elim c.loop-turn-test.branch [
      | else-loop-turn-test w ↦ no_turn program left turns (omega (arith, as_many, w.loop-turn-test.false))
      | then-loop-turn-test+in_default w ↦ none_left program left turns (ap (option_map held_of) w.in_default.is)
      | then-loop-turn-test+in-Some+in_default-site_at w ↦
          no_site program left (held_of w.in-Some.here) turns (ap (option_map held_of) w.in-Some.is)
          (operation_at program w.in-Some.here.method w.in-Some.here.access.now.site) refl
          (sym w.site_at.ensures ∙ w.in_default-site_at.is)
    ] in
    sym (append-nil c.loop-turn.places.items)
    ∙ ap (λ ps. c.loop-turn.places.items ++ ps) (sym none)
    ∙ c.loop-turn.invariant
