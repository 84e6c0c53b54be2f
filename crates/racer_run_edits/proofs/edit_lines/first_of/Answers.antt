use Rattle.std.proofs.Common.{◌≡◌, ◌<◌, ℕ, length, sym, arith}
use Rattle.std.proofs.lemmas.Bool.Decides.{nat_tests}
use Rattle.std.proofs.lemmas.List.Sums.{position_or_len_is}
use Rattle.racer_run_edits.specs.EditLines.{byte_is}
use Rattle.racer_run_edits.proofs.edit_lines.first_of.Goals as goal

pub returns-then-byte-wanted-clause-place : goal.returns-then-byte-wanted-clause-place
returns-then-byte-wanted-clause-place c =
    sym (position_or_len_is (byte_is c.args.wanted) c.args.text.now c.loop-place.place 0
    (omega (arith, c.loop-place.auto.place-end)) c.loop-place.invariant
    (λ lt. grind (arith, nat_tests, c.if-byte-wanted.true)))

pub returns-clause-place : goal.returns-clause-place
returns-clause-place c =
    let end : c.loop-place.place ≡ length c.args.text.now =
    omega (arith, c.loop-place.auto.place-end, c.loop-place-test.false) in
    sym (position_or_len_is (byte_is c.args.wanted) c.args.text.now (length c.args.text.now) 0 (omega arith)
    (λ k lt. c.loop-place.invariant k (omega (arith, lt, end))) (λ lt. absurd (omega (arith, lt))))
