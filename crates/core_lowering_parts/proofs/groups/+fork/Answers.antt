use Rattle.std.proofs.Common.{◌≡◌, ◌≤◌, ℕ, length, take, drop, ap, ◌∙◌, arith}
use Rattle.std.proofs.lemmas.Result.{IfOk-weaker}
use Rattle.std.specs.Prelude.{◌/◌}
use Rattle.core_lowering_rules.specs.Context.{Code, choice}
use Rattle.core_lowering_rules.specs.Statements.{forked}
use Rattle.core_lowering_parts.proofs.OptionsMade.{fork-made}
use Rattle.core_lowering_parts.proofs.groups.+fork.Goals as goal

pub returns : goal.returns
returns t c =
    let all = c.args.options.items in
    let first : Code = c.in_ok-first.first in
    let second : Code = c.in_ok-second.second in
    let half = length all / 2 in
    let at : c.len-2.result / 2 ≡ half = ap (λ (n : ℕ). n / 2) (c.len-2.ensures ∙ c.args.options.ok.0) in
    let counted : c.len.result ≡ length all = c.len.ensures ∙ c.args.options.ok.0 in
    let more : 2 ≤ length all = omega (arith, c.if-len-le1.false, counted) in
    IfOk-weaker c.either.result (λ draft. draft ≡ choice first second) (λ draft. draft ≡ forked all)
    (λ draft made. made
    ∙ ap (λ (x : Code). choice x second)
    (c.in_ok-first.ensures ∙ ap forked (c.in_ok-rest.ensures.items ∙ ap (λ (n : ℕ). take n all) at))
    ∙ ap (λ (x : Code). choice (forked (take half all)) x)
    (c.in_ok-second.ensures ∙ ap forked (c.in_ok-rest.ensures.tail ∙ ap (λ (n : ℕ). drop n all) at))
    ∙ fork-made all more)
    c.either.ensures
