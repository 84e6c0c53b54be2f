use Rattle.std.proofs.Common.{List, map, take, drop, length, ◌<◌, ◌-◌, ◌∙◌, sym, ap, arith}
use Rattle.java_lexer.specs.declared.token.Token.{Token}
use Rattle.java_parser_grammar.specs.TypeReading.{closes_angle}
use Rattle.java_parser_types.specs.Tokens.{spelled}
use Rattle.java_parser_types.proofs.AngleLoop.{first_and_rest, opened, closed, bracketed, unbracketed}
use Rattle.java_parser_types.proofs.angles.closes_angle.Goals as goal

pub loop-rest-preserved-in-Opens : goal.loop-rest-preserved-in-Opens
loop-rest-preserved-in-Opens c =
    let rest = c.loop-rest.rest.now in
    let whole = first_and_rest rest c.token-item.result c.in-len1-up.len_at_least c.token-item.is in
    let so_far = ap (λ (ts : List Token). closes_angle c.args.limit c.loop-rest.depth (map spelled ts)) (sym whole)
    ∙ c.loop-rest.invariant.gives in
    let after = map spelled (take (length rest - 1) (drop 1 rest)) in
    let step = c.in-Opens.ensures c.args.limit c.loop-rest.depth after in
    record { gives = opened c.args.limit c.loop-rest.depth after _ c.if-depth-limit.false (step ∙ so_far) }

pub loop-rest-preserved-in-Closes : goal.loop-rest-preserved-in-Closes
loop-rest-preserved-in-Closes c =
    let rest = c.loop-rest.rest.now in
    let whole = first_and_rest rest c.token-item.result c.in-len1-up.len_at_least c.token-item.is in
    let so_far = ap (λ (ts : List Token). closes_angle c.args.limit c.loop-rest.depth (map spelled ts)) (sym whole)
    ∙ c.loop-rest.invariant.gives in
    let after = map spelled (take (length rest - 1) (drop 1 rest)) in
    let step = c.in-Closes.ensures c.args.limit c.loop-rest.depth after in
    let inside : 0 < c.loop-rest.depth = omega (arith, c.if-depth-eq0.false) in
    record { gives = closed c.args.limit c.loop-rest.depth after _ inside (step ∙ so_far) }

pub returns-in_default-after_sign : goal.returns-in_default-after_sign
returns-in_default-after_sign c =
    let rest = c.loop-rest.rest.now in
    let whole = first_and_rest rest c.token-item.result c.in-len1-up.len_at_least c.token-item.is in
    let so_far = ap (λ (ts : List Token). closes_angle c.args.limit c.loop-rest.depth (map spelled ts)) (sym whole)
    ∙ c.loop-rest.invariant.gives in
    let after = map spelled (take (length rest - 1) (drop 1 rest)) in
    let step = c.in-Indexes.ensures c.args.limit c.loop-rest.depth after in
    unbracketed c.args.limit c.loop-rest.depth after _ c.in_default-after_sign.ensures.gives (step ∙ so_far)

pub loop-rest-preserved-in-Indexes : goal.loop-rest-preserved-in-Indexes
loop-rest-preserved-in-Indexes c =
    let rest = c.loop-rest.rest.now in
    let whole = first_and_rest rest c.token-item.result c.in-len1-up.len_at_least c.token-item.is in
    let so_far = ap (λ (ts : List Token). closes_angle c.args.limit c.loop-rest.depth (map spelled ts)) (sym whole)
    ∙ c.loop-rest.invariant.gives in
    let after = map spelled (take (length rest - 1) (drop 1 rest)) in
    let step = c.in-Indexes.ensures c.args.limit c.loop-rest.depth after in
    record {
      gives = bracketed c.args.limit c.loop-rest.depth after (map spelled c.in-Some.behind.now) _ c.in-Some.ensures.gives
          (step ∙ so_far);
    }
