use Rattle.std.proofs.Common.{map, length, ap, ◌∙◌, sym, arith, [], ◌∷◌, length-append}
use Rattle.java_parser_types.specs.Tokens.{spelled}
use Rattle.java_parser.specs.LastParts.{Ended}
use Rattle.java_parser.proofs.LastPartSteps.{one_more, part_found, nothing_found, more_found, opens_one}
use Rattle.java_parser.proofs.last_parts.last_part.Goals as goal

pub returns-in-Part-clause-part : goal.returns-in-Part-clause-part
returns-in-Part-clause-part c =
    let tokens = c.args.tokens.now in
    let before = c.in-Some.before.now in
    let token = c.in-Some.token.now in
    let o = one_more tokens c.loop-token.rest.now before token c.loop-token.behind c.loop-token.invariant.front
    c.in-Some.ensures.cases.0 c.loop-token.invariant.behind in
    part_found tokens before token c.loop-token.behind o c.in-Part.ensures
    ∙ ap (λ l. Ended (map spelled l)) (sym c.split_at.ensures.back)

pub returns-in-Nothing-clause-none : goal.returns-in-Nothing-clause-none
returns-in-Nothing-clause-none c =
    let tokens = c.args.tokens.now in
    let before = c.in-Some.before.now in
    let token = c.in-Some.token.now in
    let o = one_more tokens c.loop-token.rest.now before token c.loop-token.behind c.loop-token.invariant.front
    c.in-Some.ensures.cases.0 c.loop-token.invariant.behind in
    nothing_found tokens before token c.loop-token.behind o c.in-Nothing.ensures

pub loop-token-preserved : goal.loop-token-preserved
loop-token-preserved c =
    let tokens = c.args.tokens.now in
    let before = c.in-Some.before.now in
    let token = c.in-Some.token.now in
    let o = one_more tokens c.loop-token.rest.now before token c.loop-token.behind c.loop-token.invariant.front
    c.in-Some.ensures.cases.0 c.loop-token.invariant.behind in
    let sizes = ap length c.in-Some.ensures.cases.0 ∙ length-append before (token ∷ []) in
    record {
      behind = more_found tokens before token c.loop-token.behind c.in-More.next o c.in-More.ensures;
      front = o.front;
      within = omega (arith, sizes, c.loop-token.invariant.within);
      shallow = omega (
        arith,
        sizes,
        c.loop-token.invariant.shallow,
        opens_one c.loop-token.behind c.in-More.next
            (spelled token) c.in-More.ensures,
      );
    }
