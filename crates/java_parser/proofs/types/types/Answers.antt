use Rattle.std.proofs.Common.{◌≤◌, [], ◌∷◌, ◌++◌, true, map, length, take, drop, arith, ap, sym, ◌∙◌}
use Rattle.std.proofs.lemmas.List.{append-nil}
use Rattle.java_parser_grammar.specs.Pieces.{items_of}
use Rattle.java_parser_grammar.specs.DeclarationWalk.{Whole}
use Rattle.java_parser.specs.FirstDeclaration.{seen_of}
use Rattle.java_parser.specs.WalkedTypes.{types_from, with_types, type_if}
use Rattle.java_parser.proofs.FileTypes.{all_walked, walked_fault}
use Rattle.java_parser.proofs.TypeSteps.{walk_fails, walk_goes_on, has_items, map_push}
use Rattle.java_parser.proofs.types.types.Goals as goal

pub returns-in-Err-clause-fault : goal.returns-in-Err-clause-fault
returns-in-Err-clause-fault c =
    let rest = c.loop-rest.rest.now in
    let some : 1 ≤ length rest = omega (arith, c.loop-rest-test.true) in
    walked_fault (items_of c.args.tokens.now) c.args.end c.in-Err.place (walk_fails c.args.end c.in-Err.place
    (map (λ t. t.now) c.loop-rest.types.items) (seen_of c.loop-rest.seen) (items_of rest)
    (types_from (Whole true true) (items_of c.args.tokens.now)) (λ n. absurd (has_items rest some n))
    c.loop-rest.invariant.gives c.in-Err.ensures.first)

pub returns-clause-ok : goal.returns-clause-ok
returns-clause-ok c =
    all_walked (items_of c.args.tokens.now) (map (λ t. t.now) c.loop-rest.types.items) (seen_of c.loop-rest.seen)
    c.loop-rest.rest.now c.loop-rest-test.false c.loop-rest.invariant.whole c.loop-rest.invariant.gives

pub loop-rest-preserved-in_ok-push : goal.loop-rest-preserved-in_ok-push
loop-rest-preserved-in_ok-push c =
    let rest = c.loop-rest.rest.now in
    let next = c.in-Ok.next in
    let front = map (λ t. t.now) c.loop-rest.types.items in
    let all = types_from (Whole true true) (items_of c.args.tokens.now) in
    let step = walk_goes_on front (seen_of c.loop-rest.seen) (seen_of next.seen) rest next.size next.braces all
    c.in-Ok.ensures.first c.loop-rest.invariant.gives in
    record {
      gives = ap (λ l. with_types (map (λ t. t.now) l) (types_from (seen_of next.seen) (items_of
          c.split_at.result.1.now))) c.in_ok-push.ensures.items
          ∙ ap (λ l. with_types l (types_from (seen_of next.seen) (items_of c.split_at.result.1.now)))
          (map_push (λ t. t.now) c.loop-rest.types.items c.split_at.result.0)
          ∙ ap (λ l. with_types (front ++ l ∷ []) (types_from (seen_of next.seen) (items_of c.split_at.result.1.now)))
          c.split_at.ensures.front
          ∙ ap (λ l. with_types (front ++ take next.size rest ∷ []) (types_from (seen_of next.seen) (items_of l)))
          c.split_at.ensures.back
          ∙ ap (λ b. with_types (front ++ type_if b (take next.size rest)) (types_from (seen_of next.seen) (items_of
          (drop next.size rest)))) (sym c.if-next.true)
          ∙ step;
      whole = c.in-Ok.ensures.whole;
    }

pub loop-rest-preserved : goal.loop-rest-preserved
loop-rest-preserved c =
    let rest = c.loop-rest.rest.now in
    let next = c.in-Ok.next in
    let front = map (λ t. t.now) c.loop-rest.types.items in
    let all = types_from (Whole true true) (items_of c.args.tokens.now) in
    let step = walk_goes_on front (seen_of c.loop-rest.seen) (seen_of next.seen) rest next.size next.braces all
    c.in-Ok.ensures.first c.loop-rest.invariant.gives in
    record {
      gives = ap (λ l. with_types front (types_from (seen_of next.seen) (items_of l))) c.split_at.ensures.back
          ∙ ap (λ l. with_types l (types_from (seen_of next.seen) (items_of (drop next.size rest)))) (sym
          (append-nil front))
          ∙ ap (λ b. with_types (front ++ type_if b (take next.size rest)) (types_from (seen_of next.seen) (items_of
          (drop next.size rest)))) (sym c.if-next.false)
          ∙ step;
      whole = c.in-Ok.ensures.whole;
    }
