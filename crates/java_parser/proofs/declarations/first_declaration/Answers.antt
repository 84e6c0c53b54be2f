use Rattle.std.proofs.Common.{ap, sym, ◌∙◌}
use Rattle.java_parser_grammar.specs.Pieces.{items_of}
use Rattle.java_parser.specs.FirstDeclaration.{seen_of, Declared}
use Rattle.java_parser.proofs.DeclarationSteps.{declared_there, not_yet}
use Rattle.java_parser.proofs.Walks.{went}
use Rattle.java_parser.proofs.declarations.first_declaration.Goals as goal

pub returns-then-is_whole-clause-first : goal.returns-then-is_whole-clause-first
returns-then-is_whole-clause-first c =
    let rest = c.loop-item.rest.now in
    let item = c.in-Some.item.now in
    let after = c.in-Some.after.now in
    let more = seen_of c.in-Some-seen_with.more in
    let w = went c.args.tokens.now rest item after c.loop-item.size c.loop-item.invariant.at
    c.loop-item.invariant.within c.in-Some.ensures.parts in
    sym c.loop-item.invariant.first
    ∙ declared_there (seen_of c.loop-item.seen) more (items_of rest) (items_of after) item c.in-Some.ensures.first
    c.in-Some-seen_with.ensures (sym c.is_whole.ensures ∙ c.if-is_whole.true)
    ∙ ap (λ b. Declared b more (items_of after)) (sym c.begins_sign-braces.ensures)
    ∙ ap (λ l. Declared c.begins_sign-braces.result more (items_of l)) (sym w.at)

pub loop-item-preserved : goal.loop-item-preserved
loop-item-preserved c =
    let rest = c.loop-item.rest.now in
    let item = c.in-Some.item.now in
    let after = c.in-Some.after.now in
    let more = seen_of c.in-Some-seen_with.more in
    let w = went c.args.tokens.now rest item after c.loop-item.size c.loop-item.invariant.at
    c.loop-item.invariant.within c.in-Some.ensures.parts in
    record {
      first = not_yet (seen_of c.loop-item.seen) more (items_of rest) (items_of after) item c.in-Some.ensures.first
          c.in-Some-seen_with.ensures (sym c.is_whole.ensures ∙ c.if-is_whole.false)
          ∙ c.loop-item.invariant.first;
      at = w.at;
      within = w.within;
    }
