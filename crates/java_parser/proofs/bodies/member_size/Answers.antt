use Rattle.std.proofs.Common.{ap, sym, ◌∙◌}
use Rattle.java_parser_grammar.specs.Pieces.{items_of}
use Rattle.java_parser.specs.Members.{behind_member}
use Rattle.java_parser.proofs.FirstMember.{ended_behind, same_behind, next_behind}
use Rattle.java_parser.proofs.Walks.{went}
use Rattle.java_parser.proofs.bodies.member_size.Goals as goal

pub returns-then-ends_member-clause-behind : goal.returns-then-ends_member-clause-behind
returns-then-ends_member-clause-behind c =
    let rest = c.loop-item.rest.now in
    let item = c.in-Some.item.now in
    let after = c.in-Some.after.now in
    let w = went c.args.tokens.now rest item after c.loop-item.size c.loop-item.invariant.at
    c.loop-item.invariant.within c.in-Some.ensures.parts in
    ap items_of w.at
    ∙ ended_behind c.loop-item.equals (items_of rest) (items_of after) item c.in-Some.ensures.first
    (sym c.ends_member.ensures ∙ c.if-ends_member.true)
    ∙ c.loop-item.invariant.behind

pub loop-item-preserved-then-equals : goal.loop-item-preserved-then-equals
loop-item-preserved-then-equals c =
    let rest = c.loop-item.rest.now in
    let item = c.in-Some.item.now in
    let after = c.in-Some.after.now in
    let w = went c.args.tokens.now rest item after c.loop-item.size c.loop-item.invariant.at
    c.loop-item.invariant.within c.in-Some.ensures.parts in
    record {
      behind = same_behind c.loop-item.equals (items_of rest) (items_of after) item c.if-equals.true
          c.in-Some.ensures.first (sym c.ends_member.ensures ∙ c.if-ends_member.false)
          ∙ c.loop-item.invariant.behind;
      at = w.at;
      within = w.within;
    }

pub loop-item-preserved : goal.loop-item-preserved
loop-item-preserved c =
    let rest = c.loop-item.rest.now in
    let item = c.in-Some.item.now in
    let after = c.in-Some.after.now in
    let w = went c.args.tokens.now rest item after c.loop-item.size c.loop-item.invariant.at
    c.loop-item.invariant.within c.in-Some.ensures.parts in
    record {
      behind = ap (λ q. behind_member q (items_of after)) c.begins_sign-equals.ensures
          ∙ next_behind c.loop-item.equals (items_of rest) (items_of after) item c.if-equals.false
          c.in-Some.ensures.first (sym c.ends_member.ensures ∙ c.if-ends_member.false)
          ∙ c.loop-item.invariant.behind;
      at = w.at;
      within = w.within;
    }
