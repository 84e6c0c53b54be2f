-- What goes on from an expression, turn by turn.
use Rattle.std.proofs.Common.{◌≡◌, ◌∙◌, map, refl, arith, sym, suc, ◌-◌, rules}
use Rattle.java_tree.specs.KeptPlaces.{kept, expr_places}
use Rattle.java_tree.specs.Trees.{Postfix}
use Rattle.java_tree.specs.View.{expr_of}
use Rattle.java_parser_grammar.specs.ExpressionReading.{read_at, climb_with}
use Rattle.java_parser_grammar.specs.Leads.{lead}
use Rattle.java_parser_types.specs.Tokens.{spelled}
use Rattle.java_parser_lookahead.specs.LeadView.{lead_of}
use Rattle.java_parser_expressions.proofs.ExpressionLoops.{climbs_on, climb_stops, climb_runs_out}
use Rattle.java_parser_expressions.proofs.LastCalls.{within, grown_places, turned_from}
use Rattle.java_parser_expressions.proofs.TurnSteps.{turn_given, turn_stops}
use Rattle.java_parser_expressions.proofs.+expressions.Goals as goal

pub expressions::turn-returns-in-Assigns : goal.expressions::turn-returns-in-Assigns
expressions::turn-returns-in-Assigns t c =
    record {
      gives =
          let same : c.deref.result.now ≡ c.args.left.tree.value = search rules in
          turn_given c.assign.result c.args.limit c.args.level (expr_of c.args.left.tree.value)
          (lead_of c.lead_at-lead.result) (lead (map spelled c.args.tokens.now)) c.lead_at-lead.ensures.gives
          (rw same at
          (sym c.goes_on.ensures ∙ c.if-not-goes_on.false)) (rw c.in-Assigns.is c.assign.ensures.gives);
      places =
          let same = rw c.in-Assigns.is at c.lead_at-lead.ensures.places in
          turned_from c.assign.result _ _ _ same c.assign.ensures.places;
      small = search rules;
      shorter =
          let less = rw c.in-Assigns.is at c.lead_at-lead.ensures.shorter in
          within c.assign.result _ _ c.assign.ensures.shorter (omega (arith, less));
    }

pub expressions::turn-returns-in-Asks : goal.expressions::turn-returns-in-Asks
expressions::turn-returns-in-Asks t c =
    record {
      gives =
          let same : c.deref.result.now ≡ c.args.left.tree.value = search rules in
          turn_given c.conditional.result c.args.limit c.args.level (expr_of c.args.left.tree.value)
          (lead_of c.lead_at-lead.result) (lead (map spelled c.args.tokens.now)) c.lead_at-lead.ensures.gives
          (rw same at
          (sym c.goes_on.ensures ∙ c.if-not-goes_on.false)) (rw c.in-Asks.is c.conditional.ensures.gives);
      places =
          let same = rw c.in-Asks.is at c.lead_at-lead.ensures.places in
          turned_from c.conditional.result _ _ _ same c.conditional.ensures.places;
      small = search rules;
      shorter =
          let less = rw c.in-Asks.is at c.lead_at-lead.ensures.shorter in
          within c.conditional.result _ _ c.conditional.ensures.shorter (omega (arith, less));
    }

pub expressions::turn-returns-in-Joins : goal.expressions::turn-returns-in-Joins
expressions::turn-returns-in-Joins t c =
    record {
      gives =
          let same : c.deref.result.now ≡ c.args.left.tree.value = search rules in
          turn_given c.binary.result c.args.limit c.args.level (expr_of c.args.left.tree.value)
          (lead_of c.lead_at-lead.result) (lead (map spelled c.args.tokens.now)) c.lead_at-lead.ensures.gives
          (rw same at
          (sym c.goes_on.ensures ∙ c.if-not-goes_on.false)) (rw c.in-Joins.is c.binary.ensures.gives);
      places =
          let same = rw c.in-Joins.is at c.lead_at-lead.ensures.places in
          turned_from c.binary.result _ _ _ same c.binary.ensures.places;
      small = search rules;
      shorter =
          let less = rw c.in-Joins.is at c.lead_at-lead.ensures.shorter in
          within c.binary.result _ _ c.binary.ensures.shorter (omega (arith, less));
    }

pub expressions::turn-returns-in-Tests : goal.expressions::turn-returns-in-Tests
expressions::turn-returns-in-Tests t c =
    record {
      gives =
          let same : c.deref.result.now ≡ c.args.left.tree.value = search rules in
          turn_given c.tested.result c.args.limit c.args.level (expr_of c.args.left.tree.value)
          (lead_of c.lead_at-lead.result) (lead (map spelled c.args.tokens.now)) c.lead_at-lead.ensures.gives
          (rw same at
          (sym c.goes_on.ensures ∙ c.if-not-goes_on.false)) (rw c.in-Tests.is c.tested.ensures.gives);
      places =
          let same = rw c.in-Tests.is at c.lead_at-lead.ensures.places in
          turned_from c.tested.result _ _ _ same c.tested.ensures.places;
      small = search rules;
      shorter =
          let less = rw c.in-Tests.is at c.lead_at-lead.ensures.shorter in
          within c.tested.result _ _ c.tested.ensures.shorter (omega (arith, less));
    }

pub expressions::turn-returns-in-Steps : goal.expressions::turn-returns-in-Steps
expressions::turn-returns-in-Steps t c =
    record {
      gives =
          let same : c.deref.result.now ≡ c.args.left.tree.value = search rules in
          turn_given c.stepped.result c.args.limit c.args.level (expr_of c.args.left.tree.value)
          (lead_of c.lead_at-lead.result) (lead (map spelled c.args.tokens.now)) c.lead_at-lead.ensures.gives
          (rw same at
          (sym c.goes_on.ensures ∙ c.if-not-goes_on.false)) (rw c.in-Steps.is c.stepped.ensures.gives);
      places =
          let same = rw c.in-Steps.is at c.lead_at-lead.ensures.places in
          turned_from c.stepped.result _ _ _ same (grown_places c.stepped.result c.args.limit
          (Postfix (expr_of c.args.left.tree.value) c.in-Steps.operator.now) (map spelled c.in-Steps.rest.now) _
          (expr_places c.args.left.tree.value) _ (kept c.in-Steps.rest.now) c.stepped.ensures.gives (λ start led. led)
          c.stepped.ensures.places c.stepped.ensures.behind);
      small = search rules;
      shorter =
          let less = rw c.in-Steps.is at c.lead_at-lead.ensures.shorter in
          within c.stepped.result _ _ c.stepped.ensures.shorter (omega (arith, less));
    }

pub expressions::turn-returns-in-Selects : goal.expressions::turn-returns-in-Selects
expressions::turn-returns-in-Selects t c =
    record {
      gives =
          let same : c.deref.result.now ≡ c.args.left.tree.value = search rules in
          turn_given c.select.result c.args.limit c.args.level (expr_of c.args.left.tree.value)
          (lead_of c.lead_at-lead.result) (lead (map spelled c.args.tokens.now)) c.lead_at-lead.ensures.gives
          (rw same at
          (sym c.goes_on.ensures ∙ c.if-not-goes_on.false)) (rw c.in-Selects.is c.select.ensures.gives);
      places =
          let same = rw c.in-Selects.is at c.lead_at-lead.ensures.places in
          turned_from c.select.result _ _ _ same c.select.ensures.places;
      small = search rules;
      shorter =
          let less = rw c.in-Selects.is at c.lead_at-lead.ensures.shorter in
          within c.select.result _ _ c.select.ensures.shorter (omega (arith, less));
    }

pub expressions::turn-returns-in-Indexes : goal.expressions::turn-returns-in-Indexes
expressions::turn-returns-in-Indexes t c =
    record {
      gives =
          let same : c.deref.result.now ≡ c.args.left.tree.value = search rules in
          turn_given c.index.result c.args.limit c.args.level (expr_of c.args.left.tree.value)
          (lead_of c.lead_at-lead.result) (lead (map spelled c.args.tokens.now)) c.lead_at-lead.ensures.gives
          (rw same at
          (sym c.goes_on.ensures ∙ c.if-not-goes_on.false)) (rw c.in-Indexes.is c.index.ensures.gives);
      places =
          let same = rw c.in-Indexes.is at c.lead_at-lead.ensures.places in
          turned_from c.index.result _ _ _ same c.index.ensures.places;
      small = search rules;
      shorter =
          let less = rw c.in-Indexes.is at c.lead_at-lead.ensures.shorter in
          within c.index.result _ _ c.index.ensures.shorter (omega (arith, less));
    }

pub expressions::turn-returns-in-Refers : goal.expressions::turn-returns-in-Refers
expressions::turn-returns-in-Refers t c =
    record {
      gives =
          let same : c.deref.result.now ≡ c.args.left.tree.value = search rules in
          turn_given c.refer.result c.args.limit c.args.level (expr_of c.args.left.tree.value)
          (lead_of c.lead_at-lead.result) (lead (map spelled c.args.tokens.now)) c.lead_at-lead.ensures.gives
          (rw same at
          (sym c.goes_on.ensures ∙ c.if-not-goes_on.false)) (rw c.in-Refers.is c.refer.ensures.gives);
      places =
          let same = rw c.in-Refers.is at c.lead_at-lead.ensures.places in
          turned_from c.refer.result _ _ _ same c.refer.ensures.places;
      small = search rules;
      shorter =
          let less = rw c.in-Refers.is at c.lead_at-lead.ensures.shorter in
          within c.refer.result _ _ c.refer.ensures.shorter (omega (arith, less));
    }

pub expressions::turn-tested-requires-clause-few : goal.expressions::turn-tested-requires-clause-few
expressions::turn-tested-requires-clause-few t c =
    let less = rw c.in-Tests.is at c.lead_at-lead.ensures.shorter in
    omega (arith, less, c.requires.few)

pub expressions::climb-loop-preserved : goal.expressions::climb-loop-preserved
expressions::climb-loop-preserved t c =
    let n = c.args.limit in
    let gives = rw c.in-Next.is at c.in_ok-whole.ensures.gives in
    let small = rw c.in-Next.is at c.in_ok-whole.ensures.small in
    let shorter = rw c.in-Next.is at c.in_ok-whole.ensures.shorter in
    let places = rw c.in-Next.is at c.in_ok-whole.ensures.places in
    record {
      gives = climbs_on (read_at n) n c.args.level c.loop.counter (expr_of c.loop.tree.tree.value)
          (expr_of c.in-Next.larger.tree.value) (map spelled c.loop.rest.now) (map spelled c.in-Next.after.now)
          (climb_with (read_at n) n c.args.level (suc n) (expr_of c.args.first.tree.value)
          (map spelled c.args.tokens.now))
          (omega arith) gives c.loop.invariant.gives;
      places = λ start led. places start (c.loop.invariant.places start led);
      small = small;
      shorter = omega (arith, shorter);
    }

pub expressions::climb-returns-in-Stop : goal.expressions::climb-returns-in-Stop
expressions::climb-returns-in-Stop t c =
    record {
      gives =
          let n = c.args.limit in
          let gives = rw c.in-Stop.is at c.in_ok-whole.ensures.gives in
          climb_stops (read_at n) n c.args.level c.loop.counter (expr_of c.loop.tree.tree.value)
          (expr_of c.in-Stop.whole.tree.value) (map spelled c.loop.rest.now) _
          (omega arith) gives c.loop.invariant.gives;
      places =
          let places = rw c.in-Stop.is at c.in_ok-whole.ensures.places in
          λ start led. places start (c.loop.invariant.places start led);
      small = search rules;
      shorter = search rules;
    }

pub expressions::climb-returns-clause-gives : goal.expressions::climb-returns-clause-gives
expressions::climb-returns-clause-gives t c =
    let n = c.args.limit in
    climb_runs_out (read_at n) n c.args.level c.loop.counter (expr_of c.loop.tree.tree.value)
    (map spelled c.loop.rest.now) _ c.loop-test.false c.loop.invariant.gives

pub expressions::climb-loop-init : goal.expressions::climb-loop-init
expressions::climb-loop-init t c =
    let none : suc c.args.limit - 0 ≡ suc c.args.limit = omega arith in
    record { gives = rw none refl; places = λ start led. led; small = c.requires.first; shorter = omega arith }

pub expressions::turn-returns-then-not-goes_on-clause-gives :
    goal.expressions::turn-returns-then-not-goes_on-clause-gives
expressions::turn-returns-then-not-goes_on-clause-gives t c =
    let same : c.deref.result.now ≡ c.args.left.tree.value = search rules in
    turn_stops (read_at c.args.limit) c.args.limit c.args.level (expr_of c.args.left.tree.value)
    (lead_of c.lead_at-lead.result) (lead (map spelled c.args.tokens.now)) c.lead_at-lead.ensures.gives (rw same at
    (sym c.goes_on.ensures ∙ c.if-not-goes_on.true))
