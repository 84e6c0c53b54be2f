-- Rows that hold statements, and their loops.
use Rattle.std.proofs.Common.{◌≡◌, ℕ, true, false, codes, length, suc, ◌+◌, ◌-◌, ◌++◌, ◌∷◌, [], map, Some, refl, sym}
use Rattle.std.proofs.Common.{◌∙◌, ap, arith, subst}
use Rattle.std.proofs.lemmas.Result.{err_from_is_err_and}
use Rattle.std.proofs.lemmas.List.{map_push}
use Rattle.java_tree.specs.KeptPlaces.{kept, expr_places, stmt_places, group_places, each_puts, catch_places}
use Rattle.java_parser_types.proofs.PutPlaces.{one_put}
use Rattle.java_tree.specs.View.{stmt_of, group_of, catch_of, pack_groups}
use Rattle.java_parser_grammar.specs.StatementReading.{stmt_at, block_at, body_at}
use Rattle.java_parser_grammar.specs.StatementReading.{row_at, pieces_at, group_stmts_at, groups_at}
use Rattle.java_tree.specs.Rows.{catch_row}
use Rattle.java_parser_grammar.specs.JavaReaders.{method_readers}
use Rattle.java_parser_types.specs.Tokens.{spelled}
use Rattle.java_parser_types.proofs.ReadParts.{part_fails}
use Rattle.java_parser_types.proofs.ReadLoops.{ends_give}
use Rattle.java_parser_methods.proofs.PassedOn.{within_back}
use Rattle.java_parser_lookahead.specs.StatementLeadView.{row_text}
use Rattle.java_parser_methods.proofs.RowLoops.{grouped_goes_on, grouped_fails, grouped_ends, grouped_runs_out}
use Rattle.java_parser_methods.proofs.RowLoops.{group_goes_on, group_fails, groups_end, groups_run_out}
use Rattle.java_parser_methods.proofs.RowLoops.{no_group_before}
use Rattle.java_parser_methods.proofs.TryParts.{try_by_parts}
use Rattle.java_parser_methods.proofs.+statements.Goals as goal
use Rattle.java_parser_methods.proofs.+statements.Goals.{switches::group_statements-else-loop-test}
use Rattle.java_parser_methods.proofs.+statements.Goals.{switches::group_statements-then-loop-test+then-ends_group}
use Rattle.java_parser_parts.proofs.LabelLoops.{alone}
use Rattle.java_parser_methods.proofs.+statements.Goals.{
  tries::parts-in-Clause+in_ok-next-in-Clause+in_ok-push-in-Clause,
}
use Rattle.java_parser_methods.proofs.+statements.Goals.{tries::parts-in-Last+in_ok-last-in-Last}
use Rattle.java_parser_methods.proofs.+statements.Goals.{tries::parts-else-loop-test}
use Rattle.java_parser_methods.proofs.+statements.Goals.{tries::parts-then-loop-test+in-Nothing}
use Rattle.java_parser_methods.proofs.StatementParts.{do_by_end, label_by_body, switch_by_front}
use Rattle.java_parser_methods.proofs.PartLoops.{clause_goes_on, clause_fails, last_goes_on, last_fails, parts_end}
use Rattle.java_parser_methods.proofs.PartLoops.{clause_put, last_put, no_part_before, nothing_left}
use Rattle.java_parser_methods.specs.RowReading.{labelled_at, parts_at}
use Rattle.java_parser_parts.specs.Parts.{switch_front_at}
use Rattle.java_parser_methods.specs.TryView.{block_of}
use Rattle.java_parser_types.proofs.LedMarks.{led_on, both_led, led_made, some_led, from_equal}
use Rattle.java_parser_types.specs.ReadAnswer.{Fails}

pub statements::row-returns-in-Try-clause-gives : goal.statements::row-returns-in-Try-clause-gives
statements::row-returns-in-Try-clause-gives t c =
    let ts = map spelled c.args.tokens.now in
    let read = stmt_at method_readers c.args.limit in
    let block = block_at method_readers c.args.limit in
    ends_give _ c.try_statement.result (row_at method_readers read block c.args.limit (row_text c.args.word) ts) _
    (ap (λ w. row_at method_readers read block c.args.limit (row_text w) ts) c.in-Try.is ∙ try_by_parts method_readers
    read block c.args.limit ts) c.try_statement.ensures.gives

pub switches::group_statements-returns-in_err-next-clause-gives :
    goal.switches::group_statements-returns-in_err-next-clause-gives
switches::group_statements-returns-in_err-next-clause-gives t c =
    let read = stmt_at method_readers c.args.limit in
    let total = group_stmts_at method_readers read (suc (length (map spelled c.args.tokens.now))) (map spelled
    c.args.tokens.now) in
    let p = err_from_is_err_and c.from_residual.result c.from_residual.ensures.1 in
    rw (p.1, p.2) (grouped_fails method_readers read total c.args.tokens.now c.loop.counter (map stmt_of
    c.loop.items.items) c.in_err-next.field-0.0 (map spelled c.loop.rest.now) c.loop-test.true (sym c.ends_group.ensures
    ∙ c.if-ends_group.false) c.in_err-next.ensures.gives c.loop.invariant.gives)

pub switches::group_statements-loop-preserved : goal.switches::group_statements-loop-preserved
switches::group_statements-loop-preserved t c =
    let n = c.in_ok-next.next.value in
    let e : map stmt_of c.push_tree.new.trees.items ≡ map stmt_of c.loop.items.items ++ stmt_of n ∷ [] =
    rw c.in_ok-push_tree.ensures.items (map_push _ c.loop.items.items n) in
    let read = stmt_at method_readers c.args.limit in
    let total = group_stmts_at method_readers read (suc (length (map spelled c.args.tokens.now))) (map spelled
    c.args.tokens.now) in
    record {
      gives = rw e (grouped_goes_on method_readers read total c.args.tokens.now c.loop.counter (map stmt_of
          c.loop.items.items) (stmt_of n) (map spelled c.loop.rest.now) (map spelled c.in_ok-next.after.now)
          c.loop-test.true (sym c.ends_group.ensures ∙ c.if-ends_group.false) c.in_ok-next.ensures.gives
          c.loop.invariant.gives);
      places = rw c.in_ok-push_tree.ensures.items (one_put stmt_places c.loop.items.items n (kept c.args.tokens.now)
          (kept c.loop.rest.now) (kept c.in_ok-next.after.now) c.in_ok-next.ensures.places c.loop.invariant.places);
      few = omega (arith, c.loop-test.true);
      shorter = omega (arith, c.in_ok-next.ensures.shorter, c.loop.invariant.shorter);
    }

pub switches::group_statements-loop-init : goal.switches::group_statements-loop-init
switches::group_statements-loop-init t c =
    let all : suc (length (map spelled c.args.tokens.now)) - 0 ≡ suc (length (map spelled c.args.tokens.now)) =
    omega arith in
    record {
      gives = rw (c.new-items.ensures.items, all) (alone _);
      places = rw c.new-items.ensures.items (λ rest led. led);
      few = omega arith;
      shorter = omega arith;
    }

pub switches::group_statements-returns-then-not-ends_group-clause-gives :
    goal.switches::group_statements-returns-then-not-ends_group-clause-gives
switches::group_statements-returns-then-not-ends_group-clause-gives t c =
    let read = stmt_at method_readers c.args.limit in
    let total = group_stmts_at method_readers read (suc (length (map spelled c.args.tokens.now))) (map spelled
    c.args.tokens.now) in
    elim c.loop-test.branch [
      | switches::group_statements-else-loop-test w ↦ grouped_runs_out method_readers read total c.args.tokens.now
          c.loop.counter (map stmt_of c.loop.items.items) (map spelled c.loop.rest.now) w.loop-test.false
          c.loop.invariant.few (sym c.ends_group-2.ensures ∙ c.if-not-ends_group.true) c.loop.invariant.gives
      | switches::group_statements-then-loop-test+then-ends_group w ↦
          let both : true ≡ false =
          sym w.if-ends_group.true ∙ (w.ends_group.ensures ∙ (sym c.ends_group-2.ensures ∙ c.if-not-ends_group.true)) in
          absurd cc
    ]

pub switches::group_statements-returns-clause-gives : goal.switches::group_statements-returns-clause-gives
switches::group_statements-returns-clause-gives t c =
    let read = stmt_at method_readers c.args.limit in
    let total = group_stmts_at method_readers read (suc (length (map spelled c.args.tokens.now))) (map spelled
    c.args.tokens.now) in
    grouped_ends method_readers read total c.args.tokens.now c.loop.counter (map stmt_of c.loop.items.items)
    (map spelled c.loop.rest.now) c.loop.invariant.few (sym c.ends_group-2.ensures ∙ c.if-not-ends_group.false)
    c.loop.invariant.gives

pub switches::groups-returns-in-Some-clause-gives : goal.switches::groups-returns-in-Some-clause-gives
switches::groups-returns-in-Some-clause-gives t c =
    let read = stmt_at method_readers c.args.limit in
    let total = groups_at method_readers read c.args.limit (length (map spelled c.args.tokens.now)) (map spelled
    c.args.tokens.now) in
    groups_end method_readers read c.args.limit total c.args.tokens.now c.loop.counter (map group_of c.loop.items.items)
    (map spelled c.loop.rest.now) (map spelled c.in-Some.after.now) c.loop-test.true c.in-Some.ensures.gives
    c.loop.invariant.gives

pub switches::groups-returns-in_err-next-clause-gives : goal.switches::groups-returns-in_err-next-clause-gives
switches::groups-returns-in_err-next-clause-gives t c =
    let read = stmt_at method_readers c.args.limit in
    let total = groups_at method_readers read c.args.limit (length (map spelled c.args.tokens.now)) (map spelled
    c.args.tokens.now) in
    let p = err_from_is_err_and c.from_residual.result c.from_residual.ensures.1 in
    rw (p.1, p.2) (group_fails method_readers read c.args.limit total c.args.tokens.now c.loop.counter (map group_of
    c.loop.items.items) c.in_err-next.field-0.0 (map spelled c.loop.rest.now) c.loop-test.true
    c.in_default.ensures.gives c.in_err-next.ensures.gives c.loop.invariant.gives)

pub switches::groups-loop-preserved : goal.switches::groups-loop-preserved
switches::groups-loop-preserved t c =
    let n = c.in_ok-next.next in
    let e : map group_of c.push.new.self.items ≡ map group_of c.loop.items.items ++ group_of n ∷ [] =
    rw c.in_ok-push.ensures.items (map_push _ c.loop.items.items n) in
    let read = stmt_at method_readers c.args.limit in
    let total = groups_at method_readers read c.args.limit (length (map spelled c.args.tokens.now)) (map spelled
    c.args.tokens.now) in
    record {
      gives = rw e (group_goes_on method_readers read c.args.limit total c.args.tokens.now c.loop.counter (map group_of
          c.loop.items.items) (group_of n) (map spelled c.loop.rest.now) (map spelled c.in_ok-next.after.now)
          c.loop-test.true c.in_default.ensures.gives c.in_ok-next.ensures.gives c.loop.invariant.gives);
      places = rw c.in_ok-push.ensures.items (one_put group_places c.loop.items.items n (kept c.args.tokens.now)
          (kept c.loop.rest.now) (kept c.in_ok-next.after.now) c.in_ok-next.ensures.places c.loop.invariant.places);
      shorter = omega (arith, c.in_ok-next.ensures.shorter, c.loop.invariant.shorter);
    }

pub switches::groups-loop-init : goal.switches::groups-loop-init
switches::groups-loop-init t c =
    let all : length (map spelled c.args.tokens.now) - 0 ≡ length (map spelled c.args.tokens.now) = omega arith in
    record {
      gives = rw (c.new-items.ensures.items, all) (no_group_before _);
      places = rw c.new-items.ensures.items (λ rest led. led);
      shorter = omega arith;
    }

pub switches::groups-returns-clause-gives : goal.switches::groups-returns-clause-gives
switches::groups-returns-clause-gives t c =
    let read = stmt_at method_readers c.args.limit in
    let total = groups_at method_readers read c.args.limit (length (map spelled c.args.tokens.now)) (map spelled
    c.args.tokens.now) in
    groups_run_out method_readers read c.args.limit total c.args.tokens.now c.loop.counter (map group_of
    c.loop.items.items) (map spelled c.loop.rest.now) c.loop-test.false c.loop.invariant.gives

pub statements::do_statement-returns-in_err-body-clause-gives :
    goal.statements::do_statement-returns-in_err-body-clause-gives
unfolding pieces_at
statements::do_statement-returns-in_err-body-clause-gives t c =
    let p = err_from_is_err_and c.from_residual.result c.from_residual.ensures.1 in
    rw (p.1, p.2) (part_fails c.in_err-body.field-0.0 (body_at method_readers (stmt_at method_readers c.args.limit)
    (map spelled c.args.tokens.now)) _ (λ n. rw n refl) c.in_err-body.ensures.gives)

pub statements::do_statement-returns-clause-gives : goal.statements::do_statement-returns-clause-gives
statements::do_statement-returns-clause-gives t c =
    let ts = map spelled c.args.tokens.now in
    let read = stmt_at method_readers c.args.limit in
    let block = block_at method_readers c.args.limit in
    ends_give _ c.do_end.result (row_at method_readers read block c.args.limit (codes "do") ts) _ (do_by_end
    method_readers read block c.args.limit (stmt_of c.in_ok-body.body.value) ts (map spelled c.in_ok-body.rest.now)
    c.in_ok-body.ensures.gives) c.do_end.ensures.gives

pub statements::do_statement-returns-clause-places : goal.statements::do_statement-returns-clause-places
statements::do_statement-returns-clause-places t c =
    led_on c.do_end.result (λ x. stmt_places x.0.value) (λ x. kept x.1.now) (stmt_places c.in_ok-body.body.value) (kept
    c.args.tokens.now) (kept c.in_ok-body.rest.now) c.in_ok-body.ensures.places c.do_end.ensures.places

pub statements::do_statement-returns-clause-shorter : goal.statements::do_statement-returns-clause-shorter
statements::do_statement-returns-clause-shorter t c = within_back c.do_end.result (λ x. length x.1.now) _ _
    (omega (arith, c.in_ok-body.ensures.shorter)) c.do_end.ensures.shorter

pub statements::label_statement-returns-in_err-inside-clause-gives :
    goal.statements::label_statement-returns-in_err-inside-clause-gives
statements::label_statement-returns-in_err-inside-clause-gives t c =
    let p = err_from_is_err_and c.from_residual.result c.from_residual.ensures.1 in
    rw (p.1, p.2) (part_fails c.in_err-inside.field-0.0 (stmt_at method_readers c.args.limit (map spelled
    c.args.tokens.now)) _ (λ n. rw n refl) c.in_err-inside.ensures.gives)

pub statements::label_statement-returns-clause-gives : goal.statements::label_statement-returns-clause-gives
statements::label_statement-returns-clause-gives t c =
    let ts = map spelled c.args.tokens.now in
    let read = stmt_at method_readers c.args.limit in
    ends_give _ c.labelled.result (labelled_at method_readers read c.args.name.now.text ts) _ (label_by_body
    method_readers read c.args.name.now.text (stmt_of c.in_ok-inside.inside.value) ts
    (map spelled c.in_ok-inside.rest.now) c.in_ok-inside.ensures.gives) c.labelled.ensures.gives

pub statements::label_statement-returns-clause-places : goal.statements::label_statement-returns-clause-places
statements::label_statement-returns-clause-places t c =
    led_made c.labelled.result (λ x. stmt_places x.0.value) (λ x. kept x.1.now) (λ rest. Some c.args.name.now.place ∷
    (stmt_places c.in_ok-inside.inside.value) rest) (c.args.name.now.place ∷ kept c.args.tokens.now) (kept
    c.in_ok-inside.rest.now) (both_led (λ rest. Some c.args.name.now.place ∷ rest) (stmt_places
    c.in_ok-inside.inside.value) (c.args.name.now.place ∷ kept c.args.tokens.now) (kept c.args.tokens.now) (kept
    c.in_ok-inside.rest.now) (some_led (c.args.name.now.place ∷ []) (kept c.args.tokens.now) (c.args.name.now.place ∷
    kept c.args.tokens.now) refl) c.in_ok-inside.ensures.places) c.labelled.ensures.places c.labelled.ensures.behind

pub statements::label_statement-returns-clause-shorter : goal.statements::label_statement-returns-clause-shorter
statements::label_statement-returns-clause-shorter t c = within_back c.labelled.result (λ x. length x.1.now) _ _
    (omega (arith, c.in_ok-inside.ensures.shorter)) c.labelled.ensures.shorter

pub switches::switch_statement-returns-in_err-value-clause-gives :
    goal.switches::switch_statement-returns-in_err-value-clause-gives
switches::switch_statement-returns-in_err-value-clause-gives t c =
    let ts = map spelled c.args.tokens.now in
    let read = stmt_at method_readers c.args.limit in
    let block = block_at method_readers c.args.limit in
    let p = err_from_is_err_and c.from_residual.result c.from_residual.ensures.1 in
    rw (p.1, p.2) (part_fails c.in_err-value.field-0.0 (switch_front_at method_readers c.args.limit ts) _
    (λ n. rw (switch_by_front method_readers read block c.args.limit ts, n) refl) c.in_err-value.ensures.gives)

pub switches::switch_statement-returns-in_err-groups-clause-gives :
    goal.switches::switch_statement-returns-in_err-groups-clause-gives
switches::switch_statement-returns-in_err-groups-clause-gives t c =
    let ts = map spelled c.args.tokens.now in
    let r = map spelled c.in_ok-value.rest.now in
    let read = stmt_at method_readers c.args.limit in
    let block = block_at method_readers c.args.limit in
    let p = err_from_is_err_and c.from_residual-in_err-groups.result c.from_residual-in_err-groups.ensures.1 in
    rw (p.1, p.2) (part_fails c.in_err-groups.field-0.0 (groups_at method_readers read c.args.limit (length r) r) _
    (λ n. rw (switch_by_front method_readers read block c.args.limit ts, c.in_ok-value.ensures.gives, n) refl)
    (subst (λ (k : ℕ). Fails c.in_err-groups.field-0.0 (groups_at method_readers (stmt_at method_readers k) k (length r)
    r)) c.in_ok-value.ensures.nesting c.in_err-groups.ensures.gives))

pub switches::switch_statement-returns-clause-gives : goal.switches::switch_statement-returns-clause-gives
switches::switch_statement-returns-clause-gives t c =
    let ts = map spelled c.args.tokens.now in
    let r = map spelled c.in_ok-value.rest.now in
    let read = stmt_at method_readers c.args.limit in
    let block = block_at method_readers c.args.limit in
    let g : groups_at method_readers read c.args.limit (length r) r ≡ Some (
      pack_groups (map group_of c.in_ok-groups.groups.items),
      map spelled c.in_ok-groups.rest.now,
    ) = subst (λ (k : ℕ). groups_at method_readers (stmt_at method_readers k) k (length r) r ≡ Some (
      pack_groups (map group_of c.in_ok-groups.groups.items),
      map spelled c.in_ok-groups.rest.now,
    )) c.in_ok-value.ensures.nesting c.in_ok-groups.ensures.gives in
    rw (switch_by_front method_readers read block c.args.limit ts, c.in_ok-value.ensures.gives, g)
    c.switched.ensures.gives

pub switches::switch_statement-returns-clause-places : goal.switches::switch_statement-returns-clause-places
switches::switch_statement-returns-clause-places t c =
    led_made c.switched.result (λ x. stmt_places x.0.value) (λ x. kept x.1.now) (λ rest. (expr_places
    c.in_ok-value.value.value) ((each_puts (map group_places c.in_ok-groups.groups.items)) rest)) (kept
    c.args.tokens.now) (kept c.in_ok-groups.rest.now) (both_led (expr_places c.in_ok-value.value.value) (each_puts (map
    group_places c.in_ok-groups.groups.items)) (kept c.args.tokens.now) (kept c.in_ok-value.rest.now) (kept
    c.in_ok-groups.rest.now) c.in_ok-value.ensures.places c.in_ok-groups.ensures.places) c.switched.ensures.places
    c.switched.ensures.behind

pub switches::switch_statement-returns-clause-shorter : goal.switches::switch_statement-returns-clause-shorter
switches::switch_statement-returns-clause-shorter t c = within_back c.switched.result (λ x. length x.1.now) _ _
    (omega (arith, c.in_ok-value.ensures.shorter, c.in_ok-groups.ensures.shorter)) c.switched.ensures.shorter

pub tries::parts-loop-init : goal.tries::parts-loop-init
tries::parts-loop-init t c =
    let all : suc (length (map spelled c.args.tokens.now)) - 0 ≡ suc (length (map spelled c.args.tokens.now)) =
    omega arith in
    record {
      gives = rw (c.new-parts.ensures.clauses, c.new-parts.ensures.last, all) (no_part_before _);
      places = rw (c.new-parts.ensures.clauses, c.new-parts.ensures.last) (λ rest led. led);
      few = omega arith;
    }

pub tries::parts-returns-in_err-next-in-Clause-clause-gives :
    goal.tries::parts-returns-in_err-next-in-Clause-clause-gives
tries::parts-returns-in_err-next-in-Clause-clause-gives t c =
    let read = stmt_at method_readers c.args.limit in
    let block = block_at method_readers c.args.limit in
    let one = pieces_at method_readers read block c.args.limit catch_row in
    let total = parts_at method_readers read block c.args.limit (map spelled c.args.tokens.now) in
    let p = err_from_is_err_and c.from_residual.result c.from_residual.ensures.1 in
    rw (p.1, p.2) (clause_fails method_readers one block total c.args.tokens.now c.loop.counter (map catch_of
    c.loop.parts.clauses.items) block_of c.loop.parts.last c.in_err-next-in-Clause.field-0.0
    (map spelled c.loop.rest.now) (map spelled c.in-Clause.after.now) c.loop-test.true c.in-Clause.ensures.gives
    c.in_err-next-in-Clause.ensures.gives c.loop.invariant.gives)

pub tries::parts-returns-in_err-last-in-Last-clause-gives : goal.tries::parts-returns-in_err-last-in-Last-clause-gives
tries::parts-returns-in_err-last-in-Last-clause-gives t c =
    let read = stmt_at method_readers c.args.limit in
    let block = block_at method_readers c.args.limit in
    let one = pieces_at method_readers read block c.args.limit catch_row in
    let total = parts_at method_readers read block c.args.limit (map spelled c.args.tokens.now) in
    let p = err_from_is_err_and c.from_residual-in_err-last-in-Last.result
    c.from_residual-in_err-last-in-Last.ensures.1 in
    rw (p.1, p.2) (last_fails method_readers one block total c.args.tokens.now c.loop.counter (map catch_of
    c.loop.parts.clauses.items) block_of c.loop.parts.last c.in_err-last-in-Last.field-0.0
    (map spelled c.loop.rest.now) (map spelled c.in-Last.after.now) c.loop-test.true c.in-Last.ensures.gives
    c.in_err-last-in-Last.ensures.gives c.loop.invariant.gives)

pub tries::parts-loop-preserved : goal.tries::parts-loop-preserved
tries::parts-loop-preserved t c =
    let read = stmt_at method_readers c.args.limit in
    let block = block_at method_readers c.args.limit in
    let one = pieces_at method_readers read block c.args.limit catch_row in
    let total = parts_at method_readers read block c.args.limit (map spelled c.args.tokens.now) in
    elim c.match-next.branch [
      | tries::parts-in-Clause+in_ok-next-in-Clause+in_ok-push-in-Clause w ↦
          let n = w.in_ok-next-in-Clause.next in
          let e : map catch_of w.push.new.self.items ≡ map catch_of c.loop.parts.clauses.items ++ catch_of n ∷ [] =
          rw w.in_ok-push-in-Clause.ensures.items (map_push _ c.loop.parts.clauses.items n) in
          rw (w.parts-is, w.rest-is) (record {
            gives = rw e (clause_goes_on method_readers one block total c.args.tokens.now c.loop.counter
                (map catch_of c.loop.parts.clauses.items) block_of c.loop.parts.last (catch_of n)
                (map spelled c.loop.rest.now) (map spelled w.in-Clause.after.now)
                (map spelled w.in_ok-next-in-Clause.after.now) c.loop-test.true w.in-Clause.ensures.gives
                w.in_ok-next-in-Clause.ensures.gives c.loop.invariant.gives);
            places = rw w.in_ok-push-in-Clause.ensures.items (clause_put c.loop.parts.clauses.items c.loop.parts.last n
                (map spelled c.loop.rest.now) (map spelled w.in-Clause.after.now) (kept c.args.tokens.now)
                (kept c.loop.rest.now) (kept w.in_ok-next-in-Clause.after.now) w.in-Clause.ensures.gives
                (from_equal (catch_places n) (kept c.loop.rest.now) (kept w.in-Clause.after.now)
                (kept w.in_ok-next-in-Clause.after.now) w.in-Clause.ensures.places
                w.in_ok-next-in-Clause.ensures.places) c.loop.invariant.places);
            few = omega (
              arith,
              w.in-Clause.ensures.shorter,
              w.in_ok-next-in-Clause.ensures.shorter,
              c.loop.invariant.few,
            );
          })
      | tries::parts-in-Last+in_ok-last-in-Last w ↦ rw (w.parts-is, w.rest-is) (record {
        gives = last_goes_on method_readers one block total c.args.tokens.now c.loop.counter
            (map catch_of c.loop.parts.clauses.items) block_of c.loop.parts.last w.in_ok-last-in-Last.last
            (suc (length (map spelled c.args.tokens.now)) - (c.loop.counter + 1))
            (map spelled c.loop.rest.now) (map spelled w.in-Last.after.now)
            (map spelled w.in_ok-last-in-Last.after.now) c.loop-test.true w.in-Last.ensures.gives
            w.in_ok-last-in-Last.ensures.gives c.loop.invariant.gives;
        places = last_put c.loop.parts.clauses.items c.loop.parts.last w.in_ok-last-in-Last.last
            (map spelled c.loop.rest.now) (map spelled w.in-Last.after.now) (kept c.args.tokens.now)
            (kept c.loop.rest.now) (kept w.in_ok-last-in-Last.after.now) w.in-Last.ensures.gives
            (from_equal (each_puts (map stmt_places w.in_ok-last-in-Last.last.items)) (kept c.loop.rest.now)
            (kept w.in-Last.after.now) (kept w.in_ok-last-in-Last.after.now) w.in-Last.ensures.places
            w.in_ok-last-in-Last.ensures.places) c.loop.invariant.places;
        few = omega (
          arith,
          w.in-Last.ensures.shorter,
          w.in_ok-last-in-Last.ensures.shorter,
          c.loop.invariant.few,
        );
      })
    ]

pub tries::parts-returns-clause-gives : goal.tries::parts-returns-clause-gives
tries::parts-returns-clause-gives t c =
    let read = stmt_at method_readers c.args.limit in
    let block = block_at method_readers c.args.limit in
    let one = pieces_at method_readers read block c.args.limit catch_row in
    let total = parts_at method_readers read block c.args.limit (map spelled c.args.tokens.now) in
    let few = c.loop.invariant.few in
    elim c.loop-test.branch [
      | tries::parts-else-loop-test w ↦ parts_end method_readers one block total c.args.tokens.now c.loop.counter
          (map catch_of c.loop.parts.clauses.items) block_of c.loop.parts.last (map spelled c.loop.rest.now)
          (omega (arith, few)) (nothing_left c.loop.parts.last c.loop.rest.now (omega (arith, few, w.loop-test.false)))
          c.loop.invariant.gives
      | tries::parts-then-loop-test+in-Nothing w ↦ parts_end method_readers one block total c.args.tokens.now
          c.loop.counter (map catch_of c.loop.parts.clauses.items) block_of c.loop.parts.last
          (map spelled c.loop.rest.now) (omega (arith, few)) w.in-Nothing.ensures.gives c.loop.invariant.gives
    ]
