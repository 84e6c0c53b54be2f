mod Rows
use Rattle.std.proofs.Common.{◌≡◌, ℕ, true, false, length, suc, ◌+◌, ◌-◌, ◌++◌, ◌∷◌, [], map, refl, sym, ap, Some}
use Rattle.std.proofs.Common.{option_map}
use Rattle.std.proofs.Common.{◌∙◌, arith}
use Rattle.std.proofs.lemmas.Result.{err_from_is_err_and}
use Rattle.std.proofs.lemmas.List.{map_push}
use Rattle.java_tree.specs.KeptPlaces.{Places, Puts, kept, expr_places, stmt_places, each_puts, maybe_puts}
use Rattle.java_tree.specs.KeptPlaces.{resources_places}
use Rattle.java_parser_types.proofs.PutPlaces.{one_put}
use Rattle.java_tree.specs.View.{stmt_of}
use Rattle.java_parser_grammar.specs.StatementReading.{braces_at, by_lead, stmt_at, block_at, body_at, condition_at}
use Rattle.java_parser_grammar.specs.StatementReading.{if_at}
use Rattle.java_parser_grammar.specs.Lookahead.{StatementLead, statement_lead}
use Rattle.java_parser_grammar.specs.JavaReaders.{method_readers}
use Rattle.java_parser_types.specs.Tokens.{spelled}
use Rattle.java_parser_types.specs.Endings.{block_end}
use Rattle.java_parser_methods.specs.HeadReading.{head_at}
use Rattle.java_parser_types.proofs.ReadParts.{part_fails}
use Rattle.java_parser_methods.proofs.ForHeads.{for_is_headed}
use Rattle.java_parser_types.proofs.ReadLoops.{ends_give}
use Rattle.java_parser_methods.proofs.StatementLoops.{statement_goes_on, statement_fails, statements_end}
use Rattle.java_parser_methods.proofs.StatementLoops.{statements_run_out, stmt_within, block_within}
use Rattle.java_parser_methods.proofs.StatementParts.{catch_led, group_led}
use Rattle.java_tree.specs.Formed.{is_body}
use Rattle.java_parser_methods.specs.HeadView.{head_places}
use Rattle.java_parser_methods.proofs.PassedOn.{within_back, tested_no, tested_yes}
use Rattle.java_parser_methods.proofs.+statements.Goals as goal
use Rattle.java_parser_types.proofs.LedMarks.{both_led, led_made, some_led, led_on, from_equal, led_made_through}
use Rattle.java_parser_types.proofs.LedMarks.{part_led, read_from}
use Rattle.java_parser_lookahead.specs.StatementLeadView.{word_onto}
use Rattle.java_parser_methods.specs.TryView.{parts_places}
use Rattle.java_parser_methods.proofs.+statements.Answers.Rows as rows

pub statements::braces-returns-in-Some-clause-gives : goal.statements::braces-returns-in-Some-clause-gives
statements::braces-returns-in-Some-clause-gives t c =
    let read = stmt_at method_readers c.args.limit in
    statements_end method_readers read block_end (braces_at method_readers read (map spelled c.args.tokens.now))
    c.args.tokens.now c.loop.counter (map stmt_of c.loop.items.items) (map spelled c.loop.rest.now)
    (map spelled c.in-Some.after.now) c.loop-test.true c.in-Some.ensures.gives c.loop.invariant.gives

pub statements::braces-returns-in_err-next-clause-gives : goal.statements::braces-returns-in_err-next-clause-gives
statements::braces-returns-in_err-next-clause-gives t c =
    let read = stmt_at method_readers c.args.limit in
    let p = err_from_is_err_and c.from_residual.result c.from_residual.ensures.1 in
    rw (p.1, p.2) (statement_fails method_readers read block_end (braces_at method_readers read
    (map spelled c.args.tokens.now)) c.args.tokens.now c.loop.counter (map stmt_of c.loop.items.items)
    c.in_err-next.field-0.0 (map spelled c.loop.rest.now) c.loop-test.true c.in_default.ensures.gives
    c.in_err-next.ensures.gives c.loop.invariant.gives)

pub statements::braces-loop-preserved : goal.statements::braces-loop-preserved
statements::braces-loop-preserved t c =
    let n = c.in_ok-next.next.value in
    let e : map stmt_of c.push_tree.new.trees.items ≡ map stmt_of c.loop.items.items ++ stmt_of n ∷ [] =
    rw c.in_ok-push_tree.ensures.items (map_push _ c.loop.items.items n) in
    let read = stmt_at method_readers c.args.limit in
    record {
      gives = rw e (statement_goes_on method_readers read block_end (braces_at method_readers read
          (map spelled c.args.tokens.now)) c.args.tokens.now c.loop.counter (map stmt_of c.loop.items.items)
          (stmt_of n) (map spelled c.loop.rest.now) (map spelled c.in_ok-next.after.now) c.loop-test.true
          c.in_default.ensures.gives c.in_ok-next.ensures.gives c.loop.invariant.gives);
      places = rw c.in_ok-push_tree.ensures.items (one_put stmt_places c.loop.items.items n (kept c.args.tokens.now)
          (kept c.loop.rest.now) (kept c.in_ok-next.after.now) c.in_ok-next.ensures.places c.loop.invariant.places);
      shorter = omega (arith, c.in_ok-next.ensures.shorter);
    }

pub statements::braces-returns-clause-gives : goal.statements::braces-returns-clause-gives
statements::braces-returns-clause-gives t c =
    let read = stmt_at method_readers c.args.limit in
    statements_run_out method_readers read block_end (braces_at method_readers read (map spelled c.args.tokens.now))
    c.args.tokens.now c.loop.counter (map stmt_of c.loop.items.items) (map spelled c.loop.rest.now)
    c.loop-test.false c.loop.invariant.gives

pub statements::by_lead-returns-in-ForWord-clause-gives : goal.statements::by_lead-returns-in-ForWord-clause-gives
statements::by_lead-returns-in-ForWord-clause-gives t c =
    let ts = map spelled c.args.tokens.now in
    let read = stmt_at method_readers c.args.limit in
    let block = block_at method_readers c.args.limit in
    let total = by_lead method_readers read block c.args.limit (statement_lead ts) ts in
    ends_give _ c.for_statement.result total _ (ap (λ (l : StatementLead). by_lead method_readers read block
    c.args.limit l ts) (sym c.in-ForWord.ensures.gives) ∙ for_is_headed method_readers read c.args.limit
    (map spelled c.in-ForWord.rest.now)) c.for_statement.ensures.gives

pub statements::read_statement-returns-clause-gives : goal.statements::read_statement-returns-clause-gives
statements::read_statement-returns-clause-gives t c =
    let ts = map spelled c.args.tokens.now in
    let m : ℕ = c.args.limit - 1 in
    let less : c.args.limit ≡ suc m = omega arith in
    ends_give _ c.by_lead.result (stmt_at method_readers c.args.limit ts) _ (stmt_within method_readers c.args.limit m
    ts less) c.by_lead.ensures.gives

pub statements::read_block-returns-clause-gives : goal.statements::read_block-returns-clause-gives
statements::read_block-returns-clause-gives t c =
    let ts = map spelled c.args.tokens.now in
    let m : ℕ = c.args.limit - 1 in
    let less : c.args.limit ≡ suc m = omega arith in
    ends_give _ c.braces.result (block_at method_readers c.args.limit ts) _ (block_within method_readers c.args.limit
    m ts less (map spelled c.in_ok-rest.rest.now) c.in_ok-rest.ensures.gives) c.braces.ensures.gives

-- ---- what is read of parts

pub statements::by_lead-returns-in-Semicolon-clause-gives : goal.statements::by_lead-returns-in-Semicolon-clause-gives
statements::by_lead-returns-in-Semicolon-clause-gives t c = ends_give _ c.empty.result (by_lead method_readers (stmt_at
    method_readers c.args.limit) (block_at method_readers c.args.limit) c.args.limit (statement_lead (map spelled
    c.args.tokens.now)) (map spelled c.args.tokens.now)) _ (ap (λ (l : StatementLead). by_lead method_readers
    (stmt_at method_readers c.args.limit) (block_at method_readers c.args.limit) c.args.limit l (map spelled
    c.args.tokens.now)) (sym c.in-Semicolon.ensures.gives)) c.empty.ensures.gives

pub statements::by_lead-returns-in-IfWord-clause-gives : goal.statements::by_lead-returns-in-IfWord-clause-gives
statements::by_lead-returns-in-IfWord-clause-gives t c = ends_give _ c.if_statement.result
    (by_lead method_readers (stmt_at
    method_readers c.args.limit) (block_at method_readers c.args.limit) c.args.limit (statement_lead (map spelled
    c.args.tokens.now)) (map spelled c.args.tokens.now)) _ (ap (λ (l : StatementLead). by_lead method_readers
    (stmt_at method_readers c.args.limit) (block_at method_readers c.args.limit) c.args.limit l (map spelled
    c.args.tokens.now)) (sym c.in-IfWord.ensures.gives)) c.if_statement.ensures.gives

pub statements::by_lead-returns-in-Other-clause-gives : goal.statements::by_lead-returns-in-Other-clause-gives
statements::by_lead-returns-in-Other-clause-gives t c = ends_give _ c.simple.result (by_lead method_readers (stmt_at
    method_readers c.args.limit) (block_at method_readers c.args.limit) c.args.limit (statement_lead (map spelled
    c.args.tokens.now)) (map spelled c.args.tokens.now)) _ (ap (λ (l : StatementLead). by_lead method_readers
    (stmt_at method_readers c.args.limit) (block_at method_readers c.args.limit) c.args.limit l (map spelled
    c.args.tokens.now)) (sym c.in-Other.ensures.gives)) c.simple.ensures.gives

pub statements::body-returns-in_err-body-clause-gives : goal.statements::body-returns-in_err-body-clause-gives
statements::body-returns-in_err-body-clause-gives t c =
    let p = err_from_is_err_and c.from_residual.result c.from_residual.ensures.1 in
    rw (p.1, p.2) (part_fails c.in_err-body.field-0.0 (stmt_at method_readers c.args.limit (map spelled
    c.args.tokens.now)) _ (λ n. rw n refl) c.in_err-body.ensures.gives)

pub statements::if_statement-returns-in_err-condition-clause-gives :
    goal.statements::if_statement-returns-in_err-condition-clause-gives
unfolding if_at
statements::if_statement-returns-in_err-condition-clause-gives t c =
    let p = err_from_is_err_and c.from_residual.result c.from_residual.ensures.1 in
    rw (p.1, p.2) (part_fails c.in_err-condition.field-0.0 (condition_at method_readers c.args.limit (map spelled
    c.args.tokens.now)) _ (λ n. rw n refl) c.in_err-condition.ensures.gives)

pub statements::if_statement-returns-in_err-then-clause-gives :
    goal.statements::if_statement-returns-in_err-then-clause-gives
unfolding if_at
statements::if_statement-returns-in_err-then-clause-gives t c =
    let p = err_from_is_err_and c.from_residual-in_err-then.result c.from_residual-in_err-then.ensures.1 in
    rw (p.1, p.2) (part_fails c.in_err-then.field-0.0 (body_at method_readers (stmt_at method_readers c.args.limit)
    (map spelled c.in_ok-condition.rest.now)) _ (λ n. rw (c.in_ok-condition.ensures.gives, n) refl)
    c.in_err-then.ensures.gives)

pub statements::if_statement-returns-clause-gives : goal.statements::if_statement-returns-clause-gives
unfolding if_at
statements::if_statement-returns-clause-gives t c = rw (c.in_ok-condition.ensures.gives, c.in_ok-then.ensures.gives)
    c.otherwise.ensures.gives

pub statements::otherwise-returns-in_default-clause-gives : goal.statements::otherwise-returns-in_default-clause-gives
statements::otherwise-returns-in_default-clause-gives t c = rw c.in_default.ensures.gives c.without_else.ensures.gives

pub statements::otherwise-returns-in_err-other-clause-gives :
    goal.statements::otherwise-returns-in_err-other-clause-gives
statements::otherwise-returns-in_err-other-clause-gives t c =
    let p = err_from_is_err_and c.from_residual.result c.from_residual.ensures.1 in
    rw (p.1, p.2) (part_fails c.in_err-other.field-0.0 (body_at method_readers (stmt_at method_readers c.args.limit)
    (map spelled c.in-Some.after.now)) _ (λ n. rw (c.in-Some.ensures.gives, n) refl) c.in_err-other.ensures.gives)

pub statements::otherwise-returns-clause-gives : goal.statements::otherwise-returns-clause-gives
statements::otherwise-returns-clause-gives t c = rw (c.in-Some.ensures.gives, c.in_ok-other.ensures.gives)
    c.with_else.ensures.gives

pub statements::for_statement-returns-in_err-head-clause-gives :
    goal.statements::for_statement-returns-in_err-head-clause-gives
statements::for_statement-returns-in_err-head-clause-gives t c =
    let p = err_from_is_err_and c.from_residual.result c.from_residual.ensures.1 in
    rw (p.1, p.2) (part_fails c.in_err-head.field-0.0 (head_at method_readers c.args.limit (map spelled
    c.args.tokens.now)) _ (λ n. rw n refl) c.in_err-head.ensures.gives)

pub statements::for_statement-returns-in_err-body-clause-gives :
    goal.statements::for_statement-returns-in_err-body-clause-gives
statements::for_statement-returns-in_err-body-clause-gives t c =
    let p = err_from_is_err_and c.from_residual-in_err-body.result c.from_residual-in_err-body.ensures.1 in
    rw (p.1, p.2) (part_fails c.in_err-body.field-0.0 (body_at method_readers (stmt_at method_readers c.args.limit)
    (map spelled c.in_ok-head.rest.now)) _ (λ n. rw (c.in_ok-head.ensures.gives, n) refl)
    c.in_err-body.ensures.gives)

pub statements::for_statement-returns-clause-gives : goal.statements::for_statement-returns-clause-gives
statements::for_statement-returns-clause-gives t c = rw (c.in_ok-head.ensures.gives, c.in_ok-body.ensures.gives)
    c.headed.ensures.gives

-- ---- places, and how many tokens are left

pub statements::synchronized-returns-clause-places : goal.statements::synchronized-returns-clause-places
statements::synchronized-returns-clause-places t c =
    let lock : Puts = expr_places c.in_ok-lock.lock.value in
    let block : Puts = each_puts (map stmt_places c.in_ok-statements.statements.items) in
    let ahead : Places = c.args.place ∷ kept c.args.tokens.now in
    let left = kept c.in_ok-statements.rest.now in
    led_made c.locked.result (λ x. stmt_places x.0.value) (λ x. kept x.1.now)
    (λ rest. Some c.args.place ∷ lock (block rest)) ahead left
    (both_led (λ rest. Some c.args.place ∷ rest) (λ rest. lock (block rest)) ahead (kept c.args.tokens.now) left
    (some_led (c.args.place ∷ []) (kept c.args.tokens.now) ahead refl)
    (both_led lock block (kept c.args.tokens.now) (kept c.in_ok-lock.rest.now) left c.in_ok-lock.ensures.places
    c.in_ok-statements.ensures.places)) c.locked.ensures.places c.locked.ensures.behind

pub statements::synchronized-returns-clause-shorter : goal.statements::synchronized-returns-clause-shorter
statements::synchronized-returns-clause-shorter t c = within_back c.locked.result (λ x. length x.1.now) _ _ (omega (
  arith,
  c.in_ok-lock.ensures.shorter,
  c.in_ok-statements.ensures.shorter,
))
    c.locked.ensures.shorter

pub statements::for_statement-returns-clause-places : goal.statements::for_statement-returns-clause-places
statements::for_statement-returns-clause-places t c =
    led_made c.headed.result (λ x. stmt_places x.0.value) (λ x. kept x.1.now) (λ rest. (head_places c.in_ok-head.head)
    ((stmt_places c.in_ok-body.body.value) rest)) (kept c.args.tokens.now) (kept c.in_ok-body.rest.now) (both_led
    (head_places c.in_ok-head.head) (stmt_places c.in_ok-body.body.value) (kept c.args.tokens.now) (kept
    c.in_ok-head.rest.now) (kept c.in_ok-body.rest.now) c.in_ok-head.ensures.places c.in_ok-body.ensures.places)
    c.headed.ensures.places c.headed.ensures.behind

pub statements::for_statement-returns-clause-shorter : goal.statements::for_statement-returns-clause-shorter
statements::for_statement-returns-clause-shorter t c = within_back c.headed.result (λ x. length x.1.now) _ _ (omega (
  arith,
  c.in_ok-head.ensures.shorter,
  c.in_ok-body.ensures.shorter,
))
    c.headed.ensures.shorter

pub statements::while_statement-returns-clause-places : goal.statements::while_statement-returns-clause-places
statements::while_statement-returns-clause-places t c =
    led_made c.repeated.result (λ x. stmt_places x.0.value) (λ x. kept x.1.now) (λ rest. (expr_places
    c.in_ok-condition.condition.value) ((stmt_places c.in_ok-body.body.value) rest)) (kept c.args.tokens.now) (kept
    c.in_ok-body.rest.now) (both_led (expr_places c.in_ok-condition.condition.value) (stmt_places
    c.in_ok-body.body.value) (kept c.args.tokens.now) (kept c.in_ok-condition.rest.now) (kept c.in_ok-body.rest.now)
    c.in_ok-condition.ensures.places c.in_ok-body.ensures.places) c.repeated.ensures.places c.repeated.ensures.behind

pub statements::while_statement-returns-clause-shorter : goal.statements::while_statement-returns-clause-shorter
statements::while_statement-returns-clause-shorter t c = within_back c.repeated.result (λ x. length x.1.now) _ _
    (omega (
      arith,
      c.in_ok-condition.ensures.shorter,
      c.in_ok-body.ensures.shorter,
    ))
    c.repeated.ensures.shorter

pub statements::if_statement-returns-clause-places : goal.statements::if_statement-returns-clause-places
statements::if_statement-returns-clause-places t c =
    led_on c.otherwise.result (λ x. stmt_places x.0.value) (λ x. kept x.1.now) (λ rest. (expr_places
    c.in_ok-condition.condition.value) ((stmt_places c.in_ok-then.then.value) rest)) (kept c.args.tokens.now) (kept
    c.in_ok-then.rest.now) (both_led (expr_places c.in_ok-condition.condition.value) (stmt_places
    c.in_ok-then.then.value) (kept c.args.tokens.now) (kept c.in_ok-condition.rest.now) (kept c.in_ok-then.rest.now)
    c.in_ok-condition.ensures.places c.in_ok-then.ensures.places) c.otherwise.ensures.places

pub statements::if_statement-returns-clause-shorter : goal.statements::if_statement-returns-clause-shorter
statements::if_statement-returns-clause-shorter t c = within_back c.otherwise.result (λ x. length x.1.now) _ _ (omega (
  arith,
  c.in_ok-condition.ensures.shorter,
  c.in_ok-then.ensures.shorter,
))
    c.otherwise.ensures.shorter

pub statements::otherwise-returns-clause-places : goal.statements::otherwise-returns-clause-places
statements::otherwise-returns-clause-places t c =
    let first : Puts = λ rest. expr_places c.args.condition.value (stmt_places c.args.then.value rest) in
    let other : Puts = stmt_places c.in_ok-other.other.value in
    let ahead = kept c.args.tokens.now in
    let left = kept c.in_ok-other.rest.now in
    led_made_through c.with_else.result (λ x. stmt_places x.0.value) (λ x. kept x.1.now) first
    (λ rest. first (other rest)) ahead left (part_led first other ahead left (from_equal other ahead
    (kept c.in-Some.after.now) left c.in-Some.ensures.places c.in_ok-other.ensures.places)) c.with_else.ensures.places
    c.with_else.ensures.behind

pub statements::otherwise-returns-clause-shorter : goal.statements::otherwise-returns-clause-shorter
statements::otherwise-returns-clause-shorter t c = within_back c.with_else.result (λ x. length x.1.now) _ _ (omega (
  arith,
  c.in_ok-other.ensures.shorter,
  c.in-Some.ensures.shorter,
))
    c.with_else.ensures.shorter

pub statements::body-returns-then-not-is_body-clause-gives : goal.statements::body-returns-then-not-is_body-clause-gives
statements::body-returns-then-not-is_body-clause-gives t c = tested_no (stmt_at method_readers c.args.limit (map spelled
    c.args.tokens.now))
    (stmt_of c.in_ok-body.body.value, map spelled c.in_ok-body.rest.now) (λ x. is_body x.0) c.in_ok-body.ensures.gives
    (ap (λ s. is_body (stmt_of s)) (sym c.deref.ensures) ∙ sym c.is_body.ensures ∙ c.if-not-is_body.true)

pub statements::body-returns-clause-gives : goal.statements::body-returns-clause-gives
statements::body-returns-clause-gives t c =
    tested_yes (stmt_at method_readers c.args.limit (map spelled c.args.tokens.now))
    (stmt_of c.in_ok-body.body.value, map spelled c.in_ok-body.rest.now) (λ x. is_body x.0) c.in_ok-body.ensures.gives
    (ap (λ s. is_body (stmt_of s)) (sym c.deref.ensures) ∙ sym c.is_body.ensures ∙ c.if-not-is_body.false)

-- ---- what a call at the end of an arm says

pub statements::by_lead-returns-in-Semicolon-clause-places :
    goal.statements::by_lead-returns-in-Semicolon-clause-places
statements::by_lead-returns-in-Semicolon-clause-places t c =
    led_made c.empty.result (λ x. stmt_places x.0.value) (λ x. kept x.1.now) (λ rest. rest) (kept c.args.tokens.now)
    (kept c.in-Semicolon.rest.now) (from_equal (λ rest. rest) (kept c.args.tokens.now) (kept c.in-Semicolon.rest.now)
    (kept c.in-Semicolon.rest.now) c.in-Semicolon.ensures.places (λ rest a. a)) c.empty.ensures.places
    c.empty.ensures.behind

pub statements::by_lead-returns-in-Semicolon-clause-shorter :
    goal.statements::by_lead-returns-in-Semicolon-clause-shorter
statements::by_lead-returns-in-Semicolon-clause-shorter t c =
    within_back c.empty.result (λ x. length x.1.now) _ _ (omega (arith, c.in-Semicolon.ensures.shorter))
    c.empty.ensures.shorter

pub statements::by_lead-returns-in-IfWord-clause-places : goal.statements::by_lead-returns-in-IfWord-clause-places
statements::by_lead-returns-in-IfWord-clause-places t c =
    read_from c.if_statement.result (λ x. stmt_places x.0.value) (λ x. kept x.1.now) (kept c.args.tokens.now) (kept
    c.in-IfWord.rest.now) c.in-IfWord.ensures.places c.if_statement.ensures.places

pub statements::by_lead-returns-in-IfWord-clause-shorter : goal.statements::by_lead-returns-in-IfWord-clause-shorter
statements::by_lead-returns-in-IfWord-clause-shorter t c =
    within_back c.if_statement.result (λ x. length x.1.now) _ _ (omega (arith, c.in-IfWord.ensures.shorter))
    c.if_statement.ensures.shorter

pub statements::by_lead-returns-in-ForWord-clause-places : goal.statements::by_lead-returns-in-ForWord-clause-places
statements::by_lead-returns-in-ForWord-clause-places t c =
    read_from c.for_statement.result (λ x. stmt_places x.0.value) (λ x. kept x.1.now) (kept c.args.tokens.now) (kept
    c.in-ForWord.rest.now) c.in-ForWord.ensures.places c.for_statement.ensures.places

pub statements::by_lead-returns-in-ForWord-clause-shorter : goal.statements::by_lead-returns-in-ForWord-clause-shorter
statements::by_lead-returns-in-ForWord-clause-shorter t c =
    within_back c.for_statement.result (λ x. length x.1.now) _ _ (omega (arith, c.in-ForWord.ensures.shorter))
    c.for_statement.ensures.shorter

-- ---- groups, clauses and last blocks

pub statements::row-returns-in-Try-clause-gives : goal.statements::row-returns-in-Try-clause-gives
statements::row-returns-in-Try-clause-gives = rows.statements::row-returns-in-Try-clause-gives

pub switches::group_statements-returns-in_err-next-clause-gives :
    goal.switches::group_statements-returns-in_err-next-clause-gives
switches::group_statements-returns-in_err-next-clause-gives =
    rows.switches::group_statements-returns-in_err-next-clause-gives

pub switches::group_statements-loop-preserved : goal.switches::group_statements-loop-preserved
switches::group_statements-loop-preserved = rows.switches::group_statements-loop-preserved

pub switches::group_statements-loop-init : goal.switches::group_statements-loop-init
switches::group_statements-loop-init = rows.switches::group_statements-loop-init

pub switches::group_statements-returns-then-not-ends_group-clause-gives :
    goal.switches::group_statements-returns-then-not-ends_group-clause-gives
switches::group_statements-returns-then-not-ends_group-clause-gives =
    rows.switches::group_statements-returns-then-not-ends_group-clause-gives

pub switches::group_statements-returns-clause-gives : goal.switches::group_statements-returns-clause-gives
switches::group_statements-returns-clause-gives = rows.switches::group_statements-returns-clause-gives

pub switches::groups-returns-in-Some-clause-gives : goal.switches::groups-returns-in-Some-clause-gives
switches::groups-returns-in-Some-clause-gives = rows.switches::groups-returns-in-Some-clause-gives

pub switches::groups-returns-in_err-next-clause-gives : goal.switches::groups-returns-in_err-next-clause-gives
switches::groups-returns-in_err-next-clause-gives = rows.switches::groups-returns-in_err-next-clause-gives

pub switches::groups-loop-preserved : goal.switches::groups-loop-preserved
switches::groups-loop-preserved = rows.switches::groups-loop-preserved

pub switches::groups-loop-init : goal.switches::groups-loop-init
switches::groups-loop-init = rows.switches::groups-loop-init

pub switches::groups-returns-clause-gives : goal.switches::groups-returns-clause-gives
switches::groups-returns-clause-gives = rows.switches::groups-returns-clause-gives

pub statements::do_statement-returns-in_err-body-clause-gives :
    goal.statements::do_statement-returns-in_err-body-clause-gives
statements::do_statement-returns-in_err-body-clause-gives =
    rows.statements::do_statement-returns-in_err-body-clause-gives

pub statements::do_statement-returns-clause-gives : goal.statements::do_statement-returns-clause-gives
statements::do_statement-returns-clause-gives = rows.statements::do_statement-returns-clause-gives

pub statements::do_statement-returns-clause-places : goal.statements::do_statement-returns-clause-places
statements::do_statement-returns-clause-places = rows.statements::do_statement-returns-clause-places

pub statements::do_statement-returns-clause-shorter : goal.statements::do_statement-returns-clause-shorter
statements::do_statement-returns-clause-shorter = rows.statements::do_statement-returns-clause-shorter

pub statements::label_statement-returns-in_err-inside-clause-gives :
    goal.statements::label_statement-returns-in_err-inside-clause-gives
statements::label_statement-returns-in_err-inside-clause-gives =
    rows.statements::label_statement-returns-in_err-inside-clause-gives

pub statements::label_statement-returns-clause-gives : goal.statements::label_statement-returns-clause-gives
statements::label_statement-returns-clause-gives = rows.statements::label_statement-returns-clause-gives

pub statements::label_statement-returns-clause-places : goal.statements::label_statement-returns-clause-places
statements::label_statement-returns-clause-places = rows.statements::label_statement-returns-clause-places

pub statements::label_statement-returns-clause-shorter : goal.statements::label_statement-returns-clause-shorter
statements::label_statement-returns-clause-shorter = rows.statements::label_statement-returns-clause-shorter

pub switches::switch_statement-returns-in_err-value-clause-gives :
    goal.switches::switch_statement-returns-in_err-value-clause-gives
switches::switch_statement-returns-in_err-value-clause-gives =
    rows.switches::switch_statement-returns-in_err-value-clause-gives

pub switches::switch_statement-returns-in_err-groups-clause-gives :
    goal.switches::switch_statement-returns-in_err-groups-clause-gives
switches::switch_statement-returns-in_err-groups-clause-gives =
    rows.switches::switch_statement-returns-in_err-groups-clause-gives

pub switches::switch_statement-returns-clause-gives : goal.switches::switch_statement-returns-clause-gives
switches::switch_statement-returns-clause-gives = rows.switches::switch_statement-returns-clause-gives

pub switches::switch_statement-returns-clause-places : goal.switches::switch_statement-returns-clause-places
switches::switch_statement-returns-clause-places = rows.switches::switch_statement-returns-clause-places

pub switches::switch_statement-returns-clause-shorter : goal.switches::switch_statement-returns-clause-shorter
switches::switch_statement-returns-clause-shorter = rows.switches::switch_statement-returns-clause-shorter

pub tries::parts-loop-init : goal.tries::parts-loop-init
tries::parts-loop-init = rows.tries::parts-loop-init

pub tries::parts-returns-in_err-next-in-Clause-clause-gives :
    goal.tries::parts-returns-in_err-next-in-Clause-clause-gives
tries::parts-returns-in_err-next-in-Clause-clause-gives = rows.tries::parts-returns-in_err-next-in-Clause-clause-gives

pub tries::parts-returns-in_err-last-in-Last-clause-gives : goal.tries::parts-returns-in_err-last-in-Last-clause-gives
tries::parts-returns-in_err-last-in-Last-clause-gives = rows.tries::parts-returns-in_err-last-in-Last-clause-gives

pub tries::parts-loop-preserved : goal.tries::parts-loop-preserved
tries::parts-loop-preserved = rows.tries::parts-loop-preserved

pub tries::parts-returns-clause-gives : goal.tries::parts-returns-clause-gives
tries::parts-returns-clause-gives = rows.tries::parts-returns-clause-gives

pub statements::otherwise-returns-in_default-clause-places : goal.statements::otherwise-returns-in_default-clause-places
statements::otherwise-returns-in_default-clause-places t c =
    led_made_through c.without_else.result (λ x. stmt_places x.0.value) (λ x. kept x.1.now) (λ rest. expr_places
    c.args.condition.value (stmt_places c.args.then.value rest)) (λ rest. expr_places c.args.condition.value
    (stmt_places c.args.then.value rest)) (kept c.args.tokens.now) (kept c.args.tokens.now) (λ start given. given)
    c.without_else.ensures.places c.without_else.ensures.behind

pub statements::by_lead-returns-in-Class-clause-places : goal.statements::by_lead-returns-in-Class-clause-places
statements::by_lead-returns-in-Class-clause-places t c =
    read_from c.class_statement.result (λ x. stmt_places x.0.value) (λ x. kept x.1.now) (kept c.args.tokens.now) (kept
    c.in-Class.rest.now) c.in-Class.ensures.places c.class_statement.ensures.places

pub statements::by_lead-returns-in-Row-clause-places : goal.statements::by_lead-returns-in-Row-clause-places
statements::by_lead-returns-in-Row-clause-places t c =
    read_from c.row.result (λ x. stmt_places x.0.value) (λ x. kept x.1.now) (kept c.args.tokens.now) (word_onto
    c.in-Row.word c.in-Row.place (kept c.in-Row.rest.now)) c.in-Row.ensures.places c.row.ensures.places

pub statements::by_lead-returns-in-Label-clause-places : goal.statements::by_lead-returns-in-Label-clause-places
statements::by_lead-returns-in-Label-clause-places t c =
    read_from c.label_statement.result (λ x. stmt_places x.0.value) (λ x. kept x.1.now) (kept c.args.tokens.now)
    (c.in-Label.name.now.place ∷ kept c.in-Label.rest.now) c.in-Label.ensures.places c.label_statement.ensures.places

pub tries::clause-returns-clause-places : goal.tries::clause-returns-clause-places
tries::clause-returns-clause-places t c =
    catch_led c.in_ok-parameter.parameter c.in_ok-body.body (kept c.args.tokens.now) (kept c.in_ok-parameter.rest.now)
    (kept c.in_ok-body.rest.now) c.in_ok-parameter.ensures.places c.in_ok-body.ensures.places

pub switches::group-returns-clause-places : goal.switches::group-returns-clause-places
switches::group-returns-clause-places t c =
    rw c.from-labels.ensures (group_led c.in_ok-labels.labels.items c.in_ok-body.body (kept c.args.tokens.now)
    (kept c.in_ok-labels.rest.now) (kept c.in_ok-body.rest.now) c.in_ok-labels.ensures.places
    c.in_ok-body.ensures.places)

pub tries::try_statement-returns-clause-places : goal.tries::try_statement-returns-clause-places
tries::try_statement-returns-clause-places t c =
    let resources : Puts = maybe_puts (option_map resources_places c.in_ok-resources.resources) in
    let block : Puts = each_puts (map stmt_places c.in_ok-body.body.items) in
    let parts : Puts = parts_places c.in_ok-parts.parts in
    let ahead = kept c.args.tokens.now in
    let at = kept c.in_ok-resources.rest.now in
    let left = kept c.in_ok-parts.rest.now in
    led_made c.tried.result (λ x. stmt_places x.0.value) (λ x. kept x.1.now) (λ rest. resources (block (parts rest)))
    ahead left (both_led resources (λ rest. block (parts rest)) ahead at left c.in_ok-resources.ensures.places
    (both_led block parts at (kept c.in_ok-body.rest.now) left c.in_ok-body.ensures.places
    c.in_ok-parts.ensures.places)) c.tried.ensures.places c.tried.ensures.behind
