use Rattle.std.proofs.Common.{◌≡◌, ◌++◌, ◌∷◌, [], length, map, sym, refl, ◌∙◌, ◌-◌, append_assoc, arith, rules}
use Rattle.std.proofs.lemmas.Result.{err_from_is_err_and}
use Rattle.std.proofs.lemmas.List.{map_push}
use Rattle.java_tree.specs.View.{part_of, argument_of}
use Rattle.java_tree.specs.KeptPlaces.{kept, part_places, argument_places}
use Rattle.java_tree.specs.Trees.{Plain}
use Rattle.java_tree.specs.declared.types.BaseType.TheFolds.{the_lemmas}
use Rattle.java_parser_grammar.specs.Taking.{commas, after_name}
use Rattle.java_parser_grammar.specs.TypeReading.{points, part_with, argument_with, angled_with, base_with, ty_at}
use Rattle.java_parser_types.specs.Tokens.{spelled}
use Rattle.java_parser_types.specs.Finishing.{finished}
use Rattle.java_parser_types.specs.Endings.{named_end, angled_end}
use Rattle.java_parser_types.proofs.LastCalls.{fewer, below, exactly}
use Rattle.java_parser_types.proofs.PutPlaces.{one_more}
use Rattle.java_parser_types.proofs.ReadParts.{part_fails, making_fails, made_before}
use Rattle.java_parser_types.proofs.PushedNesting.{parts_nesting_push, arguments_nesting_push}
use Rattle.java_parser_types.proofs.ReadLoops.{comma_goes_on, comma_fails, comma_ends, comma_runs_out, point_goes_on}
use Rattle.java_parser_types.proofs.ReadLoops.{point_fails, point_ends, point_runs_out, ends_give}
use Rattle.java_parser_types.proofs.types.+types.Goals as goal
use Rattle.java_parser_types.proofs.types.+types.Goals.{arguments-else-loop-test}
use Rattle.java_parser_types.proofs.types.+types.Goals.{arguments-then-loop-test+in_default}

-- ---- type arguments

pub arguments-returns-in_err-next-clause-gives : goal.arguments-returns-in_err-next-clause-gives
arguments-returns-in_err-next-clause-gives t c =
    let read = argument_with (ty_at c.args.limit) in
    let total =
    finished angled_end (argument_of c.args.first.tree ∷ []) (commas read (length (map spelled c.args.tokens.now))
    (map spelled c.args.tokens.now)) in
    let p = err_from_is_err_and c.from_residual-in_err-next.result c.from_residual-in_err-next.ensures.1 in
    rw (p.1, p.2) (comma_fails read angled_end total c.args.tokens.now c.loop.counter (map argument_of
    c.loop.items.items) c.in_err-next.field-0.0 (map spelled c.loop.rest.now) (map spelled c.in-Some.after.now)
    c.loop-test.true c.in-Some.ensures.gives c.in_err-next.ensures.gives c.loop.invariant.gives)

pub arguments-loop-init : goal.arguments-loop-init
arguments-loop-init t c =
    let none : length (map spelled c.args.tokens.now) - 0 ≡ length (map spelled c.args.tokens.now) = omega arith in
    record {
      gives = rw (c.in_ok-push.ensures.items, c.new-items.ensures.items, none) refl;
      places = rw (c.in_ok-push.ensures.items, c.new-items.ensures.items) (append_assoc
          (argument_places c.args.first.tree) [] (kept c.args.tokens.now));
      small = c.requires.first;
      measured = rw (c.in_ok-push.ensures.items, c.new-items.ensures.items) (omega (arith, c.args.first.measured));
      shorter = omega arith;
    }

pub arguments-loop-preserved : goal.arguments-loop-preserved
arguments-loop-preserved t c =
    let n = c.in_ok-next.next.tree in
    let e : map argument_of c.push-in-loop.new.self.items ≡ map argument_of c.loop.items.items ++ argument_of n ∷ [] =
    rw c.in_ok-push-2.ensures.items (map_push _ c.loop.items.items n) in
    let read = argument_with (ty_at c.args.limit) in
    let total =
    finished angled_end (argument_of c.args.first.tree ∷ []) (commas read (length (map spelled c.args.tokens.now))
    (map spelled c.args.tokens.now)) in
    record {
      gives = rw e (comma_goes_on read angled_end total c.args.tokens.now c.loop.counter (map argument_of
          c.loop.items.items) (argument_of n) (map spelled c.loop.rest.now) (map spelled c.in-Some.after.now)
          (map spelled c.in_ok-next.after.now) c.loop-test.true c.in-Some.ensures.gives c.in_ok-next.ensures.gives
          c.loop.invariant.gives);
      places = rw c.in_ok-push-2.ensures.items (one_more argument_places c.loop.items.items n (kept c.loop.rest.now)
          (kept c.in_ok-next.after.now) _ (c.in_ok-next.ensures.places ∙ c.in-Some.ensures.places)
          c.loop.invariant.places);
      small = omega (arith, c.in_ok-next.ensures.small, c.max-nesting.ensures);
      measured = rw e (omega (
        arith,
        c.max-nesting.ensures,
        c.loop.invariant.measured,
        c.in_ok-next.next.measured,
        arguments_nesting_push (map argument_of c.loop.items.items) (argument_of n),
      ));
      shorter = omega (arith, c.in-Some.ensures.shorter, c.in_ok-next.ensures.shorter);
    }

pub arguments-returns-clause-gives : goal.arguments-returns-clause-gives
arguments-returns-clause-gives t c =
    let read = argument_with (ty_at c.args.limit) in
    let total =
    finished angled_end (argument_of c.args.first.tree ∷ []) (commas read (length (map spelled c.args.tokens.now))
    (map spelled c.args.tokens.now)) in
    elim c.loop-test.branch [
      | arguments-else-loop-test w ↦ ends_give _ c.closed.result total _ (comma_runs_out read angled_end total
          c.args.tokens.now c.loop.counter (map argument_of c.loop.items.items) (map spelled c.loop.rest.now)
          w.loop-test.false c.loop.invariant.gives) c.closed.ensures.gives
      | arguments-then-loop-test+in_default w ↦ ends_give _ c.closed.result total _ (comma_ends read angled_end total
          c.args.tokens.now c.loop.counter (map argument_of c.loop.items.items) (map spelled c.loop.rest.now)
          w.loop-test.true w.in_default.ensures.gives c.loop.invariant.gives) c.closed.ensures.gives
    ]

-- ---- parts

pub parts-returns-in_default-clause-gives : goal.parts-returns-in_default-clause-gives
parts-returns-in_default-clause-gives t c =
    let read = part_with (ty_at c.args.limit) in
    let total =
    finished named_end (part_of c.args.first.tree ∷ []) (points read (length (map spelled c.args.tokens.now))
    (map spelled c.args.tokens.now)) in
    point_ends read named_end total c.args.tokens.now c.loop.counter (map part_of c.loop.parts.items)
    (map spelled c.loop.rest.now) c.loop-test.true c.in_default.ensures.gives c.loop.invariant.gives
    ∙ sym c.named_base.ensures.gives

pub parts-returns-in_err-next-clause-gives : goal.parts-returns-in_err-next-clause-gives
parts-returns-in_err-next-clause-gives t c =
    let read = part_with (ty_at c.args.limit) in
    let total =
    finished named_end (part_of c.args.first.tree ∷ []) (points read (length (map spelled c.args.tokens.now))
    (map spelled c.args.tokens.now)) in
    let p = err_from_is_err_and c.from_residual-in_err-next.result c.from_residual-in_err-next.ensures.1 in
    rw (p.1, p.2) (point_fails read named_end total c.args.tokens.now c.loop.counter (map part_of c.loop.parts.items)
    c.in_err-next.field-0.0 (map spelled c.loop.rest.now) (map spelled c.in-Some.after.now) c.loop-test.true
    c.in-Some.ensures.gives c.in_err-next.ensures.gives c.loop.invariant.gives)

pub parts-loop-init : goal.parts-loop-init
parts-loop-init t c =
    let none : length (map spelled c.args.tokens.now) - 0 ≡ length (map spelled c.args.tokens.now) = omega arith in
    record {
      gives = rw (c.in_ok-push.ensures.items, c.new-parts.ensures.items, none) refl;
      places = rw (c.in_ok-push.ensures.items, c.new-parts.ensures.items) (append_assoc
          (part_places c.args.first.tree) [] (kept c.args.tokens.now));
      small = c.requires.first;
      measured = rw (c.in_ok-push.ensures.items, c.new-parts.ensures.items) (omega (arith, c.args.first.measured));
      shorter = omega arith;
    }

pub parts-loop-preserved : goal.parts-loop-preserved
parts-loop-preserved t c =
    let n = c.in_ok-next.next.tree in
    let e : map part_of c.push-in-loop.new.self.items ≡ map part_of c.loop.parts.items ++ part_of n ∷ [] =
    rw c.in_ok-push-2.ensures.items (map_push _ c.loop.parts.items n) in
    let read = part_with (ty_at c.args.limit) in
    let total =
    finished named_end (part_of c.args.first.tree ∷ []) (points read (length (map spelled c.args.tokens.now))
    (map spelled c.args.tokens.now)) in
    record {
      gives = rw e (point_goes_on read named_end total c.args.tokens.now c.loop.counter
          (map part_of c.loop.parts.items) (part_of n) (map spelled c.loop.rest.now) (map spelled c.in-Some.after.now)
          (map spelled c.in_ok-next.after.now) c.loop-test.true c.in-Some.ensures.gives c.in_ok-next.ensures.gives
          c.loop.invariant.gives);
      places = rw c.in_ok-push-2.ensures.items (one_more part_places c.loop.parts.items n (kept c.loop.rest.now)
          (kept c.in_ok-next.after.now) _ (c.in_ok-next.ensures.places ∙ c.in-Some.ensures.places)
          c.loop.invariant.places);
      small = omega (arith, c.in_ok-next.ensures.small, c.max-nesting.ensures);
      measured = rw e (omega (
        arith,
        c.max-nesting.ensures,
        c.loop.invariant.measured,
        c.in_ok-next.next.measured,
        parts_nesting_push (map part_of c.loop.parts.items) (part_of n),
      ));
      shorter = omega (arith, c.in-Some.ensures.shorter, c.in_ok-next.ensures.shorter);
    }

pub parts-returns-clause-gives : goal.parts-returns-clause-gives
parts-returns-clause-gives t c =
    let read = part_with (ty_at c.args.limit) in
    let total =
    finished named_end (part_of c.args.first.tree ∷ []) (points read (length (map spelled c.args.tokens.now))
    (map spelled c.args.tokens.now)) in
    point_runs_out read named_end total c.args.tokens.now c.loop.counter (map part_of c.loop.parts.items)
    (map spelled c.loop.rest.now) c.loop-test.false c.loop.invariant.gives ∙ sym c.named_base-2.ensures.gives

-- ---- what is read of parts

pub wildcard-returns-in_err-bound-clause-gives : goal.wildcard-returns-in_err-bound-clause-gives
wildcard-returns-in_err-bound-clause-gives t c =
    let p = err_from_is_err_and c.from_residual.result c.from_residual.ensures.1 in
    rw (p.1, p.2) (part_fails c.in_err-bound.field-0.0 (ty_at c.args.limit (map spelled c.in-Some.rest.now)) _
    (λ n. rw (c.in-Some.ensures.gives, n) refl) c.in_err-bound.ensures.gives)

pub wildcard-returns-in-Some-clause-gives : goal.wildcard-returns-in-Some-clause-gives
wildcard-returns-in-Some-clause-gives t c =
    rw (c.in-Some.ensures.gives, c.in_ok-bound.ensures.gives) (search (rules, the_lemmas))

pub wildcard-returns-in_err-bound-2-clause-gives : goal.wildcard-returns-in_err-bound-2-clause-gives
wildcard-returns-in_err-bound-2-clause-gives t c =
    let p = err_from_is_err_and c.from_residual-in_err-bound-2.result c.from_residual-in_err-bound-2.ensures.1 in
    rw (p.1, p.2) (part_fails c.in_err-bound-2.field-0.0 (ty_at c.args.limit
    (map spelled c.in-Some-after_keyword.rest.now)) _ (λ n. rw (
      c.in_default.ensures.gives,
      c.in-Some-after_keyword.ensures.gives,
      n,
    ) refl) c.in_err-bound-2.ensures.gives)

pub wildcard-returns-in-Some-after_keyword-clause-gives : goal.wildcard-returns-in-Some-after_keyword-clause-gives
wildcard-returns-in-Some-after_keyword-clause-gives t c = rw (
  c.in_default.ensures.gives,
  c.in-Some-after_keyword.ensures.gives,
  c.in_ok-bound-2.ensures.gives,
) (search (rules, the_lemmas))

pub wildcard-returns-clause-gives : goal.wildcard-returns-clause-gives
wildcard-returns-clause-gives t c =
    rw (c.in_default.ensures.gives, c.in_default-after_keyword.ensures.gives) (search (rules, the_lemmas))

pub argument-returns-in-Some-clause-gives : goal.argument-returns-in-Some-clause-gives
argument-returns-in-Some-clause-gives t c = rw c.in-Some.ensures.gives c.wildcard.ensures.gives

pub argument-returns-in_err-bound-clause-gives : goal.argument-returns-in_err-bound-clause-gives
argument-returns-in_err-bound-clause-gives t c =
    let p = err_from_is_err_and c.from_residual.result c.from_residual.ensures.1 in
    rw (p.1, p.2) (part_fails c.in_err-bound.field-0.0 (ty_at c.args.limit (map spelled c.args.tokens.now)) _
    (λ n. rw (c.in_default.ensures.gives, n) refl) c.in_err-bound.ensures.gives)

pub argument-returns-clause-gives : goal.argument-returns-clause-gives
argument-returns-clause-gives t c =
    rw (c.in_default.ensures.gives, c.in_ok-bound.ensures.gives) (search (rules, the_lemmas))

pub angled-returns-in_err-first-clause-gives : goal.angled-returns-in_err-first-clause-gives
unfolding angled_with
angled-returns-in_err-first-clause-gives t c =
    let p = err_from_is_err_and c.from_residual.result c.from_residual.ensures.1 in
    rw (p.1, p.2) (part_fails c.in_err-first.field-0.0 (argument_with (ty_at c.args.limit)
    (map spelled c.args.tokens.now)) _ (λ n. rw n refl) c.in_err-first.ensures.gives)

pub angled-returns-clause-gives : goal.angled-returns-clause-gives
unfolding angled_with
angled-returns-clause-gives t c = rw c.in_ok-first.ensures.gives c.arguments.ensures.gives

pub part-returns-in_err-name-clause-gives : goal.part-returns-in_err-name-clause-gives
unfolding part_with
part-returns-in_err-name-clause-gives t c =
    let p = err_from_is_err_and c.from_residual.result c.from_residual.ensures.1 in
    rw (p.1, p.2) (part_fails c.in_err-name.field-0.0 (after_name (map spelled c.args.tokens.now)) _
    (λ n. rw n refl) c.in_err-name.ensures.gives)

pub part-returns-in_default-clause-gives : goal.part-returns-in_default-clause-gives
unfolding part_with
part-returns-in_default-clause-gives t c =
    rw (c.in_ok-name.ensures.gives, c.in_default.ensures.gives) (search (rules, the_lemmas))

pub part-returns-in_err-angled-clause-gives : goal.part-returns-in_err-angled-clause-gives
unfolding part_with
part-returns-in_err-angled-clause-gives t c =
    let p = err_from_is_err_and c.from_residual-in_err-angled.result c.from_residual-in_err-angled.ensures.1 in
    rw (p.1, p.2) (part_fails c.in_err-angled.field-0.0 (angled_with (ty_at c.args.limit)
    (map spelled c.in-Some.inside.now)) _ (λ n. rw (
      c.in_ok-name.ensures.gives,
      c.in-Some.ensures.gives,
      n,
    ) refl) c.in_err-angled.ensures.gives)

pub part-returns-clause-gives : goal.part-returns-clause-gives
unfolding part_with
part-returns-clause-gives t c = rw (
  c.in_ok-name.ensures.gives,
  c.in-Some.ensures.gives,
  c.in_ok-angled.ensures.gives,
) (search (rules, the_lemmas))

pub base-returns-in_err-plain-clause-gives : goal.base-returns-in_err-plain-clause-gives
base-returns-in_err-plain-clause-gives t c =
    let p = err_from_is_err_and c.from_residual.result c.from_residual.ensures.1 in
    rw (p.1, p.2) (making_fails c.in_err-plain.field-0.0 (Plain c.in-Some.word.now.text) _ c.in_err-plain.ensures.gives)

pub base-returns-in-Some-clause-gives : goal.base-returns-in-Some-clause-gives
unfolding base_with
base-returns-in-Some-clause-gives t c =
    rw c.in-Some.ensures.gives (made_before _ _ _ c.in_ok-plain.ensures.gives)

pub base-returns-in_err-first-clause-gives : goal.base-returns-in_err-first-clause-gives
unfolding base_with
base-returns-in_err-first-clause-gives t c =
    let p = err_from_is_err_and c.from_residual-in_err-first.result c.from_residual-in_err-first.ensures.1 in
    rw (p.1, p.2) (part_fails c.in_err-first.field-0.0 (part_with (ty_at c.args.limit) (map spelled c.args.tokens.now))
    _ (λ n. rw (c.in_default.ensures.gives, n) refl) c.in_err-first.ensures.gives)

pub base-returns-clause-gives : goal.base-returns-clause-gives
unfolding base_with
base-returns-clause-gives t c = rw (c.in_default.ensures.gives, c.in_ok-first.ensures.gives) c.parts.ensures.gives

-- ---- places, nesting and the tokens behind

pub arguments-returns-clause-places : goal.arguments-returns-clause-places
arguments-returns-clause-places t c = rw c.loop.invariant.places at c.closed.ensures.places

pub arguments-returns-clause-small : goal.arguments-returns-clause-small
arguments-returns-clause-small t c = exactly _ c.closed.result _ _ c.closed.ensures.small c.loop.invariant.small

pub arguments-returns-clause-shorter : goal.arguments-returns-clause-shorter
arguments-returns-clause-shorter t c =
    fewer _ c.closed.result _ _ c.closed.ensures.shorter c.loop.invariant.shorter

pub part-returns-clause-small : goal.part-returns-clause-small
part-returns-clause-small t c = c.in_ok-angled.ensures.small

pub part-returns-clause-shorter : goal.part-returns-clause-shorter
part-returns-clause-shorter t c =
    omega (arith, c.in_ok-angled.ensures.shorter, c.in-Some.ensures.shorter, c.in_ok-name.ensures.shorter)

pub part-returns-in_default-clause-shorter : goal.part-returns-in_default-clause-shorter
part-returns-in_default-clause-shorter t c = c.in_ok-name.ensures.shorter

pub base-returns-clause-places : goal.base-returns-clause-places
base-returns-clause-places t c = rw c.in_ok-first.ensures.places at c.parts.ensures.places

pub base-returns-clause-shorter : goal.base-returns-clause-shorter
base-returns-clause-shorter t c =
    below _ c.parts.result _ _ c.parts.ensures.shorter c.in_ok-first.ensures.shorter

pub angled-returns-clause-places : goal.angled-returns-clause-places
angled-returns-clause-places t c = rw c.in_ok-first.ensures.places at c.arguments.ensures.places

pub angled-returns-clause-shorter : goal.angled-returns-clause-shorter
angled-returns-clause-shorter t c =
    below _ c.arguments.result _ _ c.arguments.ensures.shorter c.in_ok-first.ensures.shorter
