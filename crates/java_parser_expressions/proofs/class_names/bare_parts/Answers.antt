use Rattle.std.proofs.Common.{◌≡◌, Some, map, length, arith, refl, ap, sym}
use Rattle.java_tree.specs.KeptPlaces.{all_places, part_places}
use Rattle.java_tree.specs.View.{part_of}
use Rattle.java_parser_types.proofs.PutPlaces.{one_more}
use Rattle.java_parser_expressions.proofs.BareParts.{all_made, more_made, bare_of, place_of, bare_packed, bare_put}
use Rattle.java_parser_expressions.proofs.class_names.bare_parts.Goals as goal

pub loop-name-preserved : goal.loop-name-preserved
loop-name-preserved c =
    let steps = c.in-Some.ensures.steps.0 in
    let left = c.loop-name.name-iterator.rest.items in
    let more = c.next.new.self.rest.items in
    let part = c.bare-part.result.tree in
    record {
      gives = rw c.in_ok-push.ensures.items (more_made bare_of part_of c.loop-name.parts.items part left more
          c.in-Some.name (map bare_of c.args.names.items) steps c.bare-part.ensures.gives c.loop-name.invariant.gives);
      places = rw c.in_ok-push.ensures.items (one_more part_places c.loop-name.parts.items part (map place_of left)
          (map place_of more) (map place_of c.args.names.items) (rw (c.bare-part.ensures.places, steps) refl)
          c.loop-name.invariant.places);
    }

pub returns-clause-gives : goal.returns-clause-gives
returns-clause-gives c =
    let left = c.loop-name.name-iterator.rest in
    let none : length left.items ≡ 0 = omega (arith, c.in-None.ensures.steps.0, left.ok.0) in
    ap Some (sym (bare_packed c.args.names.items (map part_of c.loop-name.parts.items) (all_made bare_of
    (map part_of c.loop-name.parts.items) (map bare_of c.args.names.items) left.items none
    c.loop-name.invariant.gives)))

pub returns-clause-places : goal.returns-clause-places
returns-clause-places c =
    let left = c.loop-name.name-iterator.rest in
    let none : length left.items ≡ 0 = omega (arith, c.in-None.ensures.steps.0, left.ok.0) in
    let places = all_places (map part_places c.loop-name.parts.items) in
    bare_put c.args.names.items places (all_made place_of places (map place_of c.args.names.items) left.items none
    c.loop-name.invariant.places)
