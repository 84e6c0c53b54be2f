use Rattle.core_code.proofs.WalkParts.{starts}
use Rattle.core_code.proofs.walk.Walk.start.Goals as goal

pub returns : goal.returns
returns c =
    starts c.args.rows.now c.in_ok-places.places.items c.in_ok-numbers.numbers.items c.new.result.items
    c.in_ok-todo.todo.items c.new-2.result.items (c.in_ok-places.ensures.items_if_clones_equal (λ n e. e))
    (c.in_ok-numbers.ensures.items_if_clones_equal (λ n e. e)) c.new.ensures.items c.new-2.ensures.items
    c.in_ok-todo.ensures
