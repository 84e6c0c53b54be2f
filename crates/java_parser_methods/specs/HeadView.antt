-- No public contract rests on this: the head of a `for` in the code, without places.
use Rattle.std.specs.Prelude.{List, ℕ, map, option_map}
use Rattle.java_tree.specs.declared.statements.EachTree.{EachTree}
use Rattle.java_tree.specs.KeptPlaces.{Puts, maybe_puts, each_puts, each_marks, modifier_marks, some_onto, ty_places}
use Rattle.java_tree.specs.KeptPlaces.{name_places, expr_places, start_places}
use Rattle.java_tree.specs.Trees.{Modifier, Ty, pack_exprs}
use Rattle.java_tree.specs.View.{name_of, ty_of, expr_of, modifier_of, start_of}
use Rattle.java_parser_methods.specs.declared.heads.ForHead as heads
use Rattle.java_parser_methods.specs.declared.heads.ForHead.TheVariants as head
use Rattle.java_parser_methods.specs.HeadReading.{Head, Counted, Each}

-- the variable of a `for` over the elements of something
abbrev pub each_of : EachTree → (List Modifier × Ty) × List ℕ
each_of v = ((map modifier_of v.modifiers, ty_of v.kind), name_of v.name)

abbrev pub each_places : EachTree → Puts
each_places v rest =
    each_marks modifier_marks v.modifiers (some_onto (ty_places v.kind) (name_places v.name rest))

abbrev pub head_of : heads.ForHead → Head
head_of (head.Counted start condition updates) =
    Counted (start_of start.value) (option_map (λ e. expr_of e.value) condition) (pack_exprs
    (map expr_of updates.items))
head_of (head.Each x e) = Each (each_of x.value) (expr_of e.value)

-- its places, and then the rest
abbrev pub head_places : heads.ForHead → Puts
head_places (head.Counted start condition updates) rest =
    start_places start.value (maybe_puts (option_map (λ e. expr_places e.value) condition) (each_puts
    (map expr_places updates.items) rest))
head_places (head.Each x e) rest = each_places x.value (expr_places e.value rest)
