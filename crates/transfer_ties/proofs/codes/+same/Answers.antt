use Rattle.std.proofs.Common.{◌≡◌, arith, length, map, sym, ap, ◌∙◌, rules}
use Rattle.std.specs.Prelude.{min}
use Rattle.std.specs.Cmp.Lexicographic.{pointwise}
use Rattle.std.proofs.lemmas.Slice.Zip.{zip_end, zip_turn}
use Rattle.core_code.specs.declared.code.Code.TheFolds.{the_lemmas}
use Rattle.core_code.specs.Program.{core}
use Rattle.core_code.specs.Tree.{Tree, Op, in_sequence, tree_of}
use Rattle.transfer_ties.specs.Forms.{same_code}
use Rattle.transfer_ties.proofs.Layers.{op_same, parts_same, same_part}
use Rattle.transfer_ties.proofs.Layers.{sequence_none}
use Rattle.transfer_ties.proofs.Walks.{IsTurn, pointwise_lengths, walk_ends, walk_goes, walk_stops}
use Rattle.transfer_ties.proofs.codes.+same.Goals as goal

pub same_code-returns-in-Op : goal.same_code-returns-in-Op
same_code-returns-in-Op t c =
    let p = core c.args.both.older.now in
    let q = core c.args.both.newer.now in
    let u = tree_of c.args.new.now in
    let is : tree_of c.args.old.now ≡ Op c.in-Op.site c.in-Op.field-1 c.in-Op.op = search (rules, the_lemmas) in
    c.is_step.ensures
    ∙ sym (op_same p q c.in-Op.site c.in-Op.field-1 c.in-Op.op u)
    ∙ ap (λ (code : Tree). same_code p q code u) (sym is)

pub same_parts-returns-then-olds-news : goal.same_parts-returns-then-olds-news
same_parts-returns-then-olds-news t c =
    let p = core c.args.both.older.now in
    let q = core c.args.both.newer.now in
    let olds = c.args.olds.now in
    let news = c.args.news.now in
    pointwise_lengths (same_part p q) olds news (λ e. omega (arith, e)) ∙ parts_same p q olds news

pub same_parts-loop-old-preserved : goal.same_parts-loop-old-preserved
same_parts-loop-old-preserved t c =
    let p = core c.args.both.older.now in
    let q = core c.args.both.newer.now in
    let olds = c.args.olds.now in
    let news = c.args.news.now in
    let old = c.in-Some.old in
    let new = c.in-Some.new in
    let at : IsTurn olds news (length c.loop-old.yielded) old.now new.now =
    zip_turn olds news c.loop-old.yielded c.into_iter-old-iterator.result c.loop-old.old-iterator c.next.new.self
    c.next.result (search rules) (search rules) c.loop-old.yielded_by (old, new) c.in-Some.is c.next.ensures.steps in
    walk_goes (same_part p q) olds news (pointwise (same_part p q) olds news) c.loop-old.yielded (old, new) old.now
    new.now at (sym c.same_code.ensures ∙ c.if-not-same_code.false) c.loop-old.invariant

pub same_parts-returns-then-not-same_code : goal.same_parts-returns-then-not-same_code
same_parts-returns-then-not-same_code t c =
    let p = core c.args.both.older.now in
    let q = core c.args.both.newer.now in
    let olds = c.args.olds.now in
    let news = c.args.news.now in
    let old = c.in-Some.old in
    let new = c.in-Some.new in
    let at : IsTurn olds news (length c.loop-old.yielded) old.now new.now =
    zip_turn olds news c.loop-old.yielded c.into_iter-old-iterator.result c.loop-old.old-iterator c.next.new.self
    c.next.result (search rules) (search rules) c.loop-old.yielded_by (old, new) c.in-Some.is c.next.ensures.steps in
    walk_stops (same_part p q) olds news (pointwise (same_part p q) olds news) (length c.loop-old.yielded) old.now
    new.now at (sym c.same_code.ensures ∙ c.if-not-same_code.true) c.loop-old.invariant
    ∙ parts_same p q olds news

pub same_parts-returns : goal.same_parts-returns
same_parts-returns t c =
    let p = core c.args.both.older.now in
    let q = core c.args.both.newer.now in
    let olds = c.args.olds.now in
    let news = c.args.news.now in
    let end : length c.loop-old.yielded ≡ min (length olds) (length news) =
    zip_end olds news c.loop-old.yielded c.into_iter-old-iterator.result c.loop-old.old-iterator c.next.new.self
    c.next.result (search rules) (search rules) c.loop-old.yielded_by c.in-None.is c.next.ensures.steps in
    walk_ends (same_part p q) olds news (pointwise (same_part p q) olds news) (length c.loop-old.yielded) (omega arith)
    end c.loop-old.invariant
    ∙ parts_same p q olds news

pub same_code-returns-in-None : goal.same_code-returns-in-None
same_code-returns-in-None t c =
    let p = core c.args.both.older.now in
    let q = core c.args.both.newer.now in
    let u = tree_of c.args.new.now in
    let parts = map tree_of c.in-Seq.parts.items in
    let is : tree_of c.args.old.now ≡ in_sequence parts = search (rules, the_lemmas) in
    sym (ap (λ (code : Tree). same_code p q code u) is ∙ sequence_none p q parts u c.in-None.ensures)
