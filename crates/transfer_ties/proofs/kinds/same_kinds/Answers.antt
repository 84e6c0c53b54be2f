use Rattle.std.proofs.Common.{◌≡◌, arith, length, sym, ◌∙◌, rules}
use Rattle.std.specs.Prelude.{min}
use Rattle.std.proofs.lemmas.Slice.Zip.{zip_end, zip_turn}
use Rattle.transfer_ties.specs.Names.{same_kind, same_kinds}
use Rattle.transfer_ties.proofs.Walks.{IsTurn, pointwise_lengths, walk_ends, walk_goes, walk_stops}
use Rattle.transfer_ties.proofs.kinds.same_kinds.Goals as goal

pub returns-then-olds-news : goal.returns-then-olds-news
returns-then-olds-news c =
    let classes = c.args.classes.now in
    let olds = c.args.olds.now in
    let news = c.args.news.now in
    pointwise_lengths (same_kind classes) olds news (λ e. omega (arith, e))

pub loop-old-preserved : goal.loop-old-preserved
loop-old-preserved c =
    let classes = c.args.classes.now in
    let olds = c.args.olds.now in
    let news = c.args.news.now in
    let old = c.in-Some.old in
    let new = c.in-Some.new in
    let at : IsTurn olds news (length c.loop-old.yielded) old.now new.now =
    zip_turn olds news c.loop-old.yielded c.into_iter-old-iterator.result c.loop-old.old-iterator c.next.new.self
    c.next.result (search rules) (search rules) c.loop-old.yielded_by (old, new) c.in-Some.is c.next.ensures.steps in
    walk_goes (same_kind classes) olds news (same_kinds classes olds news) c.loop-old.yielded (old, new) old.now
    new.now at (sym c.same_kind.ensures ∙ c.if-not-same_kind.false) c.loop-old.invariant

pub returns-then-not-same_kind : goal.returns-then-not-same_kind
returns-then-not-same_kind c =
    let classes = c.args.classes.now in
    let olds = c.args.olds.now in
    let news = c.args.news.now in
    let old = c.in-Some.old in
    let new = c.in-Some.new in
    let at : IsTurn olds news (length c.loop-old.yielded) old.now new.now =
    zip_turn olds news c.loop-old.yielded c.into_iter-old-iterator.result c.loop-old.old-iterator c.next.new.self
    c.next.result (search rules) (search rules) c.loop-old.yielded_by (old, new) c.in-Some.is c.next.ensures.steps in
    walk_stops (same_kind classes) olds news (same_kinds classes olds news) (length c.loop-old.yielded) old.now
    new.now at (sym c.same_kind.ensures ∙ c.if-not-same_kind.true) c.loop-old.invariant

pub returns : goal.returns
returns c =
    let classes = c.args.classes.now in
    let olds = c.args.olds.now in
    let news = c.args.news.now in
    let end : length c.loop-old.yielded ≡ min (length olds) (length news) =
    zip_end olds news c.loop-old.yielded c.into_iter-old-iterator.result c.loop-old.old-iterator c.next.new.self
    c.next.result (search rules) (search rules) c.loop-old.yielded_by c.in-None.is c.next.ensures.steps in
    walk_ends (same_kind classes) olds news (same_kinds classes olds news) (length c.loop-old.yielded) (omega arith)
    end c.loop-old.invariant
