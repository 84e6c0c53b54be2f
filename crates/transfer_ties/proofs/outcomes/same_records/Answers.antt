use Rattle.std.proofs.Common.{◌≡◌, arith, length, sym, ◌∙◌, rules}
use Rattle.std.specs.Prelude.{min}
use Rattle.std.proofs.lemmas.Slice.Zip.{zip_end, zip_turn}
use Rattle.transfer_ties.specs.Names.{same_record, same_records}
use Rattle.transfer_ties.proofs.Walks.{IsTurn, pointwise_lengths, walk_ends, walk_goes, walk_stops}
use Rattle.transfer_ties.proofs.outcomes.same_records.Goals as goal

pub returns-then-olds-news : goal.returns-then-olds-news
returns-then-olds-news c =
    let ties = c.args.ties.now in
    let olds = c.args.olds.now in
    let news = c.args.news.now in
    pointwise_lengths (same_record ties) olds news (λ e. omega (arith, e))

pub loop-old-preserved : goal.loop-old-preserved
loop-old-preserved c =
    let ties = c.args.ties.now in
    let olds = c.args.olds.now in
    let news = c.args.news.now in
    let old = c.in-Some.old in
    let new = c.in-Some.new in
    let at : IsTurn olds news (length c.loop-old.yielded) old.now new.now =
    zip_turn olds news c.loop-old.yielded c.into_iter-old-iterator.result c.loop-old.old-iterator c.next.new.self
    c.next.result (search rules) (search rules) c.loop-old.yielded_by (old, new) c.in-Some.is c.next.ensures.steps in
    walk_goes (same_record ties) olds news (same_records ties olds news) c.loop-old.yielded (old, new) old.now
    new.now at
    (sym c.same_record.ensures ∙ c.if-not-same_record.false) c.loop-old.invariant

pub returns-then-not-same_record : goal.returns-then-not-same_record
returns-then-not-same_record c =
    let ties = c.args.ties.now in
    let olds = c.args.olds.now in
    let news = c.args.news.now in
    let old = c.in-Some.old in
    let new = c.in-Some.new in
    let at : IsTurn olds news (length c.loop-old.yielded) old.now new.now =
    zip_turn olds news c.loop-old.yielded c.into_iter-old-iterator.result c.loop-old.old-iterator c.next.new.self
    c.next.result (search rules) (search rules) c.loop-old.yielded_by (old, new) c.in-Some.is c.next.ensures.steps in
    walk_stops (same_record ties) olds news (same_records ties olds news) (length c.loop-old.yielded) old.now
    new.now at
    (sym c.same_record.ensures ∙ c.if-not-same_record.true) c.loop-old.invariant

pub returns : goal.returns
returns c =
    let ties = c.args.ties.now in
    let olds = c.args.olds.now in
    let news = c.args.news.now in
    let end : length c.loop-old.yielded ≡ min (length olds) (length news) =
    zip_end olds news c.loop-old.yielded c.into_iter-old-iterator.result c.loop-old.old-iterator c.next.new.self
    c.next.result (search rules) (search rules) c.loop-old.yielded_by c.in-None.is c.next.ensures.steps in
    walk_ends (same_record ties) olds news (same_records ties olds news) (length c.loop-old.yielded)
    (omega arith) end c.loop-old.invariant
