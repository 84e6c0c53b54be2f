use Rattle.std.proofs.Common.{◌≡◌, ap, arith, length, sym, ◌∙◌, rules}
use Rattle.std.specs.Prelude.{min}
use Rattle.std.proofs.lemmas.Slice.Zip.{zip_end, zip_turn}
use Rattle.std.specs.Prelude.{Bool, Option}
use Rattle.racer_base.specs.declared.ids.FieldId.{FieldId}
use Rattle.transfer_ties.specs.declared.partners.Ties.{Ties}
use Rattle.transfer_ties.specs.Names.{is_partner_field, same_fields}
use Rattle.transfer_ties.specs.Partners.{field_in}
use Rattle.transfer_ties.proofs.Walks.{IsTurn, pointwise_lengths, walk_ends, walk_goes, walk_stops}
use Rattle.transfer_ties.proofs.outcomes.same_fields.Goals as goal

abbrev same : Ties → FieldId → FieldId → Bool
same ties f g = is_partner_field (field_in ties f) g

same_by : (found o : Option FieldId) (g : FieldId) (r : Bool) → found ≡ o → r ≡ is_partner_field found g →
    r ≡ is_partner_field o g
same_by found o g r is e = e ∙ ap (λ (x : Option FieldId). is_partner_field x g) is

pub returns-then-olds-news : goal.returns-then-olds-news
returns-then-olds-news c =
    let ties = c.args.ties.now in
    let olds = c.args.olds.now in
    let news = c.args.news.now in
    pointwise_lengths (same ties) olds news (λ e. omega (arith, e))

pub loop-old-preserved : goal.loop-old-preserved
loop-old-preserved c =
    let ties = c.args.ties.now in
    let olds = c.args.olds.now in
    let news = c.args.news.now in
    let old = c.in-Some.old in
    let new = c.in-Some.new in
    let at : IsTurn olds news (length c.loop-old.yielded) old.now new.now =
    zip_turn olds news c.loop-old.yielded c.into_iter-old-iterator.result c.loop-old.old-iterator c.next.new.self
    c.next.result (search rules) (search rules) c.loop-old.yielded_by (old, new) c.in-Some.is c.next.ensures.steps in
    walk_goes (same ties) olds news (same_fields ties olds news) c.loop-old.yielded (old, new) old.now new.now at
    (sym (same_by _ _ new.now _ c.field.ensures c.is_field.ensures) ∙ c.if-not-is_field.false) c.loop-old.invariant

pub returns-then-not-is_field : goal.returns-then-not-is_field
returns-then-not-is_field c =
    let ties = c.args.ties.now in
    let olds = c.args.olds.now in
    let news = c.args.news.now in
    let old = c.in-Some.old in
    let new = c.in-Some.new in
    let at : IsTurn olds news (length c.loop-old.yielded) old.now new.now =
    zip_turn olds news c.loop-old.yielded c.into_iter-old-iterator.result c.loop-old.old-iterator c.next.new.self
    c.next.result (search rules) (search rules) c.loop-old.yielded_by (old, new) c.in-Some.is c.next.ensures.steps in
    walk_stops (same ties) olds news (same_fields ties olds news) (length c.loop-old.yielded) old.now new.now at
    (sym (same_by _ _ new.now _ c.field.ensures c.is_field.ensures) ∙ c.if-not-is_field.true) c.loop-old.invariant

pub returns : goal.returns
returns c =
    let ties = c.args.ties.now in
    let olds = c.args.olds.now in
    let news = c.args.news.now in
    let end : length c.loop-old.yielded ≡ min (length olds) (length news) =
    zip_end olds news c.loop-old.yielded c.into_iter-old-iterator.result c.loop-old.old-iterator c.next.new.self
    c.next.result (search rules) (search rules) c.loop-old.yielded_by c.in-None.is c.next.ensures.steps in
    walk_ends (same ties) olds news (same_fields ties olds news) (length c.loop-old.yielded) (omega arith) end
    c.loop-old.invariant
