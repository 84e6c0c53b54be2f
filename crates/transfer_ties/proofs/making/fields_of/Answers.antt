use Rattle.std.specs.Prelude.{Option, Vec}
use Rattle.std.specs.Global.{Global}
use Rattle.std.proofs.Common.{◌≡◌, map}
use Rattle.std.proofs.lemmas.Result.{IfOk-weaker}
use Rattle.racer_base.specs.declared.ids.FieldId.{FieldId}
use Rattle.core_code.specs.Program.{core}
use Rattle.transfer_ties.specs.Names.{TellFields, field_partner}
use Rattle.transfer_ties.proofs.OneToOne.{one_to_one}
use Rattle.transfer_ties.proofs.Telling.{fields_told}
use Rattle.transfer_ties.proofs.making.fields_of.Goals as goal

pub returns : goal.returns
returns c =
    let older = c.args.old.now in
    let newer = c.args.new.now in
    let p = core older in
    let q = core newer in
    let classes = c.args.classes.now in
    let olds = c.fields.result.now in
    let news = c.fields-news.result.now in
    let numbers = c.in_ok-numbers.numbers in
    IfOk-weaker c.field_partners.result
    (λ (made : Vec (Option FieldId) Global). made.items ≡ map (field_partner news numbers classes) olds)
    (λ (made : Vec (Option FieldId) Global). TellFields p q made.items)
    (λ made is. fields_told p q
    (one_to_one p q older.classes_differ newer.classes_differ older.fields_differ newer.fields_differ) classes
    c.requires newer.fields_differ olds news numbers made.items c.fields.ensures c.fields-news.ensures
    c.in_ok-numbers.ensures is)
    c.field_partners.ensures
