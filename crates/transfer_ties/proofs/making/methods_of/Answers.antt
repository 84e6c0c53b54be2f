use Rattle.std.specs.Prelude.{Option, Vec}
use Rattle.std.specs.Global.{Global}
use Rattle.std.proofs.Common.{◌≡◌, map}
use Rattle.std.proofs.lemmas.Result.{IfOk-weaker}
use Rattle.racer_base.specs.declared.ids.MethodId.{MethodId}
use Rattle.core_code.specs.Program.{core}
use Rattle.transfer_ties.specs.Names.{TellMethods, method_partner}
use Rattle.transfer_ties.proofs.OneToOne.{one_to_one}
use Rattle.transfer_ties.proofs.Telling.{methods_told}
use Rattle.transfer_ties.proofs.making.methods_of.Goals as goal

pub returns : goal.returns
returns c =
    let older = c.args.old.now in
    let newer = c.args.new.now in
    let p = core older in
    let q = core newer in
    let news = c.methods-2.result.now in
    let numbers = c.in_ok-numbers.numbers in
    IfOk-weaker c.method_partners.result
    (λ (made : Vec (Option MethodId) Global). made.items ≡ map (method_partner numbers) news)
    (λ (made : Vec (Option MethodId) Global). TellMethods p q made.items)
    (λ made is. methods_told p q
    (one_to_one p q older.classes_differ newer.classes_differ older.fields_differ newer.fields_differ)
    c.args.classes.now c.requires c.methods.result.now news numbers made.items c.methods.ensures c.methods-2.ensures
    c.in_ok-numbers.ensures is)
    c.method_partners.ensures
