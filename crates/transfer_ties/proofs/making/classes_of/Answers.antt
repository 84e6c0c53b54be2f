use Rattle.std.specs.Prelude.{Option, Vec}
use Rattle.std.specs.Global.{Global}
use Rattle.std.proofs.Common.{◌≡◌, map}
use Rattle.std.proofs.lemmas.Result.{IfOk-weaker}
use Rattle.racer_base.specs.declared.ids.ClassId.{ClassId}
use Rattle.core_code.specs.Program.{core}
use Rattle.transfer_ties.specs.Names.{TellClasses, class_partner}
use Rattle.transfer_ties.proofs.Telling.{classes_told}
use Rattle.transfer_ties.proofs.making.classes_of.Goals as goal

pub returns : goal.returns
returns c =
    let p = core c.args.old.now in
    let q = core c.args.new.now in
    let olds = c.classes-2.result.now in
    let numbers = c.in_ok-numbers.numbers in
    IfOk-weaker c.class_partners.result
    (λ (made : Vec (Option ClassId) Global). made.items ≡ map (class_partner numbers) olds)
    (λ (made : Vec (Option ClassId) Global). TellClasses p q made.items)
    (λ made is. classes_told p q olds c.classes.result.now numbers made.items c.classes-2.ensures c.classes.ensures
    c.in_ok-numbers.ensures is)
    c.class_partners.ensures
