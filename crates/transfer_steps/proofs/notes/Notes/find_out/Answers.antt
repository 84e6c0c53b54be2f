use Rattle.std.proofs.Common.{Ok, false, [], refl, sym, subst}
use Rattle.access_paths.proofs.Numbers.{goes_on-same}
use Rattle.core_code.specs.declared.code.Op.{Op as CoreOp}
use Rattle.core_code.specs.declared.code.Op.TheVariants.{Ret}
use Rattle.access_domain.specs.Operations.{op_effects}
use Rattle.transfer_steps.specs.Contexts.{given}
use Rattle.transfer_steps.specs.Noting.{IsDone}
use Rattle.transfer_steps.specs.Numbered.{read_found}
use Rattle.transfer_steps.proofs.Marking.{noted-nothing}
use Rattle.transfer_steps.proofs.Noting.{found-done}
use Rattle.transfer_steps.proofs.notes.Notes.find_out.Goals as goal

pub returns-in-Get : goal.returns-in-Get
returns-in-Get c =
    let context = c.args.context.now in
    let new = c.get.new in
    subst (λ (op : CoreOp). IsDone (op_effects (given context) context.locked c.args.site op) c.args.self.now
    c.args.state.now new.self new.state c.get.result) (sym c.in-Get.is) c.get.ensures

pub returns-in-Put : goal.returns-in-Put
returns-in-Put c =
    let context = c.args.context.now in
    let new = c.put.new in
    subst (λ (op : CoreOp). IsDone (op_effects (given context) context.locked c.args.site op) c.args.self.now
    c.args.state.now new.self new.state c.put.result) (sym c.in-Put.is) c.put.ensures

pub returns-in-Ret : goal.returns-in-Ret
returns-in-Ret c =
    let context = c.args.context.now in
    let old = c.args.self.now in
    let new = c.give_back.new in
    subst (λ (op : CoreOp). IsDone (op_effects (given context) context.locked c.args.site op) old c.args.state.now
    (record { table = old.table; found = new.found }) new.state c.give_back.result) (sym c.in-Ret.is)
    (found-done (op_effects (given context) context.locked c.args.site Ret) old.table c.args.state.now new.state
    old.found new.found c.give_back.result c.requires.numbers c.give_back.ensures.flow c.give_back.ensures.numbers)

pub returns-in-Throw : goal.returns-in-Throw
returns-in-Throw c =
    let context = c.args.context.now in
    let old = c.args.self.now in
    let here = c.args.state.now in
    subst (λ (op : CoreOp). IsDone (op_effects (given context) context.locked c.args.site op) old here old here
    (Ok false)) (sym c.in-Throw.is)
    (record {
      flow = (refl, ((noted-nothing (read_found old.table old.found) (record { vars = []; stack = [] })).0, refl));
      numbers = c.requires.numbers;
      table = goes_on-same old.table;
    })
