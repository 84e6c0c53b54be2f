use Rattle.std.proofs.Common.{sym, subst}
use Rattle.core_code.specs.Program.{core}
use Rattle.transfer_ties.specs.Names.{TellClasses}
use Rattle.transfer_ties.proofs.OneToOne.{one_to_one}
use Rattle.transfer_ties.proofs.making.ties_of.Goals as goal

pub fields_of-requires : goal.fields_of-requires
fields_of-requires c =
    subst (TellClasses (core c.args.old.now) (core c.args.new.now)) (sym c.as_slice.ensures.value)
    c.in_ok-classes.ensures

pub methods_of-requires : goal.methods_of-requires
methods_of-requires c =
    subst (TellClasses (core c.args.old.now) (core c.args.new.now)) (sym c.as_slice-2.ensures.value)
    c.in_ok-classes.ensures

pub returns : goal.returns
returns c =
    let older = c.args.old.now in
    let newer = c.args.new.now in
    record {
      one_to_one =
          one_to_one (core older) (core newer) older.classes_differ newer.classes_differ older.fields_differ
          newer.fields_differ;
      classes = c.in_ok-classes.ensures;
      fields = c.in_ok-fields.ensures;
      methods = c.in_ok-methods.ensures;
    }
