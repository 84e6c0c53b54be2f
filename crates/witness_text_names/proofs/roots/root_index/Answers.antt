use Rattle.core_code.specs.Core.{method_of}
use Rattle.core_code.specs.Program.{core}
use Rattle.witness_text_names.specs.Names.{class_roots, parameters_of}
use Rattle.witness_text_names.proofs.RootsIndexed.{all_added}
use Rattle.witness_text_names.proofs.roots.root_index.Goals as goal

pub returns : goal.returns
returns c =
    let p = core c.args.program.now in
    all_added p (class_roots p) (parameters_of 0 (method_of c.args.first.now))
    (parameters_of 1 (method_of c.args.second.now)) c.no_roots-roots.result c.add_root.new.roots
    c.add_classes.new.roots c.add_parameters.new.roots c.add_parameters-2.new.roots c.no_roots-roots.ensures
    c.in_ok-add_root.ensures c.in_ok-add_classes.ensures c.in_ok-add_parameters.ensures
    c.in_ok-add_parameters-2.ensures
