use Rattle.witness_text_names.proofs.NamesCut.{cut_names}
use Rattle.witness_text_names.proofs.walk.cut.Goals as goal

pub returns-clause-names : goal.returns-clause-names
returns-clause-names c = cut_names c.args.text.now c.split_once.result c.split_once.ensures.cases
