use Rattle.java_parser.proofs.SameClasses.{same_tree}
use Rattle.java_parser_grammar.specs.Members.{form_of}
use Rattle.java_parser.proofs.laws.one_method.Goals as goal

pub returns : goal.returns
returns c class tokens tree is other formed spells = same_tree class tokens (form_of tokens) tree is other formed spells
