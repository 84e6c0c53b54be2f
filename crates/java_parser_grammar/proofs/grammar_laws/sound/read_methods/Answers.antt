use Rattle.java_parser_grammar.specs.JavaReaders.{method_readers}
use Rattle.java_parser_grammar.proofs.FoundJava.{EndsExpr, java_finds}
use Rattle.java_parser_grammar.proofs.ReadMethods.{read_is_formed, none_read}
use Rattle.java_parser_grammar.proofs.SoundJava.{java_sound}
use Rattle.java_parser_grammar.proofs.TypeFronts.{EndsTy}
use Rattle.java_parser_grammar.proofs.grammar_laws.sound.read_methods.Goals as goal

pub returns-clause-formed : goal.returns-clause-formed
returns-clause-formed c = λ n ts m e. (read_is_formed method_readers java_sound n ts m e).formed

pub returns-clause-small : goal.returns-clause-small
returns-clause-small c = λ n ts m e. (read_is_formed method_readers java_sound n ts m e).small

pub returns-clause-spelled : goal.returns-clause-spelled
returns-clause-spelled c = λ n ts m e. (read_is_formed method_readers java_sound n ts m e).spelled

pub returns-clause-none : goal.returns-clause-none
returns-clause-none c = none_read method_readers EndsTy EndsExpr java_finds
