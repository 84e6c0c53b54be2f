use Rattle.std.proofs.Common.{◌≡◌, ℕ, List, Some, length, ap, arith}
use Rattle.java_tree.specs.declared.words.Spelled.{Spelled}
use Rattle.java_tree.specs.Trees.{Stmt}
use Rattle.java_parser_grammar.specs.JavaReaders.{method_readers}
use Rattle.java_parser_grammar.specs.StatementReading.{stmt_at}
use Rattle.java_parser_grammar.proofs.Ensuring.{of_equation}
use Rattle.java_parser_grammar.proofs.LongerStatements.{stmt_longer}
use Rattle.java_parser_grammar.proofs.SoundJava.{java_sound}
use Rattle.java_parser_grammar.proofs.SoundForms.{GotStmt}
use Rattle.java_parser_grammar.proofs.SoundStatements.{stmt_sound}
use Rattle.java_parser_grammar.proofs.grammar_laws.sound.read_statements.Goals as goal

got : (n : ℕ) (ts : List Spelled) (s : Stmt) (rest : List Spelled) → stmt_at method_readers n ts ≡ Some (s, rest)
    → GotStmt n ts (s, rest)
got n ts s rest e = of_equation (GotStmt n ts) (stmt_at method_readers n ts) (s, rest) (stmt_sound method_readers
    java_sound n ts) e

pub returns-clause-formed : goal.returns-clause-formed
returns-clause-formed c = λ n ts s rest e. (got n ts s rest e).formed

pub returns-clause-small : goal.returns-clause-small
returns-clause-small c = λ n ts s rest e. (got n ts s rest e).small

pub returns-clause-spelled : goal.returns-clause-spelled
returns-clause-spelled c = λ n ts s rest e. (got n ts s rest e).spelled

pub returns-clause-shorter : goal.returns-clause-shorter
returns-clause-shorter c = λ n ts s rest e. let g =
    got n ts s rest e in omega (arith, ap length g.spelled, stmt_longer s g.formed rest)

pub returns-clause-greedy : goal.returns-clause-greedy
returns-clause-greedy c = λ n ts s rest e. (got n ts s rest e).bears
