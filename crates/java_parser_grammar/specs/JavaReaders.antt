-- A contract of a public call rests on this: the readers of expressions, types and initialisers, by which statements
-- and methods are read.
use Rattle.java_parser_grammar.specs.Readers.{Readers}
use Rattle.java_parser_grammar.specs.TypeReading.{ty_at}
use Rattle.java_parser_grammar.specs.ExpressionReading.{read_at, init_at}

abbrev pub method_readers : Readers
method_readers = record { expr = read_at; ty = ty_at; init = init_at }
