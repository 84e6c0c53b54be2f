use Rattle.std.proofs.Common.{subst}
use Rattle.java_tree.specs.declared.unit.ParseFault.{ParseFault}
use Rattle.java_parser_grammar.specs.Units.{IsFault}
use Rattle.racer_sources.proofs.file.unit_fault.Goals as goal

pub returns-in-Unbalanced : goal.returns-in-Unbalanced
returns-in-Unbalanced c = λ file sum bytes lexed short tokens is.
    record {
      short = short;
      lexed = lexed;
      tokens = tokens;
      unit = subst (λ (fault : ParseFault). IsFault lexed.tokens lexed.end fault) c.in-Unbalanced.is is;
    }

pub returns-in-TooDeep : goal.returns-in-TooDeep
returns-in-TooDeep c = λ file sum bytes lexed short tokens is.
    record {
      short = short;
      lexed = lexed;
      tokens = tokens;
      unit = subst (λ (fault : ParseFault). IsFault lexed.tokens lexed.end fault) c.in-TooDeep.is is;
    }

pub returns-in-NotAUnit : goal.returns-in-NotAUnit
returns-in-NotAUnit c = λ file sum bytes lexed short tokens is.
    record {
      short = short;
      lexed = lexed;
      tokens = tokens;
      unit = subst (λ (fault : ParseFault). IsFault lexed.tokens lexed.end fault) c.in-NotAUnit.is is;
    }
