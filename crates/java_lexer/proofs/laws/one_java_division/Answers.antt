use Rattle.java_lexer.specs.JavaKinds.{java_lexis}
use Rattle.java_lexer.specs.Divisions.{pieces, undivided}
use Rattle.java_lexer.proofs.OneDivision.{one_division, leaves_least, pieces_divide}
use Rattle.java_lexer.proofs.Calm.{nil_kind}
use Rattle.java_lexer.proofs.Whole.{divided_whole}
use Rattle.java_lexer.proofs.laws.one_java_division.Goals as goal

pub returns : goal.returns
returns c = record {
  divides = λ text. pieces_divide java_lexis text nil_kind;
  only = λ ps text rest h. one_division java_lexis ps (pieces java_lexis text) text rest (undivided java_lexis text) h
      (pieces_divide java_lexis text nil_kind);
  longest = λ ps text rest h. let d = pieces_divide java_lexis text nil_kind in
      leaves_least java_lexis ps (pieces java_lexis text) text rest (undivided java_lexis text) h d.divides d.stuck;
  whole = divided_whole;
}
