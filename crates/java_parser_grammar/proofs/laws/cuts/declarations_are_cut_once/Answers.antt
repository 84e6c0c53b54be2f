use Rattle.java_parser_grammar.proofs.Misfits.{one_cut, not_both, one_misfit, cut_or_misfit}
use Rattle.java_parser_grammar.proofs.laws.cuts.declarations_are_cut_once.Goals as goal

pub returns : goal.returns
returns c = record {
  once = λ all ds es h k. one_cut all ds es h k;
  fits = λ all rest ds h k. not_both all rest ds h k;
  misfit = λ all rest other h k. one_misfit all rest other h k;
  either = λ all. cut_or_misfit all;
}
