use Rattle.std.proofs.Common.{false}
use Rattle.java_parser_grammar.proofs.OneCut.{joined_cut, is_cut, cut_joined}
use Rattle.java_parser_grammar.proofs.laws.cuts.members_are_cut_once.Goals as goal

pub returns : goal.returns
returns c = record { whole = λ body. joined_cut false body; cut = λ body. is_cut body; once = λ ps h. cut_joined ps h }
