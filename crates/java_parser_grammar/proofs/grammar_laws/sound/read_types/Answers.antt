use Rattle.std.proofs.Common.{length, ap, arith}
use Rattle.java_parser_grammar.specs.TypeReading.{ty_at}
use Rattle.java_parser_grammar.proofs.SoundTypes.{GotTy, ty_sound}
use Rattle.java_parser_grammar.proofs.TypeFronts.{formed_longer}
use Rattle.java_parser_grammar.proofs.Ensuring.{of_equation}
use Rattle.java_parser_grammar.proofs.grammar_laws.sound.read_types.Goals as goal

pub returns-clause-formed : goal.returns-clause-formed
returns-clause-formed c = λ n ts t rest e. (of_equation (GotTy n ts) (ty_at n ts) (t, rest) (ty_sound n ts) e).formed

pub returns-clause-small : goal.returns-clause-small
returns-clause-small c = λ n ts t rest e. (of_equation (GotTy n ts) (ty_at n ts) (t, rest) (ty_sound n ts) e).small

pub returns-clause-spelled : goal.returns-clause-spelled
returns-clause-spelled c = λ n ts t rest e. (of_equation (GotTy n ts) (ty_at n ts) (t, rest) (ty_sound n ts) e).spelled

pub returns-clause-shorter : goal.returns-clause-shorter
returns-clause-shorter c =
    λ n ts t rest e. (let g = (of_equation (GotTy n ts) (ty_at n ts) (t, rest) (ty_sound n ts) e) in
    omega (arith, ap length g.spelled, formed_longer t g.formed rest))
