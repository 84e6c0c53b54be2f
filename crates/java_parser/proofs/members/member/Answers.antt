use Rattle.std.proofs.Common.{List, ℕ, subst}
use Rattle.std.proofs.lemmas.Result.{IfOk-weaker}
use Rattle.java_parser_grammar.specs.Members.{Form, FieldForm}
use Rattle.java_parser_grammar.specs.Units.{HasForm, IsMember}
use Rattle.java_parser.proofs.members.member.Goals as goal

pub returns-in-Field : goal.returns-in-Field
returns-in-Field c =
    let class = c.args.class.now in
    let tokens = c.args.tokens.now in
    IfOk-weaker c.declared.result (λ m. (name : List ℕ) → HasForm name tokens FieldForm m)
    (λ m. IsMember class tokens m)
    (λ m h. subst (λ (f : Form). HasForm class tokens f m) c.in-Field.ensures (h class)) c.declared.ensures
