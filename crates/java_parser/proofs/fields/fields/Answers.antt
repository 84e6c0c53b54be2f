use Rattle.java_parser.proofs.DeclaredFields.{no_declaration}
use Rattle.java_parser.proofs.fields.fields.Goals as goal

pub returns-clause-none : goal.returns-clause-none
returns-clause-none c = λ e f h.
    no_declaration c.args.member.now c.in-Some.declaration.now c.in-Some.last.now c.in-Some.ensures.cases.0
    (c.declared.ensures.none e) f h
