use Rattle.std.proofs.Common.{◌≡◌, [], ◌++◌, length, sym, ap, ◌∙◌, append_assoc}
use Rattle.std.proofs.lemmas.List.{append-nil}
use Rattle.core_code.specs.declared.code.Op.TheVariants.{Prim}
use Rattle.core_lowering_rules.specs.Context.{op}
use Rattle.core_lowering_expressions.proofs.Joined.{chosen}
use Rattle.core_lowering_context.specs.Drafts.{code_of}
use Rattle.core_lowering_expressions.proofs.values.end_logical.Goals as goal

pub returns-clause-code : goal.returns-clause-code
returns-clause-code c left right at_left is =
    let context = c.args.context.now in
    let body = right ++ op context (Prim 2) in
    let now : code_of c.op.new.draft ≡ left ++ body =
    c.in_ok-op.ensures.code ∙ ap (λ x. x ++ op context (Prim 2)) is ∙ append_assoc left right (op context (Prim 2)) in
    chosen left body [] (code_of c.op.new.draft) (code_of c.choose.new.self) c.args.at c.len-end.result at_left
    (c.len-end.ensures ∙ ap (λ x. length x) now) (now ∙ sym (append-nil (left ++ body))) c.in_ok-choose.ensures.code
