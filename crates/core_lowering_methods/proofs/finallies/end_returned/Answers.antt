use Rattle.std.proofs.Common.{◌≡◌, ◌∷◌, [], ◌++◌, List, Option, Some, ap, sym, ◌∙◌, take, drop, rules}
use Rattle.std.proofs.lemmas.Result.{on_ok_weaker}
use Rattle.racer_base.specs.declared.ids.Place.{Place}
use Rattle.racer_base.specs.declared.ids.VarId.{VarId}
use Rattle.core_lowering_rules.specs.Context.{ending}
use Rattle.core_lowering_rules.specs.Statements.{kept_null}
use Rattle.core_lowering_context.specs.Drafts.{code_of}
use Rattle.core_lowering_parts.proofs.Becoming.{becomes}
use Rattle.core_lowering_methods.proofs.finallies.end_returned.Goals as goal

pub returns : goal.returns
returns c =
    let at = c.args.at in
    let a = c.args.context.now in
    let old = code_of c.args.draft.now in
    let v = c.in-Some.v in
    let is : c.args.variable ≡ Some v = search rules in
    on_ok_weaker c.end.result
    (λ made. becomes at (kept_null a c.args.variable) old (code_of c.end.new.self)
    (made
    ∙ ap (λ (place : Place). take at old ++ ending place c.push.new.self.items (drop at old)) c.place.ensures
    ∙ ap (λ (vs : List VarId). take at old ++ ending a.place vs (drop at old))
    (c.in_ok-push.ensures.items ∙ ap (λ (xs : List VarId). xs ++ v ∷ []) c.new-variables.ensures.items)
    ∙ ap (λ (o : Option VarId). take at old ++ kept_null a o (drop at old)) (sym is)))
    c.end.ensures
