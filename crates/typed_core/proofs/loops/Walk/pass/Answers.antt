use Rattle.std.proofs.Common.{◌≡◌, ◌+◌, ◌≤◌, length, refl, ap, ◌∙◌, arith, ◌++◌, ◌∷◌, [], List, None, Option}
use Rattle.std.proofs.lemmas.List.{length_push}
use Rattle.typed_core.specs.declared.states.KindState.{KindState}
use Rattle.typed_core.proofs.LeftLoops.{heads_in, none-behind}
use Rattle.typed_core.proofs.loops.Walk.pass.Goals as goal

pub returns : goal.returns
returns c =
    let old = c.args.self.now.heads.items in
    let new = c.push.new.self.items in
    let number = c.args.self.now.next in
    let pushed : new ≡ old ++ None ∷ [] = c.in-Ok.ensures.items in
    let long : length new ≡ length old + 1 = ap length pushed ∙ length_push old None in
    let room : number ≤ length old = c.requires in
    record {
      is = refl;
      number = omega arith;
      room = omega arith;
      heads = λ i. ap (λ (list : List (Option KindState)). heads_in list i) pushed ∙ none-behind old i;
      doubts = refl;
    }
