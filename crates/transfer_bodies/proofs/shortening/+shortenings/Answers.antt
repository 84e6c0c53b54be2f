use Rattle.std.proofs.Common.{◌≡◌, rules, sym, subst}
use Rattle.std.specs.Prelude.{IfOk}
use Rattle.core_code.specs.declared.code.Code.TheFolds.{the_lemmas}
use Rattle.core_code.specs.Tree.{Tree, Choice, Loop, tree_of}
use Rattle.transfer_bodies.specs.Shortening.{IsShortened}
use Rattle.transfer_bodies.proofs.WhatIsMade.{shortened-choice, shortened-loop, walks-on, walks-all}
use Rattle.transfer_bodies.proofs.shortening.+shortenings.Goals as goal

pub shorten-returns-in-Ok-shorten : goal.shorten-returns-in-Ok-shorten
shorten-returns-in-Ok-shorten t c =
    let left = tree_of c.deref.result.now in
    let right = tree_of c.deref-in-Choice.result.now in
    let sides : tree_of c.args.code.now ≡ Choice left right = search (rules, the_lemmas) in
    subst (λ (code : Tree). IfOk c.choice.result (λ short. IsShortened c.args.height code short)) (sym sides)
    (shortened-choice c.args.height left right c.in-Ok.left c.in-Ok-shorten.right c.choice.result c.in-Ok.ensures
    c.in-Ok-shorten.ensures c.choice.ensures.code c.choice.ensures.height c.choice.ensures.still)

pub shorten-returns-in-Ok-shorten-2 : goal.shorten-returns-in-Ok-shorten-2
shorten-returns-in-Ok-shorten-2 t c =
    let body = tree_of c.deref-in-Loop.result.now in
    let looped : tree_of c.args.code.now ≡ Loop body = search (rules, the_lemmas) in
    subst (λ (code : Tree). IfOk c.repeated.result (λ short. IsShortened c.args.height code short)) (sym looped)
    (shortened-loop c.args.height body c.in-Ok-shorten-2.body c.repeated.result c.in-Ok-shorten-2.ensures
    c.repeated.ensures.code c.repeated.ensures.height c.repeated.ensures.still)

pub shorten_all-loop-part-preserved : goal.shorten_all-loop-part-preserved
shorten_all-loop-part-preserved t c =
    walks-on c.args.height c.args.parts.now c.loop-part.part-index c.part-item.result c.loop-part.kept c.keep.new.self
    c.in-Ok.short c.loop-part-test.true c.part-item.is c.loop-part.invariant c.in-Ok.ensures c.in-Ok-keep.ensures.kept
    c.in-Ok-keep.ensures.height

pub shorten_all-returns : goal.shorten_all-returns
shorten_all-returns t c =
    walks-all c.args.height c.args.parts.now c.loop-part.part-index c.loop-part.kept c.joined.result
    c.loop-part-test.false c.loop-part.invariant c.joined.ensures
