use Rattle.std.proofs.Common.{◌≡◌, List, ◌++◌, map, refl, sym, ap, ◌∙◌, subst, arith, rules, append_assoc, OnOk}
use Rattle.racer_base.specs.declared.ids.MethodId.{MethodId}
use Rattle.racer_base.proofs.Lists.{at_end, one_turn}
use Rattle.core_code.specs.declared.code.Code.{Code}
use Rattle.core_code.specs.declared.code.Code.TheFolds.{the_lemmas}
use Rattle.core_code.specs.Tree.{Tree, Choice, tree_of, in_sequence}
use Rattle.core_code.specs.Gathered.{callees_of}
use Rattle.core_code.proofs.calls.+calls.Goals as goal

pub push_all_callees-loop-part-preserved : goal.push_all_callees-loop-part-preserved
push_all_callees-loop-part-preserved n c =
    let all = c.args.all in
    one_turn (λ (parts : List Code). callees_of all (in_sequence (map tree_of parts)))
    (λ (part : Code). callees_of all (tree_of part)) c.args.parts.now c.loop-part.part-index c.part-item.result
    c.loop-part.callees.items c.push_callees.new.callees.items (λ part parts. refl) c.loop-part-test.true
    c.part-item.is c.in_ok-push_callees.ensures
    ∙ c.loop-part.invariant

pub push_all_callees-returns : goal.push_all_callees-returns
push_all_callees-returns n c =
    let all = c.args.all in
    at_end (λ (parts : List Code). callees_of all (in_sequence (map tree_of parts))) c.args.parts.now
    c.loop-part.part-index c.loop-part.callees.items refl (omega (arith, c.loop-part-test.false))
    ∙ c.loop-part.invariant

pub push_callees-returns-in_ok-push_callees-in-Choice : goal.push_callees-returns-in_ok-push_callees-in-Choice
push_callees-returns-in_ok-push_callees-in-Choice n c =
    let all = c.args.all in
    let before = c.args.callees.now.items in
    let left = tree_of c.deref.result.now in
    let right = tree_of c.deref-in-Choice.result.now in
    let sides : tree_of c.args.code.now ≡ Choice left right = search (rules, the_lemmas) in
    subst (λ (code : Tree). OnOk c.push_callees-in-Choice.result
    (c.push_callees-in-Choice.new.callees.items ≡ before ++ callees_of all code)) (sym sides)
    (subst (λ (made : List MethodId). OnOk c.push_callees-in-Choice.result
    (c.push_callees-in-Choice.new.callees.items ≡ made))
    (ap (λ (front : List MethodId). front ++ callees_of all right) c.in_ok-push_callees-in-Choice.ensures
    ∙ append_assoc before (callees_of all left) (callees_of all right))
    c.push_callees-in-Choice.ensures)
