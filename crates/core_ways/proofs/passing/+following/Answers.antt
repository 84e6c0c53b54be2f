use Rattle.std.proofs.Common.{◌≡◌, ◌+◌, List, Bool, [], ◌∷◌, ◌++◌, map, drop, OnOk, rules, sym, ap, subst, ◌∙◌, arith}
use Rattle.std.proofs.lemmas.List.{at_drop_all}
use Rattle.core_code.specs.declared.code.Code.{Code}
use Rattle.core_code.specs.declared.code.Code.TheFolds.{the_lemmas}
use Rattle.core_code.specs.Tree.{LockAt, Tree, Op, Seq, Choice, Loop, Sync, in_sequence, tree_of}
use Rattle.core_code.proofs.PartsLeft.{parts-turn}
use Rattle.core_semantics.specs.declared.answer.Turn.{Turn}
use Rattle.core_ways.specs.declared.part.WayPart.{WayPart}
use Rattle.core_ways.specs.declared.part.WayPart.TheVariants.{Branched}
use Rattle.core_ways.specs.Paths.{followed}
use Rattle.core_ways.specs.Ways.{passed}
use Rattle.core_ways.proofs.PassedCode.{more}
use Rattle.core_ways.proofs.FollowedCode.{nothing-followed, left-followed, right-followed, loop-followed, held-followed}
use Rattle.core_ways.proofs.FollowedCode.{first-followed, others-followed}
use Rattle.core_ways.proofs.passing.+following.Goals as goal

pub follow-returns-in-Op : goal.follow-returns-in-Op
follow-returns-in-Op t c =
    let is : tree_of c.args.code.now ≡ Op c.in-Op.field-0 c.in-Op.place c.in-Op.op = search (rules, the_lemmas) in
    subst (λ (code : Tree). OnOk c.pass_end.result (c.pass_end.new.parts.items ≡
    c.args.parts.now.items ++ followed c.args.end c.args.locks c.args.path.now code)) (sym is) c.pass_end.ensures

pub follow-returns-in-Seq : goal.follow-returns-in-Seq
follow-returns-in-Seq t c =
    let is : tree_of c.args.code.now ≡ in_sequence (map tree_of c.as_slice.result.now) = search (rules, the_lemmas) in
    subst (λ (code : Tree). OnOk c.follow_through.result (
    c.follow_through.new.parts.items ≡ c.args.parts.now.items ++ followed c.args.end c.args.locks c.args.path.now code))
    (sym is)
    c.follow_through.ensures

pub follow-returns-in_default : goal.follow-returns-in_default
follow-returns-in_default t c =
    let left = tree_of c.in-Choice.left.value in
    let right = tree_of c.in-Choice.right.value in
    let path = c.args.path.now in
    let sides : tree_of c.args.code.now ≡ Choice left right = search (rules, the_lemmas) in
    nothing-followed c.args.parts.now.items (followed c.args.end c.args.locks path (tree_of c.args.code.now))
    (ap (followed c.args.end c.args.locks path) sides
    ∙ ap (λ (p : List Bool). followed c.args.end c.args.locks p (Choice left right)) c.in_default.ensures)

pub follow-returns-then-is_left : goal.follow-returns-then-is_left
follow-returns-then-is_left t c =
    let left = tree_of c.deref.result.now in
    let right = tree_of c.in-Choice.right.value in
    let old = c.args.parts.now.items in
    let path = c.args.path.now in
    let sides : tree_of c.args.code.now ≡ Choice left right = search (rules, the_lemmas) in
    subst (λ (ps : List WayPart). OnOk c.follow.result (c.follow.new.parts.items ≡ ps))
    (left-followed c.args.end c.args.locks left right old c.push.new.self.items path c.in-Some.rest.now
    c.in-Some.is_left
    c.in-Some.ensures (c.in-Ok.ensures.items ∙ ap (λ (made : Turn). old ++ Branched made ∷ []) c.turn_to.ensures)
    c.if-is_left.true
    ∙ ap (λ (code : Tree). old ++ followed c.args.end c.args.locks path code) (sym sides))
    c.follow.ensures

pub follow-returns-else-is_left : goal.follow-returns-else-is_left
follow-returns-else-is_left t c =
    let left = tree_of c.in-Choice.left.value in
    let right = tree_of c.deref-in-Choice.result.now in
    let old = c.args.parts.now.items in
    let path = c.args.path.now in
    let sides : tree_of c.args.code.now ≡ Choice left right = search (rules, the_lemmas) in
    subst (λ (ps : List WayPart). OnOk c.follow-in-Choice.result (c.follow-in-Choice.new.parts.items ≡ ps))
    (right-followed c.args.end c.args.locks left right old c.push.new.self.items path c.in-Some.rest.now
    c.in-Some.is_left
    c.in-Some.ensures (c.in-Ok.ensures.items ∙ ap (λ (made : Turn). old ++ Branched made ∷ []) c.turn_to.ensures)
    c.if-is_left.false
    ∙ ap (λ (code : Tree). old ++ followed c.args.end c.args.locks path code) (sym sides))
    c.follow-in-Choice.ensures

pub follow-returns-in-Ok-push : goal.follow-returns-in-Ok-push
follow-returns-in-Ok-push t c =
    let old = c.args.parts.now.items in
    let path = c.args.path.now in
    let body = tree_of c.deref-in-Loop.result.now in
    let is : tree_of c.args.code.now ≡ Loop body = search (rules, the_lemmas) in
    subst (λ (ps : List WayPart). OnOk c.follow-in-Loop.result (c.follow-in-Loop.new.parts.items ≡ ps))
    (loop-followed c.args.end c.args.locks body old c.push-in-Loop.new.self.items path c.in-Ok-push.ensures.items
    ∙ ap (λ (code : Tree). old ++ followed c.args.end c.args.locks path code) (sym is))
    c.follow-in-Loop.ensures

pub follow-returns-in-Ok-one_more : goal.follow-returns-in-Ok-one_more
follow-returns-in-Ok-one_more t c =
    let old = c.args.parts.now.items in
    let path = c.args.path.now in
    let body = tree_of c.deref-in-Sync.result.now in
    let lock : LockAt = record { place = c.in-Sync.field-0; kind = c.in-Sync.field-1 } in
    let is : tree_of c.args.code.now ≡ Sync lock body = search (rules, the_lemmas) in
    subst (λ (ps : List WayPart). OnOk c.follow-in-Sync.result (c.follow-in-Sync.new.parts.items ≡ ps))
    (held-followed c.args.end c.args.locks c.in-Ok-one_more.within lock body old c.push-in-Sync.new.self.items path
    c.in-Ok-push-2.ensures.items c.in-Ok-one_more.ensures
    ∙ ap (λ (code : Tree). old ++ followed c.args.end c.args.locks path code) (sym is))
    c.follow-in-Sync.ensures

pub follow_through-loop-code-preserved : goal.follow_through-loop-code-preserved
follow_through-loop-code-preserved t c =
    let locks = c.args.locks in
    let codes = c.args.codes.now in
    let at = c.loop-code in
    let first = tree_of c.code-item.result in
    let others = in_sequence (map tree_of (drop (at.code-index + 1) codes)) in
    let left = in_sequence (map tree_of (drop at.code-index codes)) in
    let is : left ≡ Seq first others = parts-turn codes at.code-index c.code-item.result c.loop-code-test.true
    c.code-item.is in
    more c.pass.new.parts.items at.parts.items (passed locks first)
    (followed c.args.end locks c.in-Some.rest.now others)
    (followed c.args.end locks at.path.now left)
    (c.args.parts.now.items ++ followed c.args.end locks c.args.path.now (in_sequence (map tree_of codes)))
    c.in-Ok.ensures.parts
    (ap (followed c.args.end locks at.path.now) is
    ∙ others-followed c.args.end locks first others at.path.now c.in-Some.rest.now c.in-Some.is_first c.in-Some.ensures
    c.if-is_first.false)
    at.invariant

pub follow_through-returns-in_default : goal.follow_through-returns-in_default
follow_through-returns-in_default t c =
    let locks = c.args.locks in
    let codes = c.args.codes.now in
    let at = c.loop-code in
    let first = tree_of c.code-item.result in
    let others = in_sequence (map tree_of (drop (at.code-index + 1) codes)) in
    let left = in_sequence (map tree_of (drop at.code-index codes)) in
    let is : left ≡ Seq first others = parts-turn codes at.code-index c.code-item.result c.loop-code-test.true
    c.code-item.is in
    nothing-followed at.parts.items (followed c.args.end locks at.path.now left)
    (ap (followed c.args.end locks at.path.now) is ∙ ap
    (λ (p : List Bool). followed c.args.end locks p (Seq first others)) c.in_default.ensures)
    ∙ at.invariant

pub follow_through-returns-then-is_first : goal.follow_through-returns-then-is_first
follow_through-returns-then-is_first t c =
    let locks = c.args.locks in
    let codes = c.args.codes.now in
    let at = c.loop-code in
    let first = tree_of c.code-item.result in
    let others = in_sequence (map tree_of (drop (at.code-index + 1) codes)) in
    let left = in_sequence (map tree_of (drop at.code-index codes)) in
    let is : left ≡ Seq first others = parts-turn codes at.code-index c.code-item.result c.loop-code-test.true
    c.code-item.is in
    subst (λ (ps : List WayPart). OnOk c.follow.result (c.follow.new.parts.items ≡ ps))
    (ap (λ (ps : List WayPart). at.parts.items ++ ps)
    (first-followed c.args.end locks first others at.path.now c.in-Some.rest.now c.in-Some.is_first c.in-Some.ensures
    c.if-is_first.true ∙ ap (followed c.args.end locks at.path.now) (sym is))
    ∙ at.invariant)
    c.follow.ensures

pub follow_through-returns : goal.follow_through-returns
follow_through-returns t c =
    let path = c.loop-code.path.now in
    let over = at_drop_all (λ (cs : List Code). in_sequence (map tree_of cs)) c.args.codes.now c.loop-code.code-index
    (omega (arith, c.loop-code-test.false)) in
    nothing-followed c.loop-code.parts.items
    (followed c.args.end c.args.locks path (in_sequence (map tree_of (drop c.loop-code.code-index c.args.codes.now))))
    (ap (followed c.args.end c.args.locks path) over)
    ∙ c.loop-code.invariant
