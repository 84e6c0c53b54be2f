use Rattle.std.proofs.Common.{◌≡◌, ◌+◌, Bool, true, false, List, ◌++◌, ◌&&◌, length, map, drop}
use Rattle.std.proofs.Common.{IfOk, OnOk, rules, sym, ap, subst, ◌∙◌, arith}
use Rattle.std.proofs.lemmas.List.{append-nil, at_drop_all}
use Rattle.core_code.specs.declared.code.Code.{Code}
use Rattle.core_code.specs.declared.code.Code.TheFolds.{the_lemmas}
use Rattle.core_code.specs.Tree.{LockAt, Tree, Op, Seq, Choice, Loop, Sync, can_end, in_sequence, tree_of}
use Rattle.core_code.proofs.PartsLeft.{parts-turn}
use Rattle.core_ways.specs.declared.part.WayPart.{WayPart}
use Rattle.core_ways.specs.Ways.{passed}
use Rattle.core_ways.proofs.PassedCode.{passed-on, passed-ended, more, right-ends, left-ends, right-passed}
use Rattle.core_ways.proofs.PassedCode.{left-passed, held-stays, held-ends}
use Rattle.core_ways.proofs.passing.+passing.Goals as goal

pub pass-returns-in-Op-clause-ends : goal.pass-returns-in-Op-clause-ends
pass-returns-in-Op-clause-ends t c =
    let is : tree_of c.args.code.now ≡ Op c.in-Op.field-0 c.in-Op.place c.in-Op.op = search (rules, the_lemmas) in
    subst (λ (code : Tree). IfOk c.pass_op.result (λ (b : Bool). b ≡ can_end code)) (sym is) c.pass_op.ensures.ends

pub pass-returns-in-Op-clause-parts : goal.pass-returns-in-Op-clause-parts
pass-returns-in-Op-clause-parts t c =
    let is : tree_of c.args.code.now ≡ Op c.in-Op.field-0 c.in-Op.place c.in-Op.op = search (rules, the_lemmas) in
    subst (λ (code : Tree).
    OnOk c.pass_op.result (c.pass_op.new.parts.items ≡ c.args.parts.now.items ++ passed c.args.locks code)) (sym is)
    c.pass_op.ensures.parts

pub pass-returns-in-Seq-clause-ends : goal.pass-returns-in-Seq-clause-ends
pass-returns-in-Seq-clause-ends t c =
    let is : tree_of c.args.code.now ≡ in_sequence (map tree_of c.as_slice.result.now) = search (rules, the_lemmas) in
    subst (λ (code : Tree). IfOk c.pass_through.result (λ (b : Bool). b ≡ can_end code)) (sym is)
    c.pass_through.ensures.ends

pub pass-returns-in-Seq-clause-parts : goal.pass-returns-in-Seq-clause-parts
pass-returns-in-Seq-clause-parts t c =
    let is : tree_of c.args.code.now ≡ in_sequence (map tree_of c.as_slice.result.now) = search (rules, the_lemmas) in
    subst (λ (code : Tree).
    OnOk c.pass_through.result (c.pass_through.new.parts.items ≡ c.args.parts.now.items ++ passed c.args.locks code))
    (sym is) c.pass_through.ensures.parts

pub pass-returns-then-right_ends-clause-ends : goal.pass-returns-then-right_ends-clause-ends
pass-returns-then-right_ends-clause-ends t c =
    let left = tree_of c.in-Choice.left.value in
    let right = tree_of c.deref.result.now in
    let sides : tree_of c.args.code.now ≡ Choice left right = search (rules, the_lemmas) in
    right-ends left right (sym c.in-Ok-pass.ensures.ends ∙ c.if-right_ends.true) ∙ ap can_end (sym sides)

pub pass-returns-then-right_ends-clause-parts : goal.pass-returns-then-right_ends-clause-parts
pass-returns-then-right_ends-clause-parts t c =
    let left = tree_of c.in-Choice.left.value in
    let right = tree_of c.deref.result.now in
    let old = c.args.parts.now.items in
    let sides : tree_of c.args.code.now ≡ Choice left right = search (rules, the_lemmas) in
    right-passed c.args.locks left right old c.push.new.self.items c.pass.new.parts.items
    (sym c.in-Ok-pass.ensures.ends ∙ c.if-right_ends.true) c.in-Ok.ensures.items c.in-Ok-pass.ensures.parts
    ∙ ap (λ (code : Tree). old ++ passed c.args.locks code) (sym sides)

pub pass-returns-in-Ok-turn_left-clause-ends : goal.pass-returns-in-Ok-turn_left-clause-ends
pass-returns-in-Ok-turn_left-clause-ends t c =
    let left = tree_of c.deref-in-Choice.result.now in
    let right = tree_of c.deref.result.now in
    let sides : tree_of c.args.code.now ≡ Choice left right = search (rules, the_lemmas) in
    subst (λ (ends : Bool). IfOk c.pass-in-Choice.result (λ (b : Bool). b ≡ ends))
    (left-ends left right (sym c.in-Ok-pass.ensures.ends ∙ c.if-right_ends.false) ∙ ap can_end (sym sides))
    c.pass-in-Choice.ensures.ends

pub pass-returns-in-Ok-turn_left-clause-parts : goal.pass-returns-in-Ok-turn_left-clause-parts
pass-returns-in-Ok-turn_left-clause-parts t c =
    let left = tree_of c.deref-in-Choice.result.now in
    let right = tree_of c.deref.result.now in
    let old = c.args.parts.now.items in
    let sides : tree_of c.args.code.now ≡ Choice left right = search (rules, the_lemmas) in
    let count : c.len-before.result ≡ length old = search rules in
    subst (λ (ps : List WayPart). OnOk c.pass-in-Choice.result (c.pass-in-Choice.new.parts.items ≡ ps))
    (left-passed c.args.locks left right old c.push.new.self.items c.pass.new.parts.items c.turn_left.new.parts.items
    c.len-before.result (sym c.in-Ok-pass.ensures.ends ∙ c.if-right_ends.false) count c.in-Ok.ensures.items
    c.in-Ok-pass.ensures.parts c.in-Ok-turn_left.ensures
    ∙ ap (λ (code : Tree). old ++ passed c.args.locks code) (sym sides))
    c.pass-in-Choice.ensures.parts

pub pass-returns-in-Loop-clause-ends : goal.pass-returns-in-Loop-clause-ends
pass-returns-in-Loop-clause-ends t c =
    let body = tree_of c.in-Loop.field-0.value in
    let is : tree_of c.args.code.now ≡ Loop body = search (rules, the_lemmas) in
    subst (λ (code : Tree). IfOk c.put.result (λ (b : Bool). b ≡ can_end code)) (sym is) c.put.ensures.ends

pub pass-returns-in-Loop-clause-parts : goal.pass-returns-in-Loop-clause-parts
pass-returns-in-Loop-clause-parts t c =
    let body = tree_of c.in-Loop.field-0.value in
    let is : tree_of c.args.code.now ≡ Loop body = search (rules, the_lemmas) in
    subst (λ (code : Tree).
    OnOk c.put.result (c.put.new.parts.items ≡ c.args.parts.now.items ++ passed c.args.locks code)) (sym is)
    c.put.ensures.parts

pub pass-returns-then-not-ends-clause-ends : goal.pass-returns-then-not-ends-clause-ends
pass-returns-then-not-ends-clause-ends t c =
    let body = tree_of c.deref-in-Sync.result.now in
    let lock : LockAt = record { place = c.in-Sync.field-0; kind = c.in-Sync.field-1 } in
    let is : tree_of c.args.code.now ≡ Sync lock body = search (rules, the_lemmas) in
    let ends : c.in-Ok-pass-2.ends ≡ false = search rules in
    sym ends ∙ c.in-Ok-pass-2.ensures.ends ∙ ap can_end (sym is)

pub pass-returns-then-not-ends-clause-parts : goal.pass-returns-then-not-ends-clause-parts
pass-returns-then-not-ends-clause-parts t c =
    let body = tree_of c.deref-in-Sync.result.now in
    let old = c.args.parts.now.items in
    let lock : LockAt = record { place = c.in-Sync.field-0; kind = c.in-Sync.field-1 } in
    let is : tree_of c.args.code.now ≡ Sync lock body = search (rules, the_lemmas) in
    let ends : c.in-Ok-pass-2.ends ≡ false = search rules in
    held-stays c.args.locks c.in-Ok-one_more.within lock body old c.push-in-Sync.new.self.items
    c.pass-in-Sync.new.parts.items (sym c.in-Ok-pass-2.ensures.ends ∙ ends) c.in-Ok-one_more.ensures
    c.in-Ok-push.ensures.items c.in-Ok-pass-2.ensures.parts
    ∙ ap (λ (code : Tree). old ++ passed c.args.locks code) (sym is)

pub pass-returns-else-not-ends-clause-ends : goal.pass-returns-else-not-ends-clause-ends
pass-returns-else-not-ends-clause-ends t c =
    let body = tree_of c.deref-in-Sync.result.now in
    let lock : LockAt = record { place = c.in-Sync.field-0; kind = c.in-Sync.field-1 } in
    let is : tree_of c.args.code.now ≡ Sync lock body = search (rules, the_lemmas) in
    let ends : c.in-Ok-pass-2.ends ≡ true = search rules in
    subst (λ (e : Bool). IfOk c.put-in-Sync.result (λ (b : Bool). b ≡ e))
    (sym ends ∙ c.in-Ok-pass-2.ensures.ends ∙ ap can_end (sym is)) c.put-in-Sync.ensures.ends

pub pass-returns-else-not-ends-clause-parts : goal.pass-returns-else-not-ends-clause-parts
pass-returns-else-not-ends-clause-parts t c =
    let body = tree_of c.deref-in-Sync.result.now in
    let old = c.args.parts.now.items in
    let lock : LockAt = record { place = c.in-Sync.field-0; kind = c.in-Sync.field-1 } in
    let is : tree_of c.args.code.now ≡ Sync lock body = search (rules, the_lemmas) in
    let ends : c.in-Ok-pass-2.ends ≡ true = search rules in
    subst (λ (ps : List WayPart). OnOk c.put-in-Sync.result (c.put-in-Sync.new.parts.items ≡ ps))
    (held-ends c.args.locks c.in-Ok-one_more.within lock body old c.push-in-Sync.new.self.items
    c.pass-in-Sync.new.parts.items (sym c.in-Ok-pass-2.ensures.ends ∙ ends) c.in-Ok-one_more.ensures
    c.in-Ok-push.ensures.items c.in-Ok-pass-2.ensures.parts
    ∙ ap (λ (code : Tree). old ++ passed c.args.locks code) (sym is))
    c.put-in-Sync.ensures.parts

pub pass_through-returns-clause-ends : goal.pass_through-returns-clause-ends
pass_through-returns-clause-ends t c =
    let over = at_drop_all (λ (cs : List Code). in_sequence (map tree_of cs)) c.args.codes.now c.loop-code.code-index
    (omega (arith, c.loop-code-test.false)) in
    ap can_end (sym over) ∙ c.loop-code.invariant.ends

pub pass_through-returns-clause-parts : goal.pass_through-returns-clause-parts
pass_through-returns-clause-parts t c =
    let at = c.loop-code.parts.items in
    let over = at_drop_all (λ (cs : List Code). in_sequence (map tree_of cs)) c.args.codes.now c.loop-code.code-index
    (omega (arith, c.loop-code-test.false)) in
    sym (append-nil at)
    ∙ ap (λ (code : Tree). at ++ passed c.args.locks code) (sym over)
    ∙ c.loop-code.invariant.parts

pub pass_through-loop-code-preserved : goal.pass_through-loop-code-preserved
pass_through-loop-code-preserved t c =
    let locks = c.args.locks in
    let codes = c.args.codes.now in
    let at = c.loop-code in
    let first = tree_of c.code-item.result in
    let rest = in_sequence (map tree_of (drop (at.code-index + 1) codes)) in
    let left = in_sequence (map tree_of (drop at.code-index codes)) in
    let whole = c.args.parts.now.items ++ passed locks (in_sequence (map tree_of codes)) in
    let is : left ≡ Seq first rest = parts-turn codes at.code-index c.code-item.result c.loop-code-test.true
    c.code-item.is in
    let on : c.in-Ok.ends ≡ true = search rules in
    let ends = sym c.in-Ok.ensures.ends ∙ on in
    record {
      ends = sym (ap (λ (b : Bool). b && can_end rest) ends) ∙ ap can_end (sym is) ∙ at.invariant.ends;
      parts = more c.pass.new.parts.items at.parts.items (passed locks first) (passed locks rest) (passed locks left)
          whole c.in-Ok.ensures.parts (ap (passed locks) is ∙ passed-on locks first rest ends) at.invariant.parts;
    }

pub pass_through-returns-then-not-ends : goal.pass_through-returns-then-not-ends
pass_through-returns-then-not-ends t c =
    let locks = c.args.locks in
    let codes = c.args.codes.now in
    let at = c.loop-code in
    let first = tree_of c.code-item.result in
    let rest = in_sequence (map tree_of (drop (at.code-index + 1) codes)) in
    let left = in_sequence (map tree_of (drop at.code-index codes)) in
    let is : left ≡ Seq first rest = parts-turn codes at.code-index c.code-item.result c.loop-code-test.true
    c.code-item.is in
    let off : c.in-Ok.ends ≡ false = search rules in
    let ends = sym c.in-Ok.ensures.ends ∙ off in
    record {
      ends = sym (ap (λ (b : Bool). b && can_end rest) ends) ∙ ap can_end (sym is) ∙ at.invariant.ends;
      parts =
          c.in-Ok.ensures.parts
          ∙ ap (λ (ps : List WayPart). at.parts.items ++ ps)
          (sym (ap (passed locks) is ∙ passed-ended locks first rest ends))
          ∙ at.invariant.parts;
    }
