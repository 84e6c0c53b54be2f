use Rattle.std.proofs.Common.{◌≡◌, ◌<◌, ◌-◌, ◌+◌, ℕ, List, ◌∷◌, length, length-drop, take, drop, sym, subst, arith}
use Rattle.std.proofs.lemmas.List.{take_all}
use Rattle.racer_run_edits.specs.Edits.{lines}
use Rattle.racer_run_edits.proofs.EditLines.{cut_here, cut_last}
use Rattle.racer_run_edits.proofs.edit_lines.cut_line.Goals as goal

to_end : (text : List ℕ) (from : ℕ) → take (length text - from) (drop from text) ≡ drop from text
to_end text from = take_all (length text - from) (drop from text) (omega (arith, length-drop from text))

pub returns-then-end-text : goal.returns-then-end-text
returns-then-end-text c =
    let text = c.args.text.now in
    let end = c.first_of-end.result in
    subst (λ (rest : List ℕ). (lines text ≡ text ∷ lines rest) × (length rest < length text)) (sym (to_end text end))
    (cut_last text end (grind (arith, c.if-is_empty.false, c.if-is_empty.ensures)) c.first_of-end.ensures.place
    (omega (arith, c.if-end-text.true)))

pub returns : goal.returns
returns c =
    let text = c.args.text.now in
    let end = c.first_of-end.result in
    subst (λ (rest : List ℕ). (lines text ≡ take end text ∷ lines rest) × (length rest < length text))
    (sym (to_end text (end + 1)))
    (cut_here text end c.first_of-end.ensures.place (omega (arith, c.if-end-text.false)))
