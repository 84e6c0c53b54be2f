use Rattle.std.proofs.Common.{◌≡◌, ◌-◌, ◌+◌, ℕ, List, length, length-drop, map, string_bytes, take, drop, true, sym, ◌∙◌, subst, arith}
use Rattle.std.proofs.lemmas.List.{take_all}
use Rattle.racer_run_edits.specs.Edits.{is_word}
use Rattle.racer_run_edits.proofs.EditLines.{is_one_edit}
use Rattle.racer_run_edits.proofs.edit_lines.edit_in.Goals as goal

pub returns-then-has : goal.returns-then-has
returns-then-has c =
    let line = c.args.line.now in
    let space = c.first_of-space.result in
    let to_end : take (length line - (space + 1)) (drop (space + 1) line) ≡ drop (space + 1) line =
    take_all (length line - (space + 1)) (drop (space + 1) line) (omega (arith, length-drop (space + 1) line)) in
    is_one_edit (map string_bytes c.args.sources.now.names.items) line c.in_ok-file.file.now
    c.in_ok-content.content.now space c.first_of-space.ensures.place (omega (arith, c.if-space-line.false))
    c.in_ok-file.ensures
    (subst (λ (bytes : List ℕ). (is_word bytes ≡ true) × (c.in_ok-content.content.now ≡ bytes)) to_end
    c.in_ok-content.ensures)
    (sym c.has.ensures ∙ c.if-has.true)
