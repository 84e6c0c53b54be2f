use Rattle.std.proofs.Common.{◌≡◌, map, drop}
use Rattle.std.specs.List.{list_all}
use Rattle.racer_words.specs.Forms.{label_view}
use Rattle.racer_words.specs.Lines.{line_view}
use Rattle.racer_words.specs.Words.{is_right}
use Rattle.racer_words.proofs.forms.are_right.Given as goal

abbrev pub invariant-loop-label : goal.invariant-loop-label
invariant-loop-label l =
    list_all (is_right (line_view l.line)) (map label_view (drop l.label-index l.labels))
    ≡ list_all (is_right (line_view l.line)) (map label_view l.labels)
