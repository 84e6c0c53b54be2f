use Rattle.std.proofs.Common.{◌≡◌, ◌++◌, drop, option_map}
use Rattle.serde_json.specs.View.{items_view}
use Rattle.witness_text_files.specs.Files as files
use Rattle.witness_text_files.proofs.members.texts.Given as goal

-- the texts so far, and those of what is left, are those of all
abbrev pub invariant-loop-value : goal.invariant-loop-value
invariant-loop-value l =
    option_map (λ rest. l.texts.items ++ rest) (files.texts_of (items_view (drop l.value-index l.values)))
    ≡ files.texts_of (items_view l.fn.values)
