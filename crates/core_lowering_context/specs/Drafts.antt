-- A contract of a public call rests on this: what is seen of a draft while it is made.
use Rattle.std.specs.Prelude.{◌≡◌, take, length}
use Rattle.core_lowering_drafts.specs.Pieces.{all_parts}
use Rattle.core_lowering_rules.specs.Context.{Code}
use Rattle.core_lowering_context.specs.declared.making.Making.{Making}

-- the parts so far
unfoldable pub code_of : Making → Code
code_of making = all_parts making.pieces.items

-- what was there is a front of what is there
abbrev pub IsFrontOf : Code → Code → Type 0
IsFrontOf old new = take (length old) new ≡ old
