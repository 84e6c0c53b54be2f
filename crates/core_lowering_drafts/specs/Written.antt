-- A contract of a public call rests on this: what is seen of code while it is written.
use Rattle.std.specs.Prelude.{map}
use Rattle.core_lowering_drafts.specs.declared.written.Room.{Room}
use Rattle.core_lowering_drafts.specs.declared.written.Written.{Written}
use Rattle.core_lowering_drafts.specs.Only.{Code}
use Rattle.core_lowering_drafts.specs.Sites.{erased_of}

-- the parts so far, in which no operation has its site yet
unfoldable pub code_of : Written → Code
code_of written = map erased_of written.parts.items

-- the room that is left
unfoldable pub room_of : Written → Room
room_of written = written.room
