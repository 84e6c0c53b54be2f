use Rattle.std.proofs.Common.{List, ℕ, String, Global, map, refl, ◌∙◌, string_bytes}
use Rattle.core_lowering.proofs.Loops.{map-step}
use Rattle.racer_base.proofs.Lists.{ended}
use Rattle.core_lowering.proofs.classes.file_names.Goals as goal

abbrev name_of : String Global → List ℕ
name_of file = string_bytes file

pub loop-file-preserved : goal.loop-file-preserved
loop-file-preserved c =
    map-step name_of c.args.files.now c.loop-file.file-index _ c.loop-file.names _ _ _ c.loop-file-test.true
    c.file-item.is c.in_ok-push.ensures.ok (c.in_ok-from_str.ensures ∙ c.as_str.ensures.value) c.loop-file.invariant

pub returns : goal.returns
returns c =
    ended (map name_of) c.args.files.now c.loop-file.file-index c.loop-file.names _ refl c.loop-file-test.false
    c.loop-file.invariant
