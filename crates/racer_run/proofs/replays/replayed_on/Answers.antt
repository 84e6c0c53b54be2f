use Rattle.std.proofs.Common.{◌≡◌, ◌+◌, List, Option, Some, take, option_map, subst, ap, ◌∙◌}
use Rattle.std.specs.FinMap.{get}
use Rattle.std.specs.Option.{IfSome}
use Rattle.racer_base.specs.Outside.{Told}
use Rattle.racer_base.specs.declared.limits.TheConstants.{MAX_FILE_BYTES}
use Rattle.core_code.specs.Program.{core}
use Rattle.racer_sources.specs.declared.programs.FoundProgram.{FoundProgram}
use Rattle.racer_sources.specs.Programs.{IsSource, source_of}
use Rattle.racer_run.specs.Replays.{replay_said}
use Rattle.racer_words.specs.Requests.{replay_of}
use Rattle.racer_run.proofs.JsonBytes.{replay-says}
use Rattle.racer_run.proofs.replays.replayed_on.Goals as goal

pub returns-in_ok-replayed-in-Accepted-clause-said :
    goal.returns-in_ok-replayed-in-Accepted-clause-said
returns-in_ok-replayed-in-Accepted-clause-said g c =
    let tells = g.F.Folder.told c.args.folder.now in
    let wanted = replay_of c.args.wanted.now in
    let program = core c.in-Accepted.program in
    let read = c.in_ok-bytes-in-Accepted.bytes.items in
    let source =
    subst
    (λ (found : FoundProgram). IfSome tells (λ (told : Told).
    IsSource wanted.containers told.files (source_of found)))
    c.in-Accepted.is c.in_ok-program.ensures.found in
    let bytes =
    subst
    (λ (o : Option Told). IfSome o (λ (told : Told).
    option_map (take (MAX_FILE_BYTES + 1)) (get told.files c.as_str-in-Accepted.result.now) ≡ Some read))
    c.folder_program.ensures.keeps.told c.in_ok-bytes-in-Accepted.ensures.bytes in
    let file =
    subst
    (λ (name : List _). IfSome tells (λ (told : Told).
    option_map (take (MAX_FILE_BYTES + 1)) (get told.files name) ≡ Some read))
    c.as_str-in-Accepted.ensures bytes in
    replay-says tells wanted program c.in_ok-replayed-in-Accepted.field-0 read source file
    (c.in_ok-replayed-in-Accepted.ensures.said ∙ ap (replay_said program) c.as_slice.ensures.value)

pub returns-in_ok-replayed-in-Accepted-clause-entered :
    goal.returns-in_ok-replayed-in-Accepted-clause-entered
returns-in_ok-replayed-in-Accepted-clause-entered g c =
    let tells = g.F.Folder.told c.args.folder.now in
    subst (λ (name : List _). IfSome tells (λ (told : Told). name ≡ told.name)) c.as_str.ensures
    c.in_ok-program.ensures.entered
