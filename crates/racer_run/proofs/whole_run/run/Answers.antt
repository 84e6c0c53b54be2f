use Rattle.std.proofs.Common.{◌∙◌, ap, inr}
use Rattle.racer_base.specs.Outside.{taken_and}
use Rattle.racer_run.specs.Causes.{asked_of, wrote_of}
use Rattle.racer_run.proofs.OneStatus.{whole_answer, whole_cause}
use Rattle.racer_run.proofs.whole_run.run.Goals as goal

pub returns-in-Ok-write_all-clause-complete : goal.returns-in-Ok-write_all-clause-complete
returns-in-Ok-write_all-clause-complete g c = λ request asks can quiet kept.
    let folder = c.what_to_say.new.folder in
    let asked = asked_of g.F.Folder.told g.F.Folder.faults c.args.words.now c.args.folder.now folder in
    let wrote = wrote_of g.S.Sink.faults g.S.Sink.taken c.args.sink.now c.write_all.new.sink in
    let text = c.as_bytes.ensures.value ∙ c.as_str.ensures in
    inr (whole_answer c.in-Ok.said.status asked wrote c.in-Ok.said.text c.in-Ok.ensures.due
    (record {
      taken = c.in-Ok-write_all.ensures.whole ∙ ap (taken_and (g.S.Sink.taken c.args.sink.now)) text;
      no_fault = kept;
    }) request asks quiet)

pub returns-in-Ok-write_all-clause-cause : goal.returns-in-Ok-write_all-clause-cause
returns-in-Ok-write_all-clause-cause g c =
    let folder = c.what_to_say.new.folder in
    let asked = asked_of g.F.Folder.told g.F.Folder.faults c.args.words.now c.args.folder.now folder in
    let wrote = wrote_of g.S.Sink.faults g.S.Sink.taken c.args.sink.now c.write_all.new.sink in
    let text = c.as_bytes.ensures.value ∙ c.as_str.ensures in
    whole_cause c.in-Ok.said.status asked wrote c.in-Ok.said.text c.in-Ok.ensures.due
    (record {
      taken = c.in-Ok-write_all.ensures.whole ∙ ap (taken_and (g.S.Sink.taken c.args.sink.now)) text;
      no_fault = c.in-Ok-write_all.ensures.no_fault;
    })
