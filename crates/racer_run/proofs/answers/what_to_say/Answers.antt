use Rattle.std.proofs.Common.{option_map, rules, sym, ap, ◌∙◌}
use Rattle.racer_run.specs.Causes.{asked_of}
use Rattle.racer_words.specs.Requests.{seen}
use Rattle.racer_run.proofs.OneStatus.{said_due}
use Rattle.racer_run.proofs.answers.what_to_say.Goals as goal

pub returns-in-Err-Failed-clause-due : goal.returns-in-Err-Failed-clause-due
returns-in-Err-Failed-clause-due g c = search rules

pub returns-clause-due : goal.returns-clause-due
returns-clause-due g c =
    let folder = c.answered.new.folder in
    let asked = asked_of g.F.Folder.told g.F.Folder.faults c.args.words.now c.args.folder.now folder in
    said_due c.in-Ok.said.status asked c.in-Ok.said.text (record {
      request = seen c.in-Some.request;
      asks = sym c.in_ok-request.ensures ∙ ap (option_map seen) c.in-Some.is;
      entered = c.in-Ok.ensures.entered;
      said = c.in-Ok.ensures.said;
      fits = c.in-Ok.ensures.fits;
      no_fault = c.in-Ok.ensures.count;
    })
