use Rattle.racer_sources.proofs.programs.lowered.Goals as goal

pub returns-in-Ok : goal.returns-in-Ok
returns-in-Ok c = (c.in-Ok.ensures.few, c.in-Ok.ensures.ok)
