use Rattle.racer_run.proofs.reports.pooled.Goals as goal

pub returns-clause-legal : goal.returns-clause-legal
returns-clause-legal g c = c.run_pool.ensures.legal

pub returns-clause-complete : goal.returns-clause-complete
returns-clause-complete g c = c.run_pool.ensures.complete
