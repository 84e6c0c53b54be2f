use Rattle.racer_sources.proofs.file.file_tokens.Goals as goal

pub returns-in-Err-clause-fault : goal.returns-in-Err-clause-fault
returns-in-Err-clause-fault c = c.lexical_fault.ensures _ _ c.requires c.in-Err.ensures.err
