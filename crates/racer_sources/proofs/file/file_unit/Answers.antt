use Rattle.racer_sources.proofs.file.file_unit.Goals as goal

pub returns-clause-fault : goal.returns-clause-fault
returns-clause-fault c =
    c.unit_fault.ensures c.args.file c.args.sum c.args.bytes.now c.in_ok-lexed.lexed c.in_ok-check_size.ensures.short
    c.in_ok-lexed.ensures.tokens c.in-Err.ensures.fault
