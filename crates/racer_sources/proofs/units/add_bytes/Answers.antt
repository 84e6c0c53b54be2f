use Rattle.std.proofs.Common.{◌≡◌, length, rules}
use Rattle.racer_sources.proofs.Added.{added_behind}
use Rattle.racer_sources.proofs.units.add_bytes.Goals as goal

pub returns-clause-added : goal.returns-clause-added
returns-clause-added c =
    let number : c.file_at-file.result.0 ≡ length c.args.read.now.units.items = search rules in
    added_behind c.args.bytes.now c.args.read.now c.put_unit.new.units c.file_at-file.result c.in_ok-unit.unit
    number c.in_ok-put_unit.ensures.ok c.in_ok-unit.ensures.read
