use Rattle.std.proofs.Common.{◌∙◌, map, string_bytes, sym}
use Rattle.std.proofs.lemmas.List.{length-map}
use Rattle.racer_sources.specs.Reading.{AreThere, NeverFails}
use Rattle.racer_sources.proofs.Declared.{known_of, counts_of, never_of, accepted_of, refused_of}
use Rattle.racer_sources.proofs.Faults.{anyhow, on_ok_anyhow}
use Rattle.racer_sources.proofs.found.declared.Goals as goal

pub returns-clause-count : goal.returns-clause-count
returns-clause-count g c =
    counts_of c.with_table.result c.in_ok-units.units.items _ _ c.with_table.ensures.fault c.in_ok-units.ensures.count

pub returns-clause-steady : goal.returns-clause-steady
returns-clause-steady g c = λ _.
    anyhow (NeverFails c.with_table.result) (λ t. AreThere t.files (map string_bytes c.args.names.now))
    (g.F.Folder.told c.args.folder.now)
    (never_of c.with_table.result c.in_ok-units.units.items c.with_table.ensures.fault)

pub returns-clause-known : goal.returns-clause-known
returns-clause-known g c =
    known_of c.with_table.result (map string_bytes c.args.names.now) c.in_ok-units.units.items
    (c.in_ok-units.ensures.counted ∙ sym (length-map c.args.names.now string_bytes)) c.in_ok-units.ensures.any
    c.with_table.ensures.ok

pub returns-clause-read : goal.returns-clause-read
returns-clause-read g c =
    accepted_of c.with_table.result (g.F.Folder.told c.args.folder.now) c.args.names.now c.in_ok-units.units.items
    c.in_ok-units.ensures.read c.with_table.ensures.ok

pub returns-clause-refused : goal.returns-clause-refused
returns-clause-refused g c =
    refused_of c.with_table.result (g.F.Folder.told c.args.folder.now) c.args.names.now c.in_ok-units.units.items
    c.in_ok-units.ensures.read c.with_table.ensures.fault

pub returns-clause-kept_any : goal.returns-clause-kept_any
returns-clause-kept_any g c = on_ok_anyhow _ c.with_table.result c.in_ok-units.ensures.kept_any

pub returns-clause-kept : goal.returns-clause-kept
returns-clause-kept g c = on_ok_anyhow _ c.with_table.result c.in_ok-units.ensures.kept
