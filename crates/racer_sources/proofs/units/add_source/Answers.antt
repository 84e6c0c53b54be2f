use Rattle.std.proofs.Common.{refl}
use Rattle.racer_sources.proofs.Fronts.{added_somehow, added_told, refused_told, kept_told}
use Rattle.racer_sources.proofs.ReadContents.{added_some}
use Rattle.racer_sources.proofs.Faults.{file_counts, file_steady, anyhow}
use Rattle.racer_sources.specs.Reading.{IsThere, NeverFails, next_file}
use Rattle.racer_sources.proofs.units.add_source.Goals as goal

pub returns-clause-count : goal.returns-clause-count
returns-clause-count g c = file_counts (next_file c.args.read.now) _ _ c.add_kept.result _ _
    c.add_kept.ensures.fault c.in_ok-bytes.ensures.count

pub returns-clause-steady : goal.returns-clause-steady
returns-clause-steady g c = λ _.
    anyhow (NeverFails c.add_kept.result) (λ t. IsThere t.files c.args.name.now) (g.F.Folder.told c.args.folder.now)
    (file_steady (next_file c.args.read.now) _ _ c.add_kept.result c.add_kept.ensures.fault)

pub returns-clause-any : goal.returns-clause-any
returns-clause-any g c =
    added_somehow c.in_ok-bytes.bytes.items c.args.read.now c.add_kept.new.read c.add_kept.result
    c.add_kept.ensures.added

pub returns-clause-read : goal.returns-clause-read
returns-clause-read g c =
    added_told (g.F.Folder.told c.args.folder.now) c.args.name.now c.in_ok-bytes.bytes.items
    c.in_ok-bytes.ensures.bytes c.args.read.now c.add_kept.new.read c.add_kept.result c.add_kept.ensures.added

pub returns-clause-refused : goal.returns-clause-refused
returns-clause-refused g c =
    refused_told (g.F.Folder.told c.args.folder.now) c.args.name.now c.in_ok-bytes.bytes.items
    c.in_ok-bytes.ensures.bytes (next_file c.args.read.now) c.args.read.now.sum c.add_kept.result
    c.add_kept.ensures.fault

pub returns-clause-kept_any : goal.returns-clause-kept_any
returns-clause-kept_any g c =
    added_some c.args.contents.now c.add_kept.new.contents c.in_ok-bytes.bytes c.add_kept.result
    c.in_ok-bytes.ensures.most c.add_kept.ensures.kept

pub returns-clause-kept : goal.returns-clause-kept
returns-clause-kept g c =
    kept_told (g.F.Folder.told c.args.folder.now) c.args.name.now c.in_ok-bytes.bytes.items
    c.in_ok-bytes.ensures.bytes c.args.contents.now.items c.add_kept.new.contents.items c.in_ok-bytes.bytes
    c.args.read.now c.add_kept.new.read c.add_kept.result refl c.add_kept.ensures.added c.add_kept.ensures.kept
