use Rattle.std.proofs.Common.{◌≡◌, ◌≤◌, ◌+◌, length}
use Rattle.racer_base.specs.declared.limits.TheConstants.{MAX_FOLDER_BYTES}
use Rattle.racer_sources.specs.Finding.{AreReadSomehow, KeepsMeaning}
use Rattle.racer_sources.specs.Contents.{AreMost}
use Rattle.racer_sources.proofs.Added.{LeadsFrom}
use Rattle.racer_sources.proofs.ReadContents.{KeepsFrom}
use Rattle.racer_sources.proofs.units.read_all.Given as goal

abbrev pub invariant-loop-name : goal.invariant-loop-name
invariant-loop-name g l =
    let tells = g.F.Folder.told in
    let faults = g.F.Folder.faults in
    record {
      few : l.read.sum ≤ MAX_FOLDER_BYTES;
      count : faults l.folder ≡ faults l.fn.folder;
      keeps : KeepsMeaning tells g.F.Folder.steady l.fn.folder l.folder;
      counted : length l.read.units.items ≡ l.name-index;
      any : AreReadSomehow 0 l.read.units.items;
      leads : LeadsFrom (tells l.fn.folder) l.names l.name-index l.read;
      as_many : length l.contents.items ≡ length l.fn.contents.items + l.name-index;
      most : AreMost l.fn.contents.items → AreMost l.contents.items;
      kept : KeepsFrom (tells l.fn.folder) l.names l.name-index l.fn.contents l.contents;
    }
