use Rattle.std.proofs.Common.{◌≡◌, ◌≤◌, length}
use Rattle.racer_base.specs.declared.limits.TheConstants.{MAX_FOLDER_BYTES}
use Rattle.racer_sources.specs.Finding.{AreReadSomehow}
use Rattle.racer_sources.proofs.Added.{LeadsOn}
use Rattle.racer_sources.proofs.ReadContents.{contents_from}
use Rattle.racer_sources.proofs.units.read_kept.Given as goal

abbrev pub invariant-loop-bytes : goal.invariant-loop-bytes
invariant-loop-bytes l =
    let contents = l.files.contents.items in
    record {
      few : l.read.sum ≤ MAX_FOLDER_BYTES;
      counted : length l.read.units.items ≡ l.bytes-index;
      any : AreReadSomehow 0 l.read.units.items;
      leads : LeadsOn (contents_from contents 0) (contents_from contents l.bytes-index) l.read;
    }
