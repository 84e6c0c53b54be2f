use Rattle.std.proofs.Common.{◌∙◌}
use Rattle.racer_sources.proofs.SortedNames.{sorted_sources}
use Rattle.racer_sources.proofs.names.source_names.Goals as goal

pub returns-clause-names : goal.returns-clause-names
returns-clause-names g c =
    sorted_sources _ (g.F.Folder.told c.enter.new.self) c.in_ok-names.names.items c.sort.new.self.items _
    c.enter.ensures.told c.in_ok-names.ensures.names c.sort.ensures.permutation c.in_ok-sort.ensures.sorted
    c.keep_sources.ensures

pub returns-clause-keeps : goal.returns-clause-keeps
returns-clause-keeps g c =
    record {
      told = c.in_ok-names.ensures.told ∙ c.enter.ensures.told;
      stays = λ steady. c.in_ok-names.ensures.stays (c.enter.ensures.stays steady);
    }
