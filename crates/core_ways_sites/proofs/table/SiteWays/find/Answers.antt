use Rattle.core_code.specs.Program.{core}
use Rattle.core_ways_sites.proofs.KnownWays.{found-set}
use Rattle.core_ways_sites.proofs.table.SiteWays.find.Goals as goal

pub sites_of-requires : goal.sites_of-requires
sites_of-requires c =
    let known = c.in_ok-widen.ensures.known (core c.args.program.now) c.requires in
    known.table

pub returns : goal.returns
returns c =
    let program = core c.args.program.now in
    let known = c.in_ok-widen.ensures.known program c.requires in
    record {
      table = c.in_ok-found.ensures.table;
      methods =
          found-set program c.widen.new.self.methods.items c.args.method c.in_ok-found.found known.methods
          c.in_ok-found.ensures.found;
    }
