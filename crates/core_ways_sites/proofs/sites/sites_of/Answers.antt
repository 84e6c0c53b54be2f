use Rattle.std.proofs.Common.{◌≡◌, Some, ap, sym, option_map, ◌∙◌}
use Rattle.std.specs.Option.{option_copied}
use Rattle.core_code.specs.Program.{core}
use Rattle.core_code.specs.Tree.{tree_of}
use Rattle.core_ways.specs.Ways.{code_at}
use Rattle.core_ways_sites.proofs.Noted.{found-right, none-right}
use Rattle.core_ways_sites.proofs.SiteLeads.{led-whole}
use Rattle.core_ways_sites.proofs.sites.sites_of.Goals as goal

pub returns-clause-found : goal.returns-clause-found
returns-clause-found c =
    let program = core c.args.program.now in
    let code = tree_of c.in-Some.code.now in
    let is : code_at program c.args.method ≡ Some code =
    sym c.code_of.ensures ∙ ap (λ o. option_map tree_of (option_copied o)) c.in-Some.is in
    found-right program c.args.method code c.visit.new.sites.found is
    (c.in_ok-visit.ensures.found code
    (led-whole program code c.in_ok-wanted_of.field-0 c.new-turns.result.items c.new-turns.ensures.items)
    (none-right program code c.new.result c.new.ensures.empty))
