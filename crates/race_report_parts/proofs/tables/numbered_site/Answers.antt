use Rattle.std.proofs.Common.{◌≡◌, None, Some, slice_get, ◌∙◌, arith}
use Rattle.std.proofs.lemmas.Grind.{common_steps}
use Rattle.std.proofs.lemmas.Option.{gets}
use Rattle.core_code.specs.Program.{core}
use Rattle.race_report_parts.proofs.SiteTables.{site_held}
use Rattle.race_report_parts.proofs.tables.numbered_site.Goals as goal

pub returns : goal.returns
returns c =
    let program = core c.args.program.now in
    let table = c.in_ok-table.table.now in
    let held : slice_get c.args.sites.now c.args.number ≡ Some table =
    grind (arith, common_steps, gets, c.in_ok-table.ensures.lookup)
    in
    let found : c.copied.result ≡ slice_get table.items c.args.site.0 =
    grind (arith, common_steps, gets, c.get-2.ensures.lookup, c.copied.ensures, c.deref.ensures.value)
    in
    found
    ∙ site_held program c.args.sites.now (record { 0 = c.args.number }) c.args.site
    (Some table) c.requires c.args.program.now.sites_in_order held

pub returns-in_err-table : goal.returns-in_err-table
returns-in_err-table c =
    let program = core c.args.program.now in
    let none : slice_get c.args.sites.now c.args.number ≡ None =
    grind (arith, common_steps, gets, c.in_err-table.ensures.lookup) in
    c.from_residual.ensures
    ∙ site_held program c.args.sites.now (record { 0 = c.args.number }) c.args.site None c.requires
    c.args.program.now.sites_in_order none
