use Rattle.std.proofs.Common.{◌≡◌, ◌++◌, Vec, drop, map}
use Rattle.std.specs.Global.{Global}
use Rattle.core_code.specs.Core.{Method, method_of}
use Rattle.core_code.specs.Program.{core}
use Rattle.race_report_parts.specs.declared.tables.Site.{Site}
use Rattle.race_report_parts.specs.Sites.{sites_of}
use Rattle.race_report_parts.proofs.tables.sites.Given as goal

-- the tables so far, and then those of the methods that are left
abbrev pub invariant-loop-method : goal.invariant-loop-method
invariant-loop-method l =
    let left = map method_of (drop l.method-index l.method-items) in
    map (λ (table : Vec Site Global). table.items) l.tables.items ++ map (λ (m : Method). sites_of m.code) left
    ≡ map (λ (m : Method). sites_of m.code) (core l.program).methods
