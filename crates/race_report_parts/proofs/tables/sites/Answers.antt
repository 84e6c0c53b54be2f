use Rattle.std.proofs.Common.{List, Vec, map, refl, ◌++◌, ap, ◌∙◌}
use Rattle.std.specs.Global.{Global}
use Rattle.core_code.specs.declared.parts.MethodCore.{MethodCore}
use Rattle.core_code.specs.Core.{Method, method_of}
use Rattle.core_code.specs.Tree.{tree_of}
use Rattle.race_report_parts.specs.declared.tables.Site.{Site}
use Rattle.race_report_parts.specs.Sites.{sites_of}
use Rattle.race_report_parts.proofs.LookUps.{more_mapped}
use Rattle.racer_base.proofs.Lists.{at_end}
use Rattle.race_report_parts.proofs.tables.sites.Goals as goal

pub loop-method-preserved : goal.loop-method-preserved
loop-method-preserved c =
    let code = tree_of c.method-item.result.code in
    more_mapped (λ (ms : List MethodCore). map (λ (m : Method). sites_of m.code) (map method_of ms))
    (λ (m : MethodCore). sites_of (tree_of m.code)) (λ (table : Vec Site Global). table.items)
    c.loop-method.tables.items c.push.new.self.items c.push_sites.new.sites c.methods-method-items.result.now
    c.loop-method.method-index c.method-item.result (λ y ys. refl) c.loop-method-test.true c.method-item.is
    c.in_ok-push.ensures.items
    (c.in_ok-push_sites.ensures ∙ ap (λ (ss : List Site). ss ++ sites_of code) c.new-table.ensures.items)
    ∙ c.loop-method.invariant

pub returns : goal.returns
returns c =
    at_end (λ (ms : List MethodCore). map (λ (m : Method). sites_of m.code) (map method_of ms))
    c.methods-method-items.result.now c.loop-method.method-index
    (map (λ (table : Vec Site Global). table.items) c.loop-method.tables.items) refl c.loop-method-test.false
    ∙ c.loop-method.invariant
