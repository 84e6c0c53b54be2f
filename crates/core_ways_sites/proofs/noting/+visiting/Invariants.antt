use Rattle.std.proofs.Common.{◌≡◌, ◌&&◌, not, map, drop}
use Rattle.std.specs.BTreeSet.{contains}
use Rattle.std.specs.Ordering.{nat_cmp}
use Rattle.racer_base.specs.declared.ids.SiteId.{SiteId}
use Rattle.core_code.specs.Program.{core}
use Rattle.core_code.specs.Tree.{Tree, tree_of, in_sequence}
use Rattle.core_ways.specs.Passings.{IsTable}
use Rattle.core_ways.specs.Ways.{has_site}
use Rattle.core_ways_sites.specs.Gone.{IsLonger}
use Rattle.core_ways_sites.specs.Sites.{AreLed, AreRight}
use Rattle.core_ways_sites.proofs.noting.+visiting.Given as goal

-- the sites of what is left are still to be found; what is gone leads on to those that are, and what is noted is right
abbrev pub invariant-visit_through-loop-code : goal.invariant-visit_through-loop-code
invariant-visit_through-loop-code l =
    let rest = in_sequence (map tree_of (drop l.code-index l.codes)) in
    let all = in_sequence (map tree_of l.codes) in
    record {
      table : IsTable (core l.program) l.table;
      longer : IsLonger l.fn.turns.items l.turns.items;
      left : (s : SiteId) → (contains nat_cmp l.sites.wanted s.0 && not (has_site rest s)) ≡
          (contains nat_cmp l.fn.sites.wanted s.0 && not (has_site all s));
      found : (whole : Tree) →
          AreLed (core l.program) whole l.locks all l.fn.sites.wanted l.fn.count l.fn.turns.items →
          AreRight (core l.program) whole l.fn.sites.found →
          (led : AreLed (core l.program) whole l.locks rest l.sites.wanted l.count l.turns.items) ×
          AreRight (core l.program) whole l.sites.found;
    }
