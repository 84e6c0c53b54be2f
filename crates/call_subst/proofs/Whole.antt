-- What is made of each part of a summary is what is found of the callee, in its caller.
use Rattle.std.proofs.Common.{◌≡◌, List, sym, ap, ◌∙◌}
use Rattle.std.specs.FinSet as set
use Rattle.access_paths.specs.declared.path.Path.{Path}
use Rattle.access_paths.specs.Order.{PathSet, path_cmp}
use Rattle.access_domain.specs.declared.access.Access.{Access}
use Rattle.access_domain.specs.declared.summary.Summary.{Summary}
use Rattle.access_domain.specs.Findings.{Findings, summary_from}
use Rattle.access_domain.specs.Records.{first_of_keys}
use Rattle.access_domain.specs.Substitution.{substituted}
use Rattle.access_domain.proofs.Different.{from_list-different}
use Rattle.call_subst.specs.declared.naming.Call.{Call}
use Rattle.call_subst.specs.Calls.{given, actuals, records_at, name_at, paths_at}
use Rattle.call_subst.specs.Substitutes.{AreFindings}
use Rattle.call_subst.proofs.SameSets.{flat_map-same_set}

pub whole : (call : Call) (found : Findings) (summary : Summary) (paths : List Path) (records : List Access)
    (wobbly : PathSet) → summary_from found ≡ summary →
    records ≡ first_of_keys (records_at call 0 summary.accesses) →
    set.from_list {R = path_cmp} paths ≡ summary.wobbly → wobbly ≡ set.from_list (paths_at call paths) →
    AreFindings (substituted (given call) (actuals call) found call.locked call.site) records wobbly
whole call found summary paths records wobbly same all held made =
    let first : records ≡ first_of_keys (records_at call 0 found.records) =
    all ∙ ap (λ (s : Summary). first_of_keys (records_at call 0 s.accesses)) (sym same) in
    let sets : set.from_list {R = path_cmp} paths ≡ set.from_list found.wobbly =
    held ∙ ap (λ (s : Summary). s.wobbly) (sym same) in
    let names : wobbly ≡ set.from_list (substituted (given call) (actuals call) found call.locked call.site).wobbly =
    made ∙ flat_map-same_set (name_at call) paths found.wobbly sets
    ∙ sym (from_list-different (paths_at call found.wobbly)) in
    (first, names)
