use Rattle.std.proofs.Common.{◌≡◌, ◌+◌, List, [], ◌∷◌, ◌++◌, None, Some, drop, option_map, sym, ap, ◌∙◌, arith}
use Rattle.std.specs.List.{filter_map}
use Rattle.std.specs.declared.vec.Vec.{Vec}
use Rattle.std.specs.Global.{Global}
use Rattle.race_pairs.specs.declared.method_access.MethodAccess.{MethodAccess}
use Rattle.race_pairs.specs.declared.warning.Warning.{Warning}
use Rattle.race_pairs.specs.Warnings.{warning_of, warning_among}
use Rattle.race_pairs.specs.MethodRecords.{record_of, all_records}
use Rattle.race_pairs.proofs.Turns.{rest_of, filter_map_adds, filter_map_leaves}
use Rattle.race_pairs.proofs.pairing.push_partners.Goals as goal
use Rattle.race_pairs.proofs.pairing.push_partners.Goals.{in-Some+in_ok-push, in_default}

pub loop-first-preserved : goal.loop-first-preserved
loop-first-preserved c =
    let records = c.args.records.now in
    let first : MethodAccess = c.first-item.result in
    let rest : List MethodAccess = drop (c.loop-first.first-index + 1) records in
    let made = warning_among c.args.class (all_records records) in
    let left : drop c.loop-first.first-index records ≡ first ∷ rest =
    rest_of records c.loop-first.first-index first (omega arith) c.first-item.is
    in
    let had : List Warning = c.loop-first.found.items in
    let before = ap (λ ys. had ++ filter_map made (all_records ys)) (sym left) ∙ c.loop-first.invariant in
    let given = option_map (warning_of c.args.class (record_of first)) in
    let finds = c.in_ok-partner.ensures (all_records records) c.requires in
    elim c.match-partner.branch [
      | in-Some+in_ok-push w ↦
          let warning : Warning = warning_of c.args.class (record_of first) (record_of w.in-Some.partner) in
          let gives : made (record_of first) ≡ Some warning =
          ap given (sym finds ∙ ap (option_map record_of) w.in-Some.is)
          in
          let items : c.match-partner.found.items ≡ had ++ warning ∷ [] =
          ap (λ (v : Vec Warning Global). v.items) w.found-is ∙ w.in_ok-push.ensures.items
          in
          ap (λ found. found ++ filter_map made (all_records rest)) items
          ∙ filter_map_adds made had (record_of first) warning (all_records rest) gives
          ∙ before
      | in_default w ↦
          let gives : made (record_of first) ≡ None =
          ap given (sym finds ∙ ap (option_map record_of) w.in_default.is)
          in
          let items : c.match-partner.found.items ≡ had = ap (λ (v : Vec Warning Global). v.items) w.found-is in
          ap (λ found. found ++ filter_map made (all_records rest)) items
          ∙ filter_map_leaves made had (record_of first) (all_records rest) gives
          ∙ before
    ]
