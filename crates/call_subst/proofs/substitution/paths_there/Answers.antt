use Rattle.std.proofs.Common.{◌≡◌, ℕ, ◌+◌, List, [], drop, sym, ap, subst, ◌∙◌, arith}
use Rattle.std.proofs.lemmas.List.{drop_all}
use Rattle.access_paths.specs.declared.path.Path.{Path}
use Rattle.access_paths.specs.Order.{PathSet}
use Rattle.access_paths.proofs.Numbers.{goes_on-same, goes_on-trans}
use Rattle.access_domain.specs.Additions.{paths_added}
use Rattle.access_domain.proofs.AdditionLemmas.{paths_added-empty}
use Rattle.call_subst.specs.Calls.{paths_at}
use Rattle.call_subst.specs.Numbered.{read_set, AreWobbly}
use Rattle.call_subst.proofs.NumberedSets.{wobbly-none}
use Rattle.call_subst.proofs.Turns.{path_turn}
use Rattle.call_subst.proofs.substitution.paths_there.Goals as goal

pub loop-path-init : goal.loop-path-init
loop-path-init c =
    let table = c.args.table.now in
    let paths : List Path = c.args.paths.now in
    record {
      all = ap (λ (ns : List ℕ). paths_added (read_set table ns) (paths_at c.args.call.now paths))
          c.new-numbers.ensures.empty;
      numbers = subst (AreWobbly table) (sym c.new-numbers.ensures.empty) (wobbly-none table);
      table = goes_on-same table;
      each_once = λ once. once;
    }

pub loop-path-preserved : goal.loop-path-preserved
loop-path-preserved c =
    let call = c.args.call.now in
    let paths : List Path = c.args.paths.now in
    let at = c.loop-path in
    let left : List Path = paths_at call (drop (at.path-index + 1) paths) in
    let added = c.in_ok-add_number.ensures in
    record {
      all =
          ap (λ (kept : PathSet). paths_added kept left) added.all
          ∙ path_turn call (read_set at.table at.numbers.keys) paths at.path-index c.path-item.result
          c.loop-path-test.true c.path-item.is
          ∙ at.invariant.all;
      numbers = added.numbers;
      table = goes_on-trans c.args.table.now at.table c.add_number.new.table at.invariant.table added.table;
      each_once = λ once. added.each_once (at.invariant.each_once once);
    }

pub returns-clause-all : goal.returns-clause-all
returns-clause-all c =
    let call = c.args.call.now in
    let paths : List Path = c.args.paths.now in
    let at = c.loop-path in
    let nothing : drop at.path-index paths ≡ [] = drop_all at.path-index paths (omega arith) in
    ap (read_set at.table) (c.in_ok-from_slice.ensures.items ∙ c.as_slice.ensures.keys)
    ∙ sym (ap (λ (left : List Path). paths_added (read_set at.table at.numbers.keys) (paths_at call left)) nothing)
    ∙ at.invariant.all
    ∙ paths_added-empty (paths_at call paths)
