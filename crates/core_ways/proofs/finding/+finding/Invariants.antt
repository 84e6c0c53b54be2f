use Rattle.std.proofs.Common.{◌≡◌, ◌++◌, map, drop, take}
use Rattle.core_code.specs.Tree.{tree_of, in_sequence}
use Rattle.core_ways.specs.Paths.{op_there, path_to}
use Rattle.core_ways.proofs.finding.+finding.Given as goal

-- the site is in what is left, if it is anywhere
abbrev pub invariant-find_among-loop-code : goal.invariant-find_among-loop-code
invariant-find_among-loop-code l =
    let left = in_sequence (map tree_of (drop l.code-index l.codes)) in
    let whole = in_sequence (map tree_of l.codes) in
    record {
      there : op_there left l.site ≡ op_there whole l.site;
      path : l.path.items ++ path_to l.site left ≡ l.fn.path.items ++ path_to l.site whole;
      start : take l.before l.path.items ≡ l.fn.path.items;
    }
