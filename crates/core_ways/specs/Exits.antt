-- No public contract rests on this: the path to where code is left.
use Rattle.std.specs.Prelude.{◌≡◌, Bool, true, false, List, [], ◌∷◌, reverse, if◌then◌else◌}
use Rattle.core_code.specs.Exits.{exits_of}
use Rattle.core_code.specs.Tree.{Tree, Op, Skip, Seq, Choice, Loop, Sync, can_return}
use Rattle.core_ways.specs.declared.returning.Exit.{Exit}
use Rattle.core_ways.specs.Ways.{goes_past}

-- at each sequence and choice round where code is left, from the outside, whether it stands in the first part
abbrev pub exit_path : Tree → List Bool
exit_path (Op site place op) = []
exit_path Skip = []
exit_path (Seq first rest) = if goes_past first rest then false ∷ exit_path rest else true ∷ exit_path first
exit_path (Choice left right) = if can_return left then true ∷ exit_path left else false ∷ exit_path right
exit_path (Loop body) = exit_path body
exit_path (Sync lock body) = exit_path body

pub record IsExit (code : Tree) (exit : Exit) : Type 0 where
  pub exits : exit.exits ≡ exits_of code
  pub path : exit.path.items ≡ reverse (exit_path code)
