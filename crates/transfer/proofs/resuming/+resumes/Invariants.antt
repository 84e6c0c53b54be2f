use Rattle.std.proofs.Common.{◌≡◌, ◌+◌, ◌-◌, map, drop, length}
use Rattle.access_paths.specs.Table.{GoesOn}
use Rattle.owner_domain.specs.Numbered.{read_state}
use Rattle.core_code.specs.Tree.{tree_of, in_sequence}
use Rattle.transfer_loops.specs.Resuming.{loops, resumed, iterated}
use Rattle.transfer_steps.specs.Contexts.{given}
use Rattle.transfer_steps.specs.Numbered.{read_heads, IsResumedIn}
use Rattle.transfer.specs.Resumes.{heads_in}
use Rattle.transfer.proofs.resuming.+resumes.Given as goal

-- the rounds that are left, from here on, give what all give from the beginning on
abbrev pub invariant-resume_rounds-loop-round : goal.invariant-resume_rounds-loop-round
invariant-resume_rounds-loop-round l =
    let go = resumed (given l.context) (tree_of l.body) l.context.locked l.first in
    record {
      same : iterated go (l.rounds - l.round) (heads_in (read_heads l.table l.heads.items)) (read_state l.table l.state)
          ≡
          iterated go l.rounds (heads_in (read_heads l.initial.table l.initial.heads.items))
          (read_state l.initial.table l.initial.state);
      long : length l.heads.items ≡ length l.initial.heads.items;
      numbers : IsResumedIn l.table l.state l.heads.items;
      on : GoesOn l.initial.table l.table;
    }

-- the parts that are left, from here on, give what all give from the beginning on
abbrev pub invariant-resume_through-loop-index : goal.invariant-resume_through-loop-index
invariant-resume_through-loop-index l =
    let rest = in_sequence (map tree_of (drop l.index l.parts)) in
    let all = in_sequence (map tree_of l.parts) in
    record {
      same : resumed (given l.context) rest l.context.locked l.number (heads_in (read_heads l.table l.heads.items))
          (read_state l.table l.state) ≡
          resumed (given l.context) all l.context.locked l.first
          (heads_in (read_heads l.initial.table l.initial.heads.items))
          (read_state l.initial.table l.initial.state);
      number : l.number + loops rest ≡ l.first + loops all;
      long : length l.heads.items ≡ length l.initial.heads.items;
      numbers : IsResumedIn l.table l.state l.heads.items;
      on : GoesOn l.initial.table l.table;
    }
