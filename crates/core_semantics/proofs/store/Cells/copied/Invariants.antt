use Rattle.core_semantics.proofs.CopiedCells.{DoCopy}
use Rattle.core_semantics.proofs.store.Cells.copied.Given as goal

-- what was copied, and what is left, are all cells
abbrev pub invariant-loop-cell : goal.invariant-loop-cell
invariant-loop-cell l = DoCopy l.stored l.self.stored l.cell-iterator
