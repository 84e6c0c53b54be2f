use Rattle.std.proofs.Common.{◌≡◌, drop}
use Rattle.core_code.specs.Program.{core}
use Rattle.witness_text_names.specs.Names as named
use Rattle.witness_text_names.proofs.EntrySearch.{entry_from}
use Rattle.witness_text_names.proofs.entries.entry_named.Given as goal

-- the entry is the first among the methods that are left
abbrev pub invariant-loop-index : goal.invariant-loop-index
invariant-loop-index l =
    entry_from (core l.program) l.class l.text l.index (drop l.index l.method-items) ≡
    named.entry_named (core l.program) l.class l.text
