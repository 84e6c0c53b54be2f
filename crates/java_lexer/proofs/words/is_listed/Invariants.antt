use Rattle.std.proofs.Common.{◌≡◌, map, drop}
use Rattle.racer_base.specs.Name.{is_listed}
use Rattle.java_lexer.proofs.words.is_listed.Given as goal

abbrev pub invariant-loop-entry : goal.invariant-loop-entry
invariant-loop-entry l = is_listed (map (λ entry. entry.now) (drop l.entry-index l.table)) l.text ≡ is_listed
    (map (λ entry. entry.now) l.table) l.text
