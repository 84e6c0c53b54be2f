use Rattle.std.proofs.Common.{◌≡◌, drop, nat_eq}
use Rattle.std.specs.List.{list_any}
use Rattle.core_code.specs.Falling.{number_of}
use Rattle.core_code.proofs.cycles.has_number.Given as goal

-- none so far has the number
abbrev pub invariant-loop-callee : goal.invariant-loop-callee
invariant-loop-callee l =
    list_any (λ n. nat_eq (number_of l.numbers n) l.own) l.callees ≡
    list_any (λ n. nat_eq (number_of l.numbers n) l.own) (drop l.callee-index l.callees)
