use Rattle.std.proofs.Common.{◌≡◌, drop, length}
use Rattle.typed_core.specs.Kinds.{do_fit}
use Rattle.typed_core.proofs.kinds.do_fit.Given as goal

abbrev pub invariant-loop-index : goal.invariant-loop-index
invariant-loop-index l =
    record {
      rest : do_fit (drop l.index l.kinds) (drop l.index l.given) ≡ do_fit l.kinds l.given;
      long : length l.kinds ≡ length l.given;
    }
