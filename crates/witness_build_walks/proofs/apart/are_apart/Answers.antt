use Rattle.std.proofs.Common.{sym, ◌∙◌}
use Rattle.core_semantics.specs.State.{thread_of}
use Rattle.core_semantics.specs.View.{state_of}
use Rattle.witness_build_walks.proofs.ApartWalks.{none-held}
use Rattle.witness_build_walks.proofs.apart.are_apart.Goals as goal

pub returns : goal.returns
returns c = λ e.
    let first = c.args.first.now in
    record {
      quiet = c.if-first.false;
      free =
          none-held (thread_of (state_of first.machine) first.thread).locks
          (sym c.is_free.ensures ∙ c.if-not-is_free.false);
      disjoint = c.is_disjoint.ensures.0 e;
    }
