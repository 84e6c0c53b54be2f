use Rattle.std.proofs.Common.{List, ◌∷◌, drop, ap, ◌∙◌}
use Rattle.core_semantics.specs.declared.pending.Pending.{Pending}
use Rattle.core_semantics.specs.declared.pending.Pending.TheVariants.{One}
use Rattle.core_semantics.specs.View.{todo_of}
use Rattle.core_semantics.proofs.frame.pending_code.Goals as goal

pub returns : goal.returns
returns c =
    ap todo_of (c.in-Ok.ensures.ok
    ∙ ap (λ (pending : List Pending). One c.args.code ∷ drop 0 pending) c.new-pending.ensures)
