-- A monitor that the other thread holds.
use Rattle.std.proofs.Common.{◌≡◌, Bool, true, cond, List, sym, ap}
use Rattle.std.specs.List.{list_any}
use Rattle.core_code.specs.Tree.{Tree}
use Rattle.core_semantics.specs.declared.answer.Holder.{Holder}
use Rattle.core_semantics.specs.Objects.{same_monitor}
use Rattle.core_semantics.specs.Steps.{Spot, Goes, Waits, after, locking, with_lock}

pub held_waits : (others : List Holder) (s : Spot) (body : Tree) (monitor : Holder) →
    true ≡ list_any (λ held. same_monitor held monitor) others → locking others s body monitor ≡ Waits monitor
held_waits others s body monitor held =
    ap (λ (b : Bool). cond b (Waits monitor) (Goes (after (with_lock s body monitor)))) (sym held)
