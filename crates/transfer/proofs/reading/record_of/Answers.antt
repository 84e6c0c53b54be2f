use Rattle.std.proofs.Common.{sym, ◌∙◌}
use Rattle.access_paths.proofs.Numbers.{number-at}
use Rattle.transfer.proofs.reading.record_of.Goals as goal

pub returns : goal.returns
returns c =
    let access = c.args.access in
    let path =
    c.in_ok-copied.ensures ∙ sym (number-at c.args.table.now access.path c.path_of.result.now c.path_of.ensures) in
    (λ i. record {
      path = path i;
      kind = access.kind;
      locked = access.locked;
      main = access.main;
      site = access.site;
      below = access.below;
    })
