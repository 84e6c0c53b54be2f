use Rattle.std.proofs.Common.{length}
use Rattle.row_links.specs.Lists.{list_at}
use Rattle.edit_session.proofs.Listing.{IsListing}
use Rattle.edit_session.proofs.work.Work.finish_list.Given as goal

abbrev pub invariant-loop-node : goal.invariant-loop-node
invariant-loop-node l = IsListing l.initial.self l.initial.lists l.list l.self l.lists

abbrev pub decreases-loop-node : goal.decreases-loop-node
decreases-loop-node l = length (list_at l.lists l.list)
