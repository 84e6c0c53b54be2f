use denote.Param.Send.{sendable}
use Rattle.transfer.proofs.Movable.{finished_send, finished_sync}
use Rattle.demand_pool.proofs.row_pieces.next_piece.Goals as goal

pub find-requires-send-P : goal.find-requires-send-P
find-requires-send-P g c κs within = search (sendable, finished_send)

pub find-requires-sync-P : goal.find-requires-sync-P
find-requires-sync-P g c κs within = search (sendable, finished_sync)

pub demand-requires-send-P : goal.demand-requires-send-P
demand-requires-send-P g c κs within = search (sendable, finished_send)

pub demand-requires-sync-P : goal.demand-requires-sync-P
demand-requires-sync-P g c κs within = search (sendable, finished_sync)
