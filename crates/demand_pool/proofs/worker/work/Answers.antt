use denote.Param.Send.{sendable}
use Rattle.transfer.proofs.Movable.{finished_send, finished_sync}
use Rattle.demand_pool.proofs.worker.work.Goals as goal

pub take-requires-send-P : goal.take-requires-send-P
take-requires-send-P g c κs within = search (sendable, finished_send)

pub take-requires-sync-P : goal.take-requires-sync-P
take-requires-sync-P g c κs within = search (sendable, finished_sync)
