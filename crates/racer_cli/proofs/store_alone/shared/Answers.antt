use denote.Param.Send.{sendable}
use Rattle.transfer.proofs.Movable.{finished_send, finished_sync}
use Rattle.racer_cli.proofs.store_alone.shared.Goals as goal

pub start-requires-send-P : goal.start-requires-send-P
start-requires-send-P g c κs within = search (sendable, finished_send)

pub start-requires-sync-P : goal.start-requires-sync-P
start-requires-sync-P g c κs within = search (sendable, finished_sync)

pub close-requires-send-P : goal.close-requires-send-P
close-requires-send-P g c κs within = search (sendable, finished_send)

pub close-requires-sync-P : goal.close-requires-sync-P
close-requires-sync-P g c κs within = search (sendable, finished_sync)
