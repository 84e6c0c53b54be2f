use Rattle.core_semantics.specs.CellOrder.{heap_of}
use Rattle.core_semantics.specs.View.{frame_of}
use Rattle.core_semantics.proofs.InnerSteps.{put_answer}
use Rattle.core_semantics.proofs.inner.put.Goals as goal

pub returns : goal.returns
returns c =
    put_answer c.args.store.now c.put.new.self c.args.frame.now c.pull.new.self c.args.f c.in-Ok.object.now
    c.in-Ok-slot.value c.in-Ok.ensures c.in-Ok-slot.ensures c.in-Ok-put.ensures.ok
    (c.pull.ensures c.in-Ok.object.now c.in-Ok.ensures)

pub returns-in_default-put : goal.returns-in_default-put
returns-in_default-put c =
    λ i. record {
      store =
          record {
            heap = heap_of c.args.store.now.heap;
            cells = c.in_default-put.ensures.err i;
            fresh = c.args.store.now.fresh;
          };
      frame = frame_of c.args.frame.now;
    }
