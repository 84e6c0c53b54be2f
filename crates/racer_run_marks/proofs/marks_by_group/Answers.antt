use Rattle.std.proofs.Common.{◌∙◌, ◌<◌, ap, max, arith}
use Rattle.core_code.specs.Program.{core}
use Rattle.rayon.specs.Lists.{chunks_of}
use Rattle.racer_run_marks.proofs.GroupMarks.{collected}
use Rattle.racer_run_marks.proofs.Movable.{shared}
use Rattle.racer_run_marks.proofs.marks_by_group.Goals as goal

pub map-requires-send-F : goal.map-requires-send-F
map-requires-send-F g c κs within = search shared depth 40 fits 20000

pub map-requires-sync-F : goal.map-requires-sync-F
map-requires-sync-F g c κs within = search shared depth 40 fits 20000

pub collect-requires-send-Self : goal.collect-requires-send-Self
collect-requires-send-Self g c κs within = search shared depth 40 fits 20000

pub returns : goal.returns
returns g c =
    let h = c.in_ok-collect.ensures in
    let chain = rw c.map.ensures.f at h.1 in
    let chunks = ap (λ it. it.base) c.map.ensures.base ∙ c.with_min_len.ensures.base in
    let slice = ap (λ it. it.slice.now) chunks ∙ c.par_chunks.ensures.slice in
    let size = ap (λ it. it.size) chunks ∙ c.par_chunks.ensures.size in
    let cut = chain.1 ∙ (λ i. chunks_of (max (size i) 1) (slice i)) in
    let some : 0 < max c.group_len.result 1 = omega arith in
    collected (core c.args.program.now) c.args.found.now (max c.group_len.result 1) chain.0 h.0
    c.in_ok-collect.field-0 some cut chain.2 h.2
