use Rattle.std.proofs.Common.{◌∙◌, ◌-◌, ap, Some, length, take, min}
use Rattle.racer_memory.proofs.SinkLemmas.{appended, is_share, fits, left_after, room_after}
use Rattle.racer_memory.proofs.memory_sink.MemorySinkSink.write.Goals as goal

pub slice_bounds-extend_from_slice-end : goal.slice_bounds-extend_from_slice-end
slice_bounds-extend_from_slice-end c = is_share _ _ _ c.min-share.ensures

pub unwrap-requires : goal.unwrap-requires
unwrap-requires c =
    let sink = c.args.self.now in
    let least = c.min.ensures ∙ ap (λ len. min sink.most (sink.capacity - len)) (c.len.ensures ∙ sink.taken.ok.0) in
    c.extend_from_slice.ensures.succeeds
    (fits c.args.piece.now _ _ _ _ _ _ _ c.min-share.ensures least sink.taken.ok.0 sink.within sink.reserved)

pub returns-clause-taken : goal.returns-clause-taken
returns-clause-taken c =
    let piece = take c.min-share.result c.args.piece.now in
    ap Some (appended _ _ c.args.self.now.taken.items _ piece c.extend_from_slice.ensures.items c.unwrap.ensures)

pub returns-clause-room : goal.returns-clause-room
returns-clause-room c =
    let sink = c.args.self.now in
    let least = c.min.ensures ∙ ap (λ len. min sink.most (sink.capacity - len)) (c.len.ensures ∙ sink.taken.ok.0) in
    let piece = take c.min-share.result c.args.piece.now in
    let put = appended _ _ sink.taken.items _ piece c.extend_from_slice.ensures.items c.unwrap.ensures in
    room_after _ _ _ _ _ c.fails.ensures.quiet
    (left_after _ _ c.args.piece.now _ _ _ _ put c.min-share.ensures least sink.within)

pub returns-clause-share : goal.returns-clause-share
returns-clause-share c =
    let sink = c.args.self.now in
    let least = c.min.ensures ∙ ap (λ len. min sink.most (sink.capacity - len)) (c.len.ensures ∙ sink.taken.ok.0) in
    c.min-share.ensures ∙ ap (min (length c.args.piece.now)) least
