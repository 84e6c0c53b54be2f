use Rattle.std.proofs.Common.{◌≡◌, ◌+◌, ℕ, List, ◌++◌, take, drop, length, rules, arith, slice_index_or, sym, ap, ◌∙◌}
use Rattle.std.proofs.lemmas.List.{take_at}
use Rattle.java_resolver.specs.declared.infos.MethodInfo.{MethodInfo}
use Rattle.java_resolver.specs.Table.{methods}
use Rattle.core_lowering_surveys.specs.Counts.{first_of, one_at, tally}
use Rattle.core_lowering_surveys.proofs.SameCounts.{first-below}
use Rattle.core_lowering_surveys.proofs.Tallies.{tally-next}
use Rattle.core_lowering_surveys.proofs.counts.count_methods.Goals as goal

pub count_first-requires : goal.count_first-requires
count_first-requires c = λ m is.
    let below = first-below (methods c.args.table.now) c.info-item.result m (sym c.in_ok-first.ensures ∙ is) in
    let all = ap (length {A = MethodInfo}) c.requires in
    let counts = ap (length {A = ℕ}) c.as_mut_slice.ensures.value in
    let many = c.loop-info.invariant.many in
    omega (arith, below, all, counts, many)

pub loop-info-preserved : goal.loop-info-preserved
loop-info-preserved c =
    let infos = c.args.infos.now in
    let i = c.loop-info.info-index in
    let old = c.loop-info.counts.items in
    let new = c.count_first.new.counts in
    let here = c.in_ok-first.ensures ∙ ap (λ (ms : List MethodInfo). first_of ms c.info-item.result) (sym c.requires) in
    let kept : take c.loop-info.counts.len (new ++ drop (length new) old) ≡ new =
    take_at new (drop (length new) old) c.loop-info.counts.len (search rules) in
    let value : c.as_mut_slice.result.now ≡ old = c.as_mut_slice.ensures.value in
    record {
      counts = λ n.
          let next = tally-next infos infos i c.info-item.result c.in_ok-first.first c.loop-info-test.true
          c.info-item.is
          here n in
          let more : slice_index_or new n 0 ≡ one_at c.in_ok-first.first n + slice_index_or old n 0 =
          c.in_ok-count_first.ensures n
          ∙ ap (λ (l : List ℕ). one_at c.in_ok-first.first n + slice_index_or l n 0) value in
          let so_far = c.loop-info.invariant.counts n in
          ap (λ (l : List ℕ). slice_index_or l n 0 + tally infos n (drop (i + 1) infos)) kept
          ∙ omega (arith, next, more, so_far);
      many = ap (length {A = ℕ}) kept ∙ search rules;
    }
