use Rattle.std.proofs.Common.{◌≡◌, ℕ, List, ◌++◌, length, map, sym, ap, ◌∙◌, subst}
use Rattle.std.proofs.lemmas.List.{length-map}
use Rattle.racer_base.specs.declared.ids.MethodId.{MethodId}
use Rattle.core_code.specs.Falling.{DoFall}
use Rattle.core_code.specs.Core.{Method}
use Rattle.core_code.specs.Program.{core}
use Rattle.core_code.specs.Calls.{calls_in}
use Rattle.core_code.specs.CalleeRows.{different, rows_of}
use Rattle.core_code.specs.Gathered.{callee_rows}
use Rattle.core_code.proofs.Gathering.{rows_are}
use Rattle.core_code.proofs.row_making.call_rows.Goals as goal

pub ranks_of-requires : goal.ranks_of-requires
ranks_of-requires c =
    c.as_slice.ensures.value
    ∙ c.in_ok-push_rows.ensures
    ∙ ap (λ (rows : List (List MethodId)). rows ++ map different (callee_rows c.methods.result.now))
    c.new-rows.ensures.items
    ∙ rows_are c.methods.result.now
    ∙ ap (λ (ms : List Method). map (λ (m : Method). different (calls_in m.code)) ms) c.methods.ensures

pub returns : goal.returns
returns c =
    let made : c.push_rows.new.rows.items ≡ rows_of (core c.args.program.now) =
    c.in_ok-push_rows.ensures
    ∙ ap (λ (rows : List (List MethodId)). rows ++ map different (callee_rows c.methods.result.now))
    c.new-rows.ensures.items
    ∙ rows_are c.methods.result.now
    ∙ ap (λ (ms : List Method). map (λ (m : Method). different (calls_in m.code)) ms) c.methods.ensures in
    record {
      rows_are = c.from.ensures ∙ made;
      as_many =
          ap (λ (ranks : List ℕ). length ranks) c.from-2.ensures
          ∙ c.in_ok-ranks.ensures.length
          ∙ ap (λ (rows : List (List MethodId)). length rows) (c.as_slice.ensures.value ∙ made)
          ∙ length-map (core c.args.program.now).methods (λ (m : Method). different (calls_in m.code));
      ranks_fall =
          subst (λ (ranks : List ℕ). DoFall (rows_of (core c.args.program.now)) ranks) (sym c.from-2.ensures)
          (subst (λ (rows : List (List MethodId)). DoFall rows c.in_ok-ranks.ranks.items)
          (c.as_slice.ensures.value ∙ made)
          c.in_ok-ranks.ensures.fall);
    }
