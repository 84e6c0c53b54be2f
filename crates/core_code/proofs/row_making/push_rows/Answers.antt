use Rattle.std.proofs.Common.{◌≡◌, ℕ, List, [], ◌∷◌, ◌++◌, length, map, false, refl, sym, ap, ◌∙◌, subst, ◌+◌}
use Rattle.racer_base.specs.declared.ids.MethodId.{MethodId}
use Rattle.racer_base.proofs.Lists.{at_end, one_turn}
use Rattle.core_code.specs.declared.parts.MethodCore.{MethodCore}
use Rattle.core_code.specs.Tree.{tree_of}
use Rattle.core_code.specs.CalleeRows.{different}
use Rattle.core_code.specs.Stamps.{AreBelow}
use Rattle.core_code.specs.Gathered.{callees_of, callee_rows}
use Rattle.core_code.proofs.FirstStamps.{none_yet, written}
use Rattle.core_code.proofs.row_making.push_rows.Goals as goal

pub loop-number-init : goal.loop-number-init
loop-number-init c =
    record {
      rows = refl;
      stamps =
          none_yet c.in_ok-stamps.stamps.items (length c.args.methods.now)
          (c.in_ok-stamps.ensures.items_if_clones_equal (λ (n : ℕ) (e : n ≡ 0). e));
    }

pub loop-number-preserved : goal.loop-number-preserved
loop-number-preserved c =
    let rows = c.loop-number.rows.items in
    let row = λ (m : MethodCore). different (callees_of false (tree_of m.code)) in
    record {
      rows =
          one_turn (λ (methods : List MethodCore). map different (callee_rows methods))
          (λ (m : MethodCore). row m ∷ []) c.args.methods.now
          c.loop-number.number c.index-methods-number.result rows c.push.new.self.items (λ m ms. refl)
          c.loop-number-test.true c.index-methods-number.is
          (c.in_ok-push.ensures.items
          ∙ ap (λ (made : List MethodId). rows ++ made ∷ [])
          (c.in_ok-row.ensures.row ∙ ap different (c.as_slice.ensures.value ∙ c.in_ok-callees.ensures)
          ∙ ap row (sym c.index-methods-number.is)))
          ∙ c.loop-number.invariant.rows;
      stamps =
          written c.loop-number.stamps.items c.different.new.stamps c.loop-number.stamps.len
          (c.loop-number.number + 1 + 1)
          (c.different.auto.stamps ∙ c.as_mut_slice.ensures.len) c.in_ok-row.ensures.stamps;
    }

pub different-requires : goal.different-requires
different-requires c =
    subst (λ (stamps : List ℕ). AreBelow stamps (c.loop-number.number + 1)) (sym c.as_mut_slice.ensures.value)
    c.loop-number.invariant.stamps

pub returns : goal.returns
returns c =
    at_end (λ (methods : List MethodCore). map different (callee_rows methods)) c.args.methods.now
    c.loop-number.number c.loop-number.rows.items refl c.loop-number-test.false
    ∙ c.loop-number.invariant.rows
