use Rattle.std.proofs.Common.{◌≡◌, List, [], ◌∷◌, ◌++◌, Option, map, refl, ap, subst, sym, ◌∙◌}
use Rattle.std.specs.List.{All}
use Rattle.std.proofs.lemmas.List.{map-append}
use Rattle.std.proofs.lemmas.List.Elements.{All-nil, All-cons, All-append}
use Rattle.racer_base.specs.declared.ids.MethodId.{MethodId}
use Rattle.racer_base.proofs.Lists.{ended, turn}
use Rattle.core_code.specs.declared.code.Reason.{Reason}
use Rattle.core_lowering_context.specs.Views.{folder_of}
use Rattle.core_lowering_context.specs.declared.sources.Source.{Source}
use Rattle.core_lowering_context.specs.Sources.{source_of}
use Rattle.core_lowering_surveys.specs.declared.surveys.Surveyed.{Surveyed}
use Rattle.core_lowering_surveys.specs.Surveys.{row_in}
use Rattle.core_lowering_surveys.specs.Reasons.{declared_by, own_reason}
use Rattle.core_lowering_surveys.specs.Surveys.{seen, IsRight}
use Rattle.core_lowering_surveys.proofs.surveys.survey_all.Goals as goal

pub loop-source-preserved : goal.loop-source-preserved
loop-source-preserved c =
    let row = row_in (folder_of c.args.table.now c.args.cells.now []) in
    let reason = own_reason (declared_by c.args.table.now c.args.cells.now) in
    let all = c.args.sources.now in
    let i = c.loop-source.source-index in
    let x : Source = c.source-item.result in
    let rows = c.loop-source.rows.items in
    let reasons = c.loop-source.reasons.items in
    let methods = c.loop-source.methods.items in
    let one : Surveyed = record { source = x; extent = c.in_ok-found.found.extent } in
    let pushed : c.push.new.self.items ≡ methods ++ one ∷ [] = c.in_ok-push.ensures.items in
    record {
      rows =
          turn (λ (ss : List Source). map row (map source_of ss)) (λ (s : Source). row (source_of s) ∷ []) all i x rows
          _ _ (λ s ss. refl) c.loop-source-test.true c.source-item.is
          (c.in_ok-push-2.ensures.items ∙ ap (λ (r : List MethodId). rows ++ r ∷ []) c.in_ok-found.ensures.row)
          c.loop-source.invariant.rows;
      reasons =
          turn (λ (ss : List Source). map reason (map source_of ss)) (λ (s : Source). reason (source_of s) ∷ []) all i
          x reasons _ _ (λ s ss. refl) c.loop-source-test.true c.source-item.is
          (c.in_ok-push-3.ensures.items
          ∙ ap (λ (r : Option Reason). reasons ++ r ∷ []) c.in_ok-found.ensures.reason)
          c.loop-source.invariant.reasons;
      methods =
          turn (map source_of) (λ (s : Source). source_of s ∷ []) all i x (map seen methods) _ _ (λ s ss. refl)
          c.loop-source-test.true c.source-item.is
          (ap (λ (ms : List Surveyed). map seen ms) pushed ∙ map-append seen methods (one ∷ []))
          c.loop-source.invariant.methods;
      extents =
          subst (All (IsRight c.args.table.now c.args.cells.now)) (sym pushed)
          (All-append (IsRight c.args.table.now c.args.cells.now) methods (one ∷ []) c.loop-source.invariant.extents
          (All-cons (IsRight c.args.table.now c.args.cells.now) one [] c.in_ok-found.ensures.extent
          (All-nil (IsRight c.args.table.now c.args.cells.now))));
    }

pub returns-clause-rows : goal.returns-clause-rows
returns-clause-rows c =
    let row = row_in (folder_of c.args.table.now c.args.cells.now []) in
    ended (λ (ss : List Source). map row (map source_of ss)) c.args.sources.now c.loop-source.source-index
    c.loop-source.rows.items _ refl c.loop-source-test.false c.loop-source.invariant.rows

pub returns-clause-reasons : goal.returns-clause-reasons
returns-clause-reasons c =
    let reason = own_reason (declared_by c.args.table.now c.args.cells.now) in
    ended (λ (ss : List Source). map reason (map source_of ss)) c.args.sources.now c.loop-source.source-index
    c.loop-source.reasons.items _ refl c.loop-source-test.false c.loop-source.invariant.reasons

pub returns-clause-methods : goal.returns-clause-methods
returns-clause-methods c =
    ended (map source_of) c.args.sources.now c.loop-source.source-index (map seen c.loop-source.methods.items) _ refl
    c.loop-source-test.false c.loop-source.invariant.methods
