use Rattle.std.proofs.Common.{◌≡◌, ◌+◌, ◌-◌, ◌<◌, List, [], ◌∷◌, ◌++◌, length, replicate, sym, ap, subst, ◌∙◌, arith}
use Rattle.std.proofs.lemmas.List.{length-map, map-append}
use Rattle.owner_domain.specs.declared.value.Value.{Value}
use Rattle.owner_domain.specs.declared.value.Value.TheVariants.{Owned}
use Rattle.owner_domain.specs.declared.numbered.NumberedValue.{NumberedValue}
use Rattle.owner_domain.specs.declared.numbered.NumberedValue.TheVariants as number
use Rattle.owner_domain.specs.Numbered.{read_value, AllInRange}
use Rattle.call_subst.specs.Numbered.{read_values}
use Rattle.core_code.specs.Core.{method_of}
use Rattle.access_domain.specs.Summaries.{passed_values}
use Rattle.transfer_steps.proofs.SlotsRead.{append-in}
use Rattle.owner_domain.proofs.Stacks.{replicate-turn}
use Rattle.transfer.proofs.method_outcomes.start.Goals as goal

pub loop-local-init : goal.loop-local-init
loop-local-init c =
    let table = c.passed.new.table in
    let n = length c.args.method.now.variables in
    let items : List NumberedValue = c.in-Ok.values.items in
    let m = c.in-Ok.ensures in
    let count : c.len-local.result ≡ length items = omega (arith, c.len-local.ensures, c.in-Ok.values.ok.0) in
    let long : c.len-local.result ≡ length (passed_values (method_of c.args.method.now)) =
    count ∙ sym (length-map items (read_value table)) ∙ ap length m.values in
    record {
      values = (λ i. m.values i ++ replicate (n - long i) Owned);
      range = m.range;
    }

pub loop-local-preserved : goal.loop-local-preserved
loop-local-preserved c =
    let table = c.passed.new.table in
    let n = length c.args.method.now.variables in
    let i = c.loop-local._local in
    let items : List NumberedValue = c.loop-local.values.items in
    let within : i < n = omega (arith, c.loop-local-test.true, c.len-local-end.ensures) in
    let put = c.in-Ok-push.ensures.items in
    record {
      values =
          ap (λ (vs : List NumberedValue). read_values table vs ++ replicate (n - (i + 1)) Owned) put
          ∙ ap (λ (vs : List Value). vs ++ replicate (n - (i + 1)) Owned)
          (map-append (read_value table) items (number.Owned ∷ []))
          ∙ replicate-turn (read_values table items) n i Owned within
          ∙ c.loop-local.invariant.values;
      range =
          subst (AllInRange table) (sym put)
          (append-in table items (number.Owned ∷ []) c.loop-local.invariant.range (tt, tt));
    }
