use Rattle.std.proofs.Common.{◌≡◌, ◌++◌, List, [], drop, sym, ap, ◌∙◌, arith}
use Rattle.std.proofs.lemmas.List.{append-nil, drop_all}
use Rattle.access_paths.specs.declared.path.Path.{Path}
use Rattle.owner_domain.specs.declared.numbered.NumberedValue.{NumberedValue}
use Rattle.owner_domain.specs.declared.numbered.NumberedValue.TheVariants.{Unnamed}
use Rattle.owner_domain.specs.declared.value.Value.{Value}
use Rattle.call_subst.specs.Numbered.{read_values}
use Rattle.call_subst.proofs.ValuesRead.{rest_in, value_in, value_turn}
use Rattle.call_subst.proofs.numbering.values_of.Goals as goal

pub value_of-requires : goal.value_of-requires
value_of-requires c =
    let at = c.loop-value in
    value_in c.args.table.now c.args.values.now at.value-index _ c.loop-value-test.true at.invariant.range

pub loop-value-preserved : goal.loop-value-preserved
loop-value-preserved c =
    let table : List Path = c.args.table.now in
    let values : List NumberedValue = c.args.values.now in
    let at = c.loop-value in
    record {
      made =
          value_turn table values at.value-index _ c.loop-value-test.true at.made.items
          c.push.new.self.items (read_values table values) c.in_ok-value_of.field-0 c.in_ok-push.ensures.items
          c.in_ok-value_of.ensures at.invariant.made;
      range = rest_in table values at.value-index Unnamed c.loop-value-test.true at.invariant.range;
    }

pub returns : goal.returns
returns c =
    let table : List Path = c.args.table.now in
    let values : List NumberedValue = c.args.values.now in
    let at = c.loop-value in
    let made : List Value = at.made.items in
    let nothing : drop at.value-index values ≡ [] = drop_all at.value-index values (omega arith) in
    sym (append-nil made)
    ∙ ap (λ (left : List NumberedValue). made ++ read_values table left) (sym nothing)
    ∙ at.invariant.made
