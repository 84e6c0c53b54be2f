use Rattle.std.proofs.Common.{ap, sym, ◌∙◌, take, inr, Some, refl, false}
use Rattle.std.specs.Prelude.{bytes_eq, option_map, Option, List, ℕ, Bool, ◌==◌, ◌&&◌}
use Rattle.java_resolver.specs.declared.infos.FieldInfo.{FieldInfo}
use Rattle.java_resolver.specs.declared.fault.ResolveFault.{ResolveFault}
use Rattle.java_resolver.specs.declared.fault.ResolveFault.TheVariants as fault
use Rattle.java_resolver.specs.Firsts.{first_that}
use Rattle.java_resolver.specs.Refusals.{Repeat, same_field}
use Rattle.java_resolver.specs.Indexes.{field_at}
use Rattle.java_resolver.proofs.FirstOnes.{first_so_far, finds_next, element_added}
use Rattle.java_resolver.proofs.Repeats.{repeat_found, repeat_passed}
use Rattle.java_resolver.proofs.fields.field_numbers.Goals as goal

-- whether a field of the same class has this name
abbrev pub named_alike : FieldInfo → List ℕ → FieldInfo → Bool
named_alike field name f = f.class.0 == field.class.0 && bytes_eq f.name name

pub bounds-fields-first : goal.bounds-fields-first
bounds-fields-first c =
    let name = c.as_str-name.result.now in
    let field : FieldInfo = c.index-fields-index.result in
    first_so_far (field_at false name (0, field.class.0)) c.args.fields.now c.loop-index.index c.in-Some.first
    c.loop-index-test.true
    (c.in-Some.ensures ∙ c.loop-index.invariant.finds name (0, field.class.0))

pub bounds-fields-first-in-Some : goal.bounds-fields-first-in-Some
bounds-fields-first-in-Some c = bounds-fields-first c

pub returns-in-Some-clause-err : goal.returns-in-Some-clause-err
returns-in-Some-clause-err c =
    let fields = c.args.fields.now in
    let index = c.loop-index.index in
    let field : FieldInfo = c.index-fields-index.result in
    let name = c.as_str-name.result.now in
    let shown : Option (Repeat FieldInfo) → Option ResolveFault =
    option_map (λ r. fault.DuplicateField r.second.place r.first.place) in
    inr (ap shown
    (sym c.loop-index.invariant.goes_on
    ∙ repeat_found same_field fields index c.in-Some.first field c.index-fields-first.result
    c.loop-index-test.true c.index-fields-index.is c.index-fields-first.is
    (c.in-Some.ensures ∙ c.loop-index.invariant.finds name (0, field.class.0)
    ∙ ap (λ text. first_that (named_alike field text) (take index fields)) c.as_str-name.ensures))
    ∙ ap (λ (first : FieldInfo). Some (fault.DuplicateField field.place first.place)) c.index-fields-first.is)

pub loop-index-preserved : goal.loop-index-preserved
loop-index-preserved c =
    let fields = c.args.fields.now in
    let index = c.loop-index.index in
    let field : FieldInfo = c.index-fields-index.result in
    let name = c.as_str-name.result.now in
    record {
      finds =
          finds_next (field_at false) c.loop-index.numbers c.add_number.new.numbers fields index field
          c.loop-index-test.true c.index-fields-index.is c.loop-index.invariant.finds
          (element_added (field_at false) c.loop-index.numbers c.add_number.new.numbers field index name field.name
          (0, field.class.0) c.as_str-name.ensures (λ other k. refl) c.in_ok-add_number.ensures);
      goes_on =
          sym (repeat_passed same_field fields index field c.loop-index-test.true c.index-fields-index.is
          (c.in_default.ensures ∙ c.loop-index.invariant.finds name (0, field.class.0)
          ∙ ap (λ text. first_that (named_alike field text) (take index fields)) c.as_str-name.ensures))
          ∙ c.loop-index.invariant.goes_on;
    }
