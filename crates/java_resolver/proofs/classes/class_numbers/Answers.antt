use Rattle.std.proofs.Common.{ap, sym, ◌∙◌, take, inr, Some, refl}
use Rattle.std.specs.Prelude.{bytes_eq, option_map, Option}
use Rattle.java_resolver.specs.declared.infos.ClassInfo.{ClassInfo}
use Rattle.java_resolver.specs.declared.fault.ResolveFault.{ResolveFault}
use Rattle.java_resolver.specs.declared.fault.ResolveFault.TheVariants as fault
use Rattle.java_resolver.specs.Firsts.{first_that}
use Rattle.java_resolver.specs.Refusals.{Repeat, same_class}
use Rattle.java_resolver.specs.Indexes.{class_at}
use Rattle.java_resolver.proofs.FirstOnes.{first_so_far, finds_next, element_added}
use Rattle.java_resolver.proofs.Repeats.{repeat_found, repeat_passed}
use Rattle.java_resolver.proofs.classes.class_numbers.Goals as goal

pub bounds-classes-first : goal.bounds-classes-first
bounds-classes-first c =
    let name = c.as_str-name.result.now in
    first_so_far (class_at name (0, 0)) c.args.classes.now c.loop-index.index c.in-Some.first c.loop-index-test.true
    (c.in-Some.ensures ∙ c.loop-index.invariant.finds name (0, 0))

pub bounds-classes-first-in-Some : goal.bounds-classes-first-in-Some
bounds-classes-first-in-Some c = bounds-classes-first c

pub returns-in-Some-clause-err : goal.returns-in-Some-clause-err
returns-in-Some-clause-err c =
    let classes = c.args.classes.now in
    let index = c.loop-index.index in
    let class : ClassInfo = c.index-classes-index.result in
    let name = c.as_str-name.result.now in
    let shown : Option (Repeat ClassInfo) → Option ResolveFault =
    option_map (λ r. fault.DuplicateClass r.second.place r.first.place) in
    inr (ap shown
    (sym c.loop-index.invariant.goes_on
    ∙ repeat_found same_class classes index c.in-Some.first class c.index-classes-first.result
    c.loop-index-test.true c.index-classes-index.is c.index-classes-first.is
    (c.in-Some.ensures ∙ c.loop-index.invariant.finds name (0, 0)
    ∙ ap (λ text. first_that (λ (y : ClassInfo). bytes_eq y.name text) (take index classes)) c.as_str-name.ensures))
    ∙ ap (λ (first : ClassInfo). Some (fault.DuplicateClass class.place first.place)) c.index-classes-first.is)

pub loop-index-preserved : goal.loop-index-preserved
loop-index-preserved c =
    let classes = c.args.classes.now in
    let index = c.loop-index.index in
    let class : ClassInfo = c.index-classes-index.result in
    let name = c.as_str-name.result.now in
    record {
      finds =
          finds_next class_at c.loop-index.numbers c.add_number.new.numbers classes index class c.loop-index-test.true
          c.index-classes-index.is c.loop-index.invariant.finds
          (element_added class_at c.loop-index.numbers c.add_number.new.numbers class index name
          class.name (0, 0) c.as_str-name.ensures (λ other k. refl) c.in_ok-add_number.ensures);
      goes_on =
          sym (repeat_passed same_class classes index class c.loop-index-test.true c.index-classes-index.is
          (c.in_default.ensures ∙ c.loop-index.invariant.finds name (0, 0)
          ∙ ap (λ text. first_that (λ (y : ClassInfo). bytes_eq y.name text) (take index classes))
          c.as_str-name.ensures))
          ∙ c.loop-index.invariant.goes_on;
    }
