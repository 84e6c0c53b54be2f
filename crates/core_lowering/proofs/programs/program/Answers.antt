use Rattle.std.proofs.Common.{◌≡◌, ℕ, true, List, String, Global, map, subst, sym, string_bytes, ◌∙◌}
use Rattle.core_code.specs.Chains.{flag_of}
use Rattle.core_code.specs.Core.{Core}
use Rattle.core_code.specs.Facts.{are_numbers_in_range, are_entries_analysed, are_sites_in_order, are_stacks_enough}
use Rattle.core_code.specs.Facts.{are_parameters_few}
use Rattle.core_code.specs.CallFacts.{do_end_by_return, are_calls_right, has_ranks}
use Rattle.core_code.specs.KindCheck.{are_kinded}
use Rattle.core_code.specs.Names.{are_names_right, do_classes_differ, do_fields_differ, do_methods_differ}
use Rattle.core_lowering_rules.proofs.KindedPrograms.{program-kinded}
use Rattle.core_lowering_rules.proofs.NumbersInRange.{numbers-in_range}
use Rattle.core_lowering_rules.proofs.ProgramFacts.{stacks-enough, calls-right, sites-in_order, entries-analysed}
use Rattle.core_lowering_rules.proofs.ProgramFacts.{ends-by_return, parameters-few}
use Rattle.core_lowering_rules.proofs.ProgramRanks.{ranks-there}
use Rattle.core_lowering_rules.proofs.ProgramNames.{names-right, classes-differ, fields-differ, methods-differ}
use Rattle.core_lowering.proofs.programs.program.Goals as goal

abbrev names_of : List (String Global) → List (List ℕ)
names_of files = map (λ file. string_bytes file) files

pub of-requires-clause-numbers_in_range : goal.of-requires-clause-numbers_in_range
of-requires-clause-numbers_in_range c =
    let P : Core → Type 0 = λ core. are_numbers_in_range core ≡ true in
    subst P (sym c.in_ok-parts.ensures)
    (numbers-in_range c.args.declared.containers (names_of c.args.files.now) c.args.units.now
    (flag_of c.args.recursive.now) c.requires.placed)

pub of-requires-clause-sites_in_order : goal.of-requires-clause-sites_in_order
of-requires-clause-sites_in_order c =
    let P : Core → Type 0 = λ core. are_sites_in_order core ≡ true in
    subst P (sym c.in_ok-parts.ensures)
    (sites-in_order c.args.declared.containers (names_of c.args.files.now) c.args.units.now
    (flag_of c.args.recursive.now))

pub of-requires-clause-entries_analysed : goal.of-requires-clause-entries_analysed
of-requires-clause-entries_analysed c =
    let P : Core → Type 0 = λ core. are_entries_analysed core ≡ true in
    subst P (sym c.in_ok-parts.ensures)
    (entries-analysed c.args.declared.containers (names_of c.args.files.now) c.args.units.now
    (flag_of c.args.recursive.now))

pub of-requires-clause-stacks_enough : goal.of-requires-clause-stacks_enough
of-requires-clause-stacks_enough c =
    let P : Core → Type 0 = λ core. are_stacks_enough core ≡ true in
    subst P (sym c.in_ok-parts.ensures)
    (stacks-enough c.args.declared.containers (names_of c.args.files.now) c.args.units.now
    (flag_of c.args.recursive.now))

pub of-requires-clause-ends_by_return : goal.of-requires-clause-ends_by_return
of-requires-clause-ends_by_return c =
    let P : Core → Type 0 = λ core. do_end_by_return core ≡ true in
    subst P (sym c.in_ok-parts.ensures)
    (ends-by_return c.args.declared.containers (names_of c.args.files.now) c.args.units.now
    (flag_of c.args.recursive.now))

pub of-requires-clause-calls_right : goal.of-requires-clause-calls_right
of-requires-clause-calls_right c =
    let P : Core → Type 0 = λ core. are_calls_right core ≡ true in
    subst P (sym c.in_ok-parts.ensures)
    (calls-right c.args.declared.containers (names_of c.args.files.now) c.args.units.now (flag_of c.args.recursive.now))

pub of-requires-clause-kinded : goal.of-requires-clause-kinded
of-requires-clause-kinded c =
    let P : Core → Type 0 = λ core. are_kinded core ≡ true in
    subst P (sym c.in_ok-parts.ensures)
    (program-kinded c.args.declared.containers (names_of c.args.files.now) c.args.units.now
    (flag_of c.args.recursive.now))

pub of-requires-clause-names_right : goal.of-requires-clause-names_right
of-requires-clause-names_right c =
    let P : Core → Type 0 = λ core. are_names_right core ≡ true in
    subst P (sym c.in_ok-parts.ensures)
    (names-right c.args.declared.containers (names_of c.args.files.now) c.args.units.now
    (flag_of c.args.recursive.now) c.requires.named)

pub of-requires-clause-classes_differ : goal.of-requires-clause-classes_differ
of-requires-clause-classes_differ c =
    let P : Core → Type 0 = λ core. do_classes_differ core ≡ true in
    subst P (sym c.in_ok-parts.ensures)
    (classes-differ c.args.units.now c.requires.accepted c.args.declared.containers (names_of c.args.files.now)
    (flag_of c.args.recursive.now))

pub of-requires-clause-fields_differ : goal.of-requires-clause-fields_differ
of-requires-clause-fields_differ c =
    let P : Core → Type 0 = λ core. do_fields_differ core ≡ true in
    subst P (sym c.in_ok-parts.ensures)
    (fields-differ c.args.units.now c.requires.accepted c.args.declared.containers (names_of c.args.files.now)
    (flag_of c.args.recursive.now) c.requires.named)

pub of-requires-clause-methods_differ : goal.of-requires-clause-methods_differ
of-requires-clause-methods_differ c =
    let P : Core → Type 0 = λ core. do_methods_differ core ≡ true in
    subst P (sym c.in_ok-parts.ensures)
    (methods-differ c.args.declared.containers (names_of c.args.files.now) c.args.units.now
    (flag_of c.args.recursive.now))

pub of-requires-clause-parameters_few : goal.of-requires-clause-parameters_few
of-requires-clause-parameters_few c =
    let P : Core → Type 0 = λ core. are_parameters_few core ≡ true in
    subst P (sym c.in_ok-parts.ensures)
    (parameters-few c.args.declared.containers (names_of c.args.files.now) c.args.units.now
    (flag_of c.args.recursive.now))

pub of-requires-clause-ranks_there : goal.of-requires-clause-ranks_there
of-requires-clause-ranks_there c =
    let P : Core → Type 0 = λ core. has_ranks core ≡ true in
    subst P (sym c.in_ok-parts.ensures)
    (ranks-there c.args.declared.containers (names_of c.args.files.now) c.args.units.now
    c.args.recursive.now c.requires.recursive)

pub returns : goal.returns
returns c = c.of.ensures ∙ c.in_ok-parts.ensures
