use Rattle.std.proofs.Common.{◌≡◌, false, Option, None, Some, option_map, sym, ap, subst, ◌∙◌}
use Rattle.std.specs.Arc.{arc_value}
use Rattle.std.specs.Option.{option_copied}
use Rattle.core_code.specs.declared.program.Program.{Program}
use Rattle.core_code.specs.Program.{core}
use Rattle.transfer.specs.declared.finished.Finished.{Finished}
use Rattle.transfer.specs.Tables.{IsFinished}
use Rattle.transfer_ties.specs.Again.{is_as_before}
use Rattle.transfer_ties.specs.Partners.{AreTies}
use Rattle.edit_session.specs.Sessions.{of_same_form}
use Rattle.edit_session.specs.Work.{calls_differ, new_core}
use Rattle.edit_session.proofs.Keeping.{as_before, carried_as_before, carried_ties, due_differs, due_none, not_due_now}
use Rattle.edit_session.proofs.Keeping.{other_told}
use Rattle.edit_session.proofs.work.Work.kept.Goals as goal

pub returns-in_default-of_same_form : goal.returns-in_default-of_same_form
returns-in_default-of_same_form c =
    let work = c.args.self.now in
    let m = c.args.method in
    let before = c.in-Some.before in
    let none : of_same_form before (new_core work) m ≡ None =
    ap (λ (p : Program). of_same_form before (core p) m) (sym c.deref.ensures)
    ∙ sym c.of_same_form.ensures
    ∙ ap (λ o. option_map arc_value (option_copied o)) c.in_default-of_same_form.is in
    due_none work m c.requires before c.in-Some.is none

pub returns-then-calls_differ : goal.returns-then-calls_differ
returns-then-calls_differ c =
    due_differs c.args.self.now c.args.method c.requires c.in-Some.before c.in-Some.is
    (sym c.calls_differ.ensures ∙ c.if-calls_differ.true)

pub carried-requires-clause-ties : goal.carried-requires-clause-ties
carried-requires-clause-ties c =
    let work = c.args.self.now in
    let m = c.args.method in
    let before = c.in-Some.before in
    let old = arc_value c.in-Some-of_same_form.old.now in
    let found : of_same_form before (new_core work) m ≡ Some old =
    ap (λ (p : Program). of_same_form before (core p) m) (sym c.deref.ensures)
    ∙ sym c.of_same_form.ensures
    ∙ ap (λ o. option_map arc_value (option_copied o)) c.in-Some-of_same_form.is in
    let none : calls_differ work m ≡ false = sym c.calls_differ.ensures ∙ c.if-calls_differ.false in
    subst (λ (f : Finished). AreTies (core (arc_value f.program)) (new_core work) before.ties) (sym c.deref-2.ensures)
    (carried_ties work m c.requires before c.in-Some.is old found none)

pub carried-requires-clause-as_before : goal.carried-requires-clause-as_before
carried-requires-clause-as_before c =
    let work = c.args.self.now in
    let m = c.args.method in
    let before = c.in-Some.before in
    let old = arc_value c.in-Some-of_same_form.old.now in
    let found : of_same_form before (new_core work) m ≡ Some old =
    ap (λ (p : Program). of_same_form before (core p) m) (sym c.deref.ensures)
    ∙ sym c.of_same_form.ensures
    ∙ ap (λ o. option_map arc_value (option_copied o)) c.in-Some-of_same_form.is in
    let none : calls_differ work m ≡ false = sym c.calls_differ.ensures ∙ c.if-calls_differ.false in
    ap (λ (f : Finished). is_as_before (core (arc_value f.program)) (new_core work) f.method m) c.deref-2.ensures
    ∙ carried_as_before work m c.requires before c.in-Some.is old found none

pub returns : goal.returns
returns c =
    let work = c.args.self.now in
    let m = c.args.method in
    let before = c.in-Some.before in
    let old = arc_value c.in-Some-of_same_form.old.now in
    let found : of_same_form before (new_core work) m ≡ Some old =
    ap (λ (p : Program). of_same_form before (core p) m) (sym c.deref.ensures)
    ∙ sym c.of_same_form.ensures
    ∙ ap (λ o. option_map arc_value (option_copied o)) c.in-Some-of_same_form.is in
    let none : calls_differ work m ≡ false = sym c.calls_differ.ensures ∙ c.if-calls_differ.false in
    let kept = c.in_ok-kept.kept in
    let own : IsFinished (new_core work) m kept =
    record { method = c.in_ok-kept.ensures.method; program_is = ap core c.in_ok-kept.ensures.program } in
    let tied = c.what_is_as_before_has_its_outcome.ensures (arc_value before.program.now) (arc_value work.program.now)
    old.method m (as_before work m c.requires before c.in-Some.is old found none) in
    record {
      not_due = not_due_now work m c.requires before c.in-Some.is old found none;
      right = own;
      told = other_told work m c.requires before c.in-Some.is old found none kept own tied;
    }
