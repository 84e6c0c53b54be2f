-- Which methods are kept, told of work: by their calls, which are finished.
use Rattle.std.proofs.Common.{◌≡◌, Bool, true, false, not, List, Option, None, Some, refl, sym, ap, subst}
use Rattle.std.proofs.Common.{◌∙◌, arith}
use Rattle.std.specs.Arc.{arc_value}
use Rattle.std.specs.List.{Contains, list_any}
use Rattle.std.specs.Option.{IfSome}
use Rattle.racer_base.specs.declared.ids.MethodId.{MethodId}
use Rattle.racer_base.proofs.Lists.{given_some}
use Rattle.core_code.specs.declared.program.Program.{Program}
use Rattle.core_code.specs.Calls.{calls_in, calls_of, is_analysed, method_at}
use Rattle.core_code.specs.CalleeRows.{rows_of}
use Rattle.core_code.specs.Chains.{row_of}
use Rattle.core_code.specs.Core.{Core}
use Rattle.core_code.specs.Program.{core}
use Rattle.core_code.proofs.Members.{passes, passing}
use Rattle.core_code.proofs.RowCallees.{in_row_called, is_method, method_there, nat_eq-same, row_at}
use Rattle.std.proofs.lemmas.Bool.{eq-eqb}
use Rattle.transfer.specs.declared.finished.Finished.{Finished}
use Rattle.transfer.specs.Tables.{IsFinished, finished_at}
use Rattle.transfer_ties.specs.Again.{is_as_before}
use Rattle.transfer_ties.specs.Outcomes.{ties_outcomes}
use Rattle.transfer_ties.specs.Partners.{AreTies, are_partners}
use Rattle.edit_session.specs.declared.before.Before.{Before}
use Rattle.edit_session.specs.declared.work.Work.{Work}
use Rattle.edit_session.specs.Sessions.{IsBefore, TellsDifference, of_same_form, old_core}
use Rattle.edit_session.specs.Work.{IsNext, IsOther, calls_differ, differs_at, is_due, new_core, row_in}
use Rattle.edit_session.proofs.Among.{any_different}
use Rattle.edit_session.proofs.AsBefore.{call_told, due_by_calls, due_without, kept_as_before, kept_told, not_due, old_finished}
use Rattle.edit_session.proofs.Calling.{calls_are}

-- the row of a method whose work is next
pub row_is : (work : Work) (m : MethodId) → IsNext work m → row_in work m ≡ row_of (rows_of (new_core work)) m
row_is work m next = ap (λ rows. row_of rows m) next.right.rows_are.rows_are

pub differ_is : (work : Work) (m : MethodId) → IsNext work m →
    calls_differ work m ≡ list_any (differs_at work) (calls_of (new_core work) m)
differ_is work m next =
    let q = new_core work in
    let by = method_there (method_at q m) next.analysed in
    ap (list_any (differs_at work)) (row_is work m next ∙ row_at q.methods m.0 by.0 by.1)
    ∙ any_different (differs_at work) (calls_in by.0.code)
    ∙ sym (ap (list_any (differs_at work)) (calls_are q m by.0 by.1))

-- what is called stands in the row
pub in_row_of : (core : Core) (m n : MethodId) → is_analysed core m ≡ true → Contains (calls_of core m) n →
    Contains (row_of (rows_of core) m) n
in_row_of core m n analysed call =
    let any : list_any (is_method n) (calls_of core m) ≡ true =
    passes (is_method n) (calls_of core m) n call (eq-eqb n.0 n.0 refl) in
    let found = passing (is_method n) (row_of (rows_of core) m) (in_row_called core m n analysed ∙ any) in
    subst (Contains (row_of (rows_of core) m)) (nat_eq-same found.0 n found.2) found.1

-- ---- what is as it was

module _ (work : Work) (m : MethodId) (next : IsNext work m) (before : Before) (is : work.before ≡ Some before) where
  abbrev new : Program
  new = arc_value work.program.now

  abbrev q : Core
  q = new_core work

  pub before_right : IsBefore (new_core work) before
  before_right = subst (λ (o : Option Before). IfSome o (IsBefore (new_core work))) is next.right.before_is

  told : (d : MethodId) → Contains (calls_of q m) d → (c : MethodId) → are_partners (old_core before) q c d ≡ true →
      ties_outcomes (old_core before) q c d ≡ not (differs_at work d)
  told d call c h =
      let there : Contains (row_in work m) d =
      subst (λ (ms : List MethodId). Contains ms d) (sym (row_is work m next)) (in_row_of q m d next.analysed call) in
      let made = given_some (finished_at work.finished.items d) (next.callees d there) in
      let finished : IsFinished q d made.0 =
      subst (λ (o : Option Finished). IfSome o (λ f. IsFinished q d f)) made.1 (next.right.table d) in
      let other : IsOther q work.before made.0 (differs_at work d) =
      subst (λ (o : Option Finished). IfSome o (λ f. IsOther q work.before f (differs_at work d))) made.1
      (next.right.told d) in
      call_told before new before_right c d made.0 (differs_at work d) finished
      (subst (λ (o : Option Before). IsOther q o made.0 (differs_at work d)) is other) h

  is_due_is : (b : Bool) → is_due (Some before) q m ≡ b → is_due work.before q m ≡ b
  is_due_is b e = ap (λ (o : Option Before). is_due o q m) is ∙ e

  pub due_none : of_same_form before (new_core work) m ≡ None → is_due work.before (new_core work) m ≡ true
  due_none none = is_due_is true (due_without before new before_right m next.analysed (differs_at work) told none)

  pub due_differs : calls_differ work m ≡ true → is_due work.before (new_core work) m ≡ true
  due_differs some =
      is_due_is true (due_by_calls before new before_right m next.analysed (differs_at work) told
      (sym (differ_is work m next) ∙ some))

  module _ (old : Finished) (found : of_same_form before (new_core work) m ≡ Some old)
      (none : calls_differ work m ≡ false) where
    pub as_before : is_as_before (old_core before) (new_core work) old.method m ≡ true
    as_before =
        kept_as_before before new before_right m next.analysed (differs_at work) told old found
        (sym (differ_is work m next) ∙ none)

    finished : IsFinished (old_core before) old.method old
    finished = old_finished before new before_right m old found

    pub carried_ties : AreTies (core (arc_value old.program)) (new_core work) before.ties
    carried_ties =
        subst (λ (c : Core). AreTies c (new_core work) before.ties) (sym finished.program_is) before_right.ties

    pub carried_as_before : is_as_before (core (arc_value old.program)) (new_core work) old.method m ≡ true
    carried_as_before = ap (λ (c : Core). is_as_before c (new_core work) old.method m) finished.program_is ∙ as_before

    pub not_due_now : is_due work.before (new_core work) m ≡ false
    not_due_now = is_due_is false (not_due before new before_right m next.analysed (differs_at work) told old.method as_before)

    pub other_told : (kept : Finished) → IsFinished (new_core work) m kept →
        ties_outcomes (old_core before) (new_core work) old.method m ≡ true →
        IsOther (new_core work) work.before kept false
    other_told kept own tied =
        subst (λ (o : Option Before). IsOther q o kept false) (sym is)
        (subst (λ (n : MethodId). TellsDifference q before n (arc_value kept.outcome) false) (sym own.method)
        (kept_told before new before_right m next.analysed (differs_at work) told old kept found own tied))
