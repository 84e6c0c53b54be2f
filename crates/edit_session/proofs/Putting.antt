-- A finished method goes to its number.
use Rattle.std.proofs.Common.{◌≡◌, ℕ, zero, suc, ◌<◌, inl, inr, Bool, true, List, [], ◌∷◌, Option, None, Some, is_some}
use Rattle.std.proofs.Common.{length, option_map, replicate, slice_get, slice_index_or, slice_set, refl, sym, ap, subst, ◌∙◌, arith}
use Rattle.std.proofs.lemmas.Bool.{cases_eq}
use Rattle.std.proofs.lemmas.List.{get_or-set_other, get_or-set_same, length-replicate, length-set}
use Rattle.std.specs.Arc.{arc_value}
use Rattle.std.specs.Option.{IfSome, option_and_then}
use Rattle.racer_base.specs.declared.ids.MethodId.{MethodId}
use Rattle.core_code.specs.CalleeRows.{AreRowsOf}
use Rattle.core_code.specs.Core.{Core}
use Rattle.core_code.specs.Program.{core}
use Rattle.core_code.proofs.KindLemmas.{same_method}
use Rattle.transfer.specs.declared.finished.Finished.{Finished}
use Rattle.transfer.specs.Callees.{SharedFinished}
use Rattle.transfer.specs.Tables.{IsFinished, IsTable, finished_at}
use Rattle.transfer.proofs.Every.{empty-table, set_get}
use Rattle.edit_session.specs.declared.before.Before.{Before}
use Rattle.edit_session.specs.declared.work.Work.{Work}
use Rattle.edit_session.specs.Sessions.{IsBefore}
use Rattle.edit_session.specs.Work.{GoesOn, IsFinishedFor, IsFinishedNow, IsNext, IsOther, IsPut, IsRight, differs_at}
use Rattle.edit_session.specs.Work.{is_done, new_core}
use Rattle.edit_session.proofs.Calling.{analysed_low}

abbrev place_of : Option (Option SharedFinished) → Option Finished
place_of o = option_map arc_value (option_and_then (λ (place : Option SharedFinished). place) o)

set_here : {X : Type 0} (xs : List X) (i : ℕ) (x : X) → i < length xs → slice_get (slice_set xs i x) i ≡ Some x
set_here [] i x low = absurd (omega arith)
set_here (y ∷ xs) zero x low = refl
set_here (y ∷ xs) (suc i) x low = set_here xs i x (omega arith)

pub put_here : (table : List (Option SharedFinished)) (f : Finished) (shared : SharedFinished) →
    f.method.0 < length table → arc_value shared ≡ f →
    finished_at (slice_set table f.method.0 (Some shared)) f.method ≡ Some f
put_here table f shared low is = ap place_of (set_here table f.method.0 (Some shared) low) ∙ ap Some is

pub put_elsewhere : (table : List (Option SharedFinished)) (f : Finished) (place : Option SharedFinished) (m : MethodId) →
    (m ≡ f.method → ⊥) → finished_at (slice_set table f.method.0 place) m ≡ finished_at table m
put_elsewhere table f place m other =
    elim (set_get table f.method.0 m.0 place) [
      | inl e ↦ ap place_of e
      | inr p ↦ absurd (other (same_method m f.method p.0))
    ]

-- ---- what goes on

pub core_on : (old new : Work) → GoesOn old new → new_core new ≡ new_core old
core_on old new on = (λ i. core (arc_value (on.program_is i).now))

pub on_itself : (work : Work) → GoesOn work work
on_itself work = record { program_is = refl; rows_are = refl; before_is = refl }

pub on_and_on : (a b c : Work) → GoesOn a b → GoesOn b c → GoesOn a c
on_and_on a b c first next =
    record {
      program_is = next.program_is ∙ first.program_is;
      rows_are = next.rows_are ∙ first.rows_are;
      before_is = next.before_is ∙ first.before_is;
    }

-- ---- a method that is put

abbrev IsAt : Core → MethodId → Option Finished → Type 0
IsAt program m o = IfSome o (λ (f : Finished). IsFinished program m f)

abbrev IsToldAt : Core → Option Before → Bool → Option Finished → Type 0
IsToldAt program before differs o = IfSome o (λ (f : Finished). IsOther program before f differs)

module _ (old new : Work) (f : Finished) (differs : Bool) (right : IsRight old) (put : IsPut old f differs new)
    (finished : IsFinished (new_core old) f.method f) (other : IsOther (new_core old) old.before f differs)
    (low : f.method.0 < length old.differs.items) where
  table : (m : MethodId) → IsAt (new_core old) m (finished_at new.finished.items m)
  table m =
      elim (cases_eq m.0 f.method.0) [
        | inl e ↦
            subst (λ (k : MethodId). IsAt (new_core old) k (finished_at new.finished.items k))
            (sym (same_method m f.method e)) (subst (IsAt (new_core old) f.method) (sym put.here) finished)
        | inr e ↦
            subst (IsAt (new_core old) m) (sym (put.others m (λ same. e (ap (λ (k : MethodId). k.0) same)))) (right.table m)
      ]

  flag_here : differs_at new f.method ≡ differs
  flag_here =
      ap (λ (flags : List Bool). slice_index_or flags f.method.0 true) put.differs_are
      ∙ get_or-set_same old.differs.items f.method.0 differs true low

  flag_other : (m : MethodId) → (m.0 ≡ f.method.0 → ⊥) → differs_at new m ≡ differs_at old m
  flag_other m apart =
      ap (λ (flags : List Bool). slice_index_or flags m.0 true) put.differs_are
      ∙ get_or-set_other old.differs.items f.method.0 m.0 differs true apart

  abbrev Told : MethodId → Type 0
  Told m = IsToldAt (new_core old) old.before (differs_at new m) (finished_at new.finished.items m)

  told : (m : MethodId) → Told m
  told m =
      elim (cases_eq m.0 f.method.0) [
        | inl e ↦
            subst Told (sym (same_method m f.method e))
            (subst (IsToldAt (new_core old) old.before (differs_at new f.method)) (sym put.here)
            (subst (λ (d : Bool). IsOther (new_core old) old.before f d) (sym flag_here) other))
        | inr e ↦
            subst (IsToldAt (new_core old) old.before (differs_at new m))
            (sym (put.others m (λ same. e (ap (λ (k : MethodId). k.0) same))))
            (subst (λ (d : Bool). IsToldAt (new_core old) old.before d (finished_at old.finished.items m))
            (sym (flag_other m e)) (right.told m))
      ]

  same : new_core new ≡ new_core old
  same = core_on old new put.goes_on

  right_put : IsRight new
  right_put =
      let rows : old.rows.now ≡ new.rows.now = (λ i. (sym put.goes_on.rows_are i).now) in
      record {
        rows_are =
            subst (λ (c : Core). AreRowsOf c new.rows.now) (sym same)
            (subst (AreRowsOf (new_core old)) rows right.rows_are);
        before_is =
            subst (λ (c : Core). IfSome new.before (IsBefore c)) (sym same)
            (subst (λ (o : Option Before). IfSome o (IsBefore (new_core old))) (sym put.goes_on.before_is) right.before_is);
        places = put.places ∙ right.places ∙ sym (ap (λ (c : Core). length c.methods) same);
        flags =
            ap length put.differs_are
            ∙ length-set old.differs.items f.method.0 differs
            ∙ right.flags
            ∙ sym (ap (λ (c : Core). length c.methods) same);
        table = λ m. subst (λ (c : Core). IsAt c m (finished_at new.finished.items m)) (sym same) (table m);
        told = λ m.
            subst (λ (c : Core). IsToldAt c new.before (differs_at new m) (finished_at new.finished.items m)) (sym same)
            (subst (λ (o : Option Before). IsToldAt (new_core old) o (differs_at new m) (finished_at new.finished.items m))
            (sym put.goes_on.before_is) (told m));
      }

  done_put : (m : MethodId) → is_done old m ≡ true → is_done new m ≡ true
  done_put m done =
      elim (cases_eq m.0 f.method.0) [
        | inl e ↦
            ap (λ (k : MethodId). is_done new k) (same_method m f.method e) ∙ ap is_some put.here
        | inr e ↦ ap is_some (put.others m (λ equal. e (ap (λ (k : MethodId). k.0) equal))) ∙ done
      ]

-- the place of a method that is finished
pub place_low : (work : Work) (m : MethodId) (f : Finished) → IsNext work m → IsFinishedFor work m f →
    f.method.0 < length work.finished.items
place_low work m f next is =
    let low : m.0 < length (new_core work).methods = analysed_low (new_core work) m next.analysed in
    let same : f.method.0 ≡ m.0 = ap (λ (k : MethodId). k.0) is.method in
    let long = next.right.places in
    omega arith

pub flag_low : (work : Work) (m : MethodId) (f : Finished) → IsNext work m → IsFinishedFor work m f →
    f.method.0 < length work.differs.items
flag_low work m f next is =
    let low : m.0 < length (new_core work).methods = analysed_low (new_core work) m next.analysed in
    let same : f.method.0 ≡ m.0 = ap (λ (k : MethodId). k.0) is.method in
    let long = next.right.flags in
    omega arith

pub finished_now : (old new : Work) (m : MethodId) (f : Finished) (differs : Bool) → IsNext old m →
    IsFinishedFor old m f → IsOther (new_core old) old.before f differs → IsPut old f differs new →
    IsFinishedNow old m new
finished_now old new m f differs next is other put =
    let own : IsFinished (new_core old) f.method f = record { method = refl; program_is = is.program_is } in
    let low = flag_low old m f next is in
    record {
      right = right_put old new f differs next.right put own other low;
      goes_on = put.goes_on;
      here = ap (λ (k : MethodId). is_done new k) (sym is.method) ∙ ap is_some put.here;
      others = done_put old new f differs next.right put own other low;
    }

-- ---- nothing is finished

pub none_there : (n i : ℕ) → place_of (slice_get (replicate n None) i) ≡ None
none_there zero i = refl
none_there (suc n) zero = refl
none_there (suc n) (suc i) = none_there n i

pub right_first : (work : Work) (n : ℕ) → AreRowsOf (new_core work) work.rows.now →
    IfSome work.before (IsBefore (new_core work)) → n ≡ length (new_core work).methods →
    work.finished.items ≡ replicate n None → work.differs.items ≡ replicate n true → IsRight work
right_first work n rows before count finished flags =
    record {
      rows_are = rows;
      before_is = before;
      places = ap length finished ∙ length-replicate n None ∙ count;
      flags = ap length flags ∙ length-replicate n true ∙ count;
      table = subst (IsTable (new_core work)) (sym finished) (empty-table (new_core work) n);
      told = λ m.
          subst (IsToldAt (new_core work) work.before (differs_at work m))
          (sym (ap (λ (table : List (Option SharedFinished)). finished_at table m) finished ∙ none_there n m.0)) tt;
    }
