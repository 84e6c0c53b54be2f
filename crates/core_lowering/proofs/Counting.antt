-- How many different methods there are among some, counted by stamps.
use Rattle.std.proofs.Common.{◌≡◌, ℕ, ◌+◌, ◌<◌, ◌≤◌, Bool, true, false, not, List, [], ◌∷◌, ◌++◌, length, refl, sym}
use Rattle.std.proofs.Common.{ap, ◌∙◌, arith, nat_eq, slice_set, append-nil, length-append}
use Rattle.std.proofs.Common.{drop, get_or}
use Rattle.std.proofs.lemmas.List.{at_drop_more}
use Rattle.racer_base.specs.declared.ids.MethodId.{MethodId}
use Rattle.core_code.specs.CalleeRows.{different}
use Rattle.core_code.specs.Stamps.{stamp_of, pushed, AreBelow, Tell, others}
use Rattle.core_code.proofs.Different.{others_none, tell_none, turn}
use Rattle.core_lowering.specs.Calls.{counted}

-- so many different methods have the stamp, and with those among the rest they are all of these
pub record Counted (stamps : List ℕ) (stamp count : ℕ) (rest whole : List MethodId) : Type 0 where
  pub row : List MethodId
  pub told : Tell stamps stamp row
  pub many : length row ≡ count
  pub all : row ++ others row rest ≡ whole

pub counting-starts : (stamps : List ℕ) (stamp : ℕ) (callees : List MethodId) → AreBelow stamps stamp →
    Counted stamps stamp 0 callees (different callees)
counting-starts stamps stamp callees below =
    record { row = []; told = tell_none stamps stamp below; many = refl; all = others_none callees }

pushed-many : (row : List MethodId) (m : MethodId) (known : Bool) →
    length (pushed row m known) ≡ counted (length row) (not known)
pushed-many row m true = refl
pushed-many row m false = length-append row (m ∷ [])

pub counting-goes_on : (stamps : List ℕ) (stamp count : ℕ) (m : MethodId) (rest whole : List MethodId)
    (new_stamps : List ℕ) (is_new : Bool) (new_count : ℕ) → Counted stamps stamp count (m ∷ rest) whole →
    is_new ≡ not (nat_eq (stamp_of stamps m.0) stamp) → new_stamps ≡ slice_set stamps m.0 stamp →
    m.0 < length stamps → new_count ≡ counted count is_new → Counted new_stamps stamp new_count rest whole
counting-goes_on stamps stamp count m rest whole new_stamps is_new new_count c e f within g =
    let known = nat_eq (stamp_of stamps m.0) stamp in
    let next = turn stamps stamp c.row m rest (pushed c.row m known) new_stamps whole refl f within c.told c.all in
    record {
      row = pushed c.row m known;
      told = next.1;
      many =
          pushed-many c.row m known ∙ ap (λ n. counted n (not known)) c.many ∙ ap (counted count) (sym e) ∙ sym g;
      all = next.0;
    }

-- at the next of the methods
pub opened : (stamps : List ℕ) (stamp count : ℕ) (all : List MethodId) (i : ℕ) (d : MethodId) → i < length all →
    Counted stamps stamp count (drop i all) (different all) →
    Counted stamps stamp count (get_or all i d ∷ drop (i + 1) all) (different all)
opened stamps stamp count all i d within c =
    record {
      row = c.row;
      told = c.told;
      many = c.many;
      all = sym (at_drop_more (λ (left : List MethodId). c.row ++ others c.row left) all i d within) ∙ c.all;
    }

pub counting-ends : (stamps : List ℕ) (stamp count : ℕ) (whole : List MethodId) →
    Counted stamps stamp count [] whole → count ≡ length whole
counting-ends stamps stamp count whole c =
    sym c.many ∙ ap (length {A = MethodId}) (sym (append-nil c.row) ∙ c.all)

pub counting-below : (stamps : List ℕ) (stamp count : ℕ) (rest whole : List MethodId) →
    Counted stamps stamp count rest whole → AreBelow stamps (stamp + 1)
counting-below stamps stamp count rest whole c n = let most : stamp_of stamps n ≤ stamp = c.told.most n in omega arith
