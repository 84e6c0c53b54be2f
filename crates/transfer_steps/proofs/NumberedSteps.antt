-- Operations over the numbers of a table are those that `Operations.antt` of `access_domain` says in paths.
use Rattle.std.proofs.Common.{◌≡◌, ℕ, ◌<◌, Bool, true, false, cond, List, [], ◌∷◌, ◌++◌, Option, None, Some}
use Rattle.std.proofs.Common.{length, map, refl, sym, ap, subst, ◌∙◌, slice_get}
use Rattle.std.specs.FinSet as set
use Rattle.std.specs.Prelude.{Result, Ok, Err, IfOk, OnOk, slice_set}
use Rattle.racer_base.specs.declared.ids.FieldId.{FieldId}
use Rattle.racer_base.specs.declared.ids.SiteId.{SiteId}
use Rattle.racer_base.specs.declared.ids.VarId.{VarId}
use Rattle.racer_base.specs.declared.ids.Touch.{Touch}
use Rattle.racer_base.specs.declared.ids.Touch.TheVariants.{Write}
use Rattle.access_paths.specs.declared.path.Path.{Path}
use Rattle.access_paths.specs.Order.{path_cmp}
use Rattle.access_paths.specs.Table.{IsTable, GoesOn, path_at}
use Rattle.access_paths.proofs.Numbers.{goes_on-trans, number-at, number-below}
use Rattle.transfer_steps.proofs.Longer.{marked-longer}
use Rattle.transfer_steps.proofs.Marking.{noted-nothing}
use Rattle.owner_domain.specs.declared.value.Value.{Value}
use Rattle.owner_domain.specs.declared.value.Value.TheVariants as value
use Rattle.owner_domain.specs.declared.value.State.{State}
use Rattle.owner_domain.specs.declared.numbered.NumberedValue.{NumberedValue}
use Rattle.owner_domain.specs.declared.numbered.NumberedValue.TheVariants.{Owned, Named, Unnamed}
use Rattle.owner_domain.specs.declared.numbered.NumberedState.{NumberedState}
use Rattle.owner_domain.specs.Numbered.{read_value, read_state, IsInRange, AreInRange}
use Rattle.owner_domain.specs.Values.{names_of, field_value}
use Rattle.core_code.specs.declared.code.Op.{Op as CoreOp}
use Rattle.core_code.specs.declared.code.Op.TheVariants.{Put}
use Rattle.core_code.specs.Program.{core}
use Rattle.access_domain.specs.declared.access.Access.{Access}
use Rattle.access_domain.specs.declared.numbered.NumberedAccess.{NumberedAccess}
use Rattle.access_domain.specs.FlowContext.{field_at}
use Rattle.access_domain.specs.Numbered.{read_access}
use Rattle.access_domain.specs.Operations.{Effects, op_effects, record_of, stored_paths, slot_of, top, popped, pushed}
use Rattle.access_domain.specs.Operations.{replaced, read_value as value_read}
use Rattle.access_domain.specs.Reached.{reached_path}
use Rattle.transfer_steps.specs.declared.found.Found.{Found}
use Rattle.transfer_steps.specs.declared.found.Stop.{Stop}
use Rattle.transfer_steps.specs.declared.numbered_found.NumberedFound.{NumberedFound}
use Rattle.transfer_steps.specs.declared.operations.MethodContext.{MethodContext}
use Rattle.transfer_steps.specs.Contexts.{given, record_reached}
use Rattle.transfer_steps.specs.Marks.{marks, IsMarked, IsNoted, IsStopped}
use Rattle.transfer_steps.specs.Numbered.{read_found, AreFoundNumbers, IsFlowOf}
use Rattle.access_domain.specs.Flow.{joined_next, lost_next}
use Rattle.owner_domain.specs.Values.{joined_state, lost_state}
use Rattle.call_subst.specs.Numbered.{AreBelow, read_paths}
use Rattle.owner_domain.specs.Slots.{top_number, pushed_number, popped_numbers, replaced_numbers, met_numbers, lost_by}
use Rattle.transfer_steps.specs.Walks.{IsFlow, moved, next_of}
use Rattle.transfer_steps.proofs.Flows.{record-reached, slot-below, popped-twice, noted-parts, stopped-records, stopped-paths}
use Rattle.owner_domain.proofs.Reading.{met-read, met-lost, met-in}
use Rattle.transfer_steps.proofs.Readings.{value-longer, range-longer, state-longer, state-still, found-longer}
use Rattle.transfer_steps.proofs.SlotsRead.{slot-in, top-read, popped-read, popped-in, replaced-read, set-read, set-in}
use Rattle.transfer_steps.proofs.SlotsRead.{lost-below}

-- ---- through a longer table

pub flow-longer : (old new : List Path) (on : GoesOn old new) (found : NumberedFound) → AreFoundNumbers old found →
    (e : Effects) (here : State) (later : Found) (r : Result Bool Stop) →
    IsFlow e here (read_found new found) later r → IsFlow e here (read_found old found) later r
flow-longer old new on found numbers e here later r m =
    subst (λ (f : Found). IsFlow e here f later r) (found-longer old new on found numbers) m

-- ---- answers that say something where they are `Ok`

module _ {X E : Type 0} where
  pub where_ok : {P Q : Type 0} (r : Result X E) → (P → Q) → OnOk r P → OnOk r Q
  where_ok (Ok x) f p = f p
  where_ok (Err e) f p = tt

-- ---- operations that find nothing

module _ {X E : Type 0} (r : Result X E) (table : List Path) (op : CoreOp) (old made new : NumberedState) where
  pub moved-to : read_state table made ≡ moved op (read_state table old) → OnOk r (new ≡ made) →
      OnOk r (read_state table new ≡ moved op (read_state table old))
  moved-to is made_so =
      where_ok {P = new ≡ made} {Q = read_state table new ≡ moved op (read_state table old)} r
      (λ e. ap (read_state table) e ∙ is) made_so

  pub moved-in : AreInRange table made → OnOk r (new ≡ made) → OnOk r (AreInRange table new)
  moved-in low made_so =
      where_ok {P = new ≡ made} {Q = AreInRange table new} r (λ e. subst (AreInRange table) (sym e) low) made_so

pub replaced-to : {X E : Type 0} (r : Result X E) (table : List Path) (old new : NumberedState) (n : ℕ)
    (v : NumberedValue) → OnOk r (new ≡ replaced_numbers old n v) →
    OnOk r (read_state table new ≡ replaced (read_state table old) n (read_value table v))
replaced-to r table old new n v made =
    where_ok {P = new ≡ replaced_numbers old n v}
    {Q = read_state table new ≡ replaced (read_state table old) n (read_value table v)} r
    (λ e. ap (read_state table) e ∙ replaced-read table old n v) made

-- ---- the field of the top

pub top-in : (table : List Path) (s : NumberedState) → AreInRange table s → IsInRange table (top_number s)
top-in table s low = slot-in table s.stack 0 low.1

-- the number of the top is one of the table's
pub top-below : (table : List Path) (s : NumberedState) (v : NumberedValue) (n : ℕ) → AreInRange table s →
    v ≡ top_number s → v ≡ Named n → n < length table
top-below table s v n low is named = subst (IsInRange table) (sym is ∙ named) (top-in table s low)

pub field-of_named : (table : List Path) (s : NumberedState) (v : NumberedValue) (n : ℕ) (p : Path) (f : FieldId) →
    v ≡ top_number s → v ≡ Named n → slice_get table n ≡ Some p →
    field_value (value.Named p) f ≡ field_value (top (read_state table s)) f
field-of_named table s v n p f is named at =
    ap (λ (q : Path). field_value (value.Named q) f) (sym (number-at table n p at))
    ∙ ap (λ (w : NumberedValue). field_value (read_value table w) f) (sym named ∙ is)
    ∙ ap (λ (w : Value). field_value w f) (top-read table s)

pub field-of_owned : (table : List Path) (s : NumberedState) (v : NumberedValue) (f : FieldId) → v ≡ top_number s →
    v ≡ Owned → value.Owned ≡ field_value (top (read_state table s)) f
field-of_owned table s v f is owned =
    ap (λ (w : NumberedValue). field_value (read_value table w) f) (sym owned ∙ is)
    ∙ ap (λ (w : Value). field_value w f) (top-read table s)

pub field-of_unnamed : (table : List Path) (s : NumberedState) (v : NumberedValue) (f : FieldId) → v ≡ top_number s →
    v ≡ Unnamed → value.Unnamed ≡ field_value (top (read_state table s)) f
field-of_unnamed table s v f is unnamed =
    ap (λ (w : NumberedValue). field_value (read_value table w) f) (sym unnamed ∙ is)
    ∙ ap (λ (w : Value). field_value w f) (top-read table s)

-- ---- accesses

module _ (context : MethodContext) (kind : Touch) (locked : Bool) (site : SiteId) (f : FieldId) where
  abbrev pub records_at : Bool → Option Path → List Access
  records_at recorded reached = cond recorded (elim reached as (λ _. List Access) [
    | None ↦ []
    | Some p ↦ record { path = p; kind = kind; locked = locked; main = context.main; site = site; below = None } ∷ []
  ]) []

  none_in : (recorded : Bool) → records_at recorded None ≡ []
  none_in true = refl
  none_in false = refl

  pub not-recorded : (v : Value) → (field_at (core context.program.now) f).recorded ≡ false →
      record_reached context kind locked site v f ≡ []
  not-recorded v e = ap (λ (b : Bool). records_at b (reached_path (core context.program.now) v f)) e

  pub not-noted : (found : Found) (v : Value) → (field_at (core context.program.now) f).recorded ≡ false →
      IsNoted found (marks (record_reached context kind locked site v f) []) found
  not-noted found v e =
      subst (λ (records : List Access). IsNoted found (marks records []) found) (sym (not-recorded v e))
      ((noted-nothing found (record { vars = []; stack = [] })).0, refl)

  pub not-reached : (v : Value) → reached_path (core context.program.now) v f ≡ None →
      record_reached context kind locked site v f ≡ []
  not-reached v e =
      let recorded = (field_at (core context.program.now) f).recorded in
      ap (records_at recorded) e ∙ none_in recorded

  abbrev pub access_of : ℕ → NumberedAccess
  access_of n = record { path = n; kind = kind; locked = locked; main = context.main; site = site; below = None }

  pub reached-at : (table : List Path) (v : Value) (n : ℕ) → (field_at (core context.program.now) f).recorded ≡ true →
      reached_path (core context.program.now) v f ≡ Some (path_at table n) →
      record_reached context kind locked site v f ≡ read_access table (access_of n) ∷ []
  reached-at table v n recorded reached = λ i. records_at (recorded i) (reached i)

  -- the record of an access, by the value of the field that was read from another one
  module _ (older newer : List Path) (on : GoesOn older newer) (found : NumberedFound)
      (numbers : AreFoundNumbers older found)
      (field : NumberedValue) (base : Value) (reads : read_value newer field ≡ field_value base f) where
    pub same_records : record_reached context kind locked site (read_value newer field) f ≡
        record_of (given context) kind locked site base f
    same_records =
        ap (λ (v : Value). record_reached context kind locked site v f) reads
        ∙ record-reached context kind locked site base f

    pub access-marked : {X : Type 0} (later : Found) (r : Result X Stop) →
        IsMarked (read_found newer found)
        (marks (record_reached context kind locked site (read_value newer field) f) []) later r →
        IsMarked (read_found older found) (marks (record_of (given context) kind locked site base f) []) later r
    access-marked later r m =
        marked-longer older newer on found (marks (record_of (given context) kind locked site base f) []) later r
        numbers
        (subst (λ (records : List Access). IsMarked (read_found newer found) (marks records []) later r) same_records m)

-- ---- reads

plain-read : (table : List Path) (plain : Bool) (v : NumberedValue) →
    read_value table (cond plain Unnamed v) ≡ cond plain value.Unnamed (read_value table v)
plain-read table true v = refl
plain-read table false v = refl

pub plain-in : (table : List Path) (plain : Bool) (v : NumberedValue) → IsInRange table v →
    IsInRange table (cond plain Unnamed v)
plain-in table true v low = tt
plain-in table false v low = low

module _ (context : MethodContext) (f : FieldId) (older newer newest : List Path) (on1 : GoesOn older newer)
    (on2 : GoesOn newer newest)
    (here : NumberedState) (low : AreInRange older here) (field : NumberedValue) (field_low : IsInRange newer field)
    (reads : read_value newer field ≡ field_value (top (read_state older here)) f)
    (plain : Bool) (is_plain : plain ≡ (given context).is_plain_field f)
    (new : NumberedState) (is : new ≡ pushed_number (popped_numbers here 1) (cond plain Unnamed field)) where
  rest_low : AreInRange older (popped_numbers here 1)
  rest_low = popped-in older here 1 low

  on : GoesOn older newest
  on = goes_on-trans older newer newest on1 on2

  pub get-state : read_state newest new ≡
      replaced (read_state older here) 1 (value_read (given context) (top (read_state older here)) f)
  get-state =
      ap (read_state newest) is
      ∙ (λ i. pushed (state-longer older newest on (popped_numbers here 1) rest_low i)
      (plain-read newest plain field i))
      ∙ (λ i. pushed (popped-read older here 1 i)
      (cond (is_plain i) value.Unnamed ((value-longer newer newest on2 field field_low ∙ reads) i)))

  pub get-in : AreInRange newest new
  get-in =
      let rest = state-still older newest on (popped_numbers here 1) rest_low in
      subst (AreInRange newest) (sym is)
      (rest.0, (plain-in newest plain field (range-longer newer newest on2 field field_low), rest.1))

-- ---- stores

-- the field of the slot below the top
pub put-base : (older newer : List Path) (here : NumberedState) (f : FieldId) (field : NumberedValue) →
    read_value newer field ≡ field_value (top (read_state older (popped_numbers here 1))) f →
    read_value newer field ≡ field_value (slot_of (read_state older here) 1) f
put-base older newer here f field reads =
    reads
    ∙ ap (λ (s : State). field_value (top s) f) (popped-read older here 1)
    ∙ ap (λ (v : Value). field_value v f) (slot-below (read_state older here))

module _ (older newer newest : List Path) (on1 : GoesOn older newer) (on2 : GoesOn newer newest) (here : NumberedState)
    (low : AreInRange older here) where
  pub put-names : (f : FieldId) (field : NumberedValue) → IsInRange newer field →
      read_value newer field ≡ field_value (slot_of (read_state older here) 1) f → (v : NumberedValue) →
      v ≡ top_number here →
      names_of (read_value newest field) ++ names_of (read_value newest v) ≡
      stored_paths (slot_of (read_state older here) 1) f (top (read_state older here))
  put-names f field field_low reads v is =
      let on = goes_on-trans older newer newest on1 on2 in
      let first = value-longer newer newest on2 field field_low ∙ reads in
      let second : read_value newest v ≡ top (read_state older here) =
      ap (read_value newest) is ∙ value-longer older newest on (top_number here) (top-in older here low)
      ∙ top-read older here in
      (λ i. names_of (first i) ++ names_of (second i))

  module _ (v : NumberedValue) (is : v ≡ top_number here) (new : NumberedState)
      (made : new ≡ pushed_number (popped_numbers (popped_numbers here 1) 1) v) where
    pub put-state : read_state newest new ≡ replaced (read_state older here) 2 (top (read_state older here))
    put-state =
        let on = goes_on-trans older newer newest on1 on2 in
        let rest : NumberedState = popped_numbers (popped_numbers here 1) 1 in
        let rest_low : AreInRange older rest = popped-in older (popped_numbers here 1) 1 (popped-in older here 1 low) in
        let value : read_value newest v ≡ top (read_state older here) =
        ap (read_value newest) is ∙ value-longer older newest on (top_number here) (top-in older here low)
        ∙ top-read older here in
        let state : read_state newest rest ≡ popped (read_state older here) 2 =
        state-longer older newest on rest rest_low
        ∙ popped-read older (popped_numbers here 1) 1
        ∙ ap (λ (s : State). popped s 1) (popped-read older here 1)
        ∙ popped-twice (read_state older here) in
        ap (read_state newest) made ∙ (λ i. pushed (state i) (value i))

    pub put-in : AreInRange newest new
    put-in =
        let on = goes_on-trans older newer newest on1 on2 in
        let rest : NumberedState = popped_numbers (popped_numbers here 1) 1 in
        let rest_low : AreInRange older rest = popped-in older (popped_numbers here 1) 1 (popped-in older here 1 low) in
        let still = state-still older newest on rest rest_low in
        let top_low : IsInRange newest v =
        subst (IsInRange newest) (sym is) (range-longer older newest on (top_number here) (top-in older here low)) in
        subst (AreInRange newest) (sym made) (still.0, (top_low, still.1))

-- ---- variables, and what is returned

module _ (table : List Path) (here : NumberedState) (v : NumberedValue) (is : v ≡ top_number here) where
  pub top-value : read_value table v ≡ top (read_state table here)
  top-value = ap (read_value table) is ∙ top-read table here

  pub top-range : AreInRange table here → IsInRange table v
  top-range low = subst (IsInRange table) (sym is) (top-in table here low)

  module _ (variable : VarId) (new : NumberedState)
      (made : new ≡ record { vars = slice_set here.vars variable.0 v; stack = here.stack }) where
    pub set-state : read_state table new ≡
        (record {
          vars = slice_set (read_state table here).vars variable.0 (top (read_state table here));
          stack = (read_state table here).stack;
        })
    set-state =
        ap (read_state table) made
        ∙ (λ i. record {
          vars = set-read table here.vars variable.0 v i;
          stack = map (read_value table) here.stack;
        })
        ∙ (λ i. record {
          vars = slice_set (map (read_value table) here.vars) variable.0 (top-value i);
          stack = map (read_value table) here.stack;
        })

    pub set-state-in : AreInRange table here → AreInRange table new
    set-state-in low =
        subst (AreInRange table) (sym made) (set-in table here.vars variable.0 v low.0 (top-range low), low.1)

-- ---- states that meet

module _ (table : List Path) (once : IsTable table) (here other : NumberedState) (low : AreInRange table here)
    (other_low : AreInRange table other) where
  pub met-state : (new : NumberedState) → new ≡ met_numbers here other →
      read_state table new ≡ joined_state (read_state table here) (read_state table other)
  met-state new is = ap (read_state table) is ∙ met-read table once here other low other_low

  pub met-state-in : (new : NumberedState) → new ≡ met_numbers here other → AreInRange table new
  met-state-in new is = subst (AreInRange table) (sym is) (met-in table here other low)

  pub met-below : (lost : List ℕ) → lost ≡ lost_by here other → AreBelow (length table) lost
  met-below lost is = subst (AreBelow (length table)) (sym is) (lost-below table here other low other_low)

  pub met-marked : {X : Type 0} (found later : Found) (lost : List ℕ) (r : Result X Stop) → lost ≡ lost_by here other →
      IsMarked found (marks [] (read_paths table lost)) later r →
      IsMarked found (marks [] (lost_state (read_state table here) (read_state table other))) later r
  met-marked found later lost r is m =
      subst (λ (ps : List Path). IsMarked found (marks [] ps) later r)
      (ap (read_paths table) is ∙ met-lost table once here other low other_low) m

pub joined-left : (left : Bool) (s t : State) → next_of left s ≡ joined_next (next_of left s) (next_of false t)
joined-left true s t = refl
joined-left false s t = refl

pub lost-left : (left : Bool) (s t : State) → lost_next (next_of left s) (next_of false t) ≡ []
lost-left true s t = refl
lost-left false s t = refl

-- ---- a store, whole

module _ (context : MethodContext) (locked : Bool) (site : SiteId) (f : FieldId) (older newer : List Path)
    (on1 : GoesOn older newer) (here : NumberedState) (found : NumberedFound) (is : IsFlowOf older here found)
    (field : NumberedValue)
    (reads : read_value newer field ≡ field_value (top (read_state older (popped_numbers here 1))) f) where
  abbrev base : Value
  base = slot_of (read_state older here) 1

  abbrev records : List Access
  records = record_of (given context) Write locked site base f

  base_reads : read_value newer field ≡ field_value base f
  base_reads = put-base older newer here f field reads

  pub store-stopped : (last : Found) (stop : Stop) →
      IsStopped (read_found newer found) (marks
      (record_reached context Write locked site (read_value newer field) f) []) stop →
      IsStopped (read_found older found) (op_effects (given context) locked site (Put f) (read_state older here)) stop
  store-stopped last stop m =
      stopped-records (read_found older found) records records
      (stored_paths base f (top (read_state older here))) stop refl
      (access-marked context Write locked site f older newer on1 found is.noted field base base_reads {X = Unit {0}}
      last
      (Err stop) m)

  module _ (newest : List Path) (on2 : GoesOn newer newest) (v : NumberedValue) (is_top : v ≡ top_number here)
      (field_low : IsInRange newer field) (later : NumberedFound)
      (noted : IsNoted (read_found newer found)
      (marks (record_reached context Write locked site (read_value newer field) f) []) (read_found newest later)) where
    first : IsNoted (read_found older found) (marks records []) (read_found newest later)
    first =
        access-marked context Write locked site f older newer on1 found is.noted field base base_reads {X = Unit {0}}
        (read_found newest later) (Ok (tt {0})) noted

    abbrev names : List Path
    names = names_of (read_value newest field) ++ names_of (read_value newest v)

    paths : names ≡ stored_paths base f (top (read_state older here))
    paths = put-names older newer newest on1 on2 here is.state f field field_low base_reads v is_top

    pub names-stopped : (stop : Stop) → IsStopped (read_found newest later) (marks [] names) stop →
        IsStopped (read_found older found) (op_effects (given context) locked site (Put f) (read_state older here)) stop
    names-stopped stop k =
        stopped-paths (read_found older found) (read_found newest later) records records names
        (stored_paths base f (top (read_state older here))) stop refl
        (ap (λ (ps : List Path). set.from_list {R = path_cmp} ps) paths) first k

    pub store-flows : (new : NumberedState) → new ≡ pushed_number (popped_numbers (popped_numbers here 1) 1) v →
        (last : Found) → IsNoted (read_found newest later) (marks [] names) last →
        IsFlow (op_effects (given context) locked site (Put f) (read_state older here)) (read_state newest new)
        (read_found older found) last (Ok true)
    store-flows new made last k = (
      ap Some (sym (put-state older newer newest on1 on2 here is.state v is_top new made)),
      noted-parts (read_found older found) (read_found newest later) last records records names
          (stored_paths base f (top (read_state older here))) refl
          (ap (λ (ps : List Path). set.from_list {R = path_cmp} ps) paths) first k,
    )

-- ---- what is noted of a store, and what is returned

pub names-kept : {X E : Type 0} (r : Result X E) (old now new : NumberedFound) (a b : NumberedValue) →
    ((table : List Path) → IsTable table → AreFoundNumbers table old → IsInRange table a →
    AreFoundNumbers table now) →
    OnOk r ((table : List Path) → IsTable table → AreFoundNumbers table now → IsInRange table b →
    AreFoundNumbers table new) →
    OnOk r ((table : List Path) → IsTable table → AreFoundNumbers table old → IsInRange table a → IsInRange table b →
    AreFoundNumbers table new)
names-kept (Ok x) old now new a b f g = λ table once low a_low b_low. g table once (f table once low a_low) b_low
names-kept (Err e) old now new a b f g = tt

-- the numbers of what is here and of what was found, in a table of the numbers before
pub flow-kept : {X E : Type 0} (r : Result X E) (table : List Path) (here new : NumberedState)
    (found later : NumberedFound) → IsFlowOf table here found →
    OnOk r ((t : List Path) → IsFlowOf t here found → IsFlowOf t new later) → OnOk r (IsFlowOf table new later)
flow-kept (Ok x) table here new found later is f = f table is
flow-kept (Err e) table here new found later is f = tt

pub same-field : {E : Type 0} (r : Result NumberedValue E) (table : List Path) (v w : Value) →
    IfOk r (λ made. read_value table made ≡ v) → v ≡ w → IfOk r (λ made. read_value table made ≡ w)
same-field (Ok made) table v w is same = is ∙ same
same-field (Err e) table v w is same = tt

-- ---- the number of an access

module _ (context : MethodContext) (kind : Touch) (locked : Bool) (site : SiteId) (f : FieldId)
    (older newer : List Path)
    (on : GoesOn older newer) (found : NumberedFound) (numbers : AreFoundNumbers older found) (v : Value) where
  pub none-noted : reached_path (core context.program.now) v f ≡ None →
      IsNoted (read_found older found) (marks (record_reached context kind locked site v f) []) (read_found newer found)
  none-noted none =
      subst (λ (records : List Access). IsNoted (read_found older found) (marks records []) (read_found newer found))
      (sym (not-reached context kind locked site f v none)) (
        found-longer older newer on found numbers
            ∙ (noted-nothing (read_found older found) (record { vars = []; stack = [] })).0,
        refl,
      )

  pub access-noted : {X : Type 0} (n : ℕ) (later : Found) (r : Result X Stop) →
      (field_at (core context.program.now) f).recorded ≡ true →
      reached_path (core context.program.now) v f ≡ Some (path_at newer n) →
      IsMarked (read_found newer found)
      (marks (read_access newer (access_of context kind locked site f n) ∷ []) []) later r →
      IsMarked (read_found older found) (marks (record_reached context kind locked site v f) []) later r
  access-noted n later r recorded reached m =
      marked-longer older newer on found (marks (record_reached context kind locked site v f) []) later r numbers
      (subst (λ (records : List Access). IsMarked (read_found newer found) (marks records []) later r)
      (sym (reached-at context kind locked site f newer v n recorded reached)) m)

pub at-table : {X E : Type 0} (r : Result X E) (table : List Path) (old new : NumberedFound) (n : ℕ) →
    OnOk r ((t : List Path) → IsTable t → AreFoundNumbers t old → n < length t → AreFoundNumbers t new) →
    IsTable table → AreFoundNumbers table old → n < length table → OnOk r (AreFoundNumbers table new)
at-table (Ok x) table old new n f once numbers low = f table once numbers low
at-table (Err e) table old new n f once numbers low = tt

-- ---- a root that is pushed

module _ {X E : Type 0} (r : Result X E) (older newer : List Path) (on : GoesOn older newer) (here new : NumberedState)
    (low : AreInRange older here) (n : ℕ) (made : OnOk r (new ≡ pushed_number here (Named n))) where
  pub root-pushed : (p : Path) → slice_get newer n ≡ Some p →
      OnOk r (read_state newer new ≡ pushed (read_state older here) (value.Named p))
  root-pushed p at =
      where_ok {P = new ≡ pushed_number here (Named n)}
      {Q = read_state newer new ≡ pushed (read_state older here) (value.Named p)} r
      (λ e. ap (read_state newer) e
      ∙ (λ i. pushed (state-longer older newer on here low i) (value.Named (number-at newer n p at i)))) made

  pub root-in : (p : Path) → slice_get newer n ≡ Some p → OnOk r (AreInRange newer new)
  root-in p at =
      where_ok {P = new ≡ pushed_number here (Named n)} {Q = AreInRange newer new} r
      (λ e. let still = state-still older newer on here low in
      subst (AreInRange newer) (sym e) (still.0, (number-below newer n p at, still.1))) made
