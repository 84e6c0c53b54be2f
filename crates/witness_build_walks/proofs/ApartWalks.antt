-- What two walks tell of two legs.
use Rattle.std.proofs.Common.{◌≡◌, ℕ, ◌+◌, Bool, true, false, List, [], ◌∷◌, sym, ap, ◌∙◌}
use Rattle.std.proofs.Common.{length, nat_eq, refl, arith}
use Rattle.std.proofs.lemmas.Bool.{eqb-true}
use Rattle.std.specs.List.{list_any}
use Rattle.racer_base.specs.declared.ids.MethodId.{MethodId}
use Rattle.core_code.specs.Core.{Core}
use Rattle.core_semantics.specs.declared.answer.Holder.{Holder}
use Rattle.core_semantics.specs.declared.answer.Turn.{Turn}
use Rattle.core_semantics.specs.declared.object.Start.TheVariants.{All}
use Rattle.core_semantics.specs.declared.object.StartPath.{StartPath}
use Rattle.core_semantics.specs.Changes.{Spot}
use Rattle.core_semantics.specs.Runs.{begun, place}
use Rattle.core_semantics.specs.State.{State, thread_of}
use Rattle.core_semantics.specs.View.{state_of}
use Rattle.core_ways.specs.declared.mark.Leg.{Leg as LegTaken}
use Rattle.core_ways.specs.Ends.{Stopped, leg_end, leg_reads}
use Rattle.core_ways.specs.Gathered.{gathered}
use Rattle.core_ways.specs.Marks.{Confirmed, blocked_at, leg_of, mark_by_run}
use Rattle.core_ways.proofs.Gathering.{gathered-again}
use Rattle.witness_build_apart_laws.specs.Goes.{leg_goes}
use Rattle.witness_build_apart_laws.specs.Looks.{leg_looks}
use Rattle.witness_build_apart_laws.specs.RunLegs.{AreRead}
use Rattle.witness_build_apart_laws.specs.Starts.{entry_of}
use Rattle.witness_build_apart_laws.specs.Stores.{is_spot, leg_stores}
use Rattle.witness_build_apart_laws.proofs.Marks.{goes-past}
use Rattle.witness_build_apart_laws.proofs.SaidByRun.{few-gathered}
use Rattle.witness_build_apart_laws.specs.Walked.{AreWalked}
use Rattle.witness_build_apart_laws.proofs.Walked.{walked-both, walked-first, walked-second}
use Rattle.witness_build_walks.specs.declared.walk.Walk.{Walk}
use Rattle.witness_build_walks.specs.Told.{AreApart, IsGone, place_at}
use Rattle.witness_build_walks.specs.Walks.{AreKept, HasGone, IsAlong, entry_state, fields_of}
use Rattle.witness_build_walks.proofs.KeptFields.{looks-apart, spots-of}

-- a thread of which it is said that it holds no monitor
pub none-held : (locks : List Holder) → nat_eq (length locks) 0 ≡ true → locks ≡ []
none-held [] e = refl
none-held (x ∷ xs) e = absurd (let none : length (x ∷ xs) ≡ 0 = eqb-true (length (x ∷ xs)) 0 e in omega (arith, none))

looked-in : (core : Core) (g : LegTaken) (all : Bool) (w : Walk) → HasGone core g w all →
    AreKept w.reads (fields_of (leg_looks core w.thread g.steps g.turns (entry_state core w)))
looked-in core g true w gone = gone.1.reads
looked-in core g false w gone = gone.reads

-- what is so of a walk's thread and method is so of the leg's
pub of-leg : {X : Type 0} (core : Core) (m : MethodId) (g : LegTaken) (all : Bool) (w : Walk) (what : ℕ → State → X) →
    IsGone core m g all w → what g.thread (begun core m m All) ≡ what w.thread (entry_state core w)
of-leg core m g all w what is = (λ i. what (sym is.thread i) (begun core (sym is.method i) (sym is.method i) All))

pub are-walked : (core : Core) (f g : LegTaken) (m n : MethodId) (first second : Walk) (all : Bool) →
    f.thread + g.thread ≡ 1 → IsGone core m f true first → IsGone core n g all second → AreApart first second →
    AreWalked core (leg_of f) (leg_of g) m n
are-walked core f g m n first second all threads one other apart =
    let along : IsAlong core first f.steps f.turns one.gone.0 = one.gone.1 in
    let stored =
    spots-of first.is_loud first.writes (leg_stores core first.thread f.steps f.turns (entry_state core first))
    along.writes apart.quiet in
    record {
      to = state_of first.machine;
      left = one.gone.0;
      spots = stored.0;
      threads = threads;
      goes = of-leg core m f true first (λ t s. leg_goes core t f.steps f.turns s) one ∙ along.goes;
      free = ap (λ (t : ℕ). (thread_of (state_of first.machine) t).locks) (sym one.thread) ∙ apart.free;
      stores = of-leg core m f true first (λ t s. leg_stores core t f.steps f.turns s) one ∙ stored.1;
      apart =
          ap (λ (xs : List Spot). list_any (λ (x : Spot). list_any (is_spot x.0 x.1) stored.0) xs)
          (of-leg core n g all second (λ t s. leg_looks core t g.steps g.turns s) other)
          ∙ looks-apart first.writes second.reads stored.0
          (leg_looks core second.thread g.steps g.turns (entry_state core second)) stored.2
          (looked-in core g all second other.gone) apart.disjoint;
    }

halted-in : (core : Core) (g : LegTaken) (all : Bool) (w : Walk) → HasGone core g w all → all ≡ false →
    leg_end core w.thread g.steps g.turns (entry_state core w) ≡ Stopped (state_of w.machine)
halted-in core g true w gone e = absurd cc
halted-in core g false w gone e = gone.ends

whole-in : (core : Core) (g : LegTaken) (all : Bool) (w : Walk) → HasGone core g w all → all ≡ true →
    (left : List Turn) × IsAlong core w g.steps g.turns left
whole-in core g true w gone e = gone
whole-in core g false w gone e = absurd cc

pub told-first : (core : Core) (f g : LegTaken) (m m1 m2 : MethodId) (w : Walk) → m ≡ entry_of f.thread m1 m2 →
    IsGone core m f false w →
    blocked_at w.thread (place_at w) ≡ mark_by_run core (leg_of f ∷ leg_of g ∷ []) (begun core m1 m2 All)
told-first core f g m m1 m2 w entry is =
    ap (λ (t : ℕ). blocked_at t (place (state_of w.machine) t)) is.thread
    ∙ walked-first core (leg_of f) (leg_of g) m m1 m2 (state_of w.machine) entry
    (of-leg core m f false w (λ t s. leg_end core t f.steps f.turns s) is ∙ is.gone.ends)

pub told-second : (core : Core) (f g : LegTaken) (m n m1 m2 : MethodId) (first second : Walk) (all : Bool) →
    f.thread + g.thread ≡ 1 → m ≡ entry_of f.thread m1 m2 → n ≡ entry_of g.thread m1 m2 → IsGone core m f true first →
    IsGone core n g all second → AreApart first second → all ≡ false →
    blocked_at second.thread (place_at second) ≡ mark_by_run core (leg_of f ∷ leg_of g ∷ []) (begun core m1 m2 All)
told-second core f g m n m1 m2 first second all threads of_first of_second one other apart none =
    ap (λ (t : ℕ). blocked_at t (place (state_of second.machine) t)) other.thread
    ∙ walked-second core (leg_of f) (leg_of g) m n m1 m2
    (are-walked core f g m n first second all threads one other apart) of_first of_second (state_of second.machine)
    (of-leg core n g all second (λ t s. leg_end core t g.steps g.turns s) other
    ∙ halted-in core g all second other.gone none)

pub told-past : (core : Core) (f g : LegTaken) (m n m1 m2 : MethodId) (first second : Walk) (all : Bool)
    (start one_more objects : List StartPath) → f.thread + g.thread ≡ 1 → m ≡ entry_of f.thread m1 m2 →
    n ≡ entry_of g.thread m1 m2 → IsGone core m f true first → IsGone core n g all second → AreApart first second →
    all ≡ true → start ≡ [] → one_more ≡ gathered start first.given → objects ≡ gathered one_more second.given →
    AreRead core (leg_of f) (leg_of g) (begun core m1 m2 All) objects
told-past core f g m n m1 m2 first second all start one_more objects threads of_first of_second one other apart past
    none more grown =
    let along : IsAlong core first f.steps f.turns one.gone.0 = one.gone.1 in
    let rest = whole-in core g all second other.gone past in
    let reads = leg_reads core f.thread f.steps f.turns (begun core m m All) in
    let others = leg_reads core g.thread g.steps g.turns (begun core n n All) in
    let given : first.given ≡ gathered [] reads =
    along.given ∙ ap (gathered []) (sym (of-leg core m f true first (λ t s. leg_reads core t f.steps f.turns s) one)) in
    let given_second : second.given ≡ gathered [] others =
    rest.1.given
    ∙ ap (gathered []) (sym (of-leg core n g all second (λ t s. leg_reads core t g.steps g.turns s) other)) in
    let all_read : objects ≡ gathered (gathered [] reads) others =
    grown
    ∙ (λ i. gathered (more i) (given_second i))
    ∙ gathered-again (gathered start first.given) others
    ∙ (λ i. gathered (gathered (none i) (given i)) others)
    ∙ ap (λ (xs : List StartPath). gathered xs others) (gathered-again [] reads) in
    record {
      confirmed =
          ap (λ (xs : List StartPath). Confirmed xs (leg_of f ∷ leg_of g ∷ [])) all_read
          ∙ walked-both core (leg_of f) (leg_of g) m n m1 m2
          (are-walked core f g m n first second all threads one other apart) of_first of_second
          (state_of second.machine)
          (of-leg core n g all second (λ t s. leg_end core t g.steps g.turns s) other
          ∙ goes-past core second.thread g.steps g.turns (entry_state core second) (state_of second.machine) rest.0
          rest.1.goes);
      few =
          few-gathered core f.thread g.thread f.steps g.steps f.turns g.turns (begun core m m All) (begun core n n All)
          objects all_read f.few_steps g.few_steps;
    }
