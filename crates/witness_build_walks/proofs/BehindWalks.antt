-- What a walk and a leg that is run behind it tell of two legs.
use Rattle.std.proofs.Common.{◌≡◌, ℕ, ◌+◌, true, List, [], ◌∷◌, Some, sym, ap, ◌∙◌}
use Rattle.racer_base.specs.declared.ids.MethodId.{MethodId}
use Rattle.core_code.specs.Core.{Core}
use Rattle.core_semantics.specs.declared.object.Start.TheVariants.{All}
use Rattle.core_semantics.specs.declared.object.StartPath.{StartPath}
use Rattle.core_semantics.specs.Behind.{begun_behind}
use Rattle.core_semantics.specs.Runs.{begun}
use Rattle.core_semantics.specs.State.{State, thread_of}
use Rattle.core_semantics.specs.View.{state_of}
use Rattle.core_ways.specs.declared.mark.Leg.{Leg as LegTaken}
use Rattle.core_ways.specs.Ends.{leg_end, leg_reads}
use Rattle.core_ways.specs.Gathered.{gathered}
use Rattle.core_ways.specs.Marks.{Confirmed, blocked_at, leg_of}
use Rattle.core_ways.proofs.Gathering.{gathered-again}
use Rattle.witness_build_apart_laws.specs.Goes.{leg_goes}
use Rattle.witness_build_apart_laws.specs.Starts.{entry_of}
use Rattle.witness_build_apart_laws.proofs.Behind.{behind-blocked, behind-confirmed}
use Rattle.witness_build_apart_laws.proofs.SaidByRun.{few-gathered}
use Rattle.witness_build_walks.specs.declared.walk.Walk.{Walk}
use Rattle.witness_build_walks.specs.declared.walks.Walked.{Walked}
use Rattle.witness_build_walks.specs.declared.walks.Walked.TheVariants as code
use Rattle.witness_build_walks.specs.Told.{IsGone, IsRunOn, IsTold}
use Rattle.witness_build_walks.specs.Walks.{IsAlong}
use Rattle.witness_build_walks.proofs.ApartWalks.{of-leg}

module _ (core : Core) (f g : LegTaken) (m n m1 m2 : MethodId) (w : Walk) (begins : State)
    (threads : f.thread + g.thread ≡ 1) (of_first : m ≡ entry_of f.thread m1 m2)
    (of_second : n ≡ entry_of g.thread m1 m2) (gone : IsGone core m f true w)
    (free : (thread_of (state_of w.machine) w.thread).locks ≡ [])
    (behind : begins ≡ begun_behind core n n (state_of w.machine).store) where
  along : IsAlong core w f.steps f.turns gone.gone.0
  along = gone.gone.1

  goes : leg_goes core f.thread f.steps f.turns (begun core m m All) ≡ Some (state_of w.machine, gone.gone.0)
  goes = of-leg core m f true w (λ t s. leg_goes core t f.steps f.turns s) gone ∙ along.goes

  still-free : (thread_of (state_of w.machine) f.thread).locks ≡ []
  still-free = ap (λ (t : ℕ). (thread_of (state_of w.machine) t).locks) (sym gone.thread) ∙ free

  given : w.given ≡ gathered [] (leg_reads core f.thread f.steps f.turns (begun core m m All))
  given =
      along.given
      ∙ ap (gathered []) (sym (of-leg core m f true w (λ t s. leg_reads core t f.steps f.turns s) gone))

  pub told-on : (before objects : List StartPath) (walked : Walked) → before ≡ [] →
      IsRunOn core (leg_of g) begins w.given before objects walked →
      IsTold core (leg_of f) (leg_of g) (begun core m1 m2 All) objects walked
  told-on before objects (code.Stopped thread at) none told =
      (λ i. blocked_at (told.2 i) (told.3 i))
      ∙ behind-blocked core (leg_of f) (leg_of g) m n m1 m2 (state_of w.machine) gone.gone.0 threads of_first of_second
      goes still-free told.0
      (ap (λ (s : State). leg_end core g.thread g.steps g.turns s) (sym behind) ∙ told.1)
  told-on before objects code.Past none told =
      let reads = leg_reads core f.thread f.steps f.turns (begun core m m All) in
      let others = leg_reads core g.thread g.steps g.turns (begun_behind core n n (state_of w.machine).store) in
      let all_read : objects ≡ gathered (gathered [] reads) others =
      told.2
      ∙ (λ i. gathered (gathered (none i) (given i)) (leg_reads core g.thread g.steps g.turns (behind i)))
      ∙ ap (λ (xs : List StartPath). gathered xs others) (gathered-again [] reads) in
      record {
        confirmed =
            ap (λ (xs : List StartPath). Confirmed xs (leg_of f ∷ leg_of g ∷ [])) all_read
            ∙ behind-confirmed core (leg_of f) (leg_of g) m n m1 m2 (state_of w.machine) gone.gone.0 threads of_first
            of_second goes still-free told.0
            (ap (λ (s : State). leg_end core g.thread g.steps g.turns s) (sym behind) ∙ told.1);
        few =
            few-gathered core f.thread g.thread f.steps g.steps f.turns g.turns (begun core m m All)
            (begun_behind core n n (state_of w.machine).store) objects all_read f.few_steps g.few_steps;
      }
  told-on before objects code.Unknown none told = absurd told
