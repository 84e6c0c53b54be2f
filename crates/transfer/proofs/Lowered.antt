-- What code found over the upper values of a stack, with the others put back below them.
use Rattle.std.proofs.Common.{◌≡◌, ℕ, Bool, true, false, List, [], ◌∷◌, ◌++◌, Option, map, refl}
use Rattle.std.proofs.Common.{sym, ap, subst, ◌∙◌}
use Rattle.std.specs.Prelude.{Result, Ok, Err, OnOk, option_map}
use Rattle.std.proofs.lemmas.List.{map-append}
use Rattle.access_paths.specs.declared.path.Path.{Path}
use Rattle.access_paths.specs.Table.{GoesOn}
use Rattle.owner_domain.specs.declared.value.Value.{Value}
use Rattle.owner_domain.specs.declared.value.State.{State}
use Rattle.owner_domain.specs.declared.numbered.NumberedValue.{NumberedValue}
use Rattle.owner_domain.specs.declared.numbered.NumberedState.{NumberedState}
use Rattle.owner_domain.specs.Numbered.{read_value, read_state, AllInRange, AreInRange}
use Rattle.core_code.specs.Tree.{Tree}
use Rattle.access_domain.specs.FlowContext.{FlowContext}
use Rattle.access_domain.specs.Operations.{Effects}
use Rattle.access_domain.specs.Flow.{flow}
use Rattle.transfer_loops.specs.Resuming.{Heads}
use Rattle.transfer_bodies.specs.Reaching.{above, all_above}
use Rattle.transfer_steps.specs.declared.found.Found.{Found}
use Rattle.transfer_steps.specs.declared.found.Stop.{Stop}
use Rattle.transfer_steps.specs.declared.found.Stop.TheVariants.{Large, Memory}
use Rattle.transfer_steps.specs.declared.numbered_found.NumberedFound.{NumberedFound}
use Rattle.transfer.specs.declared.resuming.Passed.{Passed}
use Rattle.owner_domain.specs.Slots.{numbers_above}
use Rattle.transfer.specs.Lifts.{IsLifted, IsLowered}
use Rattle.transfer_steps.specs.Marks.{IsStopped}
use Rattle.transfer_steps.specs.Numbered.{IsFlowOf}
use Rattle.transfer.specs.Resumes.{heads_in, IsResumed}
use Rattle.transfer_steps.specs.Walks.{IsFlow, next_of}
use Rattle.transfer_steps.proofs.Readings.{values-longer, all-longer}
use Rattle.transfer_steps.proofs.SlotsRead.{append-in}

-- what is read, with values below it
pub read-above : (table : List Path) (under : List NumberedValue) (s : NumberedState) →
    read_state table (numbers_above under s) ≡ above (map (read_value table) under) (read_state table s)
read-above table under s =
    (λ i. record {
      vars = map (read_value table) s.vars;
      stack = map-append (read_value table) s.stack under i;
    })

-- ---- ranges

upper-in : (table : List Path) (xs ys : List NumberedValue) → AllInRange table (xs ++ ys) → AllInRange table xs
upper-in table [] ys low = tt
upper-in table (x ∷ xs) ys low = (low.0, upper-in table xs ys low.1)

lower-in : (table : List Path) (xs ys : List NumberedValue) → AllInRange table (xs ++ ys) → AllInRange table ys
lower-in table [] ys low = low
lower-in table (x ∷ xs) ys low = lower-in table xs ys low.1

next-above : (us : List Value) (b : Bool) (s : State) → option_map (above us) (next_of b s) ≡ next_of b (above us s)
next-above us true s = refl
next-above us false s = refl

stopped-above : (found : Found) (e : Effects) (us : List Value) (stop : Stop) → IsStopped found e stop →
    IsStopped found (all_above us e) stop
stopped-above found e us Large stopped = stopped
stopped-above found e us Memory stopped = tt

module _ (code : Tree) (under : List NumberedValue) (start low : NumberedState) (is : IsLifted code under start low)
    (older : List Path) (ready : AreInRange older start) where
  parted : AreInRange older (numbers_above under low)
  parted = subst (AreInRange older) is.is ready

  pub lifted-in : AreInRange older low
  lifted-in = (parted.0, upper-in older low.stack under parted.1)

  under-in : AllInRange older under
  under-in = lower-in older low.stack under parted.1

  pub lifted-ready : (found : NumberedFound) → IsFlowOf older start found → IsFlowOf older low found
  lifted-ready found before = record { once = before.once; state = lifted-in; noted = before.noted }

  pub lifted-stopped : (g : FlowContext) (locked : Bool) (found : Found) (stop : Stop) →
      IsStopped found (flow g code locked (read_state older low)) stop →
      IsStopped found (flow g code locked (read_state older start)) stop
  lifted-stopped g locked found stop stopped =
      subst (λ (e : Effects). IsStopped found e stop) (sym (is.effects g locked older))
      (stopped-above found (flow g code locked (read_state older low)) (map (read_value older) under) stop stopped)

  module _ (newer : List Path) (on : GoesOn older newer) (mid new : NumberedState) where
    end-read : (b : Bool) → new ≡ numbers_above under mid →
        option_map (above (map (read_value older) under)) (next_of b (read_state newer mid)) ≡ next_of b
        (read_state newer new)
    end-read b made =
        ap (λ (us : List Value). option_map (above us) (next_of b (read_state newer mid)))
        (sym (values-longer older newer on under under-in))
        ∙ next-above (map (read_value newer) under) b (read_state newer mid)
        ∙ ap (next_of b) (sym (read-above newer under mid) ∙ ap (read_state newer) (sym made))

    pub lowered-in : AreInRange newer mid → new ≡ numbers_above under mid → AreInRange newer new
    lowered-in over made =
        subst (AreInRange newer) (sym made)
        (over.0, append-in newer mid.stack under over.1 (all-longer older newer on under under-in))

    module _ (ended r : Result Bool Stop) (done : IsLowered ended r (new ≡ numbers_above under mid)) where
      pub lowered-flow : (g : FlowContext) (locked : Bool) (old found : Found) →
          IsFlow (flow g code locked (read_state older low)) (read_state newer mid) old found ended →
          IsFlow (flow g code locked (read_state older start)) (read_state newer new) old found r
      lowered-flow g locked old found flows =
          subst (λ (e : Effects). IsFlow e (read_state newer new) old found r) (sym (is.effects g locked older))
          (each ended r done flows)
        where
          us : List Value
          us = map (read_value older) under

          below : Effects
          below = flow g code locked (read_state older low)

          each : (a b : Result Bool Stop) → IsLowered a b (new ≡ numbers_above under mid) →
              IsFlow below (read_state newer mid) old found a →
              IsFlow (all_above us below) (read_state newer new) old found b
          each (Ok a) (Ok b) (same, made) (next, noted) = (
            ap (option_map (above us)) next
                ∙ end-read a made
                ∙ ap (λ (x : Bool). next_of x (read_state newer new)) same,
            noted,
          )
          each (Ok a) (Err stop) memory flows = subst (IsStopped old (all_above us below)) (sym memory) tt
          each (Err stop) (Ok b) none flows = absurd none
          each (Err stop) (Err again) same flows =
              subst (IsStopped old (all_above us below)) same (stopped-above old below us stop flows)

      pub lowered-numbers : (found : NumberedFound) → OnOk ended (IsFlowOf newer mid found) →
          OnOk r (IsFlowOf newer new found)
      lowered-numbers found numbers = each ended r done numbers
        where
          each : (a b : Result Bool Stop) → IsLowered a b (new ≡ numbers_above under mid) →
              OnOk a (IsFlowOf newer mid found) → OnOk b (IsFlowOf newer new found)
          each (Ok a) (Ok b) (same, made) over =
              record { once = over.once; state = lowered-in over.state made; noted = over.noted }
          each (Ok a) (Err stop) memory over = tt
          each (Err stop) (Ok b) none over = absurd none
          each (Err stop) (Err again) same over = tt

      pub lowered-same : (P : Type 0) → OnOk ended P → OnOk r P
      lowered-same P over = each ended r done over
        where
          each : (a b : Result Bool Stop) → IsLowered a b (new ≡ numbers_above under mid) → OnOk a P → OnOk b P
          each (Ok a) (Ok b) done over = over
          each (Ok a) (Err stop) memory over = tt
          each (Err stop) (Ok b) none over = absurd none
          each (Err stop) (Err again) same over = tt

    pub lowered-resumed : (g : FlowContext) (locked : Bool) (k : ℕ) (old later : List (Option State)) (p : Passed) →
        IsResumed g code locked k (read_state older low) (read_state newer mid) old later (Ok p) →
        new ≡ numbers_above under mid →
        IsResumed g code locked k (read_state older start) (read_state newer new) old later (Ok p)
    lowered-resumed g locked k old later p m made =
        let h : Heads = heads_in old in
        let same = is.end g locked k h older in (
          ap (λ (e : Option State × Heads). e.0) same
              ∙ ap (option_map (above (map (read_value older) under))) m.0
              ∙ end-read p.goes_on made,
          m.1,
          (m.2.0 ∙ sym (ap (λ (e : Option State × Heads). e.1) same), m.2.1),
        )
