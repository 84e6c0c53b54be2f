-- Calls that were noted, read through a table: through a longer one they are the same.
use Rattle.std.proofs.Common.{◌≡◌, true, false, cond, List, [], ◌∷◌, ◌++◌, refl, sym, subst}
use Rattle.std.specs.List.{list_any}
use Rattle.indexmap.specs.IndexSet.{insert_key}
use Rattle.access_paths.specs.declared.path.Path.{Path}
use Rattle.access_paths.specs.Table.{GoesOn}
use Rattle.owner_domain.specs.Numbered.{AllInRange}
use Rattle.access_domain.specs.FlowContext.{FlowContext}
use Rattle.transfer_steps.specs.declared.found.Found.{Found}
use Rattle.transfer_steps.specs.declared.noted_calls.NotedCall.{NotedCall}
use Rattle.transfer_steps.specs.declared.numbered_found.NumberedFound.{NumberedFound}
use Rattle.transfer_steps.specs.NotedCalls.{same_call, AreFound, PassingCall}
use Rattle.transfer_steps.specs.Numbered.{read_call, read_calls, read_found, AreCallNumbers, AreFoundNumbers}
use Rattle.transfer_steps.proofs.Readings.{values-longer, all-longer, found-longer}

module _ (old new : List Path) (on : GoesOn old new) where
  pub call-longer : (c : NotedCall) → AllInRange old c.actuals → read_call new c ≡ read_call old c
  call-longer c low = λ i. record {
    callee = c.callee;
    locked = c.locked;
    actuals = values-longer old new on c.actuals low i;
  }

  pub calls-longer : (calls : List NotedCall) → AreCallNumbers old calls → read_calls new calls ≡ read_calls old calls
  calls-longer [] low = refl
  calls-longer (c ∷ calls) low = λ i. call-longer c low.0 i ∷ calls-longer calls low.1 i

  pub calls-still : (calls : List NotedCall) → AreCallNumbers old calls → AreCallNumbers new calls
  calls-still [] low = tt
  calls-still (c ∷ calls) low = (all-longer old new on c.actuals low.0, calls-still calls low.1)

  -- what calls find was found before, in a longer table too
  pub all-found-longer : (g : FlowContext) (calls : List NotedCall) (found : Found) → AreCallNumbers old calls →
      AreFound g (read_calls old calls) found → AreFound g (read_calls new calls) found
  all-found-longer g calls found low h =
      subst (λ (cs : List PassingCall). AreFound g cs found) (sym (calls-longer calls low)) h

called-last : (table : List Path) (calls : List NotedCall) (c : NotedCall) → AreCallNumbers table calls →
    AllInRange table c.actuals → AreCallNumbers table (calls ++ c ∷ [])
called-last table [] c low last = (last, tt)
called-last table (x ∷ calls) c low last = (low.0, called-last table calls c low.1 last)

-- one more call
pub called-put : (table : List Path) (calls : List NotedCall) (c : NotedCall) → AreCallNumbers table calls →
    AllInRange table c.actuals → AreCallNumbers table (insert_key same_call calls c)
called-put table calls c low last =
    elim (list_any (same_call c) calls) as (λ b. AreCallNumbers table (cond b calls (calls ++ c ∷ []))) [
      | true ↦ low
      | false ↦ called-last table calls c low last
    ]

-- what was found of calls is found of them in a longer table
pub calls-ready : (old new : List Path) → GoesOn old new → (g : FlowContext) (calls : List NotedCall)
    (f : NumberedFound) → AreCallNumbers old calls → AreFoundNumbers old f →
    AreFound g (read_calls old calls) (read_found old f) → AreFound g (read_calls new calls) (read_found new f)
calls-ready old new on g calls f called low h =
    subst (AreFound g (read_calls new calls)) (sym (found-longer old new on f low))
    (all-found-longer old new on g calls (read_found old f) called h)
