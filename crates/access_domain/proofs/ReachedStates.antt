-- What a flow comes to: each of its records is one of an operation of the code, in a state that the flow comes to.
use Rattle.std.proofs.Common.{◌≡◌, ◌+◌, Bool, true, ◌⊎◌, inl, inr, ⊎_elim, None, Some, length, refl}
use Rattle.owner_domain.specs.declared.value.State.{State}
use Rattle.core_code.specs.Tree.{Tree, Op, Skip, Seq, Choice, Loop, Sync, Operation, steps_of}
use Rattle.core_code.proofs.Membership.{In, in_append, in_left, in_right}
use Rattle.access_domain.specs.declared.access.Access.{Access}
use Rattle.access_domain.specs.Flow.{both, after, rounds, flow}
use Rattle.access_domain.specs.FlowContext.{FlowContext}
use Rattle.access_domain.specs.Operations.{Effects, popped, op_effects}

-- an operation, whether it stands within a lock, and the state before it
pub record Spot : Type 0 where
  pub operation : Operation
  pub held : Bool
  pub state : State

abbrev pub spot_of : Operation → Bool → State → Spot
spot_of o held s = record { operation = o; held = held; state = s }

abbrev pub last_round : FlowContext → Tree → Bool → State → State
last_round g body locked s = (rounds (flow g body locked) (length s.vars + length s.stack + 1) s).0

-- the flow of code from a state, within a lock or not, comes to this spot
abbrev pub ComesTo : FlowContext → Tree → Bool → State → Spot → Type 0
ComesTo g (Op site place op) locked s x = spot_of (record { site = site; place = place; op = op }) locked s ≡ x
ComesTo g Skip locked s x = ⊥
ComesTo g (Seq first rest) locked s x =
    ComesTo g first locked s x
    ⊎ ((t : State) × ((flow g first locked s).next ≡ Some t) × ComesTo g rest locked t x)
ComesTo g (Choice left right) locked s x = ComesTo g left locked s x ⊎ ComesTo g right locked s x
ComesTo g (Loop body) locked s x = ComesTo g body locked (last_round g body locked s) x
ComesTo g (Sync lock body) locked s x = ComesTo g body true (popped s 1) x

-- a record is one of the operation at this spot
abbrev pub Gives : FlowContext → Access → Spot → Type 0
Gives g a x = In (op_effects g x.held x.operation.site x.operation.op x.state).records a

-- a record of one part and then another is one of the first, or of the second where the first goes on
either_part : (first : Effects) (rest : State → Effects) (a : Access) → In (after first rest).records a →
    In first.records a ⊎ ((t : State) × (first.next ≡ Some t) × In (rest t).records a)
either_part first rest a h =
    elim first.next as (λ o. first.next ≡ o →
    In (elim o as (λ _. Effects) [ None ↦ first | Some t ↦ both first (rest t) ]).records a →
    In first.records a ⊎ ((t : State) × (first.next ≡ Some t) × In (rest t).records a)) [
      | None ↦ λ is there. inl there
      | Some t ↦ λ is there.
          ⊎_elim (λ l. inl l) (λ r. inr (t, is, r)) (in_append first.records (rest t).records a there)
    ] refl h

-- each record of a flow is one of a spot that the flow comes to
pub record_spot : (g : FlowContext) (code : Tree) (locked : Bool) (s : State) (a : Access) →
    In (flow g code locked s).records a → (x : Spot) × ComesTo g code locked s x × Gives g a x
record_spot g (Op site place op) locked s a h =
    (spot_of (record { site = site; place = place; op = op }) locked s, refl, h)
record_spot g Skip locked s a h = absurd h
record_spot g (Seq first rest) locked s a h =
    ⊎_elim
    (λ l. let x = record_spot g first locked s a l in (x.0, inl x.1, x.2))
    (λ r. let x = record_spot g rest locked r.0 a r.2 in (x.0, inr (r.0, r.1, x.1), x.2))
    (either_part (flow g first locked s) (flow g rest locked) a h)
record_spot g (Choice left right) locked s a h =
    ⊎_elim
    (λ l. let x = record_spot g left locked s a l in (x.0, inl x.1, x.2))
    (λ r. let x = record_spot g right locked s a r in (x.0, inr x.1, x.2))
    (in_append (flow g left locked s).records (flow g right locked s).records a h)
record_spot g (Loop body) locked s a h = record_spot g body locked (last_round g body locked s) a h
record_spot g (Sync lock body) locked s a h = record_spot g body true (popped s 1) a h

-- its operation stands in the code
pub spot_stands : (g : FlowContext) (code : Tree) (locked : Bool) (s : State) (x : Spot) → ComesTo g code locked s x →
    In (steps_of code) x.operation
spot_stands g (Op site place op) locked s x h = inl (λ i. (h i).operation)
spot_stands g Skip locked s x h = absurd h
spot_stands g (Seq first rest) locked s x h =
    ⊎_elim
    (λ l. in_left (steps_of first) (steps_of rest) x.operation (spot_stands g first locked s x l))
    (λ r. in_right (steps_of first) (steps_of rest) x.operation (spot_stands g rest locked r.0 x r.2)) h
spot_stands g (Choice left right) locked s x h =
    ⊎_elim
    (λ l. in_left (steps_of left) (steps_of right) x.operation (spot_stands g left locked s x l))
    (λ r. in_right (steps_of left) (steps_of right) x.operation (spot_stands g right locked s x r)) h
spot_stands g (Loop body) locked s x h = spot_stands g body locked (last_round g body locked s) x h
spot_stands g (Sync lock body) locked s x h = spot_stands g body true (popped s 1) x h
