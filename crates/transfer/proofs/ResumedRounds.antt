-- Rounds that are resumed one after another.
use Rattle.std.proofs.Common.{◌≡◌, ℕ, zero, suc, ◌+◌, ◌-◌, ◌<◌, ◌∷◌, [], arith, Bool, true, false, not, cond, List}
use Rattle.std.proofs.Common.{Option, None, Some, length, nat_eq, refl, sym, ap, subst, ◌∙◌}
use Rattle.std.specs.Prelude.{Ok, slice_set, slice_index_or}
use Rattle.std.proofs.lemmas.Bool.{eqb-true, eq-eqb}
use Rattle.std.proofs.lemmas.List.{length-set}
use Rattle.owner_domain.specs.declared.value.State.{State}
use Rattle.core_code.specs.Tree.{Tree, Loop}
use Rattle.access_domain.specs.FlowContext.{FlowContext}
use Rattle.transfer_loops.specs.Rounds.{round_next, same_state}
use Rattle.transfer_loops.specs.Resuming.{Heads, resumed, loops, is_settled, iterated, put_head, kept_head, entered}
use Rattle.transfer_loops.proofs.Settled.{same_state-equal}
use Rattle.owner_domain.specs.Values.{joined_state}
use Rattle.transfer.specs.declared.resuming.Passed.{Passed}
use Rattle.transfer.specs.Resumes.{heads_in, IsResumed, IsRound, AreResumedRounds}
use Rattle.transfer_steps.specs.Walks.{next_of}
use Rattle.transfer.proofs.SameValues.{same-itself}
use Rattle.racer_base.proofs.Tests.{different}

abbrev Go : Type 0
Go = Heads → State → Option State × Heads

-- a body that does not go on leaves the state as it was
pub ended_round : (g : FlowContext) (body : Tree) (locked : Bool) (k : ℕ) (s x end : State)
    (old new : List (Option State))
    (passed : Passed) → passed.goes_on ≡ false → x ≡ s → IsResumed g body locked k x end old new (Ok passed) →
    IsRound g body locked k s s old new (Ok (passed.next, false))
ended_round g body locked k s x end old new passed ends same m =
    let at : IsResumed g body locked k s end old new (Ok passed) =
    subst (λ (y : State). IsResumed g body locked k y end old new (Ok passed)) same m in
    let none : (resumed g body locked k (heads_in old) s).0 ≡ None = at.0 ∙ ap (λ (b : Bool). next_of b end) ends in
    (sym (ap (round_next s) none), sym (ap not (same-itself s)), at.1, at.2)

-- one that goes on is joined with it
pub joined_round : (g : FlowContext) (body : Tree) (locked : Bool) (k : ℕ) (s x end here : State)
    (old new : List (Option State))
    (passed : Passed) (changed : Bool) → passed.goes_on ≡ true → x ≡ s →
    IsResumed g body locked k x end old new (Ok passed) → here ≡ joined_state s end →
    changed ≡ not (same_state here s) → IsRound g body locked k s here old new (Ok (passed.next, changed))
joined_round g body locked k s x end here old new passed changed goes same m joined test =
    let at : IsResumed g body locked k s end old new (Ok passed) =
    subst (λ (y : State). IsResumed g body locked k y end old new (Ok passed)) same m in
    let some : (resumed g body locked k (heads_in old) s).0 ≡ Some end =
    at.0 ∙ ap (λ (b : Bool). next_of b end) goes in
    (joined ∙ sym (ap (round_next s) some), test, at.1, at.2)

flipped : (b c : Bool) → c ≡ not b → b ≡ not c
flipped true c e = sym (ap not e)
flipped false c e = sym (ap not e)

one_more : (go : Go) (n : ℕ) (h : Heads) (x : State) (b : Bool) → same_state (round_next x (go h x).0) x ≡ b →
    iterated go (suc n) h x ≡ cond b (x, (go h x).1) (iterated go n (go h x).1 (round_next x (go h x).0))
one_more go n h x b e = ap (λ c. cond c (x, (go h x).1) (iterated go n (go h x).1 (round_next x (go h x).0))) e

settled_by : (go : Go) (h : Heads) (x here : State) (changed : Bool) → here ≡ round_next x (go h x).0 →
    changed ≡ not (same_state here x) → changed ≡ false → is_settled go h x ≡ true
settled_by go h x here changed next test same =
    ap (λ (y : State). same_state y x) (sym next) ∙ flipped (same_state here x) changed test ∙ ap not same

moved_by : (go : Go) (h : Heads) (x here : State) (changed : Bool) → here ≡ round_next x (go h x).0 →
    changed ≡ not (same_state here x) → changed ≡ true → is_settled go h x ≡ false
moved_by go h x here changed next test moved =
    ap (λ (y : State). same_state y x) (sym next) ∙ flipped (same_state here x) changed test ∙ ap not moved

-- a round that changed something goes on
pub round_goes_on : (go : Go) (n left : ℕ) (h later : Heads) (x here : State) (changed : Bool) → left ≡ suc n →
    here ≡ round_next x (go h x).0 → changed ≡ not (same_state here x) → later ≡ (go h x).1 → changed ≡ true →
    iterated go n later here ≡ iterated go left h x
round_goes_on go n left h later x here changed e next test heads moved =
    let differs : same_state (round_next x (go h x).0) x ≡ false =
    ap (λ (y : State). same_state y x) (sym next) ∙ flipped (same_state here x) changed test ∙ ap not moved in
    (λ i. iterated go n (heads i) (next i)) ∙ sym (one_more go n h x false differs)
    ∙ ap (λ k. iterated go k h x) (sym e)

-- one that changed nothing is the last
pub round_ends : (go : Go) (n left : ℕ) (h later : Heads) (x here : State) (changed : Bool) → left ≡ suc n →
    here ≡ round_next x (go h x).0 → changed ≡ not (same_state here x) → later ≡ (go h x).1 → changed ≡ false →
    (here ≡ (iterated go left h x).0) × (later ≡ (iterated go left h x).1)
round_ends go n left h later x here changed e next test heads unchanged = let alike : same_state here x ≡ true =
    flipped (same_state here x) changed test ∙ ap not unchanged in
    let alike_next : same_state (round_next x (go h x).0) x ≡ true =
    ap (λ (y : State). same_state y x) (sym next) ∙ alike in let all : iterated go left h x ≡ (x, (go h x).1) =
    ap (λ k. iterated go k h x) e ∙ one_more go n h x true alike_next in (
      same_state-equal here x alike ∙ sym (ap (λ (p : State × Heads). p.0) all),
      heads
          ∙ sym (ap (λ (p : State × Heads). p.1) all),
    )

-- ---- heads in a list

set-head : (list : List (Option State)) (k i : ℕ) (x : State) → k < length list →
    heads_in (slice_set list k (Some x)) i ≡ put_head (heads_in list) k x i
set-head [] k i x low = absurd (omega arith)
set-head (h ∷ list) zero zero x low = refl
set-head (h ∷ list) zero (suc i) x low = ap (λ b. cond b (Some x) (heads_in list i))
    (sym (different (suc i) 0 (λ e. absurd (let z : suc i ≡ 0 = e in omega arith))))
set-head (h ∷ list) (suc k) zero x low = ap (λ b. cond b (Some x) h)
    (sym (different 0 (suc k) (λ e. absurd (let z : 0 ≡ suc k = e in omega arith))))
set-head (h ∷ list) (suc k) (suc i) x low = let l : suc k < suc (length list) = low in
    set-head list k i x (omega arith) ∙ ap (λ b. cond b (Some x) (heads_in list i)) (same_suc i k)
  where
    same_suc : (i k : ℕ) → nat_eq i k ≡ nat_eq (suc i) (suc k)
    same_suc i k = elim (nat_eq i k) as (λ b. nat_eq i k ≡ b → b ≡ nat_eq (suc i) (suc k)) [
      | true ↦ λ e. sym (eq-eqb (suc i) (suc k) (ap (λ n. suc n) (eqb-true i k e)))
      | false ↦ λ e. other e (nat_eq (suc i) (suc k)) refl
    ] refl
      where
        other : nat_eq i k ≡ false → (b : Bool) → nat_eq (suc i) (suc k) ≡ b → false ≡ b
        other e false f = refl
        other e true f = absurd (
            let same : suc i ≡ suc k = eqb-true (suc i) (suc k) f in
            let less : i ≡ k = omega arith in
            let yes : nat_eq i k ≡ true = eq-eqb i k less in cc)

pub heads-set : (list : List (Option State)) (k : ℕ) (x : State) → k < length list →
    heads_in (slice_set list k (Some x)) ≡ put_head (heads_in list) k x
heads-set list k x low = λ j i. set-head list k i x low j

-- a loop whose first round changed nothing keeps the head that there is
pub loop_kept : (g : FlowContext) (body : Tree) (locked : Bool) (k next rounds : ℕ) (s start here : State)
    (old now : List (Option State)) (changed : Bool) → rounds ≡ length s.vars + length s.stack + 1 →
    start ≡ entered (heads_in old k) s → IsRound g body locked (k + 1) start here old now (Ok (next, changed)) →
    changed ≡ false → IsResumed g (Loop body) locked k s here old now (Ok (record { next = next; goes_on = true }))
loop_kept g body locked k next rounds s start here old now changed all begun m same =
    let go : Go = resumed g body locked (suc k) in
    let h : Heads = heads_in old in
    let x = entered (h k) s in
    let left = length s.vars + length s.stack in
    let more : left + 1 ≡ suc left = omega arith in
    let one : k + 1 ≡ suc k = omega arith in
    let at : IsRound g body locked (suc k) x here old now (Ok (next, changed)) =
    subst (λ (y : State). IsRound g body locked (suc k) y here old now (Ok (next, changed))) begun
    (subst (λ (f : ℕ). IsRound g body locked f start here old now (Ok (next, changed))) one m) in
    let ends = round_ends go left (left + 1) h (heads_in now) x here changed more at.0 at.1 at.3.0 same in
    let settled : is_settled go h x ≡ true = settled_by go h x here changed at.0 at.1 same in
    let behind : next ≡ suc k + loops body = at.2 in (
      ap Some (sym ends.0),
      (let count : loops (Loop body) ≡ suc (loops body) = refl in omega arith),
      (
        ends.1 ∙ sym (ap (λ (b : Bool). kept_head b (iterated go (left + 1) h x).1 k (iterated go (left + 1) h x).0)
            settled),
        at.3.1,
      ),
    )

-- a loop that was resumed, with its head put down
pub loop_left : (g : FlowContext) (body : Tree) (locked : Bool) (k next rounds : ℕ) (s start first here : State)
    (old mid now new : List (Option State)) (changed : Bool) → rounds ≡ length s.vars + length s.stack + 1 →
    k < length old → start ≡ entered (heads_in old k) s →
    IsRound g body locked (k + 1) start first old mid (Ok (next, changed)) → changed ≡ true →
    AreResumedRounds g body locked (k + 1) (rounds - 1) first here mid now (Ok (tt {0})) →
    new ≡ slice_set now k (Some here) →
    IsResumed g (Loop body) locked k s here old new (Ok (record { next = next; goes_on = true }))
loop_left g body locked k next rounds s start first here old mid now new changed all low begun m moved rest put =
    let go : Go = resumed g body locked (suc k) in
    let h : Heads = heads_in old in
    let x = entered (h k) s in
    let left = length s.vars + length s.stack in
    let more : left + 1 ≡ suc left = omega arith in
    let less : rounds - 1 ≡ left = omega arith in
    let one : k + 1 ≡ suc k = omega arith in
    let at : IsRound g body locked (suc k) x first old mid (Ok (next, changed)) =
    subst (λ (y : State). IsRound g body locked (suc k) y first old mid (Ok (next, changed))) begun
    (subst (λ (f : ℕ). IsRound g body locked f start first old mid (Ok (next, changed))) one m) in
    let later : AreResumedRounds g body locked (suc k) left first here mid now (Ok (tt {0})) =
    subst (λ (f : ℕ). AreResumedRounds g body locked f left first here mid now (Ok (tt {0}))) one
    (subst (λ (n : ℕ). AreResumedRounds g body locked (k + 1) n first here mid now (Ok (tt {0}))) less rest) in
    let whole : iterated go left (heads_in mid) first ≡ iterated go (left + 1) h x =
    round_goes_on go left (left + 1) h (heads_in mid) x first changed more at.0 at.1 at.3.0 moved in
    let moves : is_settled go h x ≡ false = moved_by go h x first changed at.0 at.1 moved in
    let end : here ≡ (iterated go (left + 1) h x).0 = later.0 ∙ (λ i. (whole i).0) in
    let heads : heads_in now ≡ (iterated go (left + 1) h x).1 = later.1.0 ∙ (λ i. (whole i).1) in
    let long : length now ≡ length old = later.1.1 ∙ at.3.1 in
    let inside : k < length now = omega arith in
    let behind : next ≡ suc k + loops body = at.2 in (
      ap Some (sym end),
      (let count : loops (Loop body) ≡ suc (loops body) = refl in omega arith),
      (
        ap heads_in put ∙ heads-set now k here inside ∙ (λ i. put_head (heads i) k (end i))
            ∙ sym (ap (λ (b : Bool). kept_head b (iterated go (left + 1) h x).1 k (iterated go (left + 1) h x).0)
            moves),
        ap length put ∙ length-set now k (Some here) ∙ long,
      ),
    )

-- the element of an index that is in range does not depend on what stands for none
pub any_default : (list : List (Option State)) (i : ℕ) (d e : Option State) → i < length list →
    slice_index_or list i d ≡ slice_index_or list i e
any_default [] i d e low = absurd (omega arith)
any_default (h ∷ list) zero d e low = refl
any_default (h ∷ list) (suc i) d e low = let l : suc i < suc (length list) = low in any_default list i d e (omega arith)
