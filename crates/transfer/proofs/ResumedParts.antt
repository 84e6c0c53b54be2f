-- Parts that are resumed one after another: where they end.
use Rattle.std.proofs.Common.{◌≡◌, ℕ, ◌+◌, ◌≤◌, Bool, true, false, List, Option, length, map, sym, ap, subst, ◌∙◌}
use Rattle.std.proofs.Common.{arith}
use Rattle.std.specs.Prelude.{Result, Ok, Err, IfOk}
use Rattle.racer_base.specs.declared.out_of_memory.Memory.{Memory}
use Rattle.owner_domain.specs.declared.value.State.{State}
use Rattle.core_code.specs.declared.code.Code.{Code}
use Rattle.core_code.specs.Tree.{Tree, Seq, Skip, tree_of, in_sequence}
use Rattle.access_domain.specs.FlowContext.{FlowContext}
use Rattle.transfer_loops.specs.Resuming.{Heads, resumed, loops}
use Rattle.transfer.specs.declared.resuming.Passed.{Passed}
use Rattle.transfer.specs.Resumes.{heads_in, IsResumed}
use Rattle.transfer.proofs.Resumptions.{through-ends}

module _ (g : FlowContext) (all : Tree) (locked : Bool) (k from : ℕ) (s start : State)
    (old begin : List (Option State)) where
  -- no part is left
  pub through-done : (rest : Tree) → rest ≡ Skip →
      resumed g rest locked k (heads_in old) s ≡ resumed g all locked from (heads_in begin) start →
      k + loops rest ≡ from + loops all → length old ≡ length begin →
      IsResumed g all locked from start s begin old (Ok (record { next = k; goes_on = true }))
  through-done rest none same number long =
      let end = sym (ap (λ (t : Tree). resumed g t locked k (heads_in old) s) none) ∙ same in
      let zero_left : loops rest ≡ 0 = ap loops none in (
        sym (ap (λ (e : Option State × Heads). e.0) end),
        omega arith,
        (ap (λ (e : Option State × Heads). e.1) end, long),
      )

  -- the parts behind one that does not go on are passed over
  pub through-passed : (first rest whole : Tree) (here : State) (new : List (Option State)) (p : Passed)
      (r : Result Passed Memory) → whole ≡ Seq first rest →
      IsResumed g first locked k s here old new (Ok p) → p.goes_on ≡ false →
      k + loops whole ≡ from + loops all → length old ≡ length begin →
      resumed g whole locked k (heads_in old) s ≡ resumed g all locked from (heads_in begin) start →
      IfOk r (λ q. (q.next ≡ p.next + loops rest) × (q.goes_on ≡ false)) →
      IsResumed g all locked from start here begin new r
  through-passed first rest whole here new p (Ok q) is m ends number long same passed =
      through-ends g first rest whole locked k from s here start old new begin p is m all q ends passed.1 passed.0
      number
      long same
  through-passed first rest whole here new p (Err e) is m ends number long same passed = tt

-- room for the loops behind the first part
pub room-right : (k a b n p m : ℕ) → k + (a + b) ≤ n → p ≡ k + a → m ≡ n → p + b ≤ m
room-right k a b n p m room next long = omega arith

-- what is said of the parts behind, however they are cut off
pub passed-behind : (qs rest : List Code) (n : ℕ) (r : Result Passed Memory) →
    IfOk r (λ q. (q.next ≡ n + loops (in_sequence (map tree_of qs))) × (q.goes_on ≡ false)) → qs ≡ rest →
    IfOk r (λ q. (q.next ≡ n + loops (in_sequence (map tree_of rest))) × (q.goes_on ≡ false))
passed-behind qs rest n r is same =
    subst (λ (ps : List Code). IfOk r (λ q. (q.next ≡ n + loops (in_sequence (map tree_of ps)))
    × (q.goes_on ≡ false))) same is
