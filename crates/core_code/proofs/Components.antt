-- Numbers of components tell which methods lie on a cycle, those that call one of their own number; and where there is
-- none, they fall along calls.
use Rattle.std.proofs.Common.{◌≡◌, ℕ, ◌<◌, ◌≤◌, Bool, true, false, inl, inr, List, [], ◌∷◌, length, sym, ◌∙◌}
use Rattle.std.proofs.Common.{arith, nat_eq}
use borrow.Author.Tests.{eqb-true}
use Rattle.std.proofs.lemmas.Bool.{cases_lt, eq-eqb}
use Rattle.std.proofs.lemmas.List.{get_or_past}
use Rattle.racer_base.specs.declared.ids.MethodId.{MethodId}
use Rattle.core_code.specs.Chains.{row_of, Calls, IsChain, IsOnCycle, flag_of, TellCycles}
use Rattle.core_code.specs.Falling.{number_of, DoFall}
use Rattle.core_code.specs.Walks.{AreComponents, AreStays, stays_at}
use Rattle.core_code.proofs.Members.{passing, passes}
use Rattle.core_code.proofs.ChainLemmas.{call_then, caller_in_range}

module _ (rows : List (List MethodId)) (numbers : List ℕ) (c : AreComponents rows numbers) where
  chain_falls : (m : MethodId) (between : List MethodId) (n : MethodId) → IsChain rows m between n →
      number_of numbers n ≤ number_of numbers m
  chain_falls m [] n chain = c.never_rise m n chain
  chain_falls m (next ∷ between) n chain =
      let first : number_of numbers next ≤ number_of numbers m = c.never_rise m next chain.0 in
      let others : number_of numbers n ≤ number_of numbers next = chain_falls next between n chain.1 in
      omega arith

  stays_by : (m n : MethodId) → Calls rows m n → number_of numbers m ≤ number_of numbers n →
      stays_at rows numbers m.0 ≡ true
  stays_by m n call back =
      let no_more : number_of numbers n ≤ number_of numbers m = c.never_rise m n call in
      passes (λ (k : MethodId). nat_eq (number_of numbers k) (number_of numbers m)) (row_of rows m) n call
      (eq-eqb (number_of numbers n) (number_of numbers m) (omega arith))

  cycle_stays : (m : MethodId) → IsOnCycle rows m → stays_at rows numbers m.0 ≡ true
  cycle_stays m ([], chain) = stays_by m m chain (omega arith)
  cycle_stays m (next ∷ between, chain) = stays_by m next chain.0 (chain_falls next between m chain.1)

  pub stays_cycle : (m : MethodId) → stays_at rows numbers m.0 ≡ true → IsOnCycle rows m
  stays_cycle m h =
      let n = passing (λ (k : MethodId). nat_eq (number_of numbers k) (number_of numbers m)) (row_of rows m) h in
      let low : m.0 < length rows = caller_in_range rows m n.0 n.1 in
      let same : number_of numbers n.0 ≡ number_of numbers m =
      eqb-true (number_of numbers n.0) (number_of numbers m) n.2 in
      let some : 0 < number_of numbers m = c.there m low in
      call_then rows m n.0 m n.1 (c.together n.0 m (omega arith) same)

  pub tell_cycles : (flags : List Bool) → length flags ≡ length rows → AreStays rows numbers (length rows) flags →
      TellCycles rows flags
  tell_cycles flags length_is are m =
      elim (cases_lt m.0 (length rows)) as (λ _. (flag_of flags m ≡ true → IsOnCycle rows m)
      × (IsOnCycle rows m → flag_of flags m ≡ true)) [
        | inl low ↦ (
          (λ (h : flag_of flags m ≡ true). stays_cycle m (sym (are m.0 low) ∙ h)),
          (λ (k : IsOnCycle rows m). are m.0 low ∙ cycle_stays m k),
        )
        | inr high ↦ (
          (λ (h : flag_of flags m ≡ true).
              let none : flag_of flags m ≡ false = get_or_past flags m.0 false (omega arith) in cc),
          (λ (k : IsOnCycle rows m). absurd (out_of_range m high k)),
        )
      ]
    where
      out_of_range : (m : MethodId) → length rows ≤ m.0 → IsOnCycle rows m → ⊥
      out_of_range m high ([], chain) = let low : m.0 < length rows = caller_in_range rows m m chain in omega arith
      out_of_range m high (next ∷ between, chain) =
          let low : m.0 < length rows = caller_in_range rows m next chain.0 in omega arith

  pub do_fall : ((k : ℕ) → k < length rows → stays_at rows numbers k ≡ false) → DoFall rows numbers
  do_fall none m n call =
      elim (cases_lt (number_of numbers n) (number_of numbers m)) [
        | inl less ↦ less
        | inr more ↦
            absurd (
            let stays : stays_at rows numbers m.0 ≡ true = stays_by m n call more in
            let not : stays_at rows numbers m.0 ≡ false = none m.0 (caller_in_range rows m n call) in
            cc)
      ]
