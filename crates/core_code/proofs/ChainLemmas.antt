-- Chains of calls one after another.
use Rattle.std.proofs.Common.{◌≡◌, ◌⊎◌, inl, inr, ⊎_elim, List, [], ◌∷◌, ◌++◌, ◌<◌, length, subst, sym, ap, arith}
use Rattle.std.proofs.lemmas.Bool.{cases_lt}
use Rattle.std.proofs.lemmas.List.{get_or_past}
use Rattle.racer_base.specs.declared.ids.MethodId.{MethodId}
use Rattle.core_code.specs.Chains.{row_of, Calls, IsChain}

-- a method is another, or a chain leads from it to that one
abbrev pub Leads : List (List MethodId) → MethodId → MethodId → Type 0
Leads rows m n = (m ≡ n) ⊎ ((between : List MethodId) × IsChain rows m between n)

module _ (rows : List (List MethodId)) where
  pub chain-append : (a : MethodId) (xs : List MethodId) (b : MethodId) (ys : List MethodId) (c : MethodId) →
      IsChain rows a xs b → IsChain rows b ys c → IsChain rows a (xs ++ b ∷ ys) c
  chain-append a [] b ys c first others = (first, others)
  chain-append a (x ∷ xs) b ys c first others = (first.0, chain-append x xs b ys c first.1 others)

  -- a call, and what it leads to
  pub call_then : (m n k : MethodId) → Calls rows m n → Leads rows n k →
      (between : List MethodId) × IsChain rows m between k
  call_then m n k call leads =
      ⊎_elim
      (λ (e : n ≡ k). ([], subst (λ (x : MethodId). Calls rows m x) e call))
      (λ (r : (between : List MethodId) × IsChain rows n between k). (n ∷ r.0, (call, r.1)))
      leads

  -- what leads to a method, and a call of it
  pub then_call : (m n k : MethodId) → Leads rows m n → Calls rows n k →
      (between : List MethodId) × IsChain rows m between k
  then_call m n k leads call =
      ⊎_elim
      (λ (e : m ≡ n). ([], subst (λ (x : MethodId). Calls rows x k) (sym e) call))
      (λ (r : (between : List MethodId) × IsChain rows m between n).
      (r.0 ++ n ∷ [], chain-append m r.0 n [] k r.1 call))
      leads

  pub leads_on : (m n k : MethodId) → Leads rows m n → Leads rows n k → Leads rows m k
  leads_on m n k first others =
      ⊎_elim
      (λ (e : m ≡ n). subst (λ (x : MethodId). Leads rows x k) (sym e) others)
      (λ (r : (between : List MethodId) × IsChain rows m between n).
      ⊎_elim
      (λ (e : n ≡ k). inr (r.0, subst (λ (x : MethodId). IsChain rows m r.0 x) e r.1))
      (λ (s : (between : List MethodId) × IsChain rows n between k).
      inr (r.0 ++ n ∷ s.0, chain-append m r.0 n s.0 k r.1 s.1))
      others)
      first

  -- what calls has a row
  pub caller_in_range : (m n : MethodId) → Calls rows m n → m.0 < length rows
  caller_in_range m n call =
      elim (cases_lt m.0 (length rows)) [
        | inl low ↦ low
        | inr high ↦
            let empty : row_of rows m ≡ [] = get_or_past rows m.0 [] high in
            let none : length (row_of rows m) ≡ 0 = ap (λ (row : List MethodId). length row) empty in
            let some : call.0 < length (row_of rows m) = call.1 in
            absurd (omega arith)
      ]
