-- Methods that are passed or entered have smaller ranks.
use Rattle.std.proofs.Common.{◌≡◌, ℕ, zero, suc, ◌+◌, ◌<◌, Bool, true, false, cond, ◌&&◌, ◌||◌, List, [], ◌∷◌, ◌++◌}
use Rattle.std.proofs.Common.{Option, None, Some, is_none, is_some, nat_lt}
use Rattle.std.proofs.Common.{refl, sym, ap, subst, ◌∙◌, append_assoc}
use Rattle.std.proofs.Math.Nat.{zero-add}
use Rattle.std.proofs.lemmas.Bool.{ltb-true, and_parts}
use Rattle.std.proofs.lemmas.List.Folds.{list_all-append}
use Rattle.std.specs.List.{list_all, flat_map, find}
use Rattle.racer_base.specs.declared.ids.MethodId.{MethodId}
use Rattle.racer_base.specs.declared.ids.Place.{Place}
use Rattle.racer_base.specs.declared.ids.SiteId.{SiteId}
use Rattle.core_code.specs.declared.code.Op.{Op as CoreOp}
use Rattle.core_code.specs.declared.code.Op.TheVariants.{Call, Unread as UnreadCall, Ret}
use Rattle.core_code.specs.declared.code.Reason.{Reason}
use Rattle.core_code.specs.Calls.{called_by, method_at, rank_of}
use Rattle.core_code.specs.CallFacts.{is_above, has_ranks}
use Rattle.core_code.specs.Core.{Core}
use Rattle.core_code.specs.Tree.{Tree, Op, Skip, Seq, Choice, Loop, Sync, Operation}
use Rattle.core_code.specs.Tree.{can_end, can_return, op_at, steps_of}
use Rattle.core_code.proofs.NoCycles.{numbered}
use Rattle.core_semantics.specs.declared.answer.Turn.TheVariants.{Left, Right}
use Rattle.core_ways.specs.declared.part.WayPart.{WayPart}
use Rattle.core_ways.specs.declared.part.WayPart.TheVariants.{Step, Branched}
use Rattle.core_ways.specs.Ways.{code_at, goes_past, parts_of, passed, passed_op, to_return}
use Rattle.core_ways.proofs.Trips.{EachPassed, each-append, each-steps}

abbrev calls_of_ops : List Operation → List MethodId
calls_of_ops = flat_map (λ (o : Operation). called_by o.op)

abbrev pub do_pass : (MethodId → Bool) → List Operation → Bool
do_pass test ops = list_all test (calls_of_ops ops)

calls-append : (xs ys : List Operation) → calls_of_ops (xs ++ ys) ≡ calls_of_ops xs ++ calls_of_ops ys
calls-append [] ys = refl
calls-append (x ∷ xs) ys =
    ap (λ (ms : List MethodId). called_by x.op ++ ms) (calls-append xs ys)
    ∙ sym (append_assoc (called_by x.op) (calls_of_ops xs) (calls_of_ops ys))

pub pass-both : (test : MethodId → Bool) (xs ys : List Operation) → do_pass test (xs ++ ys) ≡ true →
    (do_pass test xs && do_pass test ys) ≡ true
pass-both test xs ys all =
    sym (ap (list_all test) (calls-append xs ys) ∙ list_all-append test (calls_of_ops xs) (calls_of_ops ys)) ∙ all

module _ (P : MethodId → Type 0) (test : MethodId → Bool) (holds : (m : MethodId) → test m ≡ true → P m) where
  each-op : (locks : ℕ) (place : Place) (op : CoreOp) → list_all test (called_by op ++ []) ≡ true →
      EachPassed P (passed_op locks place op)
  each-op locks place Ret all = each-steps P (suc locks)
  each-op locks place (Call m n) all = (holds m (and_parts (test m) true all).0, tt)
  each-op locks place (UnreadCall m n) all = tt
  each-op locks place _ all = tt

  either : (b : Bool) (xs ys : List WayPart) → EachPassed P xs → EachPassed P ys → EachPassed P (cond b xs ys)
  either true xs ys a b = a
  either false xs ys a b = b

  pub each-passed : (locks : ℕ) (code : Tree) → do_pass test (steps_of code) ≡ true → EachPassed P (passed locks code)
  each-passed locks (Op site place op) all = each-op locks place op all
  each-passed locks Skip all = tt
  each-passed locks (Seq first rest) all =
      let both = pass-both test (steps_of first) (steps_of rest) all in
      each-append P (passed locks first) (cond (can_end first) (passed locks rest) [])
      (each-passed locks first (and_parts (do_pass test (steps_of first)) (do_pass test (steps_of rest)) both).0)
      (either (can_end first) (passed locks rest) []
      (each-passed locks rest (and_parts (do_pass test (steps_of first)) (do_pass test (steps_of rest)) both).1) tt)
  each-passed locks (Choice left right) all =
      let both = pass-both test (steps_of left) (steps_of right) all in
      either (can_end right) (Branched Right ∷ passed locks right) (Branched Left ∷ passed locks left)
      (each-passed locks right (and_parts (do_pass test (steps_of left)) (do_pass test (steps_of right)) both).1)
      (each-passed locks left (and_parts (do_pass test (steps_of left)) (do_pass test (steps_of right)) both).0)
  each-passed locks (Loop body) all = tt
  each-passed locks (Sync lock body) all =
      each-append P (passed (suc locks) body) (cond (can_end body) (Step ∷ []) []) (each-passed (suc locks) body all)
      (either (can_end body) (Step ∷ []) [] tt tt)

  pub each-back : (locks : ℕ) (code : Tree) → do_pass test (steps_of code) ≡ true → EachPassed P (to_return locks code)
  each-back locks (Op site place op) all = each-op locks place op all
  each-back locks Skip all = tt
  each-back locks (Seq first rest) all =
      let both = pass-both test (steps_of first) (steps_of rest) all in
      let early = (and_parts (do_pass test (steps_of first)) (do_pass test (steps_of rest)) both).0 in
      either (goes_past first rest) (passed locks first ++ to_return locks rest) (to_return locks first)
      (each-append P (passed locks first) (to_return locks rest) (each-passed locks first early)
      (each-back locks rest (and_parts (do_pass test (steps_of first)) (do_pass test (steps_of rest)) both).1))
      (each-back locks first early)
  each-back locks (Choice left right) all =
      let both = pass-both test (steps_of left) (steps_of right) all in
      either (can_return left) (Branched Left ∷ to_return locks left) (Branched Right ∷ to_return locks right)
      (each-back locks left (and_parts (do_pass test (steps_of left)) (do_pass test (steps_of right)) both).0)
      (each-back locks right (and_parts (do_pass test (steps_of left)) (do_pass test (steps_of right)) both).1)
  each-back locks (Loop body) all = each-back locks body all
  each-back locks (Sync lock body) all = each-back (suc locks) body all

-- ---- ranks

abbrev lower : Core → MethodId → MethodId → Bool
lower core m n = nat_lt (rank_of core n) (rank_of core m)

no_status : (o : Option Reason) (code found : Tree) (b : Bool) → cond (is_none o) (Some code) None ≡ Some found →
    (is_some o || b) ≡ true → (code ≡ found) × (b ≡ true)
no_status None code found b e k = (cc, k)
no_status (Some r) code found b e k = absurd cc

-- the calls of an analysed method are of methods of smaller ranks
pub lower-calls : (core : Core) (m : MethodId) (code : Tree) → has_ranks core ≡ true → code_at core m ≡ Some code →
    do_pass (lower core m) (steps_of code) ≡ true
lower-calls core m code ranks is =
    elim (method_at core m) as (λ o. method_at core m ≡ o →
    elim o as (λ _. Option Tree) [
      | None ↦ None
      | Some method ↦ cond (is_none method.status) (Some method.code) None
    ] ≡ Some code →
    do_pass (lower core m) (steps_of code) ≡ true) [
      | None ↦ λ e k. absurd cc
      | Some method ↦ λ e k.
          let above : (is_some method.status || do_pass (lower core m) (steps_of method.code)) ≡ true =
          ap (λ (n : ℕ). is_above (rank_of core) (n, method)) (sym (zero-add m.0))
          ∙ numbered (is_above (rank_of core)) 0 m.0 core.methods method ranks e in
          let found =
          no_status method.status method.code code (do_pass (lower core m) (steps_of method.code)) k above in
          subst (λ (c : Tree). do_pass (lower core m) (steps_of c) ≡ true) found.0 found.1
    ] refl is

pub lower-parts : (core : Core) (m : MethodId) → has_ranks core ≡ true →
    EachPassed (λ n. rank_of core n < rank_of core m) (parts_of core m)
lower-parts core m ranks =
    elim (code_at core m) as (λ o. code_at core m ≡ o →
    EachPassed (λ n. rank_of core n < rank_of core m)
    (elim o as (λ _. List WayPart) [ None ↦ [] | Some code ↦ to_return 0 code ])) [
      | None ↦ λ e. tt
      | Some code ↦ λ e.
          each-back (λ n. rank_of core n < rank_of core m) (lower core m)
          (λ n low. ltb-true (rank_of core n) (rank_of core m) low) 0 code (lower-calls core m code ranks e)
    ] refl

found-passes : (test : MethodId → Bool) (which : Operation → Bool) (ops : List Operation) (o : Operation) →
    do_pass test ops ≡ true → find which ops ≡ Some o → do_pass test (o ∷ []) ≡ true
found-passes test which [] o all is = absurd cc
found-passes test which (x ∷ ops) o all is =
    let both = pass-both test (x ∷ []) ops all in
    let mine = (and_parts (do_pass test (x ∷ [])) (do_pass test ops) both).0 in
    let others = (and_parts (do_pass test (x ∷ [])) (do_pass test ops) both).1 in
    elim (which x) as (λ b. cond b (Some x) (find which ops) ≡ Some o → do_pass test (o ∷ []) ≡ true) [
      | true ↦ λ k. let same : x ≡ o = cc in subst (λ (y : Operation). do_pass test (y ∷ []) ≡ true) same mine
      | false ↦ λ k. found-passes test which ops o others k
    ] is

-- so is that of the call at a site
pub lower-site : (core : Core) (m : MethodId) (code : Tree) (site : SiteId) (o : Operation) (n : MethodId) (count : ℕ) →
    has_ranks core ≡ true → code_at core m ≡ Some code → op_at code site ≡ Some o → o.op ≡ Call n count →
    rank_of core n < rank_of core m
lower-site core m code site o n count ranks is at call =
    let here = found-passes (lower core m) _ (steps_of code) o (lower-calls core m code ranks is) at in
    let there : list_all (lower core m) (called_by (Call n count) ++ []) ≡ true =
    subst (λ (op : CoreOp). list_all (lower core m) (called_by op ++ []) ≡ true) call here in
    ltb-true (rank_of core n) (rank_of core m) (and_parts (lower core m n) true there).0
