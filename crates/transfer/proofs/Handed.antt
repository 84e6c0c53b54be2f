-- The outcomes of methods that are handed in.
use Rattle.std.proofs.Common.{◌≡◌, ℕ, zero, suc, ◌<◌, Bool, true, false, cond, ◌||◌}
use Rattle.std.proofs.Common.{List, [], ◌∷◌, ◌++◌, Option, None, Some}
use Rattle.std.proofs.Common.{refl, sym, ap, ◌∙◌, option_map, nat_eq, is_some, is_none}
use Rattle.std.proofs.Common.{All, slice_get, get_or, map, length}
use Rattle.std.proofs.Common.{arith}
use Rattle.std.proofs.lemmas.Bool.{ltb-true, and_parts}
use Rattle.std.proofs.lemmas.List.Elements.{All-head, All-tail}
use Rattle.std.specs.Arc.{arc_value}
use Rattle.std.specs.List.{list_any, list_all}
use Rattle.std.specs.Option.{option_or, option_and_then}
use Rattle.racer_base.specs.declared.ids.MethodId.{MethodId}
use Rattle.core_code.specs.Calls.{rank_of, method_at, calls_in, calls_of}
use Rattle.core_code.specs.CallFacts.{has_ranks}
use Rattle.core_code.specs.declared.parts.MethodCore.{MethodCore}
use Rattle.core_code.specs.Core.{Core, Method, method_of}
use Rattle.core_code.proofs.ByRank.{known_below-lower}
use Rattle.core_code.specs.Program.{core}
use Rattle.access_domain.specs.declared.summary.Outcome.{Outcome}
use Rattle.access_domain.specs.declared.summary.Outcome.TheVariants as code
use Rattle.access_domain.specs.Findings.{outcome_from}
use Rattle.access_domain.specs.Summaries.{outcome_of, known_of_callees, known_at, known_given}
use Rattle.transfer_steps.specs.declared.calls.Callee.{Callee}
use Rattle.transfer.specs.Callees.{SharedFinished, AreCallees, outcome_in}
use Rattle.transfer_steps.specs.Known.{known_in, callee_outcome, table_of}
use Rattle.transfer_steps.proofs.Callees.{held}
use Rattle.core_code.proofs.RowCallees.{is_method, nat_eq-same, analysed_at}
use Rattle.transfer.proofs.LowerCalls.{calls_lower, is_lower}
use Rattle.transfer.proofs.Tables.{outcome-agree}

-- ---- one more

among_alone : (c : Callee) (m : MethodId) → Option Outcome
among_alone c m = cond (nat_eq c.method.0 m.0) (Some (arc_value c.outcome)) None

step_or : (b : Bool) (o : Outcome) (p q : Option Outcome) →
    cond b (Some o) (option_or p q) ≡ option_or (cond b (Some o) p) q
step_or true o p q = refl
step_or false o p q = refl

pub among-push : (cs : List Callee) (c : Callee) (m : MethodId) →
    callee_outcome (cs ++ c ∷ []) m ≡ option_or (callee_outcome cs m) (callee_outcome (c ∷ []) m)
among-push [] c m = refl
among-push (x ∷ cs) c m =
    ap (λ (o : Option Outcome). cond (nat_eq x.method.0 m.0) (Some (arc_value x.outcome)) o) (among-push cs c m)
    ∙ step_or (nat_eq x.method.0 m.0) (arc_value x.outcome) (callee_outcome cs m) (callee_outcome (c ∷ []) m)

or-assoc : (p q r : Option Outcome) → option_or (option_or p q) r ≡ option_or p (option_or q r)
or-assoc None q r = refl
or-assoc (Some x) q r = refl

first_or : (b : Bool) (x : Outcome) (o : Option Outcome) → option_or (cond b (Some x) None) o ≡ cond b (Some x) o
first_or true x o = refl
first_or false x o = refl

-- one more method is known, and one fewer is left
pub one-more : (cs : List Callee) (c : Callee) (f : SharedFinished) (left : List SharedFinished) (m : MethodId) →
    c.method ≡ (arc_value f).method → arc_value c.outcome ≡ arc_value (arc_value f).outcome →
    option_or (callee_outcome (cs ++ c ∷ []) m) (outcome_in left m) ≡
    option_or (callee_outcome cs m) (outcome_in (f ∷ left) m)
one-more cs c f left m method outcome =
    ap (λ (o : Option Outcome). option_or o (outcome_in left m)) (among-push cs c m)
    ∙ or-assoc (callee_outcome cs m) (callee_outcome (c ∷ []) m) (outcome_in left m)
    ∙ ap (option_or (callee_outcome cs m))
    (first_or (nat_eq c.method.0 m.0) (arc_value c.outcome) (outcome_in left m)
    ∙ (λ i. cond (nat_eq (method i).0 m.0) (Some (outcome i)) (outcome_in left m)))

-- ---- what is known of callees

known-held : (o : Outcome) → outcome_from (known_in o) ≡ o
known-held code.Large = refl
known-held (code.Summary s) = ap code.Summary (held s)

known-held_option : (o : Option Outcome) → option_map outcome_from (option_map known_in o) ≡ o
known-held_option None = refl
known-held_option (Some o) = ap Some (known-held o)

pub table-outcome : (callees : List Callee) (n : MethodId) →
    option_map outcome_from (table_of callees n) ≡ callee_outcome callees n
table-outcome callees n = known-held_option (callee_outcome callees n)

-- the outcome of a finished method is that of its number
pub outcome-right : (program : Core) (finished : List SharedFinished) (n : MethodId) →
    All (λ (f : SharedFinished). core (arc_value (arc_value f).program) ≡ program) finished →
    is_some (outcome_in finished n) ≡ true → outcome_in finished n ≡ outcome_of program n
outcome-right program [] n same there = absurd cc
outcome-right program (f ∷ fs) n same there =
    let IsFor : SharedFinished → Type 0 = λ g. core (arc_value (arc_value g).program) ≡ program in
    elim (nat_eq (arc_value f).method.0 n.0) as (λ b. nat_eq (arc_value f).method.0 n.0 ≡ b →
    is_some (cond b (Some (arc_value (arc_value f).outcome)) (outcome_in fs n)) ≡ true →
    cond b (Some (arc_value (arc_value f).outcome)) (outcome_in fs n) ≡ outcome_of program n) [
      | true ↦ λ e _. (arc_value f).right
          ∙ (λ i. outcome_of (All-head IsFor f fs same i) (nat_eq-same (arc_value f).method n e i))
      | false ↦ λ e k. outcome-right program fs n (All-tail IsFor f fs same) k
    ] refl there

-- ---- the methods that a method calls

all_any : (p : MethodId → Bool) (n : MethodId) (ms : List MethodId) → list_all p ms ≡ true →
    list_any (is_method n) ms ≡ true → p n ≡ true
all_any p n [] all there = absurd cc
all_any p n (m ∷ ms) all there =
    let parts = and_parts (p m) (list_all p ms) all in
    elim (nat_eq m.0 n.0) as (λ b. nat_eq m.0 n.0 ≡ b → (b || list_any (is_method n) ms) ≡ true → p n ≡ true) [
      | true ↦ λ e _. ap p (sym (nat_eq-same m n e)) ∙ parts.0
      | false ↦ λ _ k. all_any p n ms parts.1 k
    ] refl there

callee_below : (program : Core) (m n : MethodId) (method : Method) → has_ranks program ≡ true →
    method_at program m ≡ Some method → is_none method.status ≡ true →
    list_any (is_method n) (calls_in method.code) ≡ true → rank_of program n < rank_of program m
callee_below program m n method ranks is analysed there =
    ltb-true (rank_of program n) (rank_of program m)
    (all_any (is_lower program m) n (calls_in method.code) (calls_lower program m method ranks is analysed) there)

pub outcome-known : (program : Core) (m : MethodId) (method : Method) (callees : List Callee)
    (finished : List SharedFinished) →
    has_ranks program ≡ true → method_at program m ≡ Some method → is_none method.status ≡ true →
    ((n : MethodId) → callee_outcome callees n ≡ outcome_in finished n) → AreCallees program m finished →
    Some (outcome_from (known_given program (table_of callees) method)) ≡ outcome_of program m
outcome-known program m method callees finished ranks is analysed same are =
    let code : calls_of program m ≡ calls_in method.code =
    ap (λ (o : Option Method). elim o as (λ _. List MethodId) [ None ↦ [] | Some x ↦ calls_in x.code ]) is in
    let there : list_all (λ (n : MethodId). is_some (outcome_in finished n)) (calls_in method.code) ≡ true =
    ap (list_all (λ (n : MethodId). is_some (outcome_in finished n))) (sym code) ∙ are.are_there in
    let agreed = outcome-agree program (table_of callees) (known_of_callees program m) method
    (λ n called.
    table-outcome callees n
    ∙ same n
    ∙ outcome-right program finished n are.same_program
    (all_any (λ k. is_some (outcome_in finished k)) n (calls_in method.code) there called)
    ∙ ap (option_map outcome_from)
    (sym (known_below-lower None (known_at program) program (rank_of program m) n
    (callee_below program m n method ranks is analysed called)))) in
    ap Some agreed
    ∙ sym (ap (λ (b : Bool). option_map outcome_from
    (cond b (Some (known_given program (known_of_callees program m) method)) None)) analysed)
    ∙ sym (ap (λ (o : Option Method). option_map outcome_from (option_and_then
    (λ x. cond (is_none x.status) (Some (known_given program (known_of_callees program m) x)) None) o)) is)

-- ---- the method of a number

pub in_range : (ms : List MethodCore) (i : ℕ) → analysed_at (slice_get (map method_of ms) i) ≡ true → i < length ms
in_range [] i e = absurd cc
in_range (x ∷ ms) zero e = omega arith
in_range (x ∷ ms) (suc i) e = let rest = in_range ms i e in omega arith

pub found_at : (ms : List MethodCore) (i : ℕ) (x : MethodCore) → i < length ms → x ≡ get_or ms i x →
    slice_get (map method_of ms) i ≡ Some (method_of x)
found_at [] i x within is = absurd (omega arith)
found_at (y ∷ ms) zero x within is = ap (λ (m : MethodCore). Some (method_of m)) (sym is)
found_at (y ∷ ms) (suc i) x within is = found_at ms i x (omega arith) is
