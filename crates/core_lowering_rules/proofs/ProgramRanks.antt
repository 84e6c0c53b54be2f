-- The methods of a program have ranks, where those are recursive that are in the draft.
use Rattle.std.proofs.Common.{◌≡◌, ℕ, zero, suc, ◌+◌, ◌<◌, ◌≤◌, Bool, true, false, inl, inr, List, [], ◌∷◌}
use Rattle.std.proofs.Common.{Option, None, Some, map, length, refl, sym, ap, ◌∙◌, subst, arith, is_none, nat_lt}
use Rattle.std.specs.Prelude.{slice_get, slice_index_or}
use Rattle.std.specs.List.{Contains, flat_map}
use Rattle.std.specs.Option.{option_or}
use Rattle.std.proofs.lemmas.Bool.{eq-eqb}
use Rattle.std.proofs.lemmas.List.{length-map}
use Rattle.std.proofs.lemmas.List.Elements.{Contains-append_left, Contains-append_right, Contains-append_cases}
use Rattle.std.proofs.lemmas.Option.{slice_get_cases, slice_get_within}
use Rattle.container_cells.specs.declared.cell.Containers.{Containers}
use Rattle.racer_base.specs.declared.ids.MethodId.{MethodId}
use Rattle.java_tree.specs.declared.unit.Unit as unit_type
use Rattle.core_code.specs.Chains.{Calls, IsChain, IsOnCycle, flag_of}
use Rattle.core_code.specs.declared.code.Op.{Op as CoreOp}
use Rattle.core_code.specs.declared.code.Op.TheVariants.{Call}
use Rattle.core_code.specs.declared.code.Reason.{Reason}
use Rattle.core_code.specs.declared.code.Reason.TheVariants.{Overload, Outside, Parameters, Locals, Operations}
use Rattle.core_code.specs.declared.code.Reason.TheVariants.{Recursive}
use Rattle.racer_base.specs.declared.limits.TheConstants.{MAX_PARAMETERS, MAX_LOCALS}
use Rattle.core_code.specs.Core.{Core, Method}
use Rattle.core_code.specs.Calls.{called_by, calls_in, calls_of, method_at, is_analysed}
use Rattle.core_code.specs.CallFacts.{are_calls_right, has_ranks}
use Rattle.core_code.specs.Recursion.{named_by, all_calls_in, all_rows, TellRecursion}
use Rattle.core_code.specs.CalleeRows.{code_rows}
use Rattle.core_code.specs.Tree.{Operation, steps_of}
use Rattle.core_code.proofs.ChainLemmas.{caller_in_range}
use Rattle.core_code.proofs.LongestChains.{ranks_by_chains, row_calls}
use Rattle.core_code.proofs.Members.{passes}
use Rattle.core_code.proofs.RowCallees.{is_method, analysed_among, right_at, method_there, analysed_at}
use Rattle.core_lowering_rules.specs.Context.{Folder}
use Rattle.core_lowering_rules.specs.Conditions.{unit_places}
use Rattle.core_lowering_rules.specs.Methods.{Source, is_past_limit}
use Rattle.core_lowering_rules.specs.Programs.{sources_of, declared_in, statuses_from, status_of, where_so}
use Rattle.core_lowering_rules.specs.Programs.{method_cores}
use Rattle.core_lowering_rules.specs.Programs.{program_of, draft_of, folder_of, is_outside, is_overloaded, local_count}
use Rattle.core_lowering_rules.proofs.NamedCode.{any-place, rows-same}
use Rattle.core_lowering_rules.proofs.KeptPlaces.{sources-placed}
use Rattle.core_lowering_rules.proofs.ProgramFacts.{calls-right}

-- ---- rows

none_there : {X : Type 0} (x : X) → Contains [] x → ⊥
none_there x h = let within : h.0 < 0 = h.1 in omega arith

named_too : (op : CoreOp) (n : MethodId) → Contains (called_by op) n → Contains (named_by op) n
named_too (Call m k) n h = h
named_too _ n h = absurd (none_there n h)

named_among : (ops : List Operation) (n : MethodId) →
    Contains (flat_map (λ (o : Operation). called_by o.op) ops) n →
    Contains (flat_map (λ (o : Operation). named_by o.op) ops) n
named_among [] n h = h
named_among (o ∷ os) n h =
    elim (Contains-append_cases (called_by o.op) (flat_map (λ (x : Operation). called_by x.op) os) n h) [
      | inl here ↦
          Contains-append_left (named_by o.op) (flat_map (λ (x : Operation). named_by x.op) os) n
          (named_too o.op n here)
      | inr later ↦
          Contains-append_right (named_by o.op) (flat_map (λ (x : Operation). named_by x.op) os) n
          (named_among os n later)
    ]

row_named : (ms : List Method) (i : ℕ) (n : MethodId) →
    Contains (slice_index_or (map (λ (m : Method). calls_in m.code) ms) i []) n →
    Contains (slice_index_or (map (λ (m : Method). all_calls_in m.code) ms) i []) n
row_named [] i n h = h
row_named (m ∷ ms) zero n h = named_among (steps_of m.code) n h
row_named (m ∷ ms) (suc i) n h = row_named ms i n h

chain_named : (core : Core) (m : MethodId) (between : List MethodId) (n : MethodId) →
    IsChain (code_rows core) m between n → IsChain (all_rows core) m between n
chain_named core m [] n chain = row_named core.methods m.0 n chain
chain_named core m (next ∷ between) n chain =
    (row_named core.methods m.0 next chain.0, chain_named core next between n chain.1)

row_code : (ms : List Method) (i : ℕ) (method : Method) → slice_get ms i ≡ Some method →
    slice_index_or (map (λ (m : Method). calls_in m.code) ms) i [] ≡ calls_in method.code
row_code [] i method is = absurd cc
row_code (m ∷ ms) zero method is = let same : m ≡ method = cc in ap (λ (x : Method). calls_in x.code) same
row_code (m ∷ ms) (suc i) method is = row_code ms i method is

-- ---- who is called is analysed

called_analysed : (core : Core) → are_calls_right core ≡ true → (m n : MethodId) → Calls (code_rows core) m n →
    is_analysed core n ≡ true
called_analysed core right m n call =
    let low : m.0 < length (code_rows core) = caller_in_range (code_rows core) m n call in
    let long : length (code_rows core) ≡ length core.methods =
    length-map core.methods (λ (x : Method). calls_in x.code) in
    elim ((slice_get_cases core.methods m.0).1) [
      | inl r ↦
          analysed_among core n (steps_of r.0.code) (right_at core core.methods m.0 r.0 right r.2)
          (passes (is_method n) (calls_in r.0.code) n
          (subst (λ (row : List MethodId). Contains row n) (row_code core.methods m.0 r.0 r.2) call)
          (eq-eqb n.0 n.0 refl))
      | inr r ↦ absurd (let past : length core.methods ≤ m.0 = r.0 in omega arith)
    ]

last_analysed : (core : Core) → are_calls_right core ≡ true → (m : MethodId) (between : List MethodId)
    (n : MethodId) → IsChain (code_rows core) m between n → is_analysed core n ≡ true
last_analysed core right m [] n chain = called_analysed core right m n chain
last_analysed core right m (next ∷ between) n chain = last_analysed core right next between n chain.1

-- ---- who is analysed is not recursive

last_none : (a b : Option Reason) → is_none (option_or a b) ≡ true → is_none b ≡ true
last_none None b h = h
last_none (Some r) b h = absurd cc

not_so : (b : Bool) → is_none (where_so b Recursive) ≡ true → b ≡ false
not_so true h = absurd cc
not_so false h = refl

not_recursive : (d : Folder) (b : Bool) (s : Source) → is_none (status_of d b s) ≡ true → b ≡ false
not_recursive d b s h =
    let large = where_so (is_past_limit d s) Operations in
    let by_size = option_or large (where_so b Recursive) in
    let others = where_so (nat_lt MAX_LOCALS (local_count d s)) Locals in
    let by_locals = option_or others by_size in
    let many = where_so (nat_lt MAX_PARAMETERS (length s.info.parameters)) Parameters in
    let outside = where_so (is_outside d s) Outside in
    let overloaded = where_so (is_overloaded d.methods s.info) Overload in
    not_so b
    (last_none large (where_so b Recursive)
    (last_none others by_size
    (last_none many by_locals
    (last_none outside (option_or many by_locals)
    (last_none overloaded (option_or outside (option_or many by_locals)) h)))))

unflagged : (folder d : Folder) (f : MethodId → Bool) (sources : List Source) (n k : ℕ) →
    analysed_at (slice_get (method_cores folder sources (statuses_from d f n sources)) k) ≡ true →
    f (record { 0 = n + k }) ≡ false
unflagged folder d f [] n k h = absurd cc
unflagged folder d f (s ∷ sources) n zero h =
    let e : n + 0 ≡ n = omega arith in
    ap (λ (i : ℕ). f (record { 0 = i })) e ∙ not_recursive d (f (record { 0 = n })) s h
unflagged folder d f (s ∷ sources) n (suc k) h =
    let e : n + suc k ≡ suc n + k = omega arith in
    ap (λ (i : ℕ). f (record { 0 = i })) e ∙ unflagged folder d f sources (suc n) k h

-- ---- programs

pub same-calls : (containers : Containers) (files : List (List ℕ)) (units : List unit_type.Unit) (f : MethodId → Bool) →
    all_rows (program_of containers files units f) ≡ all_rows (draft_of containers files units)
same-calls containers files units f =
    rows-same (declared_in containers units) (statuses_from (declared_in containers units) f 0 (sources_of units))
    (statuses_from (declared_in containers units) (λ m. true) 0 (sources_of units)) (declared_in containers units) f
    (λ m. true) 0 (sources_of units) (sources-placed (λ p. true) units (any-place (flat_map unit_places units)))

right : (containers : Containers) (files : List (List ℕ)) (units : List unit_type.Unit) (flags : List Bool) →
    are_calls_right (program_of containers files units (flag_of flags)) ≡ true
right containers files units flags = calls-right containers files units (flag_of flags)

low : (containers : Containers) (files : List (List ℕ)) (units : List unit_type.Unit) (flags : List Bool)
    (m n : MethodId) →
    Contains (calls_of (program_of containers files units (flag_of flags)) m) n →
    n.0 < length (program_of containers files units (flag_of flags)).methods
low containers files units flags m n call =
    let core = program_of containers files units (flag_of flags) in
    let found = method_there (method_at core n)
    (called_analysed core (right containers files units flags) m n (row_calls core.methods m.0 n call)) in
    slice_get_within core.methods n.0 found.0 found.1

none : (containers : Containers) (files : List (List ℕ)) (units : List unit_type.Unit) (flags : List Bool) →
    TellRecursion (draft_of containers files units) flags → (m : MethodId) →
    IsOnCycle (code_rows (program_of containers files units (flag_of flags))) m → ⊥
none containers files units flags tell m (between, chain) =
    let core = program_of containers files units (flag_of flags) in
    let analysed : is_analysed core m ≡ true =
    last_analysed core (right containers files units flags) m between m chain in
    let whole : 0 + m.0 ≡ m.0 = omega arith in
    let off : flag_of flags m ≡ false =
    ap (λ (i : ℕ). flag_of flags (record { 0 = i })) (sym whole)
    ∙ unflagged (folder_of containers units (flag_of flags)) (declared_in containers units) (flag_of flags)
    (sources_of units) 0 m.0 analysed in
    let on : flag_of flags m ≡ true =
    (tell m).1
    (subst (λ (rows : List (List MethodId)). IsOnCycle rows m) (same-calls containers files units (flag_of flags))
    (between, chain_named core m between m chain)) in
    cc

pub ranks-there : (containers : Containers) (files : List (List ℕ)) (units : List unit_type.Unit) (flags : List Bool) →
    TellRecursion (draft_of containers files units) flags →
    has_ranks (program_of containers files units (flag_of flags)) ≡ true
ranks-there containers files units flags tell =
    ranks_by_chains (program_of containers files units (flag_of flags)) (low containers files units flags)
    (none containers files units flags tell)
