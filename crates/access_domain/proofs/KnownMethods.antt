-- What is known of a method is what its flow makes up, and what holds of all that is known, by rank.
use Rattle.std.proofs.Common.{◌≡◌, ℕ, zero, suc, ◌<◌, Bool, true, false, cond, ◌||◌, Option, None, Some, inl, inr}
use Rattle.std.proofs.Common.{List, length, is_none, nat_lt, option_map, slice_get, unwrap_or, refl, sym, ap, subst}
use Rattle.std.proofs.Common.{◌∙◌, arith}
use Rattle.std.proofs.lemmas.Bool.{cases_lt, or_parts}
use Rattle.std.specs.Option.{option_and_then}
use Rattle.std.proofs.lemmas.Option.{cond_some}
use Rattle.racer_base.specs.declared.ids.MethodId.{MethodId}
use Rattle.racer_base.specs.declared.limits.TheConstants.{MAX_SUMMARY_KEYS}
use Rattle.owner_domain.specs.declared.value.Value.TheVariants.{Unnamed}
use Rattle.core_code.specs.Calls.{is_analysed, method_at, rank_of}
use Rattle.core_code.specs.Core.{Core, Method}
use Rattle.core_code.proofs.ByRank.{known_below-higher, known_below-lower}
use Rattle.core_code.proofs.Membership.{In}
use Rattle.access_domain.specs.declared.access.Access.{Access}
use Rattle.access_domain.specs.Findings.{Findings, Known, Large, Table, Whole, outcome_from}
use Rattle.access_domain.specs.Operations.{Effects}
use Rattle.access_domain.specs.OutcomeRecords.{record_at, records_held}
use Rattle.access_domain.specs.Records.{first_of_keys, different_paths, same_key}
use Rattle.access_domain.specs.Summaries.{effects_given, findings_from, is_large, known_at, known_given}
use Rattle.access_domain.specs.Summaries.{known_of, known_of_callees}
use Rattle.access_domain.proofs.Members.{firsts_give}

-- ---- methods of which something is known

abbrev known_with : Core → Table → Option Method → Option Known
known_with core table o =
    option_and_then (λ (x : Method). cond (is_none x.status) (Some (known_given core table x)) None) o

pub known_there : (core : Core) (m : MethodId) (method : Method) → method_at core m ≡ Some method →
    known_of core m ≡ cond (is_none method.status) (Some (known_given core (known_of_callees core m) method)) None
known_there core m method there = ap (known_with core (known_of_callees core m)) there

-- nothing is known of no method
pub method_known : (core : Core) (m : MethodId) (x : Known) → known_of core m ≡ Some x →
    (method : Method) × (method_at core m ≡ Some method)
method_known core m x known =
    elim (method_at core m) as (λ o. method_at core m ≡ o → known_with core (known_of_callees core m) o ≡ Some x →
    (method : Method) × (method_at core m ≡ Some method)) [
      | None ↦ λ is e. absurd cc
      | Some method ↦ λ is e. (method, is)
    ] refl known

-- a method of which something is known is analysed
pub known_is_analysed : (core : Core) (m : MethodId) (method : Method) (x : Known) → method_at core m ≡ Some method →
    known_of core m ≡ Some x → is_analysed core m ≡ true
known_is_analysed core m method x there known =
    let here = cond_some (is_none method.status) (known_given core (known_of_callees core m) method) x
    (sym (known_there core m method there) ∙ known) in
    ap (λ (o : Option Method). elim o as (λ _. Bool) [ None ↦ false | Some y ↦ is_none y.status ]) there ∙ here.0

-- ---- what is known is what the flow makes up, where the effects are not large

pub record IsWhole (core : Core) (m : MethodId) (method : Method) (found : Findings) : Type 0 where
  pub small : (effects_given core (known_of_callees core m) method).large ≡ false
  pub records : first_of_keys (effects_given core (known_of_callees core m) method).records ≡ found.records
  pub wobbly : different_paths (effects_given core (known_of_callees core m) method).wobbly ≡ found.wobbly
  pub result : unwrap_or (effects_given core (known_of_callees core m) method).result Unnamed ≡ found.result

whole_where : (large : Bool) (made found : Findings) → cond large Large (Whole made) ≡ Whole found →
    (large ≡ false) × (made ≡ found)
whole_where true made found e = cc
whole_where false made found e = (refl, cc)

pub is_whole : (core : Core) (m : MethodId) (method : Method) (found : Findings) → method_at core m ≡ Some method →
    known_of core m ≡ Some (Whole found) → IsWhole core m method found
is_whole core m method found there known =
    let e : Effects = effects_given core (known_of_callees core m) method in
    let here = cond_some (is_none method.status) (known_given core (known_of_callees core m) method) (Whole found)
    (sym (known_there core m method there) ∙ known) in
    let made = whole_where (is_large e) (findings_from e) found here.1 in
    let keys : Bool = nat_lt MAX_SUMMARY_KEYS (length (first_of_keys e.records)) in
    let paths : Bool = nat_lt MAX_SUMMARY_KEYS (length (different_paths e.wobbly)) in
    record {
      small = (or_parts e.large keys (or_parts (e.large || keys) paths made.0).0).0;
      records = ap (λ (f : Findings). f.records) made.1;
      wobbly = ap (λ (f : Findings). f.wobbly) made.1;
      result = ap (λ (f : Findings). f.result) made.1;
    }

-- each record that is known of a method is one of its flow
pub record_made : (core : Core) (m : MethodId) (method : Method) (found : Findings) (a : Access) →
    method_at core m ≡ Some method → known_of core m ≡ Some (Whole found) → In found.records a →
    In (effects_given core (known_of_callees core m) method).records a
record_made core m method found a there known h =
    let whole : IsWhole core m method found = is_whole core m method found there known in
    firsts_give same_key (effects_given core (known_of_callees core m) method).records a
    (subst (λ (rs : List Access). In rs a) (sym whole.records) h)

-- ---- records by their index

-- a record of a method is one of its findings
pub record FoundAt (core : Core) (m : MethodId) (i : ℕ) (a : Access) : Type 0 where
  pub found : Findings
  pub known : known_of core m ≡ Some (Whole found)
  pub has : slice_get found.records i ≡ Some a

pub found_at : (core : Core) (m : MethodId) (i : ℕ) (a : Access) → record_at core m i ≡ Some a → FoundAt core m i a
found_at core m i a at =
    among (known_of core m) refl at
  where
    among : (o : Option Known) → known_of core m ≡ o →
        slice_get (records_held (option_map outcome_from o)) i ≡ Some a → FoundAt core m i a
    among None is has = absurd cc
    among (Some Large) is has = absurd cc
    among (Some (Whole found)) is has = record { found = found; known = is; has = has }

pub record_there : (core : Core) (m : MethodId) (i : ℕ) (a : Access) (found : Findings) →
    known_of core m ≡ Some (Whole found) → slice_get found.records i ≡ Some a → record_at core m i ≡ Some a
record_there core m i a found known has =
    ap (λ (o : Option Known). slice_get (records_held (option_map outcome_from o)) i) known ∙ has

-- ---- methods of smaller ranks

-- what the flow of a method is given of a method of a smaller rank
pub callee_known : (core : Core) (m callee : MethodId) → rank_of core callee < rank_of core m →
    known_of_callees core m callee ≡ known_of core callee
callee_known core m callee low = known_below-lower None (known_at core) core (rank_of core m) callee low

-- it is given nothing of any other
pub callee_lower : (core : Core) (m callee : MethodId) (x : Known) → known_of_callees core m callee ≡ Some x →
    (rank_of core callee < rank_of core m) × (known_of core callee ≡ Some x)
callee_lower core m callee x known =
    elim (cases_lt (rank_of core callee) (rank_of core m)) [
      | inl low ↦ (low, sym (callee_known core m callee low) ∙ known)
      | inr high ↦
          let none : known_of_callees core m callee ≡ None =
          known_below-higher None (known_at core) core (rank_of core m) callee high in
          absurd cc
    ]

-- what holds of a method's records where it holds of those of the methods that it calls holds of all that are known
module _ (core : Core) (P : Access → Type 0)
    (each : (m : MethodId) (method : Method) (a : Access) → method_at core m ≡ Some method →
    ((callee : MethodId) (found : Findings) → known_of_callees core m callee ≡ Some (Whole found) → (x : Access) →
    In found.records x → P x) → In (effects_given core (known_of_callees core m) method).records a → P a) where
  below : (k : ℕ) (m : MethodId) (found : Findings) (a : Access) → rank_of core m < k →
      known_of core m ≡ Some (Whole found) → In found.records a → P a
  below zero m found a low known h = absurd (omega arith)
  below (suc k) m found a low known h =
      let method = method_known core m (Whole found) known in
      each m method.0 a method.1
      (λ callee inner given x there.
      let lower = callee_lower core m callee (Whole inner) given in
      let less : rank_of core callee < rank_of core m = lower.0 in
      below k callee inner x (omega arith) lower.1 there)
      (record_made core m method.0 found a method.1 known h)

  pub each_known : (m : MethodId) (found : Findings) (a : Access) → known_of core m ≡ Some (Whole found) →
      In found.records a → P a
  each_known m found a known h = below (suc (rank_of core m)) m found a (omega arith) known h
