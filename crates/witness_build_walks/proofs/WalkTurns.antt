-- A walk behind all of its steps.
use Rattle.std.proofs.Common.{◌≡◌, ℕ, suc, ◌+◌, List, [], ◌++◌, Option, None, sym, ap, subst, ◌∙◌, arith}
use Rattle.std.proofs.lemmas.List.{append-nil}
use Rattle.core_code.specs.Core.{Core}
use Rattle.core_semantics.specs.declared.answer.Turn.{Turn}
use Rattle.core_semantics.specs.Changes.{Spot, step_looks}
use Rattle.core_semantics.specs.View.{state_of}
use Rattle.core_semantics.specs.Advances.{Going, one_step}
use Rattle.core_ways.specs.Ends.{end_behind, leg_end, leg_reads}
use Rattle.core_ways.specs.Gathered.{gathered}
use Rattle.witness_build_apart_laws.specs.Goes.{leg_goes}
use Rattle.witness_build_apart_laws.specs.Looks.{leg_looks, looks_behind}
use Rattle.witness_build_apart_laws.specs.Stores.{leg_stores}
use Rattle.witness_build_apart_laws.proofs.Prefixes.{ends-on, goes-on, looks-go-on, reads-go-on, stores-go-on}
use Rattle.witness_build_walks.specs.declared.walk.Walk.{Walk}
use Rattle.witness_build_walks.specs.Walks.{AreKept, IsAlong, IsHalted, IsNoted, IsWalk, entry_state, fields_of}
use Rattle.witness_build_walks.proofs.KeptFields.{both-kept, fields-both, noted-still, same-kept}

-- all steps of a leg are made, whatever turns are left
pub walked-all : (core : Core) (w : Walk) (n : ℕ) (turns rest : List Turn) → IsWalk core w → w.steps ≡ n →
    w.turns.items ++ rest ≡ turns → IsAlong core w n turns rest
walked-all core w n turns rest walk steps are =
    let t = w.thread in
    let start = entry_state core w in
    let here = state_of w.machine in
    let us = w.turns.items in
    let count : w.steps + 0 ≡ n = omega (arith, steps) in
    record {
      goes =
          sym (λ i. leg_goes core t (count i) (are i) start)
          ∙ goes-on core t w.steps 0 us rest start here [] walk.goes;
      given =
          walk.given
          ∙ ap (gathered [])
          (sym (append-nil (leg_reads core t w.steps us start))
          ∙ sym (reads-go-on core t w.steps 0 us rest start here [] walk.goes)
          ∙ (λ i. leg_reads core t (count i) (are i) start));
      reads =
          same-kept w.reads (fields_of (leg_looks core t w.steps us start)) (fields_of (leg_looks core t n turns start))
          (ap fields_of
          (sym (append-nil (leg_looks core t w.steps us start))
          ∙ sym (looks-go-on core t w.steps 0 us rest start here [] walk.goes)
          ∙ (λ i. leg_looks core t (count i) (are i) start)))
          walk.reads;
      writes =
          subst (λ (o : Option (List Spot)). IsNoted w.is_loud w.writes o)
          (sym (stores-go-on core t w.steps 0 us rest start here [] walk.goes)
          ∙ (λ i. leg_stores core t (count i) (are i) start))
          (noted-still w.is_loud w.writes (leg_stores core t w.steps us start) walk.writes);
    }

-- a leg that goes on by a step that cannot be made
pub halted-there : (core : Core) (w : Walk) (n k : ℕ) (turns rest : List Turn) → IsWalk core w → w.steps + suc k ≡ n →
    w.turns.items ++ rest ≡ turns → one_step core w.thread rest (state_of w.machine) ≡ None →
    AreKept w.reads (fields_of (step_looks core (state_of w.machine) w.thread)) → IsHalted core w n turns
halted-there core w n k turns rest walk count are none looks =
    let t = w.thread in
    let start = entry_state core w in
    let here = state_of w.machine in
    let us = w.turns.items in
    let looked = leg_looks core t w.steps us start in
    let all : leg_looks core t n turns start ≡ looked ++ step_looks core here t =
    sym (λ i. leg_looks core t (count i) (are i) start)
    ∙ looks-go-on core t w.steps (suc k) us rest start here [] walk.goes
    ∙ ap (λ (o : Option Going). looked ++ (step_looks core here t ++ looks_behind (leg_looks core t k) o)) none
    ∙ ap (λ (xs : List Spot). looked ++ xs) (append-nil (step_looks core here t)) in
    record {
      ends =
          sym (λ i. leg_end core t (count i) (are i) start)
          ∙ ends-on core t w.steps (suc k) us rest start here [] walk.goes
          ∙ ap (end_behind here (leg_end core t k)) none;
      reads =
          same-kept w.reads (fields_of looked ++ fields_of (step_looks core here t))
          (fields_of (leg_looks core t n turns start))
          (sym (fields-both looked (step_looks core here t)) ∙ ap fields_of (sym all))
          (both-kept w.reads (fields_of looked) (fields_of (step_looks core here t)) walk.reads looks);
    }
