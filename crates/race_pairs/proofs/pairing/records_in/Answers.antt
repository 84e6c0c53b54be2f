use Rattle.std.proofs.Common.{◌≡◌, ℕ, ◌+◌, List, [], ◌∷◌, ◌++◌, map, drop, sym, ap, ◌∙◌, refl, arith}
use Rattle.std.specs.List.{enumerate_from, flat_map}
use Rattle.std.specs.declared.vec.Vec.{Vec}
use Rattle.std.specs.Global.{Global}
use Rattle.std.proofs.lemmas.List.{append-nil}
use Rattle.racer_base.specs.declared.ids.MethodId.{MethodId}
use Rattle.racer_base.proofs.Lists.{at_end}
use Rattle.core_code.specs.Core.{Method, method_of}
use Rattle.core_code.specs.Program.{core}
use Rattle.core_code.specs.declared.parts.MethodCore.{MethodCore}
use Rattle.access_domain.proofs.MethodOutcomes.{known-outcome}
use Rattle.access_domain.specs.OutcomeRecords.{records_held}
use Rattle.race_pairs.specs.declared.method_access.MethodAccess.{MethodAccess}
use Rattle.race_pairs.specs.Warnings.{MethodRecord, numbered_records, entry_records}
use Rattle.race_pairs.specs.MethodRecords.{all_records}
use Rattle.race_pairs.proofs.Turns.{rest_of, flat_map_turn}
use Rattle.race_pairs.proofs.Known.{entry_adds, other_adds}
use Rattle.race_pairs.proofs.pairing.records_in.Goals as goal
use Rattle.race_pairs.proofs.pairing.records_in.Goals.{then-is_entry_of+in_ok-number+in_ok-push_records}
use Rattle.race_pairs.proofs.pairing.records_in.Goals.{else-is_entry_of}

pub loop-number-preserved : goal.loop-number-preserved
loop-number-preserved c =
    let program = core c.args.program.now in
    let methods = c.methods-method-items.result.now in
    let method : MethodCore = c.method-item.result in
    let number : ℕ = c.loop-number.number in
    let had : List MethodRecord = all_records c.loop-number.records.items in
    let rest : List (ℕ × Method) = enumerate_from (number + 1) (map method_of (drop (number + 1) methods)) in
    let made = entry_records program c.args.class in
    let left : drop number methods ≡ method ∷ drop (number + 1) methods =
    rest_of methods number method (omega arith) c.method-item.is in
    let before = ap (λ ys. had ++ flat_map made (enumerate_from number (map method_of ys))) (sym left)
    ∙ c.loop-number.invariant in
    elim c.if-is_entry_of.branch [
      | then-is_entry_of+in_ok-number+in_ok-push_records w ↦
          let id : MethodId = record { 0 = w.in_ok-number.number } in
          let is : w.in_ok-number.number ≡ number = w.in_ok-number.ensures in
          let entry = sym c.is_entry_of.ensures ∙ w.if-is_entry_of.true in
          let known = known-outcome program c.args.outcomes.now.items id c.requires in
          let accesses = ap (numbered_records id) (w.records_of-accesses.ensures ∙ ap records_held known) in
          let adds = entry_adds program c.args.class number (method_of method) id entry is in
          let here : List MethodRecord = numbered_records id w.records_of-accesses.result.now in
          let records : all_records c.if-is_entry_of.records.items ≡ had ++ here =
          ap (λ (v : Vec MethodAccess Global). all_records v.items) w.records-is ∙ w.in_ok-push_records.ensures in
          ap (λ records. records ++ flat_map made rest) records
          ∙ flat_map_turn made had here (number, method_of method) rest (accesses ∙ adds)
          ∙ before
      | else-is_entry_of w ↦
          let other = sym c.is_entry_of.ensures ∙ w.if-is_entry_of.false in
          let records : all_records c.if-is_entry_of.records.items ≡ had =
          ap (λ (v : Vec MethodAccess Global). all_records v.items) w.records-is in
          ap (λ records. records ++ flat_map made rest) (records ∙ sym (append-nil had))
          ∙ flat_map_turn made had [] (number, method_of method) rest
          (other_adds program c.args.class number (method_of method) other)
          ∙ before
    ]

pub returns : goal.returns
returns c =
    let given = entry_records (core c.args.program.now) c.args.class in
    let made = λ (methods : List MethodCore).
    flat_map given (enumerate_from c.loop-number.number (map method_of methods)) in
    let methods = c.methods-method-items.result.now in
    at_end made methods c.loop-number.number (all_records c.loop-number.records.items) refl c.loop-number-test.false
    ∙ c.loop-number.invariant
