-- The methods that code calls are there, where its numbers are in range.
use Rattle.std.proofs.Common.{◌≡◌, ℕ, true, List, [], ◌∷◌, map, length, refl, sym, subst, ◌∙◌}
use Rattle.std.proofs.Common.{zero, suc, ◌<◌, arith, get_or, nat_lt}
use borrow.Author.Tests.{ltb-true}
use Rattle.std.proofs.lemmas.List.{length-map}
use Rattle.std.specs.List.{flat_map, list_all}
use Rattle.std.proofs.lemmas.List.Folds.{list_all-append}
use Rattle.std.proofs.lemmas.Bool.{and_from, and_parts}
use Rattle.racer_base.specs.declared.ids.MethodId.{MethodId}
use Rattle.core_code.specs.declared.code.Op.{Op as CoreOp}
use Rattle.core_code.specs.declared.code.Op.TheVariants.{Call, Unread}
use Rattle.core_code.specs.Core.{Core, Method}
use Rattle.core_code.specs.Facts.{are_numbers_in_range, is_code, is_method_in_range, is_op, is_operation, is_place}
use Rattle.core_code.specs.Recursion.{all_calls_in, all_rows, named_by}
use Rattle.core_code.specs.Tree.{Operation, Tree, locks_of, steps_of}
use Rattle.core_lowering.specs.Calls.{are_low, are_rows_low}

pub low-at : (count : ℕ) (ms : List MethodId) (i : ℕ) (d : MethodId) → are_low count ms ≡ true → i < length ms →
    (get_or ms i d).0 < count
low-at count [] i d low within = absurd (omega (arith, within))
low-at count (m ∷ ms) zero d low within = ltb-true m.0 count (and_parts (nat_lt m.0 count) (are_low count ms) low).0
low-at count (m ∷ ms) (suc i) d low within =
    low-at count ms i d (and_parts (nat_lt m.0 count) (are_low count ms) low).1 (omega (arith, within))

module _ (core : Core) where
  abbrev count : ℕ
  count = length core.methods

  op-low : (variables : ℕ) (op : CoreOp) → is_op core variables op ≡ true → are_low count (named_by op) ≡ true
  op-low variables (Call m n) h = and_from (nat_lt m.0 count) true h refl
  op-low variables (Unread m n) h = and_from (nat_lt m.0 count) true h refl
  op-low variables _ h = refl

  abbrev named_in : List Operation → List MethodId
  named_in = flat_map (λ (o : Operation). named_by o.op)

  operations-low : (variables : ℕ) (os : List Operation) → list_all (is_operation core variables) os ≡ true →
      are_low count (named_in os) ≡ true
  operations-low variables [] h = refl
  operations-low variables (o ∷ os) h =
      let own : is_operation core variables o ≡ true =
      (and_parts (is_operation core variables o) (list_all (is_operation core variables) os) h).0 in
      let others = (and_parts (is_operation core variables o) (list_all (is_operation core variables) os) h).1 in
      list_all-append (λ (m : MethodId). nat_lt m.0 count) (named_by o.op) (named_in os)
      ∙ and_from (are_low count (named_by o.op)) (are_low count (named_in os))
      (op-low variables o.op (and_parts (is_place core o.place) (is_op core variables o.op) own).1)
      (operations-low variables os others)

  code-low : (variables : ℕ) (code : Tree) → is_code core variables code ≡ true →
      are_low count (all_calls_in code) ≡ true
  code-low variables code h =
      operations-low variables (steps_of code)
      (and_parts (list_all (is_operation core variables) (steps_of code)) (list_all (is_place core) (locks_of code))
      h).0

  methods-low : (ms : List Method) → list_all (is_method_in_range core) ms ≡ true →
      list_all (are_low count) (map (λ (m : Method). all_calls_in m.code) ms) ≡ true
  methods-low [] h = refl
  methods-low (m ∷ ms) h =
      let own : is_method_in_range core m ≡ true =
      (and_parts (is_method_in_range core m) (list_all (is_method_in_range core) ms) h).0 in
      let others = (and_parts (is_method_in_range core m) (list_all (is_method_in_range core) ms) h).1 in
      and_from (are_low count (all_calls_in m.code))
      (list_all (are_low count) (map (λ (k : Method). all_calls_in k.code) ms))
      (code-low (length m.variables) m.code (and_parts _ (is_code core (length m.variables) m.code) own).1)
      (methods-low ms others)

  pub rows-low : are_numbers_in_range core ≡ true → are_rows_low (all_rows core) ≡ true
  rows-low h =
      let long : length (all_rows core) ≡ count = length-map core.methods (λ (m : Method). all_calls_in m.code) in
      subst (λ (n : ℕ). list_all (are_low n) (all_rows core) ≡ true) (sym long)
      (methods-low core.methods (and_parts _ (list_all (is_method_in_range core) core.methods) h).1)
