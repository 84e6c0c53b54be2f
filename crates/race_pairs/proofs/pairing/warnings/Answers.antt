use Rattle.std.proofs.Common.{◌≡◌, ℕ, ◌+◌, cond, List, [], ◌∷◌, ◌++◌, drop, refl, sym, ap, ◌∙◌}
use Rattle.std.specs.List.{enumerate_from, flat_map}
use Rattle.std.specs.declared.vec.Vec.{Vec}
use Rattle.std.specs.Global.{Global}
use Rattle.std.proofs.lemmas.List.{append-nil}
use Rattle.racer_base.specs.declared.ids.ClassId.{ClassId}
use Rattle.racer_base.proofs.Lists.{at_end}
use Rattle.core_code.specs.Program.{core}
use Rattle.core_code.specs.declared.parts.ClassCore.{ClassCore}
use Rattle.race_pairs.specs.declared.warning.Warning.{Warning}
use Rattle.race_pairs.specs.Warnings.{records_in, warnings_among, class_warnings}
use Rattle.race_pairs.proofs.Turns.{rest_of, flat_map_turn}
use Rattle.race_pairs.proofs.pairing.warnings.Goals as goal
use Rattle.race_pairs.proofs.pairing.warnings.Goals.{then-class+in_ok-number+in_ok-push_warnings, else-class}

pub loop-number-preserved : goal.loop-number-preserved
loop-number-preserved c =
    let program = core c.args.program.now in
    let classes = c.classes-class-items.result.now in
    let class : ClassCore = c.class-item.result in
    let number : ℕ = c.loop-number.number in
    let had : List Warning = c.loop-number.found.items in
    let rest : List (ℕ × ClassCore) = enumerate_from (number + 1) (drop (number + 1) classes) in
    let made = class_warnings program in
    let left : drop number classes ≡ class ∷ drop (number + 1) classes =
    rest_of classes number class c.loop-number-test.true c.class-item.is in
    let before = ap (λ ys. had ++ flat_map made (enumerate_from number ys)) (sym left) ∙ c.loop-number.invariant in
    let of_class = λ (n : ℕ). let id : ClassId = record { 0 = n } in warnings_among id (records_in program id) in
    elim c.if-class.branch [
      | then-class+in_ok-number+in_ok-push_warnings w ↦
          let here : List Warning = of_class w.in_ok-number.number in
          let adds : here ≡ made (number, class) =
          ap of_class w.in_ok-number.ensures ∙ sym (ap (λ b. cond b (of_class number) []) w.if-class.true) in
          let found : c.if-class.found.items ≡ had ++ here =
          ap (λ (v : Vec Warning Global). v.items) w.found-is ∙ w.in_ok-push_warnings.ensures in
          ap (λ found. found ++ flat_map made rest) found
          ∙ flat_map_turn made had here (number, class) rest adds
          ∙ before
      | else-class w ↦
          let none : [] ≡ made (number, class) =
          sym (ap (λ b. cond b (of_class number) []) w.if-class.false) in
          let found : c.if-class.found.items ≡ had =
          ap (λ (v : Vec Warning Global). v.items) w.found-is in
          ap (λ found. found ++ flat_map made rest) (found ∙ sym (append-nil had))
          ∙ flat_map_turn made had [] (number, class) rest none
          ∙ before
    ]

pub returns : goal.returns
returns c =
    let made = λ (classes : List ClassCore).
    flat_map (class_warnings (core c.args.program.now)) (enumerate_from c.loop-number.number classes) in
    at_end made c.classes-class-items.result.now c.loop-number.number c.loop-number.found.items refl
    c.loop-number-test.false
    ∙ c.loop-number.invariant
