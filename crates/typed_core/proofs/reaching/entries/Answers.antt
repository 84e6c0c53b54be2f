use Rattle.std.proofs.Common.{◌≡◌, ℕ, Bool, false, map, replicate, sym, ap, ◌∙◌, arith}
use Rattle.std.proofs.lemmas.List.{length-map}
use Rattle.core_code.specs.Core.{method_of}
use Rattle.typed_core.proofs.Entries.{entering-begins, entering-turn, entering-ends}
use Rattle.typed_core.proofs.Found.{method-at}
use Rattle.typed_core.proofs.reaching.entries.Goals as goal

pub loop-number-init : goal.loop-number-init
loop-number-init c =
    let ms = c.args.methods.now in
    entering-begins c.args.class (map method_of ms) (record { flags = c.in_ok-flags.flags; todo = c.new.result })
    (c.in_ok-flags.ensures.items_if_clones_equal (λ (b : Bool) (e : b ≡ false). e)
    ∙ ap (λ (n : ℕ). replicate n false) (sym (length-map ms method_of))) c.new.ensures.items

pub loop-number-preserved : goal.loop-number-preserved
loop-number-preserved c =
    let ms = c.args.methods.now in
    let m = c.index-methods-number.result in
    entering-turn c.args.class (map method_of ms) c.loop-number.number (method_of m) c.loop-number.reach
    c.come_to_entry.new.self (method-at ms c.loop-number.number m (omega arith) c.index-methods-number.is)
    c.loop-number.invariant c.in_ok-come_to_entry.ensures

pub returns : goal.returns
returns c =
    entering-ends c.args.class (map method_of c.args.methods.now) c.loop-number.number c.loop-number.reach
    (omega (arith, length-map c.args.methods.now method_of)) c.loop-number.invariant
