use Rattle.std.proofs.Common.{◌+◌, ◌||◌, Bool, List, map, drop, sym, ap, ◌∙◌, arith}
use Rattle.std.specs.List.{list_any}
use Rattle.std.proofs.lemmas.Bool.{or_left}
use Rattle.std.proofs.lemmas.List.{at_drop_all}
use Rattle.core_code.specs.declared.parts.MethodCore.{MethodCore}
use Rattle.core_code.specs.Core.{method_of}
use Rattle.typed_core.specs.Typings.{is_entry_of}
use Rattle.typed_core.proofs.Found.{any-turn}
use Rattle.typed_core.proofs.reaching.has_entry.Goals as goal

pub returns-then-is_entry_of : goal.returns-then-is_entry_of
returns-then-is_entry_of c =
    let test = is_entry_of c.args.class in
    let ms = c.args.methods.now in
    let i = c.loop-method.method-index in
    let m = c.method-item.result in
    sym (any-turn test ms i m c.loop-method-test.true c.method-item.is
    ∙ or_left (test (method_of m)) (list_any test (map method_of (drop (i + 1) ms)))
    (sym c.is_entry_of.ensures ∙ c.if-is_entry_of.true))
    ∙ c.loop-method.invariant

pub loop-method-preserved : goal.loop-method-preserved
loop-method-preserved c =
    let test = is_entry_of c.args.class in
    let ms = c.args.methods.now in
    let i = c.loop-method.method-index in
    let m = c.method-item.result in
    sym (any-turn test ms i m c.loop-method-test.true c.method-item.is
    ∙ ap (λ (b : Bool). b || list_any test (map method_of (drop (i + 1) ms)))
    (sym c.is_entry_of.ensures ∙ c.if-is_entry_of.false))
    ∙ c.loop-method.invariant

pub returns : goal.returns
returns c =
    sym (at_drop_all (λ (ms : List MethodCore). list_any (is_entry_of c.args.class) (map method_of ms))
    c.args.methods.now c.loop-method.method-index (omega (arith, c.loop-method-test.false)))
    ∙ c.loop-method.invariant
