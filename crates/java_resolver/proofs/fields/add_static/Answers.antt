use Rattle.std.proofs.Common.{true, sym, ap}
use Rattle.std.specs.Prelude.{Bool, bytes_eq, ◌&&◌}
use Rattle.std.proofs.lemmas.Result.{on_ok_weaker}
use Rattle.keyed_numbers.specs.Numbers.{Key, key_eq}
use Rattle.java_resolver.specs.Indexes.{field_at}
use Rattle.java_resolver.proofs.FirstOnes.{element_added, nothing_added}
use Rattle.java_resolver.proofs.fields.add_static.Goals as goal

pub returns-then-field : goal.returns-then-field
returns-then-field c =
    let field = c.args.field.now in
    let key : Key = (0, field.class.0) in
    on_ok_weaker c.add_number.result
    (λ adds.
    element_added (field_at true) c.args.numbers.now c.add_number.new.numbers field c.args.index c.as_str.result.now
    field.name key c.as_str.ensures
    (λ other k. ap (λ (b : Bool). b && (key_eq key k && bytes_eq field.name other)) (sym c.if-field.true))
    adds)
    c.add_number.ensures

pub returns : goal.returns
returns c =
    let field = c.args.field.now in
    nothing_added (field_at true) c.args.numbers.now field c.args.index
    (λ name key.
    ap (λ (b : Bool). b && (key_eq (0, field.class.0) key && bytes_eq field.name name)) (sym c.if-field.false))
