use Rattle.std.proofs.Common.{◌≡◌, [], ◌∷◌, ◌++◌, map, arith}
use Rattle.std.proofs.lemmas.List.{map_push}
use Rattle.std.proofs.lemmas.Result.{err_from_is_err_and}
use Rattle.java_tree.specs.View.{modifier_of}
use Rattle.java_parser_types.specs.Tokens.{spelled}
use Rattle.java_parser_types.specs.declared.error.ReadError.TheVariants.{Unformed}
use Rattle.java_parser.specs.FieldModifiers.{field_modifier_at}
use Rattle.java_parser.proofs.ModifierSteps.{skips_one, skips_end, skips_fail, spells_more}
use Rattle.java_parser.proofs.Refusals.{error_is, fails_so}
use Rattle.java_parser.proofs.fields.read_modifiers.Goals as goal

pub returns-in_err-next-clause-none : goal.returns-in_err-next-clause-none
returns-in_err-next-clause-none c =
    let here = map spelled c.loop-items.rest.now in
    let error = c.in_err-next.field-0.0 in
    let p = err_from_is_err_and c.from_residual.result c.from_residual.ensures.1 in
    rw (p.1, p.2) (λ e.
    skips_fail (map spelled c.args.tokens.now) here c.loop-items.invariant.skips
    (fails_so error (field_modifier_at here) (error_is error Unformed e) c.in_err-next.ensures.gives))

pub loop-items-preserved : goal.loop-items-preserved
loop-items-preserved c =
    let n = c.in-Some.next in
    let tokens = map spelled c.args.tokens.now in
    let here = map spelled c.loop-items.rest.now in
    let rest = map spelled c.in-Some.after.now in
    let ms = map modifier_of c.loop-items.items.items in
    let e : map modifier_of c.push.new.self.items ≡ ms ++ modifier_of n ∷ [] =
    rw c.in_ok-push.ensures.items (map_push _ c.loop-items.items.items n) in
    record {
      spells = rw e (spells_more tokens here rest ms (modifier_of n) c.loop-items.invariant.spells
          (rw c.in-Some.is at c.in_ok-next.ensures.gives));
      skips = skips_one tokens here rest (modifier_of n) c.loop-items.invariant.skips
          (rw c.in-Some.is at c.in_ok-next.ensures.gives);
      shorter = omega (arith, c.loop-items.invariant.shorter, rw c.in-Some.is at c.in_ok-next.ensures.shorter);
    }

pub returns-clause-read : goal.returns-clause-read
returns-clause-read c = record {
  spells = c.loop-items.invariant.spells;
  only = skips_end (map spelled c.args.tokens.now) (map spelled c.loop-items.rest.now) c.loop-items.invariant.skips
      (rw c.in_default.is at c.in_ok-next.ensures.gives);
}
