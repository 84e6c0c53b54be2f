use Rattle.std.proofs.Common.{map, sym, subst, List}
use Rattle.java_tree.specs.declared.methods.FieldTree.{FieldTree}
use Rattle.java_tree.specs.declared.methods.ModifierTree.{ModifierTree}
use Rattle.java_tree.specs.declared.methods.FieldVariable.{FieldVariable}
use Rattle.java_tree.specs.KeptPlaces.{ty_places}
use Rattle.java_tree.specs.View.{ty_of, modifier_of}
use Rattle.racer_base.specs.declared.limits.TheConstants.{MAX_NESTING}
use Rattle.java_parser_grammar.specs.TypeReading.{ty_at}
use Rattle.java_parser_grammar.specs.FieldDivisions.{AreVariables}
use Rattle.java_parser_types.specs.declared.error.ReadError.TheVariants.{Unformed}
use Rattle.java_parser_types.specs.Tokens.{spelled}
use Rattle.java_parser.specs.FieldModifiers.{AreModifiers}
use Rattle.java_parser.proofs.DeclaredFields.{declared, some_modifiers, no_type, no_variables}
use Rattle.java_parser.proofs.Refusals.{error_is, same_error, fails_so}
use Rattle.java_parser.proofs.fields.declared.Goals as goal

pub returns-in-Err-clause-none : goal.returns-in-Err-clause-none
returns-in-Err-clause-none c = λ e f d.
    some_modifiers c.args.tokens.now f d (c.in-Err.ensures.none (same_error c.in-Err.error Unformed e))

pub returns-in-Err-front_type-clause-none : goal.returns-in-Err-front_type-clause-none
returns-in-Err-front_type-clause-none c = λ e f d.
    no_type c.args.tokens.now c.in-Ok.read.1.now (map modifier_of c.in-Ok.read.0.items) c.in-Ok.ensures.read
    (fails_so c.in-Err-front_type.error (ty_at MAX_NESTING (map spelled c.in-Ok.read.1.now))
    (error_is c.in-Err-front_type.error Unformed e) c.in-Err-front_type.ensures.gives) f d

pub returns-in-Err-variables-clause-none : goal.returns-in-Err-variables-clause-none
returns-in-Err-variables-clause-none c = λ e f d.
    no_variables c.args.tokens.now c.in-Ok.read.1.now c.in-Ok-front_type.read.1.now
    (map modifier_of c.in-Ok.read.0.items) (ty_of c.in-Ok-front_type.read.0) (ty_places c.in-Ok-front_type.read.0)
    c.in-Ok.ensures.read c.in-Ok.ensures.front c.in-Ok-front_type.ensures.gives c.in-Ok-front_type.ensures.front
    (c.in-Err-variables.ensures.none (same_error c.in-Err-variables.error Unformed e)) f d

pub returns-clause-read : goal.returns-clause-read
returns-clause-read c =
    let tokens = c.args.tokens.now in
    let rest = c.in-Ok.read.1.now in
    let left = c.in-Ok-front_type.read.1.now in
    let f : FieldTree = record {
      modifiers = c.from.result;
      kind = c.in-Ok-front_type.read.0;
      variables = c.from-2.result;
    } in
    declared tokens rest left f
    (subst (λ (l : List ModifierTree). AreModifiers (map modifier_of l) (map spelled tokens) (map spelled rest))
    (sym c.from.ensures) c.in-Ok.ensures.read)
    c.in-Ok.ensures.front c.in-Ok-front_type.ensures.gives c.in-Ok-front_type.ensures.front
    (subst (λ (l : List FieldVariable). AreVariables left l) (sym c.from-2.ensures) c.in-Ok-variables.ensures.read)
