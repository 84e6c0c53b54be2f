use Rattle.std.proofs.Common.{◌≡◌, Bool, not, ◌&&◌, Option, Some, None, option_map, refl, sym, ap, ◌∙◌}
use Rattle.java_tree.specs.declared.words.Ident.{Ident}
use Rattle.java_resolver.specs.declared.scope.ScopeVariable.{ScopeVariable}
use Rattle.java_resolver.specs.declared.scope.VariableKind.{VariableKind}
use Rattle.java_resolver.specs.Meanings.{variable_named}
use Rattle.core_lowering_rules.specs.Context.{Context, meaning_of}
use Rattle.core_lowering_rules.specs.Locks.{is_kept_lock, is_lock_meant}
use Rattle.core_lowering_context.specs.Seen.{known_of}
use Rattle.core_lowering_context.proofs.locks.is_lock_named.Goals as goal

abbrev by_variable : Context → Ident → (is_stored : Bool) → Option ScopeVariable → Bool
by_variable context x is_stored o = elim o [
  | Some v ↦ is_kept_lock is_stored v
  | None ↦ is_lock_meant context (meaning_of context x)
]

of_variable : (context : Context) (x : Ident) (is_stored : Bool) (o : Option ScopeVariable) (known : VariableKind) →
    Some known ≡ option_map known_of o → (known.is_lock && not is_stored) ≡ by_variable context x is_stored o
of_variable context x is_stored (Some v) known is =
    let same : known ≡ known_of v = cc in
    ap (λ (k : VariableKind). k.is_lock && not is_stored) same
of_variable context x is_stored None known is = absurd cc

of_none : (context : Context) (x : Ident) (is_stored : Bool) (o : Option ScopeVariable) → None ≡ option_map known_of o →
    is_lock_meant context (meaning_of context x) ≡ by_variable context x is_stored o
of_none context x is_stored (Some v) is = absurd cc
of_none context x is_stored None is = refl

pub returns-then-known : goal.returns-then-known
returns-then-known c =
    let context = c.args.context.now in
    let x = c.in-Some.x.now in
    let known = c.in-Some-variable.known in
    rw c.in-Some.is
    (sym (ap (λ (b : Bool). b && not c.args.is_stored) c.if-known.true)
    ∙ of_variable context x c.args.is_stored (variable_named context.scope x.text) known
    (sym c.in-Some-variable.is ∙ c.variable.ensures))

pub returns-else-known : goal.returns-else-known
returns-else-known c =
    let context = c.args.context.now in
    let x = c.in-Some.x.now in
    let known = c.in-Some-variable.known in
    rw c.in-Some.is
    (c.if-known.false
    ∙ sym (ap (λ (b : Bool). b && not c.args.is_stored) c.if-known.false)
    ∙ of_variable context x c.args.is_stored (variable_named context.scope x.text) known
    (sym c.in-Some-variable.is ∙ c.variable.ensures))

pub returns-in-None : goal.returns-in-None
returns-in-None c =
    let context = c.args.context.now in
    let x = c.in-Some.x.now in
    rw c.in-Some.is
    (c.is_lock_meant.ensures
    ∙ of_none context x c.args.is_stored (variable_named context.scope x.text) (sym c.in-None.is ∙ c.variable.ensures))
