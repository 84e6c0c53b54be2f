-- Behind a return the method is the same, and the variables that were in scope are, with maybe more.
use Rattle.std.proofs.Common.{◌≡◌, Bool, true, false, cond, List, [], ◌∷◌, ◌++◌, refl, sym, append-nil}
use Rattle.std.specs.Prelude.{is_some}
use Rattle.racer_base.specs.declared.ids.Kind.{Kind}
use Rattle.java_resolver.specs.declared.scope.ScopeVariable.{ScopeVariable}
use Rattle.core_lowering_rules.specs.Context.{Context, Guard}
use Rattle.core_lowering_rules.specs.Scopes.{with_variable, after_return}
use Rattle.core_lowering_rules.proofs.ScopeSteps.{return_in}

pub record Inside (before inside : Context) : Type 0 where
  pub folder : inside.folder ≡ before.folder
  pub place : inside.place ≡ before.place
  pub result : inside.result ≡ before.result
  pub given : inside.given ≡ before.given
  pub class : inside.scope.class ≡ before.scope.class
  pub is_static : inside.scope.is_static ≡ before.scope.is_static
  pub hidden : inside.scope.hidden ≡ before.scope.hidden
  pub more : List ScopeVariable
  pub variables : inside.scope.variables ≡ before.scope.variables ++ more
  pub more_kinds : List Kind
  pub kinds : inside.kinds ≡ before.kinds ++ more_kinds

pub inside-same : (context : Context) → Inside context context
inside-same context =
    record {
      folder = refl;
      place = refl;
      result = refl;
      given = refl;
      class = refl;
      is_static = refl;
      hidden = refl;
      more = [];
      variables = sym (append-nil context.scope.variables);
      more_kinds = [];
      kinds = sym (append-nil context.kinds);
    }

inside-with_variable : (context : Context) (guard : Guard) (outer : List Guard) →
    Inside context (with_variable context guard outer)
inside-with_variable context guard outer =
    record {
      folder = refl;
      place = refl;
      result = refl;
      given = refl;
      class = refl;
      is_static = refl;
      hidden = refl;
      more = [];
      variables = sym (append-nil context.scope.variables);
      more_kinds = context.given ∷ [];
      kinds = refl;
    }

inside-return_in : (context : Context) (guards : List Guard) → Inside context (return_in context guards)
inside-return_in context [] = inside-same context
inside-return_in context (guard ∷ outer) = by (is_some guard.variable)
  where
    by : (b : Bool) → Inside context (cond b context (with_variable context guard outer))
    by true = inside-same context
    by false = inside-with_variable context guard outer

pub inside-after_return : (context : Context) → Inside context (after_return context)
inside-after_return context = inside-return_in context context.guards
