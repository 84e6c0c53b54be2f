-- Behind declarations and statements the method is the same, and the variables that were in scope are, with maybe more.
use Rattle.std.proofs.Common.{◌≡◌, ℕ, Bool, false, List, [], ◌∷◌, ◌++◌, None, Some, Option, length, take, refl, sym, ap}
use Rattle.std.proofs.Common.{◌∙◌}
use Rattle.std.proofs.Common.{append_assoc, append-nil}
use Rattle.std.proofs.Math.Seq.{take-append_seam}
use Rattle.racer_base.specs.declared.ids.ClassId.{ClassId}
use Rattle.racer_base.specs.declared.ids.Kind.{Kind}
use Rattle.racer_base.specs.declared.ids.Kind.TheVariants.{Other}
use Rattle.racer_base.specs.declared.ids.VarId.{VarId}
use Rattle.java_tree.specs.declared.words.Ident.{Ident}
use Rattle.java_resolver.specs.declared.scope.Scope.{Scope}
use Rattle.java_resolver.specs.declared.scope.ScopeVariable.{ScopeVariable}
use Rattle.java_resolver.specs.declared.scope.VariableKind.{VariableKind}
use Rattle.core_lowering_rules.specs.Trees.{Start, Stmt, Stmts, Groups, Resource}
use Rattle.core_lowering_rules.specs.Context.{Context, Code, variable_kind_in, ending}
use Rattle.core_lowering_rules.specs.Scopes.{new_variable, declared, started, back_in, after, after_all, after_groups}
use Rattle.core_lowering_rules.specs.Scopes.{in_guard, out_of_guard, returned_variable}
use Rattle.core_lowering_rules.specs.Scopes.{after_return, after_last, with_resources, new_variables}
use Rattle.core_lowering_rules.specs.Statements.{closed}
use Rattle.core_lowering_rules.proofs.ScopeSteps.{Sides, with_sides, ScopeFact, goes-after, goes-after_all}
use Rattle.core_lowering_rules.proofs.ScopeSteps.{goes-groups, goes-started, goes-resources}
use Rattle.core_lowering_context.specs.Beginning.{left_at}
use Rattle.core_lowering_parts.specs.StatementParts.{closed_from}
use Rattle.core_lowering_parts.proofs.Inside.{Inside, inside-same, inside-after_return}

pub inside-then : (a b c : Context) → Inside a b → Inside b c → Inside a c
inside-then a b c p q =
    record {
      folder = q.folder ∙ p.folder;
      place = q.place ∙ p.place;
      result = q.result ∙ p.result;
      given = q.given ∙ p.given;
      class = q.class ∙ p.class;
      is_static = q.is_static ∙ p.is_static;
      hidden = q.hidden ∙ p.hidden;
      more = p.more ++ q.more;
      variables =
          q.variables ∙ ap (λ vs. vs ++ q.more) p.variables ∙ append_assoc a.scope.variables p.more q.more;
      more_kinds = p.more_kinds ++ q.more_kinds;
      kinds = q.kinds ∙ ap (λ ks. ks ++ q.more_kinds) p.kinds ∙ append_assoc a.kinds p.more_kinds q.more_kinds;
    }

pub inside-declared : (context : Context) (known : VariableKind) (x : Ident) → Inside context (declared context known x)
inside-declared context known x =
    record {
      folder = refl;
      place = refl;
      result = refl;
      given = refl;
      class = refl;
      is_static = refl;
      hidden = refl;
      more = new_variable context known x ∷ [];
      variables = refl;
      more_kinds = known.kind ∷ [];
      kinds = refl;
    }

pub inside-back : (before inside : Context) → Inside before inside → Inside before (back_in before inside)
inside-back before inside p =
    record {
      folder = p.folder;
      place = p.place;
      result = p.result;
      given = p.given;
      class = refl;
      is_static = refl;
      hidden = refl;
      more = [];
      variables = sym (append-nil before.scope.variables);
      more_kinds = p.more_kinds;
      kinds = p.kinds;
    }

-- whatever else is known
pub inside-sides : (before inside : Context) (s : Sides) → Inside before inside → Inside before (with_sides inside s)
inside-sides before inside s p =
    record {
      folder = p.folder;
      place = p.place;
      result = p.result;
      given = p.given;
      class = p.class;
      is_static = p.is_static;
      hidden = p.hidden;
      more = p.more;
      variables = p.variables;
      more_kinds = p.more_kinds;
      kinds = p.kinds;
    }

pub inside-in_guard : (context : Context) → Inside context (in_guard context)
inside-in_guard context =
    record {
      folder = refl;
      place = refl;
      result = refl;
      given = refl;
      class = refl;
      is_static = refl;
      hidden = refl;
      more = [];
      variables = sym (append-nil context.scope.variables);
      more_kinds = [];
      kinds = sym (append-nil context.kinds);
    }

pub inside-out_of_guard : (before inside : Context) → Inside before inside →
    Inside before (out_of_guard before inside)
inside-out_of_guard before inside p =
    record {
      folder = p.folder;
      place = p.place;
      result = p.result;
      given = p.given;
      class = p.class;
      is_static = p.is_static;
      hidden = p.hidden;
      more = p.more;
      variables = p.variables;
      more_kinds = p.more_kinds;
      kinds = p.kinds;
    }

pub inside-after_last : (before inside : Context) (o : Option VarId) → Inside before inside →
    Inside before (after_last o inside)
inside-after_last before inside None p = p
inside-after_last before inside (Some v) p =
    inside-then before inside (after_return inside) p (inside-after_return inside)

-- ---- statements

abbrev stays-inside : ScopeFact
stays-inside =
    record {
      Goes = λ x c y d. Inside c d;
      stays = λ x c. inside-same c;
      further = λ x c y d z e p q. inside-then c d e p q;
      declares = λ x c t n name. inside-declared c (variable_kind_in c t n) name;
      names = λ x c name. inside-declared c (record { kind = Other; is_lock = false }) name;
      backs = λ x c y d p. inside-back c d p;
      notes = λ x c f blind. inside-sides c c (f c) (inside-same c);
      turns = λ x c y d f blind p. inside-sides c d (f c d) p;
      keeps = λ x c y d f blind p. inside-sides c c (f c d) (inside-same c);
      guards = λ x c. inside-in_guard c;
      unguards = λ x c y d p. inside-out_of_guard c d p;
      returns = λ x c. inside-after_return c;
      lasts = λ x c y d z e p q. inside-after_last c e (returned_variable d) q;
    }

pub inside-after : (context : Context) (s : Stmt) → Inside context (after context s)
inside-after context s = goes-after stays-inside context context s

pub inside-after_all : (context : Context) (ss : Stmts) → Inside context (after_all context ss)
inside-after_all context ss = goes-after_all stays-inside context context ss

pub inside-after_groups : (context : Context) (gs : Groups) → Inside context (after_groups context gs)
inside-after_groups context gs = goes-groups stays-inside context context gs

pub inside-started : (context : Context) (i : Start) → Inside context (started context i)
inside-started context i = goes-started stays-inside context context i

pub inside-resources : (context : Context) (rs : List Resource) → Inside context (with_resources context rs)
inside-resources context rs = goes-resources stays-inside context context rs

-- ---- ends of blocks

abbrev scoped : ClassId → Bool → (hidden : List (List ℕ)) → List ScopeVariable → Scope
scoped c is_static hidden vs = record { class = c; is_static = is_static; hidden = hidden; variables = vs }

-- the variables that are kept are those that were in scope
pub same_scope : (before inside : Context) → Inside before inside →
    scoped inside.scope.class inside.scope.is_static inside.scope.hidden
    (take (length before.scope.variables) inside.scope.variables)
    ≡ scoped before.scope.class before.scope.is_static before.scope.hidden before.scope.variables
same_scope before inside p =
    let b = before.scope in
    let n = length b.variables in
    ap (λ c. scoped c inside.scope.is_static inside.scope.hidden (take n inside.scope.variables)) p.class
    ∙ ap (λ s. scoped b.class s inside.scope.hidden (take n inside.scope.variables)) p.is_static
    ∙ ap (λ h. scoped b.class b.is_static h (take n inside.scope.variables)) p.hidden
    ∙ ap (λ vs. scoped b.class b.is_static b.hidden (take n vs)) p.variables
    ∙ ap (scoped b.class b.is_static b.hidden) (take-append_seam b.variables p.more)

pub left-back : (before inside : Context) → Inside before inside →
    left_at (length before.scope.variables) inside ≡ back_in before inside
left-back before inside p = ap (λ (s : Scope). record inside { scope = s }) (same_scope before inside p)

-- the kinds that are kept are those that were there
pub same_kinds : (before inside : Context) → Inside before inside →
    take (length before.kinds) inside.kinds ≡ before.kinds
same_kinds before inside p =
    ap (take (length before.kinds)) p.kinds ∙ take-append_seam before.kinds p.more_kinds

-- what is null at the end of a block
pub closed-there : (before inside : Context) (body : Code) → Inside before inside →
    closed_from (length before.scope.variables) inside body ≡ closed before inside body
closed-there before inside body p = ap (λ place. ending place (new_variables before inside) body) p.place
