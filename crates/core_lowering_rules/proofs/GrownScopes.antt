-- Scopes as declarations and statements go by: variables are added, and those that there are stay.
use Rattle.std.proofs.Common.{◌≡◌, ℕ, zero, suc, Bool, true, false, cond, List, [], ◌∷◌, ◌++◌, Option, None, Some}
use Rattle.std.proofs.Common.{length, drop, refl, sym, ap, ◌∙◌, append_assoc, append-nil, slice_get}
use Rattle.std.specs.Prelude.{is_some}
use Rattle.racer_base.specs.declared.ids.VarId.{VarId}
use Rattle.racer_base.specs.declared.ids.Kind.{Kind}
use Rattle.racer_base.specs.declared.ids.Kind.TheVariants.{Other}
use Rattle.java_tree.specs.declared.words.Ident.{Ident}
use Rattle.java_resolver.specs.declared.scope.VariableKind.{VariableKind}
use Rattle.java_tree.specs.declared.methods.ParameterTree.{ParameterTree}
use Rattle.java_tree.specs.Trees.{Ty}
use Rattle.core_code.specs.Core.{Core, Method}
use Rattle.core_code.specs.KindCheck.{variable_at}
use Rattle.core_lowering_rules.specs.Trees.{Variable, Start, Resource, Stmt, Stmts, Groups, Catches}
use Rattle.core_lowering_rules.specs.Context.{Context, Guard, variable_kind_in}
use Rattle.core_lowering_rules.specs.Scopes.{next_variable, new_variable, declared, all_declared, started, back_in}
use Rattle.core_lowering_rules.specs.Scopes.{in_guard, out_of_guard, with_variable, returned_variable, after_return}
use Rattle.core_lowering_rules.specs.Scopes.{after_last, with_resource, with_resources, after, after_all, after_groups}
use Rattle.core_lowering_rules.specs.Scopes.{caught_behind}
use Rattle.core_lowering_rules.specs.Methods.{parameters_declared}
use Rattle.core_lowering_rules.proofs.FoundElements.{Each, each-append}
use Rattle.core_lowering_rules.proofs.ScopeSteps.{Sides, sides_of, with_sides, return_in, ScopeFact, goes-all}
use Rattle.core_lowering_rules.proofs.ScopeSteps.{goes-started}
use Rattle.core_lowering_rules.proofs.ScopeSteps.{goes-after, goes-after_all, goes-groups, goes-parameters}
use Rattle.core_lowering_rules.proofs.ScopeSteps.{goes-resource, goes-resources}
use Rattle.core_lowering_rules.proofs.Stands.{Stands, IsVariable, IsGuard}

-- the second has the variables of the first, and maybe more
pub record Grows (first second : Context) : Type 0 where
  pub more : List Kind
  pub longer : second.kinds ≡ first.kinds ++ more

grows-return : (c : Context) (all : List Guard) → Grows c (return_in c all)
grows-return c [] = record { more = []; longer = sym (append-nil c.kinds) }
grows-return c (guard ∷ outer) = by (is_some guard.variable)
  where
    by : (b : Bool) → Grows c (cond b c (with_variable c guard outer))
    by true = record { more = []; longer = sym (append-nil c.kinds) }
    by false = record { more = c.given ∷ []; longer = refl }

grows-twice : (c d e : Context) → Grows c d → Grows d e → Grows c e
grows-twice c d e p q =
    record {
      more = p.more ++ q.more;
      longer = q.longer ∙ ap (λ kinds. kinds ++ q.more) p.longer ∙ append_assoc c.kinds p.more q.more;
    }

pub grows-last : (o : Option VarId) (c e : Context) → Grows c e → Grows c (after_last o e)
grows-last None c e p = p
grows-last (Some v) c e p = grows-twice c e (after_return e) p (grows-return e e.guards)

abbrev grown : ScopeFact
grown =
    record {
      Goes = λ x c y d. Grows c d;
      stays = λ x c. record { more = []; longer = sym (append-nil c.kinds) };
      further = λ x c y d z e p q. grows-twice c d e p q;
      declares = λ x c t n name. record { more = (variable_kind_in c t n).kind ∷ []; longer = refl };
      names = λ x c name. record { more = Other ∷ []; longer = refl };
      backs = λ x c y d p. record { more = p.more; longer = p.longer };
      notes = λ x c f blind. record { more = []; longer = sym (append-nil c.kinds) };
      turns = λ x c y d f blind p. record { more = p.more; longer = p.longer };
      keeps = λ x c y d f blind p. record { more = []; longer = sym (append-nil c.kinds) };
      guards = λ x c. record { more = []; longer = sym (append-nil c.kinds) };
      unguards = λ x c y d p. record { more = p.more; longer = p.longer };
      returns = λ x c. grows-return c c.guards;
      lasts = λ x c y d z e p q. grows-last (returned_variable d) c e q;
    }

pub grows-all : (context : Context) (t : Ty) (vs : List Variable) →
    Grows context (all_declared context t vs)
grows-all context t vs = goes-all grown context context t vs

pub grows-after : (context : Context) (s : Stmt) → Grows context (after context s)
grows-after context s = goes-after grown context context s

pub grows-after_all : (context : Context) (ss : Stmts) → Grows context (after_all context ss)
grows-after_all context ss = goes-after_all grown context context ss

pub grows-groups : (context : Context) (gs : Groups) → Grows context (after_groups context gs)
grows-groups context gs = goes-groups grown context context gs

pub grows-started : (context : Context) (i : Start) → Grows context (started context i)
grows-started context i = goes-started grown context context i

pub grows-resources : (context : Context) (rs : List Resource) → Grows context (with_resources context rs)
grows-resources context rs = goes-resources grown context context rs

pub grows-parameters : (context : Context) (ps : List ParameterTree) → Grows context (parameters_declared context ps)
grows-parameters context ps = goes-parameters grown context context ps

-- the method has the variables so far, and maybe more
pub record HasKinds (m : Method) (context : Context) : Type 0 where
  pub rest : List Kind
  pub all : m.variables ≡ context.kinds ++ rest

pub has-earlier : (m : Method) (a b : Context) → Grows a b → HasKinds m b → HasKinds m a
has-earlier m a b g h =
    record {
      rest = g.more ++ h.rest;
      all = h.all ∙ ap (λ kinds. kinds ++ h.rest) g.longer ∙ append_assoc a.kinds g.more h.rest;
    }

next-there : (kinds : List Kind) (k : Kind) (rest : List Kind) →
    slice_get ((kinds ++ k ∷ []) ++ rest) (length kinds) ≡ Some k
next-there [] k rest = refl
next-there (j ∷ kinds) k rest = next-there kinds k rest

pub declared-there : (m : Method) (context : Context) (k : VariableKind) (x : Ident) →
    HasKinds m (declared context k x) → variable_at m (next_variable context) ≡ Some k.kind
declared-there m context k x h =
    ap (λ (kinds : List Kind). slice_get kinds (length context.kinds)) h.all ∙ next-there context.kinds k.kind h.rest

-- ---- what holds of all variables

pub each-drop : {A : Type 0} (P : A → Type 0) (n : ℕ) (xs : List A) → Each P xs → Each P (drop n xs)
each-drop P zero xs all = all
each-drop P (suc n) [] all = tt
each-drop P (suc n) (x ∷ xs) all = each-drop P n xs all.1

-- ---- what is known stays known

module _ (core : Core) (m : Method) where
  pub declared-stands : (context : Context) (k : VariableKind) (x : Ident) → Stands core m context →
      HasKinds m (declared context k x) → Stands core m (declared context k x)
  declared-stands context k x s h =
      record {
        known = s.known;
        variables =
            each-append (IsVariable m) context.scope.variables (new_variable context k x ∷ []) s.variables
            (declared-there m context k x h, tt);
        object = s.object;
        gives = s.gives;
        given = s.given;
        guards = s.guards;
      }

  pub back-stands : (before inside : Context) → Stands core m before → Stands core m inside →
      Stands core m (back_in before inside)
  back-stands before inside s t =
      record {
        known = t.known;
        variables = s.variables;
        object = s.object;
        gives = t.gives;
        given = t.given;
        guards = t.guards;
      }

  pub sides-stand : (context : Context) (sides : Sides) → Stands core m context →
      Stands core m (with_sides context sides)
  sides-stand context sides s =
      record {
        known = s.known;
        variables = s.variables;
        object = s.object;
        gives = s.gives;
        given = s.given;
        guards = s.guards;
      }

  pub guard-stands : (context : Context) → Stands core m context → Stands core m (in_guard context)
  guard-stands context s =
      record {
        known = s.known;
        variables = s.variables;
        object = s.object;
        gives = s.gives;
        given = s.given;
        guards = (tt, s.guards);
      }

  pub out-stands : (before inside : Context) → Stands core m inside → Stands core m (out_of_guard before inside)
  out-stands before inside s =
      record {
        known = s.known;
        variables = s.variables;
        object = s.object;
        gives = s.gives;
        given = s.given;
        guards = each-drop (IsGuard m) 1 inside.guards s.guards;
      }

  -- the variable that a return makes
  pub given-there : (context : Context) → Stands core m context → (guard : Guard) (outer : List Guard) →
      HasKinds m (with_variable context guard outer) → variable_at m (next_variable context) ≡ Some m.result
  given-there context s guard outer h =
      ap (λ (kinds : List Kind). slice_get kinds (length context.kinds)) h.all
      ∙ next-there context.kinds context.given h.rest ∙ ap (λ (k : Kind). Some k) s.given

  return-stands : (context : Context) → Stands core m context → (all : List Guard) → Each (IsGuard m) all →
      HasKinds m (return_in context all) → Stands core m (return_in context all)
  return-stands context s [] each h = s
  return-stands context s (guard ∷ outer) each h = by (is_some guard.variable) h
    where
      by : (b : Bool) → HasKinds m (cond b context (with_variable context guard outer)) →
          Stands core m (cond b context (with_variable context guard outer))
      by true k = s
      by false k =
          record {
            known = s.known;
            variables = s.variables;
            object = s.object;
            gives = s.gives;
            given = s.given;
            guards = (given-there context s guard outer k, each.1);
          }

  pub last-stands : (o : Option VarId) (context : Context) → HasKinds m (after_last o context) →
      (HasKinds m context → Stands core m context) → Stands core m (after_last o context)
  last-stands None context h step = step h
  last-stands (Some v) context h step =
      let s = step (has-earlier m context (after_return context) (grows-return context context.guards) h) in
      return-stands context s context.guards s.guards h

  -- the same variables under another scope
  pub same-kinds : (before inside : Context) → HasKinds m (back_in before inside) → HasKinds m inside
  same-kinds before inside h = record { rest = h.rest; all = h.all }

  other-sides : (context : Context) (sides : Sides) → HasKinds m (with_sides context sides) → HasKinds m context
  other-sides context sides h = record { rest = h.rest; all = h.all }

  other-guards : (before inside : Context) → HasKinds m (out_of_guard before inside) → HasKinds m inside
  other-guards before inside h = record { rest = h.rest; all = h.all }

  -- where the method has the variables behind
  record Keeps (c d : Context) : Type 0 where
    grows : Grows c d
    stand : Stands core m c → HasKinds m d → Stands core m d

  abbrev kept : ScopeFact
  kept =
      record {
        Goes = λ x c y d. Keeps c d;
        stays = λ x c. record { grows = grown.stays x c; stand = λ s h. s };
        further = λ x c y d z e p q. record {
          grows = grows-twice c d e p.grows q.grows;
          stand = λ s h. q.stand (p.stand s (has-earlier m d e q.grows h)) h;
        };
        declares = λ x c t n name. record {
          grows = grown.declares x c t n name;
          stand = λ s h. declared-stands c (variable_kind_in c t n) name s h;
        };
        names = λ x c name. record {
          grows = grown.names x c name;
          stand = λ s h. declared-stands c (record { kind = Other; is_lock = false }) name s h;
        };
        backs = λ x c y d p. record {
          grows = grown.backs x c y d p.grows;
          stand = λ s h. back-stands c d s (p.stand s (same-kinds c d h));
        };
        notes = λ x c f blind. record {
          grows = grown.notes x c f blind;
          stand = λ s h. sides-stand c (f c) s;
        };
        turns = λ x c y d f blind p. record {
          grows = grown.turns x c y d f blind p.grows;
          stand = λ s h. sides-stand d (f c d) (p.stand s (other-sides d (f c d) h));
        };
        keeps = λ x c y d f blind p. record {
          grows = grown.keeps x c y d f blind p.grows;
          stand = λ s h. sides-stand c (f c d) s;
        };
        guards = λ x c. record { grows = grown.guards x c; stand = λ s h. guard-stands c s };
        unguards = λ x c y d p. record {
          grows = grown.unguards x c y d p.grows;
          stand = λ s h. out-stands c d (p.stand s (other-guards c d h));
        };
        returns = λ x c. record {
          grows = grown.returns x c;
          stand = λ s h. return-stands c s c.guards s.guards h;
        };
        lasts = λ x c y d z e p q. record {
          grows = grows-last (returned_variable d) c e q.grows;
          stand = λ s h. last-stands (returned_variable d) e h (λ k. q.stand s k);
        };
      }

  pub started-stands : (context : Context) (i : Start) → Stands core m context → HasKinds m (started context i) →
      Stands core m (started context i)
  started-stands context i s h = let k = goes-started kept context context i in k.stand s h

  pub resources-stand : (context : Context) (rs : List Resource) → Stands core m context →
      HasKinds m (with_resources context rs) → Stands core m (with_resources context rs)
  resources-stand context rs s h = let k = goes-resources kept context context rs in k.stand s h

  pub resource-stands : (context : Context) (r : Resource) → Stands core m context →
      HasKinds m (with_resource context r) → Stands core m (with_resource context r)
  resource-stands context r s h = let k = goes-resource kept context context r in k.stand s h

  pub clauses-stand : (context : Context) (catches : Catches) → Stands core m context →
      Stands core m (caught_behind context catches)
  clauses-stand context catches s = sides-stand context (sides_of (caught_behind context catches)) s

  pub after-stands : (context : Context) (s : Stmt) → Stands core m context → HasKinds m (after context s) →
      Stands core m (after context s)
  after-stands context b s h = let k = goes-after kept context context b in k.stand s h

  pub after_all-stands : (context : Context) (ss : Stmts) → Stands core m context →
      HasKinds m (after_all context ss) → Stands core m (after_all context ss)
  after_all-stands context ss s h = let k = goes-after_all kept context context ss in k.stand s h

  pub groups-stand : (context : Context) (gs : Groups) → Stands core m context →
      HasKinds m (after_groups context gs) → Stands core m (after_groups context gs)
  groups-stand context gs s h = let k = goes-groups kept context context gs in k.stand s h

  pub parameters-stand : (context : Context) (ps : List ParameterTree) → Stands core m context →
      HasKinds m (parameters_declared context ps) → Stands core m (parameters_declared context ps)
  parameters-stand context ps s h = let k = goes-parameters kept context context ps in k.stand s h
