-- Contexts side by side, one with other statuses, as declarations and statements go by.
use Rattle.std.proofs.Common.{◌≡◌, ℕ, ◌==◌, Bool, true, false, cond, List, [], ◌∷◌, ◌++◌, Option, Some, None}
use Rattle.std.proofs.Common.{refl, subst, sym, ap, ◌∙◌}
use Rattle.std.specs.Prelude.{is_some}
use Rattle.racer_base.specs.declared.ids.VarId.{VarId}
use Rattle.racer_base.specs.declared.ids.Kind.{Kind}
use Rattle.racer_base.specs.declared.ids.Kind.TheVariants as types
use Rattle.java_tree.specs.declared.words.Ident.{Ident}
use Rattle.java_tree.specs.Trees.{Ty, Typed, Plain}
use Rattle.core_code.specs.declared.code.Reason.{Reason}
use Rattle.core_lowering_rules.specs.Trees.{Stmt}
use Rattle.core_lowering_rules.specs.Trees.{Stmts, Groups}
use Rattle.core_lowering_rules.specs.Context.{Context, Guard}
use Rattle.core_lowering_rules.specs.Context.{type_kind, variable_kind_in}
use Rattle.core_lowering_rules.specs.Scopes.{of_type, of_catch, back_in, after, after_all, after_groups}
use Rattle.core_lowering_rules.specs.Scopes.{in_loop}
use Rattle.core_lowering_rules.specs.Scopes.{in_guard, out_of_guard, returned_variable, with_variable}
use Rattle.core_lowering_rules.specs.Scopes.{after_return, after_last}
use Rattle.core_lowering_rules.proofs.FoundElements.{Each, each-append}
use Rattle.core_lowering_rules.proofs.LoweredFacts.{Grounded, GroundedFolder, Fact}
use Rattle.core_lowering_rules.proofs.ScopeSteps.{Sides, with_sides, return_in, IsBlind, AreBlind, ScopeFact}
use Rattle.core_lowering_rules.proofs.ScopeSteps.{goes-loop}
use Rattle.core_lowering_rules.proofs.ScopeSteps.{goes-after}
use Rattle.core_lowering_rules.proofs.ScopeSteps.{goes-after_all, goes-groups}
use Rattle.core_lowering_rules.proofs.StatusesUnseen.{with_statuses}

-- the first is the second with other statuses, and what the second has may stand there
pub record Beside (f : Fact) (statuses : List (Option Reason)) (x c : Context) : Type 0 where
  pub same : x ≡ with_statuses statuses c
  pub grounded : Grounded f.tests c

module _ (f : Fact) (statuses : List (Option Reason)) where
  abbrev other : Context → Context
  other context = with_statuses statuses context

  abbrev Pair : Context → Context → Type 0
  Pair x c = Beside f statuses x c

  pub beside : {c : Context} → Grounded f.tests c → Pair (other c) c
  beside g = record { same = refl; grounded = g }

  -- ---- scopes

  abbrev AreKinds : List Kind → Type 0
  AreKinds kinds = Each (λ k. f.tests.is_kind k ≡ true) kinds

  -- the same under other variables in scope, and other kinds
  regrounded : (c d : Context) → Grounded f.tests c → d.folder ≡ c.folder → d.place ≡ c.place →
      d.scope.class ≡ c.scope.class → d.given ≡ c.given → AreKinds d.kinds → Grounded f.tests d
  regrounded c d g folder place class given kinds =
      record {
        known = subst (λ x. GroundedFolder f.tests x) (sym folder) g.known;
        here = ap f.tests.is_place place ∙ g.here;
        class = ap f.tests.is_class class ∙ g.class;
        given = ap f.tests.is_kind given ∙ g.given;
        kinds = kinds;
      }

  one-more : (kinds : List Kind) (k : Kind) → AreKinds kinds → f.tests.is_kind k ≡ true → AreKinds (kinds ++ k ∷ [])
  one-more kinds k all h = each-append (λ k. f.tests.is_kind k ≡ true) kinds (k ∷ []) all (h, tt)

  -- an array is of kind Other
  other-there : (c : Context) → Grounded f.tests c → f.tests.is_kind types.Other ≡ true
  other-there c g = let h = g.known in h.types [] (Typed (Plain []) 1)

  with-there : (c : Context) → Grounded f.tests c → (k : Kind) → f.tests.is_kind k ≡ true → (b : Bool) →
      f.tests.is_kind (cond b k types.Other) ≡ true
  with-there c g k h true = h
  with-there c g k h false = other-there c g

  pub declares : (x c : Context) (t : Ty) (n : ℕ) (name : Ident) → Pair x c →
      Pair (of_type x t n name) (of_type c t n name)
  declares x c t n name b =
      let g = b.grounded in
      record {
        same = ap (λ (y : Context). of_type y t n name) b.same;
        grounded = regrounded c (of_type c t n name) g refl refl refl refl
            (one-more c.kinds (variable_kind_in c t n).kind g.kinds
            (with-there c g (type_kind c t) (let h = g.known in h.types c.scope.hidden t) (n == 0)));
      }

  -- the parameter of a catch clause
  pub names : (x c : Context) (name : Ident) → Pair x c → Pair (of_catch x name) (of_catch c name)
  names x c name b =
      let g = b.grounded in
      record {
        same = ap (λ (y : Context). of_catch y name) b.same;
        grounded = regrounded c (of_catch c name) g refl refl refl refl
            (one-more c.kinds types.Other g.kinds (other-there c g));
      }

  -- behind a block, with the scope before it
  pub backs : (x c y d : Context) → Pair x c → Pair y d → Pair (back_in x y) (back_in c d)
  backs x c y d b p =
      let g = b.grounded in
      let h = p.grounded in
      record {
        same = ap (λ (z : Context). back_in z y) b.same ∙ ap (λ (z : Context). back_in (other c) z) p.same;
        grounded =
            record {
              known = h.known;
              here = h.here;
              class = g.class;
              given = h.given;
              kinds = h.kinds;
            };
      }

  pub notes : (x c : Context) (s : Context → Sides) → IsBlind s → Pair x c →
      Pair (with_sides x (s x)) (with_sides c (s c))
  notes x c s blind b =
      let g = b.grounded in
      record {
        same = ap (λ (y : Context). with_sides y (s y)) b.same
            ∙ ap (λ (t : Sides). with_sides (other c) t) (blind statuses c);
        grounded = regrounded c (with_sides c (s c)) g refl refl refl refl g.kinds;
      }

  pub turns : (x c y d : Context) (s : Context → Context → Sides) → AreBlind s → Pair x c → Pair y d →
      Pair (with_sides y (s x y)) (with_sides d (s c d))
  turns x c y d s blind b p =
      let g = p.grounded in
      record {
        same = ap (λ (z : Context). with_sides y (s z y)) b.same
            ∙ ap (λ (z : Context). with_sides z (s (other c) z)) p.same
            ∙ ap (λ (t : Sides). with_sides (other d) t) (blind statuses c d);
        grounded = regrounded d (with_sides d (s c d)) g refl refl refl refl g.kinds;
      }

  pub keeps : (x c y d : Context) (s : Context → Context → Sides) → AreBlind s → Pair x c → Pair y d →
      Pair (with_sides x (s x y)) (with_sides c (s c d))
  keeps x c y d s blind b p =
      let g = b.grounded in
      record {
        same = ap (λ (z : Context). with_sides z (s z y)) b.same
            ∙ ap (λ (z : Context). with_sides (other c) (s (other c) z)) p.same
            ∙ ap (λ (t : Sides). with_sides (other c) t) (blind statuses c d);
        grounded = regrounded c (with_sides c (s c d)) g refl refl refl refl g.kinds;
      }

  pub guards : (x c : Context) → Pair x c → Pair (in_guard x) (in_guard c)
  guards x c b =
      let g = b.grounded in
      record { same = ap in_guard b.same; grounded = regrounded c (in_guard c) g refl refl refl refl g.kinds }

  pub unguards : (x c y d : Context) → Pair x c → Pair y d → Pair (out_of_guard x y) (out_of_guard c d)
  unguards x c y d b p =
      let g = p.grounded in
      record {
        same = ap (λ (z : Context). out_of_guard z y) b.same ∙ ap (λ (z : Context). out_of_guard (other c) z) p.same;
        grounded = regrounded d (out_of_guard c d) g refl refl refl refl g.kinds;
      }

  same-by : (b : Bool) (c : Context) (guard : Guard) (outer : List Guard) →
      cond b (other c) (with_variable (other c) guard outer) ≡ other (cond b c (with_variable c guard outer))
  same-by true c guard outer = refl
  same-by false c guard outer = refl

  same-return : (c : Context) (all : List Guard) → return_in (other c) all ≡ other (return_in c all)
  same-return c [] = refl
  same-return c (guard ∷ outer) = same-by (is_some guard.variable) c guard outer

  return-grounded : (c : Context) (all : List Guard) → Grounded f.tests c → Grounded f.tests (return_in c all)
  return-grounded c [] g = g
  return-grounded c (guard ∷ outer) g = by (is_some guard.variable)
    where
      by : (b : Bool) → Grounded f.tests (cond b c (with_variable c guard outer))
      by true = g
      by false = regrounded c (with_variable c guard outer) g refl refl refl refl
          (one-more c.kinds c.given g.kinds g.given)

  pub returns : (x c : Context) → Pair x c → Pair (after_return x) (after_return c)
  returns x c b =
      record {
        same = ap after_return b.same ∙ same-return c c.guards;
        grounded = return-grounded c c.guards b.grounded;
      }

  last-beside : (o : Option VarId) (z e : Context) → Pair z e → Pair (after_last o z) (after_last o e)
  last-beside None z e p = p
  last-beside (Some v) z e p = returns z e p

  pub same-variable : (y d : Context) → Pair y d → returned_variable y ≡ returned_variable d
  same-variable y d p = ap returned_variable p.same

  pub lasts : (y d z e : Context) → Pair y d → Pair z e →
      Pair (after_last (returned_variable y) z) (after_last (returned_variable d) e)
  lasts y d z e p q =
      subst (λ (o : Option VarId). Pair (after_last o z) (after_last (returned_variable d) e))
      (sym (same-variable y d p)) (last-beside (returned_variable d) z e q)

  abbrev pub stays-beside : ScopeFact
  stays-beside =
      record {
        Goes = λ x c y d. Pair x c → Pair y d;
        stays = λ x c b. b;
        further = λ x c y d z e p q b. q (p b);
        declares = declares;
        names = λ x c name b. names x c name b;
        backs = λ x c y d p b. backs x c y d b (p b);
        notes = λ x c s blind b. notes x c s blind b;
        turns = λ x c y d s blind p b. turns x c y d s blind b (p b);
        keeps = λ x c y d s blind p b. keeps x c y d s blind b (p b);
        guards = λ x c b. guards x c b;
        unguards = λ x c y d p b. unguards x c y d b (p b);
        returns = λ x c b. returns x c b;
        lasts = λ x c y d z e p q b. lasts y d z e (p b) (q b);
      }

  pub after-beside : (x c : Context) → Pair x c → (s : Stmt) → Pair (after x s) (after c s)
  after-beside x c b s = goes-after stays-beside x c s b

  pub after_all-beside : (x c : Context) → Pair x c → (ss : Stmts) → Pair (after_all x ss) (after_all c ss)
  after_all-beside x c b ss = goes-after_all stays-beside x c ss b

  pub groups-beside : (x c : Context) → Pair x c → (gs : Groups) → Pair (after_groups x gs) (after_groups c gs)
  groups-beside x c b gs = goes-groups stays-beside x c gs b

  pub loop-beside : (x c : Context) → Pair x c → Pair (in_loop x) (in_loop c)
  loop-beside x c b = goes-loop stays-beside x c b
