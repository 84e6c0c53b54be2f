-- Lowered expressions are kinded: their code leaves one value, which suits their kind. No instance of LoweredFacts:
-- what an operation does to kinds depends on the stack before it, so each form threads its values.
use Rattle.std.proofs.Common.{◌≡◌, Bool, true, false, cond, List, [], ◌∷◌, ◌++◌, Option, Some, None}
use Rattle.std.proofs.Common.{refl}
use Rattle.std.proofs.Common.{subst}
use Rattle.racer_base.specs.declared.ids.ClassId.{ClassId}
use Rattle.racer_base.specs.declared.ids.Kind.{Kind}
use Rattle.racer_base.specs.declared.ids.Kind.TheVariants as types
use Rattle.core_code.specs.declared.code.Op.TheVariants.{PushClass, PushPrim, PushNull, Drop, Prim, Outside}
use Rattle.core_code.specs.Core.{Core, Method}
use Rattle.core_code.specs.Kinds.{Plain, Declared, Class, Null, Opaque, joined_kind}
use Rattle.core_code.proofs.KindLemmas.{class_same}
use Rattle.core_lowering_rules.specs.Trees.{Expr, Unknown, This, ClassOf, Read, Unary, Cast, Binary, Logical}
use Rattle.core_lowering_rules.specs.Trees.{Conditional}
use Rattle.core_lowering_rules.specs.Trees.{Assign}
use Rattle.core_lowering_rules.specs.Trees as tree
use Rattle.core_lowering_rules.specs.Trees.{Combine, Count, Call, CallOn, New, NewBody, NewArray, NewItems, Paren}
use Rattle.core_lowering_rules.specs.Trees.{Access, Named}
use Rattle.core_lowering_rules.specs.Trees.{ThisOf, Refer, ToExpr, ToType}
use Rattle.core_lowering_rules.specs.Trees.{Selected, Element, NoAccess, Exprs, no_expr, expr_then, Init, Value}
use Rattle.core_lowering_rules.specs.Trees.{Items, Inits}
use Rattle.core_lowering_rules.specs.Trees.{no_init, init_then, count_exprs, count_inits}
use Rattle.core_lowering_rules.specs.ValueKinds.{ValueKind, Of, common_kind}
use Rattle.core_lowering_rules.specs.Context.{Context, Code, op, choice, push_this, type_kind}
use Rattle.core_lowering_rules.specs.Assignments.{kind_in}
use Rattle.core_lowering_rules.specs.Calls.{own_callee, callee_on, result_kind, called_on}
use Rattle.core_lowering_rules.specs.Expressions.{class_before, class_written, class_object, this_object, this_kind}
use Rattle.core_lowering_rules.specs.Expressions.{is_own_class, is_evaluated, referred, kind}
use Rattle.core_lowering_rules.specs.Expressions.{access_kind, init_kind, cast, code, stored, storage, passed}
use Rattle.core_lowering_rules.specs.Expressions.{init_code, items_code}
use Rattle.core_lowering_rules.proofs.Suits.{suits-common, joined_stack-top}
use Rattle.core_lowering_rules.proofs.Runs.{nothing, followed, once, chosen, outside}
use Rattle.core_lowering_rules.proofs.Runs.{in_turn_3}
use Rattle.core_lowering_rules.proofs.Stands.{Stands}
use Rattle.core_lowering_rules.proofs.KindedAccesses.{Leaves, LeavesMany, IsStorage, pushes, prims, read-leaves}
use Rattle.core_lowering_rules.proofs.KindedAccesses.{assigned-leaves}
use Rattle.core_lowering_rules.proofs.KindedAccesses.{combined-leaves, counted-leaves, no_values, is-named, is-selected}
use Rattle.core_lowering_rules.proofs.KindedAccesses.{is-element, kind_in-selected}
use Rattle.core_lowering_rules.proofs.KindedArguments.{PassedTo, passed-none, passed-bare, passed-kind, many-more}
use Rattle.core_lowering_rules.proofs.KindedCalls.{is-own, called-leaves, called_on-leaves, not_made, made-leaves}
use Rattle.core_lowering_rules.proofs.KindedTouches.{callee-suits, touched-leaves}

-- the kind of what is stored
pub storage-kind : (context : Context) (a : Access) → kind_in (storage context a) ≡ access_kind context a
storage-kind context (Named x) = refl
storage-kind context (Selected e x) =
    kind_in-selected context (class_before context e) (kind context e) (code context e) [] x
storage-kind context (Element a i) = refl
storage-kind context NoAccess = refl

module _ (core : Core) (m : Method) (context : Context) (stands : Stands core m context) where
  this-by : (b : Bool) → context.scope.is_static ≡ b →
      Leaves core m (cond b (op context (Outside 0)) (push_this context))
      (cond b (Of types.Other) (Of (types.Declared context.scope.class)))
  this-by true e =
      record { leaves = λ stack. (Opaque, tt, outside core m context.place [] stack 0 refl) }
  this-by false e =
      record {
        leaves = λ stack. (
          Declared context.scope.class,
          class_same context.scope.class,
          pushes core m context stands context.place (record { 0 = 0 }) (types.Declared context.scope.class) stack
              (stands.object e),
        );
      }

  class-leaves : (o : Option ClassId) → Leaves core m (class_object context o) (Of types.Other)
  class-leaves None = record { leaves = λ stack. (Opaque, tt, outside core m context.place [] stack 0 refl) }
  class-leaves (Some c) = record {
    leaves = λ stack. (
      Class c,
      tt,
      once core m context.place (PushClass c) []
          (Class c ∷ []) stack refl refl refl refl,
    );
  }

  unary-leaves : {e : Code} {given : ValueKind} → Leaves core m e given →
      Leaves core m (e ++ op context (Prim 1)) (Of types.Plain)
  unary-leaves l =
      record {
        leaves = λ stack.
            let value = l.leaves stack in (
              Plain,
              tt,
              followed core m value.2 (prims core m context stands context.place (value.0 ∷ []) stack 1 refl),
            );
      }

  cast-leaves : {e : Code} {given : ValueKind} (k : Kind) → Leaves core m e given →
      Leaves core m (e ++ cast context k) (Of k)
  cast-leaves types.Plain l = unary-leaves l
  cast-leaves (types.Declared c) l =
      record {
        leaves = λ stack.
            let value = l.leaves stack in
            (Opaque, refl, followed core m value.2 (outside core m context.place (value.0 ∷ []) stack 1 refl));
      }
  cast-leaves types.Other l =
      record {
        leaves = λ stack.
            let value = l.leaves stack in
            (Opaque, tt, followed core m value.2 (outside core m context.place (value.0 ∷ []) stack 1 refl));
      }

  binary-leaves : {a b : Code} {k l : ValueKind} → Leaves core m a k → Leaves core m b l →
      Leaves core m (a ++ b ++ op context (Prim 2)) (Of types.Plain)
  binary-leaves p q =
      record {
        leaves = λ stack.
            let first = p.leaves stack in
            let second = q.leaves (first.0 ∷ stack) in (
              Plain,
              tt,
              in_turn_3 core m first.2 second.2 (prims core m context stands context.place
                  (second.0 ∷ first.0 ∷ []) stack 2 refl),
            );
      }

  logical-leaves : {a b : Code} {k l : ValueKind} → Leaves core m a k → Leaves core m b l →
      Leaves core m (a ++ op context (Prim 1) ++ choice (b ++ op context (Prim 2)) []) (Of types.Plain)
  logical-leaves p q =
      record {
        leaves = λ stack.
            let first = p.leaves stack in
            let second = q.leaves (Plain ∷ stack) in (
              Plain,
              tt,
              in_turn_3 core m first.2 (prims core m context stands context.place (first.0 ∷ []) stack 1 refl)
                  (chosen core m
                  (followed core m second.2 (prims core m context stands context.place
                  (second.0 ∷ Plain ∷ []) stack 2 refl))
                  (nothing core m (Plain ∷ stack)) (joined_stack-top Plain Plain stack)),
            );
      }

  conditional-leaves : {c a b : Code} {j : ValueKind} (k l : ValueKind) → Leaves core m c j → Leaves core m a k →
      Leaves core m b l → Leaves core m (c ++ op context Drop ++ choice a b) (common_kind k l)
  conditional-leaves k l test p q =
      record {
        leaves = λ stack.
            let value = test.leaves stack in
            let first = p.leaves stack in
            let second = q.leaves stack in (
              joined_kind first.0 second.0,
              suits-common k l first.0 second.0 first.1 second.1,
              in_turn_3 core m value.2 (once core m context.place Drop (value.0 ∷ []) [] stack refl refl refl refl)
                  (chosen core m first.2 second.2
                  (joined_stack-top first.0 second.0 stack)),
            );
      }

  this_of-leaves : (b : Bool) →
      Leaves core m (cond b (this_object context) (op context (Outside 0)))
      (cond b (this_kind context) (Of types.Other))
  this_of-leaves true = this-by context.scope.is_static refl
  this_of-leaves false = record { leaves = λ stack. (Opaque, tt, outside core m context.place [] stack 0 refl) }

  referred-leaves : (b : Bool) {e : Code} {k : ValueKind} → Leaves core m e k →
      Leaves core m (referred context b e) (Of types.Other)
  referred-leaves true l =
      record {
        leaves = λ stack.
            let value = l.leaves stack in (
              Opaque,
              tt,
              followed core m value.2 (outside core m context.place (value.0 ∷ []) stack 1 refl),
            );
      }
  referred-leaves false l =
      record { leaves = λ stack. (Opaque, tt, outside core m context.place [] stack 0 refl) }

  mutual
    pub code-leaves : (e : Expr) → Leaves core m (code context e) (kind context e)
    code-leaves tree.Prim = record {
      leaves = λ stack. (
        Plain,
        tt,
        once core m context.place PushPrim []
            (Plain ∷ []) stack refl refl refl refl,
      );
    }
    code-leaves Unknown = record { leaves = λ stack. (Opaque, tt, outside core m context.place [] stack 0 refl) }
    code-leaves tree.Null = record {
      leaves = λ stack. (
        Null,
        refl,
        once core m context.place PushNull []
            (Null ∷ []) stack refl refl refl refl,
      );
    }
    code-leaves This = this-by context.scope.is_static refl
    code-leaves (ClassOf xs) = class-leaves (class_written context xs)
    code-leaves (ThisOf xs) = this_of-leaves (is_own_class context (class_written context xs))
    code-leaves (Refer (ToExpr e)) = referred-leaves (is_evaluated context e) (code-leaves e)
    code-leaves (Refer ToType) =
        record { leaves = λ stack. (Opaque, tt, outside core m context.place [] stack 0 refl) }
    code-leaves (Read a) =
        subst (λ k. Leaves core m (code context (Read a)) k) (storage-kind context a)
        (read-leaves core m context stands (storage context a) (is-storage a))
    code-leaves (Unary e) = unary-leaves (code-leaves e)
    code-leaves (Cast t e) = cast-leaves (type_kind context t) (code-leaves e)
    code-leaves (Binary a b) = binary-leaves (code-leaves a) (code-leaves b)
    code-leaves (Logical a b) = logical-leaves (code-leaves a) (code-leaves b)
    code-leaves (Conditional c a b) =
        conditional-leaves (kind context a) (kind context b) (code-leaves c) (code-leaves a) (code-leaves b)
    code-leaves (Assign a e) =
        subst (λ k. Leaves core m (code context (Assign a e)) k) (storage-kind context a)
        (assigned-leaves core m context stands (storage context a) (is-storage a) (kind context e) (code context e)
        (code-leaves e))
    code-leaves (Combine a e) =
        subst (λ k. Leaves core m (code context (Combine a e)) k) (storage-kind context a)
        (combined-leaves core m context stands (storage context a) (is-storage a) (kind context e) (code context e)
        (code-leaves e))
    code-leaves (Count a) = counted-leaves core m context stands (storage context a) (is-storage a)
    code-leaves (Call x es) =
        called-leaves core m context stands x.place context.scope.class (count_exprs es)
        (λ kinds. passed context kinds es)
        (passed-to es) (own_callee context x (count_exprs es)) (is-own core m context stands x (count_exprs es))
    code-leaves (CallOn e x es) =
        let n = count_exprs es in
        let callee = callee_on context (class_before context e) (kind context e) x n in
        touched-leaves core m context stands (stored context e) (is-stored e) x n (passed context [] es)
        (called_on context x.place (class_before context e) (code context e) n (λ kinds. passed context kinds es) callee)
        (passed-to es []) (result_kind context callee) (callee-suits context callee)
        (called_on-leaves core m context stands x (class_before context e) (kind context e) (code context e) n
        (λ kinds. passed context kinds es) (passed-to es) (code-leaves e))
    code-leaves (New place t es) =
        made-leaves core m context stands place (type_kind context t) (count_exprs es)
        (λ kinds. passed context kinds es)
        (passed-to es)
    code-leaves (NewBody place t es) =
        not_made core m context stands place (type_kind context t) (count_exprs es) (λ kinds. passed context kinds es)
        (passed-to es)
    code-leaves (NewArray place lengths) =
        not_made core m context stands place types.Other (count_exprs lengths) (λ kinds. passed context kinds lengths)
        (passed-to lengths)
    code-leaves (NewItems place items) =
        let l = items-leave items in
        record {
          leaves = λ stack.
              let values = l.leaves stack in (
                Opaque,
                tt,
                followed core m values.1 (outside core m place values.0 stack (count_inits items) values.2),
              );
        }
    code-leaves (Paren e) = code-leaves e

    pub is-stored : (e : Expr) → IsStorage core m context (stored context e)
    is-stored (Read a) = is-storage a
    is-stored _ = no_values core m context stands

    pub is-storage : (a : Access) → IsStorage core m context (storage context a)
    is-storage (Named x) = is-named core m context stands x
    is-storage (Selected e x) =
        is-selected core m context stands (class_before context e) (kind context e) (code context e) x (code-leaves e)
    is-storage (Element a i) =
        is-element core m context stands (code context a) (code context i) (code-leaves a) (code-leaves i)
    is-storage NoAccess = no_values core m context stands

    pub passed-to : (es : Exprs) (kinds : List Kind) → PassedTo core m (passed context kinds es) kinds (count_exprs es)
    passed-to no_expr kinds = passed-none core m context stands kinds
    passed-to (expr_then e es) [] = passed-bare core m context stands (code-leaves e) (passed-to es [])
    passed-to (expr_then e es) (k ∷ kinds) =
        passed-kind core m context stands k kinds (code-leaves e) (passed-to es kinds)

    pub init-leaves : (i : Init) → Leaves core m (init_code context i) (init_kind context i)
    init-leaves (Value e) = code-leaves e
    init-leaves (Items items) =
        let l = items-leave items in
        record {
          leaves = λ stack.
              let values = l.leaves stack in (
                Opaque,
                tt,
                followed core m values.1 (outside core m context.place values.0 stack (count_inits items) values.2),
              );
        }

    items-leave : (items : Inits) → LeavesMany core m (items_code context items) (count_inits items)
    items-leave no_init = no_values core m context stands
    items-leave (init_then i is) = many-more core m context stands (init-leaves i) (items-leave is)
