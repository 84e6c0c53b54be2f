-- To what a return is sent.
use Rattle.std.proofs.Common.{◌≡◌, ℕ, ◌++◌, [], ◌∷◌, Option, None, Some, List, refl, sym, ap, ◌∙◌}
use Rattle.racer_base.specs.declared.ids.Place.{Place}
use Rattle.racer_base.specs.declared.ids.VarId.{VarId}
use Rattle.core_code.specs.declared.code.Op.TheVariants.{Drop, Set, Ret}
use Rattle.core_lowering_drafts.specs.Drafts.{Leave}
use Rattle.core_lowering_rules.specs.Context.{Context, Guard, op_at}
use Rattle.core_lowering_rules.specs.Statements.{sent_back, variable_in}
use Rattle.core_lowering_context.specs.Restored.{sent_to}
use Rattle.core_lowering_parts.specs.StatementParts.{sent_by}

alike : (p q : Place) (to : Option (ℕ × VarId)) (a b : Context) → p ≡ a.place → q ≡ b.place → p ≡ q →
    sent_by a to ≡ sent_by b to
alike p q None a b h k e =
    ap (λ (x : Place). op_at x Ret) (sym h ∙ e ∙ k)
alike p q (Some to) a b h k e =
    ap (λ (x : Place). (op_at x (Set to.1) ++ op_at x Drop) ++ Leave to.0 ∷ []) (sym h ∙ e ∙ k)

pub sent-alike : (a b : Context) (to : Option (ℕ × VarId)) → a.place ≡ b.place → sent_by a to ≡ sent_by b to
sent-alike a b to e = alike a.place b.place to a b refl refl e

pub sent-there : (context : Context) → sent_by context (sent_to context) ≡ sent_back context
sent-there context = by context.guards
  where
    by : (guards : List Guard) → sent_by context (elim guards [
      | [] ↦ None
      | ◌∷◌ guard outer ↦ Some (guard.exit, variable_in context guard)
    ]) ≡ elim guards [
      | [] ↦ op_at context.place Ret
      | ◌∷◌ guard outer ↦
          (op_at context.place (Set (variable_in context guard)) ++ op_at context.place Drop) ++ Leave guard.exit ∷ []
    ]
    by [] = refl
    by (guard ∷ outer) = refl
