-- Values in order that fit kinds in order.
use Rattle.std.proofs.Common.{◌≡◌, ℕ, suc, ◌+◌, ◌<◌, ◌≤◌, Bool, true, false, ◌&&◌, List, [], ◌∷◌, length, get_or, drop}
use Rattle.std.proofs.Common.{refl, sym, ap, ◌∙◌}
use Rattle.std.proofs.lemmas.Bool.{and_left}
use Rattle.std.proofs.lemmas.List.{at_drop_all, at_drop_more}
use Rattle.racer_base.specs.declared.ids.Kind.{Kind}
use Rattle.typed_core.specs.declared.kinds.TypedKind.{TypedKind}
use Rattle.typed_core.specs.Kinds.{do_fit, fits}

pub fit-differ : (kinds : List Kind) (given : List TypedKind) → (length kinds ≡ length given → ⊥) →
    false ≡ do_fit kinds given
fit-differ [] [] f = absurd (f refl)
fit-differ [] (g ∷ given) f = refl
fit-differ (k ∷ kinds) [] f = refl
fit-differ (k ∷ kinds) (g ∷ given) f =
    sym (and_right-fits kinds given (fits k g) (fit-differ kinds given (λ e. f (ap suc e))))
  where
    and_right-fits : (kinds : List Kind) (given : List TypedKind) (b : Bool) → false ≡ do_fit kinds given →
        (b && do_fit kinds given) ≡ false
    and_right-fits kinds given true e = sym e
    and_right-fits kinds given false e = refl

module _ (kinds : List Kind) (given : List TypedKind) (i : ℕ) (d : Kind) (e : TypedKind)
    (in_kinds : i < length kinds) (in_given : i < length given) where
  fit-turn : do_fit (drop i kinds) (drop i given) ≡
      (fits (get_or kinds i d) (get_or given i e) && do_fit (drop (i + 1) kinds) (drop (i + 1) given))
  fit-turn =
      at_drop_more (λ (ks : List Kind). do_fit ks (drop i given)) kinds i d in_kinds
      ∙ at_drop_more (λ (gs : List TypedKind). do_fit (get_or kinds i d ∷ drop (i + 1) kinds) gs) given i e in_given

  pub fit-fails : (b : Bool) → b ≡ fits (get_or kinds i d) (get_or given i e) → b ≡ false →
      false ≡ do_fit (drop i kinds) (drop i given)
  fit-fails b is fails =
      sym (fit-turn
      ∙ and_left (fits (get_or kinds i d) (get_or given i e)) (do_fit (drop (i + 1) kinds) (drop (i + 1) given))
      (sym is ∙ fails))

  pub fit-holds : (b : Bool) → b ≡ fits (get_or kinds i d) (get_or given i e) → b ≡ true →
      do_fit (drop (i + 1) kinds) (drop (i + 1) given) ≡ do_fit (drop i kinds) (drop i given)
  fit-holds b is holds =
      sym (fit-turn
      ∙ ap (λ (t : Bool). t && do_fit (drop (i + 1) kinds) (drop (i + 1) given)) (sym is ∙ holds))

pub fit-end : (kinds : List Kind) (given : List TypedKind) (i : ℕ) → length kinds ≤ i → length given ≤ i →
    true ≡ do_fit (drop i kinds) (drop i given)
fit-end kinds given i past past_given =
    sym (at_drop_all (λ (ks : List Kind). do_fit ks (drop i given)) kinds i past
    ∙ at_drop_all (λ (gs : List TypedKind). do_fit [] gs) given i past_given)
