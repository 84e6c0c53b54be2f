-- Arguments are kinded: the values that they leave, and which kinds these fit.
use Rattle.std.proofs.Common.{◌≡◌, ◌≤◌, ℕ, suc, ◌+◌, ◌-◌, true, false, cond, List, [], ◌∷◌, ◌++◌, Some, None}
use Rattle.std.proofs.Common.{length, take, refl, sym, ap, ◌∙◌, subst, arith, append_assoc, append-nil}
use Rattle.std.proofs.Common.{length-append, reverse}
use Rattle.std.proofs.lemmas.List.{reverse-append}
use Rattle.racer_base.specs.declared.ids.Kind.{Kind}
use Rattle.racer_base.specs.declared.ids.Kind.TheVariants as types
use Rattle.core_code.specs.Core as core_specs
use Rattle.core_code.specs.Core.{Core}
use Rattle.racer_base.proofs.Lists.{no_items}
use Rattle.core_code.specs.Kinds.{StackKind, Opaque, fits}
use Rattle.core_code.specs.KindCheck.{Kinds, and_then, below_fitting}
use Rattle.core_lowering_rules.specs.ValueKinds.{ValueKind}
use Rattle.core_lowering_rules.specs.Context.{Context, Code, converted}
use Rattle.core_lowering_rules.proofs.Runs.{Runs, nothing, followed, comes}
use Rattle.core_lowering_rules.proofs.Runs.{in_turn_3}
use Rattle.core_lowering_rules.proofs.Stands.{Stands}
use Rattle.core_lowering_rules.proofs.KindedAccesses.{Leaves, LeavesMany}

-- ---- values that fit

below_fitting-last : (ks : List Kind) (k : Kind) (stack : List StackKind) →
    below_fitting (ks ++ k ∷ []) stack ≡ and_then (below_fitting ks stack) (below_fitting (k ∷ []))
below_fitting-last [] k stack = refl
below_fitting-last (j ∷ ks) k [] = refl
below_fitting-last (j ∷ ks) k (s ∷ stack) =
    elim (fits j s)
    as (λ b. cond b (below_fitting (ks ++ k ∷ []) stack) None ≡
    and_then (cond b (below_fitting ks stack) None) (below_fitting (k ∷ []))) [
      | true ↦ below_fitting-last ks k stack
      | false ↦ refl
    ]

-- what lies below values, and below them one more
pub below_first : (k : Kind) (ks : List Kind) (values : List StackKind) (s : StackKind) (rest : List StackKind) →
    below_fitting (reverse ks) (values ++ s ∷ rest) ≡ Some (s ∷ rest) → fits k s ≡ true →
    below_fitting (reverse (k ∷ ks)) (values ++ s ∷ rest) ≡ Some rest
below_first k ks values s rest e h =
    ap (λ kinds. below_fitting kinds (values ++ s ∷ rest)) (reverse-append (k ∷ []) ks)
    ∙ below_fitting-last (reverse ks) k (values ++ s ∷ rest)
    ∙ ap (λ (o : Kinds). and_then o (below_fitting (k ∷ []))) e
    ∙ ap (λ b. cond b (Some rest) None) h

pub one_more : (values : List StackKind) (s : StackKind) (n : ℕ) → length values ≡ n → length (values ++ s ∷ []) ≡ suc n
one_more values s n e = length-append values (s ∷ []) ∙ (omega arith)

-- the deepest of so many values fit the kinds
pub record Fitting (kinds : List Kind) (values : List StackKind) (n : ℕ) : Type 0 where
  pub others : List StackKind
  pub own : List StackKind
  pub parts : values ≡ others ++ own
  pub many : length others + length kinds ≡ n
  pub fit : (rest : List StackKind) → below_fitting (reverse kinds) (own ++ rest) ≡ Some rest

-- where there are as many values as kinds, these are all
pub all-fit : (kinds : List Kind) (values : List StackKind) (n : ℕ) → Fitting kinds values n → length kinds ≡ n →
    (rest : List StackKind) → below_fitting (reverse kinds) (values ++ rest) ≡ Some rest
all-fit kinds values n f as_many rest =
    let total : length f.others + length kinds ≡ n = f.many in
    let none : f.others ≡ [] = no_items f.others (omega (arith, total, as_many)) in
    ap (λ (v : List StackKind). below_fitting (reverse kinds) (v ++ rest))
    (f.parts ∙ ap (λ (v : List StackKind). v ++ f.own) none)
    ∙ f.fit rest

-- arguments that leave so many values, of which the deepest fit the kinds where these are no more
pub record PassedTo (core : Core) (m : core_specs.Method) (code : Code) (kinds : List Kind) (n : ℕ) : Type 0 where
  pub passes : (stack : List StackKind) →
      (values : List StackKind) × Runs core m code stack (values ++ stack) × (length values ≡ n)
      × (length kinds ≤ n → Fitting kinds values n)

pub fits-opaque : (k : Kind) → fits k Opaque ≡ true
fits-opaque types.Plain = refl
fits-opaque (types.Declared c) = refl
fits-opaque types.Other = refl

-- what a method takes where the last is a value of which nothing is known
pub with-last : (ks : List Kind) → 1 ≤ length ks → (own rest : List StackKind) →
    below_fitting (reverse (take (length ks - 1) ks)) (own ++ rest) ≡ Some rest →
    below_fitting (reverse ks) (Opaque ∷ (own ++ rest)) ≡ Some rest
with-last [] some own rest e = absurd (omega (arith, some))
with-last (k ∷ ks) some own rest e =
    let last = split k ks in
    ap (λ (js : List Kind). below_fitting (reverse js) (Opaque ∷ (own ++ rest))) last.1
    ∙ ap (λ (js : List Kind). below_fitting js (Opaque ∷ (own ++ rest)))
    (reverse-append (take (length (k ∷ ks) - 1) (k ∷ ks)) (last.0 ∷ []))
    ∙ ap (λ b. cond b (below_fitting (reverse (take (length (k ∷ ks) - 1) (k ∷ ks))) (own ++ rest)) None)
    (fits-opaque last.0)
    ∙ e
  where
    split : (j : Kind) (js : List Kind) →
        (last : Kind) × ((j ∷ js) ≡ take (length (j ∷ js) - 1) (j ∷ js) ++ last ∷ [])
    split j [] = (j, refl)
    split j (i ∷ is) =
        let more = split i is in
        let size : suc (length (i ∷ is) - 1) ≡ length (j ∷ i ∷ is) - 1 = omega arith in (
          more.0,
          ap (λ (ks : List Kind). j ∷ ks) more.1 ∙ ap (λ (n : ℕ). take n (j ∷ i ∷ is) ++ more.0 ∷ []) size,
        )

module _ (core : Core) (m : core_specs.Method) (context : Context) (stands : Stands core m context) where
  -- ---- arguments

  pub passed-none : (kinds : List Kind) → PassedTo core m [] kinds 0
  passed-none [] =
      record {
        passes = λ stack. (
          [],
          nothing core m stack,
          refl,
          λ few. record { others = []; own = []; parts = refl; many = refl; fit = λ rest. refl },
        );
      }
  passed-none (k ∷ kinds) =
      record { passes = λ stack. ([], nothing core m stack, refl, λ few. absurd (omega (arith, few))) }

  pub many-more : {e rest : Code} {given : ValueKind} {n : ℕ} → Leaves core m e given → LeavesMany core m rest n →
      LeavesMany core m (e ++ rest) (suc n)
  many-more {e} {rest} {n = n} l p =
      record {
        leaves = λ stack.
            let value = l.leaves stack in
            let more = p.leaves (value.0 ∷ stack) in (
              more.0 ++ value.0 ∷ [],
              subst (λ after. Runs core m (e ++ rest) stack after) (sym (append_assoc more.0 (value.0 ∷ []) stack))
                  (followed core m value.2 more.1),
              one_more more.0 value.0 n more.2,
            );
      }

  pub passed-bare : {e rest : Code} {kind : ValueKind} {n : ℕ} → Leaves core m e kind → PassedTo core m rest [] n →
      PassedTo core m (e ++ rest) [] (suc n)
  passed-bare l p =
      let all = many-more l (record { leaves = λ stack. let more = p.passes stack in (more.0, more.1, more.2) }) in
      record {
        passes = λ stack.
            let values = all.leaves stack in (
              values.0,
              values.1,
              values.2,
              λ few. record {
                others = values.0;
                own = [];
                parts = sym (append-nil values.0);
                many = omega (arith, values.2);
                fit = λ rest. refl;
              },
            );
      }

  pub passed-kind : {e rest : Code} {given : ValueKind} {n : ℕ} (k : Kind) (kinds : List Kind) → Leaves core m e given →
      PassedTo core m rest kinds n → PassedTo core m (e ++ converted context k given ++ rest) (k ∷ kinds) (suc n)
  passed-kind {e} {rest} {given = given} {n = n} k kinds l p =
      record {
        passes = λ stack.
            let value = l.leaves stack in
            let c = comes core m context k given value.0 stack value.1 in
            let more = p.passes (c.to ∷ stack) in (
              more.0 ++ c.to ∷ [],
              subst (λ after. Runs core m (e ++ converted context k given ++ rest) stack after) (sym
                  (append_assoc more.0 (c.to ∷ []) stack))
                  (in_turn_3 core m value.2 c.runs more.1),
              one_more more.0 c.to n more.2,
              λ few.
                  let f = more.3 (omega (arith, few)) in
                  let total : length f.others + length kinds ≡ n = f.many in
                  record {
                    others = f.others;
                    own = f.own ++ c.to ∷ [];
                    parts = ap (λ (v : List StackKind). v ++ c.to ∷ []) f.parts
                        ∙ append_assoc f.others f.own (c.to ∷ []);
                    many = omega (arith, total);
                    fit = λ rest.
                        ap (below_fitting (reverse (k ∷ kinds))) (append_assoc f.own (c.to ∷ []) rest)
                        ∙ below_first k kinds f.own c.to rest (f.fit (c.to ∷ rest)) c.fitting;
                  },
            );
      }
