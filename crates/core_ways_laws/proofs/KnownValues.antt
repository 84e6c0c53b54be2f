-- No value of a flow is named by a path that begins at some object of a class.
use Rattle.std.proofs.Common.{◌≡◌, ℕ, zero, suc, ◌-◌, Bool, true, false, cond, List, [], ◌∷◌, ◌++◌, None, Some}
use Rattle.std.proofs.Common.{drop, length, replicate, reverse, slice_index_or, slice_set, take, refl, sym, subst}
use Rattle.std.proofs.Common.{nat_lt}
use Rattle.std.proofs.lemmas.List.{reverse-append}
use Rattle.racer_base.specs.declared.ids.FieldId.{FieldId}
use Rattle.racer_base.specs.declared.ids.Kind.{Kind}
use Rattle.racer_base.specs.declared.limits.TheConstants.{MAX_PATH_FIELDS}
use Rattle.access_paths.specs.declared.path.Root.{Root}
use Rattle.access_paths.specs.declared.path.Root.TheVariants.{This, Class, Formal, Some as SomeOf}
use Rattle.access_paths.specs.Paths.{alone}
use Rattle.owner_domain.specs.declared.value.State.{State}
use Rattle.owner_domain.specs.declared.value.Value.{Value}
use Rattle.owner_domain.specs.declared.value.Value.TheVariants.{Owned, Named, Unnamed}
use Rattle.owner_domain.specs.Values.{along, field_value, has_known_root, joined, joined_state, joined_values}
use Rattle.owner_domain.specs.Values.{named_or_unnamed, same_value}
use Rattle.access_domain.specs.FlowContext.{FlowContext, is_plain}
use Rattle.access_domain.specs.Operations.{read_value}
use Rattle.access_domain.specs.Substitution.{Actuals, actuals_from, root_value, substituted_value}
use Rattle.access_domain.specs.Summaries.{parameter_value, parameter_values, passed_values, start_of}
use Rattle.core_code.specs.Core.{Method}

abbrev pub IsKnown : Value → Type 0
IsKnown v = has_known_root v ≡ true

abbrev pub AreKnown : List Value → Type 0
AreKnown [] = Unit {0}
AreKnown (v ∷ vs) = IsKnown v × AreKnown vs

pub record IsKnownState (s : State) : Type 0 where
  pub vars : AreKnown s.vars
  pub stack : AreKnown s.stack

-- ---- lists

pub known-drop : (n : ℕ) (vs : List Value) → AreKnown vs → AreKnown (drop n vs)
known-drop zero vs known = known
known-drop (suc n) [] known = tt
known-drop (suc n) (v ∷ vs) known = known-drop n vs known.1

known-take : (n : ℕ) (vs : List Value) → AreKnown vs → AreKnown (take n vs)
known-take zero vs known = tt
known-take (suc n) [] known = tt
known-take (suc n) (v ∷ vs) known = (known.0, known-take n vs known.1)

known-append : (vs ws : List Value) → AreKnown vs → AreKnown ws → AreKnown (vs ++ ws)
known-append [] ws known more = more
known-append (v ∷ vs) ws known more = (known.0, known-append vs ws known.1 more)

known-reverse : (vs : List Value) → AreKnown vs → AreKnown (reverse vs)
known-reverse [] known = tt
known-reverse (v ∷ vs) known =
    subst AreKnown (sym (reverse-append (v ∷ []) vs))
    (known-append (reverse vs) (v ∷ []) (known-reverse vs known.1) (known.0, tt))

known-many : (n : ℕ) (v : Value) → IsKnown v → AreKnown (replicate n v)
known-many zero v known = tt
known-many (suc n) v known = (known, known-many n v known)

pub known-slot : (vs : List Value) (i : ℕ) → AreKnown vs → IsKnown (slice_index_or vs i Unnamed)
known-slot [] i known = refl
known-slot (v ∷ vs) zero known = known.0
known-slot (v ∷ vs) (suc i) known = known-slot vs i known.1

pub known-set : (vs : List Value) (i : ℕ) (v : Value) → IsKnown v → AreKnown vs → AreKnown (slice_set vs i v)
known-set [] i v one known = tt
known-set (w ∷ vs) zero v one known = (one, known.1)
known-set (w ∷ vs) (suc i) v one known = (known.0, known-set vs i v one known.1)

pub known-passed : (n : ℕ) (vs : List Value) → AreKnown vs → AreKnown (reverse (take n vs))
known-passed n vs known = known-reverse (take n vs) (known-take n vs known)

-- ---- joins

pub known-join : (a b : Value) → IsKnown a → IsKnown (joined a b)
known-join a b known =
    elim (same_value a b) as (λ t. IsKnown (cond t a Unnamed)) [ true ↦ known | false ↦ refl ]

known-joins : (vs ws : List Value) → AreKnown vs → AreKnown (joined_values vs ws)
known-joins [] ws known = tt
known-joins (v ∷ vs) [] known = tt
known-joins (v ∷ vs) (w ∷ ws) known = (known-join v w known.0, known-joins vs ws known.1)

pub known-states : (s t : State) → IsKnownState s → IsKnownState (joined_state s t)
known-states s t known =
    record { vars = known-joins s.vars t.vars known.vars; stack = known-joins s.stack t.stack known.stack }

-- ---- fields

known-field : (v : Value) (f : FieldId) → IsKnown v → IsKnown (field_value v f)
known-field Owned f known = refl
known-field Unnamed f known = refl
known-field (Named p) f known =
    elim (nat_lt (length p.fields) MAX_PATH_FIELDS) as (λ b. IsKnown (named_or_unnamed (cond b
    (Some (record { root = p.root; fields = p.fields ++ f ∷ [] })) None))) [
      | true ↦ known
      | false ↦ refl
    ]

pub known-along : (fs : List FieldId) (v : Value) → IsKnown v → IsKnown (along v fs)
known-along [] v known = known
known-along (f ∷ fs) v known = known-along fs (field_value v f) (known-field v f known)

pub known-read : (g : FlowContext) (v : Value) (f : FieldId) → IsKnown v → IsKnown (read_value g v f)
known-read g v f known =
    elim (g.is_plain_field f) as (λ b. IsKnown (cond b Unnamed (field_value v f))) [
      | true ↦ refl
      | false ↦ known-field v f known
    ]

-- ---- calls

pub record AreKnownActuals (actuals : Actuals) : Type 0 where
  pub this : IsKnown actuals.this
  pub formals : AreKnown actuals.formals

pub known-actuals : (is_static : Bool) (vs : List Value) → AreKnown vs → AreKnownActuals (actuals_from is_static vs)
known-actuals true vs known = record { this = known-slot vs 0 known; formals = known }
known-actuals false vs known = record { this = known-slot vs 0 known; formals = known-drop 1 vs known }

pub known-root : (actuals : Actuals) (root : Root) → AreKnownActuals actuals → IsKnown (root_value actuals root)
known-root actuals This known = known.this
known-root actuals (Class c) known = refl
known-root actuals (Formal i) known = known-slot actuals.formals i known.formals
known-root actuals (SomeOf c) known = refl

pub known-result : (actuals : Actuals) (v : Value) → AreKnownActuals actuals → IsKnown (substituted_value actuals v)
known-result actuals Owned known = refl
known-result actuals Unnamed known = refl
known-result actuals (Named p) known =
    known-along p.fields (root_value actuals p.root) (known-root actuals p.root known)

-- ---- the entry of a method

known-parameter : (i : ℕ) (kind : Kind) → IsKnown (parameter_value i kind)
known-parameter i kind =
    elim (is_plain kind) as (λ b. IsKnown (cond b Unnamed (Named (alone (Formal i))))) [ true ↦ refl | false ↦ refl ]

known-parameters : (i : ℕ) (kinds : List Kind) → AreKnown (parameter_values i kinds)
known-parameters i [] = tt
known-parameters i (kind ∷ kinds) = (known-parameter i kind, known-parameters (suc i) kinds)

known-this : (is_static : Bool) → AreKnown (cond is_static [] (Named (alone This) ∷ []))
known-this true = tt
known-this false = (refl, tt)

pub known-start : (m : Method) → IsKnownState (start_of m)
known-start m =
    record {
      vars =
          known-append (passed_values m) (replicate (length m.variables - length (passed_values m)) Owned)
          (known-append (cond m.is_static [] (Named (alone This) ∷ [])) (parameter_values 0 m.parameters)
          (known-this m.is_static) (known-parameters 0 m.parameters))
          (known-many (length m.variables - length (passed_values m)) Owned refl);
      stack = tt;
    }
