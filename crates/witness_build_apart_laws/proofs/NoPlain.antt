-- The fields that a leg is said to store in are of no primitive type.
use Rattle.std.proofs.Common.{◌≡◌, ℕ, zero, suc, Bool, true, false, cond, ◌&&◌, List, [], ◌∷◌, Option, None, Some}
use Rattle.std.proofs.Common.{refl, sym, ap, subst, ◌∙◌, slice_get}
use Rattle.std.specs.List.{list_any}
use Rattle.std.proofs.lemmas.Bool.{or_from}
use Rattle.racer_base.specs.declared.ids.FieldId.{FieldId}
use Rattle.access_paths.specs.Paths.{same_field}
use Rattle.core_code.specs.declared.code.Op.{Op as CoreOp}
use Rattle.core_code.specs.declared.code.Op.TheVariants.{New, Put}
use Rattle.core_code.specs.Core.{Core}
use Rattle.core_semantics.specs.declared.answer.Turn.{Turn}
use Rattle.core_semantics.specs.declared.object.Object.{Object}
use Rattle.core_semantics.specs.declared.object.Value.{Value}
use Rattle.core_semantics.specs.declared.object.Value.TheVariants.{Null, Plain, Opaque, Object as Ref}
use Rattle.core_semantics.specs.Objects.{same_object}
use Rattle.core_semantics.specs.Runs.{next_of}
use Rattle.core_semantics.specs.State.{Frame, State, Todo, Op, Choice, Loop, Sync, Unlock, thread_of}
use Rattle.core_semantics.specs.Steps.{kind_of, slot_of, top}
use Rattle.core_semantics.specs.Advances.{Going, one_step}
use Rattle.core_semantics.specs.Changes.{Change, Loud, Quiet, Spot, Stores, frame_change, is_plain, is_plain_kind}
use Rattle.witness_build_apart_laws.specs.Stores.{is_spot, leg_stores}
use Rattle.core_semantics.specs.Changes.{op_change, step_change, stored_in, todo_change}
use Rattle.witness_build_apart_laws.specs.Stores.{noted, stores_behind}
use Rattle.witness_build_apart_laws.proofs.Stored.{kind-same}
use Rattle.witness_build_apart_laws.proofs.Storing.{some-in}

abbrev IsOther : Core → Change → Type 0
IsOther core Quiet = Unit {0}
IsOther core (Stores p g) = is_plain_kind (kind_of core g) ≡ false
IsOther core Loud = Unit {0}

by-value : (core : Core) (b : Bool) → IsOther core (cond b Quiet Loud)
by-value core true = tt
by-value core false = tt

by-kind : (core : Core) (f : FieldId) (v : Value) (o : Object) (k : Bool) → is_plain_kind (kind_of core f) ≡ k →
    IsOther core (cond k (cond (is_plain v) Quiet Loud) (Stores o f))
by-kind core f v o true e = by-value core (is_plain v)
by-kind core f v o false e = e

stored-other : (core : Core) (f : FieldId) (v w : Value) → IsOther core (stored_in core f v w)
stored-other core f v Plain = tt
stored-other core f v Opaque = tt
stored-other core f v Null = tt
stored-other core f v (Ref o) = by-kind core f v o (is_plain_kind (kind_of core f)) refl

op-other : (core : Core) (f : Frame) (op : CoreOp) → IsOther core (op_change core f op)
op-other core f (Put x) = stored-other core x (top f) (slot_of f 1)
op-other core f (New c) = tt
op-other core f _ = tt

todo-other : (core : Core) (f : Frame) (todo : Option Todo) →
    IsOther core (elim todo as (λ _. Change) [ None ↦ Quiet | Some x ↦ todo_change core f x ])
todo-other core f None = tt
todo-other core f (Some (Op place op)) = op-other core f op
todo-other core f (Some (Choice left right)) = tt
todo-other core f (Some (Loop body)) = tt
todo-other core f (Some (Sync lock body)) = tt
todo-other core f (Some Unlock) = tt

frame-other : (core : Core) (frame : Option Frame) → IsOther core (frame_change core frame)
frame-other core None = tt
frame-other core (Some f) = todo-other core f (next_of f)

abbrev among : List Spot → Object → FieldId → Bool
among spots o f = list_any (is_spot o f) spots

not-there : (core : Core) (p o : Object) (g f : FieldId) (b : Bool) → (same_object p o && same_field g f) ≡ b →
    is_plain_kind (kind_of core g) ≡ false → is_plain_kind (kind_of core f) ≡ true → b ≡ false
not-there core p o g f true e other plain =
    absurd (clash (sym other ∙ ap is_plain_kind (kind-same core g f (same_object p o) e) ∙ plain))
  where
    clash : false ≡ true → ⊥
    clash h = absurd cc
not-there core p o g f false e other plain = refl

none-among : (core : Core) (c : Change) (spots all : List Spot) (o : Object) (f : FieldId) → IsOther core c →
    noted c (Some spots) ≡ Some all → is_plain_kind (kind_of core f) ≡ true → among spots o f ≡ false →
    among all o f ≡ false
none-among core Quiet spots all o f other e plain none =
    let same : spots ≡ all = cc in subst (λ (xs : List Spot). among xs o f ≡ false) same none
none-among core (Stores p g) spots all o f other e plain none =
    let same : (p, g) ∷ spots ≡ all = cc in
    subst (λ (xs : List Spot). among xs o f ≡ false) same
    (or_from (is_spot o f (p, g)) (among spots o f)
    (not-there core p o g f (same_object p o && same_field g f) refl other plain) none)
none-among core Loud spots all o f other e plain none = absurd cc

stores-behind-some : (core : Core) (t n : ℕ) (o : Option Going) (spots : List Spot) (x : Object) (f : FieldId) →
    ((ts : List Turn) (s : State) (all : List Spot) → leg_stores core t n ts s ≡ Some all → among all x f ≡ false) →
    stores_behind (leg_stores core t n) o ≡ Some spots → among spots x f ≡ false
stores-behind-some core t n None spots x f then_on e =
    let none : [] ≡ spots = cc in subst (λ (xs : List Spot). among xs x f ≡ false) none refl
stores-behind-some core t n (Some (s, ts)) spots x f then_on e = then_on ts s spots e

pub stores-no-plain : (core : Core) (t n : ℕ) (turns : List Turn) (s : State) (all : List Spot) (o : Object)
    (f : FieldId) → leg_stores core t n turns s ≡ Some all → is_plain_kind (kind_of core f) ≡ true →
    among all o f ≡ false
stores-no-plain core t zero turns s all o f e plain =
    let none : [] ≡ all = cc in subst (λ (xs : List Spot). among xs o f ≡ false) none refl
stores-no-plain core t (suc n) turns s all o f e plain =
    let behind = stores_behind (leg_stores core t n) (one_step core t turns s) in
    let rest = some-in behind all (step_change core s t) e in
    none-among core (step_change core s t) rest.0 all o f (frame-other core (slice_get (thread_of s t).frames 0))
    (sym (ap (noted (step_change core s t)) rest.1) ∙ e) plain
    (stores-behind-some core t n (one_step core t turns s) rest.0 o f
    (λ ts x spots h. stores-no-plain core t n ts x spots o f h plain) rest.1)
