-- What values are called where their paths go on, and where a method is called.
use Rattle.std.proofs.Common.{◌≡◌, ℕ, zero, suc, ◌+◌, ◌≤◌, Bool, true, false, cond, List, [], ◌∷◌, ◌++◌, Option, None}
use Rattle.std.proofs.Common.{Some}
use Rattle.std.proofs.Common.{length, map, slice_index_or, nat_lt, refl, sym, ap, ◌∙◌, arith, append_assoc}
use Rattle.std.proofs.lemmas.List.{length-append, append-nil}
use Rattle.std.proofs.lemmas.Bool.{ltb-false, le-ltb}
use Rattle.racer_base.specs.declared.ids.FieldId.{FieldId}
use Rattle.racer_base.specs.declared.limits.TheConstants.{MAX_PATH_FIELDS}
use Rattle.access_paths.specs.declared.path.Root.{Root}
use Rattle.access_paths.specs.declared.path.Root.TheVariants.{This, Class, Formal, Some as SomeOf}
use Rattle.access_paths.specs.declared.path.Path.{Path}
use Rattle.access_paths.specs.Paths.{extended}
use Rattle.owner_domain.specs.declared.value.Value.{Value}
use Rattle.owner_domain.specs.declared.value.Value.TheVariants.{Owned, Named, Unnamed}
use Rattle.owner_domain.specs.Values.{named_or_unnamed, field_value, along}
use Rattle.access_domain.specs.Substitution.{Actuals, root_value, substituted_value}
use Rattle.access_domain.specs.Longer.{path_of, longer, extended-room}
use Rattle.core_ways_laws.specs.Names.{Naming, root_name, longer_name, name_along, name_of, callee_naming}

extended-full : (p : Path) (f : FieldId) → MAX_PATH_FIELDS ≤ length p.fields → extended p f ≡ None
extended-full p f full =
    ap (λ (b : Bool). cond b (Some (path_of p.root (p.fields ++ f ∷ []))) None)
    (le-ltb (length p.fields) MAX_PATH_FIELDS full)

-- ---- along fields

pub name_along-none : (fs : List FieldId) → name_along None fs ≡ None
name_along-none [] = refl
name_along-none (f ∷ fs) = name_along-none fs

pub name_along-append : (name : Option Path) (fs gs : List FieldId) →
    name_along name (fs ++ gs) ≡ name_along (name_along name fs) gs
name_along-append name [] gs = refl
name_along-append name (f ∷ fs) gs = name_along-append (longer_name name f) fs gs

-- a name that goes on has as many fields more
pub name_along-length : (fs : List FieldId) (p q : Path) → name_along (Some p) fs ≡ Some q →
    length q.fields ≡ length p.fields + length fs
name_along-length [] p q e =
    let same : p ≡ q = cc in
    let lengths : length p.fields ≡ length q.fields = ap (λ (x : Path). length x.fields) same in
    omega arith
name_along-length (f ∷ fs) p q e =
    elim (extended p f) as (λ o. extended p f ≡ o → name_along o fs ≡ Some q →
    length q.fields ≡ length p.fields + suc (length fs)) [
      | None ↦ λ t is. absurd (let none : None ≡ Some q = sym (name_along-none fs) ∙ is in cc)
      | Some r ↦ λ t is.
          let one = longer p f r t in
          let more : length r.fields ≡ length p.fields + 1 =
          ap (λ (x : Path). length x.fields) one.is ∙ length-append p.fields (f ∷ []) in
          let rest : length q.fields ≡ length r.fields + length fs = name_along-length fs r q is in
          omega arith
    ] refl e

-- ---- a value of a field

-- a name as long as this many fields or longer goes on no further where they are too many
too_long : (fs : List FieldId) (name : Option Path) (f : FieldId) → MAX_PATH_FIELDS ≤ length fs →
    longer_name (name_along name fs) f ≡ None
too_long fs None f full = ap (λ (o : Option Path). longer_name o f) (name_along-none fs)
too_long fs (Some p) f full =
    elim (name_along (Some p) fs) as (λ o. name_along (Some p) fs ≡ o → longer_name o f ≡ None) [
      | None ↦ λ e. refl
      | Some q ↦ λ e.
          let lengths : length q.fields ≡ length p.fields + length fs = name_along-length fs p q e in
          extended-full q f (omega arith)
    ] refl

pub name-field : (n : Naming) (v : Value) (f : FieldId) → name_of n (field_value v f) ≡ longer_name (name_of n v) f
name-field n Owned f = refl
name-field n Unnamed f = refl
name-field n (Named p) f =
    elim (nat_lt (length p.fields) MAX_PATH_FIELDS) as (λ b. nat_lt (length p.fields) MAX_PATH_FIELDS ≡ b →
    name_of n (named_or_unnamed (cond b (Some (path_of p.root (p.fields ++ f ∷ []))) None)) ≡
    longer_name (name_along (root_name n p.root) p.fields) f) [
      | true ↦ λ t. name_along-append (root_name n p.root) p.fields (f ∷ [])
      | false ↦ λ t.
          sym (too_long p.fields (root_name n p.root) f (ltb-false (length p.fields) MAX_PATH_FIELDS t))
    ] refl

pub name-along : (n : Naming) (v : Value) (fs : List FieldId) →
    name_of n (along v fs) ≡ name_along (name_of n v) fs
name-along n v [] = refl
name-along n v (f ∷ fs) =
    name-along n (field_value v f) fs ∙ ap (λ (o : Option Path). name_along o fs) (name-field n v f)

-- ---- in a method that is called

pub named-slot : (n : Naming) (vs : List Value) (i : ℕ) →
    slice_index_or (map (name_of n) vs) i None ≡ name_of n (slice_index_or vs i Unnamed)
named-slot n [] i = refl
named-slot n (v ∷ vs) zero = refl
named-slot n (v ∷ vs) (suc i) = named-slot n vs i

pub root-name : (n : Naming) (actuals : Actuals) (root : Root) →
    name_of n (root_value actuals root) ≡ root_name (callee_naming n actuals) root
root-name n actuals This = refl
root-name n actuals (Formal i) = sym (named-slot n actuals.formals i)
root-name n actuals (Class c) = refl
root-name n actuals (SomeOf c) = refl

-- what a value of the callee is called is what the value that stands for it is called
pub name-substituted : (n : Naming) (actuals : Actuals) (v : Value) →
    name_of n (substituted_value actuals v) ≡ name_of (callee_naming n actuals) v
name-substituted n actuals Owned = refl
name-substituted n actuals Unnamed = refl
name-substituted n actuals (Named p) =
    name-along n (root_value actuals p.root) p.fields
    ∙ ap (λ (o : Option Path). name_along o p.fields) (root-name n actuals p.root)

-- ---- which path a name is

pub name_along-is : (fs : List FieldId) (p q : Path) → name_along (Some p) fs ≡ Some q →
    q ≡ path_of p.root (p.fields ++ fs)
name_along-is [] p q e =
    let same : p ≡ q = cc in sym same ∙ ap (path_of p.root) (sym (append-nil p.fields))
name_along-is (f ∷ fs) p q e =
    elim (extended p f) as (λ o. extended p f ≡ o → name_along o fs ≡ Some q →
    q ≡ path_of p.root (p.fields ++ f ∷ fs)) [
      | None ↦ λ t is. absurd (let none : None ≡ Some q = sym (name_along-none fs) ∙ is in cc)
      | Some r ↦ λ t is.
          let one = longer p f r t in
          name_along-is fs r q is
          ∙ ap (λ (x : Path). path_of x.root (x.fields ++ fs)) one.is
          ∙ ap (path_of p.root) (append_assoc p.fields (f ∷ []) fs)
    ] refl e

-- a path that is not too long has a name
pub name_along-short : (fs : List FieldId) (p : Path) → length p.fields + length fs ≤ MAX_PATH_FIELDS →
    name_along (Some p) fs ≡ Some (path_of p.root (p.fields ++ fs))
name_along-short [] p room = ap (λ (fields : List FieldId). Some (path_of p.root fields)) (sym (append-nil p.fields))
name_along-short (f ∷ fs) p room =
    let more : length (p.fields ++ f ∷ []) ≡ length p.fields + 1 = length-append p.fields (f ∷ []) in
    ap (λ (o : Option Path). name_along o fs) (extended-room p f (omega arith))
    ∙ name_along-short fs (path_of p.root (p.fields ++ f ∷ [])) (omega arith)
    ∙ ap (λ (fields : List FieldId). Some (path_of p.root fields)) (append_assoc p.fields (f ∷ []) fs)
