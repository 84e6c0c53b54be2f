-- Paths, values and states with other numbers for classes and fields.
use Rattle.std.proofs.Common.{◌≡◌, Bool, true, false, cond, ◌&&◌, List, [], ◌∷◌, ◌++◌, Option, None, Some, map}
use Rattle.std.proofs.Common.{length, nat_eq, nat_lt, option_map, refl, sym, ap, ◌∙◌}
use Rattle.std.proofs.lemmas.List.{length-map, map-append}
use Rattle.racer_base.specs.declared.ids.ClassId.{ClassId}
use Rattle.racer_base.specs.declared.ids.FieldId.{FieldId}
use Rattle.racer_base.specs.declared.limits.TheConstants.{MAX_PATH_FIELDS}
use Rattle.access_paths.specs.declared.path.Root.{Root}
use Rattle.access_paths.specs.declared.path.Root.TheVariants.{This, Class, Formal, Some as SomeOf}
use Rattle.access_paths.specs.declared.path.Path.{Path}
use Rattle.access_paths.specs.Paths.{same_root, same_fields, same_path, extended}
use Rattle.owner_domain.specs.declared.value.Value.{Value}
use Rattle.owner_domain.specs.declared.value.Value.TheVariants.{Owned, Named, Unnamed}
use Rattle.owner_domain.specs.declared.value.State.{State}
use Rattle.owner_domain.specs.Values.{along, field_value, joined, joined_state, joined_values, lost, lost_state}
use Rattle.owner_domain.specs.Values.{lost_values, named_or_unnamed, names_of, same_value}
use Rattle.access_domain.specs.Longer.{path_of}

-- each class and each field has a number, and different ones have different numbers
pub record Renumbering : Type 0 where
  pub class : ClassId → ClassId
  pub field : FieldId → FieldId
  pub same_classes : (c d : ClassId) → nat_eq (class c).0 (class d).0 ≡ nat_eq c.0 d.0
  pub same_fields : (f g : FieldId) → nat_eq (field f).0 (field g).0 ≡ nat_eq f.0 g.0

abbrev pub root_by : Renumbering → Root → Root
root_by r This = This
root_by r (Class c) = Class (r.class c)
root_by r (Formal i) = Formal i
root_by r (SomeOf c) = SomeOf (r.class c)

abbrev pub path_by : Renumbering → Path → Path
path_by r p = record { root = root_by r p.root; fields = map r.field p.fields }

abbrev pub value_by : Renumbering → Value → Value
value_by r Owned = Owned
value_by r Unnamed = Unnamed
value_by r (Named p) = Named (path_by r p)

abbrev pub state_by : Renumbering → State → State
state_by r s = record { vars = map (value_by r) s.vars; stack = map (value_by r) s.stack }

-- ---- paths

same_root-by : (r : Renumbering) (a b : Root) → same_root (root_by r a) (root_by r b) ≡ same_root a b
same_root-by r This This = refl
same_root-by r (Class c) (Class d) = r.same_classes c d
same_root-by r (SomeOf c) (SomeOf d) = r.same_classes c d
same_root-by r (Formal i) (Formal j) = refl
same_root-by r _ _ = refl

same_fields-by : (r : Renumbering) (fs gs : List FieldId) → same_fields (map r.field fs) (map r.field gs) ≡
    same_fields fs gs
same_fields-by r [] [] = refl
same_fields-by r [] (g ∷ gs) = refl
same_fields-by r (f ∷ fs) [] = refl
same_fields-by r (f ∷ fs) (g ∷ gs) = λ i. r.same_fields f g i && same_fields-by r fs gs i

pub same_path-by : (r : Renumbering) (p q : Path) → same_path (path_by r p) (path_by r q) ≡ same_path p q
same_path-by r p q = λ i. same_root-by r p.root q.root i && same_fields-by r p.fields q.fields i

-- what a function gives of either of two
pub either-by : {X Y : Type 0} (f : X → Y) (b : Bool) (x y : X) → cond b (f x) (f y) ≡ f (cond b x y)
either-by f true x y = refl
either-by f false x y = refl

pub extended-by : (r : Renumbering) (p : Path) (f : FieldId) →
    extended (path_by r p) (r.field f) ≡ option_map (path_by r) (extended p f)
extended-by r p f =
    let longer = path_of p.root (p.fields ++ f ∷ []) in
    let ends = map-append r.field p.fields (f ∷ []) in
    (λ i.
    cond (nat_lt (length-map p.fields r.field i) MAX_PATH_FIELDS) (Some (path_of (root_by r p.root) (sym ends i))) None)
    ∙ either-by (option_map (path_by r)) (nat_lt (length p.fields) MAX_PATH_FIELDS) (Some longer) None

-- ---- values

named-by : (r : Renumbering) (o : Option Path) →
    named_or_unnamed (option_map (path_by r) o) ≡ value_by r (named_or_unnamed o)
named-by r None = refl
named-by r (Some p) = refl

pub field_value-by : (r : Renumbering) (v : Value) (f : FieldId) →
    field_value (value_by r v) (r.field f) ≡ value_by r (field_value v f)
field_value-by r Owned f = refl
field_value-by r Unnamed f = refl
field_value-by r (Named p) f = ap named_or_unnamed (extended-by r p f) ∙ named-by r (extended p f)

pub along-by : (r : Renumbering) (v : Value) (fs : List FieldId) →
    along (value_by r v) (map r.field fs) ≡ value_by r (along v fs)
along-by r v [] = refl
along-by r v (f ∷ fs) =
    ap (λ (x : Value). along x (map r.field fs)) (field_value-by r v f) ∙ along-by r (field_value v f) fs

pub names_of-by : (r : Renumbering) (v : Value) → names_of (value_by r v) ≡ map (path_by r) (names_of v)
names_of-by r Owned = refl
names_of-by r Unnamed = refl
names_of-by r (Named p) = refl

same_value-by : (r : Renumbering) (a b : Value) → same_value (value_by r a) (value_by r b) ≡ same_value a b
same_value-by r Owned Owned = refl
same_value-by r Unnamed Unnamed = refl
same_value-by r (Named p) (Named q) = same_path-by r p q
same_value-by r _ _ = refl

pub joined-by : (r : Renumbering) (a b : Value) → joined (value_by r a) (value_by r b) ≡ value_by r (joined a b)
joined-by r a b =
    ap (λ (t : Bool). cond t (value_by r a) Unnamed) (same_value-by r a b)
    ∙ either-by (value_by r) (same_value a b) a Unnamed

pub lost-by : (r : Renumbering) (a b : Value) → lost (value_by r a) (value_by r b) ≡ map (path_by r) (lost a b)
lost-by r a b =
    (λ i. cond (same_value-by r a b i) [] (names_of-by r a i ++ names_of-by r b i))
    ∙ ap (λ (paths : List Path). cond (same_value a b) [] paths)
    (sym (map-append (path_by r) (names_of a) (names_of b)))
    ∙ either-by (map (path_by r)) (same_value a b) [] (names_of a ++ names_of b)

-- ---- states

joined_values-by : (r : Renumbering) (xs ys : List Value) →
    joined_values (map (value_by r) xs) (map (value_by r) ys) ≡ map (value_by r) (joined_values xs ys)
joined_values-by r [] ys = refl
joined_values-by r (x ∷ xs) [] = refl
joined_values-by r (x ∷ xs) (y ∷ ys) = λ i. joined-by r x y i ∷ joined_values-by r xs ys i

lost_values-by : (r : Renumbering) (xs ys : List Value) →
    lost_values (map (value_by r) xs) (map (value_by r) ys) ≡ map (path_by r) (lost_values xs ys)
lost_values-by r [] ys = refl
lost_values-by r (x ∷ xs) [] = refl
lost_values-by r (x ∷ xs) (y ∷ ys) =
    (λ i. lost-by r x y i ++ lost_values-by r xs ys i) ∙ sym (map-append (path_by r) (lost x y) (lost_values xs ys))

pub joined_state-by : (r : Renumbering) (s t : State) →
    joined_state (state_by r s) (state_by r t) ≡ state_by r (joined_state s t)
joined_state-by r s t =
    (λ i. record { vars = joined_values-by r s.vars t.vars i; stack = joined_values-by r s.stack t.stack i })

pub lost_state-by : (r : Renumbering) (s t : State) →
    lost_state (state_by r s) (state_by r t) ≡ map (path_by r) (lost_state s t)
lost_state-by r s t =
    (λ i. lost_values-by r s.vars t.vars i ++ lost_values-by r s.stack t.stack i)
    ∙ sym (map-append (path_by r) (lost_values s.vars t.vars) (lost_values s.stack t.stack))
