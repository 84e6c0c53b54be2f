-- What is found of a callee, in its caller's values, with other numbers for classes and fields.
use Rattle.std.proofs.Common.{◌≡◌, ℕ, zero, suc, ◌+◌, Bool, true, false, cond, ◌&&◌, ◌||◌, not, List, [], ◌∷◌, ◌++◌}
use Rattle.std.proofs.Common.{Option, None, Some, filter, map, option_map, reverse, slice_index_or, take}
use Rattle.std.proofs.Common.{refl, sym, ap, ◌∙◌}
use Rattle.std.proofs.lemmas.List.{drop-map, map-append, take-map}
use Rattle.std.specs.List.{enumerate_from, flat_map}
use Rattle.indexmap.proofs.ReorderLemmas.{map-reverse}
use Rattle.racer_base.specs.declared.ids.FieldId.{FieldId}
use Rattle.racer_base.specs.declared.ids.SiteId.{SiteId}
use Rattle.access_paths.specs.declared.path.Root.{Root}
use Rattle.access_paths.specs.declared.path.Root.TheVariants.{This, Class, Formal, Some as SomeOf}
use Rattle.access_paths.specs.declared.path.Path.{Path}
use Rattle.access_paths.specs.Paths.{extended, front_of, last_of, same_path, some_path}
use Rattle.owner_domain.specs.declared.value.Value.{Value}
use Rattle.owner_domain.specs.declared.value.Value.TheVariants.{Owned, Named, Unnamed}
use Rattle.owner_domain.specs.declared.value.State.{State}
use Rattle.owner_domain.specs.Values.{along, names_of}
use Rattle.access_domain.specs.declared.access.Access.{Access}
use Rattle.access_domain.specs.Findings.{Findings, Known, Large, Whole}
use Rattle.access_domain.specs.FlowContext.{FlowContext}
use Rattle.access_domain.specs.Operations.{passed_from}
use Rattle.access_domain.specs.Records.{different_paths, first_of_keys, firsts, same_flag, same_key, same_touch}
use Rattle.access_domain.specs.Substitution.{Actuals, actuals_from, root_value, substituted, substituted_path}
use Rattle.access_domain.specs.Substitution.{substituted_record, substituted_value, touched, value_named}
use Rattle.transfer.proofs.Renumbering.{Renumbering, along-by, either-by, extended-by, names_of-by, path_by, root_by}
use Rattle.transfer.proofs.Renumbering.{same_path-by, state_by, value_by}

abbrev pub access_by : Renumbering → Access → Access
access_by r a =
    record {
      path = path_by r a.path;
      kind = a.kind;
      locked = a.locked;
      main = a.main;
      site = a.site;
      below = a.below;
    }

abbrev pub findings_by : Renumbering → Findings → Findings
findings_by r f =
    record {
      records = map (access_by r) f.records;
      wobbly = map (path_by r) f.wobbly;
      result = value_by r f.result;
    }

abbrev pub known_by : Renumbering → Known → Known
known_by r Large = Large
known_by r (Whole f) = Whole (findings_by r f)

abbrev actuals_by : Renumbering → Actuals → Actuals
actuals_by r a = record { this = value_by r a.this; formals = map (value_by r) a.formals }

-- the same is known of a field and of the one of its number
pub record IsSameField (r : Renumbering) (g h : FlowContext) (f : FieldId) : Type 0 where
  pub class : h.class_of (r.field f) ≡ r.class (g.class_of f)
  pub recorded : h.is_recorded (r.field f) ≡ g.is_recorded f
  pub plain : h.is_plain_field (r.field f) ≡ g.is_plain_field f

-- the same of the field that may be there
abbrev pub IsSameLast : Renumbering → FlowContext → FlowContext → Option FieldId → Type 0
IsSameLast r g h None = Unit {0}
IsSameLast r g h (Some f) = IsSameField r g h f

-- the same of the last field of a path
abbrev pub HasSameField : Renumbering → FlowContext → FlowContext → Path → Type 0
HasSameField r g h p = IsSameLast r g h (last_of p.fields)

abbrev pub HaveSameFields : Renumbering → FlowContext → FlowContext → List Access → Type 0
HaveSameFields r g h [] = Unit {0}
HaveSameFields r g h (a ∷ rest) = HasSameField r g h a.path × HaveSameFields r g h rest

-- ---- lists

filter-by : {X Y : Type 0} (f : X → Y) (p : Y → Bool) (q : X → Bool) → ((x : X) → p (f x) ≡ q x) →
    (xs : List X) → filter p (map f xs) ≡ map f (filter q xs)
filter-by f p q same [] = refl
filter-by f p q same (x ∷ xs) =
    (λ i. cond (same x i) (f x ∷ filter-by f p q same xs i) (filter-by f p q same xs i))
    ∙ either-by (map f) (q x) (x ∷ filter q xs) (filter q xs)

pub firsts-by : {X Y : Type 0} (f : X → Y) (s : Y → Y → Bool) (t : X → X → Bool) →
    ((x y : X) → s (f x) (f y) ≡ t x y) → (xs : List X) → firsts s (map f xs) ≡ map f (firsts t xs)
firsts-by f s t same [] = refl
firsts-by {X} {Y} f s t same (x ∷ xs) =
    ap (λ (ys : List Y). f x ∷ filter (λ y. not (s (f x) y)) ys) (firsts-by f s t same xs)
    ∙ ap (λ (ys : List Y). f x ∷ ys)
    (filter-by f (λ y. not (s (f x) y)) (λ y. not (t x y)) (λ y. ap not (same x y)) (firsts t xs))

flat_map-by : {X Y Z W : Type 0} (f : X → Y) (k : Z → W) (m : Y → List W) (n : X → List Z) →
    ((x : X) → m (f x) ≡ map k (n x)) → (xs : List X) → flat_map m (map f xs) ≡ map k (flat_map n xs)
flat_map-by f k m n same [] = refl
flat_map-by f k m n same (x ∷ xs) =
    (λ i. same x i ++ flat_map-by f k m n same xs i) ∙ sym (map-append k (n x) (flat_map n xs))

index_or-by : {X Y : Type 0} (f : X → Y) (xs : List X) (i : ℕ) (d : X) →
    slice_index_or (map f xs) i (f d) ≡ f (slice_index_or xs i d)
index_or-by f [] i d = refl
index_or-by f (x ∷ xs) zero d = refl
index_or-by f (x ∷ xs) (suc i) d = index_or-by f xs i d

pub slot-by : (r : Renumbering) (values : List Value) (i : ℕ) →
    slice_index_or (map (value_by r) values) i Unnamed ≡ value_by r (slice_index_or values i Unnamed)
slot-by r values i = index_or-by (value_by r) values i Unnamed

same_key-by : (r : Renumbering) (a b : Access) → same_key (access_by r a) (access_by r b) ≡ same_key a b
same_key-by r a b =
    ap (λ (t : Bool). t && same_touch a.kind b.kind && same_flag a.locked b.locked && same_flag a.main b.main)
    (same_path-by r a.path b.path)

pub first_of_keys-by : (r : Renumbering) (records : List Access) →
    first_of_keys (map (access_by r) records) ≡ map (access_by r) (first_of_keys records)
first_of_keys-by r records = firsts-by (access_by r) same_key same_key (same_key-by r) records

pub different_paths-by : (r : Renumbering) (paths : List Path) →
    different_paths (map (path_by r) paths) ≡ map (path_by r) (different_paths paths)
different_paths-by r paths = firsts-by (path_by r) same_path same_path (same_path-by r) paths

-- ---- paths that are touched

-- what may be there, or this
abbrev given_or : {X : Type 0} → X → Option X → Option X
given_or x None = Some x
given_or x (Some y) = Some y

given_or-by : {X Y : Type 0} (f : X → Y) (x : X) (o : Option X) →
    given_or (f x) (option_map f o) ≡ option_map f (given_or x o)
given_or-by f x None = refl
given_or-by f x (Some y) = refl

pub touched-by : (r : Renumbering) (g h : FlowContext) (v : Value) (f : FieldId) → IsSameField r g h f →
    touched h (value_by r v) (r.field f) ≡ option_map (path_by r) (touched g v f)
touched-by r g h Owned f same = refl
touched-by r g h Unnamed f same = λ i. Some (some_path (same.class i) (r.field f))
touched-by r g h (Named p) f same =
    (λ i. given_or (some_path (same.class i) (r.field f)) (extended-by r p f i))
    ∙ given_or-by (path_by r) (some_path (g.class_of f) f) (extended p f)

-- ---- what is passed

actuals_from-by : (r : Renumbering) (is_static : Bool) (values : List Value) →
    actuals_from is_static (map (value_by r) values) ≡ actuals_by r (actuals_from is_static values)
actuals_from-by r true values = λ i. record { this = slot-by r values 0 i; formals = map (value_by r) values }
actuals_from-by r false values =
    (λ i. record { this = slot-by r values 0 i; formals = drop-map (value_by r) 1 values i })

passed_from-by : (r : Renumbering) (s : State) (n : ℕ) →
    passed_from (state_by r s) n ≡ map (value_by r) (passed_from s n)
passed_from-by r s n =
    ap reverse (take-map (value_by r) n s.stack) ∙ sym (map-reverse (value_by r) (take n s.stack))

-- the actuals of a call
pub actuals-by : (r : Renumbering) (s : State) (n : ℕ) (is_static : Bool) →
    actuals_from is_static (passed_from (state_by r s) n) ≡ actuals_by r (actuals_from is_static (passed_from s n))
actuals-by r s n is_static =
    ap (actuals_from is_static) (passed_from-by r s n) ∙ actuals_from-by r is_static (passed_from s n)

root_value-by : (r : Renumbering) (actuals : Actuals) (root : Root) →
    root_value (actuals_by r actuals) (root_by r root) ≡ value_by r (root_value actuals root)
root_value-by r actuals This = refl
root_value-by r actuals (Class c) = refl
root_value-by r actuals (Formal i) = slot-by r actuals.formals i
root_value-by r actuals (SomeOf c) = refl

along_root-by : (r : Renumbering) (actuals : Actuals) (root : Root) (fields : List FieldId) →
    along (root_value (actuals_by r actuals) (root_by r root)) (map r.field fields) ≡
    value_by r (along (root_value actuals root) fields)
along_root-by r actuals root fields =
    ap (λ (v : Value). along v (map r.field fields)) (root_value-by r actuals root)
    ∙ along-by r (root_value actuals root) fields

substituted_value-by : (r : Renumbering) (actuals : Actuals) (v : Value) →
    substituted_value (actuals_by r actuals) (value_by r v) ≡ value_by r (substituted_value actuals v)
substituted_value-by r actuals Owned = refl
substituted_value-by r actuals Unnamed = refl
substituted_value-by r actuals (Named p) = along_root-by r actuals p.root p.fields

names-by : (r : Renumbering) (actuals : Actuals) (p : Path) →
    names_of (value_named (actuals_by r actuals) (path_by r p)) ≡ map (path_by r) (names_of (value_named actuals p))
names-by r actuals p =
    ap names_of (along_root-by r actuals p.root p.fields) ∙ names_of-by r (value_named actuals p)

-- ---- records

front_of-by : (f : FieldId → FieldId) (fields : List FieldId) → front_of (map f fields) ≡ map f (front_of fields)
front_of-by f [] = refl
front_of-by f (x ∷ []) = refl
front_of-by f (x ∷ y ∷ rest) = ap (λ (fields : List FieldId). f x ∷ fields) (front_of-by f (y ∷ rest))

last_of-by : (f : FieldId → FieldId) (fields : List FieldId) → last_of (map f fields) ≡ option_map f (last_of fields)
last_of-by f [] = refl
last_of-by f (x ∷ []) = refl
last_of-by f (x ∷ y ∷ rest) = last_of-by f (y ∷ rest)

-- the path of a record whose base has this value and whose last field is this, if there is one
abbrev path_at : FlowContext → Value → Option FieldId → Option Path
path_at g base None = None
path_at g base (Some f) = touched g base f

path_at-by : (r : Renumbering) (g h : FlowContext) (base : Value) (last : Option FieldId) → IsSameLast r g h last →
    path_at h (value_by r base) (option_map r.field last) ≡ option_map (path_by r) (path_at g base last)
path_at-by r g h base None same = refl
path_at-by r g h base (Some f) same = touched-by r g h base f same

known_root-by : (r : Renumbering) (g h : FlowContext) (actuals : Actuals) (root : Root) (fields : List FieldId) →
    IsSameLast r g h (last_of fields) →
    path_at h (along (root_value (actuals_by r actuals) (root_by r root)) (front_of (map r.field fields)))
    (last_of (map r.field fields)) ≡
    option_map (path_by r) (path_at g (along (root_value actuals root) (front_of fields)) (last_of fields))
known_root-by r g h actuals root fields same =
    (λ i.
    path_at h
    (along (root_value (actuals_by r actuals) (root_by r root)) (front_of-by r.field fields i))
    (last_of-by r.field fields i))
    ∙ ap (λ (base : Value). path_at h base (option_map r.field (last_of fields)))
    (along_root-by r actuals root (front_of fields))
    ∙ path_at-by r g h (along (root_value actuals root) (front_of fields)) (last_of fields) same

substituted_path-by : (r : Renumbering) (g h : FlowContext) (actuals : Actuals) (root : Root)
    (fields : List FieldId) → IsSameLast r g h (last_of fields) →
    substituted_path h (actuals_by r actuals) (record { root = root_by r root; fields = map r.field fields }) ≡
    option_map (path_by r) (substituted_path g actuals (record { root = root; fields = fields }))
substituted_path-by r g h actuals This fields same = known_root-by r g h actuals This fields same
substituted_path-by r g h actuals (Class c) fields same = known_root-by r g h actuals (Class c) fields same
substituted_path-by r g h actuals (Formal i) fields same = known_root-by r g h actuals (Formal i) fields same
substituted_path-by r g h actuals (SomeOf c) fields same = refl

-- the records of a path that may be there
abbrev records_at : Bool → Bool → SiteId → ℕ → Access → Option Path → List Access
records_at main locked site i a None = []
records_at main locked site i a (Some p) =
    record {
      path = p;
      kind = a.kind;
      locked = a.locked || locked;
      main = a.main || main;
      site = site;
      below = Some i;
    } ∷ []

records_at-by : (r : Renumbering) (main locked : Bool) (site : SiteId) (i : ℕ) (a : Access) (o : Option Path) →
    records_at main locked site i (access_by r a) (option_map (path_by r) o) ≡
    map (access_by r) (records_at main locked site i a o)
records_at-by r main locked site i a None = refl
records_at-by r main locked site i a (Some p) = refl

substituted_records-by : (r : Renumbering) (g h : FlowContext) (actuals : Actuals) (locked : Bool) (site : SiteId)
    (n : ℕ) (records : List Access) → h.main ≡ g.main → HaveSameFields r g h records →
    flat_map (substituted_record h (actuals_by r actuals) locked site) (enumerate_from n (map (access_by r) records)) ≡
    map (access_by r) (flat_map (substituted_record g actuals locked site) (enumerate_from n records))
substituted_records-by r g h actuals locked site n [] thread same = refl
substituted_records-by r g h actuals locked site n (a ∷ rest) thread same =
    let here = substituted_path-by r g h actuals a.path.root a.path.fields same.0 in
    let first : List Access = records_at g.main locked site n a (substituted_path g actuals a.path) in
    let others : List Access =
    flat_map (substituted_record g actuals locked site) (enumerate_from (n + 1) rest) in
    (λ i.
    records_at (thread i) locked site n (access_by r a) (here i)
    ++ substituted_records-by r g h actuals locked site (n + 1) rest thread same.1 i)
    ∙ ap (λ (records : List Access). records ++ map (access_by r) others)
    (records_at-by r g.main locked site n a (substituted_path g actuals a.path))
    ∙ sym (map-append (access_by r) first others)

pub substituted-by : (r : Renumbering) (g h : FlowContext) (actuals : Actuals) (found : Findings) (locked : Bool)
    (site : SiteId) → h.main ≡ g.main → HaveSameFields r g h found.records →
    substituted h (actuals_by r actuals) (findings_by r found) locked site ≡
    findings_by r (substituted g actuals found locked site)
substituted-by r g h actuals found locked site thread same =
    let records = flat_map (substituted_record g actuals locked site) (enumerate_from 0 found.records) in
    let paths = flat_map (λ p. names_of (value_named actuals p)) found.wobbly in
    let records_same =
    ap first_of_keys (substituted_records-by r g h actuals locked site 0 found.records thread same)
    ∙ first_of_keys-by r records in
    let paths_same =
    ap different_paths
    (flat_map-by (path_by r) (path_by r) (λ p. names_of (value_named (actuals_by r actuals) p))
    (λ p. names_of (value_named actuals p)) (names-by r actuals) found.wobbly)
    ∙ different_paths-by r paths in
    (λ i. record {
      records = records_same i;
      wobbly = paths_same i;
      result = substituted_value-by r actuals found.result i;
    })
