-- What is read of a field is called by the path of the field.
use Rattle.std.proofs.Common.{◌≡◌, ◌+◌, ◌<◌, ◌≤◌, Bool, true, false, cond, [], ◌∷◌, ◌++◌}
use Rattle.std.proofs.Common.{Option, None, Some, IsTrue, length, length-append, refl, sym, ap, ◌∙◌, arith}
use Rattle.racer_base.specs.declared.ids.ClassId.{ClassId}
use Rattle.racer_base.specs.declared.ids.FieldId.{FieldId}
use Rattle.racer_base.specs.declared.ids.Kind.{Kind}
use Rattle.racer_base.specs.declared.ids.Kind.TheVariants.{Plain, Declared, Other}
use Rattle.racer_base.specs.declared.limits.TheConstants.{MAX_PATH_FIELDS}
use Rattle.access_paths.specs.declared.path.Path.{Path}
use Rattle.access_paths.specs.Paths.{extended}
use Rattle.owner_domain.specs.declared.value.Value.{Value as Called}
use Rattle.owner_domain.specs.declared.value.Value.TheVariants.{Unnamed}
use Rattle.owner_domain.specs.Values.{field_value}
use Rattle.access_domain.specs.Findings.{Table}
use Rattle.access_domain.specs.FlowContext.{given_of, is_plain}
use Rattle.access_domain.specs.Operations.{read_value}
use Rattle.core_code.specs.declared.parts.FieldCore.{FieldCore}
use Rattle.core_code.specs.Core.{Core}
use Rattle.core_code.specs.KindCheck.{field_at}
use Rattle.core_code.specs.Kinds.{StackKind, kind_of}
use Rattle.core_semantics.specs.declared.object.Object.{Object}
use Rattle.core_semantics.specs.declared.object.Object.TheVariants.{Start, Fresh}
use Rattle.core_semantics.specs.declared.object.StartPath.{StartPath}
use Rattle.core_semantics.specs.declared.object.StartRoot.TheVariants.{This as StartThis}
use Rattle.core_semantics.specs.declared.object.Value.{Value}
use Rattle.core_semantics.specs.declared.object.Value.TheVariants.{Plain as PlainValue, Opaque, Null, Object as Ref}
use Rattle.core_semantics.specs.Objects.{lengthened, root_path}
use Rattle.core_semantics.specs.State.{Store}
use Rattle.core_semantics.specs.Steps.{kind_of as field_kind, read, unstored}
use Rattle.core_semantics.proofs.FieldKinds.{kind-there}
use Rattle.core_ways_laws.specs.Names.{Naming, longer_name, name_of}
use Rattle.core_ways_laws.specs.Places.{IsPlace, IsStore, is_strong, start_object}
use Rattle.core_ways_laws.specs.Quiet.{Quietness, are_declared, is_declared, start_path, start_root}
use Rattle.access_domain.specs.Longer.{extended-room, longer}
use Rattle.core_ways_laws.proofs.FieldNames.{declared-kind, declared-longer}
use Rattle.core_ways_laws.proofs.FieldNames.{last-declared, longer-some, plain-there}
use Rattle.core_ways_laws.proofs.Naming.{name-field}

-- ---- objects of values

abbrev object_in : Value → Object → Object
object_in PlainValue other = other
object_in Opaque other = other
object_in Null other = other
object_in (Ref o) other = o

abbrev path_in : Object → StartPath
path_in (Start p) = p
path_in (Fresh m) = root_path StartThis

pub same-object : (o p : Object) → Ref o ≡ Ref p → o ≡ p
same-object o p e = ap (λ (v : Value). object_in v o) e

pub same-start : (p q : StartPath) → Ref (Start p) ≡ Ref (Start q) → p ≡ q
same-start p q e = ap path_in (same-object (Start p) (Start q) e)

-- a start path that goes on from another by a field, where it is that of a path that lasts
record GoesFrom (p : StartPath) (f : FieldId) (r : Path) : Type 0 where
  from : Path
  is : p ≡ start_path from
  by : extended from f ≡ Some r

goes-from : (p : StartPath) (f : FieldId) (r : Path) → lengthened p f ≡ start_path r →
    length r.fields ≤ MAX_PATH_FIELDS → GoesFrom p f r
goes-from p f r same short =
    let fields : p.fields ++ f ∷ [] ≡ r.fields = ap (λ (x : StartPath). x.fields) same in
    let root : p.root ≡ start_root r.root = ap (λ (x : StartPath). x.root) same in
    let from : Path = record { root = r.root; fields = p.fields } in
    let long : length (p.fields ++ f ∷ []) ≡ length p.fields + 1 = length-append p.fields (f ∷ []) in
    let count : length (p.fields ++ f ∷ []) ≡ length r.fields = ap length fields in
    let room : length p.fields < MAX_PATH_FIELDS = omega (arith, long, count, short) in
    record {
      from = from;
      is = (λ i. let x : StartPath = record { root = root i; fields = p.fields } in x);
      by =
          extended-room from f room
          ∙ (λ i. let x : Path = record { root = r.root; fields = fields i } in Some x);
    }

module _ (core : Core) (quiet : Quietness core) (name : Option Path) (o : Object) (f : FieldId) (store : Store)
    (stored : IsStore core quiet store) where
  -- what is called by a quiet path holds its object
  pub read-held : ((q : Path) → name ≡ Some q → quiet.IsIn q → Ref o ≡ start_object q) →
      (r : Path) → longer_name name f ≡ Some r → quiet.IsIn r → read core store o f ≡ start_object r
  read-held held r named in_r =
      let some = longer-some name f r named in
      let q : Path = some.0 in
      let same : o ≡ Start (start_path q) =
      same-object o (Start (start_path q)) (held q some.1 (quiet.prefix q f r some.2 in_r)) in
      let kind = declared-kind (field_kind core f) (last-declared core q f r some.2 (quiet.declared r in_r)) in
      ap (λ (x : Object). read core store x f) same
      ∙ ap (λ (c : Option Value). elim c as (λ _. Value) [
        | None ↦ unstored store.heap (field_kind core f) (Start (start_path q)) f
        | Some v ↦ v
      ]) (stored.unstored q f r some.2 in_r)
      ∙ ap (λ (k : Kind). unstored store.heap k (Start (start_path q)) f) kind.1
      ∙ ap (λ (b : Bool). cond b (Ref (Start (lengthened (start_path q) f))) Null)
      (stored.all (lengthened (start_path q) f))
      ∙ ap start_object (sym (longer q f r some.2).is)

  unstored-called : ((q : Path) → Ref o ≡ start_object q → quiet.IsIn q → name ≡ Some q) → (c : ClassId) (x : Object) →
      o ≡ x → (r : Path) → unstored store.heap (Declared c) x f ≡ start_object r → quiet.IsIn r →
      longer_name name f ≡ Some r
  unstored-called called c (Fresh m) same r is in_r = absurd cc
  unstored-called called c (Start p) same r is in_r =
      let there : Ref (Start (lengthened p f)) ≡ start_object r =
      ap (λ (b : Bool). cond b (Ref (Start (lengthened p f))) Null) (sym (stored.all (lengthened p f))) ∙ is in
      let goes : GoesFrom p f r =
      goes-from p f r (same-start (lengthened p f) (start_path r) there) (quiet.short r in_r) in
      let base : Ref o ≡ start_object goes.from =
      ap Ref same ∙ ap (λ (y : StartPath). Ref (Start y)) goes.is in
      ap (λ (y : Option Path). longer_name y f)
      (called goes.from base (quiet.prefix goes.from f r goes.by in_r))
      ∙ goes.by

  -- the object of a quiet path is called by it
  pub read-called : (c : ClassId) → field_kind core f ≡ Declared c →
      ((q : Path) → Ref o ≡ start_object q → quiet.IsIn q → name ≡ Some q) →
      (r : Path) → read core store o f ≡ start_object r → quiet.IsIn r → longer_name name f ≡ Some r
  read-called c kind called r given in_r =
      elim (store.cells o f) as (λ (x : Option Value). store.cells o f ≡ x → (elim x as (λ _. Value) [
        | None ↦ unstored store.heap (field_kind core f) o f
        | Some v ↦ v
      ]) ≡ start_object r → longer_name name f ≡ Some r) [
        | None ↦ λ e is.
            unstored-called called c o refl r
            (ap (λ (k : Kind). unstored store.heap k o f) (sym kind) ∙ is) in_r
        | Some v ↦ λ e is. absurd (stored.stored o f c r kind (e ∙ ap Some is) in_r)
      ] refl given

  -- all fields are declared
  pub read-declared : (c : ClassId) → field_kind core f ≡ Declared c →
      ((q : Path) → name ≡ Some q → IsTrue (are_declared core q)) →
      (r : Path) → longer_name name f ≡ Some r → IsTrue (are_declared core r)
  read-declared c kind declared r named =
      let some = longer-some name f r named in
      declared-longer core some.0 f r some.2 (declared some.0 some.1) (ap is_declared kind)

-- ---- a place

other-held : (core : Core) (quiet : Quietness core) (name : Option Path) (f : FieldId) (x : Value) →
    field_kind core f ≡ Other → (r : Path) → longer_name name f ≡ Some r → quiet.IsIn r → x ≡ start_object r
other-held core quiet name f x kind r named in_r =
    let some = longer-some name f r named in
    let last : is_declared (field_kind core f) ≡ true =
    last-declared core some.0 f r some.2 (quiet.declared r in_r) in
    let wrong : false ≡ true = ap is_declared (sym kind) ∙ last in
    absurd cc

read-kind : (core : Core) (quiet : Quietness core) (n : Naming) (f : FieldId) (k : Kind) (kind : StackKind)
    (base : Called) (o : Object) (store : Store) → field_kind core f ≡ k → is_strong kind ≡ true →
    IsPlace core quiet kind (name_of n base) (Ref o) → IsStore core quiet store →
    IsPlace core quiet (kind_of k) (name_of n (cond (is_plain k) Unnamed (field_value base f))) (read core store o f)
read-kind core quiet n f Plain kind base o store is strong place stored =
    record { held = λ q e i. absurd cc; called = λ e. absurd cc; declared = λ e. absurd cc }
read-kind core quiet n f Other kind base o store is strong place stored =
    record {
      held = λ r e in_r.
          other-held core quiet (name_of n base) f (read core store o f) is r (sym (name-field n base f) ∙ e) in_r;
      called = λ e. absurd cc;
      declared = λ e. absurd cc;
    }
read-kind core quiet n f (Declared c) kind base o store is strong place stored =
    record {
      held = λ r e in_r.
          read-held core quiet (name_of n base) o f store stored place.held r (sym (name-field n base f) ∙ e) in_r;
      called = λ _ r e in_r.
          name-field n base f
          ∙ read-called core quiet (name_of n base) o f store stored c is (place.called strong) r e in_r;
      declared = λ _ r e.
          read-declared core quiet (name_of n base) o f store stored c is (place.declared strong) r
          (sym (name-field n base f) ∙ e);
    }

-- what is read of a field of a place, beside what the analysis says of it
pub read-place : (core : Core) (quiet : Quietness core) (n : Naming) (table : Table) (main : Bool) (f : FieldId)
    (field : FieldCore) (kind : StackKind) (base : Called) (o : Object) (store : Store) →
    field_at core f ≡ Some field → is_strong kind ≡ true → IsPlace core quiet kind (name_of n base) (Ref o) →
    IsStore core quiet store →
    IsPlace core quiet (kind_of field.kind) (name_of n (read_value (given_of core table main) base f))
    (read core store o f)
read-place core quiet n table main f field kind base o store there strong place stored =
    rw (plain-there core table main f field there)
    (read-kind core quiet n f field.kind kind base o store (kind-there core f field there) strong place stored)
