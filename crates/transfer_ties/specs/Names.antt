-- No public contract rests on this: numbers by names, and what is compared by the numbers of partners.
use Rattle.std.specs.Prelude.{◌≡◌, ℕ, Bool, true, false, ◌&&◌, List, Option, None, Some, MatchOption, bytes_eq}
use Rattle.std.specs.Prelude.{if◌then◌else◌, is_none, length, nat_eq, option_map, slice_get}
use Rattle.std.specs.FinSet as set
use Rattle.std.specs.Option.{option_and_then, IsSomeAnd}
use Rattle.std.specs.List.{list_any}
use Rattle.std.specs.Cmp.Lexicographic.{pointwise}
use Rattle.keyed_numbers.specs.Numbers.{Key, Named as Numbers, key_eq, number_at, or_added}
use Rattle.racer_base.specs.declared.ids.ClassId.{ClassId}
use Rattle.racer_base.specs.declared.ids.FieldId.{FieldId}
use Rattle.racer_base.specs.declared.ids.MethodId.{MethodId}
use Rattle.racer_base.specs.declared.ids.Kind.{Kind}
use Rattle.racer_base.specs.declared.ids.Kind.TheVariants.{Plain, Declared, Other}
use Rattle.access_paths.specs.declared.path.Path.{Path}
use Rattle.access_paths.specs.declared.path.Root.{Root}
use Rattle.access_paths.specs.declared.path.Root.TheVariants.{This, Class, Formal, Some as SomeOf}
use Rattle.access_paths.specs.Order.{PathSet}
use Rattle.owner_domain.specs.declared.value.Value.{Value}
use Rattle.owner_domain.specs.declared.value.Value.TheVariants.{Owned, Named, Unnamed}
use Rattle.core_code.specs.declared.code.Op.{Op as CoreOp}
use Rattle.core_code.specs.declared.code.Op.TheVariants.{Push, PushClass, PushPrim, PushNull, New, Dup, Drop, Get, Put}
use Rattle.core_code.specs.declared.code.Op.TheVariants.{Set, Prim, Outside, Call, Unread, Ret, Throw}
use Rattle.core_code.specs.declared.parts.ClassCore.{ClassCore}
use Rattle.core_code.specs.declared.parts.FieldCore.{FieldCore}
use Rattle.core_code.specs.declared.parts.MethodCore.{MethodCore}
use Rattle.core_code.specs.Core.{Core, Method}
use Rattle.core_code.specs.Names.{same_text}
use Rattle.access_domain.specs.declared.access.Access.{Access}
use Rattle.access_domain.specs.declared.summary.Summary.{Summary}
use Rattle.access_domain.specs.declared.summary.Outcome.{Outcome}
use Rattle.access_domain.specs.declared.summary.Outcome.TheVariants as code
use Rattle.access_domain.specs.Records.{same_flag, same_touch}
use Rattle.transfer_ties.specs.declared.partners.Ties.{Ties}
use Rattle.transfer_ties.specs.Ties.{ties_classes, ties_fields, ties_callees}
use Rattle.transfer_ties.specs.Outcomes.{same_index}
use Rattle.transfer_ties.specs.Partners.{are_partners, class_in, field_in, partner_in, paths_in}

-- ---- numbers by names

-- this is the number of an element that passes, where there is one
abbrev pub IsNumberOf : {A : Type 0} → (A → Bool) → List A → Option ℕ → Type 0
IsNumberOf test xs found =
    MatchOption found (list_any test xs ≡ false) (λ n. IsSomeAnd (slice_get xs n) (λ x. test x ≡ true))

-- at each name and key stands the number of an element that belongs there, where there is one
abbrev pub AreNumbers : {A : Type 0} → (List ℕ → Key → A → Bool) → List A → Numbers → Type 0
AreNumbers belongs xs numbers =
    (name : List ℕ) (key : Key) → IsNumberOf (belongs name key) xs (number_at numbers name key)

-- the number went to each name and key where the element belongs and none was
abbrev pub AddsOne : {A : Type 0} → (List ℕ → Key → A → Bool) → Numbers → Numbers → A → ℕ → Type 0
AddsOne belongs old new x number =
    (name : List ℕ) (key : Key) →
    number_at new name key ≡ or_added (belongs name key x) number (number_at old name key)

abbrev Classes : Type 0
Classes = List (Option ClassId)

abbrev pub class_at : Classes → ClassId → Option ClassId
class_at classes c = partner_in classes c.0

abbrev pub class_belongs : List ℕ → Key → ClassCore → Bool
class_belongs name key c = bytes_eq c.name name && key_eq (0, 0) key

abbrev pub field_belongs : List ℕ → Key → FieldCore → Bool
field_belongs name key f = bytes_eq f.name name && key_eq (f.class.0, 0) key

-- a method whose class has this partner belongs at its name, the partner, and how many parameters it has
abbrev pub is_under : Option ClassId → List ℕ → Key → MethodCore → Bool
is_under None name key m = false
is_under (Some c) name key m = bytes_eq m.name name && key_eq (c.0, length m.parameters) key

-- the same of analysed methods
abbrev pub method_belongs : Classes → List ℕ → Key → MethodCore → Bool
method_belongs classes name key m = is_none m.status && is_under (class_at classes m.class) name key m

-- ---- partners

abbrev pub TellClasses : Core → Core → Classes → Type 0
TellClasses p q classes = (c : ClassId) → MatchOption (class_at classes c)
    ((d : ClassId) → ties_classes p q c d ≡ false) (λ d. ties_classes p q c d ≡ true)

abbrev pub TellFields : Core → Core → List (Option FieldId) → Type 0
TellFields p q fields = (f : FieldId) → MatchOption (partner_in fields f.0)
    ((g : FieldId) → ties_fields p q f g ≡ false) (λ g. ties_fields p q f g ≡ true)

abbrev pub TellMethods : Core → Core → List (Option MethodId) → Type 0
TellMethods p q methods = (n : MethodId) → MatchOption (partner_in methods n.0)
    ((m : MethodId) → are_partners p q m n ≡ false) (λ m. are_partners p q m n ≡ true)

-- ---- what is compared by partners

abbrev pub is_partner : {X : Type 0} → (X → X → Bool) → Option X → X → Bool
is_partner same None y = false
is_partner same (Some x) y = same x y

abbrev pub is_partner_class : Option ClassId → ClassId → Bool
is_partner_class = is_partner (λ (c d : ClassId). nat_eq c.0 d.0)

abbrev pub is_partner_field : Option FieldId → FieldId → Bool
is_partner_field = is_partner (λ (f g : FieldId). nat_eq f.0 g.0)

abbrev pub same_kind : Classes → Kind → Kind → Bool
same_kind classes Plain Plain = true
same_kind classes Other Other = true
same_kind classes (Declared c) (Declared d) = is_partner_class (class_at classes c) d
same_kind classes _ _ = false

abbrev pub same_kinds : Classes → List Kind → List Kind → Bool
same_kinds classes = pointwise (same_kind classes)

abbrev pub same_field : Classes → FieldCore → FieldCore → Bool
same_field classes a b =
    same_kind classes a.kind b.kind && same_flag a.is_static b.is_static && same_flag a.recorded b.recorded

abbrev pub same_signature : Ties → Method → Method → Bool
same_signature ties a b =
    is_partner_class (class_in ties a.class) b.class && same_text a.name b.name
    && nat_eq (length a.parameters) (length b.parameters)

-- the same, and both are static or neither is
abbrev pub same_called : Ties → Method → Method → Bool
same_called ties a b = same_signature ties a b && same_flag a.is_static b.is_static

abbrev pub same_head : Ties → Method → Method → Bool
same_head ties a b =
    same_signature ties a b && same_kinds ties.classes.items a.parameters b.parameters
    && same_kind ties.classes.items a.result b.result && same_kinds ties.classes.items a.variables b.variables
    && same_flag a.is_static b.is_static && same_flag a.main b.main

-- of two operations that name nothing of the program
abbrev pub same_plain : CoreOp → CoreOp → Bool
same_plain (Push v) (Push w) = nat_eq v.0 w.0
same_plain (Set v) (Set w) = nat_eq v.0 w.0
same_plain (Prim k) (Prim l) = nat_eq k l
same_plain (Outside k) (Outside l) = nat_eq k l
same_plain PushPrim PushPrim = true
same_plain PushNull PushNull = true
same_plain Dup Dup = true
same_plain Drop Drop = true
same_plain Ret Ret = true
same_plain Throw Throw = true
same_plain _ _ = false

-- of two operations that name something
abbrev pub same_names : Core → Core → CoreOp → CoreOp → Bool
same_names p q (PushClass c) (PushClass d) = ties_classes p q c d
same_names p q (New c) (New d) = ties_classes p q c d
same_names p q (Get f) (Get g) = ties_fields p q f g
same_names p q (Put f) (Put g) = ties_fields p q f g
same_names p q (Call m k) (Call n l) = ties_callees p q m n && nat_eq k l
same_names p q (Unread m k) (Unread n l) = ties_callees p q m n && nat_eq k l
same_names p q _ _ = false

-- ---- partners by names

abbrev pub class_partner : Numbers → ClassCore → Option ClassId
class_partner numbers c = option_map (λ n. record { 0 = n }) (number_at numbers c.name (0, 0))

-- the field of this number, where it is the same as this one
abbrev pub field_by_number : List FieldCore → Classes → FieldCore → ℕ → Option FieldId
field_by_number fields classes a n =
    option_and_then (λ b. if same_field classes a b then Some (record { 0 = n }) else None) (slice_get fields n)

abbrev pub field_partner : List FieldCore → Numbers → Classes → FieldCore → Option FieldId
field_partner fields numbers classes a =
    option_and_then (λ (c : ClassId).
    option_and_then (field_by_number fields classes a) (number_at numbers a.name (c.0, 0)))
    (class_at classes a.class)

-- the number of the method that has this one's name, class, and as many parameters
abbrev pub method_partner : Numbers → MethodCore → Option MethodId
method_partner numbers m =
    if is_none m.status
    then option_map (λ n. record { 0 = n }) (number_at numbers m.name (m.class.0, length m.parameters))
    else None

-- ---- outcomes by partners

abbrev pub same_root : Ties → Root → Root → Bool
same_root ties This This = true
same_root ties (Class c) (Class d) = is_partner_class (class_in ties c) d
same_root ties (Formal i) (Formal j) = nat_eq i j
same_root ties (SomeOf c) (SomeOf d) = is_partner_class (class_in ties c) d
same_root ties _ _ = false

abbrev pub same_fields : Ties → List FieldId → List FieldId → Bool
same_fields ties = pointwise (λ f g. is_partner_field (field_in ties f) g)

abbrev pub same_path : Ties → Path → Path → Bool
same_path ties a b = same_root ties a.root b.root && same_fields ties a.fields b.fields

abbrev pub same_value : Ties → Value → Value → Bool
same_value ties Owned Owned = true
same_value ties Unnamed Unnamed = true
same_value ties (Named a) (Named b) = same_path ties a b
same_value ties _ _ = false

abbrev pub same_record : Ties → Access → Access → Bool
same_record ties a b =
    same_path ties a.path b.path && same_touch a.kind b.kind && same_flag a.locked b.locked
    && same_flag a.main b.main && nat_eq a.site.0 b.site.0 && same_index a.below b.below

abbrev pub same_records : Ties → List Access → List Access → Bool
same_records ties = pointwise (same_record ties)

-- the set of the paths of a list, with the numbers of the newer program
abbrev pub set_of : Ties → List Path → Option PathSet
set_of ties paths = option_map (λ made. set.from_list made) (paths_in ties paths)

-- the same of a set
abbrev pub set_in : Ties → PathSet → Option PathSet
set_in ties paths = set_of ties (set.items paths)

-- each has what the other has
abbrev pub same_sets : PathSet → PathSet → Bool
same_sets some others = set.is_subset some others && set.is_subset others some

-- the set that this one is in the newer program is this
abbrev pub is_set : Option PathSet → PathSet → Bool
is_set = is_partner same_sets

abbrev pub same_summary : Ties → Summary → Summary → Bool
same_summary ties s t =
    same_records ties s.accesses t.accesses && is_set (set_in ties s.wobbly) t.wobbly
    && same_value ties s.result t.result

abbrev pub same_outcome : Ties → Outcome → Outcome → Bool
same_outcome ties code.Large code.Large = true
same_outcome ties (code.Summary s) (code.Summary t) = same_summary ties s t
same_outcome ties _ _ = false
