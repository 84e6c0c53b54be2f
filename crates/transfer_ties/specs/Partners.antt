-- A contract of a public call rests on this: what of an older program is the same by names in a newer one, by numbers,
-- and outcomes with the numbers of the newer one.
use Rattle.std.specs.Prelude.{◌≡◌, ℕ, Bool, true, false, ◌&&◌, List, [], ◌∷◌, Option, Some, MatchOption}
use Rattle.std.specs.Prelude.{map, option_map, slice_get}
use Rattle.std.specs.FinSet as set
use Rattle.std.specs.Option.{option_and_then, option_flatten}
use Rattle.racer_base.specs.declared.ids.ClassId.{ClassId}
use Rattle.racer_base.specs.declared.ids.FieldId.{FieldId}
use Rattle.racer_base.specs.declared.ids.MethodId.{MethodId}
use Rattle.access_paths.specs.declared.path.Root.{Root}
use Rattle.access_paths.specs.declared.path.Root.TheVariants.{This, Class, Formal, Some as SomeOf}
use Rattle.access_paths.specs.declared.path.Path.{Path}
use Rattle.owner_domain.specs.declared.value.Value.{Value}
use Rattle.owner_domain.specs.declared.value.Value.TheVariants.{Owned, Named, Unnamed}
use Rattle.core_code.specs.Calls.{is_analysed, method_at}
use Rattle.core_code.specs.Core.{Core}
use Rattle.access_domain.specs.declared.access.Access.{Access}
use Rattle.access_domain.specs.declared.summary.Summary.{Summary}
use Rattle.access_domain.specs.declared.summary.Outcome.{Outcome}
use Rattle.access_domain.specs.declared.summary.Outcome.TheVariants as code
use Rattle.transfer_ties.specs.declared.partners.Ties.{Ties}
use Rattle.transfer_ties.specs.Ties.{both, ties_classes, ties_fields, same_signature}

-- the partner of a number, where there is one
abbrev pub partner_in : {X : Type 0} → List (Option X) → ℕ → Option X
partner_in partners n = option_flatten (slice_get partners n)

-- both are analysed, and have one class, one name, and as many parameters
abbrev pub are_partners : Core → Core → MethodId → MethodId → Bool
are_partners p q m n =
    is_analysed p m && is_analysed q n && both (same_signature p q) (method_at p m) (method_at q n)

-- no two classes or fields of one program are the same as one of the other
pub record AreOneToOne (p q : Core) : Type 0 where
  pub classes : (c : ClassId) → (d e : ClassId) → ties_classes p q c d ≡ true → ties_classes p q c e ≡ true → d ≡ e
  pub olds : (c d : ClassId) → (e : ClassId) → ties_classes p q c e ≡ true → ties_classes p q d e ≡ true → c ≡ d
  pub fields : (f : FieldId) → (g h : FieldId) → ties_fields p q f g ≡ true → ties_fields p q f h ≡ true → g ≡ h
  pub old_fields : (f g : FieldId) → (h : FieldId) → ties_fields p q f h ≡ true → ties_fields p q g h ≡ true → f ≡ g

-- each class and each field of p has its partner of q where it has one; each method of q that of p
pub record AreTies (p q : Core) (ties : Ties) : Type 0 where
  pub one_to_one : AreOneToOne p q
  pub classes : (c : ClassId) → MatchOption (partner_in ties.classes.items c.0)
      ((d : ClassId) → ties_classes p q c d ≡ false) (λ d. ties_classes p q c d ≡ true)
  pub fields : (f : FieldId) → MatchOption (partner_in ties.fields.items f.0)
      ((g : FieldId) → ties_fields p q f g ≡ false) (λ g. ties_fields p q f g ≡ true)
  pub methods : (n : MethodId) → MatchOption (partner_in ties.methods.items n.0)
      ((m : MethodId) → are_partners p q m n ≡ false) (λ m. are_partners p q m n ≡ true)

-- no two classes or fields have one partner
pub record AreApart (ties : Ties) : Type 0 where
  pub classes : (c d e : ClassId) → partner_in ties.classes.items c.0 ≡ Some e →
      partner_in ties.classes.items d.0 ≡ Some e → c ≡ d
  pub fields : (f g h : FieldId) → partner_in ties.fields.items f.0 ≡ Some h →
      partner_in ties.fields.items g.0 ≡ Some h → f ≡ g

-- ---- with the numbers of the newer program; none where something has no partner there

-- all that are given, where all are
abbrev pub all_given : {X : Type 0} → List (Option X) → Option (List X)
all_given [] = Some []
all_given (x ∷ xs) = option_and_then (λ y. option_map (λ ys. y ∷ ys) (all_given xs)) x

abbrev pub class_in : Ties → ClassId → Option ClassId
class_in ties c = partner_in ties.classes.items c.0

abbrev pub field_in : Ties → FieldId → Option FieldId
field_in ties f = partner_in ties.fields.items f.0

abbrev pub root_in : Ties → Root → Option Root
root_in ties This = Some This
root_in ties (Class c) = option_map Class (class_in ties c)
root_in ties (Formal i) = Some (Formal i)
root_in ties (SomeOf c) = option_map SomeOf (class_in ties c)

abbrev pub fields_in : Ties → List FieldId → Option (List FieldId)
fields_in ties fields = all_given (map (field_in ties) fields)

abbrev pub path_of : Root → List FieldId → Path
path_of root fields = record { root = root; fields = fields }

abbrev pub path_in : Ties → Path → Option Path
path_in ties path =
    option_and_then (λ root. option_map (path_of root) (fields_in ties path.fields)) (root_in ties path.root)

abbrev pub paths_in : Ties → List Path → Option (List Path)
paths_in ties paths = all_given (map (path_in ties) paths)

abbrev pub value_in : Ties → Value → Option Value
value_in ties Owned = Some Owned
value_in ties Unnamed = Some Unnamed
value_in ties (Named path) = option_map Named (path_in ties path)

abbrev pub access_in : Ties → Access → Option Access
access_in ties a = option_map (λ path. record a { path = path }) (path_in ties a.path)

abbrev pub accesses_in : Ties → List Access → Option (List Access)
accesses_in ties accesses = all_given (map (access_in ties) accesses)

abbrev pub summary_of : List Access → List Path → Value → Summary
summary_of accesses wobbly result =
    record { accesses = accesses; wobbly = set.from_list wobbly; result = result }

abbrev pub summary_in : Ties → Summary → Option Summary
summary_in ties s =
    option_and_then (λ accesses. option_and_then (λ wobbly.
    option_map (summary_of accesses wobbly) (value_in ties s.result))
    (paths_in ties (set.items s.wobbly))) (accesses_in ties s.accesses)

abbrev pub renumbered : Ties → Outcome → Option Outcome
renumbered ties code.Large = Some code.Large
renumbered ties (code.Summary s) = option_map code.Summary (summary_in ties s)
