-- A contract of a public call rests on this: which units are the same; their trees are compared without places, and
-- then the places that they keep.
use Rattle.std.specs.Prelude.{◌≡◌, [], map}
use Rattle.std.specs.List.{AllZip}
use Rattle.java_tree.specs.declared.types.TypeTree.{TypeTree}
use Rattle.java_tree.specs.declared.methods.AnnotationTree.{AnnotationTree}
use Rattle.java_tree.specs.declared.methods.FieldInitialiser.{FieldInitialiser}
use Rattle.java_tree.specs.declared.methods.FieldInitialiser.TheVariants.{Absent, Formed, Unread}
use Rattle.java_tree.specs.declared.methods.FieldTree.{FieldTree}
use Rattle.java_tree.specs.declared.methods.FieldVariable.{FieldVariable}
use Rattle.java_tree.specs.declared.methods.MethodTree.{MethodTree}
use Rattle.java_tree.specs.KeptPlaces.{ty_places, init_places}
use Rattle.java_tree.specs.MethodPlaces.{method_marks}
use Rattle.java_tree.specs.View.{ty_of, init_of, modifier_of, annotation_of, method_of}
use Rattle.java_tree.specs.declared.unit.ClassTree.{ClassTree}
use Rattle.java_tree.specs.declared.unit.HeadResult.{HeadResult}
use Rattle.java_tree.specs.declared.unit.HeadResult.TheVariants as result
use Rattle.java_tree.specs.declared.unit.Member.{Member}
use Rattle.java_tree.specs.declared.unit.Member.TheVariants as member
use Rattle.java_tree.specs.declared.unit.OutsideHead.{OutsideHead}
use Rattle.java_tree.specs.declared.unit.Unit as unit

abbrev pub SameType : TypeTree → TypeTree → Type 0
SameType t u = (ty_of t ≡ ty_of u) × (ty_places t ≡ ty_places u)

abbrev pub SameAnnotation : AnnotationTree → AnnotationTree → Type 0
SameAnnotation a b = annotation_of a ≡ annotation_of b

-- ---- fields

abbrev pub SameInitialiser : FieldInitialiser → FieldInitialiser → Type 0
SameInitialiser Absent Absent = Unit {0}
SameInitialiser (Formed i) (Formed j) = (init_of i ≡ init_of j) × (init_places i [] ≡ init_places j [])
SameInitialiser Unread Unread = Unit {0}
SameInitialiser _ _ = ⊥

abbrev pub SameVariable : FieldVariable → FieldVariable → Type 0
SameVariable v w =
    (v.name.text ≡ w.name.text) × (v.name.place ≡ w.name.place) × SameInitialiser v.initialiser w.initialiser

pub record SameField (f g : FieldTree) : Type 0 where
  pub modifiers : map modifier_of f.modifiers ≡ map modifier_of g.modifiers
  pub kind : SameType f.kind g.kind
  pub variables : AllZip SameVariable f.variables g.variables

-- ---- methods

abbrev pub SameMethod : MethodTree → MethodTree → Type 0
SameMethod m n =
    (method_of m ≡ method_of n) × (method_marks m ≡ method_marks n) × (m.has_synchronized ≡ n.has_synchronized)
    × (m.tokens ≡ n.tokens)

abbrev pub SameResult : HeadResult → HeadResult → Type 0
SameResult result.Void result.Void = Unit {0}
SameResult (result.Formed t) (result.Formed u) = SameType t u
SameResult result.Constructor result.Constructor = Unit {0}
SameResult result.Unknown result.Unknown = Unit {0}
SameResult _ _ = ⊥

pub record SameHead (a b : OutsideHead) : Type 0 where
  pub name : a.name ≡ b.name
  pub place : a.place ≡ b.place
  pub is_static : a.is_static ≡ b.is_static
  pub has_synchronized : a.has_synchronized ≡ b.has_synchronized
  pub result : SameResult a.result b.result
  pub parameters : a.parameters ≡ b.parameters

-- ---- units

abbrev pub SameMember : Member → Member → Type 0
SameMember (member.Field f) (member.Field g) = SameField f g
SameMember (member.Method m) (member.Method n) = SameMethod m n
SameMember (member.Outside a) (member.Outside b) = SameHead a b
SameMember (member.Skipped p) (member.Skipped q) = p ≡ q
SameMember _ _ = ⊥

pub record SameClass (a b : ClassTree) : Type 0 where
  pub name : a.name ≡ b.name
  pub place : a.place ≡ b.place
  pub annotations : AllZip SameAnnotation a.annotations b.annotations
  pub members : AllZip SameMember a.members b.members

pub record SameUnit (u v : unit.Unit) : Type 0 where
  pub classes : AllZip SameClass u.classes v.classes
  pub skipped : u.skipped ≡ v.skipped
