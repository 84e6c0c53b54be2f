-- A file is one unit at most.
use Rattle.std.proofs.Common.{◌≡◌, ℕ, inl, inr, List, [], ◌∷◌, map, refl, ap, sym, ◌∙◌, subst}
use Rattle.std.specs.List.{AllZip}
use Rattle.racer_base.specs.declared.ids.Place.{Place}
use Rattle.java_lexer.specs.declared.token.Token.{Token}
use Rattle.java_tree.specs.declared.methods.AnnotationTree.{AnnotationTree}
use Rattle.java_tree.specs.declared.methods.MethodTree.{MethodTree}
use Rattle.java_tree.specs.Trees.{Method}
use Rattle.java_tree.specs.FormedMethods.{FormedMethod}
use Rattle.java_tree.specs.Spelling.{spelling}
use Rattle.java_tree.specs.MethodPlaces.{method_marks}
use Rattle.java_tree.specs.View.{annotation_of, method_of}
use Rattle.java_parser_grammar.proofs.FoundJava.{one_java_method}
use Rattle.java_tree.specs.declared.unit.ClassTree.{ClassTree}
use Rattle.java_tree.specs.declared.unit.Member.{Member}
use Rattle.java_tree.specs.declared.unit.Member.TheVariants as member
use Rattle.java_tree.specs.declared.unit.Unit as unit
use Rattle.java_parser_grammar.specs.Tokens.{plain_all}
use Rattle.java_parser_grammar.specs.Members.{Form, SkippedForm, MethodForm, FieldForm, form_of, members_of}
use Rattle.java_parser_grammar.specs.Pieces.{Item, items_of}
use Rattle.java_parser_grammar.specs.Declarations.{types_among}
use Rattle.java_parser_grammar.specs.ClassHeads.{annotations_in}
use Rattle.java_parser_grammar.specs.Units.{BeginsAt, HasForm, IsMember, body_among}
use Rattle.java_parser_grammar.specs.Units.{IsClass, AreTypes, IsUnit}
use Rattle.java_parser_grammar.proofs.Misfits.{one_cut}
use Rattle.java_parser_grammar.proofs.ReadHeads.{one_head}
use Rattle.java_parser_methods.specs.PlacedMethods.{IsPlacedMethod}
use Rattle.java_tree.specs.SameUnits.{SameAnnotation, SameMember, SameClass, SameUnit}
use Rattle.java_parser.proofs.SameFields.{two_zips, same_field}
use Rattle.java_parser.proofs.SameHeads.{same_head}

-- ---- annotations

same_annotations : (xs ys : List AnnotationTree) → map annotation_of xs ≡ map annotation_of ys
    → AllZip SameAnnotation xs ys
same_annotations [] [] e = tt
same_annotations [] (y ∷ ys) e = absurd (cc e)
same_annotations (x ∷ xs) [] e = absurd (cc e)
same_annotations (x ∷ xs) (y ∷ ys) e = (cc e, same_annotations xs ys (cc e))

-- ---- members

same_start : (ts : List Token) (p q : Place) → BeginsAt ts p → BeginsAt ts q → p ≡ q
same_start [] p q h k = absurd h
same_start (t ∷ ts) p q h k = sym h ∙ k

abbrev pub OnePlaced : Type 0
OnePlaced = (tokens : List Token) (a b : MethodTree) → IsPlacedMethod tokens a → IsPlacedMethod tokens b
    → (method_of a ≡ method_of b) × (method_marks a ≡ method_marks b)

module _ (one : OnePlaced) (class : List ℕ) (m : List Token) where
  same_form : (form : Form) (a b : Member) → HasForm class m form a → HasForm class m form b → SameMember a b
  same_form SkippedForm (member.Field f) b h k = absurd h
  same_form SkippedForm (member.Method t) b h k = absurd h
  same_form SkippedForm (member.Outside x) b h k = absurd h
  same_form SkippedForm (member.Skipped p) (member.Field g) h k = absurd k
  same_form SkippedForm (member.Skipped p) (member.Method u) h k = absurd k
  same_form SkippedForm (member.Skipped p) (member.Outside y) h k = absurd k
  same_form SkippedForm (member.Skipped p) (member.Skipped q) h k = same_start m p q h k
  same_form (MethodForm front name ps) (member.Field f) b h k = absurd h
  same_form (MethodForm front name ps) (member.Skipped p) b h k = absurd h
  same_form (MethodForm front name ps) (member.Method t) (member.Field g) h k = absurd k
  same_form (MethodForm front name ps) (member.Method t) (member.Skipped q) h k = absurd k
  same_form (MethodForm front name ps) (member.Method t) (member.Method u) h k =
      let same = one m t u (record { formed = h.0.formed; spells = h.0.spelled; stands = h.1 })
      (record { formed = k.0.formed; spells = k.0.spelled; stands = k.1 }) in
      (same.0, same.1, h.2 ∙ sym k.2, h.3 ∙ sym k.3)
  same_form (MethodForm front name ps) (member.Method t) (member.Outside y) h k = absurd (k.0 (method_of t) h.0)
  same_form (MethodForm front name ps) (member.Outside x) (member.Field g) h k = absurd k
  same_form (MethodForm front name ps) (member.Outside x) (member.Skipped q) h k = absurd k
  same_form (MethodForm front name ps) (member.Outside x) (member.Method u) h k = absurd (h.0 (method_of u) k.0)
  same_form (MethodForm front name ps) (member.Outside x) (member.Outside y) h k =
      same_head class front name ps m x y h.1 k.1
  same_form FieldForm (member.Method t) b h k = absurd h
  same_form FieldForm (member.Outside x) b h k = absurd h
  same_form FieldForm (member.Field f) (member.Method u) h k = absurd k
  same_form FieldForm (member.Field f) (member.Outside y) h k = absurd k
  same_form FieldForm (member.Field f) (member.Field g) h k = same_field m f g h k
  same_form FieldForm (member.Field f) (member.Skipped q) h k = absurd (k.0 f h)
  same_form FieldForm (member.Skipped p) (member.Method u) h k = absurd k
  same_form FieldForm (member.Skipped p) (member.Outside y) h k = absurd k
  same_form FieldForm (member.Skipped p) (member.Field g) h k = absurd (h.0 g k)
  same_form FieldForm (member.Skipped p) (member.Skipped q) h k = same_start m p q h.1 k.1

-- each formed tree that spells the tokens of a method is its tree
pub same_tree : (class : List ℕ) (m : List Token) (form : Form) (tree : MethodTree)
    → HasForm class m form (member.Method tree) → (other : Method) → FormedMethod other
    → spelling other ≡ plain_all m → other ≡ method_of tree
same_tree class m SkippedForm tree h other formed spells = absurd h
same_tree class m FieldForm tree h other formed spells = absurd h
same_tree class m (MethodForm front name ps) tree h other formed spells =
    one_java_method other (method_of tree) formed h.0.formed (spells ∙ sym h.0.spelled)

-- ---- classes and files

same_class : OnePlaced → (type : List Token) (a b : ClassTree) → IsClass type a → IsClass type b → SameClass a b
same_class one type a b h k =
    let head = one_head type h.modifiers k.modifiers h.name k.name h.head k.head in
    let token = head.1 in
    let annotations = ap annotations_in head.0 in
    let names : a.name ≡ b.name = h.named ∙ ap (λ (t : Token). t.text) token ∙ sym k.named in
    record {
      name = names;
      place = h.placed ∙ ap (λ (t : Token). t.place) token ∙ sym k.placed;
      annotations = same_annotations a.annotations b.annotations (h.annotated ∙ annotations ∙ sym k.annotated);
      members = two_zips (IsMember a.name) (IsMember a.name) SameMember
          (λ m x y p q. same_form one a.name m (form_of m) x y p q) (members_of (body_among (items_of type))) a.members
          b.members h.members (subst (λ (n : List ℕ). AllZip (IsMember n) (members_of (body_among (items_of type)))
          b.members) (sym names) k.members);
    }

record SameTypes (cs ds : List ClassTree) (ps qs : List Place) : Type 0 where
  pub classes : AllZip SameClass cs ds
  pub skipped : ps ≡ qs

same_none : (cs ds : List ClassTree) (ps qs : List Place) → AreTypes [] cs ps → AreTypes [] ds qs
    → SameTypes cs ds ps qs
same_none [] [] [] [] h k = record { classes = tt; skipped = refl }
same_none [] [] [] (q ∷ qs) h k = absurd k
same_none [] (d ∷ ds) [] qs h k = absurd k
same_none [] ds (p ∷ ps) qs h k = absurd h
same_none (c ∷ cs) ds ps qs h k = absurd h

same_types : OnePlaced → (types : List (List Token)) (cs ds : List ClassTree) (ps qs : List Place)
    → AreTypes types cs ps → AreTypes types ds qs → SameTypes cs ds ps qs
same_types one [] cs ds ps qs h k = same_none cs ds ps qs h k
same_types one (t ∷ ts) [] ds ps qs (inl h) k = absurd h
same_types one (t ∷ ts) (c ∷ cs) [] ps qs (inl h) (inl k) = absurd k
same_types one (t ∷ ts) (c ∷ cs) (d ∷ ds) ps qs (inl h) (inl k) =
    let others = same_types one ts cs ds ps qs h.1 k.1 in
    record { classes = (same_class one t c d h.0 k.0, others.classes); skipped = others.skipped }
same_types one (t ∷ ts) (c ∷ cs) ds ps [] (inl h) (inr k) = absurd k
same_types one (t ∷ ts) (c ∷ cs) ds ps (q ∷ qs) (inl h) (inr k) =
    absurd (k.0 h.0.modifiers h.0.name h.0.head)
same_types one (t ∷ ts) cs ds [] qs (inr h) k = absurd h
same_types one (t ∷ ts) cs [] (p ∷ ps) qs (inr h) (inl k) = absurd k
same_types one (t ∷ ts) cs (d ∷ ds) (p ∷ ps) qs (inr h) (inl k) = absurd (h.0 k.0.modifiers k.0.name k.0.head)
same_types one (t ∷ ts) cs ds (p ∷ ps) [] (inr h) (inr k) = absurd k
same_types one (t ∷ ts) cs ds (p ∷ ps) (q ∷ qs) (inr h) (inr k) =
    let others = same_types one ts cs ds ps qs h.2 k.2 in
    record {
      classes = others.classes;
      skipped = ap (λ l. p ∷ l) others.skipped ∙ ap (λ x. x ∷ qs) (same_start t p q h.1 k.1);
    }

pub same_unit : OnePlaced → (ts : List Token) (u v : unit.Unit) → IsUnit ts u → IsUnit ts v → SameUnit u v
same_unit one ts u v h k =
    let all : k.all ≡ h.all = one_cut (items_of ts) k.all h.all k.fit h.fit in
    let same = same_types one (types_among h.all) u.classes v.classes u.skipped v.skipped h.types
    (subst (λ (ds : List (List Item)). AreTypes (types_among ds) v.classes v.skipped) all k.types) in
    record { classes = same.classes; skipped = same.skipped }
