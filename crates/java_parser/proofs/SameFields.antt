-- Fields that the same tokens declare are the same.
use Rattle.std.proofs.Common.{◌≡◌, inl, inr, List, [], ◌∷◌, Option, Some, None, length, map}
use Rattle.std.proofs.Common.{refl, ap, sym, ◌∙◌, subst}
use Rattle.std.specs.List.{AllZip}
use Rattle.racer_base.specs.declared.limits.TheConstants.{MAX_NESTING}
use Rattle.java_lexer.specs.declared.token.Token.{Token}
use Rattle.java_tree.specs.declared.words.Spelled.{Spelled}
use Rattle.java_tree.specs.declared.types.TypeTree.{TypeTree}
use Rattle.java_tree.specs.declared.methods.FieldInitialiser.{FieldInitialiser}
use Rattle.java_tree.specs.declared.methods.FieldInitialiser.TheVariants.{Absent, Formed, Unread}
use Rattle.java_tree.specs.declared.methods.FieldTree.{FieldTree}
use Rattle.java_tree.specs.declared.methods.FieldVariable.{FieldVariable}
use Rattle.java_tree.specs.declared.expressions.Initialiser.{Initialiser}
use Rattle.java_tree.specs.KeptPlaces.{Places, AreAt, kept, ty_places, init_places}
use Rattle.java_tree.specs.Spelling.{ty_onto, modifiers_onto}
use Rattle.java_tree.specs.Trees.{Ty, Modifier}
use Rattle.java_tree.specs.View.{ty_of, init_of, modifier_of}
use Rattle.java_parser_grammar.specs.TypeReading.{ty_at}
use Rattle.java_parser_grammar.proofs.FoundExpressions.{one_init}
use Rattle.java_parser_grammar.proofs.FoundTypes.{ty_found}
use Rattle.java_parser_grammar.proofs.ListedVariables.{one_list}
use Rattle.java_parser_grammar.specs.FieldDivisions.{BeginsWith, IsVariable, AreVariables, AreDeclared, AreFields}
use Rattle.java_parser_grammar.specs.FieldDivisions.{between_commas}
use Rattle.java_parser_grammar.specs.Pieces.{items_of}
use Rattle.java_parser_grammar.specs.Tokens.{AreLast}
use Rattle.java_parser_grammar.proofs.OneDivision.{one_division}
use Rattle.java_parser_types.specs.Tokens.{spelled}
use Rattle.java_parser_expressions.proofs.MarkShapes.{one_at}
use Rattle.java_parser_expressions.proofs.ViewShapes.{init_shape}
use Rattle.java_parser_expressions.proofs.ExpressionShapes.{init_fits}
use Rattle.java_tree.proofs.TypeCounts.{ty_count, ty_counts}
use Rattle.java_parser.specs.FieldModifiers.{field_modifier_at, EndsModifiers, Spells}
use Rattle.java_parser.proofs.DeclaredFields.{declaration_spells, ends_type_here, variables_begin, push_ends, left_of}
use Rattle.java_parser.proofs.ModifierSteps.{first_found, ends_type}
use Rattle.java_parser.proofs.SameEnds.{same_ends, same_size}
use Rattle.java_tree.specs.SameUnits.{SameType, SameInitialiser, SameVariable, SameField}

-- two lists beside one, element by element
pub two_zips : {A B C : Type 0} (P : A → B → Type 0) (Q : A → C → Type 0) (S : B → C → Type 0)
    → ((x : A) (y : B) (z : C) → P x y → Q x z → S y z) → (xs : List A) (ys : List B) (zs : List C)
    → AllZip P xs ys → AllZip Q xs zs → AllZip S ys zs
two_zips P Q S same [] [] [] h k = tt
two_zips P Q S same [] (y ∷ ys) zs h k = absurd h
two_zips P Q S same [] [] (z ∷ zs) h k = absurd k
two_zips P Q S same (x ∷ xs) [] zs h k = absurd h
two_zips P Q S same (x ∷ xs) (y ∷ ys) [] h k = absurd k
two_zips P Q S same (x ∷ xs) (y ∷ ys) (z ∷ zs) h k =
    (same x y z h.0 k.0, two_zips P Q S same xs ys zs h.1 k.1)

-- ---- variables

same_init_marks : (i j : Initialiser) (ps : Places) → init_of i ≡ init_of j → AreAt (init_places i []) ps
    → AreAt (init_places j []) ps → init_places i [] ≡ init_places j []
same_init_marks i j ps e h k =
    one_at (init_places i []) (init_places j []) ps
    (init_fits i [] ∙ ap (λ v. init_shape v []) e ∙ sym (init_fits j [])) h k

same_begins : (ts : List Token) (i j : FieldInitialiser) → BeginsWith ts i → BeginsWith ts j → SameInitialiser i j
same_begins [] Absent Absent h k = tt
same_begins [] Absent (Formed j) h k = absurd k
same_begins [] Absent Unread h k = absurd k
same_begins [] (Formed i) j h k = absurd h
same_begins [] Unread j h k = absurd h
same_begins (e ∷ ts) Absent j h k = absurd h
same_begins (e ∷ ts) (Formed i) Absent h k = absurd k
same_begins (e ∷ ts) (Formed i) (Formed j) h k =
    let same = one_init (init_of i) (init_of j) h.1.formed k.1.formed (h.1.spelled ∙ sym k.1.spelled) in
    (same, same_init_marks i j (kept ts) same h.2 k.2)
same_begins (e ∷ ts) (Formed i) Unread h k = absurd (k.2 (init_of i) h.1)
same_begins (e ∷ ts) Unread Absent h k = absurd k
same_begins (e ∷ ts) Unread (Formed j) h k = absurd (h.2 (init_of j) k.1)
same_begins (e ∷ ts) Unread Unread h k = tt

same_variable : (p : List Token) (v w : FieldVariable) → IsVariable p v → IsVariable p w → SameVariable v w
same_variable [] v w h k = absurd h
same_variable (t ∷ ts) v w h k =
    (h.1 ∙ sym k.1, h.2 ∙ sym k.2, same_begins ts v.initialiser w.initialiser h.3 k.3)

same_variables : (ts : List Token) (vs ws : List FieldVariable) → AreVariables ts vs → AreVariables ts ws
    → AllZip SameVariable vs ws
same_variables ts vs ws (inl h) (inl k) =
    let pieces = (one_division one_list ts h.0 k.0 vs ws h.1 k.1).pieces in
    two_zips IsVariable IsVariable SameVariable same_variable k.0 vs ws
    (subst (λ (ps : List (List Token)). AllZip IsVariable ps vs) pieces h.1.variables) k.1.variables
same_variables ts vs ws (inl h) (inr k) = absurd (k.none h.0 vs h.1)
same_variables ts vs ws (inr h) (inl k) = absurd (h.none k.0 ws k.1)
same_variables ts vs ws (inr h) (inr k) =
    two_zips IsVariable IsVariable SameVariable same_variable (between_commas (items_of ts)) vs ws h.variables
    k.variables

-- ---- modifiers

record OneReading (ms ns : List Modifier) (x y : List Spelled) : Type 0 where
  pub modifiers : ms ≡ ns
  pub rest : x ≡ y

abbrev first_of : Modifier → Option (Option (Modifier × List Spelled)) → Modifier
first_of other (Some (Some x)) = x.0
first_of other _ = other

abbrev behind_of : Option (Option (Modifier × List Spelled)) → List Spelled
behind_of (Some (Some x)) = x.1
behind_of _ = []

one_reading : (ms ns : List Modifier) (ts x y : List Spelled) → Spells ts ms x → EndsModifiers x → Spells ts ns y
    → EndsModifiers y → OneReading ms ns x y
one_reading [] [] ts x y h a k b = record { modifiers = refl; rest = sym h.spelled ∙ k.spelled }
one_reading [] (n ∷ ns) ts x y h a k b =
    let none : field_modifier_at ts ≡ Some None = ap field_modifier_at h.spelled ∙ a.ended in
    let some = first_found ts n ns y k b in
    absurd cc
one_reading (m ∷ ms) [] ts x y h a k b =
    let none : field_modifier_at ts ≡ Some None = ap field_modifier_at k.spelled ∙ b.ended in
    let some = first_found ts m ms x h a in
    absurd cc
one_reading (m ∷ ms) (n ∷ ns) ts x y h a k b =
    let same = sym (first_found ts m ms x h a) ∙ first_found ts n ns y k b in
    let first : m ≡ n = ap (first_of m) same in
    let others = one_reading ms ns (modifiers_onto ns y) x y
    (record { formed = h.formed.1; spelled = sym (ap behind_of same) }) a
    (record { formed = k.formed.1; spelled = refl }) b in
    record { modifiers = ap (λ l. m ∷ l) others.modifiers ∙ ap (λ l. l ∷ ns) first; rest = others.rest }

-- ---- the type

pub same_places : (ts : List Token) (t u : TypeTree) → ty_of t ≡ ty_of u → AreLast (ty_places t) ts
    → AreLast (ty_places u) ts → SameType t u
same_places ts t u e h k =
    let size : length (ty_places t) ≡ length (ty_places u) = ty_counts t ∙ ap ty_count e ∙ sym (ty_counts u) in
    let ends = same_ends h.0 k.0 (ty_places t) (ty_places u) (h.1 ∙ sym k.1) size in
    (e, ends.end)

abbrev type_of : Ty → Option (Ty × List Spelled) → Ty
type_of other None = other
type_of other (Some x) = x.0

-- ---- declarations

module _ (ts : List Token) (f : FieldTree) (d : AreDeclared ts f) where
  abbrev behind : List Spelled
  behind = map spelled d.variables

  type_read : ty_at MAX_NESTING (ty_onto (ty_of f.kind) behind) ≡ Some (ty_of f.kind, behind)
  type_read = ty_found (ty_of f.kind) d.formed MAX_NESTING behind d.nested (ends_type_here d.variables
      (variables_begin d.variables f.variables d.divided))

same_declaration : (ts : List Token) (f g : FieldTree) → AreDeclared ts f → AreDeclared ts g → SameField f g
same_declaration ts f g d e =
    let x = ty_onto (ty_of f.kind) (map spelled d.variables) in
    let y = ty_onto (ty_of g.kind) (map spelled e.variables) in
    let one = one_reading (map modifier_of f.modifiers) (map modifier_of g.modifiers) (map spelled ts) x y
    (declaration_spells ts f d) (ends_type (ty_of f.kind) (map spelled d.variables) d.formed)
    (declaration_spells ts g e) (ends_type (ty_of g.kind) (map spelled e.variables) e.formed) in
    let read = sym (type_read ts f d) ∙ ap (ty_at MAX_NESTING) one.rest ∙ type_read ts g e in
    let kinds : ty_of f.kind ≡ ty_of g.kind = ap (type_of (ty_of f.kind)) read in
    let plain : map spelled d.variables ≡ map spelled e.variables = ap left_of read in
    let ends = same_ends d.front e.front d.variables e.variables (sym d.parts ∙ e.parts)
    (same_size d.variables e.variables plain) in
    record {
      modifiers = one.modifiers;
      kind = same_places e.front f.kind g.kind kinds
          (subst (λ (l : List Token). AreLast (ty_places f.kind) l) ends.front d.placed) e.placed;
      variables = same_variables e.variables f.variables g.variables
          (subst (λ (l : List Token). AreVariables l f.variables) ends.end d.divided) e.divided;
    }

pub same_field : (ts : List Token) (f g : FieldTree) → AreFields ts f → AreFields ts g → SameField f g
same_field ts f g h k =
    let ends = push_ends h.declaration k.declaration h.last k.last (sym h.parts ∙ k.parts) in
    same_declaration k.declaration f g (subst (λ (l : List Token). AreDeclared l f) ends.0 h.declared) k.declared
