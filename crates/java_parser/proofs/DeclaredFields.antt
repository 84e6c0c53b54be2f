-- Fields that are read are declared by their tokens, and where none are read none are declared.
use Rattle.std.proofs.Common.{◌≡◌, Bool, true, false, List, [], ◌∷◌, ◌++◌, Option, Some, None, IsTrue, codes}
use Rattle.std.proofs.Common.{length, map, refl, ap, sym, ◌∙◌, subst, append_assoc, append-nil}
use Rattle.std.proofs.Common.{inl, inr}
use Rattle.std.specs.Prelude.{if◌then◌else◌, ◌==◌}
use Rattle.std.specs.List.{AllZip}
use Rattle.racer_base.specs.declared.limits.TheConstants.{MAX_NESTING}
use Rattle.java_lexer.specs.declared.token.Token.{Token}
use Rattle.java_tree.specs.declared.words.Spelled.{Spelled}
use Rattle.java_tree.specs.declared.methods.FieldTree.{FieldTree}
use Rattle.java_tree.specs.declared.methods.FieldVariable.{FieldVariable}
use Rattle.java_tree.specs.Words.{identifier}
use Rattle.java_tree.specs.Trees.{Modifier, Ty}
use Rattle.java_tree.specs.Spelling.{modifiers_onto, ty_onto}
use Rattle.java_tree.specs.Formed.{FormedTy}
use Rattle.java_tree.specs.Nesting.{ty_nesting}
use Rattle.java_tree.specs.KeptPlaces.{Places, kept, ty_places}
use Rattle.java_tree.specs.View.{ty_of, modifier_of}
use Rattle.java_tree.proofs.KeptWords.{kept-append}
use Rattle.java_parser_grammar.specs.TypeReading.{ty_at}
use Rattle.java_parser_grammar.proofs.Ensuring.{of_equation, name_is}
use Rattle.java_parser_grammar.proofs.FoundTypes.{ty_found}
use Rattle.java_parser_grammar.proofs.SoundJava.{java_sound}
use Rattle.java_parser_grammar.proofs.SoundSteps.{GotOne}
use Rattle.java_parser_grammar.proofs.TypeFronts.{EndsTy}
use Rattle.java_parser_grammar.specs.Tokens.{is_name, is_sign_token, begins_sign}
use Rattle.java_parser_grammar.specs.Brackets.{depth_behind}
use Rattle.java_parser_grammar.specs.Cuts.{onto_first, with_cut}
use Rattle.java_parser_grammar.specs.Pieces.{Item, items_from, items_of}
use Rattle.java_parser_grammar.specs.FieldDivisions.{IsVariable, IsDivided}
use Rattle.java_parser_grammar.specs.FieldDivisions.{before_first, between_commas, AreVariables, AreDeclared, AreFields}
use Rattle.java_parser_grammar.proofs.Appended.{Appends, ty_append, modifiers_append}
use Rattle.java_parser.proofs.ModifierSteps.{ends_type}
use Rattle.java_parser_types.specs.Tokens.{spelled}
use Rattle.java_parser.specs.FieldModifiers.{Spells, NoModifiers, AreModifiers}
use Rattle.java_parser.specs.Fronts.{EndsWith, IsFront}
use Rattle.java_parser.proofs.SameEnds.{same_ends, plain_append, same_size}
use Rattle.java_parser.proofs.SameEnds.{plain_ends, kept_ends}

-- ---- a type is read

pub got_type : (ts : List Spelled) (t : Ty) (rest : List Spelled) → ty_at MAX_NESTING ts ≡ Some (t, rest)
    → GotOne FormedTy ty_nesting ty_onto MAX_NESTING ts (t, rest)
got_type ts t rest e =
    of_equation (GotOne FormedTy ty_nesting ty_onto MAX_NESTING ts) (ty_at MAX_NESTING ts) (t, rest) (java_sound.ty
    MAX_NESTING ts) e

-- the tokens at the end that were left, behind the same type
pub type_left : (ts front rest left : List Token) (t : Ty) → ts ≡ front ++ rest → length rest ≡ length left
    → ty_at MAX_NESTING (map spelled ts) ≡ Some (t, map spelled left) → map spelled rest ≡ map spelled left
type_left ts front rest left t parts size read =
    let g = got_type (map spelled ts) t (map spelled left) read in
    (plain_ends ts front rest left (ty_onto t []) parts size (g.spelled ∙ ty_append t [] (map spelled left))).end

pub type_gives : (ts front rest left : List Token) (t : Ty) → ts ≡ front ++ rest → length rest ≡ length left
    → ty_at MAX_NESTING (map spelled ts) ≡ Some (t, map spelled left)
    → ty_at MAX_NESTING (map spelled ts) ≡ Some (t, map spelled rest)
type_gives ts front rest left t parts size read =
    read ∙ ap (λ (l : List Spelled). Some (pair t l)) (sym (type_left ts front rest left t parts size read)) where
      pair : Ty → List Spelled → Ty × List Spelled
      pair t l = (t, l)

pub type_front : (ts front rest left : List Token) (t : Ty) (ps : Places) → ts ≡ front ++ rest
    → length rest ≡ length left → ty_at MAX_NESTING (map spelled ts) ≡ Some (t, map spelled left)
    → ps ++ kept left ≡ kept ts → IsFront ps ts rest
type_front ts front rest left t ps parts size read places = record {
  front = front;
  parts = parts;
  placed = kept_ends ts front rest left ps parts (type_left ts front rest left t parts size read) places;
}

-- ---- what modifiers and a type put before tokens

abbrev pub head_onto : List Modifier → Ty → List Spelled → List Spelled
head_onto ms t rest = modifiers_onto ms (ty_onto t rest)

pub head_append : (ms : List Modifier) (t : Ty) → Appends (head_onto ms t)
head_append ms t r s = ap (modifiers_onto ms) (ty_append t r s) ∙ modifiers_append ms (ty_onto t r) s

-- ---- what is read is declared

pub declared : (ts rest left : List Token) (f : FieldTree) → AreModifiers (map modifier_of f.modifiers)
    (map spelled ts) (map spelled rest) → EndsWith ts rest
    → ty_at MAX_NESTING (map spelled rest) ≡ Some (ty_of f.kind, map spelled left)
    → IsFront (ty_places f.kind) rest left → AreVariables left f.variables → AreDeclared ts f
declared ts rest left f modifiers words read front variables =
    let g = got_type (map spelled rest) (ty_of f.kind) (map spelled left) read in
    let ms = map modifier_of f.modifiers in
    let all = words.0 ++ front.front in
    let parts : ts ≡ all ++ left = words.1 ∙ ap (λ l. words.0 ++ l) front.parts
    ∙ sym (append_assoc words.0 front.front left) in
    let spells : map spelled all ++ map spelled left ≡ head_onto ms (ty_of f.kind) [] ++ map spelled left =
    sym (plain_append all left) ∙ sym (ap (map spelled) parts) ∙ modifiers.spells.spelled
    ∙ ap (modifiers_onto ms) g.spelled ∙ head_append ms (ty_of f.kind) [] (map spelled left) in
    record {
      front = all;
      variables = left;
      parts = parts;
      modifiers = modifiers.spells.formed;
      formed = g.formed;
      nested = g.small;
      spelled = sym (same_ends (map spelled all) (head_onto ms (ty_of f.kind) []) (map spelled left) (map spelled left)
          spells refl).front;
      placed = (kept words.0, ap (λ ps. kept words.0 ++ ps) front.placed ∙ sym (kept-append words.0 front.front));
      divided = variables;
    }

-- ---- variables begin with a name

pub record BeginsName (ts : List Token) : Type 0 where
  pub first : Token
  pub others : List Token
  pub is : ts ≡ first ∷ others
  pub named : IsTrue (is_name first)

piece_begins : (p : List Token) (v : FieldVariable) → IsVariable p v → BeginsName p
piece_begins [] v h = absurd h
piece_begins (t ∷ p) v h = record { first = t; others = p; is = refl; named = h.0 }

goes_on : (p rest ts : List Token) → BeginsName p → ts ≡ p ++ rest → BeginsName ts
goes_on p rest ts b e = record {
  first = b.first;
  others = b.others ++ rest;
  is = e ∙ ap (λ l. l ++ rest) b.is;
  named = b.named;
}

read_begins : (ts : List Token) (ps : List (List Token)) (vs : List FieldVariable) → IsDivided ps ts
    → AllZip IsVariable ps vs → BeginsName ts
read_begins ts [] vs d z = absurd d
read_begins ts (p ∷ ps) [] d z = absurd z
read_begins ts (p ∷ []) (v ∷ vs) d z = goes_on p [] ts (piece_begins p v z.0) (d ∙ sym (append-nil p))
read_begins ts (p ∷ q ∷ ps) (v ∷ vs) d z = goes_on p (d.0 ∷ d.1) ts (piece_begins p v z.0) d.2

-- the first item begins with the first token
record FirstItem (t : Token) (items : List Item) : Type 0 where
  pub front : List Token
  pub others : List Item
  pub is : items ≡ (t ∷ front) ∷ others

onto_begins : (t : Token) (is : List Item) → FirstItem t (onto_first t is)
onto_begins t [] = record { front = []; others = []; is = refl }
onto_begins t (i ∷ is) = record { front = i; others = is; is = refl }

cut_begins : (cut : Bool) (t : Token) (is : List Item) → FirstItem t (with_cut cut t is)
cut_begins true t is = record { front = []; others = is; is = refl }
cut_begins false t is = onto_begins t is

between_begins : (t : Token) (i : List Token) (b : Bool) (ps : List (List Token)) (vs : List FieldVariable)
    → AllZip IsVariable (if b then [] ∷ ps else before_first (t ∷ i) ps) vs → IsTrue (is_name t)
between_begins t i true ps [] z = absurd z
between_begins t i true ps (v ∷ vs) z = absurd z.0
between_begins t i false [] [] z = absurd z
between_begins t i false [] (v ∷ vs) z = z.0.0
between_begins t i false (p ∷ ps) [] z = absurd z
between_begins t i false (p ∷ ps) (v ∷ vs) z = z.0.0

each_begins : (ts : List Token) (vs : List FieldVariable) → AllZip IsVariable (between_commas (items_of ts)) vs
    → BeginsName ts
each_begins [] [] z = absurd z
each_begins [] (v ∷ vs) z = absurd z.0
each_begins (t ∷ ts) vs z =
    let k = cut_begins (depth_behind 0 t == 0) t (items_from (depth_behind 0 t) ts) in
    let here = subst (λ (is : List Item). AllZip IsVariable (between_commas is) vs) k.is z in
    record {
      first = t;
      others = ts;
      is = refl;
      named = between_begins t k.front (begins_sign (codes ",") (t ∷ k.front)) (between_commas k.others) vs here;
    }

pub variables_begin : (ts : List Token) (vs : List FieldVariable) → AreVariables ts vs → BeginsName ts
variables_begin ts vs (inl h) = read_begins ts h.0 vs h.1.divided h.1.variables
variables_begin ts vs (inr h) = each_begins ts vs h.variables

pub ends_type_here : (ts : List Token) → BeginsName ts → EndsTy (map spelled ts)
ends_type_here ts b =
    let e : map spelled ts ≡ identifier b.first.text ∷ map spelled b.others =
    ap (map spelled) b.is ∙ ap (λ (s : Spelled). s ∷ map spelled b.others) (name_is (spelled b.first) b.named) in
    subst EndsTy (sym e) (record { less = refl; point = refl; brackets = refl })

-- ---- what is declared is read

module _ (ts : List Token) (f : FieldTree) (d : AreDeclared ts f) where
  abbrev kind : Ty
  kind = ty_of f.kind

  abbrev ms : List Modifier
  ms = map modifier_of f.modifiers

  pub declaration_spells : Spells (map spelled ts) ms (ty_onto kind (map spelled d.variables))
  declaration_spells = record {
    formed = d.modifiers;
    spelled = ap (map spelled) d.parts ∙ plain_append d.front d.variables
        ∙ ap (λ l. l ++ map spelled d.variables) (sym d.spelled)
        ∙ sym (head_append ms kind [] (map spelled d.variables));
  }

  pub some_modifiers : NoModifiers (map spelled ts) → ⊥
  some_modifiers none = none ms (ty_onto kind (map spelled d.variables)) declaration_spells
      (ends_type kind (map spelled d.variables) d.formed)

  pub type_there : (ns : List Modifier) (rest : List Token) → AreModifiers ns (map spelled ts) (map spelled rest)
      → ty_at MAX_NESTING (map spelled rest) ≡ Some (kind, map spelled d.variables)
  type_there ns rest modifiers =
      let ends = ends_type_here d.variables (variables_begin d.variables f.variables d.divided) in
      ap (ty_at MAX_NESTING) (modifiers.only ms (ty_onto kind (map spelled d.variables)) declaration_spells
      (ends_type kind (map spelled d.variables) d.formed))
      ∙ ty_found kind d.formed MAX_NESTING (map spelled d.variables) d.nested ends

abbrev pub left_of : Option (Ty × List Spelled) → List Spelled
left_of None = []
left_of (Some x) = x.1

pub no_type : (ts rest : List Token) (ns : List Modifier) → AreModifiers ns (map spelled ts) (map spelled rest)
    → ty_at MAX_NESTING (map spelled rest) ≡ None → (f : FieldTree) → AreDeclared ts f → ⊥
no_type ts rest ns modifiers none f d =
    let there : ty_at MAX_NESTING (map spelled rest) ≡ Some (ty_of f.kind, map spelled d.variables) =
    type_there ts f d ns rest modifiers in
    absurd cc

pub no_variables : (ts rest left : List Token) (ns : List Modifier) (t : Ty) (ps : Places)
    → AreModifiers ns (map spelled ts) (map spelled rest) → EndsWith ts rest
    → ty_at MAX_NESTING (map spelled rest) ≡ Some (t, map spelled left) → IsFront ps rest left
    → ((vs : List FieldVariable) → AreVariables left vs → ⊥) → (f : FieldTree) → AreDeclared ts f → ⊥
no_variables ts rest left ns t ps modifiers words read front none f d =
    let there = type_there ts f d ns rest modifiers in
    let same : map spelled left ≡ map spelled d.variables = ap left_of (sym read ∙ there) in
    let all = words.0 ++ front.front in
    let parts : ts ≡ all ++ left = words.1 ∙ ap (λ l. words.0 ++ l) front.parts
    ∙ sym (append_assoc words.0 front.front left) in
    let ends = same_ends all d.front left d.variables (sym parts ∙ d.parts) (same_size left d.variables same) in
    none f.variables (subst (λ (l : List Token). AreVariables l f.variables) (sym ends.end) d.divided)

-- ---- with the `;`

pub push_ends : {A : Type 0} (a b : List A) (x y : A) → a ++ x ∷ [] ≡ b ++ y ∷ [] → (a ≡ b) × (x ≡ y)
push_ends a b x y e =
    let k = same_ends a b (x ∷ []) (y ∷ []) e refl in
    let end : x ∷ [] ≡ y ∷ [] = k.end in
    let last : x ≡ y = cc in
    (k.front, last)

pub no_declaration : (ts declaration : List Token) (last : Token) → ts ≡ declaration ++ last ∷ []
    → ((f : FieldTree) → AreDeclared declaration f → ⊥) → (f : FieldTree) → AreFields ts f → ⊥
no_declaration ts declaration last parts none f h =
    let k = push_ends declaration h.declaration last h.last (sym parts ∙ h.parts) in
    none f (subst (λ (l : List Token). AreDeclared l f) (sym k.0) h.declared)

pub no_end : (ts declaration : List Token) (last : Token) → ts ≡ declaration ++ last ∷ []
    → is_sign_token (codes ";") last ≡ false → (f : FieldTree) → AreFields ts f → ⊥
no_end ts declaration last parts other f h =
    let k = push_ends declaration h.declaration last h.last (sym parts ∙ h.parts) in
    let here : is_sign_token (codes ";") last ≡ true = ap (is_sign_token (codes ";")) k.1 ∙ h.ended in
    absurd cc

no_push : {A : Type 0} (a : List A) (x : A) → [] ≡ a ++ x ∷ [] → ⊥
no_push [] x e = absurd cc
no_push (y ∷ a) x e = absurd cc

pub no_token : (ts : List Token) → ts ≡ [] → (f : FieldTree) → AreFields ts f → ⊥
no_token ts e f h = no_push h.declaration h.last (sym e ∙ h.parts)
