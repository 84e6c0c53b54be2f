-- A contract of a public call rests on this: declarations of fields (JLS 8.3), and their division at commas.
use Rattle.std.specs.Prelude.{◌≡◌, ℕ, Bool, ◌≤◌, ◌⊎◌, List, [], ◌∷◌, ◌++◌, IsTrue, codes, map, if◌then◌else◌}
use Rattle.std.specs.List.{AllZip}
use Rattle.racer_base.specs.Name.{is_listed}
use Rattle.racer_base.specs.declared.limits.TheConstants.{MAX_NESTING}
use Rattle.java_lexer.specs.declared.token.Token.{Token}
use Rattle.java_tree.specs.declared.methods.FieldTree.{FieldTree}
use Rattle.java_tree.specs.declared.methods.FieldVariable.{FieldVariable}
use Rattle.java_tree.specs.declared.methods.FieldInitialiser.{FieldInitialiser}
use Rattle.java_tree.specs.declared.methods.FieldInitialiser.TheVariants.{Absent, Formed, Unread}
use Rattle.java_tree.specs.Trees.{Init, Modifier, Word, Annotated}
use Rattle.java_tree.specs.Spelling.{ty_onto, init_onto, modifiers_onto}
use Rattle.java_tree.specs.FormedModifiers.{Each, has_some, FormedAnnotation}
use Rattle.java_tree.specs.Formed.{FormedTy, FormedInit}
use Rattle.java_tree.specs.Nesting.{ty_nesting, init_nesting}
use Rattle.java_tree.specs.KeptPlaces.{kept, ty_places, init_places, AreAt}
use Rattle.java_tree.specs.View.{ty_of, init_of, modifier_of}
use Rattle.java_parser_grammar.specs.Tokens.{plain_all, is_sign_token, is_name, begins_sign, AreLast}
use Rattle.java_parser_grammar.specs.Pieces.{Item, items_of}

-- ---- one variable

-- the tree of what a variable begins with
pub record IsInit (ts : List Token) (i : Init) : Type 0 where
  pub formed : FormedInit i
  pub nested : init_nesting i ≤ MAX_NESTING
  pub spelled : init_onto i [] ≡ plain_all ts

-- what stands behind the name: nothing, or an `=` and one or more tokens; its tree keeps their places
abbrev pub BeginsWith : List Token → FieldInitialiser → Type 0
BeginsWith [] Absent = Unit {0}
BeginsWith [] _ = ⊥
BeginsWith (e ∷ ts) Absent = ⊥
BeginsWith (e ∷ ts) (Formed i) =
    IsTrue (is_sign_token (codes "=") e) × IsInit ts (init_of i) × AreAt (init_places i []) (kept ts)
BeginsWith (e ∷ ts) Unread =
    IsTrue (is_sign_token (codes "=") e) × IsTrue (has_some ts) × ((i : Init) → IsInit ts i → ⊥)

-- the tokens are this variable
abbrev pub IsVariable : List Token → FieldVariable → Type 0
IsVariable [] v = ⊥
IsVariable (t ∷ ts) v =
    IsTrue (is_name t) × (v.name.text ≡ t.text) × (v.name.place ≡ t.place) × BeginsWith ts v.initialiser

-- it begins with nothing, or with what has a tree
abbrev pub IsRead : FieldVariable → Type 0
IsRead v = v.initialiser ≡ Unread → ⊥

-- ---- the division into variables

-- the tokens are these pieces, with a `,` between two
abbrev pub IsDivided : List (List Token) → List Token → Type 0
IsDivided [] ts = ⊥
IsDivided (p ∷ []) ts = ts ≡ p
IsDivided (p ∷ q ∷ ps) ts =
    (comma : Token) × (rest : List Token) × (ts ≡ p ++ comma ∷ rest) × IsTrue (is_sign_token (codes ",") comma)
    × IsDivided (q ∷ ps) rest

-- divided at some or none of the commas, each initialiser has a tree; so these commas stand outside brackets
pub record AreRead (ts : List Token) (pieces : List (List Token)) (vs : List FieldVariable) : Type 0 where
  pub divided : IsDivided pieces ts
  pub variables : AllZip IsVariable pieces vs
  pub read : Each IsRead vs

abbrev pub before_first : Item → List (List Token) → List (List Token)
before_first i [] = i ∷ []
before_first i (p ∷ ps) = (i ++ p) ∷ ps

-- what stands between the commas outside brackets
abbrev pub between_commas : List Item → List (List Token)
between_commas [] = [] ∷ []
between_commas (i ∷ is) =
    if begins_sign (codes ",") i then [] ∷ between_commas is else before_first i (between_commas is)

-- divided at each comma, where no division leaves a tree for each initialiser
pub record AreDividedAtEach (ts : List Token) (vs : List FieldVariable) : Type 0 where
  pub variables : AllZip IsVariable (between_commas (items_of ts)) vs
  pub none : (pieces : List (List Token)) (ws : List FieldVariable) → AreRead ts pieces ws → ⊥

abbrev pub AreVariables : List Token → List FieldVariable → Type 0
AreVariables ts vs = ((pieces : List (List Token)) × AreRead ts pieces vs) ⊎ AreDividedAtEach ts vs

-- ---- the whole declaration

-- the words of a field (JLS 8.3.1)
abbrev pub is_field_modifier : List ℕ → Bool
is_field_modifier text =
    is_listed
    (codes "public" ∷ codes "protected" ∷ codes "private" ∷ codes "static" ∷ codes "final" ∷ codes "transient"
    ∷ codes "volatile" ∷ [])
    text

abbrev pub FormedFieldModifier : Modifier → Type 0
FormedFieldModifier (Annotated n) = FormedAnnotation n
FormedFieldModifier (Word text) = IsTrue (is_field_modifier text)

-- modifiers with annotations, a type and variables; the type keeps its places
pub record AreDeclared (ts : List Token) (f : FieldTree) : Type 0 where
  pub front : List Token
  pub variables : List Token
  pub parts : ts ≡ front ++ variables
  pub modifiers : Each FormedFieldModifier (map modifier_of f.modifiers)
  pub formed : FormedTy (ty_of f.kind)
  pub nested : ty_nesting (ty_of f.kind) ≤ MAX_NESTING
  pub spelled : modifiers_onto (map modifier_of f.modifiers) (ty_onto (ty_of f.kind) []) ≡ plain_all front
  pub placed : AreLast (ty_places f.kind) front
  pub divided : AreVariables variables f.variables

-- the same with a `;` behind it
pub record AreFields (ts : List Token) (f : FieldTree) : Type 0 where
  pub declaration : List Token
  pub last : Token
  pub parts : ts ≡ declaration ++ last ∷ []
  pub ended : IsTrue (is_sign_token (codes ";") last)
  pub declared : AreDeclared declaration f
