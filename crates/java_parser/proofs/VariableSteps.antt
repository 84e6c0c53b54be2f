-- Variables in front of tokens, with what they begin with, and where they end.
use Rattle.std.proofs.Common.{◌≡◌, suc, ◌-◌, ◌≤◌, true, false, List, [], ◌∷◌, ◌++◌, Option}
use Rattle.std.proofs.Common.{Some, None, IsTrue, codes, length, take, drop, map, refl, ap, sym, ◌∙◌, subst, arith}
use Rattle.std.proofs.Common.{inl, inr, append-nil, length-append, take-append-drop}
use Rattle.std.proofs.Common.{length-drop}
use Rattle.std.proofs.lemmas.Bool.{true≢false}
use Rattle.std.specs.List.{AllZip}
use Rattle.racer_base.specs.declared.limits.TheConstants.{MAX_NESTING}
use Rattle.java_lexer.specs.declared.token.Token.{Token}
use Rattle.java_tree.specs.declared.words.Spelled.{Spelled}
use Rattle.java_tree.specs.declared.methods.FieldVariable.{FieldVariable}
use Rattle.java_tree.specs.declared.methods.FieldInitialiser.{FieldInitialiser}
use Rattle.java_tree.specs.declared.methods.FieldInitialiser.TheVariants.{Absent, Formed, Unread}
use Rattle.java_tree.specs.Words.{sign}
use Rattle.java_tree.specs.Brackets.{is_sign}
use Rattle.java_tree.specs.Trees.{Init}
use Rattle.java_tree.specs.Spelling.{init_onto}
use Rattle.java_tree.specs.FormedModifiers.{Each}
use Rattle.java_tree.specs.Formed.{FormedInit}
use Rattle.java_tree.specs.Nesting.{init_nesting}
use Rattle.java_tree.specs.View.{init_of}
use Rattle.java_parser_grammar.specs.ExpressionReading.{LeavesTypes, goes_typed, init_at}
use Rattle.java_parser_grammar.specs.TypeReading.{EndsNoTypes}
use Rattle.java_parser_grammar.specs.Leads.{pull}
use Rattle.java_parser_grammar.proofs.Ensuring.{of_equation, name_is}
use Rattle.java_parser_grammar.proofs.FoundExpressions.{init_found, nothing_leaves}
use Rattle.java_parser_grammar.proofs.Lengths.{init_longer}
use Rattle.java_parser_grammar.proofs.SoundJava.{java_sound}
use Rattle.java_parser_grammar.proofs.SoundSteps.{GotOne}
use Rattle.java_parser_grammar.proofs.Taken.{sign_is, pull_comma, pull_nothing}
use Rattle.java_parser_grammar.specs.Tokens.{is_name, is_sign_token}
use Rattle.java_parser_grammar.specs.FieldDivisions.{IsInit, BeginsWith, IsVariable, IsRead, IsDivided}
use Rattle.java_parser_grammar.specs.FieldDivisions.{AreVariables, between_commas}
use Rattle.java_parser_grammar.specs.Pieces.{items_of}
use Rattle.java_parser_grammar.proofs.Appended.{init_before}
use Rattle.java_parser_types.specs.Tokens.{spelled}
use Rattle.java_parser.specs.Divisions.{is_beginning, is_declarator, are_declarators, HasTree, HasValue}
use Rattle.java_parser.specs.Divisions.{EndsVariable, IsBehind, NoVariable, IsSized}
use Rattle.java_parser.specs.Divisions.{ArePieces}
use Rattle.java_parser.proofs.SameEnds.{same_ends, plain_append, plain_length, same_size}

-- ---- what a variable with a tree looks like

-- an initialiser has a token
no_tokens : (i : Init) → IsInit [] i → ⊥
no_tokens i h = absurd (omega (arith, init_longer i h.formed [], ap length h.spelled))

tree_begins : (t : Token) (ts : List Token) → HasTree (t ∷ ts) → is_beginning ts ≡ true
tree_begins t [] h = refl
tree_begins t (e ∷ []) h = absurd (no_tokens h.2 h.3)
tree_begins t (e ∷ u ∷ ts) h = h.1

tree_named : (t : Token) (ts : List Token) → HasTree (t ∷ ts) → is_name t ≡ true
tree_named t [] h = h
tree_named t (e ∷ ts) h = h.0

tree_declares : (p : List Token) → HasTree p → is_declarator p ≡ true
tree_declares [] h = absurd h
tree_declares (t ∷ ts) h = rw (tree_named t ts h, tree_begins t ts h) refl

trees_declare : (ps : List (List Token)) → Each HasTree ps → are_declarators ps ≡ true
trees_declare [] h = refl
trees_declare (p ∷ ps) h = rw (tree_declares p h.0, trees_declare ps h.1) refl

begins_so : (ts : List Token) (i : FieldInitialiser) → BeginsWith ts i → is_beginning ts ≡ true
begins_so [] i h = refl
begins_so (e ∷ []) Absent h = absurd h
begins_so (e ∷ []) (Formed i) h = absurd (no_tokens (init_of i) h.1)
begins_so (e ∷ []) Unread h = let none = h.1 in absurd cc
begins_so (e ∷ t ∷ ts) Absent h = absurd h
begins_so (e ∷ t ∷ ts) (Formed i) h = h.0
begins_so (e ∷ t ∷ ts) Unread h = h.0

variable_declares : (p : List Token) (v : FieldVariable) → IsVariable p v → is_declarator p ≡ true
variable_declares [] v h = absurd h
variable_declares (t ∷ ts) v h = rw (h.0, begins_so ts v.initialiser h.3) refl

variables_declare : (ps : List (List Token)) (vs : List FieldVariable) → AllZip IsVariable ps vs
    → are_declarators ps ≡ true
variables_declare [] vs z = refl
variables_declare (p ∷ ps) [] z = absurd z
variables_declare (p ∷ ps) (v ∷ vs) z = rw (variable_declares p v z.0, variables_declare ps vs z.1) refl

-- ---- a variable that is read has a tree

pub read_has_tree : (p : List Token) (v : FieldVariable) → IsVariable p v → IsRead v → HasTree p
read_has_tree [] v h read = absurd h
read_has_tree (t ∷ []) v h read = h.0
read_has_tree (t ∷ e ∷ ts) v h read = by_start v.initialiser h.3 read where
  by_start : (i : FieldInitialiser) → BeginsWith (e ∷ ts) i → (i ≡ Unread → ⊥) → HasTree (t ∷ e ∷ ts)
  by_start Absent k r = absurd k
  by_start (Formed i) k r = (h.0, k.0, init_of i, k.1)
  by_start Unread k r = absurd (r refl)

tree_is_read : (p : List Token) (v : FieldVariable) → HasTree p → IsVariable p v → IsRead v
tree_is_read [] v h k = absurd h
tree_is_read (t ∷ []) v h k = by_start v.initialiser k.3 where
  by_start : (i : FieldInitialiser) → BeginsWith [] i → i ≡ Unread → ⊥
  by_start Absent b e = absurd cc
  by_start (Formed i) b e = absurd b
  by_start Unread b e = absurd b
tree_is_read (t ∷ e ∷ ts) v h k = by_start v.initialiser k.3 where
  by_start : (i : FieldInitialiser) → BeginsWith (e ∷ ts) i → i ≡ Unread → ⊥
  by_start Absent b same = absurd b
  by_start (Formed i) b same = absurd cc
  by_start Unread b same = b.2 h.2 h.3

trees_are_read : (ps : List (List Token)) (vs : List FieldVariable) → Each HasTree ps → AllZip IsVariable ps vs
    → Each IsRead vs
trees_are_read [] [] h z = tt
trees_are_read [] (v ∷ vs) h z = absurd z
trees_are_read (p ∷ ps) [] h z = absurd z
trees_are_read (p ∷ ps) (v ∷ vs) h z = (tree_is_read p v h.0 z.0, trees_are_read ps vs h.1 z.1)

-- ---- what the pieces say of the variables

pub are_variables : (ts : List Token) (ps : List (List Token)) (vs : List FieldVariable) → ArePieces ts ps
    → AllZip IsVariable ps vs → AreVariables ts vs
are_variables ts ps vs (inl h) z =
    inl (ps, record { divided = h.0; variables = z; read = trees_are_read ps vs h.1 z })
are_variables ts ps vs (inr h) z =
    inr (record { variables = subst (λ (qs : List (List Token)). AllZip IsVariable qs vs) h.1 z; none = h.0 })

pub no_variables : (ts : List Token) (ps : List (List Token)) → ArePieces ts ps → are_declarators ps ≡ false
    → (vs : List FieldVariable) → AreVariables ts vs → ⊥
no_variables ts ps (inl h) other vs v = let k = trees_declare ps h.1 in absurd cc
no_variables ts ps (inr h) other vs (inl v) = h.0 v.0 vs v.1
no_variables ts ps (inr h) other vs (inr v) =
    let k : are_declarators ps ≡ true = ap are_declarators h.1 ∙ variables_declare (between_commas (items_of ts)) vs
    v.variables in
    absurd cc

-- ---- where a variable ends

no_equals : (t : Token) → is_sign_token (codes "=") t ≡ true → is_sign_token (codes ",") t ≡ true → ⊥
no_equals t a b =
    let e : spelled t ≡ sign (codes ",") = sign_is (codes ",") (spelled t) b in
    true≢false (sym a ∙ ap (is_sign (codes "=")) e)

ends_pulls : (rest : List Token) → EndsVariable rest → pull (map spelled rest) ≤ 0
ends_pulls [] h = omega (arith, pull_nothing)
ends_pulls (t ∷ ts) h = rw (sign_is (codes ",") (spelled t) h) (omega (arith, pull_comma (map spelled ts)))

ends_types : (rest : List Token) → IsBehind rest → LeavesTypes (map spelled rest)
ends_types [] h = nothing_leaves
ends_types (t ∷ ts) h =
    let comma = sign_is (codes ",") (spelled t) h.0 in (
      λ limit. ap (λ (s : Spelled). goes_typed limit (s ∷ map spelled ts)) comma,
      h.1,
      ap (λ (s : Spelled). s.glued) comma,
    )

first_is : {s u : Spelled} → s ≡ u → (rest : List Spelled) → EndsNoTypes (u ∷ rest) → EndsNoTypes (s ∷ rest)
first_is e rest ends = subst (λ (l : Spelled). EndsNoTypes (l ∷ rest)) (sym e) ends

tree_ends_types : (p rest : List Token) → HasTree p → EndsNoTypes (map spelled rest)
    → EndsNoTypes (map spelled (p ++ rest))
tree_ends_types [] rest h ends = absurd h
tree_ends_types (t ∷ []) rest h ends = first_is (name_is (spelled t) h) (map spelled rest) ends
tree_ends_types (t ∷ e ∷ ts) rest h ends =
    first_is (name_is (spelled t) h.0) (map spelled (e ∷ ts ++ rest))
    (first_is (sign_is (codes "=") (spelled e) h.1) (map spelled (ts ++ rest)) (λ limit depth. refl))

pub comma_ends_types : (comma : Token) (ts : List Token) → IsTrue (is_sign_token (codes ",") comma)
    → EndsNoTypes (map spelled ts) → EndsNoTypes (map spelled (comma ∷ ts))
comma_ends_types comma ts h ends = first_is (sign_is (codes ",") (spelled comma) h) (map spelled ts) ends

-- variables with trees end no type arguments
pub divided_ends_types : (ps : List (List Token)) (ts : List Token) (vs : List FieldVariable) → IsDivided ps ts
    → AllZip IsVariable ps vs → Each IsRead vs → EndsNoTypes (map spelled ts)
divided_ends_types [] ts vs d z r = absurd d
divided_ends_types (p ∷ ps) ts [] d z r = absurd z
divided_ends_types (p ∷ []) ts (v ∷ vs) d z r =
    subst (λ (l : List Token). EndsNoTypes (map spelled l)) (append-nil p ∙ sym d)
    (tree_ends_types p [] (read_has_tree p v z.0 r.0) (λ limit depth. refl))
divided_ends_types (p ∷ q ∷ ps) ts (v ∷ vs) d z r =
    subst (λ (l : List Token). EndsNoTypes (map spelled l)) (sym d.2)
    (tree_ends_types p (d.0 ∷ d.1) (read_has_tree p v z.0 r.0)
    (comma_ends_types d.0 d.1 d.3 (divided_ends_types (q ∷ ps) d.1 vs d.4 z.1 r.1)))

abbrev tail : List Token → List Token
tail [] = []
tail (t ∷ ts) = ts

abbrev behind : Option (Init × List Spelled) → List Spelled
behind None = []
behind (Some x) = x.1

-- an initialiser in front is read
init_there : (value v rest : List Token) (i : Init) → value ≡ v ++ rest → IsInit v i → IsBehind rest
    → init_at MAX_NESTING (map spelled value) ≡ Some (i, map spelled rest)
init_there value v rest i parts h ends =
    ap (init_at MAX_NESTING) (ap (map spelled) parts ∙ plain_append v rest ∙ ap (λ l. l ++ map spelled rest) (sym
    h.spelled) ∙ sym (init_before i (map spelled rest)))
    ∙ init_found i h.formed MAX_NESTING (map spelled rest) h.nested (ends_pulls rest ends.0) (ends_types rest ends)

pub no_name : (ts : List Token) → length ts ≡ 0 → NoVariable ts
no_name [] e = λ p rest h parts ends. empty p rest h parts where
  empty : (p rest : List Token) → HasTree p → [] ≡ p ++ rest → ⊥
  empty [] rest h parts = absurd h
  empty (t ∷ p) rest h parts = absurd cc
no_name (t ∷ ts) e = absurd (omega (arith, e))

other_first : (t : Token) (ts : List Token) → is_name t ≡ false → NoVariable (t ∷ ts)
other_first t ts other = λ p rest h parts ends. by_piece p rest h parts where
  by_piece : (p rest : List Token) → HasTree p → t ∷ ts ≡ p ++ rest → ⊥
  by_piece [] rest h parts = absurd h
  by_piece (u ∷ p) rest h parts =
      let same : t ≡ u = cc in
      let named : is_name t ≡ true = ap is_name same ∙ tree_named u p h in
      absurd cc

alone : (t : Token) → is_name t ≡ true → IsSized (t ∷ []) 1
alone t named = record { within = omega arith; tree = named; only = λ p rest h parts ends. by_piece p rest h parts }
  where
    by_piece : (p rest : List Token) → HasTree p → t ∷ [] ≡ p ++ rest → length p ≡ 1
    by_piece [] rest h parts = absurd h
    by_piece (u ∷ []) rest h parts = refl
    by_piece (u ∷ w ∷ p) rest h parts = absurd cc

bare : (t e : Token) (ts : List Token) → is_name t ≡ true → is_sign_token (codes "=") e ≡ false
    → IsSized (t ∷ e ∷ ts) 1
bare t e ts named other =
    record { within = omega arith; tree = named; only = λ p rest h parts ends. by_piece p rest h parts }
  where
    by_piece : (p rest : List Token) → HasTree p → t ∷ e ∷ ts ≡ p ++ rest → length p ≡ 1
    by_piece [] rest h parts = absurd h
    by_piece (u ∷ []) rest h parts = refl
    by_piece (u ∷ w ∷ p) rest h parts =
        let same : e ≡ w = cc in
        let equals : is_sign_token (codes "=") e ≡ true = ap (is_sign_token (codes "=")) same ∙ h.1 in
        absurd cc

-- with an `=`, the piece is the name, the `=` and what is read behind it
value_piece : (t e : Token) (value : List Token) → is_sign_token (codes "=") e ≡ true → (p rest : List Token)
    → HasTree p → t ∷ e ∷ value ≡ p ++ rest → IsBehind rest
    → (i : Init) × (v : List Token) × (value ≡ v ++ rest) × IsInit v i × (length p ≡ suc (suc (length v)))
value_piece t e value equals [] rest h parts ends = absurd h
value_piece t e value equals (u ∷ []) [] h parts ends = absurd cc
value_piece t e value equals (u ∷ []) (w ∷ rest) h parts ends =
    let same : e ≡ w = cc in absurd (no_equals e equals (ap (is_sign_token (codes ",")) same ∙ ends.0))
value_piece t e value equals (u ∷ w ∷ p) rest h parts ends =
    let others : value ≡ p ++ rest = cc in (h.2, p, others, h.3, refl)

value_lacks : (t e : Token) (value : List Token) → is_sign_token (codes "=") e ≡ true
    → init_at MAX_NESTING (map spelled value) ≡ None → NoVariable (t ∷ e ∷ value)
value_lacks t e value equals none = λ p rest h parts ends.
    let k = value_piece t e value equals p rest h parts ends in
    clash (init_there value k.1 rest k.0 k.2 k.3 ends)
  where
    clash : {x : Init × List Spelled} → init_at MAX_NESTING (map spelled value) ≡ Some x → ⊥
    clash there = absurd cc

value_sized : (t e : Token) (value left : List Token) (i : Init) → is_name t ≡ true
    → is_sign_token (codes "=") e ≡ true → length left ≤ length value
    → init_at MAX_NESTING (map spelled value) ≡ Some (i, map spelled left)
    → IsSized (t ∷ e ∷ value) (suc (suc (length value)) - length left)
value_sized t e value left i named equals fits read =
    let size = length value - length left in
    let g = of_equation (GotOne FormedInit init_nesting init_onto MAX_NESTING (map spelled value))
    (init_at MAX_NESTING (map spelled value)) (i, map spelled left) (java_sound.init MAX_NESTING (map spelled value))
    read in
    let front = take size value in
    let rest = drop size value in
    let sized : suc (suc (length value)) - length left ≡ suc (suc size) = omega (arith, fits) in
    let rest_size : length (map spelled rest) ≡ length (map spelled left) =
    plain_length rest ∙ length-drop size value ∙ omega (arith, fits) ∙ sym (plain_length left) in
    let spells : map spelled front ++ map spelled rest ≡ init_onto i [] ++ map spelled left =
    sym (plain_append front rest) ∙ ap (map spelled) (take-append-drop size value) ∙ g.spelled
    ∙ init_before i (map spelled left) in
    let k = same_ends (map spelled front) (init_onto i []) (map spelled rest) (map spelled left) spells rest_size in
    let is_init : IsInit front i = record { formed = g.formed; nested = g.small; spelled = sym k.front } in
    let tree : HasTree (take (suc (suc size)) (t ∷ e ∷ value)) = (named, equals, i, is_init) in
    record {
      within = omega (arith, fits);
      tree = subst (λ n. HasTree (take n (t ∷ e ∷ value))) (sym sized) tree;
      only = λ p rest h parts ends.
          let x = value_piece t e value equals p rest h parts ends in
          let there = init_there value x.1 rest x.0 x.2 x.3 ends in
          let same : map spelled left ≡ map spelled rest = ap behind (sym read ∙ there) in
          let sizes = same_size left rest same in
          let lengths = ap length x.2 ∙ length-append x.1 rest in
          omega (arith, x.4, sizes, lengths, fits);
    }

-- ---- the same of tokens that are cut one after the other

pub other_name : (ts behind : List Token) (t : Token) → ts ≡ t ∷ behind → is_name t ≡ false → NoVariable ts
other_name ts behind t e other = subst NoVariable (sym e) (other_first t behind other)

pub sized_alone : (ts behind : List Token) (t : Token) → ts ≡ t ∷ behind → is_name t ≡ true → length behind ≡ 0
    → IsSized ts 1
sized_alone ts [] t e named none = subst (λ (l : List Token). IsSized l 1) (sym e) (alone t named)
sized_alone ts (u ∷ behind) t e named none = absurd (omega (arith, none))

pub sized_bare : (ts behind value : List Token) (t u : Token) → ts ≡ t ∷ behind → behind ≡ u ∷ value
    → is_name t ≡ true → is_sign_token (codes "=") u ≡ false → IsSized ts 1
sized_bare ts behind value t u e d named other =
    subst (λ (l : List Token). IsSized l 1) (sym (e ∙ ap (λ l. t ∷ l) d)) (bare t u value named other)

pub no_value : (ts behind value : List Token) (t u : Token) → ts ≡ t ∷ behind → behind ≡ u ∷ value
    → is_sign_token (codes "=") u ≡ true → init_at MAX_NESTING (map spelled value) ≡ None → NoVariable ts
no_value ts behind value t u e d equals none =
    subst NoVariable (sym (e ∙ ap (λ l. t ∷ l) d)) (value_lacks t u value equals none)

pub sized_value : (ts behind value left : List Token) (t u : Token) → ts ≡ t ∷ behind → behind ≡ u ∷ value
    → is_name t ≡ true → is_sign_token (codes "=") u ≡ true → length left ≤ length value → HasValue value left
    → IsSized ts (length ts - length left)
sized_value ts behind value left t u e d named equals fits h =
    subst (λ (l : List Token). IsSized l (length l - length left)) (sym (e ∙ ap (λ l. t ∷ l) d))
    (value_sized t u value left h.0 named equals fits h.1)
