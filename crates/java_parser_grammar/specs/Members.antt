-- A contract of a public call rests on this: the members of a class (JLS 8.1.6), where each ends and what form it has.
use Rattle.std.specs.Prelude.{Bool, true, false, not, ◌&&◌, ◌||◌, List, [], ◌∷◌, ◌++◌, Option, Some, None, codes}
use Rattle.std.specs.Prelude.{filter}
use Rattle.std.specs.Prelude.{map, option_map, if◌then◌else◌}
use Rattle.java_lexer.specs.declared.token.Token.{Token}
use Rattle.java_parser_grammar.specs.Tokens.{is_sign_token, is_keyword_of, is_name, begins, begins_sign, begins_word}
use Rattle.java_parser_grammar.specs.Cuts.{with_cut, joined, ends}
use Rattle.java_parser_grammar.specs.Pieces.{Item, items_of, Piece, pieces_of, is_annotation}
use Rattle.java_parser_grammar.specs.Declarations.{is_type_word}

-- ---- where a member ends

-- whether a member ends with the item, where an `=` outside brackets stood before it or none
abbrev pub ends_member : (equals : Bool) → Item → Bool
ends_member equals i = begins_sign (codes ";") i || (begins_sign (codes "{") i && not equals)

-- the cut behind each end
abbrev pub cut_members : (equals : Bool) → List Item → List (List Item)
cut_members equals [] = []
cut_members equals (i ∷ is) =
    let ended = ends_member equals i in
    with_cut ended i (cut_members (not ended && (equals || begins_sign (codes "=") i)) is)

-- whether none of the items ends a member
abbrev pub is_endless : (equals : Bool) → List Item → Bool
is_endless equals [] = true
is_endless equals (i ∷ is) = not (ends_member equals i) && is_endless (equals || begins_sign (codes "=") i) is

abbrev pub is_lone : List Token → Bool
is_lone (t ∷ []) = is_sign_token (codes ";") t
is_lone _ = false

-- the tokens of each member of a class: a lone `;` is none
abbrev pub members_of : List Token → List (List Token)
members_of body = filter (λ m. not (is_lone m)) (map joined (cut_members false (items_of body)))

-- ---- what form it has

-- `{ .. }` or `static { .. }` (JLS 8.6, 8.7)
abbrev pub is_block : List Item → Bool
is_block (i ∷ []) = begins_sign (codes "{") i
is_block (i ∷ j ∷ []) = begins_word (codes "static") i && begins_sign (codes "{") j
is_block _ = false

-- all words that stand before a declaration (JLS 8.1.1, 8.3.1, 8.4.3, 9.4)
abbrev pub is_modifier : Token → Bool
is_modifier t =
    is_keyword_of
    (codes "public" ∷ codes "protected" ∷ codes "private" ∷ codes "static" ∷ codes "abstract" ∷ codes "final"
    ∷ codes "strictfp" ∷ codes "synchronized" ∷ codes "native" ∷ codes "transient" ∷ codes "volatile"
    ∷ codes "default" ∷ [])
    t

-- the pieces from the first on that is no annotation and none of these words
abbrev pub behind_words : (Token → Bool) → List Piece → List Piece
behind_words is_word [] = []
behind_words is_word (p ∷ ps) =
    if is_annotation p || begins is_word p then behind_words is_word ps else p ∷ ps

-- whether `class`, `interface`, `enum` or `@ interface` stands first
abbrev pub begins_type : List Piece → Bool
begins_type [] = false
begins_type (p ∷ []) = begins is_type_word p
begins_type (p ∷ q ∷ ps) = begins is_type_word p || (begins_sign (codes "@") p && begins_word (codes "interface") q)

-- what stands before the first parentheses outside annotations and brackets, and these, where no `=` stands before
-- them
abbrev pub before_parentheses : List Piece → Option (List Token × Piece)
before_parentheses [] = None
before_parentheses (p ∷ ps) =
    if begins_sign (codes "(") p then Some ([], p)
    else (if begins_sign (codes "=") p then None else option_map (λ h. (p ++ h.0, h.1)) (before_parentheses ps))

-- the tokens before the last, and the last where it is a name
abbrev pub name_at_end : List Token → Option (List Token × Token)
name_at_end [] = None
name_at_end (t ∷ []) = if is_name t then Some ([], t) else None
name_at_end (t ∷ u ∷ ts) = option_map (λ x. (t ∷ x.0, x.1)) (name_at_end (u ∷ ts))

pub data Form : Type 0 where
  SkippedForm : Form
  -- what stands before the name of a method, the name, and its parentheses
  MethodForm : List Token → (name : Token) → Piece → Form
  FieldForm : Form

abbrev pub form_by : (braces : Bool) → Option (List Token × Piece) → Form
form_by braces None = FieldForm
form_by false (Some head) = SkippedForm
form_by true (Some head) =
    elim (name_at_end head.0) [ None ↦ SkippedForm | (Some x) ↦ MethodForm x.0 x.1 head.1 ]

-- the form of a member: the first row of the table that fits
abbrev pub form_of : List Token → Form
form_of m =
    if is_endless false (items_of m) || (is_block (items_of m) || begins_type (behind_words is_modifier (pieces_of m)))
    then SkippedForm
    else form_by (ends (is_sign_token (codes "}")) m) (before_parentheses (pieces_of m))
