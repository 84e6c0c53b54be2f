-- The head of a type: what was read of it is a head, and where something lacks it has none.
use Rattle.std.proofs.Common.{◌≡◌, ℕ, ◌-◌, List, length, map, drop, Option, Some, None, refl, ap, sym, ◌∙◌}
use Rattle.java_lexer.specs.declared.token.Token.{Token}
use Rattle.java_tree.specs.declared.words.Spelled.{Spelled}
use Rattle.java_tree.specs.Trees.{Modifier}
use Rattle.java_parser_grammar.specs.Tokens.{plain_all}
use Rattle.java_parser_grammar.specs.ClassHeads.{IsHead, HasNoHead}
use Rattle.java_parser_grammar.specs.ClassHeadReading.{type_modifiers_at, name_behind_class}
use Rattle.java_parser_grammar.proofs.ReadHeads.{head_sound, no_head}
use Rattle.java_parser_types.specs.Tokens.{spelled}
use Rattle.java_parser.proofs.SameEnds.{plain_length}

abbrev modifiers_read : List Token → Option (List Modifier × List Spelled)
modifiers_read type = type_modifiers_at (length (map spelled type)) (map spelled type)

same_read : (type : List Token) → type_modifiers_at (length type) (plain_all type) ≡ modifiers_read type
same_read type = ap (λ (n : ℕ). type_modifiers_at n (plain_all type)) (sym (plain_length type))

pub no_modifiers : (type : List Token) → modifiers_read type ≡ None → HasNoHead type
no_modifiers type e =
    no_head type (let none : type_modifiers_at (length type) (plain_all type) ≡ None = same_read type ∙ e in
    rw none refl)

module _ (type rest left : List Token) (ms : List Modifier) (read : modifiers_read type ≡ Some (ms, map spelled left))
    (behind : rest ≡ drop (length type - length left) type) where
  first : type_modifiers_at (length type) (plain_all type) ≡ Some (ms, plain_all left)
  first = same_read type ∙ read

  second : drop (length type - length (plain_all left)) type ≡ rest
  second = ap (λ (n : ℕ). drop (length type - n) type) (plain_length left) ∙ sym behind

  pub head_read : (name : Token) → name_behind_class rest ≡ Some name → IsHead type ms name
  head_read name e = head_sound type ms name (rw (first, second, e) refl)

  pub no_name : name_behind_class rest ≡ None → HasNoHead type
  no_name e = no_head type (rw (first, second, e) refl)
