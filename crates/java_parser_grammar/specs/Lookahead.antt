-- A contract of a public call rests on this: choices by the first tokens, without reading what they begin.
use Rattle.std.specs.Prelude.{ℕ, suc, Bool, false, not, ◌&&◌, ◌||◌, List, [], ◌∷◌, Option, Some, None, codes}
use Rattle.std.specs.Prelude.{if◌then◌else◌}
use Rattle.java_tree.specs.declared.words.Spelled.{Spelled}
use Rattle.java_tree.specs.Brackets.{is_sign, is_keyword_kind, is_keyword, is_word_name, is_class_word}
use Rattle.java_tree.specs.FormedMethods.{is_method_modifier}
use Rattle.java_tree.specs.Rows.{is_row}
use Rattle.java_parser_grammar.specs.Taking.{◌>>=◌, match_option, match_number, after_sign, after_name}
use Rattle.java_parser_grammar.specs.TypeReading.{is_plain_type, is_angle_sign, in_arguments}
use Rattle.java_parser_grammar.specs.Leads.{begins_with}

-- ---- a declaration or an expression

abbrev mutual
  -- whether a type, of which so many type arguments are open, goes on here to the name of its variable
  pub goes_local : ℕ → List Spelled → Bool
  goes_local d [] = false
  goes_local d (t ∷ ts) =
      if is_sign (codes "<") t then goes_local (suc d) ts
      else (if is_sign (codes ".") t then local_name d ts
      else (if is_sign (codes "[") t then local_bracket d ts
      else match_number d (is_word_name t)
      (λ e. if is_angle_sign t then goes_local e ts else in_arguments t && goes_local d ts)))

  -- the same where a name has to stand
  pub local_name : ℕ → List Spelled → Bool
  local_name d [] = false
  local_name d (t ∷ ts) = is_word_name t && goes_local d ts

  -- the same where a `]` has to stand
  pub local_bracket : ℕ → List Spelled → Bool
  local_bracket d [] = false
  local_bracket d (t ∷ ts) = is_sign (codes "]") t && goes_local d ts

-- whether a declaration of variables begins here, where it or an expression does
abbrev pub looks_local : List Spelled → Bool
looks_local [] = false
looks_local (t ∷ ts) =
    is_keyword (codes "final") t || (is_sign (codes "@") t || ((is_plain_type t || is_word_name t) && goes_local 0 ts))

-- whether a local class begins here (JLS 14.3)
abbrev pub begins_class : List Spelled → Bool
begins_class [] = false
begins_class (t ∷ ts) = is_keyword (codes "class") t || (is_class_word t && begins_class ts)

-- a name and the tokens behind its `:`, as in the head of a `for` over the elements of something
abbrev pub name_and_colon : List Spelled → Option (List ℕ × List Spelled)
name_and_colon ts = do
  x ← after_name ts
  r ← after_sign (codes ":") x.1
  Some (x.0, r)

-- ---- statements

-- what a statement begins with, and the tokens behind it
pub data StatementLead : Type 0 where
  Semicolon : List Spelled → StatementLead
  Brace : List Spelled → StatementLead
  IfWord : List Spelled → StatementLead
  ForWord : List Spelled → StatementLead
  -- the keyword of a row
  RowWord : (word : List ℕ) → List Spelled → StatementLead
  -- a name with a `:` behind it
  LabelWord : (name : List ℕ) → List Spelled → StatementLead
  -- a local class, with all of its tokens
  ClassWord : List Spelled → StatementLead
  Other : StatementLead

-- whether the token is the keyword of a row
abbrev pub begins_row : Spelled → Bool
begins_row t = is_keyword_kind t.kind && (not t.glued && is_row t.text)

abbrev pub statement_lead : List Spelled → StatementLead
statement_lead [] = Other
statement_lead (t ∷ ts) =
    if begins_row t then RowWord t.text ts
    else (if is_sign (codes ";") t then Semicolon ts
    else (if is_sign (codes "{") t then Brace ts
    else (if is_keyword (codes "if") t then IfWord ts
    else (if is_keyword (codes "for") t then ForWord ts
    else (if begins_class (t ∷ ts) then ClassWord (t ∷ ts)
    else match_option (name_and_colon (t ∷ ts)) Other (λ x. LabelWord x.0 x.1))))))

-- ---- methods

-- whether a method's name stands here, with no result before it
abbrev pub is_constructor : List Spelled → Bool
is_constructor ts = match_option (after_name ts) false (λ x. begins_with (codes "(") x.1)

-- a modifier's word and the tokens behind it
abbrev pub after_modifier : List Spelled → Option (List ℕ × List Spelled)
after_modifier [] = None
after_modifier (t ∷ ts) = if is_keyword_kind t.kind && (not t.glued && is_method_modifier t.text) then Some (
  t.text,
  ts,
) else None
