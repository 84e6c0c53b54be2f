-- A contract of a public call rests on this: what the code says of how a statement begins, without places.
use Rattle.std.specs.Prelude.{ℕ, ◌<◌, ◌≤◌, List, ◌∷◌, length, map, codes, if◌then◌else◌}
use Rattle.racer_base.specs.declared.ids.Place.{Place}
use Rattle.java_tree.specs.declared.words.Spelled.{Spelled}
use Rattle.java_lexer.specs.declared.token.TokenKind.TheVariants as kind
use Rattle.java_tree.specs.KeptPlaces.{Places, kept, place_onto}
use Rattle.java_parser_lookahead.specs.declared.lookahead.StatementLead as leads
use Rattle.java_parser_lookahead.specs.declared.lookahead.StatementLead.TheVariants as lead
use Rattle.java_parser_grammar.specs.Lookahead.{StatementLead, Semicolon, Brace, IfWord, ForWord}
use Rattle.java_parser_grammar.specs.Lookahead.{RowWord, LabelWord, ClassWord, Other, begins_class, name_and_colon}
use Rattle.java_parser_grammar.specs.Taking.{match_option}
use Rattle.java_parser_lookahead.specs.declared.lookahead.RowWord as words
use Rattle.java_parser_lookahead.specs.declared.lookahead.RowWord.TheVariants as word
use Rattle.java_parser_types.specs.Tokens.{spelled}

abbrev pub row_text : words.RowWord → List ℕ
row_text word.While = codes "while"
row_text word.Do = codes "do"
row_text word.Return = codes "return"
row_text word.Break = codes "break"
row_text word.Continue = codes "continue"
row_text word.Throw = codes "throw"
row_text word.Synchronized = codes "synchronized"
row_text word.Switch = codes "switch"
row_text word.Try = codes "try"
row_text word.Assert = codes "assert"

-- a local class or a label, where one begins
abbrev pub class_or_label : List Spelled → StatementLead
class_or_label ts =
    if begins_class ts then ClassWord ts
    else match_option (name_and_colon ts) Other (λ x. LabelWord x.0 x.1)

-- the place of this keyword, where a tree keeps it, and then the rest
abbrev pub word_onto : words.RowWord → Place → Places → Places
word_onto w p rest = place_onto kind.Keyword (row_text w) p rest

abbrev pub statement_lead_of : leads.StatementLead → StatementLead
statement_lead_of (lead.Semicolon rest) = Semicolon (map spelled rest.now)
statement_lead_of (lead.Brace rest) = Brace (map spelled rest.now)
statement_lead_of (lead.IfWord rest) = IfWord (map spelled rest.now)
statement_lead_of (lead.ForWord rest) = ForWord (map spelled rest.now)
statement_lead_of (lead.Label x rest) = LabelWord x.now.text (map spelled rest.now)
statement_lead_of (lead.Row word place rest) = RowWord (row_text word) (map spelled rest.now)
statement_lead_of (lead.Class tokens) = ClassWord (map spelled tokens.now)
statement_lead_of lead.Other = Other

-- the place that it keeps and those of the tokens behind it: these here, where it is no word, no sign and no label
abbrev pub places_from : leads.StatementLead → Places → Places
places_from (lead.Semicolon rest) here = kept rest.now
places_from (lead.Brace rest) here = kept rest.now
places_from (lead.IfWord rest) here = kept rest.now
places_from (lead.ForWord rest) here = kept rest.now
places_from (lead.Label x rest) here = x.now.place ∷ kept rest.now
places_from (lead.Row word place rest) here = word_onto word place (kept rest.now)
places_from (lead.Class tokens) here = kept tokens.now
places_from lead.Other here = here

-- fewer tokens than this stand behind it, and at most as many in a local class
abbrev pub LeadIsBelow : leads.StatementLead → ℕ → Type 0
LeadIsBelow (lead.Semicolon rest) n = length rest.now < n
LeadIsBelow (lead.Brace rest) n = length rest.now < n
LeadIsBelow (lead.IfWord rest) n = length rest.now < n
LeadIsBelow (lead.ForWord rest) n = length rest.now < n
LeadIsBelow (lead.Label x rest) n = length rest.now < n
LeadIsBelow (lead.Row word place rest) n = length rest.now < n
LeadIsBelow (lead.Class tokens) n = length tokens.now ≤ n
LeadIsBelow lead.Other n = Unit {0}
