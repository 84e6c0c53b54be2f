-- No public contract rests on this: reading the modifiers of fields.
use Rattle.std.specs.Prelude.{◌≡◌, false, List, Option, Some, None, codes}
use Rattle.java_tree.specs.declared.words.Spelled.{Spelled}
use Rattle.java_tree.specs.FormedModifiers.{Each}
use Rattle.java_tree.specs.Spelling.{modifiers_onto}
use Rattle.java_tree.specs.Trees.{Modifier}
use Rattle.java_parser_grammar.specs.Leads.{begins_with}
use Rattle.java_parser_grammar.specs.Taking.{after_sign}
use Rattle.java_parser_grammar.specs.ClassHeadReading.{modifier_at}
use Rattle.java_parser_grammar.specs.FieldDivisions.{FormedFieldModifier, is_field_modifier}

-- a word or an annotation and the tokens behind it, where one stands
abbrev pub field_modifier_at : List Spelled → Option (Option (Modifier × List Spelled))
field_modifier_at = modifier_at is_field_modifier

-- tokens that do not go on with annotations and words of a field
pub record EndsModifiers (rest : List Spelled) : Type 0 where
  pub no_point : after_sign (codes ".") rest ≡ None
  pub no_open : begins_with (codes "(") rest ≡ false
  pub ended : field_modifier_at rest ≡ Some None

-- the tokens are these modifiers, and then others
pub record Spells (ts : List Spelled) (ms : List Modifier) (rest : List Spelled) : Type 0 where
  pub formed : Each FormedFieldModifier ms
  pub spelled : ts ≡ modifiers_onto ms rest

-- whatever modifiers stand in front, with tokens behind them that do not go on, some of them end here
abbrev pub SkipsModifiers : List Spelled → List Spelled → Type 0
SkipsModifiers ts rest = (ms : List Modifier) (end : List Spelled) → Spells ts ms end → EndsModifiers end
    → (others : List Modifier) × Spells rest others end

-- no modifiers stand in front, not even none of them, with tokens behind them that do not go on
abbrev pub NoModifiers : List Spelled → Type 0
NoModifiers ts = (ms : List Modifier) (end : List Spelled) → Spells ts ms end → EndsModifiers end → ⊥

-- these stand in front, and no others
pub record AreModifiers (ms : List Modifier) (ts rest : List Spelled) : Type 0 where
  pub spells : Spells ts ms rest
  pub only : (others : List Modifier) (end : List Spelled) → Spells ts others end → EndsModifiers end → rest ≡ end
