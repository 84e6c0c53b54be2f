-- The tree of each method of a file keeps how many tokens its spelling has.
use Rattle.std.proofs.Common.{ℕ, inl, inr, List, [], ◌∷◌, length, ap, sym, ◌∙◌}
use Rattle.std.specs.List.{AllZip}
use Rattle.std.proofs.lemmas.List.{length-map}
use Rattle.racer_base.specs.declared.ids.Place.{Place}
use Rattle.java_lexer.specs.declared.token.Token.{Token}
use Rattle.java_tree.specs.FormedModifiers.{Each}
use Rattle.java_tree.specs.declared.unit.ClassTree.{ClassTree}
use Rattle.java_tree.specs.declared.unit.Member.{Member}
use Rattle.java_tree.specs.declared.unit.Member.TheVariants as member
use Rattle.java_parser_grammar.specs.Tokens.{plain}
use Rattle.java_parser_grammar.specs.Members.{Form, SkippedForm, MethodForm, FieldForm, form_of}
use Rattle.java_parser_grammar.specs.Units.{HasForm, IsMember, AreTypes}
use Rattle.java_parser_grammar.specs.CountedTokens.{IsCounted}

with_form : (class : List ℕ) (m : List Token) (form : Form) (tree : Member) → HasForm class m form tree
    → IsCounted tree
with_form class m SkippedForm (member.Method t) is = absurd is
with_form class m FieldForm (member.Method t) is = absurd is
with_form class m (MethodForm front name parentheses) (member.Method t) is =
    is.3 ∙ sym (ap length is.0.spelled ∙ length-map m plain)
with_form class m form (member.Outside head) is = tt
with_form class m form (member.Field f) is = tt
with_form class m form (member.Skipped place) is = tt

members_counted : (class : List ℕ) (ms : List (List Token)) (trees : List Member)
    → AllZip (IsMember class) ms trees → Each IsCounted trees
members_counted class [] [] all = tt
members_counted class [] (tree ∷ trees) all = absurd all
members_counted class (m ∷ ms) [] all = absurd all
members_counted class (m ∷ ms) (tree ∷ trees) all =
    (with_form class m (form_of m) tree all.0, members_counted class ms trees all.1)

pub types_counted : (types : List (List Token)) (classes : List ClassTree) (skipped : List Place)
    → AreTypes types classes skipped → Each (λ c. Each IsCounted c.members) classes
types_counted [] [] [] all = tt
types_counted [] [] (p ∷ ps) all = absurd all
types_counted [] (c ∷ cs) ps all = absurd all
types_counted (t ∷ ts) [] ps (inl h) = absurd h
types_counted (t ∷ ts) (c ∷ cs) ps (inl h) =
    (members_counted c.name _ c.members h.0.members, types_counted ts cs ps h.1)
types_counted (t ∷ ts) cs [] (inr h) = absurd h
types_counted (t ∷ ts) cs (p ∷ ps) (inr h) = types_counted ts cs ps h.2
