-- The names of classes and fields are identifiers.
use Rattle.std.proofs.Common.{◌≡◌, ℕ, suc, Bool, true, List, [], ◌∷◌, ◌++◌, map}
use Rattle.std.proofs.Common.{refl, ap, ◌∙◌, subst, inl, inr}
use Rattle.std.specs.List.{AllZip, flat_map, list_all}
use Rattle.std.proofs.lemmas.List.Folds.{list_all-append}
use Rattle.std.proofs.lemmas.Bool.{and_from}
use Rattle.racer_base.specs.declared.ids.ClassId.{ClassId}
use Rattle.racer_base.specs.declared.ids.Place.{Place}
use Rattle.java_lexer.specs.declared.token.Token.{Token}
use Rattle.java_tree.specs.declared.methods.FieldTree.{FieldTree}
use Rattle.java_tree.specs.declared.methods.FieldVariable.{FieldVariable}
use Rattle.java_tree.specs.FormedModifiers.{Each}
use Rattle.java_tree.specs.declared.unit.ClassTree.{ClassTree}
use Rattle.java_tree.specs.declared.unit.Member.{Member}
use Rattle.java_tree.specs.declared.unit.Member.TheVariants as member
use Rattle.java_tree.specs.declared.unit.Unit as unit
use Rattle.java_parser_grammar.specs.Tokens.{plain, is_name}
use Rattle.java_parser_grammar.specs.Pieces.{items_of}
use Rattle.java_parser_grammar.specs.Declarations.{types_among}
use Rattle.java_parser_grammar.specs.Members.{Form, SkippedForm, MethodForm, FieldForm, form_of, members_of}
use Rattle.java_parser_grammar.specs.FieldDivisions.{IsVariable, AreVariables, AreFields, between_commas}
use Rattle.java_parser_grammar.specs.Units.{HasForm, IsMember, IsClass, AreTypes, body_among}
use Rattle.java_parser_grammar.proofs.Ensuring.{name_is}
use Rattle.java_resolver.specs.declared.infos.ClassInfo.{ClassInfo}
use Rattle.java_resolver.specs.declared.infos.FieldInfo.{FieldInfo}
use Rattle.java_resolver.specs.Declarations.{trees_of, class_info, classes_of, names_of, by_class, field_info}
use Rattle.java_resolver.specs.Declarations.{member_fields, class_fields, fields_of}
use Rattle.core_code.specs.Names.{is_identifier}
use Rattle.core_lowering_rules.specs.Conditions.{are_named}
use Rattle.core_lowering_conditions.specs.FromTokens.{IsFromTokens, AreFromTokens}
use Rattle.core_lowering_conditions.proofs.Parts.{each_front, each_behind, each_append}
use Rattle.core_lowering_conditions.proofs.EachToken.{items_each, name_each, body_each}
use Rattle.core_lowering_conditions.proofs.EachToken.{members_each}
use Rattle.core_lowering_conditions.proofs.EachToken.{types_each}
use Rattle.core_lowering_conditions.proofs.EachToken.{divided_each, commas_each}
use Rattle.core_lowering_conditions.proofs.NamedTokens.{IsNamed, tokens_named}

-- a name is an identifier
identifier_of : (t : Token) → IsNamed t → is_name t ≡ true → is_identifier t.text ≡ true
identifier_of t h n = h (ap (λ s. s.kind) (name_is (plain t) n))

-- ---- fields

abbrev is_named_field : FieldInfo → Bool
is_named_field f = is_identifier f.name

both_named : (xs ys : List FieldInfo) → list_all is_named_field xs ≡ true → list_all is_named_field ys ≡ true
    → list_all is_named_field (xs ++ ys) ≡ true
both_named xs ys h k =
    list_all-append is_named_field xs ys ∙ and_from (list_all is_named_field xs) (list_all is_named_field ys) h k

variable_named : (ts : List Token) (v : FieldVariable) → Each IsNamed ts → IsVariable ts v
    → is_identifier v.name.text ≡ true
variable_named [] v h is = absurd is
variable_named (t ∷ ts) v h is = ap is_identifier is.1 ∙ identifier_of t h.0 is.0

abbrev AreNamed : List FieldVariable → Type 0
AreNamed = Each (λ (v : FieldVariable). is_identifier v.name.text ≡ true)

variables_named : (ps : List (List Token)) (vs : List FieldVariable) → Each (Each IsNamed) ps → AllZip IsVariable ps vs
    → AreNamed vs
variables_named [] [] h all = tt
variables_named [] (v ∷ vs) h all = absurd all
variables_named (p ∷ ps) [] h all = absurd all
variables_named (p ∷ ps) (v ∷ vs) h all = (variable_named p v h.0 all.0, variables_named ps vs h.1 all.1)

divisions_named : (ts : List Token) (vs : List FieldVariable) → Each IsNamed ts → AreVariables ts vs → AreNamed vs
divisions_named ts vs h (inl x) = variables_named x.0 vs (divided_each IsNamed x.0 ts x.1.divided h) x.1.variables
divisions_named ts vs h (inr x) =
    variables_named (between_commas (items_of ts)) vs (commas_each IsNamed (items_of ts) (items_each IsNamed ts h))
    x.variables

fields_named : (m : List Token) (f : FieldTree) → Each IsNamed m → AreFields m f → AreNamed f.variables
fields_named m f h are =
    let declaration = each_front IsNamed are.declaration (are.last ∷ []) (subst (Each IsNamed) are.parts h) in
    divisions_named are.declared.variables f.variables
    (each_behind IsNamed are.declared.front are.declared.variables
    (subst (Each IsNamed) are.declared.parts declaration))
    are.declared.divided

infos_named : (names : List (List ℕ)) (c : ClassId) (f : FieldTree) (vs : List FieldVariable) → AreNamed vs
    → list_all is_named_field (map (field_info names c f) vs) ≡ true
infos_named names c f [] h = refl
infos_named names c f (v ∷ vs) h =
    and_from (is_identifier v.name.text) (list_all is_named_field (map (field_info names c f) vs)) h.0
    (infos_named names c f vs h.1)

-- ---- members

-- whatever the classes, and whichever of them it stands in
abbrev NamesFields : Member → Type 0
NamesFields m = (names : List (List ℕ)) (c : ClassId) → list_all is_named_field (member_fields names c m) ≡ true

with_form : (class : List ℕ) (ts : List Token) (form : Form) (m : Member) → Each IsNamed ts → HasForm class ts form m
    → NamesFields m
with_form class ts FieldForm (member.Field f) h is = λ names c.
    infos_named names c f f.variables (fields_named ts f h is)
with_form class ts SkippedForm (member.Field f) h is = absurd is
with_form class ts (MethodForm front name parentheses) (member.Field f) h is = absurd is
with_form class ts form (member.Method t) h is = λ names c. refl
with_form class ts form (member.Outside o) h is = λ names c. refl
with_form class ts form (member.Skipped place) h is = λ names c. refl

members_named : (class : List ℕ) (ps : List (List Token)) (ms : List Member) → Each (Each IsNamed) ps
    → AllZip (IsMember class) ps ms → Each NamesFields ms
members_named class [] [] h all = tt
members_named class [] (m ∷ ms) h all = absurd all
members_named class (p ∷ ps) [] h all = absurd all
members_named class (p ∷ ps) (m ∷ ms) h all =
    (with_form class p (form_of p) m h.0 all.0, members_named class ps ms h.1 all.1)

all_fields : (names : List (List ℕ)) (c : ClassId) (ms : List Member) → Each NamesFields ms
    → list_all is_named_field (flat_map (member_fields names c) ms) ≡ true
all_fields names c [] h = refl
all_fields names c (m ∷ ms) h =
    both_named (member_fields names c m) (flat_map (member_fields names c) ms) (h.0 names c) (all_fields names c ms h.1)

-- ---- classes

pub record IsNamedClass (c : ClassTree) : Type 0 where
  pub named : is_identifier c.name ≡ true
  pub members : Each NamesFields c.members

class_named : (type : List Token) (c : ClassTree) → Each IsNamed type → IsClass type c → IsNamedClass c
class_named type c h is =
    let name : IsNamed is.name = name_each IsNamed type is.modifiers is.name h is.head in
    let body = body_among (items_of type) in
    record {
      named = ap is_identifier is.named ∙ identifier_of is.name name is.head.named;
      members = members_named c.name (members_of body) c.members
          (members_each IsNamed body (body_each IsNamed (items_of type) (items_each IsNamed type h))) is.members;
    }

types_named : (types : List (List Token)) (cs : List ClassTree) (ps : List Place) → Each (Each IsNamed) types
    → AreTypes types cs ps → Each IsNamedClass cs
types_named [] [] [] h all = tt
types_named [] [] (p ∷ ps) h all = absurd all
types_named [] (c ∷ cs) ps h all = absurd all
types_named (t ∷ ts) [] ps h (inl k) = absurd k
types_named (t ∷ ts) (c ∷ cs) ps h (inl k) = (class_named t c h.0 k.0, types_named ts cs ps h.1 k.1)
types_named (t ∷ ts) cs [] h (inr k) = absurd k
types_named (t ∷ ts) cs (p ∷ ps) h (inr k) = types_named ts cs ps h.1 k.2

-- ---- units

unit_named : (n : ℕ) (u : unit.Unit) → IsFromTokens n u → Each IsNamedClass u.classes
unit_named n u is =
    let named = tokens_named (record { 0 = n }) is.bytes is.lexed is.tokens in
    let types = types_each IsNamed is.lexed.tokens is.unit.all named is.unit.fit in
    types_named (types_among is.unit.all) u.classes u.skipped types is.unit.types

units_named : (n : ℕ) (us : List unit.Unit) → AreFromTokens n us → Each IsNamedClass (trees_of us)
units_named n [] are = tt
units_named n (u ∷ us) are =
    each_append IsNamedClass u.classes (trees_of us) (unit_named n u are.0) (units_named (suc n) us are.1)

-- ---- what they declare

all_classes : (cs : List ClassTree) → Each IsNamedClass cs
    → list_all (λ (c : ClassInfo). is_identifier c.name) (map class_info cs) ≡ true
all_classes [] h = refl
all_classes (c ∷ cs) h =
    and_from (is_identifier c.name) (list_all (λ (c : ClassInfo). is_identifier c.name) (map class_info cs)) h.0.named
    (all_classes cs h.1)

fields_by_class : (names : List (List ℕ)) (n : ℕ) (cs : List ClassTree) → Each IsNamedClass cs
    → list_all is_named_field (by_class (class_fields names) n cs) ≡ true
fields_by_class names n [] h = refl
fields_by_class names n (c ∷ cs) h =
    both_named (class_fields names (record { 0 = n }) c) (by_class (class_fields names) (suc n) cs)
    (all_fields names (record { 0 = n }) c.members h.0.members) (fields_by_class names (suc n) cs h.1)

pub read_units_are_named : (units : List unit.Unit) → AreFromTokens 0 units → are_named units ≡ true
read_units_are_named units are =
    let named = units_named 0 units are in
    and_from (list_all (λ (c : ClassInfo). is_identifier c.name) (classes_of units))
    (list_all is_named_field (fields_of units))
    (all_classes (trees_of units) named) (fields_by_class (names_of units) 0 (trees_of units) named)
