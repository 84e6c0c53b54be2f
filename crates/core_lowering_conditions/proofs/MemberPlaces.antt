-- The places that a member keeps are those of its tokens.
use Rattle.std.proofs.Common.{ℕ, Bool, true, false, cond, List, [], ◌∷◌, ◌++◌, Option, Some, None, codes}
use Rattle.std.proofs.Common.{sym, subst, inl, inr, ◌||◌}
use Rattle.std.specs.List.{AllZip, flat_map}
use Rattle.std.specs.Option.{option_map}
use Rattle.racer_base.specs.declared.ids.Place.{Place}
use Rattle.java_lexer.specs.declared.token.Token.{Token}
use Rattle.java_tree.specs.declared.methods.FieldTree.{FieldTree}
use Rattle.java_tree.specs.declared.methods.FieldVariable.{FieldVariable}
use Rattle.java_tree.specs.declared.methods.FieldInitialiser.{FieldInitialiser}
use Rattle.java_tree.specs.declared.methods.FieldInitialiser.TheVariants.{Absent, Formed, Unread}
use Rattle.java_tree.specs.FormedModifiers.{Each}
use Rattle.java_tree.specs.KeptPlaces.{Marks, AreAt, kept, is_kept, init_places}
use Rattle.java_tree.specs.MethodPlaces.{method_marks}
use Rattle.java_tree.specs.declared.unit.Member.{Member}
use Rattle.java_tree.specs.declared.unit.Member.TheVariants as member
use Rattle.java_parser_grammar.specs.Tokens.{is_sign_token, is_name, begins_sign}
use Rattle.java_parser_grammar.specs.Pieces.{items_of, Piece, pieces_of}
use Rattle.java_parser_grammar.specs.Members.{Form, SkippedForm, MethodForm, FieldForm, form_by, form_of}
use Rattle.java_parser_grammar.specs.Members.{before_parentheses}
use Rattle.java_parser_grammar.specs.Members.{name_at_end, is_endless, is_block, begins_type, behind_words, is_modifier}
use Rattle.java_parser_grammar.specs.Cuts.{ends}
use Rattle.java_parser_grammar.specs.FieldDivisions.{BeginsWith, IsVariable, AreVariables, AreFields, between_commas}
use Rattle.java_parser_grammar.specs.Units.{BeginsAt, HasForm, IsMember}
use Rattle.java_parser_grammar.proofs.Joined.{joined_pieces}
use Rattle.core_lowering_rules.specs.Conditions.{kept_of, member_places, variable_places, initialiser_places}
use Rattle.core_lowering_conditions.proofs.Parts.{each_front, each_behind, each_append, each_cut}
use Rattle.core_lowering_conditions.proofs.EachToken.{items_each, divided_each, commas_each}
use Rattle.core_lowering_conditions.proofs.TokenPlaces.{IsIn, StandsIn}

module _ (n : ℕ) where
  pub kept_in : (ts : List Token) → Each (StandsIn n) ts → Each (IsIn n) (kept ts)
  kept_in [] h = tt
  kept_in (t ∷ ts) h =
      elim (is_kept t.kind t.text) as (λ b. Each (IsIn n) (cond b (t.place ∷ kept ts) (kept ts))) [
        | true ↦ (h.0, kept_in ts h.1)
        | false ↦ kept_in ts h.1
      ]

  marks_in : (ms : Marks) (ps : List Place) → AreAt ms ps → Each (IsIn n) ps → Each (IsIn n) (kept_of ms)
  marks_in [] ps at h = tt
  marks_in (None ∷ ms) [] at h = absurd at
  marks_in (Some q ∷ ms) [] at h = absurd at
  marks_in (None ∷ ms) (p ∷ ps) at h = marks_in ms ps at h.1
  marks_in (Some q ∷ ms) (p ∷ ps) at h = (subst (IsIn n) (sym at.0) h.0, marks_in ms ps at.1 h.1)

  pub begins_in : (ts : List Token) (place : Place) → Each (StandsIn n) ts → BeginsAt ts place → IsIn n place
  begins_in [] place h at = absurd at
  begins_in (t ∷ ts) place h at = subst (IsIn n) at h.0

  -- ---- the name of a method

  abbrev pub InHead : Option (List Token × Piece) → Type 0
  InHead None = Unit {0}
  InHead (Some head) = Each (StandsIn n) head.0

  head_more : (p : Piece) (o : Option (List Token × Piece)) → Each (StandsIn n) p → InHead o
      → InHead (option_map (λ (h : List Token × Piece). (p ++ h.0, h.1)) o)
  head_more p None h there = tt
  head_more p (Some head) h there = each_append (StandsIn n) p head.0 h there

  head_step : (p : Piece) (a b : Bool) (o : Option (List Token × Piece)) → Each (StandsIn n) p → InHead o
      → InHead (cond a (Some ([], p)) (cond b None (option_map (λ (x : List Token × Piece). (p ++ x.0, x.1)) o)))
  head_step p true b o h there = tt
  head_step p false true o h there = tt
  head_step p false false o h there = head_more p o h there

  before_in : (ps : List Piece) → Each (Each (StandsIn n)) ps → InHead (before_parentheses ps)
  before_in [] h = tt
  before_in (p ∷ ps) h =
      head_step p (begins_sign (codes "(") p) (begins_sign (codes "=") p) (before_parentheses ps) h.0 (before_in ps h.1)

  abbrev pub InName : Option (List Token × Token) → Type 0
  InName None = Unit {0}
  InName (Some x) = StandsIn n x.1

  name_more : (t : Token) (o : Option (List Token × Token)) → InName o
      → InName (option_map (λ (x : List Token × Token). (t ∷ x.0, x.1)) o)
  name_more t None there = tt
  name_more t (Some x) there = there

  name_in : (ts : List Token) → Each (StandsIn n) ts → InName (name_at_end ts)
  name_in [] h = tt
  name_in (t ∷ []) h =
      elim (is_name t) as (λ b. InName (cond b (Some ([], t)) None)) [ true ↦ h.0 | false ↦ tt ]
  name_in (t ∷ u ∷ ts) h = name_more t (name_at_end (u ∷ ts)) (name_in (u ∷ ts) h.1)

  abbrev pub NameIn : Form → Type 0
  NameIn SkippedForm = Unit {0}
  NameIn (MethodForm front name parentheses) = StandsIn n name
  NameIn FieldForm = Unit {0}

  named : (o : Option (List Token × Token)) (parentheses : Piece) → InName o
      → NameIn (elim o [ None ↦ SkippedForm | (Some x) ↦ MethodForm x.0 x.1 parentheses ])
  named None parentheses h = tt
  named (Some x) parentheses h = h

  by_head : (braces : Bool) (o : Option (List Token × Piece)) → InHead o → NameIn (form_by braces o)
  by_head braces None h = tt
  by_head false (Some head) h = tt
  by_head true (Some head) h = named (name_at_end head.0) head.1 (name_in head.0 h)

  pub form_in : (m : List Token) → Each (StandsIn n) m → NameIn (form_of m)
  form_in m h =
      let form = form_by (ends (is_sign_token (codes "}")) m) (before_parentheses (pieces_of m)) in
      elim (is_endless false (items_of m) || (is_block (items_of m) || begins_type
      (behind_words is_modifier (pieces_of m)))) as (λ b. NameIn (cond b SkippedForm form)) [
        | true ↦ tt
        | false ↦ by_head (ends (is_sign_token (codes "}")) m) (before_parentheses (pieces_of m))
            (before_in (pieces_of m) (each_cut (StandsIn n) (pieces_of m) m (joined_pieces m) h))
      ]

  -- ---- fields

  initialiser_in : (ts : List Token) (f : FieldInitialiser) → Each (StandsIn n) ts → BeginsWith ts f
      → Each (IsIn n) (initialiser_places f)
  initialiser_in [] Absent h b = tt
  initialiser_in [] (Formed i) h b = absurd b
  initialiser_in [] Unread h b = tt
  initialiser_in (e ∷ ts) Absent h b = tt
  initialiser_in (e ∷ ts) (Formed i) h b = marks_in (init_places i []) (kept ts) b.2 (kept_in ts h.1)
  initialiser_in (e ∷ ts) Unread h b = tt

  variable_in : (ts : List Token) (v : FieldVariable) → Each (StandsIn n) ts → IsVariable ts v
      → Each (IsIn n) (variable_places v)
  variable_in [] v h is = absurd is
  variable_in (t ∷ ts) v h is =
      (subst (IsIn n) (sym is.2) h.0, initialiser_in ts v.initialiser h.1 is.3)

  variables_in : (ps : List (List Token)) (vs : List FieldVariable) → Each (Each (StandsIn n)) ps →
      AllZip IsVariable ps vs
      → Each (IsIn n) (flat_map variable_places vs)
  variables_in [] [] h all = tt
  variables_in [] (v ∷ vs) h all = absurd all
  variables_in (p ∷ ps) [] h all = absurd all
  variables_in (p ∷ ps) (v ∷ vs) h all =
      each_append (IsIn n) (variable_places v) (flat_map variable_places vs) (variable_in p v h.0 all.0)
      (variables_in ps vs h.1 all.1)

  divisions_in : (ts : List Token) (vs : List FieldVariable) → Each (StandsIn n) ts → AreVariables ts vs
      → Each (IsIn n) (flat_map variable_places vs)
  divisions_in ts vs h (inl x) = variables_in x.0 vs (divided_each (StandsIn n) x.0 ts x.1.divided h) x.1.variables
  divisions_in ts vs h (inr x) =
      variables_in (between_commas (items_of ts)) vs
      (commas_each (StandsIn n) (items_of ts) (items_each (StandsIn n) ts h)) x.variables

  fields_in : (m : List Token) (f : FieldTree) → Each (StandsIn n) m → AreFields m f
      → Each (IsIn n) (flat_map variable_places f.variables)
  fields_in m f h are =
      let declaration = each_front (StandsIn n) are.declaration (are.last ∷ [])
      (subst (Each (StandsIn n)) are.parts h) in
      divisions_in are.declared.variables f.variables
      (each_behind (StandsIn n) are.declared.front are.declared.variables
      (subst (Each (StandsIn n)) are.declared.parts declaration))
      are.declared.divided

  -- ---- members

  with_form : (class : List ℕ) (m : List Token) (form : Form) (tree : Member) → Each (StandsIn n) m → NameIn form
      → HasForm class m form tree → Each (IsIn n) (member_places tree)
  with_form class m SkippedForm (member.Skipped place) h named is = (begins_in m place h is, tt)
  with_form class m SkippedForm (member.Method t) h named is = absurd is
  with_form class m SkippedForm (member.Outside o) h named is = absurd is
  with_form class m SkippedForm (member.Field f) h named is = absurd is
  with_form class m (MethodForm front name parentheses) (member.Method t) h named is =
      marks_in (method_marks t) (kept m) is.1 (kept_in m h)
  with_form class m (MethodForm front name parentheses) (member.Outside o) h named is =
      (subst (IsIn n) (sym is.1.placed) named, tt)
  with_form class m (MethodForm front name parentheses) (member.Field f) h named is = absurd is
  with_form class m (MethodForm front name parentheses) (member.Skipped place) h named is = absurd is
  with_form class m FieldForm (member.Field f) h named is = fields_in m f h is
  with_form class m FieldForm (member.Skipped place) h named is = (begins_in m place h is.1, tt)
  with_form class m FieldForm (member.Method t) h named is = absurd is
  with_form class m FieldForm (member.Outside o) h named is = absurd is

  pub member_in : (class : List ℕ) (m : List Token) (tree : Member) → Each (StandsIn n) m → IsMember class m tree
      → Each (IsIn n) (member_places tree)
  member_in class m tree h is = with_form class m (form_of m) tree h (form_in m h) is
