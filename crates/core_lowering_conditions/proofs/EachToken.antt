-- What holds of each token of a file holds of each token of its types, its members and its fields.
use Rattle.std.proofs.Common.{true, false, cond, not, List, [], ◌∷◌, map, filter, length}
use Rattle.std.proofs.Common.{codes, subst, ◌-◌}
use Rattle.java_lexer.specs.declared.token.Token.{Token}
use Rattle.java_tree.specs.FormedModifiers.{Each}
use Rattle.java_tree.specs.Trees.{Modifier}
use Rattle.java_parser_grammar.specs.Tokens.{begins_sign}
use Rattle.java_parser_grammar.specs.Cuts.{joined}
use Rattle.java_parser_grammar.specs.Pieces.{Item, items_of, inside}
use Rattle.java_parser_grammar.specs.ClassHeads.{IsHead}
use Rattle.java_parser_grammar.specs.Declarations.{is_type, types_among, AreDeclarations}
use Rattle.java_parser_grammar.specs.Members.{cut_members, is_lone, members_of}
use Rattle.java_parser_grammar.specs.FieldDivisions.{IsDivided, between_commas, before_first}
use Rattle.java_parser_grammar.specs.Units.{body_among}
use Rattle.java_parser_grammar.proofs.Joined.{joined_items}
use Rattle.java_parser_grammar.proofs.OneCut.{joined_cut}
use Rattle.core_lowering_conditions.proofs.Parts.{each_front, each_behind, each_append, each_take, each_filter}
use Rattle.core_lowering_conditions.proofs.Parts.{each_cut}
use Rattle.core_lowering_conditions.proofs.Parts.{each_map_joined}

module _ (P : Token → Type 0) where
  pub items_each : (ts : List Token) → Each P ts → Each (Each P) (items_of ts)
  items_each ts h = each_cut P (items_of ts) ts (joined_items 0 ts) h

  -- ---- the name of a class

  pub name_each : (type : List Token) (ms : List Modifier) (name : Token) → Each P type → IsHead type ms name → P name
  name_each type ms name h head =
      let behind = head.word ∷ name ∷ head.next ∷ head.rest in
      (each_behind P head.front behind (subst (Each P) head.parts h)).1.0

  -- ---- members

  inside_each : (ts : List Token) → Each P ts → Each P (inside ts)
  inside_each [] h = tt
  inside_each (t ∷ ts) h = each_take P (length ts - 1) ts h.1

  pub body_each : (is : List Item) → Each (Each P) is → Each P (body_among is)
  body_each [] h = tt
  body_each (i ∷ []) h = inside_each i h.0
  body_each (i ∷ j ∷ is) h = body_each (j ∷ is) h.1

  pub members_each : (body : List Token) → Each P body → Each (Each P) (members_of body)
  members_each body h =
      let items = items_of body in
      let cut = each_cut (Each P) (cut_members false items) items (joined_cut false items) (items_each body h) in
      each_filter (Each P) (λ m. not (is_lone m)) (map joined (cut_members false items))
      (each_map_joined P (cut_members false items) cut)

  -- ---- the types of a file

  pub types_each : (ts : List Token) (all : List (List Item)) → Each P ts → AreDeclarations (items_of ts) all
      → Each (Each P) (types_among all)
  types_each ts all h e =
      each_map_joined P (filter is_type all)
      (each_filter (Each (Each P)) is_type all (each_cut (Each P) all (items_of ts) e.together (items_each ts h)))

  -- ---- variables of fields

  pub divided_each : (pieces : List (List Token)) (ts : List Token) → IsDivided pieces ts → Each P ts
      → Each (Each P) pieces
  divided_each [] ts d h = tt
  divided_each (p ∷ []) ts d h = (subst (Each P) d h, tt)
  divided_each (p ∷ q ∷ ps) ts d h =
      let all = subst (Each P) d.2 h in
      let behind = each_behind P p (d.0 ∷ d.1) all in
      (each_front P p (d.0 ∷ d.1) all, divided_each (q ∷ ps) d.1 d.4 behind.1)

  first_each : (i : Item) (ps : List (List Token)) → Each P i → Each (Each P) ps → Each (Each P) (before_first i ps)
  first_each i [] h all = (h, tt)
  first_each i (p ∷ ps) h all = (each_append P i p h all.0, all.1)

  pub commas_each : (is : List Item) → Each (Each P) is → Each (Each P) (between_commas is)
  commas_each [] h = (tt, tt)
  commas_each (i ∷ is) h =
      let others = between_commas is in
      elim (begins_sign (codes ",") i) as (λ b. Each (Each P) (cond b ([] ∷ others) (before_first i others))) [
        | true ↦ (tt, commas_each is h.1)
        | false ↦ first_each i others h.0 (commas_each is h.1)
      ]
