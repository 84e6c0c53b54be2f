-- The places that a unit keeps are those of its tokens.
use Rattle.std.proofs.Common.{◌≡◌, ℕ, suc, ◌+◌, ◌<◌, ◌≤◌, true, false, ◌&&◌, inl, inr, List, [], ◌∷◌, ◌++◌}
use Rattle.std.proofs.Common.{length, refl, sym, ap, subst, ◌∙◌, arith}
use Rattle.std.specs.Prelude.{nat_lt}
use Rattle.std.proofs.lemmas.Bool.{lt-ltb, and_from}
use Rattle.std.specs.List.{AllZip, flat_map, list_all}
use Rattle.racer_base.specs.declared.ids.Place.{Place}
use Rattle.java_lexer.specs.declared.token.Token.{Token}
use Rattle.java_tree.specs.FormedModifiers.{Each}
use Rattle.java_tree.specs.declared.unit.ClassTree.{ClassTree}
use Rattle.java_tree.specs.declared.unit.Member.{Member}
use Rattle.java_tree.specs.declared.unit.Unit as unit
use Rattle.java_parser_grammar.specs.Pieces.{items_of}
use Rattle.java_parser_grammar.specs.Declarations.{types_among}
use Rattle.java_parser_grammar.specs.Members.{members_of}
use Rattle.java_parser_grammar.specs.Units.{IsClass, AreTypes, IsMember, body_among}
use Rattle.core_lowering_rules.specs.Conditions.{member_places, class_places, unit_places, is_in_files, are_in_files}
use Rattle.core_lowering_conditions.specs.FromTokens.{IsFromTokens, AreFromTokens}
use Rattle.core_lowering_conditions.proofs.Parts.{each_append}
use Rattle.core_lowering_conditions.proofs.EachToken.{items_each, name_each, body_each, members_each}
use Rattle.core_lowering_conditions.proofs.EachToken.{types_each}
use Rattle.core_lowering_conditions.proofs.TokenPlaces.{IsIn, StandsIn, tokens_in}
use Rattle.core_lowering_conditions.proofs.MemberPlaces.{begins_in, member_in}

module _ (n : ℕ) where
  -- ---- members

  members_in : (class : List ℕ) (ms : List (List Token)) (trees : List Member) → Each (Each (StandsIn n)) ms
      → AllZip (IsMember class) ms trees → Each (IsIn n) (flat_map member_places trees)
  members_in class [] [] h all = tt
  members_in class [] (t ∷ ts) h all = absurd all
  members_in class (m ∷ ms) [] h all = absurd all
  members_in class (m ∷ ms) (t ∷ ts) h all =
      each_append (IsIn n) (member_places t) (flat_map member_places ts) (member_in n class m t h.0 all.0)
      (members_in class ms ts h.1 all.1)

  class_in : (type : List Token) (c : ClassTree) → Each (StandsIn n) type → IsClass type c
      → Each (IsIn n) (class_places c)
  class_in type c h is =
      let P = StandsIn n in
      let name : P is.name = name_each P type is.modifiers is.name h is.head in
      let body = body_among (items_of type) in (
        subst (IsIn n) (sym is.placed) name,
        members_in c.name (members_of body) c.members
            (members_each P body (body_each P (items_of type) (items_each P type h))) is.members,
      )

  -- ---- units

  classes_in : (types : List (List Token)) (cs : List ClassTree) (ps : List Place) → Each (Each (StandsIn n)) types
      → AreTypes types cs ps → Each (IsIn n) (flat_map class_places cs)
  classes_in [] [] [] h all = tt
  classes_in [] [] (p ∷ ps) h all = absurd all
  classes_in [] (c ∷ cs) ps h all = absurd all
  classes_in (t ∷ ts) [] ps h (inl k) = absurd k
  classes_in (t ∷ ts) (c ∷ cs) ps h (inl k) =
      each_append (IsIn n) (class_places c) (flat_map class_places cs) (class_in t c h.0 k.0)
      (classes_in ts cs ps h.1 k.1)
  classes_in (t ∷ ts) cs [] h (inr k) = absurd k
  classes_in (t ∷ ts) cs (p ∷ ps) h (inr k) = classes_in ts cs ps h.1 k.2

  skipped_in : (types : List (List Token)) (cs : List ClassTree) (ps : List Place) → Each (Each (StandsIn n)) types
      → AreTypes types cs ps → Each (IsIn n) ps
  skipped_in [] [] [] h all = tt
  skipped_in [] [] (p ∷ ps) h all = absurd all
  skipped_in [] (c ∷ cs) ps h all = absurd all
  skipped_in (t ∷ ts) [] ps h (inl k) = absurd k
  skipped_in (t ∷ ts) (c ∷ cs) ps h (inl k) = skipped_in ts cs ps h.1 k.1
  skipped_in (t ∷ ts) cs [] h (inr k) = absurd k
  skipped_in (t ∷ ts) cs (p ∷ ps) h (inr k) = (begins_in n t p h.0 k.1, skipped_in ts cs ps h.1 k.2)

  unit_in : (u : unit.Unit) → IsFromTokens n u → Each (IsIn n) (unit_places u)
  unit_in u is =
      let types = types_among is.unit.all in
      let each = types_each (StandsIn n) is.lexed.tokens is.unit.all (tokens_in n is.bytes is.lexed is.tokens)
      is.unit.fit in
      each_append (IsIn n) u.skipped (flat_map class_places u.classes)
      (skipped_in types u.classes u.skipped each is.unit.types)
      (classes_in types u.classes u.skipped each is.unit.types)

-- ---- files

module _ (files : List (List ℕ)) where
  placed_append : (ps qs : List Place) → list_all (is_in_files files) ps ≡ true → list_all (is_in_files files) qs ≡ true
      → list_all (is_in_files files) (ps ++ qs) ≡ true
  placed_append [] qs h k = k
  placed_append (p ∷ ps) qs h k =
      elim (is_in_files files p) as (λ b. (b && list_all (is_in_files files) ps) ≡ true →
      (b && list_all (is_in_files files) (ps ++ qs)) ≡ true) [
        | true ↦ λ e. placed_append ps qs e k
        | false ↦ λ e. e
      ] h

  in_files : (n : ℕ) → n < length files → (ps : List Place) → Each (IsIn n) ps → list_all (is_in_files files) ps ≡ true
  in_files n lt [] h = refl
  in_files n lt (p ∷ ps) h =
      and_from (is_in_files files p) (list_all (is_in_files files) ps)
      (ap (λ m. nat_lt m (length files)) h.0 ∙ lt-ltb n (length files) lt) (in_files n lt ps h.1)

  units_in : (n : ℕ) (units : List unit.Unit) → AreFromTokens n units → n + length units ≤ length files
      → list_all (is_in_files files) (flat_map unit_places units) ≡ true
  units_in n [] are le = refl
  units_in n (u ∷ us) are le =
      placed_append (unit_places u) (flat_map unit_places us)
      (in_files n (omega arith) (unit_places u) (unit_in n u are.0))
      (units_in (suc n) us are.1 (omega arith))

pub read_units_are_placed : (files : List (List ℕ)) (units : List unit.Unit) → AreFromTokens 0 units
    → length units ≤ length files → are_in_files files units ≡ true
read_units_are_placed files units are le = units_in files 0 units are (omega (arith, le))
