-- Parts of rows, without statements inside, are made of the tokens of formed ones.
use Rattle.std.proofs.Common.{◌≡◌, ℕ, Bool, true, false, List, [], ◌∷◌, Option, Some, None, map}
use Rattle.std.proofs.Common.{refl, ap, arith, codes}
use Rattle.std.specs.Prelude.{option_map}
use Rattle.java_lexer.specs.declared.token.TokenKind.TheVariants as kind
use Rattle.java_tree.specs.declared.words.Spelled.{Spelled}
use Rattle.java_tree.specs.declared.words.Ident.{Ident}
use Rattle.java_tree.specs.declared.expressions.Expression.{Expression}
use Rattle.java_tree.specs.declared.statements.ResourceTree.{ResourceTree}
use Rattle.java_tree.specs.declared.statements.ResourcesTree.{ResourcesTree}
use Rattle.java_tree.specs.declared.statements.CatchParameterTree.{CatchParameterTree}
use Rattle.java_tree.specs.declared.statements.LabelTree.{LabelTree}
use Rattle.java_tree.specs.declared.statements.LabelTree.TheVariants as label
use Rattle.java_tree.specs.Words.{keyword}
use Rattle.java_tree.specs.KeptPlaces.{AreAt, is_kept, each_puts, maybe_puts, name_places, expr_places}
use Rattle.java_tree.specs.KeptPlaces.{resource_places, resources_places, catch_parameter_places, label_places}
use Rattle.java_tree.specs.Trees.{Ty, Expr, Modifier, Resource, Resources, CatchParameter, Label, Case, Default}
use Rattle.java_tree.specs.Spelling.{between_sign, resource_onto, more_resources_onto, resource_list_onto}
use Rattle.java_tree.specs.Spelling.{last_semicolon_onto, maybe_resources_onto, catch_parameter_onto, label_onto}
use Rattle.java_tree.specs.Spelling.{labels_onto, maybe_name_onto, maybe_behind_onto}
use Rattle.java_tree.specs.FormedModifiers.{Each}
use Rattle.java_tree.specs.Formed.{FormedTy, FormedMaybeExpr, FormedThrown, FormedResource, FormedMaybeResources}
use Rattle.java_tree.specs.Formed.{FormedCatchParameter, FormedLabel}
use Rattle.java_tree.specs.View.{name_of, expr_of, resource_of, resources_of, catch_parameter_of, label_of}
use Rattle.java_parser_totality.proofs.Parts.{Makes, Maker, maker, nothing, nothing-made, and, as-made, placed}
use Rattle.java_parser_totality.proofs.Parts.{placed-made}
use Rattle.java_parser_totality.proofs.MadeMarks.{by2, Marked-Part, mark, marks, a_sign, a_keyword, a_name, a_type}
use Rattle.java_parser_totality.proofs.MadeMarks.{modifiers_part, modifiers-made, types_part, between-made}
use Rattle.java_parser_totality.proofs.MadeRows.{PlaceIf, place_if}
use Rattle.java_parser_totality.proofs.MadeStatementParts.{an_expr_of}
use Rattle.racer_base.proofs.Lists.{same_3, same_4}

-- ---- words

-- a keyword, with its place where it is kept
abbrev pub word_part : (b : Bool) → List ℕ → Marked-Part
word_part b text =
    record {
      X = PlaceIf b;
      ok = λ _. Unit {0};
      put = place_if b;
      size = λ _. 1;
      onto = λ rest. keyword text ∷ rest;
    }

pub word-made : (b : Bool) (text : List ℕ) → is_kept kind.Keyword text ≡ b → Makes AreAt (word_part b text)
word-made true text e =
    as-made AreAt (maker AreAt (placed AreAt mark marks (keyword text)) (placed-made AreAt mark marks
    (keyword text) e)) (word_part true text) (λ p. p)
    (record { ok = λ p s h. tt; put = λ p s ps. refl; size = λ p. omega arith; onto = λ rest. refl })
word-made false text e =
    as-made AreAt (a_keyword text e) (word_part false text) (λ p. tt)
    (record { ok = λ p s h. tt; put = λ p s ps. refl; size = λ p. omega arith; onto = λ rest. refl })

abbrev pub maybe_name_part : Option (List ℕ) → Marked-Part
maybe_name_part o =
    record {
      X = Option Ident;
      ok = λ x. option_map name_of x ≡ o;
      put = λ x. maybe_puts (option_map name_places x);
      size = λ _. 0;
      onto = maybe_name_onto o;
    }

pub maybe-name-made : (o : Option (List ℕ)) → Makes AreAt (maybe_name_part o)
maybe-name-made None =
    as-made AreAt (maker AreAt (nothing AreAt) (nothing-made AreAt)) (maybe_name_part None) (λ x. None)
    (record { ok = λ x s h. refl; put = λ x s ps. refl; size = λ x. omega arith; onto = λ rest. refl })
maybe-name-made (Some x) =
    as-made AreAt (a_name x) (maybe_name_part (Some x)) Some
    (record { ok = λ x s h. ap Some h; put = λ x s ps. refl; size = λ x. omega arith; onto = λ rest. refl })

abbrev pub behind_part : (text : List ℕ) → Option Expr → Marked-Part
behind_part text o =
    record {
      X = Option Expression;
      ok = λ x. option_map expr_of x ≡ o;
      put = λ x. maybe_puts (option_map expr_places x);
      size = λ _. 0;
      onto = maybe_behind_onto text o;
    }

pub behind-made : (text : List ℕ) (o : Option Expr) → FormedMaybeExpr o → Makes AreAt (behind_part text o)
behind-made text None f =
    as-made AreAt (maker AreAt (nothing AreAt) (nothing-made AreAt)) (behind_part text None) (λ x. None)
    (record { ok = λ x s h. refl; put = λ x s ps. refl; size = λ x. omega arith; onto = λ rest. refl })
behind-made text (Some e) f =
    as-made AreAt (and AreAt (a_sign text) (an_expr_of e f)) (behind_part text (Some e)) (λ x. Some x.1)
    (record { ok = λ x s h. ap Some h.1; put = λ x s ps. refl; size = λ x. omega arith; onto = λ rest. refl })

-- ---- resources

abbrev resource_part : Resource → Marked-Part
resource_part r =
    record {
      X = ResourceTree;
      ok = λ x. resource_of x ≡ r;
      put = resource_places;
      size = λ _. 0;
      onto = resource_onto r;
    }

resource-made : (r : Resource) → FormedResource r → Makes AreAt (resource_part r)
resource-made r f =
    as-made AreAt (and AreAt (maker AreAt (modifiers_part r.modifiers) (modifiers-made r.modifiers)) (and AreAt
    (a_type r.kind f.1) (and AreAt (a_name r.name) (and AreAt (a_sign (codes "=")) (an_expr_of r.value f.2)))))
    (resource_part r) (λ x. record { modifiers = x.0; kind = x.1.0; name = x.1.1.0; value = x.1.1.1.1 }) (record {
      ok = λ x s h. same_4 (λ (ms : List Modifier) (t : Ty) (y : List ℕ) (e : Expr). record {
        modifiers = ms;
        kind = t;
        name = y;
        value = e;
      }) h.0 h.1.0 h.1.1.0 h.1.1.1.1;
      put = λ x s ps. refl;
      size = λ x. omega arith;
      onto = λ rest. refl;
    })

abbrev resources_part : (List Resource → List Spelled → List Spelled) → List Resource → Marked-Part
resources_part onto rs =
    record {
      X = List ResourceTree;
      ok = λ xs. map resource_of xs ≡ rs;
      put = λ xs. each_puts (map resource_places xs);
      size = λ xs. 0;
      onto = onto rs;
    }

more-resources-made : (rs : List Resource) → Each FormedResource rs
    → Makes AreAt (resources_part more_resources_onto rs)
more-resources-made [] f =
    as-made AreAt (maker AreAt (nothing AreAt) (nothing-made AreAt)) (resources_part more_resources_onto []) (λ x. [])
    (record { ok = λ x s h. refl; put = λ x s ps. refl; size = λ x. omega arith; onto = λ rest. refl })
more-resources-made (r ∷ rs) f =
    as-made AreAt (and AreAt (a_sign (codes ";")) (and AreAt (maker AreAt (resource_part r) (resource-made r f.0))
    (maker AreAt (resources_part more_resources_onto rs) (more-resources-made rs f.1))))
    (resources_part more_resources_onto (r ∷ rs)) (λ x. x.1.0 ∷ x.1.1) (record {
      ok = λ x s h. by2 (λ (y : Resource) (ys : List Resource). y ∷ ys) h.1.0 h.1.1;
      put = λ x s ps. refl;
      size = λ x. omega arith;
      onto = λ rest. refl;
    })

resource-list-made : (rs : List Resource) → Each FormedResource rs → Makes AreAt (resources_part resource_list_onto rs)
resource-list-made [] f =
    as-made AreAt (maker AreAt (nothing AreAt) (nothing-made AreAt)) (resources_part resource_list_onto []) (λ x. [])
    (record { ok = λ x s h. refl; put = λ x s ps. refl; size = λ x. omega arith; onto = λ rest. refl })
resource-list-made (r ∷ rs) f =
    as-made AreAt (and AreAt (maker AreAt (resource_part r) (resource-made r f.0)) (maker AreAt (resources_part
    more_resources_onto rs) (more-resources-made rs f.1))) (resources_part resource_list_onto (r ∷ rs))
    (λ x. x.0 ∷ x.1) (record {
      ok = λ x s h. by2 (λ (y : Resource) (ys : List Resource). y ∷ ys) h.0 h.1;
      put = λ x s ps. refl;
      size = λ x. omega arith;
      onto = λ rest. refl;
    })

abbrev semicolon_part : Bool → Marked-Part
semicolon_part last =
    record { X = Unit {0}; ok = λ _. Unit {0}; put = λ _ ps. ps; size = λ _. 0; onto = last_semicolon_onto last }

semicolon-made : (last : Bool) → Makes AreAt (semicolon_part last)
semicolon-made true =
    as-made AreAt (a_sign (codes ";")) (semicolon_part true) (λ x. tt)
    (record { ok = λ x s h. tt; put = λ x s ps. refl; size = λ x. omega arith; onto = λ rest. refl })
semicolon-made false =
    as-made AreAt (maker AreAt (nothing AreAt) (nothing-made AreAt)) (semicolon_part false) (λ x. tt)
    (record { ok = λ x s h. tt; put = λ x s ps. refl; size = λ x. omega arith; onto = λ rest. refl })

abbrev pub maybe_resources_part : Option Resources → Marked-Part
maybe_resources_part o =
    record {
      X = Option ResourcesTree;
      ok = λ x. option_map resources_of x ≡ o;
      put = λ x. maybe_puts (option_map resources_places x);
      size = λ _. 0;
      onto = maybe_resources_onto o;
    }

pub maybe-resources-made : (o : Option Resources) → FormedMaybeResources o → Makes AreAt (maybe_resources_part o)
maybe-resources-made None f =
    as-made AreAt (maker AreAt (nothing AreAt) (nothing-made AreAt)) (maybe_resources_part None) (λ x. None)
    (record { ok = λ x s h. refl; put = λ x s ps. refl; size = λ x. omega arith; onto = λ rest. refl })
maybe-resources-made (Some rs) f =
    as-made AreAt (and AreAt (a_sign (codes "(")) (and AreAt (maker AreAt (resources_part resource_list_onto rs.items)
    (resource-list-made rs.items f.1)) (and AreAt (maker AreAt (semicolon_part rs.last) (semicolon-made rs.last))
    (a_sign
    (codes ")"))))) (maybe_resources_part (Some rs))
    (λ x. Some (record { items = x.1.0; last_semicolon = rs.last })) (record {
      ok = λ x s h. ap (λ (l : List Resource). Some (record { items = l; last = rs.last })) h.1.0;
      put = λ x s ps. refl;
      size = λ x. omega arith;
      onto = λ rest. refl;
    })

-- ---- the parameter of a `catch`

each-typed : (ts : List Ty) → Each FormedThrown ts → Each FormedTy ts
each-typed [] f = tt
each-typed (t ∷ ts) f = (f.0.0, each-typed ts f.1)

abbrev pub parameter_part : CatchParameter → Marked-Part
parameter_part c =
    record {
      X = CatchParameterTree;
      ok = λ x. catch_parameter_of x ≡ c;
      put = catch_parameter_places;
      size = λ _. 0;
      onto = catch_parameter_onto c;
    }

pub parameter-made : (c : CatchParameter) → FormedCatchParameter c → Makes AreAt (parameter_part c)
parameter-made c f =
    as-made AreAt (and AreAt (a_sign (codes "(")) (and AreAt (maker AreAt (modifiers_part c.modifiers)
    (modifiers-made c.modifiers)) (and AreAt (maker AreAt (types_part (between_sign (codes "|")) c.types)
    (between-made (codes "|") c.types (each-typed c.types f.2))) (and AreAt (a_name c.name) (a_sign (codes ")"))))))
    (parameter_part c) (λ x. record { modifiers = x.1.0; types = x.1.1.0; name = x.1.1.1.0 }) (record {
      ok = λ x s h. same_3 (λ (ms : List Modifier) (ts : List Ty) (y : List ℕ). record {
        modifiers = ms;
        types = ts;
        name = y;
      }) h.1.0 h.1.1.0 h.1.1.1.0;
      put = λ x s ps. refl;
      size = λ x. omega arith;
      onto = λ rest. refl;
    })

-- ---- labels

abbrev pub label_part : Label → Marked-Part
label_part l =
    record { X = LabelTree; ok = λ x. label_of x ≡ l; put = label_places; size = λ _. 1; onto = label_onto l }

pub label-made : (l : Label) → FormedLabel l → Makes AreAt (label_part l)
label-made (Case e) f =
    as-made AreAt (and AreAt (a_keyword (codes "case") refl) (and AreAt (an_expr_of e f.0) (a_sign (codes ":"))))
    (label_part (Case e)) (λ x. label.Case x.1.0)
    (record { ok = λ x s h. ap Case h.1.0; put = λ x s ps. refl; size = λ x. omega arith; onto = λ rest. refl })
label-made Default f =
    as-made AreAt (and AreAt (a_keyword (codes "default") refl) (a_sign (codes ":"))) (label_part Default)
    (λ x. label.Default)
    (record { ok = λ x s h. refl; put = λ x s ps. refl; size = λ x. omega arith; onto = λ rest. refl })

abbrev pub a_label : (l : Label) → FormedLabel l → Maker AreAt
a_label l f = maker AreAt (label_part l) (label-made l f)

abbrev pub labels_part : List Label → Marked-Part
labels_part ls =
    record {
      X = List LabelTree;
      ok = λ xs. map label_of xs ≡ ls;
      put = λ xs. each_puts (map label_places xs);
      size = λ xs. 0;
      onto = labels_onto ls;
    }

pub labels-made : (ls : List Label) → Each FormedLabel ls → Makes AreAt (labels_part ls)
labels-made [] f =
    as-made AreAt (maker AreAt (nothing AreAt) (nothing-made AreAt)) (labels_part []) (λ x. [])
    (record { ok = λ x s h. refl; put = λ x s ps. refl; size = λ x. omega arith; onto = λ rest. refl })
labels-made (l ∷ ls) f =
    as-made AreAt (and AreAt (maker AreAt (label_part l) (label-made l f.0)) (maker AreAt (labels_part ls)
    (labels-made ls f.1))) (labels_part (l ∷ ls)) (λ x. x.0 ∷ x.1) (record {
      ok = λ x s h. by2 (λ (y : Label) (ys : List Label). y ∷ ys) h.0 h.1;
      put = λ x s ps. refl;
      size = λ x. omega arith;
      onto = λ rest. refl;
    })
