-- Every list of tokens is a unit or has a fault.
use Rattle.std.proofs.Common.{◌≡◌, ◌<◌, ◌⊎◌, inl, inr, List, [], ◌∷◌, Option, Some, None, map, length, refl, sym, ap}
use Rattle.std.proofs.Common.{◌∙◌, subst, arith}
use Rattle.std.specs.List.{AllZip}
use Rattle.racer_base.specs.declared.ids.Place.{Place}
use Rattle.java_lexer.specs.declared.token.Token.{Token}
use Rattle.java_tree.specs.declared.methods.AnnotationTree.{AnnotationTree}
use Rattle.java_tree.specs.Trees.{Annotation, Modifier}
use Rattle.java_tree.specs.View.{annotation_of}
use Rattle.java_tree.specs.declared.unit.Member.{Member}
use Rattle.java_tree.specs.declared.unit.ClassTree.{ClassTree}
use Rattle.java_tree.specs.declared.unit.ParseFault.TheVariants.{Unbalanced, TooDeep, NotAUnit}
use Rattle.java_parser_grammar.specs.Tokens.{first_place}
use Rattle.java_parser_grammar.specs.Cuts.{joined}
use Rattle.java_parser_grammar.specs.Brackets.{unbalanced, too_deep}
use Rattle.java_parser_grammar.specs.Pieces.{Item, items_of}
use Rattle.java_parser_grammar.specs.ClassHeads.{annotations_in, IsHead, HasNoHead}
use Rattle.java_parser_grammar.specs.Declarations.{types_among, AreDeclarations, IsMisfit}
use Rattle.java_parser_grammar.specs.Members.{members_of}
use Rattle.java_parser_grammar.specs.Units.{BeginsAt, IsMember, IsClass, AreTypes, body_among}
use Rattle.java_parser_grammar.proofs.Joined.{joined_items}
use Rattle.java_parser_grammar.proofs.Misfits.{cut_or_misfit}
use Rattle.java_parser_grammar.proofs.ReadHeads.{head_or_none}
use Rattle.java_parser_totality.specs.Totality.{most, IsUnitOrFault, IsTotalUnits}
use Rattle.java_parser_totality.proofs.Filling.{EachGood, types-good, members-good, body-short}
use Rattle.java_parser_totality.proofs.TotalMembers.{begins-at, any-members}

-- ---- classes

abbrev AClass : List Token → Type 0
AClass type = (c : ClassTree) × IsClass type c

body-few : (type : List Token) → length type < most → length (body_among (items_of type)) < most
body-few type few =
    let all : length (joined (items_of type)) ≡ length type = ap (λ (l : List Token). length l) (joined_items 0 type) in
    omega (arith, all, few, body-short (items_of type))

-- the tree of an annotation
abbrev tree-of : Annotation → AnnotationTree
tree-of n = record { names = n.names; arguments = n.arguments }

viewed-again : (ns : List Annotation) → map annotation_of (map tree-of ns) ≡ ns
viewed-again [] = refl
viewed-again (n ∷ ns) = ap (λ (l : List Annotation). n ∷ l) (viewed-again ns)

class-read : (type : List Token) → length type < most → (ms : List Modifier) (name : Token) → IsHead type ms name
    → AClass type
class-read type few ms name head =
    of (any-members name.text (members_of (body_among (items_of type)))
    (members-good most (body_among (items_of type)) (body-few type few))) where
      of : (xs : List Member) × AllZip (IsMember name.text) (members_of (body_among (items_of type))) xs
          → AClass type
      of xs = (
        record {
          name = name.text;
          place = name.place;
          annotations = map tree-of (annotations_in ms);
          members = xs.0;
        },
        record {
          modifiers = ms;
          name = name;
          head = head;
          named = refl;
          placed = refl;
          annotated = viewed-again (annotations_in ms);
          members = xs.1;
        },
      )

abbrev SomeTypes : List (List Token) → Type 0
SomeTypes types = (cs : List ClassTree) × (ps : List Place) × AreTypes types cs ps

any-types : (types : List (List Token)) → EachGood most types → SomeTypes types
any-types [] good = ([], [], tt)
any-types (type ∷ types) good = by (head_or_none type) (any-types types good.1) where
  read : AClass type → SomeTypes types → SomeTypes (type ∷ types)
  read c all = (c.0 ∷ all.0, all.1, inl (c.1, all.2))

  skipped : HasNoHead type → (p : Place) × BeginsAt type p → SomeTypes types → SomeTypes (type ∷ types)
  skipped none p all = (all.0, p.0 ∷ all.1, inr (none, p.1, all.2))

  by : ((ms : List Modifier) × (name : Token) × IsHead type ms name) ⊎ HasNoHead type → SomeTypes types
      → SomeTypes (type ∷ types)
  by (inl h) all = read (class-read type good.0.1 h.0 h.1 h.2) all
  by (inr none) all = skipped none (begins-at type good.0.0) all

-- ---- files

module _ (ts : List Token) (end : Place) (few : length ts < most) where
  abbrev Answer : Type 0
  Answer = IsUnitOrFault ts end

  unit-of : unbalanced [] ts ≡ None → too_deep 0 ts ≡ None → (ds : List (List Item))
      → AreDeclarations (items_of ts) ds → Answer
  unit-of balanced flat ds fit = of (any-types (types_among ds) good) where
    whole : joined (joined ds) ≡ ts
    whole = ap joined fit.together ∙ joined_items 0 ts

    good : EachGood most (types_among ds)
    good = types-good most ds (subst (λ (l : List Token). length l < most) (sym whole) few)

    of : SomeTypes (types_among ds) → Answer
    of all =
        inl (
          record { classes = all.0; skipped = all.1 },
          record { balanced = balanced; flat = flat; all = ds; fit = fit; types = all.2 },
        )

  by-declarations : unbalanced [] ts ≡ None → too_deep 0 ts ≡ None
      → ((ds : List (List Item)) × AreDeclarations (items_of ts) ds)
      ⊎ ((rest : List Item) × IsMisfit (items_of ts) rest) → Answer
  by-declarations balanced flat (inl d) = unit-of balanced flat d.0 d.1
  by-declarations balanced flat (inr d) =
      inr (NotAUnit (first_place end (joined d.0)), tt, (balanced, flat, d.0, d.1, refl))

  by-depth : unbalanced [] ts ≡ None → (o : Option Place) → too_deep 0 ts ≡ o → Answer
  by-depth balanced (Some place) e = inr (TooDeep place, tt, (balanced, e))
  by-depth balanced None e = by-declarations balanced e (cut_or_misfit (items_of ts))

  by-balance : (o : Option Place) → unbalanced [] ts ≡ o → Answer
  by-balance (Some place) e = inr (Unbalanced place, tt, e)
  by-balance None e = by-depth e (too_deep 0 ts) refl

pub total : IsTotalUnits
total ts end few = by-balance ts end few (unbalanced [] ts) refl
