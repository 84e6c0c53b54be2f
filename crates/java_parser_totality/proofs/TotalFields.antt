-- Whether tokens are fields can be decided, and those that are have a tree in the code.
use Rattle.std.proofs.Common.{◌≡◌, ℕ, zero, suc, ◌+◌, ◌<◌, ◌≤◌, Bool, true, false, cond, IsTrue, ◌⊎◌, inl, inr}
use Rattle.std.proofs.Common.{⊎_elim, List, []}
use Rattle.std.proofs.Common.{◌∷◌, ◌++◌, map, length, length-append, refl, sym, ap, ◌∙◌, subst, arith, codes}
use Rattle.std.specs.List.{AllZip}
use Rattle.java_lexer.specs.declared.token.Token.{Token}
use Rattle.java_tree.specs.declared.words.Spelled.{Spelled}
use Rattle.java_tree.specs.declared.expressions.Initialiser.{Initialiser}
use Rattle.java_tree.specs.declared.methods.FieldTree.{FieldTree}
use Rattle.java_tree.specs.declared.methods.FieldVariable.{FieldVariable}
use Rattle.java_tree.specs.declared.methods.FieldInitialiser.{FieldInitialiser}
use Rattle.java_tree.specs.declared.methods.FieldInitialiser.TheVariants.{Absent, Formed, Unread}
use Rattle.java_tree.specs.declared.methods.ModifierTree.{ModifierTree}
use Rattle.java_tree.specs.declared.methods.ModifierTree.TheVariants as modifier
use Rattle.java_tree.specs.Trees.{Ty, Init, Modifier, Word, Annotated}
use Rattle.java_tree.specs.Spelling.{ty_onto, modifiers_onto}
use Rattle.java_tree.specs.FormedModifiers.{Each, has_some}
use Rattle.java_tree.specs.Formed.{FormedTy}
use Rattle.java_tree.specs.KeptPlaces.{kept, ty_places, init_places, AreAt}
use Rattle.java_tree.specs.View.{ty_of, init_of, modifier_of}
use Rattle.racer_base.specs.declared.limits.TheConstants.{MAX_NESTING}
use Rattle.java_tree.specs.Nesting.{ty_nesting}
use Rattle.java_parser_grammar.specs.Tokens.{plain_all, is_sign_token, is_name, begins_sign}
use Rattle.java_parser_grammar.specs.Cuts.{joined}
use Rattle.java_parser_grammar.specs.Pieces.{Item, items_of}
use Rattle.java_parser_grammar.specs.FieldDivisions.{IsInit, BeginsWith, IsVariable, IsRead, IsDivided, AreRead}
use Rattle.java_parser_grammar.specs.FieldDivisions.{before_first}
use Rattle.java_parser_grammar.specs.FieldDivisions.{between_commas, AreVariables, is_field_modifier}
use Rattle.java_parser_grammar.specs.FieldDivisions.{FormedFieldModifier, AreDeclared, AreFields}
use Rattle.java_parser_grammar.proofs.Appended.{modifiers_append}
use Rattle.java_parser_grammar.proofs.Joined.{joined_items}
use Rattle.java_parser_grammar.proofs.OneDivision.{plain_append}
use Rattle.java_parser_totality.specs.Totality.{most}
use Rattle.java_parser_totality.proofs.Parts.{Made, no_tokens}
use Rattle.java_parser_totality.proofs.MadeExpressions.{init_part, init-made}
use Rattle.java_parser_totality.proofs.Deciding.{Decided, decided-as, decided-both, decided-either, decided-true, Split}
use Rattle.java_parser_totality.proofs.Deciding.{decided-split}
use Rattle.java_parser_totality.proofs.DecidingTrees.{Modifiers, decided-modifiers, IsType, decided-type, IsInitOf}
use Rattle.java_parser_totality.proofs.DecidingTrees.{decided-init}
use Rattle.java_parser_totality.proofs.Splits.{InTwo, in-two, back-within, front-within}
use Rattle.java_parser_totality.proofs.TotalHeads.{TypeTreeOf, type-tree, last-places}

-- ---- what a variable begins with

pub record InitTreeOf (ts : List Token) : Type 0 where
  pub tree : Initialiser
  pub is : IsInit ts (init_of tree)
  pub places : AreAt (init_places tree []) (kept ts)

init-tree : (ts : List Token) (i : Init) → length ts < most → IsInitOf (plain_all ts) i → InitTreeOf ts
init-tree ts i few is = of (init-made i is.formed ts [] few (sym is.spelled)) where
  of : Made AreAt (init_part i) ts [] → InitTreeOf ts
  of m =
      let init : IsInit ts i = record { formed = is.formed; nested = is.nested; spelled = is.spelled } in
      record {
        tree = m.tree;
        is = subst (IsInit ts) (sym m.is) init;
        places = m.fits [] (subst (AreAt []) (sym (ap kept (no_tokens m.behind m.spelled))) tt);
      }

of-init : (ts : List Token) (i : Init) → IsInit ts i → IsInitOf (plain_all ts) i
of-init ts i is = record { formed = is.formed; nested = is.nested; spelled = is.spelled }

pub decided-tree : (ts : List Token) → length ts < most → Decided ((i : Init) × IsInitOf (plain_all ts) i)
decided-tree ts few = decided-init (plain_all ts)

abbrev Begins : List Token → Type 0
Begins ts = (i : FieldInitialiser) × BeginsWith ts i

abbrev ReadBegins : List Token → Type 0
ReadBegins ts = (i : FieldInitialiser) × BeginsWith ts i × (i ≡ Unread → ⊥)

abbrev is_unread : FieldInitialiser → Bool
is_unread Unread = true
is_unread _ = false

read-begun : (e : Token) (ts : List Token) → IsTrue (is_sign_token (codes "=") e) → InitTreeOf ts → ReadBegins (e ∷ ts)
read-begun e ts is k =
    (Formed k.tree, (is, k.is, k.places), λ un. let wrong : false ≡ true = ap is_unread un in cc)

of-read-begun : (e : Token) (ts : List Token) (i : FieldInitialiser) → BeginsWith (e ∷ ts) i → (i ≡ Unread → ⊥)
    → IsTrue (is_sign_token (codes "=") e) × ((j : Init) × IsInitOf (plain_all ts) j)
of-read-begun e ts Absent h read = absurd h
of-read-begun e ts (Formed i) h read = (h.0, (init_of i, of-init ts (init_of i) h.1))
of-read-begun e ts Unread h read = absurd (read refl)

decided-read-begins : (ts : List Token) → length ts < most → Decided (ReadBegins ts)
decided-read-begins [] few = inl (Absent, tt, λ un. let wrong : false ≡ true = ap is_unread un in cc)
decided-read-begins (e ∷ ts) few =
    let fewer : length ts < most = omega (arith, few) in
    decided-as (λ h. read-begun e ts h.0 (init-tree ts h.1.0 fewer h.1.1)) (λ b. of-read-begun e ts b.0 b.1 b.2)
    (decided-both (decided-true (is_sign_token (codes "=") e)) (decided-tree ts fewer))

-- begun with what has no tree
abbrev Treeless : Token → List Token → Type 0
Treeless e ts =
    IsTrue (is_sign_token (codes "=") e) × IsTrue (has_some ts) × ((i : Init) → IsInit ts i → ⊥)

decided-treeless : (e : Token) (ts : List Token) → length ts < most → Decided (Treeless e ts)
decided-treeless e ts few =
    by (decided-true (is_sign_token (codes "=") e)) (decided-true (has_some ts)) (decided-tree ts few) where
      by : Decided (is_sign_token (codes "=") e ≡ true) → Decided (has_some ts ≡ true)
          → Decided ((i : Init) × IsInitOf (plain_all ts) i) → Decided (Treeless e ts)
      by (inl a) (inl b) (inr none) = inl (a, b, λ i is. none (i, of-init ts i is))
      by (inl a) (inl b) (inl i) =
          inr (λ h. h.2 i.0 (record { formed = i.1.formed; nested = i.1.nested; spelled = i.1.spelled }))
      by (inl a) (inr none) o = inr (λ h. none h.1)
      by (inr none) o p = inr (λ h. none h.0)

begins-of : (e : Token) (ts : List Token) → ReadBegins (e ∷ ts) ⊎ Treeless e ts → Begins (e ∷ ts)
begins-of e ts (inl b) = (b.0, b.1)
begins-of e ts (inr h) = (Unread, h)

of-begins : (e : Token) (ts : List Token) (i : FieldInitialiser) → BeginsWith (e ∷ ts) i
    → ReadBegins (e ∷ ts) ⊎ Treeless e ts
of-begins e ts Absent h = absurd h
of-begins e ts (Formed i) h = inl (Formed i, h, λ un. let wrong : false ≡ true = ap is_unread un in cc)
of-begins e ts Unread h = inr h

decided-begins : (ts : List Token) → length ts < most → Decided (Begins ts)
decided-begins [] few = inl (Absent, tt)
decided-begins (e ∷ ts) few =
    let fewer : length ts < most = omega (arith, few) in
    decided-as (begins-of e ts) (λ b. of-begins e ts b.0 b.1)
    (decided-either (decided-read-begins (e ∷ ts) few) (decided-treeless e ts fewer))

-- ---- variables

abbrev AVariable : List Token → Type 0
AVariable ts = (v : FieldVariable) × IsVariable ts v

abbrev AReadVariable : List Token → Type 0
AReadVariable ts = (v : FieldVariable) × IsVariable ts v × IsRead v

decided-variable : (ts : List Token) → length ts < most → Decided (AVariable ts)
decided-variable [] few = inr (λ v. v.1)
decided-variable (t ∷ ts) few =
    let fewer : length ts < most = omega (arith, few) in
    decided-as
    (λ h. (
      record { name = record { text = t.text; place = t.place }; initialiser = h.1.0 },
      (h.0, refl, refl, h.1.1),
    ))
    (λ v. (v.1.0, (v.0.initialiser, v.1.3)))
    (decided-both (decided-true (is_name t)) (decided-begins ts fewer))

decided-read-variable : (ts : List Token) → length ts < most → Decided (AReadVariable ts)
decided-read-variable [] few = inr (λ v. v.1)
decided-read-variable (t ∷ ts) few =
    let fewer : length ts < most = omega (arith, few) in
    decided-as
    (λ h. (
      record { name = record { text = t.text; place = t.place }; initialiser = h.1.0 },
      (h.0, refl, refl, h.1.1),
      h.1.2,
    ))
    (λ v. (v.1.0, (v.0.initialiser, v.1.3, v.2)))
    (decided-both (decided-true (is_name t)) (decided-read-begins ts fewer))

-- ---- divisions in which each has a tree

abbrev Divided : List Token → Type 0
Divided ts = (pieces : List (List Token)) × (vs : List FieldVariable) × AreRead ts pieces vs

abbrev BehindComma : List Token → Type 0
BehindComma [] = ⊥
BehindComma (c ∷ rest) = IsTrue (is_sign_token (codes ",") c) × Divided rest

abbrev FirstOf : List Token → List Token → Type 0
FirstOf a b = AReadVariable a × BehindComma b

one-piece : (ts : List Token) → AReadVariable ts → Divided ts
one-piece ts v = (ts ∷ [], v.0 ∷ [], record { divided = refl; variables = (v.1, tt); read = (v.2, tt) })

more-pieces : (ts a b rest : List Token) (c : Token) (pieces : List (List Token)) (vs : List FieldVariable)
    → a ++ b ≡ ts → b ≡ c ∷ rest → AReadVariable a → IsTrue (is_sign_token (codes ",") c) → AreRead rest pieces vs
    → Divided ts
more-pieces ts a b rest c [] vs parts is v comma r = absurd r.divided
more-pieces ts a b rest c (p ∷ ps) vs parts is v comma r = (
  a ∷ p ∷ ps,
  v.0 ∷ vs,
  record {
    divided = (c, rest, sym parts ∙ ap (λ l. a ++ l) is, comma, r.divided);
    variables = (v.1, r.variables);
    read = (v.2, r.read);
  },
)

first-piece : (ts a b : List Token) → a ++ b ≡ ts → AReadVariable a → BehindComma b → Divided ts
first-piece ts a [] parts v h = absurd h
first-piece ts a (c ∷ rest) parts v h =
    more-pieces ts a (c ∷ rest) rest c h.1.0 h.1.1 parts refl v h.0 h.1.2

divided-of : (ts : List Token) → AReadVariable ts ⊎ Split FirstOf ts → Divided ts
divided-of ts (inl v) = one-piece ts v
divided-of ts (inr h) = first-piece ts h.front h.back h.parts h.is.0 h.is.1

of-divided : (ts : List Token) (pieces : List (List Token)) (vs : List FieldVariable) → IsDivided pieces ts
    → AllZip IsVariable pieces vs → Each IsRead vs → AReadVariable ts ⊎ Split FirstOf ts
of-divided ts [] vs d z e = absurd d
of-divided ts (p ∷ []) [] d z e = absurd z
of-divided ts (p ∷ []) (v ∷ vs) d z e = inl (v, subst (λ l. IsVariable l v) (sym d) z.0, e.0)
of-divided ts (p ∷ q ∷ ps) [] d z e = absurd z
of-divided ts (p ∷ q ∷ ps) (v ∷ vs) d z e =
    inr (record {
      front = p;
      back = d.0 ∷ d.1;
      parts = sym d.2;
      is = (
        (v, z.0, e.0),
        (d.3, (q ∷ ps, vs, record { divided = d.4; variables = z.1; read = e.1 })),
      );
    })

decided-comma : (b : List Token) → ((c : Token) (rest : List Token) → b ≡ c ∷ rest → Decided (Divided rest))
    → Decided (BehindComma b)
decided-comma [] d = inr (λ h. h)
decided-comma (c ∷ rest) d = decided-both (decided-true (is_sign_token (codes ",") c)) (d c rest refl)

rest-within : (k : ℕ) (a b ts rest : List Token) (c : Token) → a ++ b ≡ ts → b ≡ c ∷ rest → length ts ≤ suc k
    → length rest ≤ k
rest-within k a b ts rest c parts is few =
    let long : length (a ++ b) ≡ length ts = ap (λ (l : List Token). length l) parts in
    let more : length b ≡ length (c ∷ rest) = ap (λ (l : List Token). length l) is in
    omega (arith, long, more, few, length-append a b)

none-within : (a b ts rest : List Token) (c : Token) → a ++ b ≡ ts → b ≡ c ∷ rest → length ts ≤ 0 → ⊥
none-within a b ts rest c parts is few =
    let long : length (a ++ b) ≡ length ts = ap (λ (l : List Token). length l) parts in
    let more : length b ≡ length (c ∷ rest) = ap (λ (l : List Token). length l) is in
    omega (arith, long, more, few, length-append a b)

rest-few : (a b ts rest : List Token) (c : Token) → a ++ b ≡ ts → b ≡ c ∷ rest → length ts < most → length rest < most
rest-few a b ts rest c parts is few =
    let long : length (a ++ b) ≡ length ts = ap (λ (l : List Token). length l) parts in
    let more : length b ≡ length (c ∷ rest) = ap (λ (l : List Token). length l) is in
    omega (arith, long, more, few, length-append a b)

decided-within : (k : ℕ) (ts : List Token) → length ts ≤ k → length ts < most → Decided (Divided ts)
decided-within zero ts bound few =
    decided-as (divided-of ts) (λ d. of-divided ts d.0 d.1 d.2.divided d.2.variables d.2.read)
    (decided-either (decided-read-variable ts few) (decided-split FirstOf ts (λ a b e. decided-both
    (decided-read-variable a (front-within most a b ts e few)) (decided-comma b
    (λ c rest is. absurd (none-within a b ts rest c e is bound))))))
decided-within (suc k) ts bound few =
    decided-as (divided-of ts) (λ d. of-divided ts d.0 d.1 d.2.divided d.2.variables d.2.read)
    (decided-either (decided-read-variable ts few) (decided-split FirstOf ts (λ a b e. decided-both
    (decided-read-variable a (front-within most a b ts e few)) (decided-comma b
    (λ c rest is. decided-within k rest (rest-within k a b ts rest c e is bound)
    (rest-few a b ts rest c e is few))))))

decided-divided : (ts : List Token) → length ts < most → Decided (Divided ts)
decided-divided ts few = let all : length ts ≤ length ts = omega arith in decided-within (length ts) ts all few

-- ---- divisions at each comma

decided-each : (ps : List (List Token)) → length (joined ps) < most
    → Decided ((vs : List FieldVariable) × AllZip IsVariable ps vs)
decided-each [] few = inl ([], tt)
decided-each (p ∷ ps) few =
    let long = length-append p (joined ps) in
    let first : length p < most = omega (arith, few, long) in
    let others : length (joined ps) < most = omega (arith, few, long) in
    decided-as (λ h. (h.0.0 ∷ h.1.0, (h.0.1, h.1.1))) (λ h. zipped h.0 h.1)
    (decided-both (decided-variable p first) (decided-each ps others)) where
      zipped : (vs : List FieldVariable) → AllZip IsVariable (p ∷ ps) vs
          → AVariable p × ((ws : List FieldVariable) × AllZip IsVariable ps ws)
      zipped [] z = absurd z
      zipped (v ∷ vs) z = ((v, z.0), (vs, z.1))

first-joined : (i : Item) (ps : List (List Token)) → length (joined (before_first i ps)) ≡ length i + length (joined ps)
first-joined i [] = length-append i []
first-joined i (p ∷ ps) =
    omega (
      arith,
      length-append (i ++ p) (joined ps),
      length-append i p,
      length-append p (joined ps),
    )

between-shorter : (is : List Item) → length (joined (between_commas is)) ≤ length (joined is)
between-shorter [] = omega arith
between-shorter (i ∷ is) = by (begins_sign (codes ",") i) (between-shorter is) where
  by : (b : Bool) → length (joined (between_commas is)) ≤ length (joined is)
      → length (joined (cond b ([] ∷ between_commas is) (before_first i (between_commas is))))
      ≤ length (joined (i ∷ is))
  by true h = omega (arith, h, length-append i (joined is))
  by false h = omega (arith, h, length-append i (joined is), first-joined i (between_commas is))

between-few : (ts : List Token) → length ts < most → length (joined (between_commas (items_of ts))) < most
between-few ts few =
    let all : length (joined (items_of ts)) ≡ length ts = ap (λ (l : List Token). length l) (joined_items 0 ts) in
    omega (arith, all, few, between-shorter (items_of ts))

-- ---- all variables

abbrev SomeVariables : List Token → Type 0
SomeVariables ts = (vs : List FieldVariable) × AreVariables ts vs

decided-variables : (ts : List Token) → length ts < most → Decided (SomeVariables ts)
decided-variables ts few =
    by (decided-divided ts few)
    (decided-each (between_commas (items_of ts)) (between-few ts few)) where
      by : Decided (Divided ts) → Decided ((vs : List FieldVariable)
          × AllZip IsVariable (between_commas (items_of ts)) vs)
          → Decided (SomeVariables ts)
      by (inl d) o = inl (d.1, inl (d.0, d.2))
      by (inr none) (inl h) =
          inl (h.0, inr (record { variables = h.1; none = λ pieces ws r. none (pieces, ws, r) }))
      by (inr none) (inr others) =
          inr (λ h. ⊎_elim (λ r. none (r.0, h.0, r.1)) (λ r. others (h.0, r.variables)) h.1)

-- ---- declarations

field-words : (text : List ℕ) → Decided (FormedFieldModifier (Word text))
field-words text = decided-true (is_field_modifier text)

abbrev FieldModifiers : List Spelled → Type 0
FieldModifiers = Modifiers FormedFieldModifier field-words (λ n f. f) (λ n f. f)

abbrev modifier_tree : Modifier → ModifierTree
modifier_tree (Word text) = modifier.Word text
modifier_tree (Annotated n) = modifier.Annotated (record { names = n.names; arguments = n.arguments })

one-modifier : (m : Modifier) → modifier_of (modifier_tree m) ≡ m
one-modifier (Word text) = refl
one-modifier (Annotated n) = refl

modifier-trees : (ms : List Modifier) → map modifier_of (map modifier_tree ms) ≡ ms
modifier-trees [] = refl
modifier-trees (m ∷ ms) =
    ap (λ x. x ∷ map modifier_of (map modifier_tree ms)) (one-modifier m) ∙ ap (λ l. m ∷ l) (modifier-trees ms)

abbrev TypedFront : List Token → List Token → Type 0
TypedFront a b = FieldModifiers (plain_all a) × ((t : Ty) × IsType (plain_all b) t)

abbrev Declares : List Token → List Token → Type 0
Declares front variables = Split TypedFront front × SomeVariables variables

abbrev ADeclaration : List Token → Type 0
ADeclaration ts = (f : FieldTree) × AreDeclared ts f

declared-by : (ts front variables a b : List Token) (ms : List Modifier) (t : Ty) (vs : List FieldVariable)
    → front ++ variables ≡ ts → a ++ b ≡ front → Each FormedFieldModifier ms → modifiers_onto ms [] ≡ plain_all a
    → IsType (plain_all b) t → TypeTreeOf b t → AreVariables variables vs → ADeclaration ts
declared-by ts front variables a b ms t vs whole parts fine spelled is k divided = (
  record { modifiers = map modifier_tree ms; kind = k.tree; variables = vs },
  record {
    front = front;
    variables = variables;
    parts = sym whole;
    modifiers = subst (Each FormedFieldModifier) (sym (modifier-trees ms)) fine;
    formed = subst FormedTy (sym k.is) is.formed;
    nested = subst (λ u. ty_nesting u ≤ MAX_NESTING) (sym k.is) is.nested;
    spelled = ap (λ l. modifiers_onto l (ty_onto (ty_of k.tree) [])) (modifier-trees ms)
        ∙ ap (λ u. modifiers_onto ms (ty_onto u [])) k.is ∙ modifiers_append ms [] (ty_onto t [])
        ∙ ap (λ l. l ++ ty_onto t []) spelled ∙ ap (λ l. plain_all a ++ l) is.spelled
        ∙ sym (plain_append a b) ∙ ap plain_all parts;
    placed = last-places a b front (ty_places k.tree) parts k.places;
    divided = divided;
  },
)

declaration-of : (ts : List Token) → length ts < most → Split Declares ts → ADeclaration ts
declaration-of ts few h =
    let x = h.is.0 in
    let t = x.is.1 in
    let back : length x.back < most =
    back-within most x.front x.back h.front x.parts (front-within most h.front h.back ts h.parts few) in
    declared-by ts h.front h.back x.front x.back x.is.0.0 t.0 h.is.1.0 h.parts x.parts x.is.0.1 x.is.0.2 t.1
    (type-tree x.back t.0 back t.1.formed (sym t.1.spelled)) h.is.1.1

of-declaration : (ts : List Token) (f : FieldTree) → AreDeclared ts f → Split Declares ts
of-declaration ts f d = of (in-two d.front (modifiers_onto ms []) (ty_onto t []) spelled) where
  ms : List Modifier
  ms = map modifier_of f.modifiers

  t : Ty
  t = ty_of f.kind

  spelled : modifiers_onto ms [] ++ ty_onto t [] ≡ plain_all d.front
  spelled = sym (modifiers_append ms [] (ty_onto t [])) ∙ d.spelled

  of : InTwo d.front (modifiers_onto ms []) (ty_onto t []) → Split Declares ts
  of k =
      record {
        front = d.front;
        back = d.variables;
        parts = sym d.parts;
        is = (
          record {
            front = k.front;
            back = k.back;
            parts = k.parts;
            is = (
              (ms, d.modifiers, sym k.first),
              (t, record { formed = d.formed; nested = d.nested; spelled = sym k.second }),
            );
          },
          (f.variables, d.divided),
        );
      }

decided-declaration : (ts : List Token) → length ts < most → Decided (ADeclaration ts)
decided-declaration ts few =
    decided-as (declaration-of ts few) (λ d. of-declaration ts d.0 d.1)
    (decided-split Declares ts (λ a b e. decided-both
    (decided-split TypedFront a (λ x y f. decided-both
    (decided-modifiers FormedFieldModifier field-words (λ n g. g) (λ n g. g) (plain_all x))
    (decided-type (plain_all y))))
    (decided-variables b (back-within most a b ts e few))))

-- ---- fields

abbrev Last : List Token → Type 0
Last [] = ⊥
Last (t ∷ []) = IsTrue (is_sign_token (codes ";") t)
Last (t ∷ u ∷ ts) = ⊥

decided-last : (b : List Token) → Decided (Last b)
decided-last [] = inr (λ h. h)
decided-last (t ∷ []) = decided-true (is_sign_token (codes ";") t)
decided-last (t ∷ u ∷ ts) = inr (λ h. h)

abbrev Ended : List Token → List Token → Type 0
Ended a b = ADeclaration a × Last b

abbrev pub SomeFields : List Token → Type 0
SomeFields ts = (f : FieldTree) × AreFields ts f

fields-of : (ts a b : List Token) → a ++ b ≡ ts → ADeclaration a → Last b → SomeFields ts
fields-of ts a [] parts d l = absurd l
fields-of ts a (t ∷ []) parts d l =
    (d.0, record { declaration = a; last = t; parts = sym parts; ended = l; declared = d.1 })
fields-of ts a (t ∷ u ∷ us) parts d l = absurd l

of-fields : (ts : List Token) (f : FieldTree) → AreFields ts f → Split Ended ts
of-fields ts f d =
    record {
      front = d.declaration;
      back = d.last ∷ [];
      parts = sym d.parts;
      is = ((f, d.declared), d.ended);
    }

pub decided-fields : (ts : List Token) → length ts < most → Decided (SomeFields ts)
decided-fields ts few =
    decided-as (λ h. fields-of ts h.front h.back h.parts h.is.0 h.is.1) (λ d. of-fields ts d.0 d.1)
    (decided-split Ended ts (λ a b e. decided-both (decided-declaration a (front-within most a b ts e few))
    (decided-last b)))
