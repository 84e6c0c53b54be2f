-- The division of fields at commas, one variable after the other.
use Rattle.std.proofs.Common.{◌≡◌, ℕ, Bool, true, false, List, [], ◌∷◌, ◌++◌, Option, Some, None}
use Rattle.std.proofs.Common.{codes, length, take, drop, refl, ap, sym, ◌∙◌, subst, arith}
use Rattle.std.proofs.Common.{take-append-drop, append-nil, append_assoc, length-append}
use Rattle.std.specs.Prelude.{if◌then◌else◌}
use Rattle.std.specs.List.{AllZip}
use Rattle.java_lexer.specs.declared.token.Token.{Token}
use Rattle.java_tree.specs.declared.methods.FieldVariable.{FieldVariable}
use Rattle.java_tree.specs.FormedModifiers.{Each}
use Rattle.java_parser_grammar.specs.Tokens.{begins_sign}
use Rattle.java_parser_grammar.specs.Pieces.{Item, items_of}
use Rattle.java_parser_grammar.specs.FieldDivisions.{IsVariable, IsRead, IsDivided, AreRead, before_first}
use Rattle.java_parser_grammar.specs.FieldDivisions.{between_commas}
use Rattle.java_parser.specs.Divisions.{HasTree, NoDivision, EndsVariable, IsBehind, IsOnlySize, NoVariable, IsSized}
use Rattle.java_parser.specs.Divisions.{IsCut, Passes, IsFirst, Divides, left_pieces}
use Rattle.java_parser.proofs.SameEnds.{same_ends}
use Rattle.java_parser.proofs.VariableSteps.{read_has_tree, comma_ends_types, divided_ends_types}

-- ---- the first variable of a division

-- what stands first in a division in which each variable has a tree
record Head (ts : List Token) : Type 0 where
  pub piece : List Token
  pub rest : List Token
  pub tree : HasTree piece
  pub parts : ts ≡ piece ++ rest
  pub ends : IsBehind rest
  pub others : List (List Token)
  pub more : (comma : Token) (left : List Token) → rest ≡ comma ∷ left
      → (vs : List FieldVariable) × AreRead left others vs

head : (ts : List Token) (ps : List (List Token)) (vs : List FieldVariable) → AreRead ts ps vs → Head ts
head ts ps vs a = by_pieces ps vs a.divided a.variables a.read where
  by_pieces : (ps : List (List Token)) (vs : List FieldVariable) → IsDivided ps ts → AllZip IsVariable ps vs
      → Each IsRead vs → Head ts
  by_pieces [] vs d z r = absurd d
  by_pieces (p ∷ ps) [] d z r = absurd z
  by_pieces (p ∷ []) (v ∷ vs) d z r = record {
    piece = p;
    rest = [];
    tree = read_has_tree p v z.0 r.0;
    parts = d ∙ sym (append-nil p);
    ends = (tt, λ limit depth. refl);
    others = [];
    more = λ comma left e. absurd cc;
  }
  by_pieces (p ∷ q ∷ ps) (v ∷ vs) d z r = record {
    piece = p;
    rest = d.0 ∷ d.1;
    tree = read_has_tree p v z.0 r.0;
    parts = d.2;
    ends = (d.3, comma_ends_types d.0 d.1 d.3 (divided_ends_types (q ∷ ps) d.1 vs d.4 z.1 r.1));
    others = q ∷ ps;
    more = λ comma left e.
        let same : d.1 ≡ left = cc in (
          vs,
          subst (λ (l : List Token). AreRead l (q ∷ ps) vs) same (record {
            divided = d.4;
            variables = z.1;
            read = r.1;
          }),
        );
  }

pub no_division : (ts : List Token) → NoVariable ts → NoDivision ts
no_division ts none = λ ps vs a. let h = head ts ps vs a in none h.piece h.rest h.tree h.parts h.ends

-- the tokens behind the first variable
behind_head : (ts : List Token) (n : ℕ) (front rest : List Token) → IsOnlySize ts n → ts ≡ front ++ rest
    → length front ≡ n → (h : Head ts) → h.rest ≡ rest
behind_head ts n front rest only parts size h =
    sym (ends ts front rest h.piece h.rest parts h.parts (size ∙ sym (only h.piece h.rest h.tree h.parts h.ends)))
  where
    ends : (ts a x b y : List Token) → ts ≡ a ++ x → ts ≡ b ++ y → length a ≡ length b → x ≡ y
    ends ts a x b y e d n = (same_ends a b x y (sym e ∙ d) (omega (
      arith,
      n,
      ap length (sym e ∙ d),
      length-append a x,
      length-append b y,
    ))).end

pub no_comma : (ts front rest : List Token) (n : ℕ) → IsOnlySize ts n → ts ≡ front ++ rest → length front ≡ n
    → (EndsVariable rest → ⊥) → NoDivision ts
no_comma ts front rest n only parts size other = λ ps vs a.
    let h = head ts ps vs a in
    other (subst EndsVariable (behind_head ts n front rest only parts size h) h.ends.0)

passes_on : (ts front rest : List Token) (n : ℕ) → IsOnlySize ts n → ts ≡ front ++ rest → length front ≡ n
    → (left : Option (List Token)) → IsCut rest [] left → Passes ts left
passes_on ts front rest n only parts size None cut = tt
passes_on ts front rest n only parts size (Some left) cut = λ none ps vs a.
    let h = head ts ps vs a in
    let m = h.more cut.0 left (behind_head ts n front rest only parts size h ∙ cut.1) in
    none h.others m.0 m.1

cut_behind : (ts front rest : List Token) → ts ≡ front ++ rest → (left : Option (List Token)) → IsCut rest [] left
    → IsCut ts front left
cut_behind ts front rest parts None cut = parts ∙ ap (λ l. front ++ l) cut ∙ append-nil front
cut_behind ts front rest parts (Some left) cut = (cut.0, parts ∙ ap (λ l. front ++ l) cut.1, cut.2)

pub is_first : (ts front rest : List Token) (n : ℕ) (left : Option (List Token)) → IsSized ts n
    → front ≡ take n ts → rest ≡ drop n ts → length front ≡ n → IsCut rest [] left → IsFirst ts front left
is_first ts front rest n left s f r size cut =
    let parts : ts ≡ front ++ rest = sym (take-append-drop n ts) ∙ ap (λ l. l ++ drop n ts) (sym f)
    ∙ ap (λ l. front ++ l) (sym r) in
    record {
      tree = subst HasTree (sym f) s.tree;
      cut = cut_behind ts front rest parts left cut;
      passes = passes_on ts front rest n s.only parts size left cut;
    }

pub no_comma_behind : (ts front rest : List Token) (n : ℕ) → IsSized ts n → front ≡ take n ts → rest ≡ drop n ts
    → length front ≡ n → (EndsVariable rest → ⊥) → NoDivision ts
no_comma_behind ts front rest n s f r size other =
    let parts : ts ≡ front ++ rest = sym (take-append-drop n ts) ∙ ap (λ l. l ++ drop n ts) (sym f)
    ∙ ap (λ l. front ++ l) (sym r) in
    no_comma ts front rest n s.only parts size other

-- ---- the pieces so far

pub record DividedSoFar (ts : List Token) (ps : List (List Token)) (left : Option (List Token)) : Type 0 where
  pub divides : Divides ts ps left
  pub trees : Each HasTree ps
  pub passes : Passes ts left

pub divides_none : (ts : List Token) → Divides ts [] (Some ts)
divides_none ts = λ others d. d

pub divides_more : (ts rest p : List Token) (ps : List (List Token)) (left : Option (List Token))
    → Divides ts ps (Some rest) → IsCut rest p left → Divides ts (ps ++ p ∷ []) left
divides_more ts rest p ps None d cut = d (p ∷ []) cut
divides_more ts rest p ps (Some left) d cut = λ others k. by_others others k where
  by_others : (others : List (List Token)) → IsDivided others left → IsDivided ((ps ++ p ∷ []) ++ others) ts
  by_others [] k = absurd k
  by_others (q ∷ qs) k =
      subst (λ (l : List (List Token)). IsDivided l ts) (sym (append_assoc ps (p ∷ []) (q ∷ qs)))
      (d (p ∷ q ∷ qs) (cut.0, left, cut.1, cut.2, k))

pub each_more : (ps : List (List Token)) (p : List Token) → Each HasTree ps → HasTree p → Each HasTree (ps ++ p ∷ [])
each_more [] p h k = (k, tt)
each_more (q ∷ ps) p h k = (h.0, each_more ps p h.1 k)

pub passes_more : (ts rest p : List Token) (left : Option (List Token)) → Passes ts (Some rest) → Passes rest left
    → Passes ts left
passes_more ts rest p None h k = tt
passes_more ts rest p (Some left) h k = λ none. h (k none)

-- ---- the pieces between commas

pub comma_found : (front rest : List Token) (i after : List Token) (total : List (List Token))
    → before_first front (between_commas (items_of rest)) ≡ total → items_of rest ≡ i ∷ items_of after
    → begins_sign (codes ",") i ≡ true → total ≡ front ∷ left_pieces (Some after)
comma_found front rest i after total so_far e comma =
    sym so_far ∙ (rw (e, comma) (ap (λ l. l ∷ between_commas (items_of after)) (append-nil front)))

first_joined : (front i : List Token) (ps : List (List Token))
    → before_first (front ++ i) ps ≡ before_first front (before_first i ps)
first_joined front i [] = refl
first_joined front i (p ∷ ps) = ap (λ l. l ∷ ps) (append_assoc front i p)

pub comma_later : (front rest : List Token) (i after : List Token) (total : List (List Token))
    → before_first front (between_commas (items_of rest)) ≡ total → items_of rest ≡ i ∷ items_of after
    → begins_sign (codes ",") i ≡ false → before_first (front ++ i) (between_commas (items_of after)) ≡ total
comma_later front rest i after total so_far e other =
    first_joined front i (between_commas (items_of after))
    ∙ sym (ap (λ (is : List Item). before_first front (between_commas is)) e
    ∙ by_sign (begins_sign (codes ",") i) other)
    ∙ so_far
  where
    by_sign : (b : Bool) → b ≡ false
        → before_first front (if b then [] ∷ between_commas (items_of after) else before_first i (between_commas
        (items_of after))) ≡ before_first front (before_first i (between_commas (items_of after)))
    by_sign true e = absurd cc
    by_sign false e = refl

pub no_comma_left : (front rest : List Token) (total : List (List Token))
    → before_first front (between_commas (items_of rest)) ≡ total → rest ≡ [] → total ≡ front ∷ left_pieces None
no_comma_left front rest total so_far e =
    sym so_far ∙ ap (λ (l : List Token). before_first front (between_commas (items_of l))) e
    ∙ ap (λ l. l ∷ []) (append-nil front)

pub comma_start : (ts : List Token) → before_first [] (between_commas (items_of ts)) ≡ between_commas (items_of ts)
comma_start ts = by_pieces (items_of ts) where
  by_first : (ps : List (List Token)) (i : List Token) → before_first [] (before_first i ps) ≡ before_first i ps
  by_first [] i = refl
  by_first (p ∷ ps) i = refl

  by_sign : (b : Bool) (i : List Token) (ps : List (List Token))
      → before_first [] (if b then [] ∷ ps else before_first i ps) ≡ (if b then [] ∷ ps else before_first i ps)
  by_sign true i ps = refl
  by_sign false i ps = by_first ps i

  by_pieces : (is : List Item) → before_first [] (between_commas is) ≡ between_commas is
  by_pieces [] = refl
  by_pieces (i ∷ is) = by_sign (begins_sign (codes ",") i) i (between_commas is)

pub goes_on : (ts rest p : List Token) (ps : List (List Token)) (left : Option (List Token)) → Divides ts ps (Some rest)
    → Each HasTree ps → Passes ts (Some rest) → IsFirst rest p left → DividedSoFar ts (ps ++ p ∷ []) left
goes_on ts rest p ps left d t h first = record {
  divides = divides_more ts rest p ps left d first.cut;
  trees = each_more ps p t first.tree;
  passes = passes_more ts rest p left h first.passes;
}
