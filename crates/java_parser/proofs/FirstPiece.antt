-- The first piece is as many tokens as are counted, and the other pieces are those of the tokens behind it.
use Rattle.std.proofs.Common.{◌≡◌, ℕ, zero, suc, ◌≤◌, Bool, true, false, ◌&&◌, ◌||◌, List, [], ◌∷◌, ◌++◌, take, drop}
use Rattle.std.proofs.Common.{length, map, Option, Some, None, refl, ap, sym, ◌∙◌, codes, arith, take-append-drop}
use Rattle.std.proofs.lemmas.Bool.{and_parts}
use Rattle.std.specs.Prelude.{◌==◌, if◌then◌else◌}
use Rattle.std.proofs.Math.Bool.{and-false}
use Rattle.java_lexer.specs.declared.token.Token.{Token}
use Rattle.java_tree.specs.declared.words.Spelled.{Spelled}
use Rattle.java_tree.specs.Words.{identifier, sign}
use Rattle.java_tree.specs.Brackets.{is_sign}
use Rattle.java_parser_grammar.proofs.Taken.{sign_is}
use Rattle.java_parser_grammar.proofs.Ensuring.{name_is}
use Rattle.java_parser_grammar.specs.Tokens.{plain, is_sign_token, is_name, begins, begins_sign}
use Rattle.java_parser_grammar.specs.Cuts.{onto_first, with_cut, joined}
use Rattle.java_parser_grammar.specs.Brackets.{is_opening, is_closing, depth_behind}
use Rattle.java_parser_grammar.specs.Pieces.{Item, items_of, more_of_annotation, more_of_piece, cut_pieces, pieces_of}
use Rattle.java_parser_grammar.proofs.Joined.{joined_append, joined_items}
use Rattle.java_parser_grammar.proofs.Fronts.{nonzero}
use Rattle.java_parser.specs.Sizes.{item_size}
use Rattle.java_parser.specs.PieceSizes.{parentheses_size, annotation_size, behind_name, behind_at, piece_by}
use Rattle.java_parser.specs.PieceSizes.{piece_size}
use Rattle.java_parser.proofs.FirstItem.{first_item, some_of}
use Rattle.java_parser.proofs.FirstMember.{drop_front}

-- ---- on items

run : (m : ℕ) (i : Item) (is : List Item) → m ≤ length is → with_cut (m == 0) i (cut_pieces m is) ≡ (i ∷ take m is)
    ∷ cut_pieces 0 (drop m is)
run zero i is h = refl
run (suc m) i [] h = absurd (omega arith)
run (suc m) i (j ∷ js) h =
    ap (λ b. with_cut b i (cut_pieces (suc m) (j ∷ js))) (nonzero m) ∙ ap (onto_first i) (run m j js (omega arith))

one_at_most : (b : Bool) (n : ℕ) → (if b then 1 else 0) ≤ suc n
one_at_most true n = omega arith
one_at_most false n = omega arith

more_by : (b c : Bool) (m n : ℕ) → m ≤ n → (if b then suc (suc m) else (if c then 1 else 0)) ≤ suc (suc n)
more_by true c m n h = omega arith
more_by false c m n h = one_at_most c (suc n)

few_more : (is : List Item) → more_of_annotation is ≤ length is
few_more [] = omega arith
few_more (i ∷ []) = one_at_most (begins_sign (codes "(") i) 0
few_more (i ∷ j ∷ is) =
    more_by (begins_sign (codes ".") i && begins is_name j) (begins_sign (codes "(") i) (more_of_annotation is)
    (length is)
    (few_more is)

-- ---- tokens that are no brackets

abbrev opens_one : Spelled → Bool
opens_one s = is_sign (codes "(") s || (is_sign (codes "[") s || is_sign (codes "{") s)

abbrev closes_one : Spelled → Bool
closes_one s = is_sign (codes ")") s || (is_sign (codes "]") s || is_sign (codes "}") s)

pub flat : (n : ℕ) (t : Token) (s : Spelled) → plain t ≡ s → opens_one s ≡ false → closes_one s ≡ false
    → depth_behind n t ≡ n
flat n t s e o c =
    let opens : is_opening t ≡ false = ap opens_one e ∙ o in
    let closes : is_closing t ≡ false = ap closes_one e ∙ c in
    rw (opens, closes) refl

single : (t : Token) (ts : List Token) → depth_behind 0 t ≡ 0 → items_of (t ∷ ts) ≡ (t ∷ []) ∷ items_of ts
single t ts e = rw e refl

sign_alone : (text : List ℕ) (t : Token) (ts : List Token) → is_sign_token text t ≡ true
    → opens_one (sign text) ≡ false → closes_one (sign text) ≡ false → items_of (t ∷ ts) ≡ (t ∷ []) ∷ items_of ts
sign_alone text t ts h o c = single t ts (flat 0 t (sign text) (sign_is text (plain t) h) o c)

name_alone : (t : Token) (ts : List Token) → is_name t ≡ true → items_of (t ∷ ts) ≡ (t ∷ []) ∷ items_of ts
name_alone t ts h = single t ts (flat 0 t (identifier t.text) (name_is (plain t) h) refl refl)

-- ---- by the first token

first_sign : (b : Bool) (k : ℕ) (text : List ℕ) (t : Token) (ts : List Token)
    → begins_sign text (take (if b then 1 else suc k) (t ∷ ts)) ≡ is_sign_token text t
first_sign true k text t ts = refl
first_sign false k text t ts = refl

first_name : (b : Bool) (k : ℕ) (t : Token) (ts : List Token)
    → begins is_name (take (if b then 1 else suc k) (t ∷ ts)) ≡ is_name t
first_name true k t ts = refl
first_name false k t ts = refl

-- the sign that the first item begins with
sign_of_first : (text : List ℕ) (t : Token) (ts : List Token) → begins_sign text (take (item_size 0 (t ∷ ts)) (t ∷ ts))
    ≡ is_sign_token text t
sign_of_first text t ts = first_sign (depth_behind 0 t == 0) (item_size (depth_behind 0 t) ts) text t ts

abbrev next_named : List Item → Bool
next_named [] = false
next_named (j ∷ js) = begins is_name j

next_of_items : (ts : List Token) → next_named (items_of ts) ≡ begins is_name ts
next_of_items [] = refl
next_of_items (t ∷ ts) =
    ap next_named (first_item 0 t ts) ∙ first_name (depth_behind 0 t == 0) (item_size (depth_behind 0 t) ts) t ts

pub record SameParts (i j : Item) (is js : List Item) : Type 0 where
  pub first : i ≡ j
  pub rest : is ≡ js

parts : (i j : Item) (is js : List Item) → i ∷ is ≡ j ∷ js → SameParts i j is js
parts i j is js e = record { first = cc; rest = cc }

-- where the sign is not followed by a name among tokens, it is not among items
not_followed : (text : List ℕ) (b : Bool) (t : Token) (ts : List Token) (i : Item) (is : List Item)
    → is_sign_token text t ≡ b → (is_sign_token text t && begins is_name ts) ≡ false → items_of (t ∷ ts) ≡ i ∷ is
    → (b ≡ true → items_of (t ∷ ts) ≡ (t ∷ []) ∷ items_of ts) → (b && next_named is) ≡ false
not_followed text false t ts i is s h e alone = refl
not_followed text true t ts i is s h e alone =
    let k = parts i (t ∷ []) is (items_of ts) (sym e ∙ alone refl) in
    let named : begins is_name ts ≡ false = ap (λ b. b && begins is_name ts) (sym s) ∙ h in
    ap next_named k.rest ∙ next_of_items ts ∙ named

-- ---- behind a name of an annotation

more_else : (i : Item) (is : List Item) → (begins_sign (codes ".") i && next_named is) ≡ false →
    more_of_annotation (i ∷ is)
    ≡ (if begins_sign (codes "(") i then 1 else 0)
more_else i [] h = refl
more_else i (j ∷ is) h = rw h refl

abbrev Behind : List Token → Type 0
Behind ts = drop (more_of_annotation (items_of ts)) (items_of ts) ≡ items_of (drop (annotation_size ts) ts)

by_parentheses : (b : Bool) (ts : List Token) (i : Item) (k : ℕ) → items_of ts ≡ i ∷ items_of (drop k ts)
    → drop (if b then 1 else 0) (i ∷ items_of (drop k ts)) ≡ items_of (drop (if b then k else 0) ts)
by_parentheses true ts i k e = refl
by_parentheses false ts i k e = sym e

ends_there : (p : Token) (ts : List Token) → (is_sign_token (codes ".") p && begins is_name ts) ≡ false
    → drop (more_of_annotation (items_of (p ∷ ts))) (items_of (p ∷ ts))
    ≡ items_of (drop (parentheses_size (p ∷ ts)) (p ∷ ts))
ends_there p ts h =
    let all : List Token = p ∷ ts in
    let size = item_size 0 all in
    let i = take size all in
    let is = items_of (drop size all) in
    let e : items_of all ≡ i ∷ is = first_item 0 p ts in
    let apart : (begins_sign (codes ".") i && next_named is) ≡ false = ap (λ b. b && next_named is) (sign_of_first
    (codes ".") p ts)
    ∙ not_followed (codes ".") (is_sign_token (codes ".") p) p ts i is refl h e (λ s. sign_alone (codes ".") p ts s refl
    refl) in
    ap (λ l. drop (more_of_annotation l) l) e ∙ ap (λ m. drop m (i ∷ is)) (more_else i is apart)
    ∙ ap (λ b. drop (if b then 1 else 0) (i ∷ is)) (sign_of_first (codes "(") p ts)
    ∙ by_parentheses (is_sign_token (codes "(") p) all i size e

goes_on : (p n : Token) (ts : List Token) → (is_sign_token (codes ".") p && is_name n) ≡ true → Behind ts
    → drop (more_of_annotation (items_of (p ∷ n ∷ ts))) (items_of (p ∷ n ∷ ts)) ≡ items_of (drop (annotation_size ts)
    ts)
goes_on p n ts h others =
    let k = and_parts (is_sign_token (codes ".") p) (is_name n) h in
    let e : items_of (p ∷ n ∷ ts) ≡ (p ∷ []) ∷ (n ∷ []) ∷ items_of ts = sign_alone (codes ".") p (n ∷ ts) k.0 refl refl
    ∙ ap (λ l. (p ∷ []) ∷ l) (name_alone n ts k.1) in
    let more : more_of_annotation ((p ∷ []) ∷ (n ∷ []) ∷ items_of ts)
    ≡ suc (suc (more_of_annotation (items_of ts))) = rw h refl in
    ap (λ l. drop (more_of_annotation l) l) e ∙ ap (λ m. drop m ((p ∷ []) ∷ (n ∷ []) ∷ items_of ts)) more ∙ others

by_name : (b : Bool) (p n : Token) (ts : List Token) → (is_sign_token (codes ".") p && is_name n) ≡ b → Behind ts
    → drop (more_of_annotation (items_of (p ∷ n ∷ ts))) (items_of (p ∷ n ∷ ts))
    ≡ items_of (drop (if b then suc (suc (annotation_size ts)) else parentheses_size (p ∷ n ∷ ts)) (p ∷ n ∷ ts))
by_name true p n ts h others = goes_on p n ts h others
by_name false p n ts h others = ends_there p (n ∷ ts) h

behind : (ts : List Token) → Behind ts
behind [] = refl
behind (p ∷ []) = ends_there p [] (and-false (is_sign_token (codes ".") p))
behind (p ∷ n ∷ ts) = by_name (is_sign_token (codes ".") p && is_name n) p n ts refl (behind ts)

-- ---- a piece

piece_from : (ts : List Token) (i : Item) (is : List Item) (m k : ℕ) → items_of ts ≡ i ∷ is → m ≤ length is
    → more_of_piece (i ∷ is) ≡ m → drop m is ≡ items_of (drop k ts) → pieces_of ts ≡ take k ts ∷ pieces_of (drop k ts)
piece_from ts i is m k e few more d =
    let cut : cut_pieces 0 (items_of ts) ≡ (i ∷ take m is) ∷ cut_pieces 0 (drop m is) = ap (cut_pieces 0) e
    ∙ ap (λ n. with_cut (n == 0) i (cut_pieces n is)) more ∙ run m i is few in
    let whole : joined (i ∷ take m is) ++ joined (drop m is) ≡ ts = sym (joined_append (i ∷ take m is) (drop m is))
    ∙ ap (λ l. i ++ joined l) (take-append-drop m is) ∙ ap joined (sym e) ∙ joined_items 0 ts in
    let rest : joined (drop m is) ≡ drop k ts = ap joined d ∙ joined_items 0 (drop k ts) in
    let front : joined (i ∷ take m is) ≡ take k ts = drop_front (joined (i ∷ take m is)) (take k ts) (drop k ts)
    (ap (λ l. joined (i ∷ take m is) ++ l) (sym rest) ∙ whole ∙ sym (take-append-drop k ts)) in
    ap (map joined) cut ∙ ap (λ l. l ∷ map joined (cut_pieces 0 (drop m is))) front
    ∙ ap (λ l. take k ts ∷ map joined (cut_pieces 0 l)) d

none_more : (i : Item) (is : List Item) → (begins_sign (codes "@") i && next_named is) ≡ false →
    more_of_piece (i ∷ is) ≡ 0
none_more i [] h = refl
none_more i (j ∷ is) h = rw h refl

alone : (t : Token) (ts : List Token) → (is_sign_token (codes "@") t && begins is_name ts) ≡ false
    → pieces_of (t ∷ ts) ≡ take (item_size 0 (t ∷ ts)) (t ∷ ts) ∷ pieces_of (drop (item_size 0 (t ∷ ts)) (t ∷ ts))
alone t ts h =
    let all : List Token = t ∷ ts in
    let size = item_size 0 all in
    let i = take size all in
    let is = items_of (drop size all) in
    let e : items_of all ≡ i ∷ is = first_item 0 t ts in
    let apart : (begins_sign (codes "@") i && next_named is) ≡ false = ap (λ b. b && next_named is) (sign_of_first
    (codes "@") t ts)
    ∙ not_followed (codes "@") (is_sign_token (codes "@") t) t ts i is refl h e (λ s. sign_alone (codes "@") t ts s refl
    refl) in
    piece_from all i is 0 size e (omega arith) (none_more i is apart) refl

annotation : (a n : Token) (ts : List Token) → (is_sign_token (codes "@") a && is_name n) ≡ true
    → pieces_of (a ∷ n ∷ ts) ≡ take (suc (suc (annotation_size ts))) (a ∷ n ∷ ts)
    ∷ pieces_of (drop (suc (suc (annotation_size ts))) (a ∷ n ∷ ts))
annotation a n ts h =
    let k = and_parts (is_sign_token (codes "@") a) (is_name n) h in
    let is = items_of ts in
    let e : items_of (a ∷ n ∷ ts) ≡ (a ∷ []) ∷ (n ∷ []) ∷ is = sign_alone (codes "@") a (n ∷ ts) k.0 refl refl
    ∙ ap (λ l. (a ∷ []) ∷ l) (name_alone n ts k.1) in
    piece_from (a ∷ n ∷ ts) (a ∷ []) ((n ∷ []) ∷ is) (suc (more_of_annotation is)) (suc (suc (annotation_size ts))) e
    (let few = few_more is in omega (arith, few)) (rw h refl) (behind ts)

by_at : (b : Bool) (a n : Token) (ts : List Token) → (is_sign_token (codes "@") a && is_name n) ≡ b
    → pieces_of (a ∷ n ∷ ts) ≡ take (piece_by (if b then Some ts else None) (a ∷ n ∷ ts)) (a ∷ n ∷ ts)
    ∷ pieces_of (drop (piece_by (if b then Some ts else None) (a ∷ n ∷ ts)) (a ∷ n ∷ ts))
by_at true a n ts h = annotation a n ts h
by_at false a n ts h = alone a (n ∷ ts) h

pub first_piece : (ts : List Token) → 1 ≤ length ts → pieces_of ts ≡ take (piece_size ts) ts
    ∷ pieces_of (drop (piece_size ts) ts)
first_piece [] some = absurd (omega arith)
first_piece (t ∷ []) some = alone t [] (and-false (is_sign_token (codes "@") t))
first_piece (a ∷ n ∷ ts) some = by_at (is_sign_token (codes "@") a && is_name n) a n ts refl

some_by : (o : Option (List Token)) (ts : List Token) → 1 ≤ length ts → 1 ≤ piece_by o ts
some_by None ts some = some_of ts some
some_by (Some rest) ts some = omega arith

-- a piece has a token
pub some_piece : (ts : List Token) → 1 ≤ length ts → 1 ≤ piece_size ts
some_piece ts some = some_by (behind_at ts) ts some

-- ---- a step behind a point and a name

by_point : (b : Bool) (all ts rest : List Token) → (if b then Some ts else None) ≡ Some rest
    → (if b then suc (suc (annotation_size ts)) else parentheses_size all) ≡ suc (suc (annotation_size rest))
by_point true all ts rest e = let same : ts ≡ rest = cc in ap (λ l. suc (suc (annotation_size l))) same
by_point false all ts rest e = absurd cc

pub behind_step : (ts rest : List Token) → behind_name ts ≡ Some rest → annotation_size ts
    ≡ suc (suc (annotation_size rest))
behind_step [] rest e = absurd cc
behind_step (p ∷ []) rest e = absurd cc
behind_step (p ∷ n ∷ ts) rest e = by_point (is_sign_token (codes ".") p && is_name n) (p ∷ n ∷ ts) ts rest e
