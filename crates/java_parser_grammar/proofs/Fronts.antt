-- What stands behind annotations and words, item by item.
use Rattle.std.proofs.Common.{◌≡◌, ℕ, suc, Bool, true, false, ◌&&◌, List, [], ◌∷◌, refl, ap, ◌∙◌}
use Rattle.std.proofs.Common.{codes, arith}
use Rattle.std.specs.Prelude.{◌==◌, if◌then◌else◌}
use Rattle.java_lexer.specs.declared.token.Token.{Token}
use Rattle.java_parser_grammar.specs.Tokens.{is_name, begins, begins_sign}
use Rattle.java_parser_grammar.specs.Cuts.{onto_first, with_cut}
use Rattle.java_parser_grammar.specs.Pieces.{Item, more_of_annotation, cut_pieces}
use Rattle.java_parser_grammar.specs.Declarations.{leads, behind_front}
use Rattle.java_parser_grammar.proofs.Joined.{joined_cut_pieces}

abbrev pub front : (Token → Bool) → List Item → List Item
front is_word is = behind_front is_word (cut_pieces 0 is)

abbrev behind_first : List (List Item) → List (List Item)
behind_first [] = []
behind_first (p ∷ ps) = ps

-- behind the name of an annotation as many items are left
abbrev left_of : ℕ → List Item → List (List Item)
left_of n is = behind_first (with_cut (n == 0) [] (cut_pieces n is))

-- the same, behind a name of an annotation
abbrev pub noted : (Token → Bool) → List Item → List Item
noted is_word is = behind_front is_word (left_of (more_of_annotation is) is)

pub nonzero : (m : ℕ) → (suc m == 0) ≡ false
nonzero m = grind arith

-- ---- outside annotations

alone : (i : Item) (is : List Item) → (begins_sign (codes "@") i && leads (begins is_name) is) ≡ false
    → cut_pieces 0 (i ∷ is) ≡ (i ∷ []) ∷ cut_pieces 0 is
alone i [] e = refl
alone i (j ∷ js) e =
    ap (λ b. with_cut ((if b then suc (more_of_annotation js) else 0) == 0) i
    (cut_pieces (if b then suc (more_of_annotation js) else 0) (j ∷ js))) e

pub front_alone : (is_word : Token → Bool) (i : Item) (is : List Item)
    → (begins_sign (codes "@") i && leads (begins is_name) is) ≡ false
    → front is_word (i ∷ is) ≡ (if begins is_word i then front is_word is else i ∷ is)
front_alone is_word i is e =
    ap (behind_front is_word) (alone i is e)
    ∙ ap (λ js. if begins is_word i then front is_word is else i ∷ js) (joined_cut_pieces 0 is)

-- ---- annotations

skip : (is_word : Token → Bool) (i j : Item) (b : Bool) (ps : List (List Item))
    → behind_front is_word (onto_first i (with_cut b j ps)) ≡ behind_front is_word (behind_first (with_cut b [] ps))
skip is_word i j true ps = refl
skip is_word i j false [] = refl
skip is_word i j false (p ∷ ps) = refl

begun : (i j : Item) (js : List Item) → (begins_sign (codes "@") i && begins is_name j) ≡ true
    → cut_pieces 0 (i ∷ j ∷ js)
    ≡ onto_first i (with_cut (more_of_annotation js == 0) j (cut_pieces (more_of_annotation js) js))
begun i j js e =
    ap (λ b. with_cut ((if b then suc (more_of_annotation js) else 0) == 0) i
    (cut_pieces (if b then suc (more_of_annotation js) else 0) (j ∷ js))) e
    ∙ ap (λ b. with_cut b i (cut_pieces (suc (more_of_annotation js)) (j ∷ js))) (nonzero (more_of_annotation js))

pub front_noted : (is_word : Token → Bool) (i j : Item) (js : List Item)
    → (begins_sign (codes "@") i && begins is_name j) ≡ true → front is_word (i ∷ j ∷ js) ≡ noted is_word js
front_noted is_word i j js e =
    ap (behind_front is_word) (begun i j js e)
    ∙ skip is_word i j (more_of_annotation js == 0) (cut_pieces (more_of_annotation js) js)

-- ---- behind the name of an annotation

more_alone : (i : Item) (is : List Item) → (begins_sign (codes ".") i && leads (begins is_name) is) ≡ false
    → more_of_annotation (i ∷ is) ≡ (if begins_sign (codes "(") i then 1 else 0)
more_alone i [] e = refl
more_alone i (j ∷ js) e =
    ap (λ b. if b then suc (suc (more_of_annotation js)) else (if begins_sign (codes "(") i then 1 else 0)) e

pub noted_bracketed : (is_word : Token → Bool) (i : Item) (is : List Item)
    → (begins_sign (codes ".") i && leads (begins is_name) is) ≡ false → begins_sign (codes "(") i ≡ true
    → noted is_word (i ∷ is) ≡ front is_word is
noted_bracketed is_word i is e p =
    ap (λ n. behind_front is_word (left_of n (i ∷ is)))
    (more_alone i is e ∙ ap (λ b. if b then 1 else 0) p)

pub noted_ended : (is_word : Token → Bool) (i : Item) (is : List Item)
    → (begins_sign (codes ".") i && leads (begins is_name) is) ≡ false → begins_sign (codes "(") i ≡ false
    → noted is_word (i ∷ is) ≡ front is_word (i ∷ is)
noted_ended is_word i is e p =
    ap (λ n. behind_front is_word (left_of n (i ∷ is)))
    (more_alone i is e ∙ ap (λ b. if b then 1 else 0) p)

skip_two : (i j : Item) (b : Bool) (ps : List (List Item))
    → behind_first (onto_first [] (onto_first i (with_cut b j ps))) ≡ behind_first (with_cut b [] ps)
skip_two i j true ps = refl
skip_two i j false [] = refl
skip_two i j false (p ∷ ps) = refl

two_more : (n : ℕ) (i j : Item) (js : List Item) → left_of (suc (suc n)) (i ∷ j ∷ js) ≡ left_of n js
two_more n i j js =
    ap (λ b. behind_first (with_cut b [] (cut_pieces (suc (suc n)) (i ∷ j ∷ js)))) (nonzero (suc n))
    ∙ ap (λ b. behind_first (onto_first [] (with_cut b i (cut_pieces (suc n) (j ∷ js))))) (nonzero n)
    ∙ skip_two i j (n == 0) (cut_pieces n js)

pub noted_pointed : (is_word : Token → Bool) (i j : Item) (js : List Item)
    → (begins_sign (codes ".") i && begins is_name j) ≡ true → noted is_word (i ∷ j ∷ js) ≡ noted is_word js
noted_pointed is_word i j js e =
    ap (λ b. behind_front is_word (left_of (if b then suc (suc (more_of_annotation js)) else
    (if begins_sign (codes "(") i
    then 1 else 0)) (i ∷ j ∷ js))) e
    ∙ ap (behind_front is_word) (two_more (more_of_annotation js) i j js)
