-- Nothing is lost where a list is cut.
use Rattle.std.proofs.Common.{◌≡◌, ℕ, Bool, true, false, List, [], ◌∷◌, ◌++◌, map, refl, ap, sym, ◌∙◌}
use Rattle.std.proofs.lemmas.List.{append_assoc}
use Rattle.std.specs.Prelude.{◌==◌}
use Rattle.java_lexer.specs.declared.token.Token.{Token}
use Rattle.java_parser_grammar.specs.Cuts.{with_cut, joined}
use Rattle.java_parser_grammar.specs.Brackets.{depth_behind}
use Rattle.java_parser_grammar.specs.Pieces.{Item, items_from, items_of, left_behind, cut_pieces, pieces_of}

pub joined_one : {A : Type 0} (cut : Bool) (x : A) (ps : List (List A)) → joined (with_cut cut x ps) ≡ x ∷ joined ps
joined_one true x ps = refl
joined_one false x [] = refl
joined_one false x (p ∷ ps) = refl

pub joined_append : {A : Type 0} (ps qs : List (List A)) → joined (ps ++ qs) ≡ joined ps ++ joined qs
joined_append [] qs = refl
joined_append (p ∷ ps) qs = ap (λ l. p ++ l) (joined_append ps qs) ∙ sym (append_assoc p (joined ps) (joined qs))

joined_twice : {A : Type 0} (ps : List (List (List A))) → joined (map joined ps) ≡ joined (joined ps)
joined_twice [] = refl
joined_twice (p ∷ ps) = ap (λ l. joined p ++ l) (joined_twice ps) ∙ sym (joined_append p (joined ps))

pub joined_items : (n : ℕ) (ts : List Token) → joined (items_from n ts) ≡ ts
joined_items n [] = refl
joined_items n (t ∷ ts) =
    joined_one (depth_behind n t == 0) t (items_from (depth_behind n t) ts)
    ∙ ap (λ l. t ∷ l) (joined_items (depth_behind n t) ts)

pub joined_cut_pieces : (more : ℕ) (is : List Item) → joined (cut_pieces more is) ≡ is
joined_cut_pieces more [] = refl
joined_cut_pieces more (i ∷ is) =
    let behind = left_behind more (i ∷ is) in
    joined_one (behind == 0) i (cut_pieces behind is) ∙ ap (λ l. i ∷ l) (joined_cut_pieces behind is)

pub joined_pieces : (ts : List Token) → joined (pieces_of ts) ≡ ts
joined_pieces ts =
    joined_twice (cut_pieces 0 (items_of ts)) ∙ ap joined (joined_cut_pieces 0 (items_of ts)) ∙ joined_items 0 ts
