-- Balanced tokens leave the count of open parentheses as it is.
use Rattle.std.proofs.Common.{◌≡◌, ℕ, suc, Bool, true, false, cond, ◌||◌, List, [], ◌∷◌, ◌++◌, Some, None}
use Rattle.std.proofs.Common.{IsTrue, refl, sym, subst, codes}
use Rattle.std.proofs.lemmas.Bool.{false≢true, and_parts}
use Rattle.std.specs.Prelude.{bytes_eq}
use Rattle.java_tree.specs.declared.words.Spelled.{Spelled}
use Rattle.java_tree.specs.Words.{sign}
use Rattle.java_tree.specs.Brackets.{is_sign, is_some_and, closes, are_braces, are_lambda_parameters}
use Rattle.java_tree.specs.Spelling.{tokens_onto}
use Rattle.java_parser_grammar.specs.Taking.{match_number}
use Rattle.java_parser_grammar.specs.Leads.{behind, begins_lambda}
use Rattle.java_parser_grammar.proofs.Taken.{sign_is}
use Rattle.java_parser_grammar.proofs.LambdaParameters.{lambda_cases}

-- how many parentheses are open, of these closing brackets and so many before
abbrev pub parens : List (List ℕ) → ℕ → ℕ
parens [] d = d
parens (text ∷ texts) d = cond (bytes_eq text (codes ")")) (suc (parens texts d)) (parens texts d)

square_no_close : (t : Spelled) → is_sign (codes "[") t ≡ true → is_sign (codes ")") t ≡ false
square_no_close t e = subst (λ u. is_sign (codes ")") u ≡ false) (sym (sign_is (codes "[") t e)) refl

curly_no_close : (t : Spelled) → is_sign (codes "{") t ≡ true → is_sign (codes ")") t ≡ false
curly_no_close t e = subst (λ u. is_sign (codes ")") u ≡ false) (sym (sign_is (codes "{") t e)) refl

own_close : (text : List ℕ) (t : Spelled) → is_sign text t ≡ true → is_sign (codes ")") t ≡ bytes_eq text (codes ")")
own_close text t e =
    subst (λ u. is_sign (codes ")") u ≡ bytes_eq text (codes ")")) (sym (sign_is text t e)) refl

own_turn : (c : Bool) (m : ℕ) (r u : List Spelled) → behind m r ≡ u
    → cond c (match_number (cond c (suc m) m) r (λ e. behind e r)) (behind (cond c (suc m) m) r) ≡ u
own_turn true m r u e = e
own_turn false m r u e = e

turn : (ts rest : List Spelled) (d : ℕ) → ((awaited : List (List ℕ)) → closes awaited ts ≡ true
    → behind (parens awaited d) (ts ++ rest) ≡ behind d rest) → (inner : List ℕ) (outer : List (List ℕ))
    (round square curly own close other : Bool) → (square ≡ true → close ≡ false) → (curly ≡ true → close ≡ false)
    → (own ≡ true → close ≡ bytes_eq inner (codes ")"))
    → is_some_and (cond round (Some (codes ")" ∷ inner ∷ outer)) (cond square (Some (codes "]" ∷ inner ∷ outer))
    (cond curly (Some (codes "}" ∷ inner ∷ outer)) (cond own (Some outer)
    (cond (close || other) None (Some (inner ∷ outer))))))) (λ awaited. closes awaited ts) ≡ true
    → cond round (behind (suc (parens (inner ∷ outer) d)) (ts ++ rest)) (cond close
    (match_number (parens (inner ∷ outer) d) (ts ++ rest) (λ e. behind e (ts ++ rest)))
    (behind (parens (inner ∷ outer) d) (ts ++ rest))) ≡ behind d rest
turn ts rest d ih inner outer true square curly own close other p q s h = ih (codes ")" ∷ inner ∷ outer) h
turn ts rest d ih inner outer false true curly own close other p q s h =
    rw (p refl) (ih (codes "]" ∷ inner ∷ outer) h)
turn ts rest d ih inner outer false false true own close other p q s h =
    rw (q refl) (ih (codes "}" ∷ inner ∷ outer) h)
turn ts rest d ih inner outer false false false true close other p q s h =
    rw (s refl) (own_turn (bytes_eq inner (codes ")")) (parens outer d) (ts ++ rest) (behind d rest) (ih outer h))
turn ts rest d ih inner outer false false false false true other p q s h = absurd (false≢true h)
turn ts rest d ih inner outer false false false false false true p q s h = absurd (false≢true h)
turn ts rest d ih inner outer false false false false false false p q s h = ih (inner ∷ outer) h

pub closed_balanced : (ts : List Spelled) (awaited : List (List ℕ)) → closes awaited ts ≡ true → (d : ℕ)
    (rest : List Spelled) → behind (parens awaited d) (ts ++ rest) ≡ behind d rest
unfolding behind
closed_balanced [] [] h d rest = refl
closed_balanced [] (inner ∷ outer) h d rest = absurd (false≢true h)
closed_balanced (t ∷ ts) [] h d rest = absurd (false≢true h)
closed_balanced (t ∷ ts) (inner ∷ outer) h d rest =
    turn ts rest d (λ awaited e. closed_balanced ts awaited e d rest) inner outer (is_sign (codes "(") t)
    (is_sign (codes "[") t) (is_sign (codes "{") t) (is_sign inner t) (is_sign (codes ")") t)
    (is_sign (codes "]") t || is_sign (codes "}") t) (square_no_close t) (curly_no_close t) (own_close inner t) h

pub braces_balanced : (body : List Spelled) → IsTrue (are_braces body) → (d : ℕ) (rest : List Spelled)
    → behind d (tokens_onto body rest) ≡ behind d rest
unfolding behind
braces_balanced [] h d rest = absurd (false≢true h)
braces_balanced (t ∷ ts) h d rest =
    let both = and_parts (is_sign (codes "{") t) (closes (codes "}" ∷ []) ts) h in
    subst (λ u. behind d (u ∷ ts ++ rest) ≡ behind d rest) (sym (sign_is (codes "{") t both.0))
    (closed_balanced ts (codes "}" ∷ []) both.1 d rest)

pub parameters_balanced : (ps : List Spelled) → IsTrue (are_lambda_parameters ps) → (d : ℕ) (rest : List Spelled)
    → behind d (tokens_onto ps rest) ≡ behind d rest
unfolding behind
parameters_balanced ps f d rest =
    lambda_cases (λ ps. behind d (tokens_onto ps rest) ≡ behind d rest) (λ x. refl)
    (λ ts c. closed_balanced ts (codes ")" ∷ []) c d rest) ps f

-- ---- to the parenthesis that closes them

-- how many parentheses are open, the last of these left out
abbrev pub inner_parens : List (List ℕ) → ℕ
inner_parens [] = 0
inner_parens (text ∷ []) = 0
inner_parens (text ∷ more ∷ texts) =
    cond (bytes_eq text (codes ")")) (suc (inner_parens (more ∷ texts))) (inner_parens (more ∷ texts))

abbrev pub LastCloses : List (List ℕ) → Type 0
LastCloses [] = ⊥
LastCloses (text ∷ []) = text ≡ codes ")"
LastCloses (text ∷ more ∷ texts) = LastCloses (more ∷ texts)

nothing_left : (ts rest : List Spelled) → closes [] ts ≡ true → ts ++ rest ≡ rest
nothing_left [] rest h = refl
nothing_left (t ∷ ts) rest h = absurd (false≢true h)

closing_own : (inner : List ℕ) (outer : List (List ℕ)) (ts rest : List Spelled) (close : Bool)
    → LastCloses (inner ∷ outer) → close ≡ bytes_eq inner (codes ")") → closes outer ts ≡ true → (LastCloses outer
    → behind (inner_parens outer) (ts ++ rest) ≡ rest) → cond close (match_number (inner_parens (inner ∷ outer))
    (ts ++ rest) (λ e. behind e (ts ++ rest))) (behind (inner_parens (inner ∷ outer)) (ts ++ rest)) ≡ rest
closing_own inner [] ts rest close last s h ih = rw (s, last) (nothing_left ts rest h)
closing_own inner (more ∷ texts) ts rest close last s h ih =
    rw s (own_turn (bytes_eq inner (codes ")")) (inner_parens (more ∷ texts)) (ts ++ rest) rest (ih last))

closing_turn : (ts rest : List Spelled) → ((awaited : List (List ℕ)) → LastCloses awaited → closes awaited ts ≡ true
    → behind (inner_parens awaited) (ts ++ rest) ≡ rest) → (inner : List ℕ) (outer : List (List ℕ))
    → LastCloses (inner ∷ outer) → (round square curly own close other : Bool) → (square ≡ true → close ≡ false)
    → (curly ≡ true → close ≡ false) → (own ≡ true → close ≡ bytes_eq inner (codes ")"))
    → is_some_and (cond round (Some (codes ")" ∷ inner ∷ outer)) (cond square (Some (codes "]" ∷ inner ∷ outer))
    (cond curly (Some (codes "}" ∷ inner ∷ outer)) (cond own (Some outer)
    (cond (close || other) None (Some (inner ∷ outer))))))) (λ awaited. closes awaited ts) ≡ true
    → cond round (behind (suc (inner_parens (inner ∷ outer))) (ts ++ rest)) (cond close
    (match_number (inner_parens (inner ∷ outer)) (ts ++ rest) (λ e. behind e (ts ++ rest)))
    (behind (inner_parens (inner ∷ outer)) (ts ++ rest))) ≡ rest
closing_turn ts rest ih inner outer last true square curly own close other p q s h =
    ih (codes ")" ∷ inner ∷ outer) last h
closing_turn ts rest ih inner outer last false true curly own close other p q s h =
    rw (p refl) (ih (codes "]" ∷ inner ∷ outer) last h)
closing_turn ts rest ih inner outer last false false true own close other p q s h =
    rw (q refl) (ih (codes "}" ∷ inner ∷ outer) last h)
closing_turn ts rest ih inner outer last false false false true close other p q s h =
    closing_own inner outer ts rest close last (s refl) h (λ l. ih outer l h)
closing_turn ts rest ih inner outer last false false false false true other p q s h = absurd (false≢true h)
closing_turn ts rest ih inner outer last false false false false false true p q s h = absurd (false≢true h)
closing_turn ts rest ih inner outer last false false false false false false p q s h = ih (inner ∷ outer) last h

pub closing_behind : (ts : List Spelled) (awaited : List (List ℕ)) → LastCloses awaited → closes awaited ts ≡ true
    → (rest : List Spelled) → behind (inner_parens awaited) (ts ++ rest) ≡ rest
unfolding behind
closing_behind ts [] last h rest = absurd last
closing_behind [] (inner ∷ outer) last h rest = absurd (false≢true h)
closing_behind (t ∷ ts) (inner ∷ outer) last h rest =
    closing_turn ts rest (λ awaited l e. closing_behind ts awaited l e rest) inner outer last (is_sign (codes "(") t)
    (is_sign (codes "[") t) (is_sign (codes "{") t) (is_sign inner t) (is_sign (codes ")") t)
    (is_sign (codes "]") t || is_sign (codes "}") t) (square_no_close t) (curly_no_close t) (own_close inner t) h

-- what stands before an arrow begins a lambda
pub parameters_begin : (ps : List Spelled) → IsTrue (are_lambda_parameters ps) → (rest : List Spelled)
    → begins_lambda (tokens_onto ps (sign (codes "->") ∷ rest)) ≡ true
unfolding begins_lambda
parameters_begin ps f rest =
    lambda_cases (λ ps. begins_lambda (tokens_onto ps (sign (codes "->") ∷ rest)) ≡ true) (λ x. refl)
    (λ ts c. rw (closing_behind ts (codes ")" ∷ []) refl c (sign (codes "->") ∷ rest)) refl) ps f
