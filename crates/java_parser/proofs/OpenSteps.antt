-- One more token where brackets are open.
use Rattle.std.proofs.Common.{◌≡◌, ◌<◌, ◌+◌, ◌-◌, ◌++◌, ℕ, Bool, true, false, List, [], ◌∷◌, length, drop, get_or, refl}
use Rattle.std.proofs.Common.{Option, Some, None, map, take, ap, sym, ◌∙◌, subst}
use Rattle.std.proofs.lemmas.List.{at_drop_more}
use Rattle.racer_base.specs.declared.ids.Place.{Place}
use Rattle.java_lexer.specs.declared.token.Token.{Token}
use Rattle.java_parser_grammar.specs.Brackets.{opened, unbalanced}
use Rattle.java_parser.specs.OpenBrackets.{open_onto, IsOpened}

abbrev behind : Token → List Token → Option (List Token) → Option Place
behind t ts None = Some t.place
behind t ts (Some more) = unbalanced more ts

one_step : (os : List Token) (t : Token) (ts : List Token) → unbalanced os (t ∷ ts) ≡ behind t ts (opened os t)
one_step [] t ts = refl
one_step (o ∷ os) t ts = refl

left : (ts : List Token) (i : ℕ) (t : Token) (os : List Token) → i < length ts → t ≡ get_or ts i t
    → unbalanced os (drop i ts) ≡ behind t (drop (i + 1) ts) (opened os t)
left ts i t os within is =
    at_drop_more (unbalanced os) ts i t within
    ∙ ap (λ (x : Token). unbalanced os (x ∷ drop (i + 1) ts)) (sym is) ∙ one_step os t (drop (i + 1) ts)

-- where it does not fit, it is at fault
pub unfit_ends : (ts : List Token) (i : ℕ) (t : Token) (os more : List Token) (fits : Bool) (all : Option Place)
    → i < length ts → t ≡ get_or ts i t → fits ≡ false → IsOpened fits more (opened os t)
    → unbalanced os (drop i ts) ≡ all → Some t.place ≡ all
unfit_ends ts i t os more fits all within is lacks opens h =
    let e : opened os t ≡ None = subst (λ (b : Bool). IsOpened b more (opened os t)) lacks opens in
    sym (left ts i t os within is ∙ ap (behind t (drop (i + 1) ts)) e) ∙ h

-- where it fits, the fault is that of the tokens behind it
pub fits_on : (ts : List Token) (i : ℕ) (t : Token) (os more : List Token) (fits : Bool) (all : Option Place)
    → i < length ts → t ≡ get_or ts i t → fits ≡ true → IsOpened fits more (opened os t)
    → unbalanced os (drop i ts) ≡ all → unbalanced more (drop (i + 1) ts) ≡ all
fits_on ts i t os more fits all within is fit opens h =
    let e : opened os t ≡ Some more = subst (λ (b : Bool). IsOpened b more (opened os t)) fit opens in
    sym (left ts i t os within is ∙ ap (behind t (drop (i + 1) ts)) e) ∙ h

-- where the file ends with none open, there is none
pub none_at_end : {A : Type 0} (view : A → Token) (xs left : List A) (size : ℕ) (all : Option Place) → size ≡ 0
    → xs ≡ left ++ [] → left ≡ take (size - 1) xs → unbalanced (open_onto (map view xs) []) [] ≡ all → None ≡ all
none_at_end view xs left size all none e l h =
    let empty : xs ≡ [] = e ∙ ap (λ ys. ys ++ []) (l ∙ ap (λ n. take (n - 1) xs) none) in
    ap (λ ys. unbalanced (open_onto (map view ys) []) []) (sym empty) ∙ h
