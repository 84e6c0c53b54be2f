-- The head of a member is found piece by piece, and its name is the last token of it.
use Rattle.std.proofs.Common.{◌≡◌, ℕ, ◌+◌, Bool, true, false, List, [], ◌∷◌, ◌++◌, Option, Some, None, length, take}
use Rattle.std.proofs.Common.{drop}
use Rattle.std.proofs.Common.{refl, ap, sym, ◌∙◌, codes, take-append-drop, arith}
use Rattle.std.proofs.lemmas.List.{append_assoc, append-nil}
use Rattle.std.specs.Prelude.{option_map, if◌then◌else◌}
use Rattle.java_lexer.specs.declared.token.Token.{Token}
use Rattle.java_parser_grammar.specs.Tokens.{is_name, begins_sign}
use Rattle.java_parser_grammar.specs.Cuts.{ends}
use Rattle.java_parser_grammar.specs.Pieces.{Piece}
use Rattle.java_parser_grammar.specs.Members.{before_parentheses, name_at_end}
use Rattle.java_parser.specs.FormView.{behind_front}
use Rattle.java_parser.proofs.FirstMember.{drop_front}

-- ---- the head

pub front_step : (front p : List Token) (o : Option (List Token × Piece)) → behind_front (front ++ p) o
    ≡ behind_front front (option_map (λ h. (p ++ h.0, h.1)) o)
front_step front p None = refl
front_step front p (Some h) = ap (λ l. Some (l, h.1)) (append_assoc front p h.0)

pub no_front : (o : Option (List Token × Piece)) → behind_front [] o ≡ o
no_front None = refl
no_front (Some h) = refl

pub head_found : (front : List Token) (ps qs : List Piece) (p : Piece) → ps ≡ p ∷ qs → begins_sign (codes "(") p ≡ true
    → behind_front front (before_parentheses ps) ≡ Some (front, p)
head_found front ps qs p e h = rw (e, h) (ap (λ l. Some (l, p)) (append-nil front))

pub head_lacks : (front : List Token) (ps qs : List Piece) (p : Piece) → ps ≡ p ∷ qs → begins_sign (codes "(") p ≡ false
    → begins_sign (codes "=") p ≡ true → behind_front front (before_parentheses ps) ≡ None
head_lacks front ps qs p e h k = rw (e, h, k) refl

pub head_more : (front : List Token) (ps qs : List Piece) (p : Piece) → ps ≡ p ∷ qs → begins_sign (codes "(") p ≡ false
    → begins_sign (codes "=") p ≡ false → behind_front (front ++ p) (before_parentheses qs) ≡ behind_front front
    (before_parentheses ps)
head_more front ps qs p e h k = front_step front p (before_parentheses qs) ∙ (rw (e, h, k) refl)

pub take_step : {A : Type 0} (ts rest p after : List A) (size : ℕ) → drop size ts ≡ rest → rest ≡ p ++ after
    → drop (size + length p) ts ≡ after → take (size + length p) ts ≡ take size ts ++ p
take_step ts rest p after size at parts behind =
    let more = size + length p in
    let one : take more ts ++ after ≡ ts = ap (λ l. take more ts ++ l) (sym behind) ∙ take-append-drop more ts in
    let two : take size ts ++ p ++ after ≡ ts = append_assoc (take size ts) p after
    ∙ ap (λ l. take size ts ++ l) (sym parts ∙ sym at) ∙ take-append-drop size ts in
    drop_front (take more ts) (take size ts ++ p) after (one ∙ sym two)

-- ---- the last token

abbrev Ending : Type 0
Ending = List Token × Token

abbrev behind_token : Token → Ending → Ending
behind_token u x = (u ∷ x.0, x.1)

abbrev named_if : Bool → List Token → Token → Option Ending
named_if true before t = Some (before, t)
named_if false before t = None

one_more : (b : Bool) (u t : Token) (before : List Token) → option_map (behind_token u) (named_if b before t)
    ≡ named_if b (u ∷ before) t
one_more true u t before = refl
one_more false u t before = refl

alone : (b : Bool) (t : Token) → (if b then Some ([], t) else None) ≡ named_if b [] t
alone true t = refl
alone false t = refl

name_last : (before : List Token) (t : Token) → name_at_end (before ++ t ∷ []) ≡ named_if (is_name t) before t
name_last [] t = alone (is_name t) t
name_last (u ∷ []) t = ap (option_map (behind_token u)) (alone (is_name t) t) ∙ one_more (is_name t) u t []
name_last (u ∷ v ∷ before) t =
    ap (option_map (behind_token u)) (name_last (v ∷ before) t) ∙ one_more (is_name t) u t (v ∷ before)

pub name_found : (ts before : List Token) (t : Token) → ts ≡ before ++ t ∷ [] → is_name t ≡ true → name_at_end ts
    ≡ Some (before, t)
name_found ts before t e h = ap name_at_end e ∙ name_last before t ∙ ap (λ b. named_if b before t) h

pub name_lacks : (ts before : List Token) (t : Token) → ts ≡ before ++ t ∷ [] → is_name t ≡ false → name_at_end ts
    ≡ None
name_lacks ts before t e h = ap name_at_end e ∙ name_last before t ∙ ap (λ b. named_if b before t) h

pub none_at_end : (ts : List Token) → length ts ≡ 0 → name_at_end ts ≡ None
none_at_end [] e = refl
none_at_end (t ∷ ts) e = absurd (omega (arith, e))

ends_last : (test : Token → Bool) (before : List Token) (t : Token) → ends test (before ++ t ∷ []) ≡ test t
ends_last test [] t = refl
ends_last test (u ∷ []) t = refl
ends_last test (u ∷ v ∷ before) t = ends_last test (v ∷ before) t

pub ends_found : (test : Token → Bool) (ts before : List Token) (t : Token) → ts ≡ before ++ t ∷ [] → ends test ts
    ≡ test t
ends_found test ts before t e = ap (ends test) e ∙ ends_last test before t

pub ends_none : (test : Token → Bool) (ts : List Token) → length ts ≡ 0 → ends test ts ≡ false
ends_none test [] e = refl
ends_none test (t ∷ ts) e = absurd (omega (arith, e))
