-- A local class is read from its tokens, and is what a statement begins with.
use Rattle.std.proofs.Common.{◌≡◌, ℕ, Bool, true, false, cond, ◌&&◌, ◌||◌, List, [], ◌∷◌, ◌++◌, Option, Some, None}
use Rattle.std.proofs.Common.{IsTrue, inl, inr, refl, sym, ap, subst, ◌∙◌, codes}
use Rattle.std.specs.Prelude.{bytes_eq}
use Rattle.std.specs.Cmp.Lexicographic.{bytes_decides}
use Rattle.std.proofs.lemmas.Bool.{false≢true, and_parts, or_cases, or_left, or_right}
use Rattle.java_tree.specs.declared.words.Spelled.{Spelled}
use Rattle.java_tree.specs.Words.{keyword, identifier}
use Rattle.java_tree.specs.Brackets.{is_sign, is_keyword, is_word_name, is_class_word, are_none, is_some_and, closes}
use Rattle.java_tree.specs.Brackets.{awaited_in_head, closes_class, are_class}
use Rattle.java_parser_grammar.specs.Taking.{◌>>=◌}
use Rattle.java_parser_grammar.specs.BalancedReading.{closed_at}
use Rattle.java_parser_grammar.specs.Lookahead.{begins_class, ClassWord, statement_lead}
use Rattle.java_parser_grammar.specs.StatementReading.{class_from, local_class_at}
use Rattle.java_parser_grammar.proofs.Ensuring.{keyword_is, name_is}
use Rattle.java_parser_grammar.proofs.FoundTokens.{closed_found}

-- ---- from behind its name on

abbrev put : Spelled → List Spelled × List Spelled → Option (List Spelled × List Spelled)
put t others = Some (t ∷ others.0, others.1)

headed_turn : (t : Spelled) (ts rest : List Spelled) → ((more : List (List ℕ)) → closes_class more ts ≡ true
    → class_from more (ts ++ rest) ≡ Some (ts, rest)) → (o : Option (List (List ℕ)))
    → is_some_and o (λ more. closes_class more ts) ≡ true → (o >>= λ more. class_from more (ts ++ rest)
    >>= put t) ≡ Some (t ∷ ts, rest)
headed_turn t ts rest ih None h = absurd (false≢true h)
headed_turn t ts rest ih (Some more) h = rw (ih more h) refl

braced : (t : Spelled) (ts rest : List Spelled) (none : Bool) → (none && closes (codes "}" ∷ []) ts) ≡ true
    → cond none (closed_at (codes "}" ∷ []) (ts ++ rest) >>= put t) None
    ≡ Some (t ∷ ts, rest)
braced t ts rest true h = rw (closed_found ts (codes "}" ∷ []) h rest) refl
braced t ts rest false h = absurd (false≢true h)

headed_by : (t : Spelled) (ts rest : List Spelled) → ((more : List (List ℕ)) → closes_class more ts ≡ true
    → class_from more (ts ++ rest) ≡ Some (ts, rest)) → (brace : Bool) (o : Option (List (List ℕ))) (none : Bool)
    → cond brace (none && closes (codes "}" ∷ []) ts) (is_some_and o (λ more. closes_class more ts)) ≡ true
    → cond brace (cond none (closed_at (codes "}" ∷ []) (ts ++ rest) >>= put t) None)
    (o >>= λ more. class_from more (ts ++ rest) >>= put t) ≡ Some (t ∷ ts, rest)
headed_by t ts rest ih true o none h = braced t ts rest none h
headed_by t ts rest ih false o none h = headed_turn t ts rest ih o h

headed_found : (ts : List Spelled) (awaited : List (List ℕ)) → closes_class awaited ts ≡ true → (rest : List Spelled)
    → class_from awaited (ts ++ rest) ≡ Some (ts, rest)
unfolding class_from
headed_found [] awaited h rest = absurd (false≢true h)
headed_found (t ∷ ts) awaited h rest =
    headed_by t ts rest (λ more e. headed_found ts more e rest) (is_sign (codes "{") t) (awaited_in_head t awaited)
    (are_none awaited) h

-- ---- the whole

named_found : (x : List ℕ) (ts rest : List Spelled) → closes_class [] ts ≡ true → local_class_at (keyword
    (codes "class") ∷ identifier x ∷ ts ++ rest) ≡ Some ((x, keyword (codes "class") ∷ identifier x ∷ ts), rest)
unfolding local_class_at
named_found x ts rest h = rw (headed_found ts [] h rest) refl

-- the name behind `class`
class_name : (x : List ℕ) (u : Spelled) → is_word_name u ≡ true → bytes_eq u.text x ≡ true → u ≡ identifier x
class_name x u name same = name_is u name ∙ ap identifier ((bytes_decides u.text x).0 same)

unnamed_found : (x : List ℕ) (t u : Spelled) (ts rest : List Spelled) → (is_keyword (codes "class") t
    && (is_word_name u && (bytes_eq u.text x && closes_class [] ts))) ≡ true
    → local_class_at (t ∷ u ∷ ts ++ rest) ≡ Some ((x, t ∷ u ∷ ts), rest)
unnamed_found x t u ts rest h =
    let one = and_parts _ _ h in
    let two = and_parts _ _ one.1 in
    let three = and_parts _ _ two.1 in
    let word : t ≡ keyword (codes "class") = keyword_is (codes "class") t one.0 in
    let name : u ≡ identifier x = class_name x u two.0 three.0 in
    subst (λ t. local_class_at (t ∷ u ∷ ts ++ rest) ≡ Some ((x, t ∷ u ∷ ts), rest)) (sym word)
    (subst (λ u. local_class_at (keyword (codes "class") ∷ u ∷ ts ++ rest) ≡ Some (
      (
        x,
        keyword (codes "class") ∷ u
            ∷ ts,
      ),
      rest,
    )) (sym name) (named_found x ts rest three.1))

word_found : (x : List ℕ) (t u : Spelled) (ts rest : List Spelled) → (are_class x (u ∷ ts) ≡ true
    → local_class_at (u ∷ ts ++ rest) ≡ Some ((x, u ∷ ts), rest)) → (b : Bool) → is_class_word t ≡ b
    → cond b (are_class x (u ∷ ts)) (is_keyword (codes "class") t && (is_word_name u && (bytes_eq u.text x
    && closes_class [] ts))) ≡ true → local_class_at (t ∷ u ∷ ts ++ rest) ≡ Some ((x, t ∷ u ∷ ts), rest)
unfolding local_class_at
word_found x t u ts rest ih true word e = rw (word, ih e) refl
word_found x t u ts rest ih false word e = unnamed_found x t u ts rest e

pub local_class_found : (x : List ℕ) (ts : List Spelled) → are_class x ts ≡ true → (rest : List Spelled)
    → local_class_at (ts ++ rest) ≡ Some ((x, ts), rest)
local_class_found x [] h rest = absurd (false≢true h)
local_class_found x (t ∷ []) h rest = absurd (false≢true h)
local_class_found x (t ∷ u ∷ ts) h rest =
    word_found x t u ts rest (λ e. local_class_found x (u ∷ ts) e rest) (is_class_word t) refl h

-- ---- what it begins with

word_begins : (x : List ℕ) (t u : Spelled) (ts rest : List Spelled) → (are_class x (u ∷ ts) ≡ true
    → begins_class (u ∷ ts ++ rest) ≡ true) → (b : Bool) → is_class_word t ≡ b
    → cond b (are_class x (u ∷ ts)) (is_keyword (codes "class") t && (is_word_name u && (bytes_eq u.text x
    && closes_class [] ts))) ≡ true
    → (is_keyword (codes "class") t || (is_class_word t && begins_class (u ∷ ts ++ rest))) ≡ true
word_begins x t u ts rest ih true word e =
    or_right (is_keyword (codes "class") t) (is_class_word t && begins_class (u ∷ ts ++ rest)) (rw (word, ih e) refl)
word_begins x t u ts rest ih false word e =
    let first = and_parts (is_keyword (codes "class") t) (is_word_name u && (bytes_eq u.text x && closes_class [] ts))
    e in
    or_left (is_keyword (codes "class") t) (is_class_word t && begins_class (u ∷ ts ++ rest)) first.0

pub class_begins : (x : List ℕ) (ts : List Spelled) → are_class x ts ≡ true → (rest : List Spelled)
    → begins_class (ts ++ rest) ≡ true
class_begins x [] h rest = absurd (false≢true h)
class_begins x (t ∷ []) h rest = absurd (false≢true h)
class_begins x (t ∷ u ∷ ts) h rest =
    word_begins x t u ts rest (λ e. class_begins x (u ∷ ts) e rest) (is_class_word t) refl h

pub first_cases : (P : Spelled → Type 0) → P (keyword (codes "final")) → P (keyword (codes "abstract"))
    → P (keyword (codes "class")) → (t : Spelled) (ts : List Spelled) → begins_class (t ∷ ts) ≡ true → P t
first_cases P a b c t ts h =
    elim (or_cases (is_keyword (codes "class") t) (is_class_word t && begins_class ts) h) [
      | inl e ↦ subst P (sym (keyword_is (codes "class") t e)) c
      | inr e ↦ elim (or_cases (is_keyword (codes "final") t) (is_keyword (codes "abstract") t)
          (and_parts (is_class_word t) (begins_class ts) e).0) [
            | inl d ↦ subst P (sym (keyword_is (codes "final") t d)) a
            | inr d ↦ subst P (sym (keyword_is (codes "abstract") t d)) b
          ]
    ]

begun_lead : (ts : List Spelled) → begins_class ts ≡ true → statement_lead ts ≡ ClassWord ts
begun_lead [] h = absurd (false≢true h)
begun_lead (t ∷ ts) h =
    first_cases (λ t. begins_class (t ∷ ts) ≡ true → statement_lead (t ∷ ts) ≡ ClassWord (t ∷ ts)) (λ e. rw e refl)
    (λ e. rw e refl) (λ e. refl) t ts h h

pub class_lead : (x : List ℕ) (ts : List Spelled) → IsTrue (are_class x ts) → (rest : List Spelled)
    → statement_lead (ts ++ rest) ≡ ClassWord (ts ++ rest)
class_lead x ts h rest = begun_lead (ts ++ rest) (class_begins x ts h rest)
