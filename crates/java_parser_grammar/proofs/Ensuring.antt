-- What holds of a value, if there is one; and what the tokens were that were taken.
use Rattle.std.proofs.Common.{◌≡◌, ℕ, zero, suc, Bool, true, false, not, ◌&&◌, cond, List, [], ◌∷◌, Option, Some}
use Rattle.std.proofs.Common.{None, refl, ap, ◌∙◌, codes}
use Rattle.std.specs.Prelude.{bytes_eq}
use Rattle.std.specs.Cmp.Lexicographic.{bytes_decides}
use Rattle.java_lexer.specs.declared.token.TokenKind.{TokenKind}
use Rattle.java_lexer.specs.declared.token.TokenKind.TheVariants as kind
use Rattle.java_tree.specs.declared.words.Spelled.{Spelled}
use Rattle.java_tree.specs.Words.{sign, sign_glued, keyword, identifier}
use Rattle.java_tree.specs.Brackets.{is_sign, is_sign_kind}
use Rattle.java_tree.specs.Spelling.{brackets_onto}
use Rattle.java_tree.specs.Formed.{is_plain_word}
use Rattle.java_tree.specs.Brackets.{is_keyword, is_keyword_kind, is_name_kind}
use Rattle.java_parser_grammar.specs.Taking.{◌>>=◌, match_option, after_sign}
use Rattle.java_parser_grammar.specs.Taking.{after_keyword, after_name, after_angle, after_glued}
use Rattle.java_parser_grammar.specs.TypeReading.{after_plain, after_brackets, brackets_at}
use Rattle.java_parser_grammar.proofs.Taken.{sign_is}

-- if there is a value, P holds of it
abbrev pub Ensures : {A : Type 0} → (A → Type 0) → Option A → Type 0
Ensures P None = Unit {0}
Ensures P (Some x) = P x

pub then_ensures : {A B : Type 0} (P : A → Type 0) (Q : B → Type 0) (o : Option A) (f : A → Option B) → Ensures P o
    → ((x : A) → P x → Ensures Q (f x)) → Ensures Q (o >>= f)
then_ensures P Q None f p q = tt
then_ensures P Q (Some x) f p q = q x p

pub if_ensures : {A : Type 0} (Q : A → Type 0) (b : Bool) (x y : Option A) → (b ≡ true → Ensures Q x)
    → (b ≡ false → Ensures Q y) → Ensures Q (cond b x y)
if_ensures Q true x y p q = p refl
if_ensures Q false x y p q = q refl

pub match_ensures : {A B : Type 0} (P : A → Type 0) (Q : B → Type 0) (o : Option A) (b : Option B) (f : A → Option B)
    → Ensures P o → Ensures Q b → ((x : A) → P x → Ensures Q (f x)) → Ensures Q (match_option o b f)
match_ensures P Q None b f p n q = n
match_ensures P Q (Some x) b f p n q = q x p

pub weaker : {A : Type 0} (P Q : A → Type 0) (o : Option A) → ((x : A) → P x → Q x) → Ensures P o → Ensures Q o
weaker P Q None f p = tt
weaker P Q (Some x) f p = f x p

pub of_equation : {A : Type 0} (P : A → Type 0) (o : Option A) (x : A) → Ensures P o → o ≡ Some x → P x
of_equation P None x p e = absurd cc
of_equation P (Some y) x p e = let same : y ≡ x = cc in rw (← same) p

-- ---- one token

pub keyword_is : (text : List ℕ) (t : Spelled) → is_keyword text t ≡ true → t ≡ keyword text
keyword_is text t h = by_parts text t.kind t.text t.glued h where
  by_parts : (text : List ℕ) (k : TokenKind) (u : List ℕ) (g : Bool) → is_keyword text (record {
    kind = k;
    text = u;
    glued = g;
  }) ≡ true → record { kind = k; text = u; glued = g } ≡ keyword text
  by_parts text kind.Keyword u false e = ap keyword ((bytes_decides u text).0 e)
  by_parts text kind.Keyword u true e = absurd cc
  by_parts text _ u g e = absurd cc

pub name_is : (t : Spelled) → (is_name_kind t.kind && not t.glued) ≡ true → t ≡ identifier t.text
name_is t h = by_parts t.kind t.text t.glued h where
  by_parts : (k : TokenKind) (u : List ℕ) (g : Bool) → (is_name_kind k && not g) ≡ true → record {
    kind = k;
    text = u;
    glued = g;
  } ≡ identifier u
  by_parts kind.Name u false e = refl
  by_parts kind.Name u true e = absurd cc
  by_parts _ u g e = absurd cc

plain_is : (t : Spelled) → (is_keyword_kind t.kind && (not t.glued && is_plain_word t.text)) ≡ true
    → (t ≡ keyword t.text) × (is_plain_word t.text ≡ true)
plain_is t h = by_parts t.kind t.text t.glued h where
  by_parts : (k : TokenKind) (u : List ℕ) (g : Bool) → (is_keyword_kind k && (not g && is_plain_word u)) ≡ true
      → (record { kind = k; text = u; glued = g } ≡ keyword u) × (is_plain_word u ≡ true)
  by_parts kind.Keyword u false e = (refl, e)
  by_parts kind.Keyword u true e = absurd cc
  by_parts _ u g e = absurd cc

angle_is : (t : Spelled) → (is_sign_kind t.kind && bytes_eq t.text (codes ">")) ≡ true → t ≡ sign_glued t.glued
    (codes ">")
angle_is t h = by_parts t.kind t.text t.glued h where
  by_parts : (k : TokenKind) (u : List ℕ) (g : Bool) → (is_sign_kind k && bytes_eq u (codes ">")) ≡ true
      → record { kind = k; text = u; glued = g } ≡ sign_glued g (codes ">")
  by_parts kind.Sign u g e = ap (λ (v : List ℕ). sign_glued g v) ((bytes_decides u (codes ">")).0 e)
  by_parts _ u g e = absurd cc

glued_is : (t : Spelled) → (is_sign_kind t.kind && (t.glued && bytes_eq t.text (codes ">"))) ≡ true → t ≡ sign_glued
    true (codes ">")
glued_is t h = by_parts t.kind t.text t.glued h where
  by_parts : (k : TokenKind) (u : List ℕ) (g : Bool) → (is_sign_kind k && (g && bytes_eq u (codes ">"))) ≡ true
      → record { kind = k; text = u; glued = g } ≡ sign_glued true (codes ">")
  by_parts kind.Sign u true e = ap (λ (v : List ℕ). sign_glued true v) ((bytes_decides u (codes ">")).0 e)
  by_parts kind.Sign u false e = absurd cc
  by_parts _ u g e = absurd cc

-- ---- tokens taken

pub sign_taken : (text : List ℕ) (ts : List Spelled) → Ensures (λ r. ts ≡ sign text ∷ r) (after_sign text ts)
sign_taken text [] = tt
sign_taken text (t ∷ ts) = if_ensures (λ r. t ∷ ts ≡ sign text ∷ r) (is_sign text t) _ _ (λ e. ap (λ (u : Spelled). u
    ∷ ts) (sign_is text t e)) (λ e. tt)

pub keyword_taken : (text : List ℕ) (ts : List Spelled) → Ensures (λ r. ts ≡ keyword text ∷ r) (after_keyword text ts)
keyword_taken text [] = tt
keyword_taken text (t ∷ ts) = if_ensures (λ r. t ∷ ts ≡ keyword text ∷ r) (is_keyword text t) _ _
    (λ e. ap (λ (u : Spelled). u ∷ ts) (keyword_is text t e)) (λ e. tt)

pub name_taken : (ts : List Spelled) → Ensures (λ (x : List ℕ × List Spelled). ts ≡ identifier x.0 ∷ x.1)
    (after_name ts)
name_taken [] = tt
name_taken (t ∷ ts) = if_ensures (λ (x : List ℕ × List Spelled). t ∷ ts ≡ identifier x.0 ∷ x.1) (is_name_kind t.kind
    && not t.glued) _ _ (λ e. ap (λ (u : Spelled). u ∷ ts) (name_is t e)) (λ e. tt)

pub plain_taken : (ts : List Spelled) → Ensures (λ (x : List ℕ × List Spelled). (ts ≡ keyword x.0 ∷ x.1)
    × (is_plain_word x.0 ≡ true)) (after_plain ts)
plain_taken [] = tt
plain_taken (t ∷ ts) =
    if_ensures (λ (x : List ℕ × List Spelled). (t ∷ ts ≡ keyword x.0 ∷ x.1) × (is_plain_word x.0 ≡ true))
    (is_keyword_kind t.kind && (not t.glued && is_plain_word t.text)) _ _
    (λ e. (ap (λ (u : Spelled). u ∷ ts) (plain_is t e).0, (plain_is t e).1)) (λ e. tt)

pub angle_taken : (ts : List Spelled) → Ensures (λ (x : Bool × List Spelled). ts ≡ sign_glued x.0 (codes ">") ∷ x.1)
    (after_angle ts)
angle_taken [] = tt
angle_taken (t ∷ ts) = if_ensures (λ (x : Bool × List Spelled). t ∷ ts ≡ sign_glued x.0 (codes ">") ∷ x.1)
    (is_sign_kind t.kind && bytes_eq t.text (codes ">")) _ _ (λ e. ap (λ (u : Spelled). u ∷ ts) (angle_is t e))
    (λ e. tt)

pub glued_taken : (ts : List Spelled) → Ensures (λ r. ts ≡ sign_glued true (codes ">") ∷ r) (after_glued ts)
glued_taken [] = tt
glued_taken (t ∷ ts) = if_ensures (λ r. t ∷ ts ≡ sign_glued true (codes ">") ∷ r) (is_sign_kind t.kind
    && (t.glued && bytes_eq t.text (codes ">"))) _ _ (λ e. ap (λ (u : Spelled). u ∷ ts) (glued_is t e)) (λ e. tt)

pub brackets_taken : (ts : List Spelled) → Ensures (λ r. ts ≡ sign (codes "[") ∷ sign (codes "]") ∷ r)
    (after_brackets ts)
brackets_taken ts =
    then_ensures _ (λ r. ts ≡ sign (codes "[") ∷ sign (codes "]") ∷ r) (after_sign (codes "[") ts) (λ r. after_sign
    (codes "]") r) (sign_taken (codes "[") ts)
    (λ r e. weaker _ (λ s. ts ≡ sign (codes "[") ∷ sign (codes "]") ∷ s) (after_sign (codes "]") r) (λ s f. e
    ∙ ap (λ (u : List Spelled). sign (codes "[") ∷ u) f) (sign_taken (codes "]") r))

-- the brackets that are counted
abbrev pub BracketsAre : List Spelled → ℕ × List Spelled → Type 0
BracketsAre ts b = ts ≡ brackets_onto b.0 b.1

brackets_case : (m : ℕ) (ts : List Spelled) → ((r : List Spelled) → BracketsAre r (brackets_at m r))
    → (o : Option (List Spelled)) → Ensures (λ r. ts ≡ sign (codes "[") ∷ sign (codes "]") ∷ r) o → BracketsAre ts
    (match_option o (0, ts) (λ r. let b = brackets_at m r in (suc b.0, b.1)))
brackets_case m ts are None e = refl
brackets_case m ts are (Some r) e = e ∙ ap (λ (u : List Spelled). sign (codes "[") ∷ sign (codes "]") ∷ u) (are r)

pub brackets_are : (m : ℕ) (ts : List Spelled) → BracketsAre ts (brackets_at m ts)
unfolding brackets_at
brackets_are zero ts = refl
brackets_are (suc m) ts = brackets_case m ts (brackets_are m) (after_brackets ts) (brackets_taken ts)
