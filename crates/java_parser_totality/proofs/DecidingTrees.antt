-- Whether tokens spell a formed type, a beginning of a variable, an annotation, modifiers or a result can be decided.
use Rattle.std.proofs.Common.{◌≡◌, ℕ, zero, suc, ◌≤◌, Bool, true, false, IsTrue, ◌⊎◌, inl, inr, List, [], ◌∷◌, ◌++◌}
use Rattle.std.proofs.Common.{Option, Some, None, length, refl, sym, ap, ◌∙◌, subst, arith, codes}
use Rattle.std.proofs.lemmas.List.{append-nil}
use Rattle.racer_base.specs.declared.limits.TheConstants.{MAX_NESTING}
use Rattle.java_lexer.specs.declared.token.TokenKind.{TokenKind}
use Rattle.java_lexer.specs.declared.token.TokenKind.TheVariants as kind
use Rattle.java_tree.specs.declared.words.Spelled.{Spelled}
use Rattle.java_tree.specs.Words.{sign, keyword, identifier}
use Rattle.java_tree.specs.Brackets.{is_sign, are_parentheses_or_none}
use Rattle.java_tree.specs.Trees.{Ty, Init, Annotation, Modifier, Word, Annotated, Result, NoResult, VoidResult}
use Rattle.java_tree.specs.Trees.{TypeResult}
use Rattle.java_tree.specs.Spelling.{behind_points, names_onto, ty_onto, init_onto, annotation_onto, modifier_onto}
use Rattle.java_tree.specs.Spelling.{modifiers_onto, result_onto}
use Rattle.java_tree.specs.FormedMethods.{FormedResult}
use Rattle.java_tree.specs.FormedModifiers.{Each, has_some, FormedAnnotation}
use Rattle.java_tree.specs.Formed.{FormedTy, FormedInit}
use Rattle.java_tree.specs.Nesting.{ty_nesting, init_nesting, result_nesting}
use Rattle.java_tree.specs.Brackets.{is_keyword, is_keyword_kind}
use Rattle.java_tree.specs.Brackets.{is_word_name}
use Rattle.java_parser_grammar.specs.Leads.{lead, pull}
use Rattle.java_parser_grammar.specs.TypeReading.{ty_at}
use Rattle.java_parser_grammar.specs.ExpressionReading.{init_at}
use Rattle.java_parser_grammar.proofs.Appended.{annotation_append}
use Rattle.java_parser_grammar.proofs.Ensuring.{of_equation, keyword_is, name_is}
use Rattle.java_parser_grammar.proofs.FoundExpressions.{init_found, nothing_leaves}
use Rattle.java_parser_grammar.proofs.FoundTypes.{ty_found}
use Rattle.java_parser_grammar.proofs.SoundExpressions.{variable_sound}
use Rattle.java_parser_grammar.proofs.SoundLists.{GotInit}
use Rattle.java_parser_grammar.proofs.SoundTypes.{GotTy, ty_sound}
use Rattle.java_parser_grammar.proofs.Taken.{sign_is}
use Rattle.java_parser_totality.proofs.Deciding.{Decided, decided-as, decided-both, decided-either, decided-true}
use Rattle.java_parser_totality.proofs.Deciding.{Split, decided-split}

-- ---- types and beginnings of variables

abbrev left_of : {A : Type 0} → Option (A × List Spelled) → List Spelled
left_of None = []
left_of (Some x) = x.1

more-left : {A : Type 0} (a b : A) (r : Spelled) (rs : List Spelled)
    → ◌≡◌ {A = Option (A × List Spelled)} (Some (a, r ∷ rs)) (Some (b, [])) → ⊥
more-left a b r rs e = let same : r ∷ rs ≡ [] = ap left_of e in cc

pub record IsType (s : List Spelled) (t : Ty) : Type 0 where
  pub formed : FormedTy t
  pub nested : ty_nesting t ≤ MAX_NESTING
  pub spelled : ty_onto t [] ≡ s

type-read : (s : List Spelled) (t : Ty) → IsType s t → ty_at MAX_NESTING s ≡ Some (t, [])
type-read s t is =
    ap (ty_at MAX_NESTING) (sym is.spelled)
    ∙ ty_found t is.formed MAX_NESTING [] is.nested (record { less = refl; point = refl; brackets = refl })

pub decided-type : (s : List Spelled) → Decided ((t : Ty) × IsType s t)
decided-type s = by (ty_at MAX_NESTING s) refl where
  by : (o : Option (Ty × List Spelled)) → ty_at MAX_NESTING s ≡ o → Decided ((t : Ty) × IsType s t)
  by None e = inr (λ a. let read = type-read s a.0 a.1 in cc)
  by (Some (t, [])) e =
      let g = of_equation (GotTy MAX_NESTING s) (ty_at MAX_NESTING s) (t, []) (ty_sound MAX_NESTING s) e in
      inl (t, record { formed = g.formed; nested = g.small; spelled = sym g.spelled })
  by (Some (t, (r ∷ rs))) e = inr (λ a. more-left t a.0 r rs (sym e ∙ type-read s a.0 a.1))

pub record IsInitOf (s : List Spelled) (i : Init) : Type 0 where
  pub formed : FormedInit i
  pub nested : init_nesting i ≤ MAX_NESTING
  pub spelled : init_onto i [] ≡ s

no-pull : pull [] ≤ 0
unfolding lead
no-pull = omega arith

init-read : (s : List Spelled) (i : Init) → IsInitOf s i → init_at MAX_NESTING s ≡ Some (i, [])
init-read s i is =
    ap (init_at MAX_NESTING) (sym is.spelled)
    ∙ init_found i is.formed MAX_NESTING [] is.nested no-pull nothing_leaves

pub decided-init : (s : List Spelled) → Decided ((i : Init) × IsInitOf s i)
decided-init s = by (init_at MAX_NESTING s) refl where
  by : (o : Option (Init × List Spelled)) → init_at MAX_NESTING s ≡ o → Decided ((i : Init) × IsInitOf s i)
  by None e = inr (λ a. let read = init-read s a.0 a.1 in cc)
  by (Some (i, [])) e =
      let g = of_equation (GotInit MAX_NESTING s) (init_at MAX_NESTING s) (i, []) (variable_sound MAX_NESTING s) e in
      inl (i, record { formed = g.formed; nested = g.small; spelled = sym g.spelled })
  by (Some (i, (r ∷ rs))) e = inr (λ a. more-left i a.0 r rs (sym e ∙ init-read s a.0 a.1))

-- ---- one token

pub decided-sign : (text : List ℕ) → is_sign text (sign text) ≡ true → (t : Spelled) → Decided (t ≡ sign text)
decided-sign text self t =
    decided-as (λ e. sign_is text t e) (λ e. ap (is_sign text) e ∙ self) (decided-true (is_sign text t))

pub decided-keyword : (text : List ℕ) → is_keyword text (keyword text) ≡ true → (t : Spelled)
    → Decided (t ≡ keyword text)
decided-keyword text self t =
    decided-as (λ e. keyword_is text t e) (λ e. ap (is_keyword text) e ∙ self) (decided-true (is_keyword text t))

abbrev ANameOf : Spelled → Type 0
ANameOf t = (x : List ℕ) × (t ≡ identifier x)

decided-name : (t : Spelled) → Decided (ANameOf t)
decided-name t =
    decided-as (λ e. (t.text, name_is t e)) (λ n. ap is_word_name n.1) (decided-true (is_word_name t))

abbrev AKeywordOf : Spelled → Type 0
AKeywordOf t = (x : List ℕ) × (t ≡ keyword x)

decided-any-keyword : (t : Spelled) → Decided (AKeywordOf t)
decided-any-keyword t = by t.kind t.text t.glued where
  kind-differs : (k : TokenKind) (u : List ℕ) (g : Bool) → is_keyword_kind k ≡ false
      → Decided (AKeywordOf (record { kind = k; text = u; glued = g }))
  kind-differs k u g differs =
      inr (λ a. let same : is_keyword_kind k ≡ true = ap (λ (x : Spelled). is_keyword_kind x.kind) a.1 in cc)

  by : (k : TokenKind) (u : List ℕ) (g : Bool) → Decided (AKeywordOf (record { kind = k; text = u; glued = g }))
  by kind.Keyword u false = inl (u, refl)
  by kind.Keyword u true =
      inr (λ a. let same : true ≡ false = ap (λ (x : Spelled). x.glued) a.1 in cc)
  by kind.Name u g = kind-differs kind.Name u g refl
  by kind.Fixed u g = kind-differs kind.Fixed u g refl
  by kind.Number u g = kind-differs kind.Number u g refl
  by kind.Character u g = kind-differs kind.Character u g refl
  by kind.Text u g = kind-differs kind.Text u g refl
  by kind.Sign u g = kind-differs kind.Sign u g refl

-- ---- names

abbrev Points : List Spelled → Type 0
Points s = (xs : List (List ℕ)) × (behind_points xs [] ≡ s)

abbrev APoint : Spelled → Spelled → List Spelled → Type 0
APoint p n s = (p ≡ sign (codes ".")) × (ANameOf n × Points s)

points-of : (p n : Spelled) (s : List Spelled) → APoint p n s → Points (p ∷ n ∷ s)
points-of p n s h = (
  h.1.0.0 ∷ h.1.1.0,
  ap (λ l. sign (codes ".") ∷ identifier h.1.0.0 ∷ l) h.1.1.1
      ∙ ap (λ (x : Spelled). x ∷ identifier h.1.0.0 ∷ s) (sym h.0) ∙ ap (λ (x : Spelled). p ∷ x ∷ s) (sym h.1.0.1),
)

of-points : (p n : Spelled) (s : List Spelled) (xs : List (List ℕ)) → behind_points xs [] ≡ p ∷ n ∷ s → APoint p n s
of-points p n s [] e = absurd cc
of-points p n s (x ∷ xs) e =
    let first : p ≡ sign (codes ".") = cc in
    let second : n ≡ identifier x = cc in
    let others : behind_points xs [] ≡ s = cc in
    (first, ((x, second), (xs, others)))

one-point : (p : Spelled) (xs : List (List ℕ)) → behind_points xs [] ≡ p ∷ [] → ⊥
one-point p [] e = cc
one-point p (x ∷ xs) e = cc

decided-points : (s : List Spelled) → Decided (Points s)
decided-points [] = inl ([], refl)
decided-points (p ∷ []) = inr (λ a. one-point p a.0 a.1)
decided-points (p ∷ n ∷ s) =
    decided-as (points-of p n s) (λ a. of-points p n s a.0 a.1)
    (decided-both (decided-sign (codes ".") refl p) (decided-both (decided-name n) (decided-points s)))

-- one name or more
abbrev Names : List Spelled → Type 0
Names s = (xs : List (List ℕ)) × IsTrue (has_some xs) × (names_onto xs [] ≡ s)

of-names : (n : Spelled) (s : List Spelled) (xs : List (List ℕ)) → IsTrue (has_some xs) → names_onto xs [] ≡ n ∷ s
    → ANameOf n × Points s
of-names n s [] some e = absurd cc
of-names n s (x ∷ xs) some e =
    let first : n ≡ identifier x = cc in
    let others : behind_points xs [] ≡ s = cc in
    ((x, first), (xs, others))

no-names : (xs : List (List ℕ)) → IsTrue (has_some xs) → names_onto xs [] ≡ [] → ⊥
no-names [] some e = cc
no-names (x ∷ xs) some e = cc

decided-names : (s : List Spelled) → Decided (Names s)
decided-names [] = inr (λ a. no-names a.0 a.1 a.2)
decided-names (n ∷ s) =
    decided-as
    (λ h. (
      h.0.0 ∷ h.1.0,
      refl,
      ap (λ l. identifier h.0.0 ∷ l) h.1.1 ∙ ap (λ (x : Spelled). x ∷ s) (sym h.0.1),
    ))
    (λ a. of-names n s a.0 a.1 a.2) (decided-both (decided-name n) (decided-points s))

-- ---- annotations

abbrev pub AnAnnotation : List Spelled → Type 0
AnAnnotation s = (n : Annotation) × FormedAnnotation n × (annotation_onto n [] ≡ s)

points-append : (xs : List (List ℕ)) (r : List Spelled) → behind_points xs r ≡ behind_points xs [] ++ r
points-append [] r = refl
points-append (x ∷ xs) r = ap (λ l. sign (codes ".") ∷ identifier x ∷ l) (points-append xs r)

pub names-append : (xs : List (List ℕ)) (r : List Spelled) → names_onto xs r ≡ names_onto xs [] ++ r
names-append [] r = refl
names-append (x ∷ xs) r = ap (λ l. identifier x ∷ l) (points-append xs r)

abbrev InTwo : List Spelled → List Spelled → Type 0
InTwo a b = Names a × IsTrue (are_parentheses_or_none b)

annotation-of : (t : Spelled) (s : List Spelled) → t ≡ sign (codes "@") → Split InTwo s → AnAnnotation (t ∷ s)
annotation-of t s at h = (
  record { names = h.is.0.0; arguments = h.back },
  (h.is.0.1, h.is.1),
  ap (λ l. sign (codes "@") ∷ l) (names-append h.is.0.0 (h.back ++ []) ∙ ap (λ l. l ++ (h.back ++ [])) h.is.0.2
      ∙ ap (λ l. h.front ++ l) (append-nil h.back) ∙ h.parts)
      ∙ ap (λ (x : Spelled). x ∷ s) (sym at),
)

of-annotation : (t : Spelled) (s : List Spelled) → AnAnnotation (t ∷ s) → (t ≡ sign (codes "@")) × Split InTwo s
of-annotation t s a =
    let n = a.0 in
    let spelled : sign (codes "@") ∷ names_onto n.names (n.arguments ++ []) ≡ t ∷ s = a.2 in
    let first : t ≡ sign (codes "@") = cc in
    let others : names_onto n.names (n.arguments ++ []) ≡ s = cc in (
      first,
      record {
        front = names_onto n.names [];
        back = n.arguments;
        parts = ap (λ l. names_onto n.names [] ++ l) (sym (append-nil n.arguments))
            ∙ sym (names-append n.names (n.arguments ++ [])) ∙ others;
        is = ((n.names, a.1.0, refl), a.1.1);
      },
    )

no-annotation : AnAnnotation [] → ⊥
no-annotation a = cc-of a.2 where
  cc-of : {t : Spelled} {s : List Spelled} → t ∷ s ≡ [] → ⊥
  cc-of e = cc

decided-annotation : (s : List Spelled) → Decided (AnAnnotation s)
decided-annotation [] = inr no-annotation
decided-annotation (t ∷ s) =
    decided-as (λ h. annotation-of t s h.0 h.1) (of-annotation t s)
    (decided-both (decided-sign (codes "@") refl t) (decided-split InTwo s (λ a b e. decided-both (decided-names a)
    (decided-true (are_parentheses_or_none b)))))

-- ---- modifiers

abbrev first_text : List Spelled → List ℕ
first_text [] = []
first_text (t ∷ ts) = t.text

module _ (Fine : Modifier → Type 0) (words : (text : List ℕ) → Decided (Fine (Word text)))
    (fine : (n : Annotation) → FormedAnnotation n → Fine (Annotated n))
    (formed : (n : Annotation) → Fine (Annotated n) → FormedAnnotation n) where
  abbrev AModifier : List Spelled → Type 0
  AModifier s = (m : Modifier) × Fine m × (modifier_onto m [] ≡ s)

  abbrev AWord : List Spelled → Type 0
  AWord s = (text : List ℕ) × Fine (Word text) × (keyword text ∷ [] ≡ s)

  of-word : (t : Spelled) (x : List ℕ) → t ≡ keyword x → AWord (t ∷ []) → Fine (Word x)
  of-word t x is w =
      let same : w.0 ≡ x = ap first_text (w.2 ∙ ap (λ (y : Spelled). y ∷ []) is) in
      subst (λ y. Fine (Word y)) same w.1

  decided-word : (s : List Spelled) → Decided (AWord s)
  decided-word [] = inr (λ w. nil w.2) where
    nil : {t : Spelled} {s : List Spelled} → t ∷ s ≡ [] → ⊥
    nil e = cc
  decided-word (t ∷ []) = by (decided-any-keyword t) where
    fine-word : (x : List ℕ) → t ≡ keyword x → Decided (Fine (Word x)) → Decided (AWord (t ∷ []))
    fine-word x is (inl f) = inl (x, f, ap (λ (y : Spelled). y ∷ []) (sym is))
    fine-word x is (inr none) = inr (λ w. none (of-word t x is w))

    by : Decided (AKeywordOf t) → Decided (AWord (t ∷ []))
    by (inl (x, is)) = fine-word x is (words x)
    by (inr none) = inr (λ w. none (w.0, first w.2)) where
      first : {y : Spelled} → y ∷ [] ≡ t ∷ [] → t ≡ y
      first e = cc
  decided-word (t ∷ u ∷ s) = inr (λ w. more w.2) where
    more : {y : Spelled} → y ∷ [] ≡ t ∷ u ∷ s → ⊥
    more e = cc

  modifier-of : (s : List Spelled) → AWord s ⊎ AnAnnotation s → AModifier s
  modifier-of s (inl w) = (Word w.0, w.1, w.2)
  modifier-of s (inr a) = (Annotated a.0, fine a.0 a.1, a.2)

  of-modifier : (s : List Spelled) (m : Modifier) → Fine m → modifier_onto m [] ≡ s → AWord s ⊎ AnAnnotation s
  of-modifier s (Word text) f e = inl (text, f, e)
  of-modifier s (Annotated n) f e = inr (n, formed n f, e)

  decided-modifier : (s : List Spelled) → Decided (AModifier s)
  decided-modifier s =
      decided-as (modifier-of s) (λ a. of-modifier s a.0 a.1 a.2)
      (decided-either (decided-word s) (decided-annotation s))

  abbrev pub Modifiers : List Spelled → Type 0
  Modifiers s = (ms : List Modifier) × Each Fine ms × (modifiers_onto ms [] ≡ s)

  modifier-append : (m : Modifier) (r : List Spelled) → modifier_onto m r ≡ modifier_onto m [] ++ r
  modifier-append (Word text) r = refl
  modifier-append (Annotated n) r = annotation_append n [] r

  abbrev FirstModifier : Spelled → List Spelled → List Spelled → Type 0
  FirstModifier t a b = AModifier (t ∷ a) × Modifiers b

  modifiers-of : (t : Spelled) (s : List Spelled) → Split (FirstModifier t) s → Modifiers (t ∷ s)
  modifiers-of t s h = (
    h.is.0.0 ∷ h.is.1.0,
    (h.is.0.1, h.is.1.1),
    modifier-append h.is.0.0 (modifiers_onto h.is.1.0 []) ∙ ap (λ l. l ++ modifiers_onto h.is.1.0 []) h.is.0.2
        ∙ ap (λ l. t ∷ h.front ++ l) h.is.1.2 ∙ ap (λ (l : List Spelled). t ∷ l) h.parts,
  )

  -- the tokens of the first modifier are not none
  first-modifier : (t : Spelled) (s : List Spelled) (m : Modifier) (ms : List Modifier) → Fine m → Each Fine ms
      → (a : List Spelled) → modifier_onto m [] ≡ a → a ++ modifiers_onto ms [] ≡ t ∷ s → Split (FirstModifier t) s
  first-modifier t s (Word text) ms f g [] is e = absurd cc
  first-modifier t s (Annotated n) ms f g [] is e = absurd (no-annotation (n, formed n f, is))
  first-modifier t s m ms f g (u ∷ a) is e =
      let same : u ≡ t = cc in
      let others : a ++ modifiers_onto ms [] ≡ s = cc in
      record {
        front = a;
        back = modifiers_onto ms [];
        parts = others;
        is = ((m, f, is ∙ ap (λ (x : Spelled). x ∷ a) same), (ms, g, refl));
      }

  of-modifiers : (t : Spelled) (s : List Spelled) (ms : List Modifier) → Each Fine ms → modifiers_onto ms [] ≡ t ∷ s
      → Split (FirstModifier t) s
  of-modifiers t s [] f e = absurd cc
  of-modifiers t s (m ∷ ms) f e =
      first-modifier t s m ms f.0 f.1 (modifier_onto m []) refl (sym (modifier-append m (modifiers_onto ms [])) ∙ e)

  back-shorter : (k : ℕ) (a b s : List Spelled) → a ++ b ≡ s → length s ≤ k → length b ≤ k
  back-shorter k [] b s e few = subst (λ l. length l ≤ k) (sym e) few
  back-shorter k (x ∷ a) b [] e few = absurd cc
  back-shorter k (x ∷ a) b (y ∷ s) e few =
      let others : a ++ b ≡ s = cc in
      let fewer : length s ≤ k = omega (arith, few) in
      back-shorter k a b s others fewer

  within : (k : ℕ) (s : List Spelled) → length s ≤ k → Decided (Modifiers s)
  within k [] few = inl ([], tt, refl)
  within zero (t ∷ s) few = absurd (omega (arith, few))
  within (suc k) (t ∷ s) few =
      let fewer : length s ≤ k = omega (arith, few) in
      decided-as (modifiers-of t s) (λ a. of-modifiers t s a.0 a.1 a.2)
      (decided-split (FirstModifier t) s (λ a b e. decided-both (decided-modifier (t ∷ a))
      (within k b (back-shorter k a b s e fewer))))

  pub decided-modifiers : (s : List Spelled) → Decided (Modifiers s)
  decided-modifiers s = let all : length s ≤ length s = omega arith in within (length s) s all

-- ---- results

pub record IsResultOf (s : List Spelled) (r : Result) : Type 0 where
  pub some : r ≡ NoResult → ⊥
  pub formed : FormedResult r
  pub nested : result_nesting r ≤ MAX_NESTING
  pub spelled : result_onto r [] ≡ s

abbrev pub AResult : List Spelled → Type 0
AResult s = (r : Result) × IsResultOf s r

abbrev is_none : Result → Bool
is_none NoResult = true
is_none _ = false

result-of : (s : List Spelled) → (keyword (codes "void") ∷ [] ≡ s) ⊎ ((t : Ty) × IsType s t) → AResult s
result-of s (inl e) = (
  VoidResult,
  record {
    some = λ no. let wrong : false ≡ true = ap is_none no in cc;
    formed = tt;
    nested = omega arith;
    spelled = e;
  },
)
result-of s (inr a) = (
  TypeResult a.0,
  record {
    some = λ no. let wrong : false ≡ true = ap is_none no in cc;
    formed = a.1.formed;
    nested = a.1.nested;
    spelled = a.1.spelled;
  },
)

of-result : (s : List Spelled) (r : Result) → IsResultOf s r
    → (keyword (codes "void") ∷ [] ≡ s) ⊎ ((t : Ty) × IsType s t)
of-result s NoResult is = absurd (is.some refl)
of-result s VoidResult is = inl is.spelled
of-result s (TypeResult t) is =
    inr (t, record { formed = is.formed; nested = is.nested; spelled = is.spelled })

decided-void : (s : List Spelled) → Decided (keyword (codes "void") ∷ [] ≡ s)
decided-void [] = inr (λ e. cc)
decided-void (t ∷ []) =
    decided-as (λ e. ap (λ (x : Spelled). x ∷ []) (sym e)) (λ e. let same : t ≡ keyword (codes "void") = cc in same)
    (decided-keyword (codes "void") refl t)
decided-void (t ∷ u ∷ s) = inr (λ e. cc)

pub decided-result : (s : List Spelled) → Decided (AResult s)
decided-result s =
    decided-as (result-of s) (λ a. of-result s a.0 a.1) (decided-either (decided-void s) (decided-type s))
