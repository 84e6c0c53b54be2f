-- A loop that reads modifiers: what it has, and what it still reads.
use Rattle.std.proofs.Common.{◌≡◌, ℕ, zero, suc, ◌+◌, ◌-◌, ◌≤◌, ◌<◌, Bool, true, false, List, [], ◌∷◌, ◌++◌, length}
use Rattle.std.proofs.Common.{map, option_map, codes, Option, Some, None, refl, sym, ap, ◌∙◌, append-nil, cond}
use Rattle.std.specs.Prelude.{bytes_eq, not, ◌&&◌}
use Rattle.std.specs.Cmp.Lexicographic.{bytes_decides}
use Rattle.java_lexer.specs.declared.token.Token.{Token}
use Rattle.java_lexer.specs.declared.token.TokenKind.{TokenKind}
use Rattle.java_lexer.specs.declared.token.TokenKind.TheVariants as kind
use Rattle.java_tree.specs.declared.words.Spelled.{Spelled}
use Rattle.java_tree.specs.Brackets.{is_keyword_kind}
use Rattle.java_tree.specs.Trees.{Modifier, Annotation}
use Rattle.java_parser_types.specs.declared.error.ReadError.{ReadError}
use Rattle.java_parser_types.specs.declared.error.ReadError.TheVariants.{Memory, Unformed}
use Rattle.java_parser_grammar.specs.Taking.{after_sign, after_keyword}
use Rattle.java_parser_grammar.specs.Lookahead.{after_modifier}
use Rattle.java_parser_grammar.specs.BalancedReading.{annotation_at, variable_modifiers_at}
use Rattle.java_parser_grammar.specs.ClassHeadReading.{word_at, modifier_at, type_modifiers_at}
use Rattle.java_parser_grammar.specs.MethodReading.{modifiers_at}
use Rattle.java_parser_methods.specs.declared.modifiers.ModifierWords.{ModifierWords}
use Rattle.java_parser_methods.specs.declared.modifiers.ModifierWords.TheVariants as words
use Rattle.java_parser_methods.specs.ModifierReading.{is_word, words_behind, listed_at}
use Rattle.java_parser_types.specs.Tokens.{spelled}
use Rattle.java_parser_types.specs.Finishing.{finished}
use Rattle.java_parser_types.specs.Endings.{as_they_are}
use Rattle.java_parser_types.specs.ReadAnswer.{Fails}
use Rattle.java_parser_parts.proofs.LabelLoops.{alone}
use Rattle.java_parser_types.proofs.ReadLoops.{some_left, none_left, regroup}

-- ---- the loop

module _ (total : Option (List Modifier × List Spelled)) (tokens : List Token) (i : ℕ) (front : List Modifier)
    (ws : ModifierWords) where
  pub modifier_goes_on : (x : Modifier) (here rest : List Spelled) → i < length tokens
      → modifier_at (is_word ws) here ≡ Some (Some (x, rest))
      → finished as_they_are front (listed_at ws (length (map spelled tokens) - i) here) ≡ finished as_they_are []
      total → finished as_they_are (front ++ x ∷ []) (listed_at (words_behind ws x)
      (length (map spelled tokens) - (i + 1)) rest) ≡ finished as_they_are [] total
  unfolding listed_at
  modifier_goes_on x here rest lt g so_far =
      let k = some_left tokens i lt in
      let one : finished as_they_are front (listed_at ws (length (map spelled tokens) - i) here)
      ≡ finished as_they_are (front ++ x ∷ []) (listed_at (words_behind ws x) (length (map spelled tokens) - (i + 1))
      rest) =
      rw (k, g) (regroup as_they_are front x (listed_at (words_behind ws x) (length (map spelled tokens) - (i + 1))
      rest)) in
      sym one ∙ so_far

  pub modifier_fails : (e : ReadError) (here : List Spelled) → i < length tokens
      → Fails e (modifier_at (is_word ws) here)
      → finished as_they_are front (listed_at ws (length (map spelled tokens) - i) here) ≡ finished as_they_are []
      total → Fails e total
  unfolding listed_at
  modifier_fails Memory here lt g so_far = tt
  modifier_fails Unformed here lt g so_far =
      let k = some_left tokens i lt in
      let one : finished as_they_are front (listed_at ws (length (map spelled tokens) - i) here) ≡ None =
      rw (k, g) refl in
      sym (alone total) ∙ (sym so_far ∙ one)

  pub modifiers_end : (rest : List Spelled) → i < length tokens → modifier_at (is_word ws) rest ≡ Some None
      → finished as_they_are front (listed_at ws (length (map spelled tokens) - i) rest) ≡ finished as_they_are []
      total → total ≡ Some (front, rest)
  unfolding listed_at
  modifiers_end rest lt g so_far =
      let k = some_left tokens i lt in
      let one : finished as_they_are front (listed_at ws (length (map spelled tokens) - i) rest) ≡ Some (front, rest) =
      rw (k, g) (ap (λ (xs : List Modifier). Some (xs, rest)) (append-nil front)) in
      sym (alone total) ∙ (sym so_far ∙ one)

  pub modifiers_run_out : (rest : List Spelled) → length tokens ≤ i
      → finished as_they_are front (listed_at ws (length (map spelled tokens) - i) rest) ≡ finished as_they_are []
      total → total ≡ None
  unfolding listed_at
  modifiers_run_out rest le so_far =
      let k = none_left tokens i le in
      let one : finished as_they_are front (listed_at ws (length (map spelled tokens) - i) rest) ≡ None = rw k refl in
      sym (alone total) ∙ (sym so_far ∙ one)

-- ---- of types

abbrev Same : ModifierWords → (ℕ → List Spelled → Option (List Modifier × List Spelled)) → ℕ → Type 0
Same ws read m = (us : List Spelled) → listed_at ws m us ≡ read m us

type_one : (m : ℕ) (ts : List Spelled) (o : Option (Option (Modifier × List Spelled))) → Same words.Type
    type_modifiers_at m → modifier_at (is_word words.Type) ts ≡ o
    → listed_at words.Type (suc m) ts ≡ type_modifiers_at (suc m) ts
unfolding listed_at type_modifiers_at
type_one m ts None more e = rw e refl
type_one m ts (Some None) more e = rw e refl
type_one m ts (Some (Some x)) more e = rw (e, more x.1) refl

pub listed_of_type : (m : ℕ) → Same words.Type type_modifiers_at m
unfolding listed_at type_modifiers_at
listed_of_type zero ts = refl
listed_of_type (suc m) ts = type_one m ts (modifier_at (is_word words.Type) ts) (listed_of_type m) refl

-- ---- of methods

method_annotation : (m : ℕ) (ts r : List Spelled) (o : Option (Annotation × List Spelled)) → Same words.Method
    modifiers_at m → after_sign (codes "@") ts ≡ Some r → annotation_at r ≡ o
    → listed_at words.Method (suc m) ts ≡ modifiers_at (suc m) ts
unfolding listed_at modifiers_at
method_annotation m ts r None more e f = rw (e, f) refl
method_annotation m ts r (Some x) more e f = rw (e, f, more x.1) refl

method_word : (m : ℕ) (ts : List Spelled) (o : Option (List ℕ × List Spelled)) → Same words.Method modifiers_at m
    → after_sign (codes "@") ts ≡ None → after_modifier ts ≡ o
    → listed_at words.Method (suc m) ts ≡ modifiers_at (suc m) ts
unfolding listed_at modifiers_at
method_word m ts None more e f = rw (e, f) refl
method_word m ts (Some w) more e f = rw (e, f, more w.1) refl

method_one : (m : ℕ) (ts : List Spelled) (o : Option (List Spelled)) → Same words.Method modifiers_at m
    → after_sign (codes "@") ts ≡ o → listed_at words.Method (suc m) ts ≡ modifiers_at (suc m) ts
method_one m ts None more e = method_word m ts (after_modifier ts) more e refl
method_one m ts (Some r) more e = method_annotation m ts r (annotation_at r) more e refl

pub listed_of_method : (m : ℕ) → Same words.Method modifiers_at m
unfolding listed_at modifiers_at
listed_of_method zero ts = refl
listed_of_method (suc m) ts = method_one m ts (after_sign (codes "@") ts) (listed_of_method m) refl

-- ---- of variables

abbrev final_named : List Spelled → List ℕ × List Spelled
final_named r = (codes "final", r)

word_of_variable : (ts : List Spelled) → word_at (is_word words.Variable) ts ≡ option_map final_named
    (after_keyword (codes "final") ts)
word_of_variable [] = refl
word_of_variable (t ∷ ts) = by_parts t.kind t.text t.glued where
  by_text : (u : List ℕ) (b : Bool) → bytes_eq u (codes "final") ≡ b → cond b (Some (u, ts)) None ≡ option_map
      final_named (cond b (Some ts) None)
  by_text u true e = ap (λ (x : List ℕ). Some (x, ts)) ((bytes_decides u (codes "final")).0 e)
  by_text u false e = refl

  by_parts : (k : TokenKind) (u : List ℕ) (g : Bool) → word_at (is_word words.Variable) (record {
    kind = k;
    text = u;
    glued = g;
  } ∷ ts) ≡ option_map final_named (after_keyword (codes "final") (record { kind = k; text = u; glued = g } ∷ ts))
  by_parts kind.Keyword u false = by_text u (bytes_eq u (codes "final")) refl
  by_parts kind.Keyword u true = refl
  by_parts _ u g = refl

-- no word, where `final` stood
word_of_nothing : (ts : List Spelled) → word_at (is_word words.Nothing) ts ≡ None
word_of_nothing [] = refl
word_of_nothing (t ∷ ts) = by_tests (is_keyword_kind t.kind) t.glued where
  by_tests : (k g : Bool)
      → cond {A = Option (List ℕ × List Spelled)} (k && (not g && false)) (Some (t.text, ts)) None ≡ None
  by_tests true true = refl
  by_tests true false = refl
  by_tests false g = refl

abbrev words_of : Bool → ModifierWords
words_of true = words.Variable
words_of false = words.Nothing

variable_annotation : (b : Bool) (m : ℕ) (ts r : List Spelled) (o : Option (Annotation × List Spelled))
    → Same (words_of b) (variable_modifiers_at b) m → after_sign (codes "@") ts ≡ Some r → annotation_at r ≡ o
    → listed_at (words_of b) (suc m) ts ≡ variable_modifiers_at b (suc m) ts
unfolding listed_at variable_modifiers_at
variable_annotation b m ts r None more e f = rw (e, f) refl
variable_annotation true m ts r (Some x) more e f = rw (e, f, more x.1) refl
variable_annotation false m ts r (Some x) more e f = rw (e, f, more x.1) refl

variable_word : (m : ℕ) (ts : List Spelled) (o : Option (List Spelled)) → Same words.Nothing
    (variable_modifiers_at false) m → after_sign (codes "@") ts ≡ None → after_keyword (codes "final") ts ≡ o
    → listed_at words.Variable (suc m) ts ≡ variable_modifiers_at true (suc m) ts
unfolding listed_at variable_modifiers_at
variable_word m ts None more e f = let g = word_of_variable ts ∙ ap (option_map final_named) f in rw (e, f, g) refl
variable_word m ts (Some r) more e f =
    let g = word_of_variable ts ∙ ap (option_map final_named) f in rw (e, f, g, more r) refl

nothing_word : (m : ℕ) (ts : List Spelled) → after_sign (codes "@") ts ≡ None
    → listed_at words.Nothing (suc m) ts ≡ variable_modifiers_at false (suc m) ts
unfolding listed_at variable_modifiers_at
nothing_word m ts e = rw (e, word_of_nothing ts) refl

variable_one : (b : Bool) (m : ℕ) (ts : List Spelled) (o : Option (List Spelled))
    → ((c : Bool) → Same (words_of c) (variable_modifiers_at c) m) → after_sign (codes "@") ts ≡ o
    → listed_at (words_of b) (suc m) ts ≡ variable_modifiers_at b (suc m) ts
variable_one b m ts (Some r) more e = variable_annotation b m ts r (annotation_at r) (more b) e refl
variable_one true m ts None more e = variable_word m ts (after_keyword (codes "final") ts) (more false) e refl
variable_one false m ts None more e = nothing_word m ts e

listed_of_words : (m : ℕ) (b : Bool) → Same (words_of b) (variable_modifiers_at b) m
unfolding listed_at variable_modifiers_at
listed_of_words zero b ts = refl
listed_of_words (suc m) b ts = variable_one b m ts (after_sign (codes "@") ts) (listed_of_words m) refl

pub listed_of_variable : (m : ℕ) → Same words.Variable (variable_modifiers_at true) m
listed_of_variable m = listed_of_words m true
