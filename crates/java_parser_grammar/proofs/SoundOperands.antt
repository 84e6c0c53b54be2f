-- An operand that is read is formed, small, and spelled by what was taken.
use Rattle.std.proofs.Common.{◌≡◌, ℕ, zero, suc, ◌≤◌, Bool, true, false, cond, not, ◌&&◌, ◌||◌, List, [], ◌∷◌, length}
use Rattle.std.proofs.Common.{Option, Some, None, IsTrue, refl, sym, ap, ◌∙◌, subst, arith, codes}
use Rattle.std.specs.Prelude.{bytes_eq}
use Rattle.std.specs.Cmp.Lexicographic.{bytes_decides}
use Rattle.std.proofs.lemmas.Bool.{false≢true}
use Rattle.java_lexer.specs.declared.token.TokenKind.{TokenKind}
use Rattle.java_lexer.specs.declared.token.TokenKind.TheVariants as kind
use Rattle.java_tree.specs.declared.words.Spelled.{Spelled}
use Rattle.java_tree.specs.Words.{sign, keyword, identifier}
use Rattle.java_tree.specs.Brackets.{are_braces}
use Rattle.java_tree.specs.Operators.{is_prefix, is_step}
use Rattle.java_tree.specs.Trees.{Ty, Typed, Base, Plain, Named, no_part, part_then, Bare, Generic, Expr, This}
use Rattle.java_tree.specs.Trees.{Array, pack_exprs}
use Rattle.java_tree.specs.Spelling.{brackets_onto, ty_onto, between_sign, expr_onto, exprs_onto, lengths_onto}
use Rattle.java_tree.specs.FormedModifiers.{Each}
use Rattle.java_tree.specs.Formed.{level, is_lambda, is_variable, is_named, is_plain, are_plain, begins_signed}
use Rattle.java_tree.specs.Formed.{is_plain_word, FormedTy, FormedExpr, FormedClass}
use Rattle.java_tree.specs.Nesting.{ty_nesting, most_over}
use Rattle.java_parser_grammar.specs.Taking.{after_sign}
use Rattle.java_parser_grammar.specs.TypeReading.{after_brackets, brackets_at, has_diamond, ty_at, between_each}
use Rattle.java_parser_grammar.specs.Leads.{opens_operand, begins_with, behind, begins_lambda, is_plain_cast, casts}
use Rattle.java_parser_grammar.specs.BalancedReading.{Reading, braces_tokens_at}
use Rattle.java_parser_grammar.specs.ExpressionReading.{class_at, goes_typed, lambda_level, call_arguments_with}
use Rattle.java_parser_grammar.specs.ExpressionReading.{name_with, parens_with, cast_with, prefix_with, lengths_with}
use Rattle.java_parser_grammar.specs.ExpressionReading.{new_array_with, new_items_with, new_object_with, new_with}
use Rattle.java_parser_grammar.specs.ExpressionReading.{operand_of, operand_with}
use Rattle.java_parser_grammar.proofs.FoundMadeTypes.{MadeBase}
use Rattle.java_parser_grammar.proofs.GrammarFronts.{front}
use Rattle.java_parser_grammar.proofs.Behind.{between_balanced}
use Rattle.java_parser_grammar.proofs.Ensuring.{Ensures, then_ensures, if_ensures, match_ensures, sign_taken}
use Rattle.java_parser_grammar.proofs.Ensuring.{brackets_taken, brackets_are}
use Rattle.java_parser_grammar.proofs.SoundTypes.{GotMade, element_formed}
use Rattle.java_parser_grammar.proofs.SoundTypeLists.{between_types_sound}
use Rattle.java_parser_grammar.proofs.SoundSteps.{GotOne, SomeOf}
use Rattle.java_parser_grammar.proofs.SoundLists.{Got, Grown, GotArguments, GotLengths, GotArray, arguments_sound}
use Rattle.java_parser_grammar.proofs.SoundLists.{lengths_sound}
use Rattle.java_parser_grammar.proofs.SoundTokens.{Passes, braces_tokens_sound}
use Rattle.java_parser_grammar.proofs.SoundTurns.{last_of}
use Rattle.java_parser_grammar.proofs.SoundNames.{GotNames, names_sound, ended_sound, typed_name_sound}
use Rattle.java_parser_grammar.proofs.SoundNames.{plain_word_sound, super_sound}
use Rattle.racer_base.proofs.Tests.{implied}

-- ---- a cast was chosen for what a cast may have

plain_primitive : (t : Ty) (r : List Spelled) → FormedTy t → is_plain_cast (ty_onto t (sign (codes ")") ∷ r)) ≡ true
    → IsTrue (is_plain t)
plain_primitive (Typed (Plain text) zero) r f h = refl
plain_primitive (Typed (Plain text) (suc m)) r f h = absurd (let e = rw f at h in cc)
plain_primitive (Typed (Named no_part) m) r f h = absurd cc
plain_primitive (Typed (Named (part_then (Bare x) ps)) m) r f h = absurd cc
plain_primitive (Typed (Named (part_then (Generic x a) ps)) m) r f h = absurd cc

first_true : (a b : Bool) → (false || (a && b)) ≡ true → a ≡ true
first_true true b h = refl
first_true false b h = h

casts_plain : (ts rest : List Spelled) → behind 0 ts ≡ rest → opens_operand rest ≡ false → casts ts ≡ true
    → is_plain_cast ts ≡ true
unfolding casts
casts_plain ts rest e none h = first_true _ _ (rw (e, none) at h)

-- behind the word of a primitive type stands no `)` where another type stands
several_plain : (t : Ty) (r : List Spelled) → is_plain_cast (ty_onto t (sign (codes "&") ∷ r)) ≡ false
several_plain (Typed (Plain text) m) r = by_word (is_plain_word text) refl m where
  by_word : (b : Bool) → is_plain_word text ≡ b → (m : ℕ) → is_plain_cast (ty_onto (Typed (Plain text) m)
      (sign (codes "&") ∷ r)) ≡ false
  by_word true w zero = rw w refl
  by_word true w (suc m) = rw w refl
  by_word false w m = rw w refl
several_plain (Typed (Named no_part) zero) r = refl
several_plain (Typed (Named no_part) (suc m)) r = refl
several_plain (Typed (Named (part_then (Bare x) ps)) m) r = refl
several_plain (Typed (Named (part_then (Generic x a) ps)) m) r = refl

plain_list : (ts : List Ty) (r : List Spelled) → Each FormedTy ts → is_plain_cast (between_sign (codes "&") ts
    (sign (codes ")") ∷ r)) ≡ true → IsTrue (are_plain ts)
plain_list [] r f h = absurd (false≢true h)
plain_list (t ∷ []) r f h = plain_primitive t r f.0 h
plain_list (t ∷ u ∷ ts) r f h = absurd (false≢true (sym (several_plain t _) ∙ h))

cast_primitive : (ts : List Ty) (a : Expr) (r : List Spelled) → Each FormedTy ts → FormedExpr a
    → casts (between_sign (codes "&") ts (sign (codes ")") ∷ expr_onto a r)) ≡ true → IsTrue (begins_signed a)
    → IsTrue (are_plain ts)
unfolding behind
cast_primitive ts a r f g h s =
    let none : opens_operand (expr_onto a r) ≡ false = (front a g r).operand ∙ ap not s in
    plain_list ts (expr_onto a r) f (casts_plain (between_sign (codes "&") ts (sign (codes ")") ∷ expr_onto a r))
    (expr_onto a r) (between_balanced ts 0 (sign (codes ")") ∷ expr_onto a r)) none h)

-- the level at which what is cast was read
cast_high : (plain begins lambda : Bool) (k : ℕ) → (begins ≡ true → lambda ≡ true) → (cond plain 12 (cond begins 0 12)
    ≤ 12 → cond plain 12 (cond begins 0 12) ≤ k) → cond (lambda && not plain) 0 12 ≤ k
cast_high true begins true k h high = high (omega arith)
cast_high true begins false k h high = high (omega arith)
cast_high false begins true k h high = omega arith
cast_high false begins false k h high = last_of begins false 12 k (omega arith) h high

-- ---- operands

module _ (n : ℕ) (read : ℕ → Reading Expr) (sound : (l : ℕ) (ts : List Spelled) → Ensures (Got n l ts) (read l ts))
  where
    name_sound : (x : List ℕ) (ts : List Spelled) → Ensures (Grown (suc n) 12 (identifier x ∷ ts)) (name_with read n x
        ts)
    unfolding name_with
    name_sound x ts =
        let G : Expr × List Spelled → Type 0 = Grown (suc n) 12 (identifier x ∷ ts) in
        match_ensures (GotNames true ts) G (class_at true ts) _ _ (names_sound true ts)
        (if_ensures G (goes_typed n ts) _ _ (λ typed. typed_name_sound n x ts)
        (λ untyped. match_ensures _ G (after_sign (codes "(") ts) _ _ (sign_taken (codes "(") ts)
        (record {
          formed = tt;
          high = λ h. omega arith;
          small = omega arith;
          spelled = refl;
          shut = λ ends. absurd (false≢true ends);
        })
        (λ r e. then_ensures (GotArguments n r) G (call_arguments_with read r) _ (arguments_sound n read sound r)
        (λ all g. record {
          formed = g.formed;
          high = λ h. omega arith;
          small = omega (arith, g.small);
          spelled = ap (λ (u : List Spelled). identifier x ∷ u) (e ∙ ap (λ (u : List Spelled). sign (codes "(") ∷ u)
              g.spelled);
          shut = λ ends. absurd (false≢true ends);
        }))))
        (λ names g. ended_sound n x ts names.0.0 names.0.1 names.1 g.formed g.spelled)

    parens_sound : (ts : List Spelled) → Ensures (Grown (suc n) 12 (sign (codes "(") ∷ ts)) (parens_with read ts)
    parens_sound ts =
        let G : Expr × List Spelled → Type 0 = Grown (suc n) 12 (sign (codes "(") ∷ ts) in
        then_ensures (Got n 0 ts) G (read 0 ts) _ (sound 0 ts)
        (λ a g. then_ensures _ G (after_sign (codes ")") a.1) _ (sign_taken (codes ")") a.1)
        (λ r e. record {
          formed = g.formed;
          high = λ h. omega arith;
          small = omega (arith, g.small);
          spelled = ap (λ (u : List Spelled). sign (codes "(") ∷ u) (g.spelled ∙ ap (expr_onto a.0) e);
          shut = λ ends. absurd (false≢true ends);
        }))

    cast_sound : (ts : List Spelled) → casts ts ≡ true → Ensures (Grown (suc n) 12 (sign (codes "(") ∷ ts))
        (cast_with read (ty_at n) ts)
    cast_sound ts is =
        let G : Expr × List Spelled → Type 0 = Grown (suc n) 12 (sign (codes "(") ∷ ts) in
        then_ensures (GotOne (SomeOf FormedTy) (most_over ty_nesting) (between_sign (codes "&")) n ts) G
        (between_each (codes "&") (ty_at n) ts) _ (between_types_sound (codes "&") n ts)
        (λ types g. then_ensures _ G (after_sign (codes ")") types.1) _ (sign_taken (codes ")") types.1)
        (λ r e.
        let l = cond (are_plain types.0) 12 (lambda_level 12 r) in
        then_ensures (Got n l r) G (read l r) _ (sound l r)
        (λ a h.
        let spelled : ts ≡ between_sign (codes "&") types.0 (sign (codes ")") ∷ expr_onto a.0 a.1) =
        g.spelled ∙ ap (between_sign (codes "&") types.0) (e ∙ ap (λ (u : List Spelled). sign (codes ")") ∷ u)
        h.spelled) in
        record {
          formed = (
            g.formed.1,
            g.formed.0,
            h.formed,
            cast_high (are_plain types.0) (begins_lambda r) (is_lambda a.0) (level a.0) h.lambda h.high,
            cast_primitive types.0 a.0 a.1 g.formed.1 h.formed
                (subst (λ (u : List Spelled). casts u ≡ true) spelled is),
          );
          high = λ low. omega arith;
          small = omega (arith, g.small, h.small);
          spelled = ap (λ (u : List Spelled). sign (codes "(") ∷ u) spelled;
          shut = h.shut;
        })))

    prefix_sound : (op : List ℕ) (ts : List Spelled) → IsTrue (is_prefix op) → Ensures (Grown (suc n) 12 (sign op ∷ ts))
        (prefix_with read op ts)
    unfolding prefix_with
    prefix_sound op ts is =
        let G : Expr × List Spelled → Type 0 = Grown (suc n) 12 (sign op ∷ ts) in
        then_ensures (Got n 12 ts) G (read 12 ts) _ (sound 12 ts)
        (λ a g. if_ensures G (not (is_step op) || is_variable a.0) _ _
        (λ c. record {
          formed = (g.formed, is, g.high (omega arith), implied _ _ c);
          high = λ h. omega arith;
          small = omega (arith, g.small);
          spelled = ap (λ (u : List Spelled). sign op ∷ u) g.spelled;
          shut = g.shut;
        })
        (λ c. tt))

    -- ---- behind `new`

    class_formed : (b : Base) → MadeBase b → is_named (Typed b 0) ≡ true → FormedClass (Typed b 0)
    class_formed (Plain text) f h = absurd cc
    class_formed (Named ps) f h = (f.0, f.1, refl)

    object_sound : (b : Base) (q ts r : List Spelled) → GotMade n q (b, ts) → ts ≡ sign (codes "(") ∷ r
        → Ensures (Grown (suc n) 12 (keyword (codes "new") ∷ q)) (new_object_with read b r)
    unfolding new_object_with
    object_sound b q ts r m e =
        let G : Expr × List Spelled → Type 0 = Grown (suc n) 12 (keyword (codes "new") ∷ q) in
        if_ensures G (is_named (Typed b 0)) _ _
        (λ c. then_ensures (GotArguments n r) G (call_arguments_with read r) _ (arguments_sound n read sound r)
        (λ all g.
        let spelled : keyword (codes "new") ∷ q ≡ keyword (codes "new") ∷ ty_onto (Typed b 0) (sign (codes "(")
        ∷ exprs_onto (pack_exprs all.0) (sign (codes ")") ∷ all.1)) =
        ap (λ (u : List Spelled). keyword (codes "new") ∷ u) (m.spelled ∙ ap (ty_onto (Typed b 0)) (e
        ∙ ap (λ (u : List Spelled). sign (codes "(") ∷ u) g.spelled)) in
        if_ensures G (begins_with (codes "{") all.1) _ _
        (λ braces. then_ensures (Passes are_braces all.1) G (braces_tokens_at all.1) _ (braces_tokens_sound all.1)
        (λ body h. record {
          formed = (class_formed b m.formed c, g.formed, h.formed);
          high = λ h. omega arith;
          small = omega (arith, m.small, g.small);
          spelled = spelled ∙ ap (λ (u : List Spelled). keyword (codes "new") ∷ ty_onto (Typed b 0) (sign (codes "(")
              ∷ exprs_onto (pack_exprs all.0) (sign (codes ")") ∷ u))) h.spelled;
          shut = λ ends. absurd (false≢true ends);
        }))
        (λ none. record {
          formed = (class_formed b m.formed c, g.formed);
          high = λ h. omega arith;
          small = omega (arith, m.small, g.small);
          spelled = spelled;
          shut = λ ends. absurd (false≢true ends);
        })))
        (λ c. tt)

    array_sound : (b : Base) (q ts : List Spelled) → GotMade n q (b, ts) → has_diamond b ≡ false
        → Ensures (Grown (suc n) 12 (keyword (codes "new") ∷ q)) (new_array_with (read 0) b ts)
    unfolding new_array_with
    array_sound b q ts m d =
        let G : Expr × List Spelled → Type 0 = Grown (suc n) 12 (keyword (codes "new") ∷ q) in
        then_ensures _ G (after_sign (codes "[") ts) _ (sign_taken (codes "[") ts)
        (λ r e. then_ensures (Got n 0 r) G (read 0 r) _ (sound 0 r)
        (λ a g. then_ensures _ G (after_sign (codes "]") a.1) _ (sign_taken (codes "]") a.1)
        (λ s f. then_ensures (GotLengths n s) G (lengths_with (read 0) (length s) s) _ (lengths_sound n read sound
        (length s) s)
        (λ others h. record {
          formed = ((element_formed b m.formed d, refl), (g.formed, h.formed), refl);
          high = λ low. omega arith;
          small = omega (arith, m.small, g.small, h.small);
          spelled = ap (λ (u : List Spelled). keyword (codes "new") ∷ u) (m.spelled ∙ ap (ty_onto (Typed b 0)) (e
              ∙ ap (λ (u : List Spelled). sign (codes "[") ∷ u) (g.spelled ∙ ap (expr_onto a.0) (f
              ∙ ap (λ (u : List Spelled). sign (codes "]") ∷ u) (h.spelled ∙ ap (lengths_onto (pack_exprs others.0))
              (brackets_are (length others.1) others.1))))));
          shut = λ ends. absurd (false≢true ends);
        }))))

    items_sound : (array : Reading Array) → ((ts : List Spelled) → Ensures (GotArray n ts) (array ts))
        → (b : Base) (q ts r : List Spelled) → GotMade n q (b, ts) → has_diamond b ≡ false → ts ≡ sign (codes "[")
        ∷ sign (codes "]") ∷ r → Ensures (Grown (suc n) 12 (keyword (codes "new") ∷ q)) (new_items_with array b r)
    unfolding new_items_with
    items_sound array filled b q ts r m d e =
        let G : Expr × List Spelled → Type 0 = Grown (suc n) 12 (keyword (codes "new") ∷ q) in
        let k = brackets_at (length r) r in
        then_ensures (GotArray n k.1) G (array k.1) _ (filled k.1)
        (λ items g. record {
          formed = ((element_formed b m.formed d, refl), omega arith, g.formed);
          high = λ low. omega arith;
          small = omega (arith, m.small, g.small);
          spelled = ap (λ (u : List Spelled). keyword (codes "new") ∷ u) (m.spelled ∙ ap (ty_onto (Typed b 0)) (e
              ∙ ap (λ (u : List Spelled). sign (codes "[") ∷ sign (codes "]") ∷ u) (brackets_are (length r) r
              ∙ ap (brackets_onto k.0) g.spelled)));
          shut = λ ends. absurd (false≢true ends);
        })

    module _ (made : Reading Base) (makes : (ts : List Spelled) → Ensures (GotMade n ts) (made ts)) (array : Reading
        Array) (filled : (ts : List Spelled) → Ensures (GotArray n ts) (array ts)) where
      new_sound : (q : List Spelled) → Ensures (Grown (suc n) 12 (keyword (codes "new") ∷ q))
          (new_with read made array q)
      unfolding new_with
      new_sound q =
          let G : Expr × List Spelled → Type 0 = Grown (suc n) 12 (keyword (codes "new") ∷ q) in
          then_ensures (GotMade n q) G (made q) _ (makes q)
          (λ b m. match_ensures _ G (after_sign (codes "(") b.1) _ _ (sign_taken (codes "(") b.1)
          (if_ensures G (has_diamond b.0) _ _ (λ d. tt)
          (λ d. match_ensures _ G (after_brackets b.1) _ _ (brackets_taken b.1)
          (array_sound b.0 q b.1 (record { formed = m.formed; small = m.small; spelled = m.spelled }) d)
          (λ r e. items_sound array filled b.0 q b.1 r (record {
            formed = m.formed;
            small = m.small;
            spelled = m.spelled;
          }) d e)))
          (λ r e. object_sound b.0 q b.1 r (record { formed = m.formed; small = m.small; spelled = m.spelled }) e))

      same_word : (make : List ℕ → Spelled) (text u : List ℕ) (ts : List Spelled) (o : Option (Expr × List Spelled))
          → bytes_eq text u ≡ true → Ensures (Grown (suc n) 12 (make u ∷ ts)) o → Ensures (Grown (suc n) 12 (make text
          ∷ ts)) o
      same_word make text u ts o e g = let same : text ≡ u = (bytes_decides text u).0 e in rw same g

      sign_sound : (text : List ℕ) (ts : List Spelled) → Ensures (Grown (suc n) 12 (sign text ∷ ts)) (operand_of read n
          made array kind.Sign text ts)
      sign_sound text ts =
          let G : Expr × List Spelled → Type 0 = Grown (suc n) 12 (sign text ∷ ts) in
          if_ensures G (is_prefix text) _ _ (λ e. prefix_sound text ts e)
          (λ _. if_ensures G (bytes_eq text (codes "(")) _ _
          (λ e. same_word sign text (codes "(") ts _ e (if_ensures (Grown (suc n) 12 (sign (codes "(") ∷ ts)) (casts ts)
          _ _ (λ c. cast_sound ts c) (λ c. parens_sound ts)))
          (λ _. tt))

      keyword_sound : (text : List ℕ) (ts : List Spelled) → Ensures (Grown (suc n) 12 (keyword text ∷ ts))
          (operand_of read n made array kind.Keyword text ts)
      keyword_sound text ts =
          let G : Expr × List Spelled → Type 0 = Grown (suc n) 12 (keyword text ∷ ts) in
          if_ensures G (bytes_eq text (codes "this")) _ _
          (λ e. same_word keyword text (codes "this") ts (Some (This, ts)) e (record {
            formed = tt;
            high = λ h. omega arith;
            small = omega arith;
            spelled = refl;
            shut = λ ends. absurd (false≢true ends);
          }))
          (λ _. if_ensures G (bytes_eq text (codes "new")) _ _
          (λ e. same_word keyword text (codes "new") ts _ e (new_sound ts))
          (λ _. if_ensures G (bytes_eq text (codes "super")) _ _
          (λ e. same_word keyword text (codes "super") ts _ e (super_sound n ts))
          (λ _. if_ensures G (is_plain_word text || bytes_eq text (codes "void")) _ _
          (λ w. plain_word_sound n text ts w) (λ _. tt))))

      word_sound : (k : TokenKind) (text : List ℕ) (glued : Bool) (ts : List Spelled)
          → Ensures (Grown (suc n) 12 (record { kind = k; text = text; glued = glued } ∷ ts)) (cond glued None
          (operand_of read n made array k text ts))
      word_sound k text true ts = tt
      word_sound kind.Keyword text false ts = keyword_sound text ts
      word_sound kind.Name text false ts = name_sound text ts
      word_sound kind.Sign text false ts = sign_sound text ts
      word_sound _ text false ts = record {
        formed = refl;
        high = λ h. omega arith;
        small = omega arith;
        spelled = refl;
        shut = λ ends. absurd (false≢true ends);
      }

      pub operand_sound : (ts : List Spelled) → Ensures (Grown (suc n) 12 ts) (operand_with read n made array ts)
      unfolding operand_with
      operand_sound [] = tt
      operand_sound (t ∷ ts) = word_sound t.kind t.text t.glued ts
