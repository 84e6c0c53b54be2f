-- A method that is read is formed, small, and spells what was taken.
use Rattle.std.proofs.Common.{◌≡◌, ℕ, ◌≤◌, Bool, true, false, not, List, [], ◌∷◌, length, Option, Some, None, IsTrue}
use Rattle.std.proofs.Common.{codes, refl, ap, ◌∙◌, arith}
use Rattle.std.proofs.lemmas.Bool.{false≢true}
use Rattle.java_tree.specs.declared.words.Spelled.{Spelled}
use Rattle.java_tree.specs.Words.{keyword, identifier, sign, sign_glued}
use Rattle.java_tree.specs.Trees.{Ty, Modifier, Result, NoResult, VoidResult, TypeResult, Parameter, TypeParameter}
use Rattle.java_tree.specs.Trees.{TypeParameters, Method}
use Rattle.java_tree.specs.Spelling.{commas_onto, sign_where, brackets_onto, ty_onto, between_sign, annotations_onto}
use Rattle.java_tree.specs.Spelling.{modifiers_onto, result_onto, parameter_onto, bounds_onto, type_parameter_onto}
use Rattle.java_tree.specs.Spelling.{type_parameters_onto, throws_onto, method_onto, spelling}
use Rattle.java_tree.specs.FormedModifiers.{Each, FormedVariableModifiers}
use Rattle.java_tree.specs.Formed.{is_named, FormedTy, FormedThrown}
use Rattle.java_tree.specs.FormedMethods.{FormedModifier, FormedResult, FormedParameter, is_any_number_last}
use Rattle.java_tree.specs.FormedMethods.{FormedTypeParameter, FormedTypeParameters, is_typed, FormedMethod}
use Rattle.java_tree.specs.Nesting.{most_over, ty_nesting, result_nesting, parameter_nesting}
use Rattle.java_tree.specs.Nesting.{type_parameter_nesting, type_parameters_nesting, method_nesting}
use Rattle.java_parser_grammar.specs.Taking.{match_option, after_sign, after_keyword, after_name, after_angle}
use Rattle.java_parser_grammar.specs.Readers.{Readers}
use Rattle.java_parser_grammar.specs.Leads.{begins_with}
use Rattle.java_parser_grammar.specs.Lookahead.{is_constructor}
use Rattle.java_parser_grammar.specs.TypeReading.{between_each}
use Rattle.java_parser_grammar.specs.StatementReading.{comma_list, block_at}
use Rattle.java_parser_grammar.specs.BalancedReading.{annotations_at, before_type_at}
use Rattle.java_parser_grammar.specs.MethodReading.{modifiers_at, any_number_at, arrays_behind, if_ended, result_at}
use Rattle.java_parser_grammar.specs.MethodReading.{parameter_at, parameters_at, type_parameter_at}
use Rattle.java_parser_grammar.specs.MethodReading.{type_parameters_at, thrown_at, throws_at, named_at, method_from}
use Rattle.java_parser_grammar.specs.MethodReading.{method_at}
use Rattle.java_parser_grammar.proofs.Ensuring.{Ensures, weaker, then_ensures, if_ensures, match_ensures, sign_taken}
use Rattle.java_parser_grammar.proofs.Ensuring.{keyword_taken, name_taken, angle_taken, brackets_are}
use Rattle.java_parser_grammar.proofs.SoundSteps.{GotOne, SomeOf, list_sound, between_sound}
use Rattle.java_parser_grammar.proofs.SoundTokens.{Taken}
use Rattle.java_parser_grammar.proofs.SoundAnnotations.{annotations_sound, modifiers_sound, before_type_sound}
use Rattle.java_parser_grammar.proofs.SoundParts.{AreSound}
use Rattle.java_parser_grammar.proofs.SoundStatements.{block_sound}

-- what all tokens are
pub record GotMethod (n : ℕ) (ts : List Spelled) (m : Method) : Type 0 where
  pub formed : FormedMethod m
  pub small : method_nesting m ≤ n
  pub spelled : ts ≡ spelling m

-- ---- what may be left out

abbrev any_number_from : List Spelled → Option (List Spelled) → Bool × List Spelled
any_number_from ts o = match_option o (false, ts) (λ r. (true, r))

any_number_by : (ts : List Spelled) (o : Option (List Spelled)) → Ensures (λ r. ts ≡ sign (codes "...") ∷ r) o
    → ts ≡ sign_where (any_number_from ts o).0 (codes "...") (any_number_from ts o).1
any_number_by ts None e = refl
any_number_by ts (Some r) e = e

any_number_taken : (ts : List Spelled) → ts ≡ sign_where (any_number_at ts).0 (codes "...") (any_number_at ts).1
any_number_taken ts = any_number_by ts (after_sign (codes "...") ts) (sign_taken (codes "...") ts)

arrays_taken : (result : Result) (ts : List Spelled) → ts ≡ brackets_onto (arrays_behind result ts).0
    (arrays_behind result ts).1
arrays_taken NoResult ts = refl
arrays_taken VoidResult ts = refl
arrays_taken (TypeResult t) ts = brackets_are (length ts) ts

arrays_typed : (result : Result) (ts : List Spelled) → IsTrue (not (is_typed result))
    → (arrays_behind result ts).0 ≡ 0
arrays_typed NoResult ts h = refl
arrays_typed VoidResult ts h = refl
arrays_typed (TypeResult t) ts h = absurd (false≢true h)

module _ (readers : Readers) (sound : AreSound readers) where
  result_sound : (n : ℕ) (ts : List Spelled) → Ensures (GotOne FormedResult result_nesting result_onto n ts)
      (result_at readers n ts)
  unfolding result_at
  result_sound n ts =
      let G : Result × List Spelled → Type 0 = GotOne FormedResult result_nesting result_onto n ts in
      if_ensures G (is_constructor ts) _ _ (λ here. record { formed = tt; small = omega arith; spelled = refl })
      (λ away. match_ensures (λ r. ts ≡ keyword (codes "void") ∷ r) G (after_keyword (codes "void") ts) _ _
      (keyword_taken (codes "void") ts)
      (then_ensures _ G (readers.ty n ts) _ (sound.ty n ts) (λ t g. record {
        formed = g.formed;
        small = g.small;
        spelled = g.spelled;
      }))
      (λ r e. record { formed = tt; small = omega arith; spelled = e }))

  -- the bounds of a type parameter
  bounds_behind : (ts : List Ty) (all r rest : List Spelled) → SomeOf FormedTy ts → all ≡ keyword (codes "extends") ∷ r
      → r ≡ between_sign (codes "&") ts rest → all ≡ bounds_onto ts rest
  bounds_behind [] all r rest f e d = absurd (false≢true f.0)
  bounds_behind (t ∷ ts) all r rest f e d = e ∙ ap (λ (u : List Spelled). keyword (codes "extends") ∷ u) d

  bounds_sound : (n : ℕ) (ts : List Spelled) → Ensures (GotOne (Each FormedTy) (most_over ty_nesting) bounds_onto n ts)
      (match_option (after_keyword (codes "extends") ts) (Some ([], ts)) (between_each (codes "&") (readers.ty n)))
  bounds_sound n ts =
      let G : List Ty × List Spelled → Type 0 = GotOne (Each FormedTy) (most_over ty_nesting) bounds_onto n ts in
      match_ensures (λ r. ts ≡ keyword (codes "extends") ∷ r) G (after_keyword (codes "extends") ts) _ _
      (keyword_taken (codes "extends") ts) (record { formed = tt; small = omega arith; spelled = refl })
      (λ r e. weaker _ G (between_each (codes "&") (readers.ty n) r) (λ all g. record {
        formed = g.formed.1;
        small = g.small;
        spelled = bounds_behind all.0 ts r all.1 g.formed e g.spelled;
      })
      (between_sound FormedTy n (readers.ty n) (sound.ty n) (codes "&") r))

  -- ---- parameters

  parameter_sound : (n : ℕ) (ts : List Spelled) → Ensures (GotOne FormedParameter parameter_nesting parameter_onto n
      ts) (parameter_at readers n ts)
  unfolding parameter_at
  parameter_sound n ts =
      let G : Parameter × List Spelled → Type 0 = GotOne FormedParameter parameter_nesting parameter_onto n ts in
      then_ensures (Taken FormedVariableModifiers modifiers_onto ts) G (before_type_at ts) _ (before_type_sound ts)
      (λ ms g. then_ensures _ G (readers.ty n ms.1) _ (sound.ty n ms.1)
      (λ t h.
      let more = any_number_at t.1 in
      then_ensures (λ x. more.1 ≡ identifier x.0 ∷ x.1) G (after_name more.1) _ (name_taken more.1)
      (λ x e. record {
        formed = (g.formed, h.formed);
        small = h.small;
        spelled = g.spelled ∙ ap (modifiers_onto ms.0) (h.spelled ∙ ap (ty_onto t.0) (any_number_taken t.1
            ∙ ap (sign_where more.0 (codes "...")) (e ∙ ap (λ (u : List Spelled). identifier x.0 ∷ u)
            (brackets_are (length x.1) x.1))));
      })))

  parameters_sound : (n : ℕ) (ts : List Spelled) → Ensures (GotOne (λ ps. Each FormedParameter ps
      × IsTrue (is_any_number_last ps)) (most_over parameter_nesting) (commas_onto parameter_onto) n ts)
      (parameters_at readers n ts)
  parameters_sound n ts =
      let G : List Parameter × List Spelled → Type 0 = GotOne (λ ps. Each FormedParameter ps
      × IsTrue (is_any_number_last ps)) (most_over parameter_nesting) (commas_onto parameter_onto) n ts in
      if_ensures G (begins_with (codes ")") ts) _ _ (λ here. record {
        formed = (tt, refl);
        small = omega arith;
        spelled = refl;
      })
      (λ away. then_ensures _ G (comma_list (parameter_at readers n) ts) _
      (list_sound FormedParameter parameter_nesting parameter_onto n (parameter_at readers n) (parameter_sound n) ts)
      (λ ps g. if_ensures G (is_any_number_last ps.0) (Some ps) None
      (λ last. record { formed = (g.formed.1, last); small = g.small; spelled = g.spelled })
      (λ other. tt)))

  -- ---- type parameters

  type_parameter_sound : (n : ℕ) (ts : List Spelled) → Ensures (GotOne FormedTypeParameter type_parameter_nesting
      type_parameter_onto n ts) (type_parameter_at readers n ts)
  unfolding type_parameter_at
  type_parameter_sound n ts =
      let G : TypeParameter × List Spelled → Type 0 = GotOne FormedTypeParameter type_parameter_nesting
      type_parameter_onto n ts in
      then_ensures _ G (annotations_at (length ts) ts) _ (annotations_sound (length ts) ts)
      (λ ns g. then_ensures (λ x. ns.1 ≡ identifier x.0 ∷ x.1) G (after_name ns.1) _ (name_taken ns.1)
      (λ x e. then_ensures (GotOne (Each FormedTy) (most_over ty_nesting) bounds_onto n x.1) G
      (match_option (after_keyword (codes "extends") x.1) (Some ([], x.1)) (between_each (codes "&") (readers.ty n))) _
      (bounds_sound n x.1)
      (λ bounds h. record {
        formed = (g.formed, h.formed);
        small = h.small;
        spelled = g.spelled ∙ ap (annotations_onto ns.0) (e ∙ ap (λ (u : List Spelled). identifier x.0 ∷ u) h.spelled);
      })))

  type_parameters_sound : (n : ℕ) (ts : List Spelled) → Ensures (GotOne FormedTypeParameters type_parameters_nesting
      type_parameters_onto n ts) (type_parameters_at readers n ts)
  unfolding type_parameters_at
  type_parameters_sound n ts =
      let G : Option TypeParameters × List Spelled → Type 0 = GotOne FormedTypeParameters type_parameters_nesting
      type_parameters_onto n ts in
      match_ensures (λ r. ts ≡ sign (codes "<") ∷ r) G (after_sign (codes "<") ts) _ _ (sign_taken (codes "<") ts)
      (record { formed = tt; small = omega arith; spelled = refl })
      (λ r e. then_ensures _ G (comma_list (type_parameter_at readers n) r) _
      (list_sound FormedTypeParameter type_parameter_nesting type_parameter_onto n (type_parameter_at readers n)
      (type_parameter_sound n) r)
      (λ ps g. then_ensures (λ (x : Bool × List Spelled). ps.1 ≡ sign_glued x.0 (codes ">") ∷ x.1) G
      (after_angle ps.1) _ (angle_taken ps.1)
      (λ angle f. then_ensures _ G (modifiers_at (length angle.1) angle.1) _
      (modifiers_sound (length angle.1) angle.1)
      (λ ms h. record {
        formed = (g.formed.0, g.formed.1, h.formed);
        small = g.small;
        spelled = e ∙ ap (λ (u : List Spelled). sign (codes "<") ∷ u) (g.spelled
            ∙ ap (commas_onto type_parameter_onto ps.0) (f ∙ ap (λ (u : List Spelled). sign_glued angle.0 (codes ">")
            ∷ u) h.spelled));
      }))))

  -- ---- exceptions

  thrown_sound : (n : ℕ) (ts : List Spelled) → Ensures (GotOne FormedThrown ty_nesting ty_onto n ts)
      (thrown_at readers n ts)
  thrown_sound n ts =
      let G : Ty × List Spelled → Type 0 = GotOne FormedThrown ty_nesting ty_onto n ts in
      then_ensures _ G (readers.ty n ts) _ (sound.ty n ts)
      (λ t g. if_ensures G (is_named t.0) (Some t) None (λ named. record {
        formed = (g.formed, named);
        small = g.small;
        spelled = g.spelled;
      }) (λ other. tt))

  -- behind `throws` there is an exception
  throws_behind : (ts : List Ty) (all r rest : List Spelled) → SomeOf FormedThrown ts → all ≡ keyword (codes "throws")
      ∷ r → r ≡ commas_onto ty_onto ts rest → all ≡ throws_onto ts rest
  throws_behind [] all r rest f e d = absurd cc
  throws_behind (t ∷ ts) all r rest f e d = e ∙ ap (λ (u : List Spelled). keyword (codes "throws") ∷ u) d

  throws_sound : (n : ℕ) (ts : List Spelled) → Ensures (GotOne (Each FormedThrown) (most_over ty_nesting) throws_onto
      n ts) (throws_at readers n ts)
  unfolding throws_at
  throws_sound n ts =
      let G : List Ty × List Spelled → Type 0 = GotOne (Each FormedThrown) (most_over ty_nesting) throws_onto n ts in
      match_ensures (λ r. ts ≡ keyword (codes "throws") ∷ r) G (after_keyword (codes "throws") ts) _ _
      (keyword_taken (codes "throws") ts) (record { formed = tt; small = omega arith; spelled = refl })
      (λ r e. weaker _ G (comma_list (thrown_at readers n) r) (λ all g. record {
        formed = g.formed.1;
        small = g.small;
        spelled = throws_behind all.0 ts r all.1 g.formed e g.spelled;
      })
      (list_sound FormedThrown ty_nesting ty_onto n (thrown_at readers n) (thrown_sound n) r))

  named_sound : (n : ℕ) (modifiers : List Modifier) (types : Option TypeParameters) (result : Result)
      (all ts : List Spelled) → Each FormedModifier modifiers → FormedTypeParameters types
      → type_parameters_nesting types ≤ n → FormedResult result → result_nesting result ≤ n
      → all ≡ modifiers_onto modifiers (type_parameters_onto types (result_onto result ts))
      → Ensures (GotOne FormedMethod method_nesting method_onto n all) (named_at readers n modifiers types result ts)
  unfolding named_at
  named_sound n modifiers types result all ts f c small h fits e =
      let G : Method × List Spelled → Type 0 = GotOne FormedMethod method_nesting method_onto n all in
      then_ensures (λ x. ts ≡ identifier x.0 ∷ x.1) G (after_name ts) _ (name_taken ts)
      (λ x p. then_ensures (λ a. x.1 ≡ sign (codes "(") ∷ a) G (after_sign (codes "(") x.1) _ (sign_taken (codes "(")
      x.1)
      (λ a q. then_ensures _ G (parameters_at readers n a) _ (parameters_sound n a)
      (λ ps g. then_ensures (λ b. ps.1 ≡ sign (codes ")") ∷ b) G (after_sign (codes ")") ps.1) _
      (sign_taken (codes ")") ps.1)
      (λ b r.
      let m = arrays_behind result b in
      then_ensures _ G (throws_at readers n m.1) _ (throws_sound n m.1)
      (λ throws k. then_ensures _ G (block_at readers n throws.1) _ (block_sound readers sound n throws.1)
      (λ body d. record {
        formed = (
          f,
          c,
          h,
          g.formed.0,
          g.formed.1,
          arrays_typed result b,
          k.formed,
          d.formed,
        );
        small = omega (arith, small, fits, g.small, k.small, d.small);
        spelled = e ∙ ap (λ (u : List Spelled). modifiers_onto modifiers (type_parameters_onto types (result_onto result
            u)))
            (p ∙ ap (λ (u : List Spelled). identifier x.0 ∷ u) (q ∙ ap (λ (u : List Spelled). sign (codes "(") ∷ u)
            (g.spelled ∙ ap (commas_onto parameter_onto ps.0) (r ∙ ap (λ (u : List Spelled). sign (codes ")") ∷ u)
            (arrays_taken result b ∙ ap (brackets_onto m.0) (k.spelled ∙ ap (throws_onto throws.0) d.spelled))))));
      }))))))

  pub method_from_sound : (n : ℕ) (ts : List Spelled) → Ensures (GotOne FormedMethod method_nesting method_onto n ts)
      (method_from readers n ts)
  unfolding method_from
  method_from_sound n ts =
      let G : Method × List Spelled → Type 0 = GotOne FormedMethod method_nesting method_onto n ts in
      then_ensures _ G (modifiers_at (length ts) ts) _ (modifiers_sound (length ts) ts)
      (λ ms g. then_ensures _ G (type_parameters_at readers n ms.1) _ (type_parameters_sound n ms.1)
      (λ types f. then_ensures _ G (result_at readers n types.1) _ (result_sound n types.1)
      (λ r h. named_sound n ms.0 types.0 r.0 ts r.1 g.formed f.formed f.small h.formed h.small
      (g.spelled ∙ ap (modifiers_onto ms.0) (f.spelled ∙ ap (type_parameters_onto types.0) h.spelled)))))

  ended_sound : (n : ℕ) (ts : List Spelled) (m : Method) (rest : List Spelled) → GotOne FormedMethod method_nesting
      method_onto n ts (m, rest) → Ensures (GotMethod n ts) (if_ended m rest)
  ended_sound n ts m [] g = record { formed = g.formed; small = g.small; spelled = g.spelled }
  ended_sound n ts m (t ∷ rest) g = tt

  pub method_sound : (n : ℕ) (ts : List Spelled) → Ensures (GotMethod n ts) (method_at readers n ts)
  method_sound n ts =
      then_ensures _ (GotMethod n ts) (method_from readers n ts) _ (method_from_sound n ts)
      (λ m g. ended_sound n ts m.0 m.1 g)
