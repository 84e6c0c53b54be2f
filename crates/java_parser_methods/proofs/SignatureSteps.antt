-- Reading a method is reading what stands up to its body, and its body.
use Rattle.std.proofs.Common.{◌≡◌, ℕ, List, [], ◌∷◌, length, Option, Some, None, codes, refl, sym, ◌∙◌}
use Rattle.java_tree.specs.declared.words.Spelled.{Spelled}
use Rattle.java_parser_grammar.specs.Taking.{◌>>=◌, after_sign, after_name}
use Rattle.java_parser_grammar.specs.Readers.{Readers}
use Rattle.java_parser_grammar.specs.StatementReading.{block_at}
use Rattle.java_parser_grammar.specs.MethodReading.{parameters_at, throws_at, modifiers_at, type_parameters_at}
use Rattle.java_parser_grammar.specs.MethodReading.{result_at, arrays_behind, named_at}
use Rattle.java_parser_grammar.specs.MethodReading.{method_from}
use Rattle.java_parser_grammar.specs.MethodReading.{method_at, if_ended}
use Rattle.java_parser_methods.specs.SignatureReading.{Front, front_at, method_with, parameter_list_at}
use Rattle.java_parser_methods.specs.SignatureReading.{signature_at, last_block_at}
use Rattle.java_parser_methods.specs.SignatureReading.{whole_named_at, whole_method_at}

-- steps behind a first one that is the same
regrouped : {A B C D : Type 0} (o : Option A) (f : A → Option B) (k : B → Option D) (g : A → Option C) (h : C
    → Option D) → ((x : A) → (f x >>= k) ≡ (g x >>= h)) → ((o >>= f) >>= k) ≡ ((o >>= g) >>= h)
regrouped (Some x) f k g h e = e x
regrouped None f k g h e = refl

joined : {A B C : Type 0} (o : Option A) (f : A → Option B) (g : B → Option C)
    → ((o >>= f) >>= g) ≡ (o >>= λ x. f x >>= g)
joined (Some x) f g = refl
joined None f g = refl

-- something is made of what was read, where no tokens are left
ended_with : {A B : Type 0} (make : A → B) (x : A) (ts : List Spelled)
    → (if_ended x ts >>= λ y. Some (make y)) ≡ if_ended (make x) ts
ended_with make x [] = refl
ended_with make x (t ∷ ts) = refl

module _ (readers : Readers) (n : ℕ) where
  named_is_whole : (front : Front) (ts : List Spelled) → whole_named_at readers n front ts ≡ (named_at readers n
      front.modifiers front.type_parameters front.result ts >>= λ m. if_ended m.0 m.1)
  unfolding whole_named_at named_at signature_at parameter_list_at last_block_at
  named_is_whole front ts =
      regrouped (after_name ts) _ _ _ _ (λ x.
      joined (parameter_list_at readers n x.1) _ _ ∙ regrouped (after_sign (codes "(") x.1) _ _ _ _ (λ a.
      regrouped (parameters_at readers n a) _ _ _ _ (λ p.
      regrouped (after_sign (codes ")") p.1) _ _ _ _ (λ b.
      regrouped (throws_at readers n (arrays_behind front.result b).1) _ _ _ _ (λ t.
      regrouped (block_at readers n t.1) _ _ _ _ (λ s.
      ended_with (method_with front (record {
        name = x.0;
        parameters = p.0;
        arrays = (arrays_behind front.result b).0;
        throws = t.0;
      })) s.0 s.1))))))

  pub method_is_whole : (ts : List Spelled) → method_at readers n ts ≡ whole_method_at readers n ts
  unfolding method_from whole_method_at front_at
  method_is_whole ts =
      regrouped (modifiers_at (length ts) ts) _ _ _ _ (λ m.
      regrouped (type_parameters_at readers n m.1) _ _ _ _ (λ t.
      regrouped (result_at readers n t.1) _ _ _ _ (λ r.
      sym (named_is_whole (record { modifiers = m.0; type_parameters = t.0; result = r.0 }) r.1))))
