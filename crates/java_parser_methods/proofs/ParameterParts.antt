-- Parameters and variables are what stands up to their names, and then the rest.
use Rattle.std.proofs.Common.{◌≡◌, ℕ, List, Option, Some, None, refl}
use Rattle.java_tree.specs.declared.words.Spelled.{Spelled}
use Rattle.java_parser_grammar.specs.BalancedReading.{before_type_at}
use Rattle.java_parser_grammar.specs.JavaReaders.{method_readers}
use Rattle.java_parser_grammar.specs.MethodReading.{parameter_at}
use Rattle.java_parser_grammar.specs.StatementReading.{variable_at, locals_at, resource_at}
use Rattle.java_parser_grammar.specs.Taking.{◌>>=◌, after_name}
use Rattle.java_parser_methods.specs.LocalReading.{declared_name_at, variable_from, variables_with}
use Rattle.java_parser_methods.specs.RowReading.{resource_from}
use Rattle.java_parser_methods.specs.SignatureReading.{parameter_from}
use Rattle.java_parser_methods.specs.TypedReading.{typed_at}

-- two steps, of which one thing is made, and then the rest
paired : {A B C X : Type 0} (o : Option A) (p : A → Option B) (f : A → B → Option C) (pair : A → B → X)
    (g : X → Option C) → ((a : A) (b : B) → f a b ≡ g (pair a b))
    → (o >>= λ a. p a >>= λ b. f a b) ≡ ((o >>= λ a. p a >>= λ b. Some (pair a b)) >>= g)
paired None p f pair g e = refl
paired {B = B} {C = C} {X = X} (Some a) p f pair g e = inner (p a) (f a) (pair a) (e a) where
  inner : (q : Option B) (k : B → Option C) (make : B → X) → ((b : B) → k b ≡ g (make b))
      → (q >>= k) ≡ ((q >>= λ b. Some (make b)) >>= g)
  inner None k make d = refl
  inner (Some b) k make d = d b

pub parameter_is_typed : (n : ℕ) (ts : List Spelled) → parameter_at method_readers n ts ≡ (typed_at method_readers n
    ts >>= λ front. parameter_from front.0 front.1)
unfolding parameter_at parameter_from
parameter_is_typed n ts = paired (before_type_at ts) _ _ _ _ (λ ms t. refl)

pub locals_are_typed : (n : ℕ) (ts : List Spelled) → locals_at method_readers n ts ≡ (typed_at method_readers n
    ts >>= λ front. variables_with method_readers n front.0 front.1)
unfolding locals_at
locals_are_typed n ts = paired (before_type_at ts) _ _ _ _ (λ ms t. refl)

renamed : {A B C : Type 0} (o : Option A) (g : A → B) (f : B → Option C) → (o >>= λ x. f (g x))
    ≡ ((o >>= λ x. Some (g x)) >>= f)
renamed (Some x) g f = refl
renamed None g f = refl

pub variable_is_named : (n : ℕ) (ts : List Spelled) → variable_at method_readers n ts ≡ (declared_name_at ts >>=
    λ x. variable_from method_readers n x.0 x.1)
unfolding variable_at
variable_is_named n ts = renamed (after_name ts) _ _

pub resource_is_typed : (n : ℕ) (ts : List Spelled) → resource_at method_readers n ts ≡ (typed_at method_readers n
    ts >>= λ front. resource_from method_readers n front.0 front.1)
unfolding resource_at resource_from
resource_is_typed n ts = paired (before_type_at ts) _ _ _ _ (λ ms t. refl)
