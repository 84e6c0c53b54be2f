-- What an answer of the code says of the formed trees of one kind that tokens spell.
use Rattle.std.proofs.Common.{◌≡◌, ℕ, ◌≤◌, List, [], ◌∷◌, Option, Some, None, Result, Ok, Err, IfOk, ap, ◌∙◌, sym}
use Rattle.std.specs.Prelude.{IsErrOf}
use Rattle.java_tree.specs.declared.words.Spelled.{Spelled}
use Rattle.java_parser_types.specs.declared.error.ReadError.{ReadError}
use Rattle.java_parser_types.specs.declared.error.ReadError.TheVariants.{Memory, Unformed}
use Rattle.java_parser_grammar.specs.MethodReading.{if_ended}
use Rattle.java_parser_types.specs.ReadAnswer.{Gives}
use Rattle.java_parser_types.specs.Whole.{all_of}
use Rattle.java_parser_grammar.proofs.Ensuring.{Ensures, of_equation}
use Rattle.java_parser_grammar.proofs.SoundSteps.{GotOne}

abbrev taken : {A : Type 0} → A → List Spelled → A × List Spelled
taken x rest = (x, rest)

ended_at : {A : Type 0} (x a : A) (rest : List Spelled) → if_ended x rest ≡ Some a
    → Some (taken x rest) ≡ Some (taken a [])
ended_at {A} x a [] e =
    let same : x ≡ a = cc in
    ap (λ (y : A). Some (taken y [])) same
ended_at x a (t ∷ ts) e = absurd cc

-- what takes all of the tokens leaves none
ended : {A : Type 0} (read : Option (A × List Spelled)) (a : A) → all_of read ≡ Some a → read ≡ Some (a, [])
ended None a e = absurd cc
ended (Some x) a e = ended_at x.0 a x.1 e

module _ {T A : Type 0} (view : T → A) (Formed : A → Type 0) (nesting : A → ℕ) (onto : A → List Spelled
    → List Spelled) (n : ℕ) (ts : List Spelled) (read : Option (A × List Spelled))
    (sound : Ensures (GotOne Formed nesting onto n ts) read) where
  got : (a : A) → all_of read ≡ Some a → GotOne Formed nesting onto n ts (a, [])
  got a e = of_equation (GotOne Formed nesting onto n ts) read (a, []) sound (ended read a e)

  pub whole_formed : (r : Result T ReadError) → Gives view r (all_of read) → IfOk r (λ x. Formed (view x))
  whole_formed (Ok x) g = (got (view x) g).formed
  whole_formed (Err e) g = tt

  pub whole_spelled : (r : Result T ReadError) → Gives view r (all_of read) → IfOk r (λ x. onto (view x) [] ≡ ts)
  whole_spelled (Ok x) g = sym (got (view x) g).spelled
  whole_spelled (Err e) g = tt

  pub whole_small : (r : Result T ReadError) → Gives view r (all_of read) → IfOk r (λ x. nesting (view x) ≤ n)
  whole_small (Ok x) g = (got (view x) g).small
  whole_small (Err e) g = tt

  pub whole_only : ((a b : A) → Formed a → Formed b → onto a [] ≡ onto b [] → a ≡ b) → (r : Result T ReadError)
      → Gives view r (all_of read) → IfOk r (λ x. (other : A) → Formed other → onto other [] ≡ ts → other ≡ view x)
  whole_only one (Ok x) g = λ other f s. one other (view x) f (got (view x) g).formed (s ∙ (got (view x) g).spelled)
  whole_only one (Err e) g = tt

-- where none is read there is none
pub whole_none : {T A : Type 0} (view : T → A) (Formed : A → Type 0) (nesting : A → ℕ) (onto : A → List Spelled
    → List Spelled) (n : ℕ) (ts : List Spelled) (read : List Spelled → Option (A × List Spelled)) →
    ((a : A) → Formed a → nesting a ≤ n → read (onto a []) ≡ Some (a, [])) →
    (r : Result T ReadError) → Gives view r (all_of (read ts)) → IsErrOf r Unformed → (other : A) → Formed other
    → nesting other ≤ n → onto other [] ≡ ts → ⊥
whole_none view Formed nesting onto n ts read found (Ok x) g h other f fits s = absurd cc
whole_none view Formed nesting onto n ts read found (Err Memory) g h other f fits s = absurd cc
whole_none view Formed nesting onto n ts read found (Err Unformed) g h other f fits s =
    let all : all_of (read ts) ≡ Some other = ap (λ (us : List Spelled). all_of (read us)) (sym s)
    ∙ ap all_of (found other f fits) in
    absurd cc
