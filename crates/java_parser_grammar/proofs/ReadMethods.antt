-- What the answer of reading a method says: the only formed method of these tokens, or that there is none.
use Rattle.std.proofs.Common.{◌≡◌, ℕ, ◌≤◌, List, Some, None, ap, ◌∙◌, sym}
use Rattle.java_tree.specs.declared.words.Spelled.{Spelled}
use Rattle.java_tree.specs.Trees.{Method}
use Rattle.java_tree.specs.Spelling.{spelling}
use Rattle.java_tree.specs.FormedMethods.{FormedMethod}
use Rattle.java_tree.specs.Nesting.{method_nesting}
use Rattle.java_parser_grammar.specs.Readers.{Readers}
use Rattle.java_parser_grammar.specs.MethodReading.{method_at}
use Rattle.java_parser_grammar.proofs.Ensuring.{of_equation}
use Rattle.java_parser_grammar.proofs.FindingReaders.{Finds}
use Rattle.java_parser_grammar.proofs.FoundMethods.{method_found, one_method}
use Rattle.java_parser_grammar.proofs.SoundMethods.{GotMethod, method_sound}
use Rattle.java_parser_grammar.proofs.SoundParts.{AreSound}

-- what is read is formed, small, and spells the tokens
pub read_is_formed : (readers : Readers) → AreSound readers → (n : ℕ) (ts : List Spelled) (m : Method)
    → method_at readers n ts ≡ Some m → GotMethod n ts m
read_is_formed readers sound n ts m e = of_equation (GotMethod n ts) (method_at readers n ts) m (method_sound readers
    sound n ts) e

module _ (readers : Readers) (EndsTy EndsExpr : List Spelled → Type 0) (finds : Finds readers EndsTy EndsExpr) where
  -- a formed method of the tokens is what is read
  pub formed_is_read : (n : ℕ) (ts : List Spelled) (m : Method) → FormedMethod m → method_nesting m ≤ n
      → ts ≡ spelling m → method_at readers n ts ≡ Some m
  formed_is_read n ts m f fits e = ap (method_at readers n) e ∙ method_found readers EndsTy EndsExpr finds m n f fits

  -- it is the only one
  pub only_one_read : (sound : AreSound readers) (n : ℕ) (ts : List Spelled) (m other : Method) → method_at readers n
      ts ≡ Some m → FormedMethod other → ts ≡ spelling other → other ≡ m
  only_one_read sound n ts m other e f d =
      let g = read_is_formed readers sound n ts m e in
      one_method readers EndsTy EndsExpr finds other m f g.formed (sym d ∙ g.spelled)

  -- where none is read there is none
  pub none_read : (n : ℕ) (ts : List Spelled) → method_at readers n ts ≡ None → (m : Method) → FormedMethod m
      → method_nesting m ≤ n → ts ≡ spelling m → ⊥
  none_read n ts none m f fits e = let read = formed_is_read n ts m f fits e in absurd cc
