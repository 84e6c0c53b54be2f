-- What an answer of the code says of the formed methods that tokens spell.
use Rattle.std.proofs.Common.{◌≡◌, ℕ, ◌≤◌, List, Result, Ok, Err, IfOk, sym}
use Rattle.std.specs.Prelude.{IsErrOf}
use Rattle.java_tree.specs.declared.methods.MethodTree.{MethodTree}
use Rattle.java_tree.specs.declared.words.Spelled.{Spelled}
use Rattle.java_tree.specs.Trees.{Method}
use Rattle.java_tree.specs.Spelling.{spelling}
use Rattle.java_tree.specs.FormedMethods.{FormedMethod}
use Rattle.java_tree.specs.Nesting.{method_nesting}
use Rattle.java_tree.specs.View.{method_of}
use Rattle.java_parser_types.specs.declared.error.ReadError.{ReadError}
use Rattle.java_parser_types.specs.declared.error.ReadError.TheVariants.{Memory, Unformed}
use Rattle.java_parser_grammar.specs.JavaReaders.{method_readers}
use Rattle.java_parser_grammar.specs.MethodReading.{method_at}
use Rattle.java_parser_types.specs.ReadAnswer.{Gives}
use Rattle.java_parser_types.proofs.ReadLoops.{ends_give}
use Rattle.java_parser_methods.specs.SignatureReading.{whole_method_at}
use Rattle.java_parser_methods.proofs.SignatureSteps.{method_is_whole}
use Rattle.java_parser_grammar.proofs.FoundJava.{EndsExpr, java_finds}
use Rattle.java_parser_grammar.proofs.ReadMethods.{read_is_formed, only_one_read, none_read}
use Rattle.java_parser_grammar.proofs.SoundJava.{java_sound}
use Rattle.java_parser_grammar.proofs.TypeFronts.{EndsTy}

module _ (n : ℕ) (ts : List Spelled) where
  -- what is given of a method in two parts is given of the method
  pub by_signature : (r : Result MethodTree ReadError) → Gives method_of r (whole_method_at method_readers n ts)
      → Gives method_of r (method_at method_readers n ts)
  by_signature r g = ends_give method_of r (method_at method_readers n ts) (whole_method_at method_readers n ts)
      (method_is_whole method_readers n ts) g

  pub whole_formed : (r : Result MethodTree ReadError) → Gives method_of r (method_at method_readers n ts)
      → IfOk r (λ m. FormedMethod (method_of m))
  whole_formed (Ok m) g = (read_is_formed method_readers java_sound n ts (method_of m) g).formed
  whole_formed (Err e) g = tt

  pub whole_spelled : (r : Result MethodTree ReadError) → Gives method_of r (method_at method_readers n ts)
      → IfOk r (λ m. spelling (method_of m) ≡ ts)
  whole_spelled (Ok m) g = sym (read_is_formed method_readers java_sound n ts (method_of m) g).spelled
  whole_spelled (Err e) g = tt

  pub whole_small : (r : Result MethodTree ReadError) → Gives method_of r (method_at method_readers n ts)
      → IfOk r (λ m. method_nesting (method_of m) ≤ n)
  whole_small (Ok m) g = (read_is_formed method_readers java_sound n ts (method_of m) g).small
  whole_small (Err e) g = tt

  pub whole_only : (r : Result MethodTree ReadError) → Gives method_of r (method_at method_readers n ts)
      → IfOk r (λ m. (other : Method) → FormedMethod other → spelling other ≡ ts → other ≡ method_of m)
  whole_only (Ok m) g = λ other f s. only_one_read method_readers EndsTy EndsExpr java_finds java_sound n ts
      (method_of m) other g f (sym s)
  whole_only (Err e) g = tt

  pub whole_none : (r : Result MethodTree ReadError) → Gives method_of r (method_at method_readers n ts)
      → IsErrOf r Unformed → (m : Method) → FormedMethod m → method_nesting m ≤ n → spelling m ≡ ts → ⊥
  whole_none (Ok x) g h m f fits s = absurd cc
  whole_none (Err Memory) g h m f fits s = absurd cc
  whole_none (Err Unformed) g h m f fits s = none_read method_readers EndsTy EndsExpr java_finds n ts g m f fits (sym s)
