-- Types in angle brackets are read, and types with a sign between them.
use Rattle.std.proofs.Common.{◌≡◌, ℕ, zero, suc, ◌+◌, ◌≤◌, true, List, [], ◌∷◌, length, Option, Some, None, refl}
use Rattle.std.proofs.Common.{codes, arith}
use Rattle.std.specs.Prelude.{bytes_eq}
use Rattle.java_tree.specs.declared.words.Spelled.{Spelled}
use Rattle.java_tree.specs.Words.{sign, sign_glued}
use Rattle.java_tree.specs.Trees.{Ty, Arguments, Angled, no_argument, argument_then}
use Rattle.java_tree.specs.Spelling.{ty_onto, behind_sign, between_sign, maybe_angled_onto, more_arguments_onto}
use Rattle.java_tree.specs.Spelling.{argument_onto}
use Rattle.java_tree.specs.FormedModifiers.{Each}
use Rattle.java_tree.specs.Formed.{FormedTypes}
use Rattle.java_tree.specs.Nesting.{ty_nesting, maybe_angled_nesting, most_over}
use Rattle.java_parser_grammar.specs.Taking.{after_sign}
use Rattle.java_parser_grammar.specs.BalancedReading.{Reading}
use Rattle.java_parser_grammar.specs.TypeReading.{ty_at, types_at, behind_each, between_each}
use Rattle.java_parser_grammar.proofs.TypeFronts.{ty_longer, arguments_longer}
use Rattle.java_parser_grammar.proofs.FoundTypes.{angle_found, argument_found, arguments_found}

-- the types that the method of a call or of a reference takes
pub types_found : (types : Option Arguments) → FormedTypes types → (n : ℕ) (rest : List Spelled)
    → maybe_angled_nesting types ≤ n → after_sign (codes "<") rest ≡ None → types_at n (maybe_angled_onto types rest)
    ≡ Some (types, rest)
unfolding types_at
types_found None f n rest fits e = rw e refl
types_found (Some (Angled no_argument g)) f n rest fits e = absurd cc
types_found (Some (Angled (argument_then a others) g)) f n rest fits e =
    let tail = sign_glued g (codes ">") ∷ rest in
    let s = more_arguments_onto others tail in
    rw (
      angle_found (ty_at n) a others g (argument_onto a s) s rest (argument_found a f.0.0.0 n others g rest
          (omega arith)) (arguments_found others f.0.0.1 n (length s) g rest (omega arith)
          (omega (arith, arguments_longer others tail))),
      f.1,
    ) refl

-- with a sign between them that goes on with no type
module _ (text : List ℕ) (same : bytes_eq text text ≡ true) (Ends : List Spelled → Type 0)
    (apart : (s : List Spelled) → Ends (sign text ∷ s)) (Formed : Ty → Type 0) (n : ℕ) (read : Reading Ty)
    (found : (t : Ty) → Formed t → (rest : List Spelled) → ty_nesting t ≤ n → Ends rest
    → read (ty_onto t rest) ≡ Some (t, rest)) where
  behind_ends : (ts : List Ty) (rest : List Spelled) → Ends rest → Ends (behind_sign text ts rest)
  behind_ends [] rest e = e
  behind_ends (t ∷ ts) rest e = apart (ty_onto t (behind_sign text ts rest))

  behind_longer : (ts : List Ty) (rest : List Spelled) → length ts + length rest ≤ length (behind_sign text ts rest)
  behind_longer [] rest = omega arith
  behind_longer (t ∷ ts) rest = omega (arith, behind_longer ts rest, ty_longer t (behind_sign text ts rest))

  behind_found : (ts : List Ty) → Each Formed ts → (k : ℕ) (rest : List Spelled) → most_over ty_nesting ts ≤ n
      → length ts ≤ k → after_sign text rest ≡ None → Ends rest → behind_each text read k
      (behind_sign text ts rest) ≡ Some (ts, rest)
  unfolding behind_each
  behind_found [] f zero rest fits room none e = refl
  behind_found [] f (suc k) rest fits room none e = rw none refl
  behind_found (t ∷ ts) f zero rest fits room none e = absurd (omega arith)
  behind_found (t ∷ ts) f (suc k) rest fits room none e =
      let s = behind_sign text ts rest in
      rw (
        same,
        found t f.0 s (omega arith) (behind_ends ts rest e),
        behind_found ts f.1 k rest (omega arith) (omega arith) none e,
      ) refl

  pub between_found : (t : Ty) (ts : List Ty) → Each Formed (t ∷ ts) → (rest : List Spelled)
      → most_over ty_nesting (t ∷ ts) ≤ n → after_sign text rest ≡ None → Ends rest → between_each text read
      (between_sign text (t ∷ ts) rest) ≡ Some (t ∷ ts, rest)
  between_found t ts f rest fits none e =
      let s = behind_sign text ts rest in
      rw (
        found t f.0 s (omega arith) (behind_ends ts rest e),
        behind_found ts f.1 (length s) rest (omega arith) (omega (arith, behind_longer ts rest)) none e,
      ) refl
