-- A loop that reads types behind a sign: what it has, and what it still reads.
use Rattle.std.proofs.Common.{◌≡◌, ℕ, ◌+◌, ◌-◌, ◌≤◌, ◌<◌, List, [], ◌∷◌, ◌++◌, length, map}
use Rattle.std.proofs.Common.{Option, Some, None, refl, sym, ap, ◌∙◌, append-nil}
use Rattle.java_lexer.specs.declared.token.Token.{Token}
use Rattle.java_tree.specs.declared.words.Spelled.{Spelled}
use Rattle.java_tree.specs.Trees.{Ty}
use Rattle.java_parser_types.specs.declared.error.ReadError.{ReadError}
use Rattle.java_parser_types.specs.declared.error.ReadError.TheVariants.{Memory, Unformed}
use Rattle.java_parser_grammar.specs.Taking.{after_sign}
use Rattle.java_parser_grammar.specs.TypeReading.{behind_each}
use Rattle.java_parser_types.specs.Tokens.{spelled}
use Rattle.java_parser_types.specs.Finishing.{finished}
use Rattle.java_parser_types.specs.ReadAnswer.{Fails}
use Rattle.java_parser_types.proofs.ReadLoops.{some_left, none_left, regroup}

module _ {B : Type 0} (text : List ℕ) (read : List Spelled → Option (Ty × List Spelled)) (finish : List Ty × List
    Spelled → Option B) (total : Option B) (tokens : List Token) (i : ℕ) (front : List Ty) where
  pub sign_goes_on : (x : Ty) (here after rest : List Spelled) → i < length tokens
      → after_sign text here ≡ Some after → read after ≡ Some (x, rest)
      → finished finish front (behind_each text read (length (map spelled tokens) - i) here) ≡ total
      → finished finish (front ++ x ∷ []) (behind_each text read (length (map spelled tokens) - (i + 1)) rest) ≡ total
  unfolding behind_each
  sign_goes_on x here after rest lt g h so_far =
      let k = some_left tokens i lt in
      let one : finished finish front (behind_each text read (length (map spelled tokens) - i) here)
      ≡ finished finish (front ++ x ∷ []) (behind_each text read (length (map spelled tokens) - (i + 1)) rest) =
      rw (k, g, h) (regroup finish front x (behind_each text read (length (map spelled tokens) - (i + 1)) rest)) in
      sym one ∙ so_far

  pub sign_fails : (e : ReadError) (here after : List Spelled) → i < length tokens
      → after_sign text here ≡ Some after → Fails e (read after)
      → finished finish front (behind_each text read (length (map spelled tokens) - i) here) ≡ total → Fails e total
  unfolding behind_each
  sign_fails Memory here after lt g h so_far = tt
  sign_fails Unformed here after lt g h so_far =
      let k = some_left tokens i lt in
      let one : finished finish front (behind_each text read (length (map spelled tokens) - i) here) ≡ None =
      rw (k, g, h) refl in
      sym so_far ∙ one

  pub sign_ends : (rest : List Spelled) → i < length tokens → after_sign text rest ≡ None
      → finished finish front (behind_each text read (length (map spelled tokens) - i) rest) ≡ total
      → total ≡ finish (front, rest)
  unfolding behind_each
  sign_ends rest lt h so_far =
      let k = some_left tokens i lt in
      let one : finished finish front (behind_each text read (length (map spelled tokens) - i) rest)
      ≡ finish (front, rest) =
      rw (k, h) (ap (λ (xs : List Ty). finish (xs, rest)) (append-nil front)) in
      sym so_far ∙ one

  pub sign_runs_out : (rest : List Spelled) → length tokens ≤ i
      → finished finish front (behind_each text read (length (map spelled tokens) - i) rest) ≡ total
      → total ≡ finish (front, rest)
  unfolding behind_each
  sign_runs_out rest le so_far =
      let k = none_left tokens i le in
      let one : finished finish front (behind_each text read (length (map spelled tokens) - i) rest)
      ≡ finish (front, rest) =
      rw k (ap (λ (xs : List Ty). finish (xs, rest)) (append-nil front)) in
      sym so_far ∙ one
