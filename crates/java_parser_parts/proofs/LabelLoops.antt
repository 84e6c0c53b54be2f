-- The loop that reads labels: what it has, and what it still reads.
use Rattle.std.proofs.Common.{◌≡◌, ℕ, ◌+◌, ◌-◌, ◌≤◌, ◌<◌, true, false, List, [], ◌∷◌, ◌++◌, length, map, Option}
use Rattle.std.proofs.Common.{Some, None, refl, sym, ◌∙◌, ap, append-nil}
use Rattle.java_lexer.specs.declared.token.Token.{Token}
use Rattle.java_tree.specs.declared.words.Spelled.{Spelled}
use Rattle.java_tree.specs.Trees.{Label}
use Rattle.java_parser_types.specs.declared.error.ReadError.{ReadError}
use Rattle.java_parser_types.specs.declared.error.ReadError.TheVariants.{Memory, Unformed}
use Rattle.java_parser_grammar.specs.Readers.{Readers}
use Rattle.java_parser_grammar.specs.StatementReading.{begins_label, label_at, labels_at}
use Rattle.java_parser_types.specs.Tokens.{spelled}
use Rattle.java_parser_types.specs.Finishing.{finished}
use Rattle.java_parser_types.specs.Endings.{as_they_are}
use Rattle.java_parser_types.specs.ReadAnswer.{Fails}
use Rattle.java_parser_types.proofs.ReadLoops.{some_left, none_left, regroup}

-- with nothing before it
pub alone : {A : Type 0} (o : Option (List A × List Spelled)) → finished as_they_are [] o ≡ o
alone (Some x) = refl
alone None = refl

module _ (readers : Readers) (n : ℕ) (total : Option (List Label × List Spelled)) (tokens : List Token) (i : ℕ)
    (front : List Label) where
  pub label_goes_on : (x : Label) (here rest : List Spelled) → i < length tokens → begins_label readers here ≡ true
      → label_at readers n here ≡ Some (x, rest)
      → finished as_they_are front (labels_at readers n (length (map spelled tokens) - i) here) ≡ total
      → finished as_they_are (front ++ x ∷ []) (labels_at readers n (length (map spelled tokens) - (i + 1)) rest)
      ≡ total
  unfolding labels_at
  label_goes_on x here rest lt g h so_far =
      let k = some_left tokens i lt in
      let one : finished as_they_are front (labels_at readers n (length (map spelled tokens) - i) here) ≡ finished
      as_they_are (front ++ x ∷ []) (labels_at readers n (length (map spelled tokens) - (i + 1)) rest) =
      rw (k, g, h) (regroup as_they_are front x (labels_at readers n (length (map spelled tokens) - (i + 1)) rest)) in
      sym one ∙ so_far

  pub label_fails : (e : ReadError) (here : List Spelled) → i < length tokens → begins_label readers here ≡ true
      → Fails e (label_at readers n here)
      → finished as_they_are front (labels_at readers n (length (map spelled tokens) - i) here) ≡ total → Fails e total
  unfolding labels_at
  label_fails Memory here lt g h so_far = tt
  label_fails Unformed here lt g h so_far =
      let k = some_left tokens i lt in
      let one : finished as_they_are front (labels_at readers n (length (map spelled tokens) - i) here) ≡ None =
      rw (k, g, h) refl in
      sym so_far ∙ one

  pub labels_end : (rest : List Spelled) → i < length tokens → begins_label readers rest ≡ false
      → finished as_they_are front (labels_at readers n (length (map spelled tokens) - i) rest) ≡ total
      → total ≡ Some (front, rest)
  unfolding labels_at
  labels_end rest lt h so_far =
      let k = some_left tokens i lt in
      let one : finished as_they_are front (labels_at readers n (length (map spelled tokens) - i) rest) ≡ Some (
        front,
        rest,
      ) = rw (k, h) (ap (λ (xs : List Label). as_they_are (xs, rest)) (append-nil front)) in
      sym so_far ∙ one

  pub labels_run_out : (rest : List Spelled) → length tokens ≤ i
      → finished as_they_are front (labels_at readers n (length (map spelled tokens) - i) rest) ≡ total
      → total ≡ Some (front, rest)
  unfolding labels_at
  labels_run_out rest le so_far =
      let k = none_left tokens i le in
      let one : finished as_they_are front (labels_at readers n (length (map spelled tokens) - i) rest) ≡ Some (
        front,
        rest,
      ) = rw k (ap (λ (xs : List Label). as_they_are (xs, rest)) (append-nil front)) in
      sym so_far ∙ one
