-- A loop that reads items: what it has, and what it still reads.
use Rattle.std.proofs.Common.{◌≡◌, ℕ, suc, ◌+◌, ◌-◌, ◌≤◌, ◌<◌, List, [], ◌∷◌, ◌++◌, length, map, codes}
use Rattle.std.proofs.Common.{Option, Some, None, Result, refl, sym, ap, ◌∙◌, subst, append_assoc, append-nil}
use Rattle.std.proofs.Common.{arith}
use Rattle.std.proofs.lemmas.List.{length-map}
use Rattle.java_lexer.specs.declared.token.Token.{Token}
use Rattle.java_tree.specs.declared.words.Spelled.{Spelled}
use Rattle.java_parser_types.specs.declared.error.ReadError.{ReadError}
use Rattle.java_parser_types.specs.declared.error.ReadError.TheVariants.{Memory, Unformed}
use Rattle.java_parser_grammar.specs.Taking.{◌>>=◌, after_sign, commas}
use Rattle.java_parser_grammar.specs.TypeReading.{after_brackets, brackets_at, points}
use Rattle.java_parser_types.specs.Tokens.{spelled}
use Rattle.java_parser_types.specs.Finishing.{finished}
use Rattle.java_parser_types.specs.ReadAnswer.{Fails, Gives}

pub some_left : (tokens : List Token) (i : ℕ) → i < length tokens
    → length (map spelled tokens) - i ≡ suc (length (map spelled tokens) - (i + 1))
some_left tokens i lt = omega (arith, length-map tokens spelled)

pub none_left : (tokens : List Token) (i : ℕ) → length tokens ≤ i → length (map spelled tokens) - i ≡ 0
none_left tokens i le = omega (arith, length-map tokens spelled)

pub regroup : {A B : Type 0} (finish : List A × List Spelled → Option B) (front : List A) (x : A)
    (read : Option (List A × List Spelled)) → finished finish front (read >>= λ y. Some (x ∷ y.0, y.1)) ≡ finished
    finish (front ++ x ∷ []) read
regroup {A} finish front x (Some y) = ap (λ (xs : List A). finish (xs, y.1)) (simp append_assoc)
regroup finish front x None = refl

-- ---- behind commas

module _ {A B : Type 0} (read : List Spelled → Option (A × List Spelled)) (finish : List A × List Spelled
    → Option B) (total : Option B) (tokens : List Token) (i : ℕ) (front : List A) where
  pub comma_goes_on : (x : A) (here after rest : List Spelled) → i < length tokens
      → after_sign (codes ",") here ≡ Some after → read after ≡ Some (x, rest)
      → finished finish front (commas read (length (map spelled tokens) - i) here) ≡ total
      → finished finish (front ++ x ∷ []) (commas read (length (map spelled tokens) - (i + 1)) rest) ≡ total
  unfolding commas
  comma_goes_on x here after rest lt g h so_far =
      let k = some_left tokens i lt in
      let one : finished finish front (commas read (length (map spelled tokens) - i) here) ≡ finished finish (front
      ++ x ∷ []) (commas read (length (map spelled tokens) - (i + 1)) rest) =
      rw (k, g, h) (regroup finish front x (commas read (length (map spelled tokens) - (i + 1)) rest)) in
      sym one ∙ so_far

  pub comma_fails : (e : ReadError) (here after : List Spelled) → i < length tokens
      → after_sign (codes ",") here ≡ Some after → Fails e (read after)
      → finished finish front (commas read (length (map spelled tokens) - i) here) ≡ total → Fails e total
  unfolding commas
  comma_fails Memory here after lt g h so_far = tt
  comma_fails Unformed here after lt g h so_far =
      let k = some_left tokens i lt in
      let one : finished finish front (commas read (length (map spelled tokens) - i) here) ≡ None = rw (k, g, h) refl in
      sym so_far ∙ one

  pub comma_ends : (rest : List Spelled) → i < length tokens → after_sign (codes ",") rest ≡ None
      → finished finish front (commas read (length (map spelled tokens) - i) rest) ≡ total
      → total ≡ finish (front, rest)
  unfolding commas
  comma_ends rest lt h so_far =
      let k = some_left tokens i lt in
      let one : finished finish front (commas read (length (map spelled tokens) - i) rest) ≡ finish (front, rest) =
      rw (k, h) (ap (λ (xs : List A). finish (xs, rest)) (append-nil front)) in
      sym so_far ∙ one

  pub comma_runs_out : (rest : List Spelled) → length tokens ≤ i
      → finished finish front (commas read (length (map spelled tokens) - i) rest) ≡ total
      → total ≡ finish (front, rest)
  unfolding commas
  comma_runs_out rest le so_far =
      let k = none_left tokens i le in
      let one : finished finish front (commas read (length (map spelled tokens) - i) rest) ≡ finish (front, rest) =
      rw k (ap (λ (xs : List A). finish (xs, rest)) (append-nil front)) in
      sym so_far ∙ one

  -- ---- behind points

  pub point_goes_on : (x : A) (here after rest : List Spelled) → i < length tokens
      → after_sign (codes ".") here ≡ Some after → read after ≡ Some (x, rest)
      → finished finish front (points read (length (map spelled tokens) - i) here) ≡ total
      → finished finish (front ++ x ∷ []) (points read (length (map spelled tokens) - (i + 1)) rest) ≡ total
  unfolding points
  point_goes_on x here after rest lt g h so_far =
      let k = some_left tokens i lt in
      let one : finished finish front (points read (length (map spelled tokens) - i) here) ≡ finished finish (front
      ++ x ∷ []) (points read (length (map spelled tokens) - (i + 1)) rest) =
      rw (k, g, h) (regroup finish front x (points read (length (map spelled tokens) - (i + 1)) rest)) in
      sym one ∙ so_far

  pub point_fails : (e : ReadError) (here after : List Spelled) → i < length tokens
      → after_sign (codes ".") here ≡ Some after → Fails e (read after)
      → finished finish front (points read (length (map spelled tokens) - i) here) ≡ total → Fails e total
  unfolding points
  point_fails Memory here after lt g h so_far = tt
  point_fails Unformed here after lt g h so_far =
      let k = some_left tokens i lt in
      let one : finished finish front (points read (length (map spelled tokens) - i) here) ≡ None = rw (k, g, h) refl in
      sym so_far ∙ one

  pub point_ends : (rest : List Spelled) → i < length tokens → after_sign (codes ".") rest ≡ None
      → finished finish front (points read (length (map spelled tokens) - i) rest) ≡ total
      → total ≡ finish (front, rest)
  unfolding points
  point_ends rest lt h so_far =
      let k = some_left tokens i lt in
      let one : finished finish front (points read (length (map spelled tokens) - i) rest) ≡ finish (front, rest) =
      rw (k, h) (ap (λ (xs : List A). finish (xs, rest)) (append-nil front)) in
      sym so_far ∙ one

  pub point_runs_out : (rest : List Spelled) → length tokens ≤ i
      → finished finish front (points read (length (map spelled tokens) - i) rest) ≡ total
      → total ≡ finish (front, rest)
  unfolding points
  point_runs_out rest le so_far =
      let k = none_left tokens i le in
      let one : finished finish front (points read (length (map spelled tokens) - i) rest) ≡ finish (front, rest) =
      rw k (ap (λ (xs : List A). finish (xs, rest)) (append-nil front)) in
      sym so_far ∙ one

-- what is given of an end is given of the whole
pub ends_give : {X Y : Type 0} (view : X → Y) (r : Result X ReadError) (total end : Option Y) → total ≡ end
    → Gives view r end → Gives view r total
ends_give view r total end e h = subst (λ (o : Option _). Gives view r o) (sym e) h

-- ---- brackets

module _ (total : ℕ × List Spelled) (tokens : List Token) (count i : ℕ) where
  pub bracket_goes_on : (here after : List Spelled) → i < length tokens → after_brackets here ≡ Some after
      → (
        count + (brackets_at (length (map spelled tokens) - i) here).0,
        (brackets_at (length (map spelled tokens) - i) here).1,
      ) ≡ total
      → (
        count + 1 + (brackets_at (length (map spelled tokens) - (i + 1)) after).0,
        (brackets_at (length (map spelled tokens) - (i + 1)) after).1,
      ) ≡ total
  unfolding brackets_at
  bracket_goes_on here after lt g so_far =
      let k = some_left tokens i lt in
      let b : ℕ × List Spelled = brackets_at (length (map spelled tokens) - (i + 1)) after in
      let one : brackets_at (length (map spelled tokens) - i) here ≡ (suc b.0, b.1) = rw (k, g) refl in
      let two : count + 1 + b.0 ≡ count + suc b.0 = omega arith in
      ap (λ (n : ℕ). (n, b.1)) two ∙ (sym (ap (λ (d : ℕ × List Spelled). (count + d.0, d.1)) one) ∙ so_far)

  pub bracket_ends : (rest : List Spelled) → i < length tokens → after_brackets rest ≡ None
      → (
        count + (brackets_at (length (map spelled tokens) - i) rest).0,
        (brackets_at (length (map spelled tokens) - i) rest).1,
      ) ≡ total → (count, rest) ≡ total
  unfolding brackets_at
  bracket_ends rest lt h so_far =
      let k = some_left tokens i lt in
      let one : brackets_at (length (map spelled tokens) - i) rest ≡ (0, rest) = rw (k, h) refl in
      let two : count ≡ count + 0 = omega arith in
      ap (λ (n : ℕ). (n, rest)) two ∙ (sym (ap (λ (d : ℕ × List Spelled). (count + d.0, d.1)) one) ∙ so_far)

  pub bracket_runs_out : (rest : List Spelled) → length tokens ≤ i
      → (
        count + (brackets_at (length (map spelled tokens) - i) rest).0,
        (brackets_at (length (map spelled tokens) - i) rest).1,
      ) ≡ total → (count, rest) ≡ total
  unfolding brackets_at
  bracket_runs_out rest le so_far =
      let k = none_left tokens i le in
      let one : brackets_at (length (map spelled tokens) - i) rest ≡ (0, rest) = rw k refl in
      let two : count ≡ count + 0 = omega arith in
      ap (λ (n : ℕ). (n, rest)) two ∙ (sym (ap (λ (d : ℕ × List Spelled). (count + d.0, d.1)) one) ∙ so_far)
