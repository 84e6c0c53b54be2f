-- The loop that reads the parts of a class that is made.
use Rattle.std.proofs.Common.{◌≡◌, ℕ, suc, ◌+◌, ◌-◌, ◌≤◌, ◌<◌, Bool, true, false, List, [], ◌∷◌, ◌++◌, length}
use Rattle.std.proofs.Common.{map, codes, Option, Some, None, if◌then◌else◌, refl, sym, ◌∙◌}
use Rattle.java_lexer.specs.declared.token.Token.{Token}
use Rattle.java_tree.specs.declared.words.Spelled.{Spelled}
use Rattle.java_tree.specs.Trees.{Ty, Part}
use Rattle.java_parser_types.specs.declared.error.ReadError.{ReadError}
use Rattle.java_parser_types.specs.declared.error.ReadError.TheVariants.{Memory, Unformed}
use Rattle.java_parser_grammar.specs.Taking.{◌>>=◌, match_option, after_sign}
use Rattle.java_parser_grammar.specs.TypeReading.{is_diamond, made_part_with, made_parts_with}
use Rattle.java_parser_types.specs.PointBehind.{point_behind}
use Rattle.java_parser_types.specs.Tokens.{spelled}
use Rattle.java_parser_types.specs.Finishing.{finished}
use Rattle.java_parser_types.specs.ReadAnswer.{Fails}
use Rattle.java_parser_types.proofs.ReadLoops.{some_left, none_left, regroup}

by_point : {X : Type 0} (b : Bool) (end : X) (point : Option (List Spelled)) (go : List Spelled → X)
    → (if b then end else match_option point end go) ≡ match_option (if b then None else point) end go
by_point true end point go = refl
by_point false end point go = refl

module _ {B : Type 0} (read : List Spelled → Option (Ty × List Spelled)) (finish : List Part × List Spelled
    → Option B) (total : Option B) (tokens : List Token) (i : ℕ) (front : List Part) where
  one_part : (x : Part) (here rest : List Spelled) (m : ℕ) → made_part_with read here ≡ Some (x, rest)
      → made_parts_with read (suc m) here ≡ match_option (point_behind x rest) (Some (x ∷ [], rest))
      (λ r. made_parts_with read m r >>= λ others. Some (x ∷ others.0, others.1))
  unfolding made_parts_with
  one_part x here rest m h = rw h (by_point (is_diamond x) (Some (x ∷ [], rest)) (after_sign (codes ".") rest)
      (λ r. made_parts_with read m r >>= λ others. Some (x ∷ others.0, others.1)))

  pub made_goes_on : (x : Part) (here rest after : List Spelled) → i < length tokens
      → made_part_with read here ≡ Some (x, rest) → point_behind x rest ≡ Some after
      → finished finish front (made_parts_with read (length (map spelled tokens) - i) here) ≡ total
      → finished finish (front ++ x ∷ []) (made_parts_with read (length (map spelled tokens) - (i + 1)) after) ≡ total
  made_goes_on x here rest after lt h g so_far =
      let k = some_left tokens i lt in
      let one : finished finish front (made_parts_with read (length (map spelled tokens) - i) here) ≡ finished finish
      (front ++ x ∷ []) (made_parts_with read (length (map spelled tokens) - (i + 1)) after) =
      rw (k, one_part x here rest (length (map spelled tokens) - (i + 1)) h, g) (regroup finish front x
      (made_parts_with read (length (map spelled tokens) - (i + 1)) after)) in
      sym one ∙ so_far

  pub made_ends : (x : Part) (here rest : List Spelled) → i < length tokens
      → made_part_with read here ≡ Some (x, rest) → point_behind x rest ≡ None
      → finished finish front (made_parts_with read (length (map spelled tokens) - i) here) ≡ total
      → total ≡ finish (front ++ x ∷ [], rest)
  made_ends x here rest lt h g so_far =
      let k = some_left tokens i lt in
      let one : finished finish front (made_parts_with read (length (map spelled tokens) - i) here) ≡ finish (
        front
            ++ x ∷ [],
        rest,
      ) = rw (k, one_part x here rest (length (map spelled tokens) - (i + 1)) h, g) refl in
      sym so_far ∙ one

  pub made_fails : (e : ReadError) (here : List Spelled) → i < length tokens → Fails e (made_part_with read here)
      → finished finish front (made_parts_with read (length (map spelled tokens) - i) here) ≡ total → Fails e total
  unfolding made_parts_with
  made_fails Memory here lt h so_far = tt
  made_fails Unformed here lt h so_far =
      let k = some_left tokens i lt in
      let one : finished finish front (made_parts_with read (length (map spelled tokens) - i) here) ≡ None =
      rw (k, h) refl in
      sym so_far ∙ one

  pub made_runs_out : (rest : List Spelled) → length tokens ≤ i
      → finished finish front (made_parts_with read (length (map spelled tokens) - i) rest) ≡ total → total ≡ None
  unfolding made_parts_with
  made_runs_out rest le so_far =
      let k = none_left tokens i le in
      let one : finished finish front (made_parts_with read (length (map spelled tokens) - i) rest) ≡ None =
      rw k refl in
      sym so_far ∙ one
