-- A loop that takes tokens up to the bracket that closes them.
use Rattle.std.proofs.Common.{◌≡◌, ℕ, List, [], ◌∷◌, ◌++◌, Option, Some, None, refl, sym, ap, ◌∙◌, append-nil}
use Rattle.java_tree.specs.declared.words.Spelled.{Spelled}
use Rattle.java_tree.specs.Brackets.{awaited_behind}
use Rattle.java_parser_types.specs.declared.error.ReadError.{ReadError}
use Rattle.java_parser_types.specs.declared.error.ReadError.TheVariants.{Memory, Unformed}
use Rattle.java_parser_lookahead.specs.declared.brackets.Bracket.{Bracket}
use Rattle.java_parser_grammar.specs.BalancedReading.{closed_at}
use Rattle.java_parser_lookahead.specs.AwaitedBrackets.{closing, awaited_onto, first_at}
use Rattle.java_parser_types.specs.Finishing.{finished}
use Rattle.java_parser_types.specs.Endings.{as_they_are}
use Rattle.java_parser_types.specs.ReadAnswer.{Fails}
use Rattle.java_parser_types.proofs.ReadLoops.{regroup}

pub awaited_push : (bs : List Bracket) (b : Bracket) (outer : List (List ℕ))
    → awaited_onto (bs ++ b ∷ []) outer ≡ closing b ∷ awaited_onto bs outer
awaited_push [] b outer = refl
awaited_push (a ∷ bs) b outer = awaited_push bs b (closing a ∷ outer)

pub awaited_push_two : (bs : List Bracket) (a b : Bracket) → awaited_onto ((bs ++ a ∷ []) ++ b ∷ []) [] ≡ closing b
    ∷ (closing a ∷ awaited_onto bs [])
awaited_push_two bs a b = awaited_push (bs ++ a ∷ []) b [] ∙ ap (λ (l : List (List ℕ)). closing b ∷ l)
    (awaited_push bs a [])

-- the tokens of a first one and the others
abbrev back : Option (Spelled × List Spelled) → List Spelled
back None = []
back (Some x) = x.0 ∷ x.1

first_is : (here : List Spelled) (t : Spelled) (after : List Spelled) → first_at here ≡ Some (t, after)
    → here ≡ t ∷ after
first_is [] t after g = absurd cc
first_is (x ∷ xs) t after g = ap back g

module _ (total : Option (List Spelled × List Spelled)) (front : List Spelled) (inner : List ℕ)
    (outer : List (List ℕ)) where
  pub closed_goes_on : (now : List (List ℕ)) (t copy : Spelled) (here after : List Spelled)
      → first_at here ≡ Some (t, after) → awaited_behind t inner outer ≡ Some now → Some t ≡ Some copy
      → finished as_they_are front (closed_at (inner ∷ outer) here) ≡ total
      → finished as_they_are (front ++ copy ∷ []) (closed_at now after) ≡ total
  unfolding closed_at
  closed_goes_on now t copy here after h g same so_far =
      let equal : t ≡ copy = cc in
      let one : finished as_they_are front (closed_at (inner ∷ outer) (t ∷ after)) ≡ finished as_they_are (front ++ t
      ∷ []) (closed_at now after) = rw g (regroup as_they_are front t (closed_at now after)) in
      let two : finished as_they_are front (closed_at (inner ∷ outer) (t ∷ after)) ≡ total =
      ap (λ (ts : List Spelled). finished as_they_are front (closed_at (inner ∷ outer) ts))
      (sym (first_is here t after h)) ∙ so_far in
      ap (λ (x : Spelled). finished as_they_are (front ++ x ∷ []) (closed_at now after)) (sym equal) ∙ (sym one ∙ two)

  pub closed_fails : (e : ReadError) (t : Spelled) (here after : List Spelled) → first_at here ≡ Some (t, after)
      → Fails e (awaited_behind t inner outer) → finished as_they_are front (closed_at (inner ∷ outer) here) ≡ total
      → Fails e total
  unfolding closed_at
  closed_fails Memory t here after h g so_far = tt
  closed_fails Unformed t here after h g so_far =
      let one : finished as_they_are front (closed_at (inner ∷ outer) (t ∷ after)) ≡ None = rw g refl in
      let two : finished as_they_are front (closed_at (inner ∷ outer) (t ∷ after)) ≡ total =
      ap (λ (ts : List Spelled). finished as_they_are front (closed_at (inner ∷ outer) ts))
      (sym (first_is here t after h)) ∙ so_far in
      sym two ∙ one

  pub closed_lacks : (e : ReadError) (here : List Spelled) → Fails e (first_at here)
      → finished as_they_are front (closed_at (inner ∷ outer) here) ≡ total → Fails e total
  unfolding closed_at
  closed_lacks Memory here g so_far = tt
  closed_lacks Unformed [] g so_far = sym so_far
  closed_lacks Unformed (x ∷ xs) g so_far = absurd cc

pub closed_ends : (total : Option (List Spelled × List Spelled)) (front rest : List Spelled) (open_brackets : List
    Bracket) → open_brackets ≡ [] → finished as_they_are front (closed_at (awaited_onto open_brackets []) rest)
    ≡ total → total ≡ Some (front, rest)
unfolding closed_at
closed_ends total front rest open_brackets e so_far =
    let none : finished as_they_are front (closed_at [] rest) ≡ total =
    ap (λ (bs : List Bracket). finished as_they_are front (closed_at (awaited_onto bs []) rest)) (sym e)
    ∙ so_far in
    let one : finished as_they_are front (closed_at [] rest) ≡ Some (front, rest) =
    ap (λ (xs : List Spelled). Some (xs, rest)) (append-nil front) in
    sym none ∙ one
