-- What the last call of a function says, from where that function began.
use Rattle.std.proofs.Common.{◌≡◌, ◌≤◌, ℕ, Result, Ok, Err, Option, Some, IfOk, ap, sym, ◌∙◌, arith}
use Rattle.std.proofs.Common.{Bool, true, false, None, if◌then◌else◌, refl}
use Rattle.java_tree.specs.KeptPlaces.{Puts, Marks, start_places}
use Rattle.java_tree.specs.declared.statements.StartTree.{StartTree}
use Rattle.java_parser_grammar.specs.Taking.{◌>>=◌}
use Rattle.java_parser_types.specs.declared.error.ReadError.{ReadError}

-- what puts these marks puts the same marks
pub puts_same : {X : Type 0} (r : Result X ReadError) (puts : X → Puts) (made whole : Puts) → ((ms : Marks) → made ms
    ≡ whole ms) → IfOk r (λ x. (ms : Marks) → puts x ms ≡ made ms) → IfOk r (λ x. (ms : Marks) → puts x ms ≡ whole ms)
puts_same (Ok x) puts made whole same h = λ ms. h ms ∙ same ms
puts_same (Err e) puts made whole same h = tt

-- what has at most so many has at most as many as there were
pub within_back : {X : Type 0} (r : Result X ReadError) (size : X → ℕ) (m n : ℕ) → m ≤ n
    → IfOk r (λ x. size x ≤ m) → IfOk r (λ x. size x ≤ n)
within_back (Ok x) size m n l h = omega (arith, l, h)
within_back (Err e) size m n l h = tt

-- what stands in memory of its own keeps its places
pub start_kept : (made given : StartTree) (rest : Marks) → ◌≡◌ {A = Option StartTree} (Some made) (Some given)
    → start_places given rest ≡ start_places made rest
start_kept made given rest same =
    let e : made ≡ given = cc in
    ap (λ (s : StartTree). start_places s rest) (sym e)

-- what was read, where a test is met
pub tested_no : {A : Type 0} (read : Option A) (x : A) (test : A → Bool) → read ≡ Some x → test x ≡ false
    → (read >>= λ y. if test y then Some y else None) ≡ None
tested_no read x test e lacks = rw (e, lacks) refl

pub tested_yes : {A : Type 0} (read : Option A) (x : A) (test : A → Bool) → read ≡ Some x → test x ≡ true
    → (read >>= λ y. if test y then Some y else None) ≡ Some x
tested_yes read x test e met = rw (e, met) refl
