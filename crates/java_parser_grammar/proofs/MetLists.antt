-- Lists of expressions and of items are read, where their elements are.
use Rattle.std.proofs.Common.{◌≡◌, ℕ, zero, suc, ◌≤◌, ◌<◌, Bool, true, false, List, [], ◌∷◌, length, Some, None}
use Rattle.std.proofs.Common.{IsTrue, refl, ap, arith, codes}
use Rattle.std.proofs.lemmas.Bool.{false≢true}
use Rattle.java_tree.specs.declared.words.Spelled.{Spelled}
use Rattle.java_tree.specs.Words.{sign}
use Rattle.java_tree.specs.Trees.{Expr, Exprs, no_expr, expr_then, Array, Braces, Inits, no_init, init_then, Init}
use Rattle.java_tree.specs.Trees.{Value, Items, pack_inits}
use Rattle.java_tree.specs.Spelling.{brackets_onto, last_comma_onto, expr_onto, exprs_onto, more_exprs_onto}
use Rattle.java_tree.specs.Spelling.{lengths_onto, array_onto, more_inits_onto, init_onto}
use Rattle.java_tree.specs.Formed.{FormedExpr, FormedExprs, FormedInits, FormedInit}
use Rattle.java_tree.specs.Nesting.{exprs_nesting, array_nesting, inits_nesting, init_nesting}
use Rattle.java_parser_grammar.specs.Taking.{after_sign, commas}
use Rattle.java_parser_grammar.specs.Leads.{lead, pull}
use Rattle.java_parser_grammar.specs.ExpressionReading.{call_arguments_with, lengths_with, items_with, braces_with}
use Rattle.java_parser_grammar.specs.TypeReading.{EndsNoTypes}
use Rattle.java_parser_grammar.specs.ExpressionReading.{read_at, array_at, init_at, LeavesTypes}
use Rattle.java_parser_grammar.proofs.CommaLoops.{commas_end, commas_turn}
use Rattle.java_parser_grammar.proofs.FoundLists.{unpack_exprs}
use Rattle.java_parser_grammar.proofs.GrammarFronts.{front}
use Rattle.java_parser_grammar.proofs.Taken.{pull_bracket}
use Rattle.java_parser_grammar.proofs.Operands.{no_arguments, first_argument, lengths_end, lengths_brackets}
use Rattle.java_parser_grammar.proofs.Operands.{lengths_turn}
use Rattle.java_parser_grammar.proofs.Operands.{value_found, items_found, no_items, some_items, items_end, items_last}
use Rattle.java_parser_grammar.proofs.Operands.{items_turn}
use Rattle.java_parser_grammar.proofs.Lengths.{count_exprs, count_inits, more_exprs_longer, more_inits_longer}
use Rattle.java_parser_grammar.proofs.NoAngles.{ends_no_types}
use Rattle.java_parser_grammar.proofs.Meetings.{Met, alone}

unfoldable pub unpack_inits : Inits → List Init
unpack_inits no_init = []
unpack_inits (init_then i is) = i ∷ unpack_inits is

pub packed_inits : (is : Inits) → pack_inits (unpack_inits is) ≡ is
unfolding unpack_inits
packed_inits no_init = refl
packed_inits (init_then i is) = ap (init_then i) (packed_inits is)

-- ---- arguments and lengths

-- arguments are read behind their `(`
pub record MetArguments (all : Exprs) : Type 0 where
  pub by : (n : ℕ) (rest : List Spelled) → exprs_nesting all ≤ n → call_arguments_with (read_at n)
      (exprs_onto all (sign (codes ")") ∷ rest)) ≡ Some (unpack_exprs all, rest)

pull_exprs : (es : Exprs) (rest : List Spelled) → pull (more_exprs_onto es (sign (codes ")") ∷ rest)) ≡ 0
unfolding lead
pull_exprs no_expr rest = refl
pull_exprs (expr_then e es) rest = refl

exprs_end : (es : Exprs) → FormedExprs es → (rest : List Spelled) → EndsNoTypes (more_exprs_onto es (sign (codes ")")
    ∷ rest))
exprs_end no_expr f rest = λ l d. refl
exprs_end (expr_then e es) f rest =
    ends_no_types e f.0 (more_exprs_onto es (sign (codes ")") ∷ rest)) (exprs_end es f.1 rest)

leaves_exprs : (es : Exprs) → FormedExprs es → (rest : List Spelled) → LeavesTypes (more_exprs_onto es
    (sign (codes ")") ∷ rest))
leaves_exprs no_expr f rest = ((λ l. refl), (λ l d. refl), refl)
leaves_exprs (expr_then e es) f rest = ((λ l. refl), exprs_end (expr_then e es) f rest, refl)

-- the arguments behind the first are read
pub record GivenMore (es : Exprs) : Type 0 where
  pub by : (n k : ℕ) (rest : List Spelled) → exprs_nesting es ≤ n → count_exprs es < k → commas (read_at n 0) k
      (more_exprs_onto es (sign (codes ")") ∷ rest)) ≡ Some (unpack_exprs es, sign (codes ")") ∷ rest)

pub given_none : MetArguments no_expr
unfolding unpack_exprs
given_none = record { by = λ n rest fits. no_arguments (read_at n) rest }

pub given_some : (e : Expr) (es : Exprs) → FormedExprs (expr_then e es) → Met e → GivenMore es →
    MetArguments (expr_then e es)
unfolding unpack_exprs
given_some e es f m more = record {
  by = λ n rest fits.
      let s = more_exprs_onto es (sign (codes ")") ∷ rest) in
      first_argument (read_at n) e (unpack_exprs es) (expr_onto e s) s rest (front e f.0 s).not_close
      (alone e m n 0 s (omega arith) (omega arith) (omega (arith, pull_exprs es rest))
      (λ opens. omega (arith, pull_exprs es rest)) (leaves_exprs es f.1 rest))
      (more.by n (length s) rest (omega arith) (omega (arith, more_exprs_longer es f.1 (sign (codes ")") ∷ rest))));
}

pub more_none : GivenMore no_expr
unfolding unpack_exprs count_exprs
more_none = record { by = λ n k rest fits room. commas_end (read_at n 0) k (sign (codes ")") ∷ rest) refl }

more_turn : (e : Expr) (es : Exprs) → FormedExprs es → Met e → GivenMore es → (n k : ℕ) (rest : List Spelled)
    → exprs_nesting
    (expr_then e es) ≤ n → count_exprs (expr_then e es) < k → commas (read_at n 0) k (more_exprs_onto (expr_then e es)
    (sign (codes ")") ∷ rest)) ≡ Some (e ∷ unpack_exprs es, sign (codes ")") ∷ rest)
unfolding count_exprs
more_turn e es f m more n zero rest fits room = absurd (omega arith)
more_turn e es f m more n (suc k) rest fits room =
    let s = more_exprs_onto es (sign (codes ")") ∷ rest) in
    commas_turn (read_at n 0) k e (unpack_exprs es) (expr_onto e s) s (sign (codes ")") ∷ rest)
    (alone e m n 0 s (omega arith) (omega arith) (omega (arith, pull_exprs es rest))
    (λ opens. omega (arith, pull_exprs es rest)) (leaves_exprs es f rest))
    (more.by n k rest (omega arith) (omega arith))

pub more_some : (e : Expr) (es : Exprs) → FormedExprs es → Met e → GivenMore es → GivenMore (expr_then e es)
unfolding unpack_exprs
more_some e es f m more = record { by = more_turn e es f m more }

-- lengths are read
pub record Measured (lengths : Exprs) : Type 0 where
  pub by : (n k m : ℕ) (rest : List Spelled) → exprs_nesting lengths ≤ n → count_exprs lengths ≤ k
      → after_sign (codes "[") rest ≡ None → lengths_with (read_at n 0) k (lengths_onto lengths (brackets_onto m
      rest)) ≡ Some (unpack_exprs lengths, brackets_onto m rest)

lengths_none : (n k m : ℕ) (rest : List Spelled) → after_sign (codes "[") rest ≡ None → lengths_with (read_at n 0) k
    (brackets_onto m rest) ≡ Some ([], brackets_onto m rest)
lengths_none n k zero rest ends = lengths_end (read_at n 0) k rest ends
lengths_none n k (suc m) rest ends = lengths_brackets (read_at n 0) k (brackets_onto m rest)

pub measured_none : Measured no_expr
unfolding unpack_exprs
measured_none = record { by = λ n k m rest fits room ends. lengths_none n k m rest ends }

measured_turn : (e : Expr) (es : Exprs) → FormedExpr e → Met e → Measured es → (n k m : ℕ) (rest : List Spelled)
    → exprs_nesting (expr_then e es) ≤ n → count_exprs (expr_then e es) ≤ k → after_sign (codes "[") rest ≡ None
    → lengths_with (read_at n 0) k (lengths_onto (expr_then e es) (brackets_onto m rest)) ≡ Some (
      e ∷ unpack_exprs es,
      brackets_onto m rest,
    )
unfolding count_exprs
measured_turn e es f met measured n zero m rest fits room ends = absurd (omega arith)
measured_turn e es f met measured n (suc k) m rest fits room ends =
    let s = lengths_onto es (brackets_onto m rest) in
    let b = sign (codes "]") ∷ s in
    lengths_turn (read_at n 0) k e (unpack_exprs es) (expr_onto e b) s (brackets_onto m rest) (front e f b).not_bracket
    (alone e met n 0 b (omega arith) (omega arith) (omega (arith, pull_bracket s))
    (λ opens. omega (arith, pull_bracket s)) ((λ l. refl), (λ l d. refl), refl))
    (measured.by n k m rest (omega arith) (omega arith) ends)

pub measured_some : (e : Expr) (es : Exprs) → FormedExpr e → Met e → Measured es → Measured (expr_then e es)
unfolding unpack_exprs
measured_some e es f met measured = record { by = measured_turn e es f met measured }

-- ---- array initialisers

-- the array initialiser is read
pub record Filled (a : Array) : Type 0 where
  pub by : (n : ℕ) (rest : List Spelled) → array_nesting a ≤ n → array_at n (array_onto a rest) ≡ Some (a, rest)

-- what stands behind an item
abbrev pub after_item : Inits → Bool → List Spelled → List Spelled
after_item is last rest = more_inits_onto is (last_comma_onto last (sign (codes "}") ∷ rest))

pull_inits : (is : Inits) (last : Bool) (rest : List Spelled) → pull (after_item is last rest) ≡ 0
unfolding lead
pull_inits no_init true rest = refl
pull_inits no_init false rest = refl
pull_inits (init_then i is) last rest = refl

inits_end : (is : Inits) → FormedInits is → (last : Bool) (rest : List Spelled) → EndsNoTypes (after_item is last rest)
inits_end no_init f true rest = λ l d. refl
inits_end no_init f false rest = λ l d. refl
inits_end (init_then (Value e) is) f last rest =
    ends_no_types e f.0 (after_item is last rest) (inits_end is f.1 last rest)
inits_end (init_then (Items (Braces items comma)) is) f last rest = λ l d. refl

leaves_inits : (is : Inits) → FormedInits is → (last : Bool) (rest : List Spelled)
    → LeavesTypes (after_item is last rest)
leaves_inits no_init f true rest = ((λ l. refl), inits_end no_init f true rest, refl)
leaves_inits no_init f false rest = ((λ l. refl), inits_end no_init f false rest, refl)
leaves_inits (init_then i is) f last rest = ((λ l. refl), inits_end (init_then i is) f last rest, refl)

comma_room : (last : Bool) (rest : List Spelled) → 0 < length (last_comma_onto last (sign (codes "}") ∷ rest))
comma_room true rest = omega arith
comma_room false rest = omega arith

items_room : (is : Inits) → FormedInits is → (last : Bool) (rest : List Spelled) → count_inits is < length
    (after_item is last rest)
items_room is f last rest = omega (
  arith,
  more_inits_longer is f (last_comma_onto last (sign (codes "}") ∷ rest)),
  comma_room last rest,
)

init_front : (i : Init) → FormedInit i → (rest : List Spelled) → after_sign (codes "}") (init_onto i rest) ≡ None
init_front (Value e) f rest = (front e f rest).not_end
init_front (Items (Braces items last)) f rest = refl

-- the item is read
pub record Begun (i : Init) : Type 0 where
  pub by : (n : ℕ) (rest : List Spelled) → init_nesting i ≤ n → pull rest ≤ 0 → LeavesTypes rest
      → init_at n (init_onto i rest) ≡ Some
      (i, rest)

pub begun_value : (e : Expr) → FormedExpr e → Met e → Begun (Value e)
begun_value e f m = record {
  by = λ n rest fits quiet leaves.
      value_found (read_at n 0) (array_at n) e (expr_onto e rest) rest (front e f rest).not_brace (alone e m n 0 rest
      fits (omega arith) quiet (λ opens. quiet) leaves);
}

filled_init : (a : Array) (n : ℕ) (rest : List Spelled) → array_at n (array_onto a rest) ≡ Some (a, rest)
    → init_at n (array_onto a rest) ≡ Some (Items a, rest)
filled_init (Braces items last) n rest is = items_found (read_at n 0) (array_at n) (Braces items last) _ rest is

pub begun_items : (a : Array) → Filled a → Begun (Items a)
begun_items a filled = record { by = λ n rest fits quiet leaves. filled_init a n rest (filled.by n rest fits) }

-- the items behind the first are read
pub record FilledMore (is : Inits) : Type 0 where
  pub by : (n k : ℕ) (last : Bool) (rest : List Spelled) → inits_nesting is ≤ n → count_inits is < k
      → items_with (init_at n) k (after_item is last rest) ≡ Some (unpack_inits is, last, rest)

items_none : (n k : ℕ) (last : Bool) (rest : List Spelled) → 0 < k → items_with (init_at n) k (after_item no_init last
    rest) ≡ Some ([], last, rest)
items_none n zero last rest room = absurd (omega arith)
items_none n (suc k) true rest room = items_last (init_at n) k rest
items_none n (suc k) false rest room = items_end (init_at n) k rest

pub filled_more_none : FilledMore no_init
unfolding unpack_inits count_inits
filled_more_none = record { by = λ n k last rest fits room. items_none n k last rest room }

filled_turn : (i : Init) (is : Inits) → FormedInits (init_then i is) → Begun i → FilledMore is → (n k : ℕ) (last : Bool)
    (rest : List Spelled) → inits_nesting (init_then i is) ≤ n → count_inits (init_then i is) < k
    → items_with (init_at n) k (after_item (init_then i is) last rest) ≡ Some (i ∷ unpack_inits is, last, rest)
unfolding count_inits
filled_turn i is f begun more n zero last rest fits room = absurd (omega arith)
filled_turn i is f begun more n (suc k) last rest fits room =
    let s = after_item is last rest in
    items_turn (init_at n) k i (unpack_inits is) last (init_onto i s) s rest (init_front i f.0 s)
    (begun.by n s (omega arith) (omega (arith, pull_inits is last rest)) (leaves_inits is f.1 last rest))
    (more.by n k last rest (omega arith) (omega arith))

pub filled_more_some : (i : Init) (is : Inits) → FormedInits (init_then i is) → Begun i → FilledMore is → FilledMore
    (init_then i is)
unfolding unpack_inits
filled_more_some i is f begun more = record { by = filled_turn i is f begun more }

array_here : (n : ℕ) (a : Array) (ts rest : List Spelled) → braces_with (init_at n) ts ≡ Some (a, rest)
    → array_at (suc n) ts ≡ Some (a, rest)
unfolding array_at
array_here n a ts rest is = is

filled_nothing : (last : Bool) → (IsTrue last → IsTrue false) → (n : ℕ) (rest : List Spelled) → array_nesting
    (Braces no_init last) ≤ n → array_at n (array_onto (Braces no_init last) rest) ≡ Some (Braces no_init last, rest)
filled_nothing true h n rest fits = absurd (false≢true (h refl))
filled_nothing false h zero rest fits = absurd (omega arith)
filled_nothing false h (suc n) rest fits = array_here n (Braces no_init false) _ rest (no_items (init_at n) rest)

pub filled_none : (last : Bool) → (IsTrue last → IsTrue false) → Filled (Braces no_init last)
filled_none last h = record { by = filled_nothing last h }

filled_items : (i : Init) (is : Inits) (last : Bool) → FormedInits (init_then i is) → Begun i → FilledMore is
    → (n : ℕ) (rest : List Spelled) → array_nesting (Braces (init_then i is) last) ≤ n
    → array_at n (array_onto (Braces (init_then i is) last) rest) ≡ Some (Braces (init_then i is) last, rest)
filled_items i is last f begun more zero rest fits = absurd (omega arith)
filled_items i is last f begun more (suc n) rest fits =
    let s = after_item is last rest in
    array_here n (Braces (init_then i is) last) _ rest
    (some_items (init_at n) i (unpack_inits is) is last (init_onto i s) s rest (packed_inits is) (init_front i f.0 s)
    (begun.by n s (omega arith) (omega (arith, pull_inits is last rest)) (leaves_inits is f.1 last rest))
    (more.by n (length s) last rest (omega arith) (items_room is f.1 last rest)))

pub filled_some : (i : Init) (is : Inits) (last : Bool) → FormedInits (init_then i is) → Begun i → FilledMore is
    → Filled (Braces (init_then i is) last)
filled_some i is last f begun more = record { by = filled_items i is last f begun more }
