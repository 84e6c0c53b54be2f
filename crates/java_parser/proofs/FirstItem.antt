-- The first item is as many tokens as are counted, and the other items are those of the tokens behind it.
use Rattle.std.proofs.Common.{◌≡◌, ℕ, suc, ◌≤◌, Bool, true, false, List, [], ◌∷◌, take, drop, length, refl, ap}
use Rattle.std.proofs.Common.{arith}
use Rattle.std.specs.Prelude.{◌==◌, if◌then◌else◌}
use Rattle.java_lexer.specs.declared.token.Token.{Token}
use Rattle.java_parser_grammar.specs.Cuts.{onto_first, with_cut}
use Rattle.java_parser_grammar.specs.Brackets.{depth_behind}
use Rattle.java_parser_grammar.specs.Pieces.{items_from, items_of}
use Rattle.java_parser.specs.Sizes.{item_size}

-- the first item has this size
abbrev Splits : ℕ → List Token → ℕ → Type 0
Splits n ts size = items_from n ts ≡ take size ts ∷ items_of (drop size ts)

ended : (d : ℕ) (t : Token) (ts : List Token) → d == 0 ≡ true → with_cut true t (items_from d ts) ≡ (t ∷ [])
    ∷ items_of ts
ended d t ts e = let none : d ≡ 0 = grind arith in ap (λ k. (t ∷ []) ∷ items_from k ts) none

goes_on : (d : ℕ) (t : Token) (ts : List Token) → ((u : Token) (us : List Token) → ts ≡ u ∷ us → Splits d ts
    (item_size d ts)) → onto_first t (items_from d ts) ≡ (t ∷ take (item_size d ts) ts)
    ∷ items_of (drop (item_size d ts) ts)
goes_on d t [] others = refl
goes_on d t (u ∷ us) others = ap (onto_first t) (others u us refl)

by_end : (d : ℕ) (b : Bool) (t : Token) (ts : List Token) → d == 0 ≡ b → ((u : Token) (us : List Token)
    → ts ≡ u ∷ us → Splits d ts (item_size d ts)) → with_cut b t (items_from d ts)
    ≡ take (if b then 1 else suc (item_size d ts)) (t ∷ ts)
    ∷ items_of (drop (if b then 1 else suc (item_size d ts)) (t ∷ ts))
by_end d true t ts e others = ended d t ts e
by_end d false t ts e others = goes_on d t ts others

pub first_item : (n : ℕ) (t : Token) (ts : List Token) → Splits n (t ∷ ts) (item_size n (t ∷ ts))
first_item n t [] = by_end (depth_behind n t) (depth_behind n t == 0) t [] refl (λ u us e. absurd cc)
first_item n t (u ∷ us) =
    by_end (depth_behind n t) (depth_behind n t == 0) t (u ∷ us) refl (λ v vs e. first_item (depth_behind n t) u us)

some_item : (b : Bool) (k : ℕ) → 1 ≤ (if b then 1 else suc k)
some_item true k = omega arith
some_item false k = omega arith

-- an item has a token
pub item_has_token : (n : ℕ) (t : Token) (ts : List Token) → 1 ≤ item_size n (t ∷ ts)
item_has_token n t ts = some_item (depth_behind n t == 0) (item_size (depth_behind n t) ts)

-- the same of tokens of which there are some
pub first_of : (ts : List Token) (size : ℕ) → 1 ≤ length ts → size ≡ item_size 0 ts → items_of ts ≡ take size ts
    ∷ items_of (drop size ts)
first_of [] size some e = absurd (omega arith)
first_of (t ∷ ts) size some e = rw e (first_item 0 t ts)

pub some_of : (ts : List Token) → 1 ≤ length ts → 1 ≤ item_size 0 ts
some_of [] some = absurd (omega arith)
some_of (t ∷ ts) some = item_has_token 0 t ts
