-- A contract of a public call rests on this: the laws `quoted_items` and `text_items`. What a literal between quotes
-- is, item by item.
use Rattle.std.specs.Prelude.{◌≡◌, ℕ, Bool, not, ◌||◌, List, [], ◌∷◌, ◌++◌, ◌⊎◌, IsTrue, ◌==◌}
use Rattle.std.specs.List.{All, concat}
use Rattle.java_lexer.specs.Comments.{is_line_end, is_inline}
use Rattle.java_lexer.specs.Literals.{double_quote, backslash, is_escape}

-- no quote, no backslash and no line end
abbrev pub is_plain : ℕ → ℕ → Bool
is_plain quote b = not (b == quote || b == backslash || is_line_end b)

-- one such byte
abbrev pub IsPlainItem : ℕ → List ℕ → Type 0
IsPlainItem quote item = (b : ℕ) × (item ≡ b ∷ []) × IsTrue (is_plain quote b)

-- a plain byte, or a backslash and any one byte that ends no line
abbrev pub IsQuotedItem : ℕ → List ℕ → Type 0
IsQuotedItem quote item =
    IsPlainItem quote item ⊎ ((b : ℕ) × (item ≡ backslash ∷ b ∷ []) × IsTrue (is_inline b))

-- a plain byte, or a backslash and one escape
abbrev pub IsTextItem : List ℕ → Type 0
IsTextItem item =
    IsPlainItem double_quote item
    ⊎ ((escape : List ℕ) × (item ≡ backslash ∷ escape) × IsTrue (is_escape double_quote escape))

-- the quote, items one after the other, and the quote
abbrev pub IsOfItems : ℕ → (List ℕ → Type 0) → List ℕ → Type 0
IsOfItems quote IsItem bytes =
    (items : List (List ℕ)) × All IsItem items × (bytes ≡ quote ∷ (concat items ++ (quote ∷ [])))

-- what is closed on its line, also where it has a wrong escape
abbrev pub QuotedOfItems : ℕ → List ℕ → Type 0
QuotedOfItems quote bytes = IsOfItems quote (IsQuotedItem quote) bytes

-- a text literal. Its items need not be the only ones: `\400` is the item `\40` and a plain 0, or `\4` and two
abbrev pub TextOfItems : List ℕ → Type 0
TextOfItems bytes = IsOfItems double_quote IsTextItem bytes
