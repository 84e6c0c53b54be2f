-- A contract of a public call rests on this: worked rows on places: tokens of a text at numbered places.
use Rattle.std.specs.Prelude.{ℕ, suc, List, [], ◌∷◌, map}
use Rattle.racer_base.specs.declared.ids.FileId.{FileId}
use Rattle.java_lexer.specs.declared.token.Token.{Token}
use Rattle.java_tree.specs.declared.words.Spelled.{Spelled}
use Rattle.java_tree.specs.Examples.{tokens_of}
use Rattle.java_tree.specs.KeptPlaces.{kept}

-- the tokens, each with its number as its column, from n on
abbrev pub numbered : FileId → ℕ → List Spelled → List Token
numbered file n [] = []
numbered file n (t ∷ ts) =
    record {
      kind = t.kind;
      text = t.text;
      place = record { file = file; line = 1; column = n };
      glued = t.glued;
    } ∷ numbered file (suc n) ts

-- the numbers of those of the text's tokens, from 1 on, of which a tree keeps the place
abbrev pub kept_in : FileId → List ℕ → List ℕ
kept_in file text = map (λ p. p.column) (kept (numbered file 1 (tokens_of text)))
