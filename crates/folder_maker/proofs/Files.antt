-- One file more behind the files that were made.
use Rattle.std.proofs.Common.{◌≡◌, ℕ, ◌+◌, List, [], ◌∷◌, ◌++◌, map, String, Vec, string_bytes, sym, ap, ◌∙◌, arith}
use Rattle.std.specs.Global.{Global}
use Rattle.std.specs.List.{range_with_len}
use Rattle.std.proofs.lemmas.List.{map-append}
use Rattle.std.proofs.lemmas.List.FromFn.{map-range_with_len_more}
use Rattle.folder_maker.specs.Folders.{class_text, file_name, made_file}

abbrev pub Files : Type 0
Files = List (String Global × Vec ℕ Global)

abbrev pub seen : String Global × Vec ℕ Global → List ℕ × List ℕ
seen file = (string_bytes file.0, file.1.items)

pub one_more : (number k : ℕ) (files more : Files) (name : String Global) (text : Vec ℕ Global) →
    more ≡ files ++ (name, text) ∷ [] → string_bytes name ≡ file_name k → text.items ≡ class_text number k →
    map seen files ≡ map (made_file number) (range_with_len 0 k) →
    map seen more ≡ map (made_file number) (range_with_len 0 (k + 1))
one_more number k files more name text grown named told before =
    let place : 0 + k ≡ k = omega arith in
    ap (map seen) grown
    ∙ map-append seen files ((name, text) ∷ [])
    ∙ ap (λ xs. xs ++ seen (name, text) ∷ []) before
    ∙ (λ i. map (made_file number) (range_with_len 0 k) ++ (named i, told i) ∷ [])
    ∙ sym (map-range_with_len_more (made_file number) 0 k k place)
