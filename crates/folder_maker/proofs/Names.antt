-- The names of made files differ.
use Rattle.std.proofs.Common.{◌≡◌, ℕ, zero, suc, ◌+◌, ◌<◌, ◌≤◌, ◌/◌, ◌%◌, arith, false, List, [], map}
use Rattle.std.proofs.Common.{sym, ap, ◌∙◌, bytes_eq, subst}
use Rattle.std.specs.Prelude.{get_or}
use Rattle.std.specs.List.{AllByRecursion, IsDistinct, range_with_len}
use Rattle.std.proofs.lemmas.Map.Keys.{IsDistinct-cons, IsDistinct-from_apart}
use Rattle.std.proofs.lemmas.Map.Text.{is_eq-slice_cmp}
use Rattle.std.proofs.lemmas.Slice.Eq.{bytes_eq-Decides}
use Rattle.std.proofs.lemmas.Simd.{map-map}
use Rattle.std.proofs.lemmas.Bool.{false_from_ne_true}
use Rattle.racer_base.specs.Outside.{same_name}
use Rattle.racer_memory.specs.FileList.{names_of}
use Rattle.folder_maker.specs.Folders.{file_name, made_file, made_files}
use Rattle.folder_maker.proofs.Files.{Files, seen}

-- numbers with the same four digits are the same
same_digits : (k j : ℕ) → k < 10000 → j < 10000 → 48 + k / 1000 ≡ 48 + j / 1000 →
    48 + k / 100 % 10 ≡ 48 + j / 100 % 10 → 48 + k / 10 % 10 ≡ 48 + j / 10 % 10 → 48 + k % 10 ≡ 48 + j % 10 → k ≡ j
same_digits k j small other a b c d = omega (arith, small, other, a, b, c, d)

abbrev at : ℕ → List ℕ → ℕ
at i xs = get_or xs i 0

apart : (k j : ℕ) → k < j → j < 10000 → file_name k ≡ file_name j → ⊥
apart k j below small names =
    let low : k < 10000 = omega (arith, below, small) in
    let one : k ≡ j =
    same_digits k j low small (ap (at 1) names) (ap (at 2) names) (ap (at 3) names) (ap (at 4) names) in
    omega (arith, below, one)

differs : (k j : ℕ) → k < j → j < 10000 → same_name (file_name k) (file_name j) ≡ false
differs k j below small =
    is_eq-slice_cmp (file_name k) (file_name j)
    ∙ false_from_ne_true (bytes_eq (file_name k) (file_name j))
    (λ is. apart k j below small ((bytes_eq-Decides (file_name k) (file_name j)).0 is))

-- each of the files behind one has another name
later_differ : (k first n : ℕ) → k < first → first + n ≤ 10000 →
    AllByRecursion (λ y. same_name (file_name k) y ≡ false) (map file_name (range_with_len first n))
later_differ k first zero below few = tt
later_differ k first (suc n) below few =
    let small : first < 10000 = omega (arith, few) in
    let next : k < first + 1 = omega (arith, below) in
    let rest : first + 1 + n ≤ 10000 = omega (arith, few) in
    (differs k first below small, later_differ k (first + 1) n next rest)

names_differ : (first n : ℕ) → first + n ≤ 10000 → IsDistinct same_name (map file_name (range_with_len first n))
names_differ first zero few = IsDistinct-from_apart same_name [] (λ i j d h k. absurd (omega arith))
names_differ first (suc n) few =
    let next : first < first + 1 = omega arith in
    let rest : first + 1 + n ≤ 10000 = omega (arith, few) in
    IsDistinct-cons same_name (file_name first) _
    (later_differ first (first + 1) n next rest) (names_differ (first + 1) n rest)

abbrev name : List ℕ × List ℕ → List ℕ
name file = file.0

names_seen : (files : Files) → map name (map seen files) ≡ names_of files
names_seen files = map-map name seen files

names_made : (number : ℕ) → map name (made_files number) ≡ map file_name (range_with_len 0 number)
names_made number = map-map name (made_file number) (range_with_len 0 number)

pub made_names_differ : (number : ℕ) (files : Files) → number ≤ 800 → map seen files ≡ made_files number →
    IsDistinct same_name (names_of files)
made_names_differ number files few made =
    let small : 0 + number ≤ 10000 = omega (arith, few) in
    subst (IsDistinct same_name) (sym (names_made number) ∙ ap (map name) (sym made) ∙ names_seen files)
    (names_differ 0 number small)
