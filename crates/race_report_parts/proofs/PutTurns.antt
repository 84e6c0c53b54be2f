-- One turn of a loop that puts a piece for each element, and its end.
use Rattle.std.proofs.Common.{◌≡◌, ℕ, ◌+◌, ◌<◌, ◌≤◌, List, [], ◌++◌, length, get_or, map, drop}
use Rattle.std.proofs.Common.{sym, ap, ◌∙◌, append_assoc, append-nil, string_bytes}
use Rattle.std.specs.List.{flat_map, enumerate_from}
use Rattle.std.proofs.lemmas.List.{drop_more, at_drop_all}
use Rattle.race_report_parts.specs.declared.written.Written.{Written}
use Rattle.race_report_parts.specs.Written.{Lasts, Puts, Leaves}

-- what is left is this piece and the rest
put_one : (whole left piece rest : List ℕ) (start old new : Written) → left ≡ piece ++ rest →
    Leaves whole left start old → Puts piece old new → Leaves whole rest start new
put_one whole left piece rest start old new is leaves puts = λ h.
    ap (λ t. t ++ rest) (puts.text h)
    ∙ append_assoc (string_bytes old.so_far) piece rest
    ∙ ap (λ t. string_bytes old.so_far ++ t) (sym is)
    ∙ leaves (puts.lasts h)

pub put_next : {X : Type 0} (f : X → List ℕ) (xs : List X) (i : ℕ) (x : X) (whole : List ℕ) (start old new : Written) →
    i < length xs → Leaves whole (flat_map f (drop i xs)) start old → Puts (f (get_or xs i x)) old new →
    Leaves whole (flat_map f (drop (i + 1) xs)) start new
put_next f xs i x whole start old new within =
    put_one whole (flat_map f (drop i xs)) (f (get_or xs i x)) (flat_map f (drop (i + 1) xs)) start old new
    (ap (flat_map f) (drop_more xs i x within))

-- the same of an element that is read first
pub put_read : {X : Type 0} (f : X → List ℕ) (xs : List X) (i : ℕ) (x : X) (whole : List ℕ) (start old new : Written) →
    i < length xs → x ≡ get_or xs i x → Leaves whole (flat_map f (drop i xs)) start old → Puts (f x) old new →
    Leaves whole (flat_map f (drop (i + 1) xs)) start new
put_read f xs i x whole start old new within is =
    let rest = flat_map f (drop (i + 1) xs) in
    put_one whole (flat_map f (drop i xs)) (f x) rest start old new
    (ap (flat_map f) (drop_more xs i x within) ∙ ap (λ y. f y ++ rest) (sym is))

-- the same, where each element has its number
pub put_numbered : {X Y : Type 0} (f : ℕ × Y → List ℕ) (g : X → Y) (xs : List X) (i : ℕ) (x : X) (whole : List ℕ)
    (start old new : Written) → i < length xs → x ≡ get_or xs i x →
    Leaves whole (flat_map f (enumerate_from i (map g (drop i xs)))) start old → Puts (f (i, g x)) old new →
    Leaves whole (flat_map f (enumerate_from (i + 1) (map g (drop (i + 1) xs)))) start new
put_numbered f g xs i x whole start old new within is =
    let rest = flat_map f (enumerate_from (i + 1) (map g (drop (i + 1) xs))) in
    put_one whole (flat_map f (enumerate_from i (map g (drop i xs)))) (f (i, g x)) rest start old new
    (ap (λ ys. flat_map f (enumerate_from i (map g ys))) (drop_more xs i x within)
    ∙ ap (λ y. f (i, g y) ++ rest) (sym is))

-- all of it is put
pub put_all : {X : Type 0} (F : List X → List ℕ) (xs : List X) (i : ℕ) (whole : List ℕ) (start text : Written) →
    F [] ≡ [] → length xs ≤ i → Lasts start text → Leaves whole (F (drop i xs)) start text → Puts whole start text
put_all F xs i whole start text none past lasts leaves =
    record {
      lasts = lasts;
      text = λ h.
          sym (append-nil (string_bytes text.so_far))
          ∙ ap (λ t. string_bytes text.so_far ++ t) (sym (at_drop_all F xs i past ∙ none))
          ∙ leaves h;
    }
