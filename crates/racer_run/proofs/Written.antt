-- What was written so far, and one write more.
use Rattle.std.proofs.Common.{◌≡◌, ℕ, ◌+◌, ◌≤◌, List, ◌++◌, Option, None, Some, take, drop, refl, sym, ap, ◌∙◌}
use Rattle.std.proofs.Common.{append_assoc, arith}
use Rattle.std.proofs.lemmas.List.{take-append-drop, drop-take, take-take}
use Rattle.racer_base.specs.Outside.{taken_and}

take-plus : (n m : ℕ) (xs : List ℕ) → take n xs ++ take m (drop n xs) ≡ take (n + m) xs
take-plus n m xs =
    ap (λ ys. ys ++ take m (drop n xs)) (sym (take-take n (n + m) xs (omega arith)))
    ∙ ap (λ ys. take n (take (n + m) xs) ++ ys) (sym (drop-take n m xs))
    ∙ take-append-drop n (take (n + m) xs)

-- a write of the text from `at` on, after what was written of it before
pub taken_and-more : (taken : Option (List ℕ)) (text : List ℕ) (at n k : ℕ) → n ≤ k →
    taken_and (taken_and taken (take at text)) (take n (take k (drop at text))) ≡ taken_and taken (take (at + n) text)
taken_and-more None text at n k h = refl
taken_and-more (Some bytes) text at n k h =
    ap Some (append_assoc bytes _ _ ∙ ap (λ piece. bytes ++ piece)
    (ap (λ piece. take at text ++ piece) (take-take n k (drop at text) h) ∙ take-plus at n text))
