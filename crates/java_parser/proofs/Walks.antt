-- One step of a walk over parts of tokens: how many tokens stand behind it, and which.
use Rattle.std.proofs.Common.{◌≡◌, ℕ, ◌+◌, List, ◌++◌, length, drop, ap, sym, ◌∙◌, length-append, arith, refl}
use Rattle.std.proofs.lemmas.List.{drop-drop, drop_at}

pub record IsAt {A : Type 0} (ts rest : List A) (size : ℕ) : Type 0 where
  pub at : drop size ts ≡ rest
  pub within : size + length rest ≡ length ts

pub went : {A : Type 0} (ts rest part after : List A) (size : ℕ) → drop size ts ≡ rest
    → size + length rest ≡ length ts → rest ≡ part ++ after → IsAt ts after (size + length part)
went ts rest part after size at within parts = record {
  at = sym (drop-drop (length part) size ts) ∙ ap (drop (length part)) (at ∙ parts) ∙ drop_at part after (length part)
      refl;
  within = let len = ap length parts ∙ length-append part after in omega (arith, len, within);
}
