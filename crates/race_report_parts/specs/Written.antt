-- A contract of a public call rests on this: what a function puts behind a text that is written piece by piece.
use Rattle.std.specs.Prelude.{◌≡◌, ℕ, false, List, ◌++◌, string_bytes}
use Rattle.race_report_parts.specs.declared.written.Written.{Written as Text}

-- where no piece was left out, none was before
abbrev pub Lasts : Text → Text → Type 0
Lasts old new = new.is_cut ≡ false → old.is_cut ≡ false

-- this piece was put, where none was left out
pub record Puts (piece : List ℕ) (old new : Text) : Type 0 where
  pub lasts : Lasts old new
  pub text : new.is_cut ≡ false → string_bytes new.so_far ≡ string_bytes old.so_far ++ piece

-- of a whole, what is left to put, where no piece was left out so far
abbrev pub Leaves : (whole left : List ℕ) → Text → Text → Type 0
Leaves whole left old new =
    new.is_cut ≡ false → string_bytes new.so_far ++ left ≡ string_bytes old.so_far ++ whole
