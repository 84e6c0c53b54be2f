-- Lemmas on a write to a sink in memory.
use Rattle.std.proofs.Common.{◌≡◌, ℕ, ◌+◌, ◌-◌, ◌≤◌, ◌<◌, min, Bool, true, false, List, ◌++◌, length, take}
use Rattle.std.proofs.Common.{refl, ap, ◌∙◌, if◌then◌else◌, Result, Ok, Err, is_ok, arith}
use Rattle.std.proofs.lemmas.List.{length-take, length-append}

-- a piece was put at the end
pub appended : {A E : Type 0} (r : Result A E) (x : A) (old new piece : List ℕ)
    → new ≡ (if is_ok r then old ++ piece else old) → r ≡ Ok x → new ≡ old ++ piece
appended (Ok y) x old new piece e is = e
appended (Err y) x old new piece e is = absurd cc

-- a share of a piece is a part of it
pub is_share : (piece : List ℕ) (n least : ℕ) → n ≡ min (length piece) least → n ≡ length (take n piece)
is_share piece n least is = omega (arith, is, length-take n piece)

-- a share is no more than what is left
pub fits : (piece : List ℕ) (n least most capacity size len reserved : ℕ) → n ≡ min (length piece) least
    → least ≡ min most (capacity - size) → len ≡ size → size ≤ capacity → capacity ≤ reserved
    → len + length (take n piece) ≤ reserved
fits piece n least most capacity size len reserved is smaller same within room =
    omega (arith, is, smaller, same, within, room, length-take n piece)

-- what is left behind a share
pub left_after : (old new piece : List ℕ) (n least most capacity : ℕ) → new ≡ old ++ take n piece
    → n ≡ min (length piece) least → least ≡ min most (capacity - length old) → length old ≤ capacity
    → (capacity - length new) + n ≡ capacity - length old
left_after old new piece n least most capacity put is smaller within =
    let len : length new ≡ length old + length (take n piece) = ap length put ∙ length-append old (take n piece) in
    omega (arith, len, is, smaller, within, length-take n piece)

-- the room goes down by a share
pub room_after : (before after : Bool) (old new n : ℕ) → (before ≡ true → after ≡ true) → new + n ≡ old
    → 0 < (if before then old else 0) → (if after then new else 0) + n ≡ (if before then old else 0)
room_after false after old new n quiet sum some = absurd (omega (arith, some))
room_after true true old new n quiet sum some = sum
room_after true false old new n quiet sum some = absurd (let no = quiet refl in cc)
