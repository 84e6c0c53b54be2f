-- The signs with each first byte.
use Rattle.std.proofs.Common.{◌≡◌, ℕ, ◌<◌, Bool, false, ◌||◌, [], ◌∷◌, refl}
use Rattle.std.specs.Prelude.{◌==◌}
use Rattle.java_lexer.specs.Signs.{signs}
use Rattle.java_lexer.specs.Scanning.{signs_with}
use Rattle.java_lexer.proofs.Bytes.{each_below}
use Rattle.java_lexer.proofs.Tables.{is_empty, or_none}

pub group_40 : (40 ∷ []) ∷ [] ≡ signs_with 40
unfolding signs signs_with
group_40 = refl

pub group_41 : (41 ∷ []) ∷ [] ≡ signs_with 41
unfolding signs signs_with
group_41 = refl

pub group_123 : (123 ∷ []) ∷ [] ≡ signs_with 123
unfolding signs signs_with
group_123 = refl

pub group_125 : (125 ∷ []) ∷ [] ≡ signs_with 125
unfolding signs signs_with
group_125 = refl

pub group_91 : (91 ∷ []) ∷ [] ≡ signs_with 91
unfolding signs signs_with
group_91 = refl

pub group_93 : (93 ∷ []) ∷ [] ≡ signs_with 93
unfolding signs signs_with
group_93 = refl

pub group_59 : (59 ∷ []) ∷ [] ≡ signs_with 59
unfolding signs signs_with
group_59 = refl

pub group_44 : (44 ∷ []) ∷ [] ≡ signs_with 44
unfolding signs signs_with
group_44 = refl

pub group_46 : (46 ∷ 46 ∷ 46 ∷ []) ∷ (46 ∷ []) ∷ [] ≡ signs_with 46
unfolding signs signs_with
group_46 = refl

pub group_64 : (64 ∷ []) ∷ [] ≡ signs_with 64
unfolding signs signs_with
group_64 = refl

pub group_58 : (58 ∷ 58 ∷ []) ∷ (58 ∷ []) ∷ [] ≡ signs_with 58
unfolding signs signs_with
group_58 = refl

pub group_126 : (126 ∷ []) ∷ [] ≡ signs_with 126
unfolding signs signs_with
group_126 = refl

pub group_63 : (63 ∷ []) ∷ [] ≡ signs_with 63
unfolding signs signs_with
group_63 = refl

pub group_61 : (61 ∷ 61 ∷ []) ∷ (61 ∷ []) ∷ [] ≡ signs_with 61
unfolding signs signs_with
group_61 = refl

pub group_33 : (33 ∷ 61 ∷ []) ∷ (33 ∷ []) ∷ [] ≡ signs_with 33
unfolding signs signs_with
group_33 = refl

pub group_62 : (62 ∷ 62 ∷ 62 ∷ 61 ∷ []) ∷ (62 ∷ 62 ∷ 62 ∷ []) ∷ (62 ∷ 62 ∷ 61 ∷ []) ∷ (62 ∷ 62 ∷ []) ∷ (62 ∷ 61 ∷ [])
    ∷ (62 ∷ []) ∷ [] ≡ signs_with 62
unfolding signs signs_with
group_62 = refl

pub group_60 : (60 ∷ 60 ∷ 61 ∷ []) ∷ (60 ∷ 60 ∷ []) ∷ (60 ∷ 61 ∷ []) ∷ (60 ∷ []) ∷ [] ≡ signs_with 60
unfolding signs signs_with
group_60 = refl

pub group_45 : (45 ∷ 62 ∷ []) ∷ (45 ∷ 45 ∷ []) ∷ (45 ∷ 61 ∷ []) ∷ (45 ∷ []) ∷ [] ≡ signs_with 45
unfolding signs signs_with
group_45 = refl

pub group_43 : (43 ∷ 43 ∷ []) ∷ (43 ∷ 61 ∷ []) ∷ (43 ∷ []) ∷ [] ≡ signs_with 43
unfolding signs signs_with
group_43 = refl

pub group_42 : (42 ∷ 61 ∷ []) ∷ (42 ∷ []) ∷ [] ≡ signs_with 42
unfolding signs signs_with
group_42 = refl

pub group_47 : (47 ∷ 61 ∷ []) ∷ (47 ∷ []) ∷ [] ≡ signs_with 47
unfolding signs signs_with
group_47 = refl

pub group_37 : (37 ∷ 61 ∷ []) ∷ (37 ∷ []) ∷ [] ≡ signs_with 37
unfolding signs signs_with
group_37 = refl

pub group_38 : (38 ∷ 38 ∷ []) ∷ (38 ∷ 61 ∷ []) ∷ (38 ∷ []) ∷ [] ≡ signs_with 38
unfolding signs signs_with
group_38 = refl

pub group_124 : (124 ∷ 124 ∷ []) ∷ (124 ∷ 61 ∷ []) ∷ (124 ∷ []) ∷ [] ≡ signs_with 124
unfolding signs signs_with
group_124 = refl

pub group_94 : (94 ∷ 61 ∷ []) ∷ (94 ∷ []) ∷ [] ≡ signs_with 94
unfolding signs signs_with
group_94 = refl

abbrev pub is_start : ℕ → Bool
is_start b = b == 40 || b == 41 || b == 123 || b == 125 || b == 91 || b == 93 || b == 59 || b == 44 || b == 46 || b ==
    64 || b == 58 || b == 126 || b == 63 || b == 61 || b == 33 || b == 62 || b == 60 || b == 45 || b == 43 || b == 42 ||
    b == 47 || b == 37 || b == 38 || b == 124 || b == 94

-- none has another first byte
pub is_start_only : (b : ℕ) → b < 256 → is_start b ≡ false → [] ≡ signs_with b
unfolding signs signs_with
is_start_only b small none = or_none (is_start b) (signs_with b)
    (each_below 256 (λ b. is_start b || is_empty (signs_with b)) refl b small) none
