-- The keywords with each first byte.
use Rattle.std.proofs.Common.{◌≡◌, ℕ, ◌<◌, Bool, false, ◌||◌, [], ◌∷◌, refl}
use Rattle.std.specs.Prelude.{◌==◌}
use Rattle.java_lexer.specs.Scanning.{keywords_with}
use Rattle.java_lexer.proofs.Bytes.{each_below}
use Rattle.java_lexer.proofs.Tables.{is_empty, or_none}

pub group_97 : (97 ∷ 98 ∷ 115 ∷ 116 ∷ 114 ∷ 97 ∷ 99 ∷ 116 ∷ []) ∷ (97 ∷ 115 ∷ 115 ∷ 101 ∷ 114 ∷ 116 ∷ []) ∷ []
    ≡ keywords_with 97
unfolding keywords_with
group_97 = refl

pub group_98 : (98 ∷ 111 ∷ 111 ∷ 108 ∷ 101 ∷ 97 ∷ 110 ∷ []) ∷ (98 ∷ 114 ∷ 101 ∷ 97 ∷ 107 ∷ [])
    ∷ (98 ∷ 121 ∷ 116 ∷ 101 ∷ []) ∷ [] ≡ keywords_with 98
unfolding keywords_with
group_98 = refl

pub group_99 : (99 ∷ 97 ∷ 115 ∷ 101 ∷ []) ∷ (99 ∷ 97 ∷ 116 ∷ 99 ∷ 104 ∷ []) ∷ (99 ∷ 104 ∷ 97 ∷ 114 ∷ [])
    ∷ (99 ∷ 108 ∷ 97 ∷ 115 ∷ 115 ∷ []) ∷ (99 ∷ 111 ∷ 110 ∷ 115 ∷ 116 ∷ [])
    ∷ (99 ∷ 111 ∷ 110 ∷ 116 ∷ 105 ∷ 110 ∷ 117 ∷ 101 ∷ []) ∷ [] ≡ keywords_with 99
unfolding keywords_with
group_99 = refl

pub group_100 : (100 ∷ 101 ∷ 102 ∷ 97 ∷ 117 ∷ 108 ∷ 116 ∷ []) ∷ (100 ∷ 111 ∷ [])
    ∷ (100 ∷ 111 ∷ 117 ∷ 98 ∷ 108 ∷ 101 ∷ []) ∷ [] ≡ keywords_with 100
unfolding keywords_with
group_100 = refl

pub group_101 : (101 ∷ 108 ∷ 115 ∷ 101 ∷ []) ∷ (101 ∷ 110 ∷ 117 ∷ 109 ∷ [])
    ∷ (101 ∷ 120 ∷ 116 ∷ 101 ∷ 110 ∷ 100 ∷ 115 ∷ []) ∷ [] ≡ keywords_with 101
unfolding keywords_with
group_101 = refl

pub group_102 : (102 ∷ 105 ∷ 110 ∷ 97 ∷ 108 ∷ []) ∷ (102 ∷ 105 ∷ 110 ∷ 97 ∷ 108 ∷ 108 ∷ 121 ∷ [])
    ∷ (102 ∷ 108 ∷ 111 ∷ 97 ∷ 116 ∷ []) ∷ (102 ∷ 111 ∷ 114 ∷ []) ∷ [] ≡ keywords_with 102
unfolding keywords_with
group_102 = refl

pub group_103 : (103 ∷ 111 ∷ 116 ∷ 111 ∷ []) ∷ [] ≡ keywords_with 103
unfolding keywords_with
group_103 = refl

pub group_105 : (105 ∷ 102 ∷ []) ∷ (105 ∷ 109 ∷ 112 ∷ 108 ∷ 101 ∷ 109 ∷ 101 ∷ 110 ∷ 116 ∷ 115 ∷ [])
    ∷ (105 ∷ 109 ∷ 112 ∷ 111 ∷ 114 ∷ 116 ∷ []) ∷ (105 ∷ 110 ∷ 115 ∷ 116 ∷ 97 ∷ 110 ∷ 99 ∷ 101 ∷ 111 ∷ 102 ∷ [])
    ∷ (105 ∷ 110 ∷ 116 ∷ []) ∷ (105 ∷ 110 ∷ 116 ∷ 101 ∷ 114 ∷ 102 ∷ 97 ∷ 99 ∷ 101 ∷ []) ∷ [] ≡ keywords_with 105
unfolding keywords_with
group_105 = refl

pub group_108 : (108 ∷ 111 ∷ 110 ∷ 103 ∷ []) ∷ [] ≡ keywords_with 108
unfolding keywords_with
group_108 = refl

pub group_110 : (110 ∷ 97 ∷ 116 ∷ 105 ∷ 118 ∷ 101 ∷ []) ∷ (110 ∷ 101 ∷ 119 ∷ []) ∷ [] ≡ keywords_with 110
unfolding keywords_with
group_110 = refl

pub group_112 : (112 ∷ 97 ∷ 99 ∷ 107 ∷ 97 ∷ 103 ∷ 101 ∷ []) ∷ (112 ∷ 114 ∷ 105 ∷ 118 ∷ 97 ∷ 116 ∷ 101 ∷ [])
    ∷ (112 ∷ 114 ∷ 111 ∷ 116 ∷ 101 ∷ 99 ∷ 116 ∷ 101 ∷ 100 ∷ []) ∷ (112 ∷ 117 ∷ 98 ∷ 108 ∷ 105 ∷ 99 ∷ []) ∷ []
    ≡ keywords_with 112
unfolding keywords_with
group_112 = refl

pub group_114 : (114 ∷ 101 ∷ 116 ∷ 117 ∷ 114 ∷ 110 ∷ []) ∷ [] ≡ keywords_with 114
unfolding keywords_with
group_114 = refl

pub group_115 : (115 ∷ 104 ∷ 111 ∷ 114 ∷ 116 ∷ []) ∷ (115 ∷ 116 ∷ 97 ∷ 116 ∷ 105 ∷ 99 ∷ [])
    ∷ (115 ∷ 116 ∷ 114 ∷ 105 ∷ 99 ∷ 116 ∷ 102 ∷ 112 ∷ []) ∷ (115 ∷ 117 ∷ 112 ∷ 101 ∷ 114 ∷ [])
    ∷ (115 ∷ 119 ∷ 105 ∷ 116 ∷ 99 ∷ 104 ∷ [])
    ∷ (115 ∷ 121 ∷ 110 ∷ 99 ∷ 104 ∷ 114 ∷ 111 ∷ 110 ∷ 105 ∷ 122 ∷ 101 ∷ 100 ∷ []) ∷ [] ≡ keywords_with 115
unfolding keywords_with
group_115 = refl

pub group_116 : (116 ∷ 104 ∷ 105 ∷ 115 ∷ []) ∷ (116 ∷ 104 ∷ 114 ∷ 111 ∷ 119 ∷ [])
    ∷ (116 ∷ 104 ∷ 114 ∷ 111 ∷ 119 ∷ 115 ∷ []) ∷ (116 ∷ 114 ∷ 97 ∷ 110 ∷ 115 ∷ 105 ∷ 101 ∷ 110 ∷ 116 ∷ [])
    ∷ (116 ∷ 114 ∷ 121 ∷ []) ∷ [] ≡ keywords_with 116
unfolding keywords_with
group_116 = refl

pub group_118 : (118 ∷ 111 ∷ 105 ∷ 100 ∷ []) ∷ (118 ∷ 111 ∷ 108 ∷ 97 ∷ 116 ∷ 105 ∷ 108 ∷ 101 ∷ []) ∷ [] ≡ keywords_with
    118
unfolding keywords_with
group_118 = refl

pub group_119 : (119 ∷ 104 ∷ 105 ∷ 108 ∷ 101 ∷ []) ∷ [] ≡ keywords_with 119
unfolding keywords_with
group_119 = refl

abbrev pub is_keyword_start : ℕ → Bool
is_keyword_start b = b == 97 || b == 98 || b == 99 || b == 100 || b == 101 || b == 102 || b == 103 || b == 105 || b ==
    108 || b == 110 || b == 112 || b == 114 || b == 115 || b == 116 || b == 118 || b == 119

-- none has another first byte
pub is_keyword_start_only : (b : ℕ) → b < 256 → is_keyword_start b ≡ false → [] ≡ keywords_with b
unfolding keywords_with
is_keyword_start_only b small none = or_none (is_keyword_start b) (keywords_with b)
    (each_below 256 (λ b. is_keyword_start b || is_empty (keywords_with b)) refl b small) none
