-- Pieces that were put one behind another.
use Rattle.std.proofs.Common.{◌≡◌, ℕ, List, ◌++◌, ap, ◌∙◌, append_assoc, string_bytes}
use Rattle.race_report_parts.specs.declared.written.Written.{Written}
use Rattle.race_report_parts.specs.Written.{Puts}

pub two : {a b : List ℕ} {t u v : Written} → Puts a t u → Puts b u v → Puts (a ++ b) t v
two {a} {b} {t} first second =
    record {
      lasts = λ h. first.lasts (second.lasts h);
      text = λ h.
          second.text h ∙ ap (λ put. put ++ b) (first.text (second.lasts h)) ∙ append_assoc (string_bytes t.so_far) a b;
    }

pub three : {a b c : List ℕ} {t u v w : Written} → Puts a t u → Puts b u v → Puts c v w → Puts (a ++ b ++ c) t w
three put_a put_b put_c = two (two put_a put_b) put_c

pub four : {a b c d : List ℕ} {t u v w x : Written} → Puts a t u → Puts b u v → Puts c v w → Puts d w x →
    Puts (a ++ b ++ c ++ d) t x
four put_a put_b put_c put_d = two (three put_a put_b put_c) put_d

pub five : {a b c d e : List ℕ} {t u v w x y : Written} → Puts a t u → Puts b u v → Puts c v w → Puts d w x →
    Puts e x y → Puts (a ++ b ++ c ++ d ++ e) t y
five put_a put_b put_c put_d put_e = two (four put_a put_b put_c put_d) put_e

pub six : {a b c d e f : List ℕ} {t u v w x y z : Written} → Puts a t u → Puts b u v → Puts c v w → Puts d w x →
    Puts e x y → Puts f y z → Puts (a ++ b ++ c ++ d ++ e ++ f) t z
six put_a put_b put_c put_d put_e put_f = two (five put_a put_b put_c put_d put_e) put_f

pub seven : {a b c d e f g : List ℕ} {s t u v w x y z : Written} → Puts a s t → Puts b t u → Puts c u v → Puts d v w →
    Puts e w x → Puts f x y → Puts g y z → Puts (a ++ b ++ c ++ d ++ e ++ f ++ g) s z
seven put_a put_b put_c put_d put_e put_f put_g = two (six put_a put_b put_c put_d put_e put_f) put_g

-- a piece that is another one
pub same_piece : {a b : List ℕ} {old new : Written} → Puts a old new → a ≡ b → Puts b old new
same_piece {old = old} put same =
    record { lasts = put.lasts; text = λ h. put.text h ∙ ap (λ t. string_bytes old.so_far ++ t) same }

-- what stands before the pieces of an object
pub behind : (before a b c : List ℕ) → before ++ a ++ b ++ c ≡ before ++ (a ++ b ++ c)
behind before a b c = simp append_assoc
