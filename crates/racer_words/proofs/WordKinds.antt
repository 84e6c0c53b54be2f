-- What a word is: `--`, `--name..`, `-name` or plain; and the label of a name.
use Rattle.std.proofs.Common.{◌≡◌, ◌⊎◌, ℕ, ◌&&◌, ◌==◌, Bool, true, false, not, [], ◌∷◌, Option, Some, None}
use Rattle.std.proofs.Common.{cond, codes, bytes_eq, is_some, slice_get, option_map, refl, sym, subst, inl, inr}
use Rattle.std.specs.Str.{chars}
use Rattle.std.proofs.lemmas.Bool.{eqb-true}
use Rattle.std.proofs.Math.Bool.{or-false}
use Rattle.clap.specs.Lexer.{long_of, short_of}
use Rattle.clap.specs.Walk.{Rule, arg_by_long, has_long}
use Rattle.racer_words.specs.Uses.{Word, Label, Folder, Workers, Replay, Made, Edits, Json, Summaries, History, name_of}
use Rattle.racer_words.specs.Uses.{Containers, Typed}
use Rattle.racer_words.specs.Uses.{label_of, long_name, is_plain}
use Rattle.racer_words.specs.Readings.{IsText}
use Rattle.racer_words.proofs.BuiltRules.{built_rule, all}

pub record IsEnd (word : Word) : Type 0 where
  pub ends : bytes_eq word (codes "--") ≡ true
  pub plain : is_plain word ≡ false

pub record IsLong (word : Word) (p : Word × Option Word) : Type 0 where
  pub open_ended : bytes_eq word (codes "--") ≡ false
  pub long : long_of word ≡ Some p
  pub name : long_name word ≡ Some p
  pub plain : is_plain word ≡ false

pub record IsShort (word flag : Word) : Type 0 where
  pub open_ended : bytes_eq word (codes "--") ≡ false
  pub long : long_of word ≡ None
  pub name : long_name word ≡ None
  pub short : short_of word ≡ Some flag
  pub plain : is_plain word ≡ false
  pub some : is_some (slice_get (chars flag) 0) ≡ true

pub record IsPlainWord (word : Word) : Type 0 where
  pub open_ended : bytes_eq word (codes "--") ≡ false
  pub long : long_of word ≡ None
  pub name : long_name word ≡ None
  pub short : short_of word ≡ None
  pub plain : is_plain word ≡ true

pub data Kind (word : Word) : Type 0 where
  ends : IsEnd word → Kind word
  long : (p : Word × Option Word) → IsLong word p → Kind word
  short : (c : ℕ) (flag : Word) → IsShort word (c ∷ flag) → Kind word
  plain : IsPlainWord word → Kind word

behind_two : (ds : Word) → Kind (45 ∷ 45 ∷ ds)
behind_two [] = ends (record { ends = refl; plain = refl })
behind_two (x ∷ xs) = long _ (record { open_ended = refl; long = refl; name = refl; plain = refl })

has_some : (d : ℕ) (ds : Word) → ((d ∷ ds) ≡ []) ⊎ (is_some (slice_get (chars (d ∷ ds)) 0) ≡ true)
    → is_some (slice_get (chars (d ∷ ds)) 0) ≡ true
has_some d ds (inl e) = absurd (cc e)
has_some d ds (inr e) = e

one_minus : (d : ℕ) (ds : Word) (b : Bool) → (d == 45) ≡ b → IsText (45 ∷ d ∷ ds) → Kind (45 ∷ d ∷ ds)
one_minus d ds true e t = subst (λ z. Kind (45 ∷ z ∷ ds)) (sym (eqb-true d 45 e)) (behind_two ds)
one_minus d ds false e t = short d ds (record {
  open_ended = rw e refl;
  long = rw e refl;
  name = rw e refl;
  short = rw e refl;
  plain = refl;
  some = has_some d ds (t (d ∷ ds) refl);
})

minus : (bs : Word) → IsText (45 ∷ bs) → Kind (45 ∷ bs)
minus [] t = plain (record { open_ended = refl; long = refl; name = refl; short = refl; plain = refl })
minus (d ∷ ds) t = one_minus d ds (d == 45) refl t

begun : (b : ℕ) (bs : Word) (c : Bool) → (b == 45) ≡ c → IsText (b ∷ bs) → Kind (b ∷ bs)
begun b bs true e t =
    let at = eqb-true b 45 e in
    subst (λ z. Kind (z ∷ bs)) (sym at) (minus bs (subst (λ z. IsText (z ∷ bs)) at t))
begun b bs false e t = plain (record {
  open_ended = rw e refl;
  long = rw e refl;
  name = rw e refl;
  short = rw e refl;
  plain = rw e refl;
})

pub kind : (word : Word) → IsText word → Kind word
kind [] t = plain (record { open_ended = refl; long = refl; name = refl; short = refl; plain = refl })
kind (b ∷ bs) t = begun b bs (b == 45) refl t

-- ---- the label of a name

abbrev test : Word → Rule → Bool
test name a = not (is_some a.index) && has_long a name

chosen : (b c : Bool) (l : Label) (found : Option Rule) (met : Option Label) → b ≡ c → found ≡ option_map built_rule met
    → cond b (Some (built_rule l)) found ≡ option_map built_rule (cond c (Some l) met)
chosen true true l found met e f = refl
chosen false false l found met e f = f
chosen true false l found met e f = absurd (cc e)
chosen false true l found met e f = absurd (cc e)

pub by_long : (name : Word) → arg_by_long all name ≡ option_map built_rule (label_of name)
by_long name =
    chosen _ _ Workers _ _ (or-false (bytes_eq (codes "workers") name))
    (chosen _ _ Replay _ _ (or-false (bytes_eq (codes "replay") name))
    (chosen _ _ Made _ _ (or-false (bytes_eq (codes "made") name))
    (chosen _ _ Edits _ _ (or-false (bytes_eq (codes "edits") name))
    (chosen _ _ Json _ _ (or-false (bytes_eq (codes "json") name))
    (chosen _ _ Summaries _ _ (or-false (bytes_eq (codes "summaries") name))
    (chosen _ _ History _ _ (or-false (bytes_eq (codes "history") name))
    (chosen _ _ Containers _ _ (or-false (bytes_eq (codes "containers") name))
    (chosen _ _ Typed _ _ (or-false (bytes_eq (codes "typed") name)) refl))))))))

-- no name is that of the folder
folder_last : (a b c d e f g h i : Bool) → cond a (Some Workers) (cond b (Some Replay) (cond c (Some Made)
    (cond d (Some Edits) (cond e (Some Json) (cond f (Some Summaries) (cond g (Some History)
    (cond h (Some Containers) (cond i (Some Typed) None)))))))) ≡ Some Folder → ⊥
folder_last true b c d e f g h i k = absurd (cc k)
folder_last false true c d e f g h i k = absurd (cc k)
folder_last false false true d e f g h i k = absurd (cc k)
folder_last false false false true e f g h i k = absurd (cc k)
folder_last false false false false true f g h i k = absurd (cc k)
folder_last false false false false false true g h i k = absurd (cc k)
folder_last false false false false false false true h i k = absurd (cc k)
folder_last false false false false false false false true i k = absurd (cc k)
folder_last false false false false false false false false true k = absurd (cc k)
folder_last false false false false false false false false false k = absurd (cc k)

abbrev pub IsOther : Label → Type 0
IsOther l = bytes_eq (name_of l) (codes "FOLDER") ≡ false

pub other : (name : Word) (l : Label) → label_of name ≡ Some l → IsOther l
other name Folder e = absurd (folder_last _ _ _ _ _ _ _ _ _ e)
other name Workers e = refl
other name Replay e = refl
other name Made e = refl
other name Edits e = refl
other name Json e = refl
other name Summaries e = refl
other name History e = refl
other name Containers e = refl
other name Typed e = refl
