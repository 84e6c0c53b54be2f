-- The walk where an option waits for its value, and where none does.
use Rattle.std.proofs.Common.{◌≡◌, Bool, true, false, List, [], ◌∷◌, ◌++◌, Option, Some, None, map, codes, refl, ap}
use Rattle.std.proofs.Common.{◌∙◌}
use Rattle.clap.specs.Walk.{Row, Text, Held, Walk, idle, option, settled, reacted, used}
use Rattle.racer_words.specs.Uses.{Word, Label, Folder, Workers, Replay, Made, Edits, Json, Summaries, History, name_of}
use Rattle.racer_words.specs.Uses.{Containers, Typed}
use Rattle.racer_words.specs.Uses.{takes_value}
use Rattle.racer_words.specs.Uses.{label_of, Use, one, has, uses, put, valued}
use Rattle.racer_words.specs.Readings.{AreTexts}
use Rattle.racer_words.specs.Command.{fails}
use Rattle.racer_words.proofs.BuiltRules.{built_rule, all}
use Rattle.racer_words.proofs.UsedRows.{rows_of_uses}
use Rattle.racer_words.proofs.Turns.{at, holds, Stands, waits_fails, value_stands, value_fails, value_reacts}
use Rattle.racer_words.proofs.Turns.{value_reacts_again, value_reacted, flag_reacts, flag_reacts_again, flag_reacted}
use Rattle.racer_words.proofs.WordKinds.{IsLong, IsPlainWord, Kind, ends, long, short, plain, kind, IsOther, other}
use Rattle.racer_words.proofs.WordTurns.{plain_fault, plain_walk, plain_stray, ends_fault, ends_walk}
use Rattle.racer_words.proofs.WordTurns.{waiting_ends_fault, waiting_ends_walk, unknown, valued_fault, valued_walk}
use Rattle.racer_words.proofs.WordTurns.{flag_valued, waits_fault, waits_walk, flag_fault, flag_walk, short_fault}
use Rattle.racer_words.proofs.WordTurns.{value_fault, value_walk}
use Rattle.racer_words.proofs.Walks.{stops, at_end, place, bool, maybe, on, fails_trailing, fails_long, fails_idle}
use Rattle.racer_words.proofs.ReadWords.{Answer, goes, moved, put_answer, put_again, other_more, folder_more, ended}
use Rattle.racer_words.proofs.ReadWords.{uses_end, uses_long, uses_short, uses_plain, uses_value, uses_no_value}
use Rattle.racer_words.proofs.ReadWords.{uses_nothing, uses_open, trailing_reads}

abbrev IdleReads : List Word → Type 0
IdleReads words = (done : List Use) (rows : List Row) (p : Option (Text × List Text)) → Stands done (holds rows p)
    → (b : Bool) → has Folder done ≡ b → Answer done (uses None words) (at false (place b) idle (holds rows p)) words

abbrev WaitsReads : List Word → Type 0
WaitsReads words = (l : Label) → takes_value l ≡ true → IsOther l → (done : List Use) (rows : List Row)
    → rows ≡ rows_of_uses done → (b : Bool) → has Folder done ≡ b → Answer done (uses (Some l) words)
    (at false (place b) (option (name_of l)) (holds rows (Some (name_of l, [])))) words

id_is : (l : Label) → (built_rule l).id ≡ name_of l
id_is Folder = refl
id_is Workers = refl
id_is Replay = refl
id_is Made = refl
id_is Edits = refl
id_is Json = refl
id_is Summaries = refl
id_is History = refl
id_is Containers = refl
id_is Typed = refl

module _ (word : Word) (rest : List Word) (idles : IdleReads rest) (waits : WaitsReads rest) where
  plain_at : (done : List Use) (rows : List Row) (p : Option (Text × List Text)) → Stands done (holds rows p)
      → (b : Bool) → has Folder done ≡ b → IsPlainWord word
      → Answer done (put Folder word (uses None rest)) (at false (place b) idle (holds rows p)) (word ∷ rest)
  plain_at done rows p s true e is = put_again Folder word done (uses None rest) (at false 2 idle (holds rows p))
      (word ∷ rest) e (stops (at false 2 idle (holds rows p)) word rest (plain_stray word (holds rows p) is))
  plain_at done rows p s false e is =
      let r = (settled all (holds rows p)).rows in
      put_answer Folder word done (uses None rest) (at false 1 idle (holds rows p))
      (at false 2 idle (holds r (Some (codes "FOLDER", word ∷ [])))) (word ∷ rest) rest
      (goes _ _ word rest (plain_fault word (holds rows p) is ∙ s.whole) (plain_walk word (holds rows p) is)) e
      (idles (done ++ one Folder word ∷ []) r (Some (codes "FOLDER", word ∷ []))
      (value_stands Folder word done r refl s.rows e) true (folder_more word done))

  module _ (done : List Use) (rows : List Row) (p : Option (Text × List Text)) (s : Stands done (holds rows p))
      (b : Bool) (e : has Folder done ≡ b) where
    abbrev here : Walk
    here = at false (place b) idle (holds rows p)

    abbrev now : List Row
    now = (settled all (holds rows p)).rows

    long_valued : (n : Word × Option Word) → IsLong word n → (l : Label) → label_of n.0 ≡ Some l → (v : Word)
        → n.1 ≡ Some v → takes_value l ≡ true → Answer done (put l v (uses None rest)) here (word ∷ rest)
    long_valued n is l f v g t = bool (has l done)
        (λ h. put_again l v done (uses None rest) here (word ∷ rest) h (stops here word rest
        (ap fails (valued_fault word n is (place b) idle (holds rows p) l f v g t)
        ∙ value_reacts_again l v done (holds rows p) s t h)))
        (λ h. put_answer l v done (uses None rest) here
        (at false (place b) idle (reacted all (built_rule l) (v ∷ []) (holds rows p))) (word ∷ rest) rest
        (goes here _ word rest (valued_fault word n is (place b) idle (holds rows p) l f v g t
        ∙ value_reacts l v done (holds rows p) s t h) (valued_walk word n is (place b) idle (holds rows p) l f v g t))
        h (idles (done ++ one l v ∷ []) (used (built_rule l) (v ∷ []) now) None
        (value_reacted l v done (holds rows p) s t h) b (other_more l v done b (other n.0 l f) e)))

    long_flag : (n : Word × Option Word) → IsLong word n → (l : Label) → label_of n.0 ≡ Some l → n.1 ≡ None
        → takes_value l ≡ false → Answer done (put l (codes "true") (uses None rest)) here (word ∷ rest)
    long_flag n is l f g t = bool (has l done)
        (λ h. put_again l (codes "true") done (uses None rest) here (word ∷ rest) h (stops here word rest
        (ap fails (flag_fault word n is (place b) idle (holds rows p) l f g t)
        ∙ flag_reacts_again l (codes "true") done (holds rows p) s t h)))
        (λ h. put_answer l (codes "true") done (uses None rest) here
        (at false (place b) idle (reacted all (built_rule l) [] (holds rows p))) (word ∷ rest) rest
        (goes here _ word rest (flag_fault word n is (place b) idle (holds rows p) l f g t
        ∙ flag_reacts l (codes "true") done (holds rows p) s t h)
        (flag_walk word n is (place b) idle (holds rows p) l f g t))
        h (idles (done ++ one l (codes "true") ∷ []) (used (built_rule l) [] now) None
        (flag_reacted l (codes "true") done (holds rows p) s t h) b
        (other_more l (codes "true") done b (other n.0 l f) e)))

    long_waits : (n : Word × Option Word) → IsLong word n → (l : Label) → label_of n.0 ≡ Some l → n.1 ≡ None
        → takes_value l ≡ true → Answer done (uses (Some l) rest) here (word ∷ rest)
    long_waits n is l f g t = moved done (uses (Some l) rest) here
        (at false (place b) (option (name_of l)) (holds now (Some (name_of l, [])))) (word ∷ rest) rest
        (goes here _ word rest (waits_fault word n is (place b) idle (holds rows p) l f g t ∙ s.whole)
        (waits_walk word n is (place b) idle (holds rows p) l f g t
        ∙ ap (λ id. at false (place b) (option id) (holds now (Some (id, [])))) (id_is l)))
        (waits l t (other n.0 l f) done now s.rows b e)

    long_reads : (n : Word × Option Word) → IsLong word n
        → Answer done (valued (label_of n.0) n.1 (λ w. uses w rest)) here (word ∷ rest)
    long_reads n is = maybe (label_of n.0)
        (λ f. rw f (stops here word rest (unknown word n is (place b) idle (holds rows p) f)))
        (λ l f. maybe n.1
        (λ g. bool (takes_value l) (λ t. rw (f, g, t) (long_waits n is l f g t))
        (λ t. rw (f, g, t) (long_flag n is l f g t)))
        (λ v g. bool (takes_value l) (λ t. rw (f, g, t) (long_valued n is l f v g t))
        (λ t. rw (f, g, t) (stops here word rest (flag_valued word n is (place b) idle (holds rows p) l f v g t)))))

    idle_by : Kind word → Answer done (uses None (word ∷ rest)) here (word ∷ rest)
    idle_by (ends is) = rw (uses_end word rest is) (moved done (Some (map (one Folder) rest)) here
        (at true (place b) idle (holds rows p)) (word ∷ rest) rest
        (goes here _ word rest (ends_fault (place b) (holds rows p) word is.ends)
        (ends_walk (place b) (holds rows p) word is.ends)) (trailing_reads rest done idle rows p s b e))
    idle_by (long n is) = rw (uses_long word rest n is) (long_reads n is)
    idle_by (short c flag is) = rw (uses_short word (c ∷ flag) rest is)
        (stops here word rest (short_fault word c flag (place b) idle rows p is))
    idle_by (plain is) = rw (uses_plain word rest is) (plain_at done rows p s b e is)

  module _ (texts : AreTexts rest) (l : Label) (t : takes_value l ≡ true) (o : IsOther l) (done : List Use)
      (rows : List Row) (r : rows ≡ rows_of_uses done) (b : Bool) (e : has Folder done ≡ b) where
    abbrev waiting : Walk
    waiting = at false (place b) (option (name_of l)) (holds rows (Some (name_of l, [])))

    abbrev valued_held : Held
    valued_held = holds rows (Some (name_of l, word ∷ []))

    waits_plain : IsPlainWord word → Answer done (put l word (uses None rest)) waiting (word ∷ rest)
    waits_plain is = bool (has l done)
        (λ h. put_again l word done (uses None rest) waiting (word ∷ rest) h
        (ap fails (on waiting (at false (place b) idle valued_held) word rest (value_fault l word (place b) rows is)
        (value_walk l word (place b) rows is t))
        ∙ fails_idle rest texts b rows (Some (name_of l, word ∷ [])) (value_fails l word done rows t r h)))
        (λ h. put_answer l word done (uses None rest) waiting (at false (place b) idle valued_held) (word ∷ rest) rest
        (goes waiting _ word rest (value_fault l word (place b) rows is) (value_walk l word (place b) rows is t)) h
        (idles (done ++ one l word ∷ []) rows (Some (name_of l, word ∷ [])) (value_stands l word done rows t r h) b
        (other_more l word done b o e)))

    waits_by : Kind word → Answer done (uses (Some l) (word ∷ rest)) waiting (word ∷ rest)
    waits_by (ends is) = rw (uses_no_value l word rest is.plain)
        (ap fails (on waiting (at true (place b) (option (name_of l)) (holds rows (Some (name_of l, [])))) word rest
        (waiting_ends_fault (name_of l) (place b) (holds rows (Some (name_of l, []))) word is.ends)
        (waiting_ends_walk (name_of l) (place b) (holds rows (Some (name_of l, []))) word is.ends))
        ∙ fails_trailing rest b (option (name_of l)) (holds rows (Some (name_of l, []))) (waits_fails l rows t))
    waits_by (long n is) = rw (uses_no_value l word rest is.plain) (stops waiting word rest
        (fails_long word n is (place b) (option (name_of l)) (holds rows (Some (name_of l, [])))
        (waits_fails l rows t)))
    waits_by (short c flag is) = rw (uses_no_value l word rest is.plain)
        (stops waiting word rest
        (short_fault word c flag (place b) (option (name_of l)) rows (Some (name_of l, [])) is))
    waits_by (plain is) = rw (uses_value l word rest is.plain) (waits_plain is)

mutual
  pub idle_reads : (words : List Word) → AreTexts words → IdleReads words
  idle_reads [] texts done rows p s b e = rw uses_nothing (ended done (at false (place b) idle (holds rows p)) s)
  idle_reads (word ∷ rest) texts done rows p s b e =
      idle_by word rest (idle_reads rest texts.1) (waits_reads rest texts.1) done rows p s b e (kind word texts.0)

  pub waits_reads : (words : List Word) → AreTexts words → WaitsReads words
  waits_reads [] texts l t o done rows r b e = rw (uses_open l)
      (ap fails (at_end (at false (place b) (option (name_of l)) (holds rows (Some (name_of l, [])))))
      ∙ waits_fails l rows t)
  waits_reads (word ∷ rest) texts l t o done rows r b e =
      waits_by word rest (idle_reads rest texts.1) (waits_reads rest texts.1) texts.1 l t o done rows r b e
      (kind word texts.0)
