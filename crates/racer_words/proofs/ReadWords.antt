-- The walk over all words gives the rows of their uses, or fails where they are none.
use Rattle.std.proofs.Common.{◌≡◌, ◌||◌, Bool, true, false, List, [], ◌∷◌, ◌++◌, Option, Some, None, map, codes}
use Rattle.std.proofs.Common.{bytes_eq, refl, sym, ap, ◌∙◌}
use Rattle.std.proofs.Math.Bool.{or-false, or-true}
use Rattle.std.proofs.lemmas.List.{append-nil}
use Rattle.clap.specs.Walk.{Row, Text, Walk, Waiting, idle, settled, walked}
use Rattle.racer_words.specs.Uses.{Word, Label, Folder, name_of}
use Rattle.racer_words.specs.Uses.{label_of, Use, one, has, uses, differ, put, valued, is_plain}
use Rattle.racer_words.specs.Command.{fails}
use Rattle.racer_words.proofs.BuiltRules.{all}
use Rattle.racer_words.proofs.UsedRows.{rows_of_uses}
use Rattle.racer_words.proofs.Turns.{at, holds, Stands, Fault, value_stands}
use Rattle.racer_words.proofs.WordKinds.{IsLong, IsShort, IsPlainWord, IsEnd, IsOther}
use Rattle.racer_words.proofs.WordTurns.{turn, trailing_fault, trailing_walk, trailing_stray}
use Rattle.racer_words.proofs.Walks.{total, end_rows, on, on_rows, stops, at_end, place}
use Rattle.racer_base.proofs.Tests.{or_regrouped}

pub record Good (done us : List Use) (w : Walk) (words : List Word) : Type 0 where
  pub passes : total w words ≡ []
  pub rows : end_rows w words ≡ rows_of_uses (done ++ us)

-- what comes of the uses that the words behind some are
abbrev pub Answer : List Use → Option (List Use) → Walk → List Word → Type 0
Answer done None w words = Fault (total w words)
Answer done (Some us) w words =
    (differ done us ≡ true → Good done us w words) × (differ done us ≡ false → Fault (total w words))

one_more : {A : Type 0} (xs : List A) (y : A) (ys : List A) → (xs ++ y ∷ []) ++ ys ≡ xs ++ y ∷ ys
one_more [] y ys = refl
one_more (x ∷ xs) y ys = ap (λ more. x ∷ more) (one_more xs y ys)

-- two places of the walk from which the same comes
pub record Same (w after : Walk) (words rest : List Word) : Type 0 where
  pub totals : total w words ≡ total after rest
  pub rows : end_rows w words ≡ end_rows after rest

pub goes : (w after : Walk) (word : Word) (rest : List Word) → turn w word ≡ [] → walked all [] w word ≡ after
    → Same w after (word ∷ rest) rest
goes w after word rest e f = record { totals = on w after word rest e f; rows = on_rows w after word rest f }

pub moved : (done : List Use) (o : Option (List Use)) (w after : Walk) (words rest : List Word)
    → Same w after words rest → Answer done o after rest → Answer done o w words
moved done None w after words rest s a = ap fails s.totals ∙ a
moved done (Some us) w after words rest s a = (
  λ d. record { passes = s.totals ∙ (a.0 d).passes; rows = s.rows ∙ (a.0 d).rows },
  λ d. ap fails s.totals ∙ a.1 d,
)

differs : (l : Label) (word : Word) (done us : List Use) → has l done ≡ false
    → differ done (one l word ∷ us) ≡ differ (done ++ one l word ∷ []) us
unfolding differ
differs l word done us e = rw e refl

repeats : (l : Label) (word : Word) (done us : List Use) → has l done ≡ true → differ done (one l word ∷ us) ≡ false
unfolding differ
repeats l word done us e = rw e refl

pub put_answer : (l : Label) (word : Word) (done : List Use) (o : Option (List Use)) (w after : Walk)
    (words rest : List Word) → Same w after words rest → has l done ≡ false →
    Answer (done ++ one l word ∷ []) o after rest
    → Answer done (put l word o) w words
put_answer l word done None w after words rest s e a = ap fails s.totals ∙ a
put_answer l word done (Some us) w after words rest s e a = (
  λ d. let g = a.0 (sym (differs l word done us e) ∙ d) in record {
    passes = s.totals ∙ g.passes;
    rows = s.rows ∙ g.rows ∙ ap rows_of_uses (one_more done (one l word) us);
  },
  λ d. ap fails s.totals ∙ a.1 (sym (differs l word done us e) ∙ d),
)

pub put_again : (l : Label) (word : Word) (done : List Use) (o : Option (List Use)) (w : Walk) (words : List Word)
    → has l done ≡ true → Fault (total w words) → Answer done (put l word o) w words
put_again l word done None w words e a = a
put_again l word done (Some us) w words e a = (λ d. absurd (cc (d, repeats l word done us e)), λ d. a)

-- ---- whether the folder is given

has_more : (l m : Label) (word : Word) (done : List Use) → has m (done ++ one l word ∷ [])
    ≡ (has m done || bytes_eq (name_of l) (name_of m))
has_more l m word [] = or-false (bytes_eq (name_of l) (name_of m))
has_more l m word (u ∷ us) = ap (λ b. bytes_eq (name_of u.label) (name_of m) || b) (has_more l m word us)
    ∙ or_regrouped (bytes_eq (name_of u.label) (name_of m)) (has m us) (bytes_eq (name_of l) (name_of m))

pub other_more : (l : Label) (word : Word) (done : List Use) (b : Bool) → IsOther l → has Folder done ≡ b
    → has Folder (done ++ one l word ∷ []) ≡ b
other_more l word done b e f =
    has_more l Folder word done ∙ ap (λ c. has Folder done || c) e ∙ or-false (has Folder done) ∙ f

pub folder_more : (word : Word) (done : List Use) → has Folder (done ++ one Folder word ∷ []) ≡ true
folder_more word done = has_more Folder Folder word done ∙ or-true (has Folder done)

-- ---- what the definition says of each kind of word

pub uses_end : (word : Word) (rest : List Word) → IsEnd word → uses None (word ∷ rest) ≡ Some (map (one Folder) rest)
unfolding uses
uses_end word rest is = rw is.ends refl

pub uses_long : (word : Word) (rest : List Word) (p : Word × Option Word) → IsLong word p
    → uses None (word ∷ rest) ≡ valued (label_of p.0) p.1 (λ w. uses w rest)
unfolding uses
uses_long word rest p is = rw (is.open_ended, is.name) refl

pub uses_short : (word flag : Word) (rest : List Word) → IsShort word flag → uses None (word ∷ rest) ≡ None
unfolding uses
uses_short word flag rest is = rw (is.open_ended, is.name, is.plain) refl

pub uses_plain : (word : Word) (rest : List Word) → IsPlainWord word
    → uses None (word ∷ rest) ≡ put Folder word (uses None rest)
unfolding uses
uses_plain word rest is = rw (is.open_ended, is.name, is.plain) refl

pub uses_value : (l : Label) (word : Word) (rest : List Word) → is_plain word ≡ true
    → uses (Some l) (word ∷ rest) ≡ put l word (uses None rest)
unfolding uses
uses_value l word rest e = rw e refl

pub uses_no_value : (l : Label) (word : Word) (rest : List Word) → is_plain word ≡ false
    → uses (Some l) (word ∷ rest) ≡ None
unfolding uses
uses_no_value l word rest e = rw e refl

pub uses_nothing : uses None [] ≡ Some []
unfolding uses
uses_nothing = refl

pub uses_open : (l : Label) → uses (Some l) [] ≡ None
unfolding uses
uses_open l = refl

-- ---- the walk

pub ended : (done : List Use) (w : Walk) → Stands done w.held → Answer done (Some []) w []
unfolding differ
ended done w s = (
  λ d. record { passes = at_end w ∙ s.whole; rows = s.rows ∙ ap rows_of_uses (sym (append-nil done)) },
  λ d. absurd (cc d),
)

pub trailing_reads : (words : List Word) (done : List Use) (waiting : Waiting) (rows : List Row)
    (p : Option (Text × List Text)) → Stands done (holds rows p) → (b : Bool) → has Folder done ≡ b
    → Answer done (Some (map (one Folder) words)) (at true (place b) waiting (holds rows p)) words
trailing_reads [] done waiting rows p s b e = ended done (at true (place b) waiting (holds rows p)) s
trailing_reads (word ∷ rest) done waiting rows p s true e =
    put_again Folder word done (Some (map (one Folder) rest)) (at true 2 waiting (holds rows p)) (word ∷ rest) e
    (stops (at true 2 waiting (holds rows p)) word rest (trailing_stray waiting word (holds rows p)))
trailing_reads (word ∷ rest) done waiting rows p s false e =
    let r = (settled all (holds rows p)).rows in
    put_answer Folder word done (Some (map (one Folder) rest)) (at true 1 waiting (holds rows p))
    (at true 2 idle (holds r (Some (codes "FOLDER", word ∷ [])))) (word ∷ rest) rest
    (goes _ _ word rest (trailing_fault waiting word (holds rows p) ∙ s.whole)
    (trailing_walk waiting word (holds rows p))) e
    (trailing_reads rest (done ++ one Folder word ∷ []) idle r (Some (codes "FOLDER", word ∷ []))
    (value_stands Folder word done r refl s.rows e) true (folder_more word done))
