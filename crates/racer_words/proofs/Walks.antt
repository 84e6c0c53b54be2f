-- The walk over all words, from each place where it may stand.
use Rattle.std.proofs.Common.{◌≡◌, ℕ, Bool, true, false, List, [], ◌∷◌, Option, Some, None, fold, refl, ap, ◌∙◌}
use Rattle.clap.specs.Walk.{Row, Text, Held, Walk, Waiting, idle, settled, walked}
use Rattle.clap.specs.Faults.{settle_fault, walk_fault}
use Rattle.clap.specs.Kinds.{Kinds, or_else}
use Rattle.racer_words.specs.Uses.{Word, takes_value}
use Rattle.racer_words.specs.Uses.{label_of}
use Rattle.racer_words.specs.Command.{fails}
use Rattle.racer_words.specs.Readings.{AreTexts}
use Rattle.racer_words.proofs.BuiltRules.{all, shape}
use Rattle.racer_words.proofs.Turns.{at, holds, Fails, Fault, else_first, else_second}
use Rattle.racer_words.proofs.WordKinds.{IsLong, IsPlainWord, Kind, ends, long, short, plain, kind}
use Rattle.racer_words.proofs.WordTurns.{turn, trailing_fault, trailing_stray, plain_fault}
use Rattle.racer_words.proofs.WordTurns.{plain_stray, ends_fault, ends_walk}
use Rattle.racer_words.proofs.WordTurns.{unknown, valued_fault, flag_valued, waits_fault}
use Rattle.racer_words.proofs.WordTurns.{flag_fault, short_fault}

-- the fault of the walk and of what is pending at its end, and the rows there
abbrev pub total : Walk → List Word → Kinds
total w words = or_else (walk_fault shape [] w words) (settle_fault all false (fold (walked all []) w words).held)

abbrev pub end_rows : Walk → List Word → List Row
end_rows w words = (settled all (fold (walked all []) w words).held).rows

or_else_twice : (a b c : Kinds) → or_else (or_else a b) c ≡ or_else a (or_else b c)
or_else_twice [] b c = refl
or_else_twice (x ∷ a) b c = refl

turned : (w : Walk) (word : Word) (rest : List Word) → total w (word ∷ rest)
    ≡ or_else (turn w word) (total (walked all [] w word) rest)
unfolding walk_fault
turned w word rest = or_else_twice (turn w word) (walk_fault shape [] (walked all [] w word) rest) _

pub on : (w after : Walk) (word : Word) (rest : List Word) → turn w word ≡ [] → walked all [] w word ≡ after
    → total w (word ∷ rest) ≡ total after rest
on w after word rest e f = turned w word rest ∙ else_second (turn w word) _ e ∙ ap (λ v. total v rest) f

pub on_rows : (w after : Walk) (word : Word) (rest : List Word) → walked all [] w word ≡ after
    → end_rows w (word ∷ rest) ≡ end_rows after rest
on_rows w after word rest f = ap (λ v. end_rows v rest) f

pub stops : (w : Walk) (word : Word) (rest : List Word) → Fault (turn w word) → Fault (total w (word ∷ rest))
stops w word rest e = ap fails (turned w word rest) ∙ else_first (turn w word) _ e

pub at_end : (w : Walk) → total w [] ≡ settle_fault all false w.held
unfolding walk_fault
at_end w = refl

-- ---- where what is pending fails

abbrev pub place : Bool → ℕ
place false = 1
place true = 2

-- by the value of a test, an option
pub bool : {P : Type 0} (b : Bool) → (b ≡ true → P) → (b ≡ false → P) → P
bool true f g = f refl
bool false f g = g refl

pub maybe : {A P : Type 0} (o : Option A) → (o ≡ None → P) → ((x : A) → o ≡ Some x → P) → P
maybe None f g = f refl
maybe (Some x) f g = g x refl

pub fails_trailing : (words : List Word) (b : Bool) (waiting : Waiting) (h : Held) → Fails h
    → Fault (total (at true (place b) waiting h) words)
fails_trailing [] b waiting h e = ap fails (at_end (at true (place b) waiting h)) ∙ e
fails_trailing (word ∷ rest) false waiting h e =
    stops (at true 1 waiting h) word rest (ap fails (trailing_fault waiting word h) ∙ e)
fails_trailing (word ∷ rest) true waiting h e = stops (at true 2 waiting h) word rest (trailing_stray waiting word h)

pub fails_long : (word : Word) (p : Word × Option Word) → IsLong word p → (q : ℕ) (waiting : Waiting) (h : Held)
    → Fails h → Fault (turn (at false q waiting h) word)
fails_long word p is q waiting h e =
    maybe (label_of p.0) (unknown word p is q waiting h) (λ l f.
    maybe p.1 (λ g. bool (takes_value l)
    (λ t. ap fails (waits_fault word p is q waiting h l f g t) ∙ e)
    (λ t. ap fails (flag_fault word p is q waiting h l f g t) ∙ else_first (settle_fault all false h) _ e))
    (λ v g. bool (takes_value l)
    (λ t. ap fails (valued_fault word p is q waiting h l f v g t) ∙ else_first (settle_fault all false h) _ e)
    (λ t. flag_valued word p is q waiting h l f v g t)))

fails_plain : (word : Word) (b : Bool) (h : Held) → IsPlainWord word → Fails h
    → Fault (turn (at false (place b) idle h) word)
fails_plain word false h is e = ap fails (plain_fault word h is) ∙ e
fails_plain word true h is e = plain_stray word h is

fails_by : (word : Word) (rest : List Word) (b : Bool) (rows : List Row) (p : Option (Text × List Text)) → Kind word
    → Fails (holds rows p) → Fault (total (at false (place b) idle (holds rows p)) (word ∷ rest))
fails_by word rest b rows p (ends is) e =
    ap fails (on (at false (place b) idle (holds rows p)) (at true (place b) idle (holds rows p)) word rest
    (ends_fault (place b) (holds rows p) word is.ends) (ends_walk (place b) (holds rows p) word is.ends))
    ∙ fails_trailing rest b idle (holds rows p) e
fails_by word rest b rows p (long n is) e =
    stops (at false (place b) idle (holds rows p)) word rest (fails_long word n is (place b) idle (holds rows p) e)
fails_by word rest b rows p (short c flag is) e =
    stops (at false (place b) idle (holds rows p)) word rest (short_fault word c flag (place b) idle rows p is)
fails_by word rest b rows p (plain is) e =
    stops (at false (place b) idle (holds rows p)) word rest (fails_plain word b (holds rows p) is e)

pub fails_idle : (words : List Word) → AreTexts words → (b : Bool) (rows : List Row) (p : Option (Text × List Text))
    → Fails (holds rows p) → Fault (total (at false (place b) idle (holds rows p)) words)
fails_idle [] t b rows p e = ap fails (at_end (at false (place b) idle (holds rows p))) ∙ e
fails_idle (word ∷ rest) t b rows p e = fails_by word rest b rows p (kind word t.0) e
