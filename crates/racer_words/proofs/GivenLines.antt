-- From the rows of the reading to the line.
use Rattle.std.proofs.Common.{◌≡◌, Bool, true, false, List, [], ◌∷◌, Option, Some, None, codes, option_map, refl, ap}
use Rattle.std.proofs.Common.{◌∙◌}
use Rattle.std.specs.Prelude.{MatchOption}
use Rattle.clap.specs.Kinds.{Kinds, IsAmong}
use Rattle.clap.specs.declared.error.kind.ErrorKind.{ErrorKind}
use Rattle.clap.specs.Walk.{Row}
use Rattle.clap.specs.Simple.{matches_of}
use Rattle.clap.specs.Faults.{fault_of}
use Rattle.racer_words.specs.Uses.{Word, Folder, Workers, Replay, Made, Edits, Json, Summaries, History, Line, Use}
use Rattle.racer_words.specs.Uses.{Containers, Typed}
use Rattle.racer_words.specs.Uses.{line_of, line, read, has}
use Rattle.racer_words.specs.Command.{command, fails}
use Rattle.racer_words.specs.Lines.{IsOf, flag_text}
use Rattle.racer_words.specs.Readings.{AreTexts, Gives}
use Rattle.racer_words.proofs.Finished.{words_are_read}

pub among_fails : (k : ErrorKind) (ks : Kinds) → IsAmong k ks → fails ks ≡ true
among_fails k [] h = absurd h
among_fails k (x ∷ ks) h = refl

-- a line is its ten parts
same_parts : (l m : Line) → l.folder ≡ m.folder → l.workers ≡ m.workers → l.replay ≡ m.replay → l.made ≡ m.made
    → l.edits ≡ m.edits → l.json ≡ m.json → l.summaries ≡ m.summaries → l.history ≡ m.history
    → l.containers ≡ m.containers → l.typed ≡ m.typed → l ≡ m
same_parts l m a b c d i e f g h k =
    ap (λ x. record l { folder = x }) a
    ∙ ap (λ x. record l { folder = m.folder; workers = x }) b
    ∙ ap (λ x. record l { folder = m.folder; workers = m.workers; replay = x }) c
    ∙ ap (λ x. record l { folder = m.folder; workers = m.workers; replay = m.replay; made = x }) d
    ∙ ap (λ x. record l { folder = m.folder; workers = m.workers; replay = m.replay; made = m.made; edits = x }) i
    ∙ ap (λ x. record m {
      json = x;
      summaries = l.summaries;
      history = l.history;
      containers = l.containers;
      typed = l.typed;
    }) e
    ∙ ap (λ x. record m { summaries = x; history = l.history; containers = l.containers; typed = l.typed }) f
    ∙ ap (λ x. record m { history = x; containers = l.containers; typed = l.typed }) g
    ∙ ap (λ x. record m { containers = x; typed = l.typed }) h
    ∙ ap (λ x. record m { typed = x }) k

same_line : (rows : List Row) (us : List Use) (l : Line) → Gives rows us → IsOf rows l → l ≡ line_of us
same_line rows us l g is = same_parts l (line_of us) (is.folder ∙ g.words Folder refl)
    (is.workers ∙ g.words Workers refl) (is.replay ∙ g.words Replay refl) (is.made ∙ g.words Made refl)
    (is.edits ∙ g.words Edits refl)
    (is.json (has Json us) (g.flags Json refl))
    (is.summaries (has Summaries us) (g.flags Summaries refl)) (is.history (has History us) (g.flags History refl))
    (is.containers (has Containers us) (g.flags Containers refl)) (is.typed (has Typed us) (g.flags Typed refl))

some_by : (words : List Word) (l : Line) (o : Option (List Use)) → MatchOption o (fails (fault_of command words) ≡ true)
    (λ us. (fault_of command words ≡ []) × Gives (matches_of command words) us) → fault_of command words ≡ []
    → IsOf (matches_of command words) l → Some l ≡ option_map line_of o
some_by words l None h e is = absurd (cc (h, ap fails e))
some_by words l (Some us) h e is = ap (λ x. Some x) (same_line (matches_of command words) us l h.1 is)

pub some_line : (words : List Word) (l : Line) → AreTexts words → fault_of command words ≡ []
    → IsOf (matches_of command words) l → Some l ≡ line words
some_line words l t e is = some_by words l (read words) (words_are_read words t) e is

none_by : (words : List Word) (o : Option (List Use)) → MatchOption o (fails (fault_of command words) ≡ true)
    (λ us. (fault_of command words ≡ []) × Gives (matches_of command words) us) → fails (fault_of command words) ≡ true
    → None ≡ option_map line_of o
none_by words None h e = refl
none_by words (Some us) h e = absurd (cc (e, ap fails h.0))

pub no_line : (words : List Word) → AreTexts words → fails (fault_of command words) ≡ true → None ≡ line words
no_line words t e = none_by words (read words) (words_are_read words t) e

-- the code's flag has the text that `clap` reads
pub flag_is : (b flag : Bool) (text : Option Word) → (text ≡ Some (codes "true") → flag ≡ true)
    → (text ≡ Some (codes "false") → flag ≡ false) → text ≡ Some (flag_text b) → flag ≡ b
flag_is true flag text t f e = t e
flag_is false flag text t f e = f e
