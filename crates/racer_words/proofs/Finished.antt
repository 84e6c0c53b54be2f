-- The end of the reading: defaults of the flags, and what the rows give.
use Rattle.std.proofs.Common.{◌≡◌, ◌||◌, Bool, true, false, List, [], ◌∷◌, ◌++◌, Option, Some, None, map, fold, find}
use Rattle.std.proofs.Common.{codes, bytes_eq, is_some, slice_get, if◌then◌else◌, option_map, refl, sym, ap, ◌∙◌}
use Rattle.std.specs.Prelude.{option_and_then, MatchOption}
use Rattle.clap.specs.Values.{read_as}
use Rattle.std.proofs.lemmas.Slice.Eq.{bytes_eq-Decides}
use Rattle.std.proofs.lemmas.Bool.{or_parts}
use Rattle.std.proofs.Math.Bool.{or-true}
use Rattle.clap.specs.Walk.{Row, Text, Walk, idle, has_row, with_default, first_of, one_of, row_text, walk, settled}
use Rattle.clap.specs.Walk.{nothing_held, arg_by_id, takes_values, reading_by}
use Rattle.clap.specs.Simple.{App, matches_of, entered}
use Rattle.clap.specs.Kinds.{Kinds, or_else}
use Rattle.clap.specs.Walk.{finished, with_values, more_values}
use Rattle.clap.specs.Faults.{walk_fault, default_fault, defaults_fault, check_fault, entered_fault, fault_of}
use Rattle.clap.specs.Faults.{settle_fault}
use Rattle.clap.specs.declared.parser.matches.ValueSource.TheVariants.{DefaultValue}
use Rattle.racer_words.specs.Uses.{Word, Label, Folder, Workers, Replay, Made, Edits, Json, Summaries, History, name_of}
use Rattle.racer_words.specs.Uses.{Containers, Typed}
use Rattle.racer_words.specs.Uses.{takes_value}
use Rattle.racer_words.specs.Uses.{Use, has, given, uses, differ, labels}
use Rattle.racer_words.specs.Command.{command, fails}
use Rattle.racer_words.specs.Readings.{AreTexts, IsRead, Gives}
use Rattle.racer_words.proofs.BuiltRules.{built_rule, all, shape, by_id}
use Rattle.racer_words.proofs.UsedRows.{at_end, row_of_use, rows_of_uses, due_word}
use Rattle.racer_words.proofs.Turns.{at, holds, no_fault}
use Rattle.racer_words.proofs.WordTurns.{takes}
use Rattle.racer_words.proofs.Walks.{total, end_rows}
use Rattle.racer_words.proofs.ReadWords.{Answer}
use Rattle.racer_words.proofs.IdleReads.{idle_reads}

-- ---- the faults behind the walk

by_flag : (b : Bool) (k : Kinds) → k ≡ [] → (if b || false then [] else k) ≡ []
by_flag true k e = refl
by_flag false k e = e

default_ok : (l : Label) (rows : List Row) → default_fault rows (built_rule l) ≡ []
default_ok Folder rows = rw (or-true (has_row (codes "FOLDER") rows)) refl
default_ok Workers rows = rw (or-true (has_row (codes "workers") rows)) refl
default_ok Replay rows = rw (or-true (has_row (codes "replay") rows)) refl
default_ok Made rows = rw (or-true (has_row (codes "made") rows)) refl
default_ok Edits rows = rw (or-true (has_row (codes "edits") rows)) refl
default_ok Json rows = by_flag (has_row (codes "json") rows) _ refl
default_ok Summaries rows = by_flag (has_row (codes "summaries") rows) _ refl
default_ok History rows = by_flag (has_row (codes "history") rows) _ refl
default_ok Containers rows = by_flag (has_row (codes "containers") rows) _ refl
default_ok Typed rows = by_flag (has_row (codes "typed") rows) _ refl

defaults_ok : (ls : List Label) (rows : List Row) → defaults_fault rows (map built_rule ls) ≡ []
unfolding defaults_fault
defaults_ok [] rows = refl
defaults_ok (l ∷ ls) rows = rw (default_ok l rows) (defaults_ok ls (with_default rows (built_rule l)))

no_entry : (stop : Option (Text × List Text)) → entered (record { top = shape; subs = [] }) stop ≡ None
no_entry None = refl
no_entry (Some p) = refl

no_entry_fault : (stop : Option (Text × List Text)) → entered_fault (record { top = shape; subs = [] }) stop ≡ []
no_entry_fault None = refl
no_entry_fault (Some p) = refl

abbrev start : Walk
start = at false 1 idle (holds [] None)

pub all_faults : (words : List Word) → fault_of command words ≡ total start words
all_faults words =
    let w = walk all [] nothing_held words in
    let b : App = record { top = shape; subs = [] } in
    let k = walk_fault shape [] start words in
    let s = settle_fault all false w.held in
    let d = defaults_fault (settled all w.held).rows all in
    let end = finished all w.held in
    ap (λ e. or_else k (or_else e (or_else s (or_else d (check_fault shape end (is_some (entered b w.stopped)))))))
    (no_entry_fault w.stopped)
    ∙ ap (λ o. or_else k (or_else s (or_else d (check_fault shape end (is_some o))))) (no_entry w.stopped)
    ∙ ap (λ e. or_else k (or_else s (or_else e []))) (defaults_ok (Folder ∷ labels) (settled all w.held).rows)
    ∙ ap (λ e. or_else k e) (no_fault s)

-- ---- what the rows give

abbrev row_at : Label → List Row → Option Row
row_at l rows = find (λ r. bytes_eq r.id (name_of l)) rows

found_one : {A : Type 0} (b : Bool) (x : A) (o : Option A) (c : Bool) → c ≡ is_some o
    → (b || c) ≡ is_some (if b then Some x else o)
found_one true x o c e = refl
found_one false x o c e = e

has_found : (l : Label) (rows : List Row) → has_row (name_of l) rows ≡ is_some (row_at l rows)
has_found l [] = refl
has_found l (r ∷ rs) = found_one (bytes_eq r.id (name_of l)) r (row_at l rs) (has_row (name_of l) rs) (has_found l rs)

-- a row for another label at the end changes nothing
pushed_row : (l : Label) (rows : List Row) (r : Row) → bytes_eq r.id (name_of l) ≡ false
    → row_at l (rows ++ r ∷ []) ≡ row_at l rows
pushed_row l [] r e = rw e refl
pushed_row l (x ∷ rows) r e = ap (λ o. if bytes_eq x.id (name_of l) then Some x else o) (pushed_row l rows r e)

pushed_found : (l : Label) (rows : List Row) (r : Row) → bytes_eq r.id (name_of l) ≡ true
    → has_row (name_of l) rows ≡ false
    → row_at l (rows ++ r ∷ []) ≡ Some r
pushed_found l [] r e h = rw e refl
pushed_found l (x ∷ rows) r e h = rw (or_parts (bytes_eq x.id (name_of l)) (has_row (name_of l) rows) h).0
    (pushed_found l rows r e (or_parts (bytes_eq x.id (name_of l)) (has_row (name_of l) rows) h).1)

-- ---- the rows with the defaults of the flags

abbrev default_row : Label → Row
default_row l = record {
  id = name_of l;
  values = codes "false" ∷ [];
  count = None;
  source = Some DefaultValue;
  reading = reading_by (built_rule l);
}

same_both : {A : Type 0} (b : Bool) (x : A) → (if b then x else x) ≡ x
same_both true x = refl
same_both false x = refl

value_default : (l : Label) (rows : List Row) → takes_value l ≡ true → with_default rows (built_rule l) ≡ rows
value_default Folder rows t = same_both (has_row (codes "FOLDER") rows) rows
value_default Workers rows t = same_both (has_row (codes "workers") rows) rows
value_default Replay rows t = same_both (has_row (codes "replay") rows) rows
value_default Made rows t = same_both (has_row (codes "made") rows) rows
value_default Edits rows t = same_both (has_row (codes "edits") rows) rows
value_default Json rows t = absurd (cc t)
value_default Summaries rows t = absurd (cc t)
value_default History rows t = absurd (cc t)
value_default Containers rows t = absurd (cc t)
value_default Typed rows t = absurd (cc t)

flag_by : (l : Label) (rows : List Row) (h : Bool) → has_row (name_of l) rows ≡ h
    → (if h then rows else with_values (name_of l) (reading_by (built_rule l)) DefaultValue (codes "false" ∷ []) rows)
    ≡ (if h then rows else rows ++ default_row l ∷ [])
flag_by l rows true e = refl
flag_by l rows false e =
    at_end (name_of l) (more_values DefaultValue (codes "false" ∷ [])) (default_row l ∷ []) rows e

flag_default : (l : Label) (rows : List Row) → takes_value l ≡ false → with_default rows (built_rule l)
    ≡ (if has_row (name_of l) rows then rows else rows ++ default_row l ∷ [])
flag_default Folder rows t = absurd (cc t)
flag_default Workers rows t = absurd (cc t)
flag_default Replay rows t = absurd (cc t)
flag_default Made rows t = absurd (cc t)
flag_default Edits rows t = absurd (cc t)
flag_default Json rows t = flag_by Json rows (has_row (codes "json") rows) refl
flag_default Summaries rows t = flag_by Summaries rows (has_row (codes "summaries") rows) refl
flag_default History rows t = flag_by History rows (has_row (codes "history") rows) refl
flag_default Containers rows t = flag_by Containers rows (has_row (codes "containers") rows) refl
flag_default Typed rows t = flag_by Typed rows (has_row (codes "typed") rows) refl

abbrev or_default : Label → Option Row → Option Row
or_default l None = Some (default_row l)
or_default l (Some r) = Some r

value_at : (m l : Label) (rows : List Row) → takes_value m ≡ true
    → row_at l (with_default rows (built_rule m)) ≡ row_at l rows
value_at m l rows t = ap (row_at l) (value_default m rows t)

pushed_by : (m l : Label) (rows : List Row) (h : Bool) → bytes_eq (name_of m) (name_of l) ≡ false
    → row_at l (if h then rows else rows ++ default_row m ∷ []) ≡ row_at l rows
pushed_by m l rows true e = refl
pushed_by m l rows false e = pushed_row l rows (default_row m) e

other_at : (m l : Label) (rows : List Row) → takes_value m ≡ false → bytes_eq (name_of m) (name_of l) ≡ false
    → row_at l (with_default rows (built_rule m)) ≡ row_at l rows
other_at m l rows t e = ap (row_at l) (flag_default m rows t) ∙ pushed_by m l rows (has_row (name_of m) rows) e

is_default : (l : Label) (o : Option Row) → is_some o ≡ true → o ≡ or_default l o
is_default l None e = absurd (cc e)
is_default l (Some r) e = refl

is_missing : (l : Label) (o : Option Row) → is_some o ≡ false → Some (default_row l) ≡ or_default l o
is_missing l None e = refl
is_missing l (Some r) e = absurd (cc e)

filled_by : (l : Label) (rows : List Row) (h : Bool) → has_row (name_of l) rows ≡ h
    → row_at l (if h then rows else rows ++ default_row l ∷ []) ≡ or_default l (row_at l rows)
filled_by l rows true e = is_default l (row_at l rows) (sym (has_found l rows) ∙ e)
filled_by l rows false e =
    pushed_found l rows (default_row l) ((bytes_eq-Decides (name_of l) (name_of l)).1 refl) e
    ∙ is_missing l (row_at l rows) (sym (has_found l rows) ∙ e)

filled_at : (l : Label) (rows : List Row) → takes_value l ≡ false
    → row_at l (with_default rows (built_rule l)) ≡ or_default l (row_at l rows)
filled_at l rows t = ap (row_at l) (flag_default l rows t) ∙ filled_by l rows (has_row (name_of l) rows) refl

-- the rows with the defaults of these labels
abbrev with_all : List Label → List Row → List Row
with_all ls rows = fold with_default rows (map built_rule ls)

values_first : (l : Label) (rows : List Row)
    → row_at l (with_all (Folder ∷ Workers ∷ Replay ∷ Made ∷ Edits ∷ []) rows) ≡ row_at l rows
values_first l rows =
    value_at Edits l (with_all (Folder ∷ Workers ∷ Replay ∷ Made ∷ []) rows) refl
    ∙ value_at Made l (with_all (Folder ∷ Workers ∷ Replay ∷ []) rows) refl
    ∙ value_at Replay l (with_all (Folder ∷ Workers ∷ []) rows) refl
    ∙ value_at Workers l (with_all (Folder ∷ []) rows) refl
    ∙ value_at Folder l rows refl

abbrev behind_values : List Row → List Row
behind_values = with_all (Folder ∷ Workers ∷ Replay ∷ Made ∷ Edits ∷ [])

abbrev behind_json : List Row → List Row
behind_json rows = with_default (behind_values rows) (built_rule Json)

abbrev behind_summaries : List Row → List Row
behind_summaries rows = with_default (behind_json rows) (built_rule Summaries)

abbrev behind_history : List Row → List Row
behind_history rows = with_default (behind_summaries rows) (built_rule History)

abbrev behind_containers : List Row → List Row
behind_containers rows = with_default (behind_history rows) (built_rule Containers)

record IsNoFlag (l : Label) : Type 0 where
  json : bytes_eq (name_of Json) (name_of l) ≡ false
  summaries : bytes_eq (name_of Summaries) (name_of l) ≡ false
  history : bytes_eq (name_of History) (name_of l) ≡ false
  containers : bytes_eq (name_of Containers) (name_of l) ≡ false
  typed : bytes_eq (name_of Typed) (name_of l) ≡ false

value_all : (l : Label) (rows : List Row) → IsNoFlag l → row_at l (with_all (Folder ∷ labels) rows) ≡ row_at l rows
value_all l rows e =
    other_at Typed l (behind_containers rows) refl e.typed
    ∙ other_at Containers l (behind_history rows) refl e.containers
    ∙ other_at History l (behind_summaries rows) refl e.history
    ∙ other_at Summaries l (behind_json rows) refl e.summaries
    ∙ other_at Json l (behind_values rows) refl e.json ∙ values_first l rows

no_flag : (l : Label) → takes_value l ≡ true → IsNoFlag l
no_flag Folder t = record { json = refl; summaries = refl; history = refl; containers = refl; typed = refl }
no_flag Workers t = record { json = refl; summaries = refl; history = refl; containers = refl; typed = refl }
no_flag Replay t = record { json = refl; summaries = refl; history = refl; containers = refl; typed = refl }
no_flag Made t = record { json = refl; summaries = refl; history = refl; containers = refl; typed = refl }
no_flag Edits t = record { json = refl; summaries = refl; history = refl; containers = refl; typed = refl }
no_flag Json t = absurd (cc t)
no_flag Summaries t = absurd (cc t)
no_flag History t = absurd (cc t)
no_flag Containers t = absurd (cc t)
no_flag Typed t = absurd (cc t)

flag_all : (l : Label) (rows : List Row) → takes_value l ≡ false
    → row_at l (with_all (Folder ∷ labels) rows) ≡ or_default l (row_at l rows)
flag_all Folder rows t = absurd (cc t)
flag_all Workers rows t = absurd (cc t)
flag_all Replay rows t = absurd (cc t)
flag_all Made rows t = absurd (cc t)
flag_all Edits rows t = absurd (cc t)
flag_all Json rows t =
    other_at Typed Json (behind_containers rows) refl refl
    ∙ other_at Containers Json (behind_history rows) refl refl ∙ other_at History Json (behind_summaries rows) refl refl
    ∙ other_at Summaries Json (behind_json rows) refl refl
    ∙ filled_at Json (behind_values rows) refl ∙ ap (or_default Json) (values_first Json rows)
flag_all Summaries rows t =
    other_at Typed Summaries (behind_containers rows) refl refl
    ∙ other_at Containers Summaries (behind_history rows) refl refl
    ∙ other_at History Summaries (behind_summaries rows) refl refl
    ∙ filled_at Summaries (behind_json rows) refl
    ∙ ap (or_default Summaries) (other_at Json Summaries (behind_values rows) refl refl ∙ values_first Summaries rows)
flag_all History rows t =
    other_at Typed History (behind_containers rows) refl refl
    ∙ other_at Containers History (behind_history rows) refl refl ∙ filled_at History (behind_summaries rows) refl
    ∙ ap (or_default History) (other_at Summaries History (behind_json rows) refl refl
    ∙ other_at Json History (behind_values rows) refl refl ∙ values_first History rows)
flag_all Containers rows t =
    other_at Typed Containers (behind_containers rows) refl refl
    ∙ filled_at Containers (behind_history rows) refl
    ∙ ap (or_default Containers) (other_at History Containers (behind_summaries rows) refl refl
    ∙ other_at Summaries Containers (behind_json rows) refl refl
    ∙ other_at Json Containers (behind_values rows) refl refl ∙ values_first Containers rows)
flag_all Typed rows t =
    filled_at Typed (behind_containers rows) refl
    ∙ ap (or_default Typed) (other_at Containers Typed (behind_history rows) refl refl
    ∙ other_at History Typed (behind_summaries rows) refl refl
    ∙ other_at Summaries Typed (behind_json rows) refl refl
    ∙ other_at Json Typed (behind_values rows) refl refl ∙ values_first Typed rows)

-- ---- what is given

same_rule : (m l : Label) → bytes_eq (name_of m) (name_of l) ≡ true → built_rule m ≡ built_rule l
same_rule m l e =
    let f : Some (built_rule m) ≡ Some (built_rule l) = sym (by_id m)
    ∙ ap (arg_by_id all) ((bytes_eq-Decides (name_of m) (name_of l)).0 e) ∙ by_id l in
    cc f

same_takes : (m l : Label) → bytes_eq (name_of m) (name_of l) ≡ true → takes_value m ≡ takes_value l
same_takes m l e = sym (takes m) ∙ ap takes_values (same_rule m l e) ∙ takes l

abbrev word_at : Option Row → Option Word
word_at = option_and_then (λ r. slice_get r.values 0)

abbrev text_at : Option Row → Option Word
text_at = option_and_then row_text

due : (b : Bool) (word : Word) → b ≡ true → due_word b word ≡ word
due true word e = refl
due false word e = absurd (cc e)

due_flag : (b : Bool) (word : Word) → b ≡ false → due_word b word ≡ codes "true"
due_flag true word e = absurd (cc e)
due_flag false word e = refl

word_step : (l : Label) (u : Use) (us : List Use) (b : Bool) → bytes_eq (name_of u.label) (name_of l) ≡ b
    → takes_value l ≡ true → word_at (row_at l (rows_of_uses us)) ≡ given l us
    → word_at (if b then Some (row_of_use u) else row_at l (rows_of_uses us))
    ≡ option_map (λ v. v.word) (if b then Some u else find (λ v. bytes_eq (name_of v.label) (name_of l)) us)
word_step l u us true e t ih = ap (λ w. Some w) (due (takes_value u.label) u.word (same_takes u.label l e ∙ t))
word_step l u us false e t ih = ih

word_given : (l : Label) → takes_value l ≡ true → (us : List Use) → word_at (row_at l (rows_of_uses us)) ≡ given l us
word_given l t [] = refl
word_given l t (u ∷ us) = word_step l u us (bytes_eq (name_of u.label) (name_of l)) refl t (word_given l t us)

true_text : (l : Label) → takes_value l ≡ false → option_map (read_as (reading_by (built_rule l))) (Some (codes "true"))
    ≡ Some (codes "true")
true_text Folder t = absurd (cc t)
true_text Workers t = absurd (cc t)
true_text Replay t = absurd (cc t)
true_text Made t = absurd (cc t)
true_text Edits t = absurd (cc t)
true_text Json t = refl
true_text Summaries t = refl
true_text History t = refl
true_text Containers t = refl
true_text Typed t = refl

false_text : (l : Label) → takes_value l ≡ false → text_at (Some (default_row l)) ≡ Some (codes "false")
false_text Folder t = absurd (cc t)
false_text Workers t = absurd (cc t)
false_text Replay t = absurd (cc t)
false_text Made t = absurd (cc t)
false_text Edits t = absurd (cc t)
false_text Json t = refl
false_text Summaries t = refl
false_text History t = refl
false_text Containers t = refl
false_text Typed t = refl

flag_step : (l : Label) (u : Use) (us : List Use) (b : Bool) → bytes_eq (name_of u.label) (name_of l) ≡ b
    → takes_value l ≡ false
    → text_at (or_default l (row_at l (rows_of_uses us))) ≡ Some (if has l us then codes "true" else codes "false")
    → text_at (or_default l (if b then Some (row_of_use u) else row_at l (rows_of_uses us)))
    ≡ Some (if b || has l us then codes "true" else codes "false")
flag_step l u us true e t ih =
    ap (λ w. option_map (read_as (reading_by (built_rule u.label))) (Some w))
    (due_flag (takes_value u.label) u.word (same_takes u.label l e ∙ t))
    ∙ ap (λ r. option_map (read_as (reading_by r)) (Some (codes "true"))) (same_rule u.label l e) ∙ true_text l t
flag_step l u us false e t ih = ih

flag_given : (l : Label) → takes_value l ≡ false → (us : List Use)
    → text_at (or_default l (row_at l (rows_of_uses us))) ≡ Some (if has l us then codes "true" else codes "false")
flag_given l t [] = false_text l t
flag_given l t (u ∷ us) = flag_step l u us (bytes_eq (name_of u.label) (name_of l)) refl t (flag_given l t us)

gives : (words : List Word) (us : List Use) → end_rows start words ≡ rows_of_uses us
    → Gives (matches_of command words) us
gives words us e =
    let f : matches_of command words ≡ with_all (Folder ∷ labels) (rows_of_uses us) =
    ap (with_all (Folder ∷ labels)) e in
    record {
      words = λ l t. ap (first_of (name_of l)) f ∙ ap word_at (value_all l (rows_of_uses us) (no_flag l t))
          ∙ word_given l t us;
      flags = λ l t. ap (one_of (name_of l)) f ∙ ap text_at (flag_all l (rows_of_uses us) t) ∙ flag_given l t us;
    }

-- ---- the reading

chosen : (words : List Word) (us : List Use) (b : Bool) → differ [] us ≡ b → Answer [] (Some us) start words
    → MatchOption (if b then Some us else None) (fails (fault_of command words) ≡ true)
    (λ vs. (fault_of command words ≡ []) × Gives (matches_of command words) vs)
chosen words us true e a = (all_faults words ∙ (a.0 e).passes, gives words us (a.0 e).rows)
chosen words us false e a = ap fails (all_faults words) ∙ a.1 e

answered : (words : List Word) (o : Option (List Use)) → Answer [] o start words
    → MatchOption (option_and_then (λ us. if differ [] us then Some us else None) o)
    (fails (fault_of command words) ≡ true)
    (λ us. (fault_of command words ≡ []) × Gives (matches_of command words) us)
answered words None a = ap fails (all_faults words) ∙ a
answered words (Some us) a = chosen words us (differ [] us) refl a

pub words_are_read : (words : List Word) → AreTexts words → IsRead words
words_are_read words texts = answered words (uses None words)
    (idle_reads words texts [] [] None (record { rows = refl; whole = refl }) false refl)
