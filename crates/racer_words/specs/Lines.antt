-- No public contract rests on this: what is seen of the code's line, and when it has what rows of `clap` give.
use Rattle.std.specs.Prelude.{◌≡◌, Bool, Some, List, codes, option_map, if◌then◌else◌}
use Rattle.clap.specs.Walk.{Row, first_of, one_of}
use Rattle.racer_words.specs.declared.line.GivenLine.{GivenLine}
use Rattle.racer_words.specs.Uses.{Line, Word}

abbrev pub line_view : GivenLine → Line
line_view l = record {
  folder = option_map (λ s. s.now) l.folder;
  workers = option_map (λ s. s.now) l.workers;
  replay = option_map (λ s. s.now) l.replay;
  made = option_map (λ s. s.now) l.made;
  edits = option_map (λ s. s.now) l.edits;
  json = l.json;
  summaries = l.summaries;
  history = l.history;
  containers = l.containers;
  typed = l.typed;
}

abbrev pub flag_text : Bool → Word
flag_text b = if b then codes "true" else codes "false"

-- the line has the words of the rows, and its flags where their texts are those of flags
pub record IsOf (rows : List Row) (l : Line) : Type 0 where
  pub folder : l.folder ≡ first_of (codes "FOLDER") rows
  pub workers : l.workers ≡ first_of (codes "workers") rows
  pub replay : l.replay ≡ first_of (codes "replay") rows
  pub made : l.made ≡ first_of (codes "made") rows
  pub edits : l.edits ≡ first_of (codes "edits") rows
  pub json : (b : Bool) → one_of (codes "json") rows ≡ Some (flag_text b) → l.json ≡ b
  pub summaries : (b : Bool) → one_of (codes "summaries") rows ≡ Some (flag_text b) → l.summaries ≡ b
  pub history : (b : Bool) → one_of (codes "history") rows ≡ Some (flag_text b) → l.history ≡ b
  pub containers : (b : Bool) → one_of (codes "containers") rows ≡ Some (flag_text b) → l.containers ≡ b
  pub typed : (b : Bool) → one_of (codes "typed") rows ≡ Some (flag_text b) → l.typed ≡ b
