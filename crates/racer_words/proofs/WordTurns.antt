-- What each kind of word does to the walk, and its fault.
use Rattle.std.proofs.Common.{◌≡◌, ℕ, suc, true, false, List, [], ◌∷◌, Option, Some, None, codes}
use Rattle.std.proofs.Common.{bytes_eq, is_some, slice_get, length, refl}
use Rattle.std.specs.Str.{chars}
use Rattle.std.proofs.Math.Bool.{and-false}
use Rattle.clap.specs.Walk.{Row, Text, Held, Walk, Waiting, idle, option, settled, reacted, is_pending, walked}
use Rattle.clap.specs.Walk.{takes_values}
use Rattle.clap.specs.Walk.{subcommand_met, positional}
use Rattle.clap.specs.Faults.{settle_fault, react_fault, turn_fault, flags_fault}
use Rattle.clap.specs.Kinds.{Kinds}
use Rattle.racer_words.specs.Uses.{Word, Label, Folder, Workers, Replay, Made, Edits, Json, Summaries, History, name_of}
use Rattle.racer_words.specs.Uses.{Containers, Typed}
use Rattle.racer_words.specs.Uses.{takes_value, label_of}
use Rattle.racer_words.proofs.BuiltRules.{built_rule, all, shape}
use Rattle.racer_words.proofs.Turns.{at, holds, Fault, no_fault, else_first}
use Rattle.racer_words.proofs.WordKinds.{IsLong, IsShort, IsPlainWord, by_long}
use Rattle.racer_base.proofs.Lists.{given_some}

abbrev pub turn : Walk → Word → Kinds
turn w word = turn_fault shape [] w word

-- ---- a word for the folder

abbrev pub folder_held : Word → Held → Held
folder_held word h = record (settled all h) { pending = Some (codes "FOLDER", word ∷ []) }

pub trailing_fault : (waiting : Waiting) (word : Word) (h : Held)
    → turn (at true 1 waiting h) word ≡ settle_fault all false h
trailing_fault waiting word h = rw (and-false (is_pending (built_rule Folder) h.pending)) refl

pub trailing_walk : (waiting : Waiting) (word : Word) (h : Held)
    → walked all [] (at true 1 waiting h) word ≡ at true 2 idle (folder_held word h)
unfolding walked
trailing_walk waiting word h = rw (and-false (is_pending (built_rule Folder) h.pending)) refl

pub trailing_stray : (waiting : Waiting) (word : Word) (h : Held) → Fault (turn (at true 2 waiting h) word)
trailing_stray waiting word h = refl

pub plain_fault : (word : Word) (h : Held) → IsPlainWord word → turn (at false 1 idle h) word ≡ settle_fault all false h
plain_fault word h is =
    rw (is.open_ended, is.long, is.short, and-false (is_pending (built_rule Folder) h.pending)) refl

pub plain_walk : (word : Word) (h : Held) → IsPlainWord word
    → walked all [] (at false 1 idle h) word ≡ at false 2 idle (folder_held word h)
unfolding walked
plain_walk word h is =
    rw (is.open_ended, is.long, is.short, and-false (is_pending (built_rule Folder) h.pending)) refl

pub plain_stray : (word : Word) (h : Held) → IsPlainWord word → Fault (turn (at false 2 idle h) word)
plain_stray word h is = rw (is.open_ended, is.long, is.short) refl

-- ---- `--`

pub ends_fault : (p : ℕ) (h : Held) (word : Word) → bytes_eq word (codes "--") ≡ true
    → turn (at false p idle h) word ≡ []
ends_fault p h word e = rw e refl

pub ends_walk : (p : ℕ) (h : Held) (word : Word) → bytes_eq word (codes "--") ≡ true
    → walked all [] (at false p idle h) word ≡ at true p idle h
unfolding walked
ends_walk p h word e = rw e refl

pub waiting_ends_fault : (id : Text) (p : ℕ) (h : Held) (word : Word) → bytes_eq word (codes "--") ≡ true
    → turn (at false p (option id) h) word ≡ []
waiting_ends_fault id p h word e = rw e refl

pub waiting_ends_walk : (id : Text) (p : ℕ) (h : Held) (word : Word) → bytes_eq word (codes "--") ≡ true
    → walked all [] (at false p (option id) h) word ≡ at true p (option id) h
unfolding walked
waiting_ends_walk id p h word e = rw e refl

-- ---- `--name` and `--name=value`

no_subcommand : (waiting : Waiting) (word : Word) → subcommand_met [] waiting word ≡ None
no_subcommand idle word = refl
no_subcommand (option id) word = refl
no_subcommand positional word = refl

pub takes : (l : Label) → takes_values (built_rule l) ≡ takes_value l
takes Folder = refl
takes Workers = refl
takes Replay = refl
takes Made = refl
takes Edits = refl
takes Json = refl
takes Summaries = refl
takes History = refl
takes Containers = refl
takes Typed = refl

module _ (word : Word) (p : Word × Option Word) (is : IsLong word p) (q : ℕ) (waiting : Waiting) (h : Held) where
  pub unknown : label_of p.0 ≡ None → Fault (turn (at false q waiting h) word)
  unknown e = rw (no_subcommand waiting word, is.open_ended, is.long, by_long p.0, e) refl

  module _ (l : Label) (e : label_of p.0 ≡ Some l) where
    module _ (v : Word) (f : p.1 ≡ Some v) where
      pub valued_fault : takes_value l ≡ true
          → turn (at false q waiting h) word ≡ react_fault all false (built_rule l) (v ∷ []) h
      valued_fault t = rw (no_subcommand waiting word, is.open_ended, is.long, by_long p.0, e, f, takes l, t)
          (no_fault (react_fault all false (built_rule l) (v ∷ []) h))

      pub valued_walk : takes_value l ≡ true → walked all [] (at false q waiting h) word
          ≡ at false q idle (reacted all (built_rule l) (v ∷ []) h)
      unfolding walked
      valued_walk t = rw (no_subcommand waiting word, is.open_ended, is.long, by_long p.0, e, f, takes l, t) refl

      pub flag_valued : takes_value l ≡ false → Fault (turn (at false q waiting h) word)
      flag_valued t = rw (no_subcommand waiting word, is.open_ended, is.long, by_long p.0, e, f, takes l, t) refl

    module _ (f : p.1 ≡ None) where
      pub waits_fault : takes_value l ≡ true → turn (at false q waiting h) word ≡ settle_fault all false h
      waits_fault t = rw (no_subcommand waiting word, is.open_ended, is.long, by_long p.0, e, f, takes l, t)
          (no_fault (settle_fault all false h))

      pub waits_walk : takes_value l ≡ true → walked all [] (at false q waiting h) word
          ≡ at false q (option (built_rule l).id) (record (settled all h) { pending = Some ((built_rule l).id, []) })
      unfolding walked
      waits_walk t = rw (no_subcommand waiting word, is.open_ended, is.long, by_long p.0, e, f, takes l, t) refl

      pub flag_fault : takes_value l ≡ false
          → turn (at false q waiting h) word ≡ react_fault all false (built_rule l) [] h
      flag_fault t = rw (no_subcommand waiting word, is.open_ended, is.long, by_long p.0, e, f, takes l, t)
          (no_fault (react_fault all false (built_rule l) [] h))

      pub flag_walk : takes_value l ≡ false → walked all [] (at false q waiting h) word
          ≡ at false q idle (reacted all (built_rule l) [] h)
      unfolding walked
      flag_walk t = rw (no_subcommand waiting word, is.open_ended, is.long, by_long p.0, e, f, takes l, t) refl

-- ---- `-name`

flags_unknown : (k c : ℕ) (flag : Word) (h : Held) → is_some (slice_get (chars (c ∷ flag)) 0) ≡ true
    → Fault (flags_fault all false (suc k) (c ∷ flag) 0 h)
unfolding flags_fault
flags_unknown k c flag h e = rw (given_some (slice_get (chars (c ∷ flag)) 0) e).1 refl

pub short_fault : (word : Word) (c : ℕ) (flag : Word) (q : ℕ) (waiting : Waiting) (rows : List Row)
    (pending : Option (Text × List Text)) → IsShort word (c ∷ flag)
    → Fault (turn (at false q waiting (holds rows pending)) word)
short_fault word c flag q waiting rows pending is =
    rw (no_subcommand waiting word, is.open_ended, is.long, is.short)
    (else_first (flags_fault all false (suc (length flag)) (c ∷ flag) 0 (holds rows pending)) _
    (flags_unknown (length flag) c flag (holds rows pending) is.some))

-- ---- the value that an option waits for

pub value_fault : (l : Label) (word : Word) (q : ℕ) (rows : List Row) → IsPlainWord word
    → turn (at false q (option (name_of l)) (holds rows (Some (name_of l, [])))) word ≡ []
value_fault l word q rows is = rw (is.open_ended, is.long, is.short) refl

pub value_walk : (l : Label) (word : Word) (q : ℕ) (rows : List Row) → IsPlainWord word → takes_value l ≡ true
    → walked all [] (at false q (option (name_of l)) (holds rows (Some (name_of l, [])))) word
    ≡ at false q idle (holds rows (Some (name_of l, word ∷ [])))
unfolding walked
value_walk Folder word q rows is t = rw (is.open_ended, is.long, is.short) refl
value_walk Workers word q rows is t = rw (is.open_ended, is.long, is.short) refl
value_walk Replay word q rows is t = rw (is.open_ended, is.long, is.short) refl
value_walk Made word q rows is t = rw (is.open_ended, is.long, is.short) refl
value_walk Edits word q rows is t = rw (is.open_ended, is.long, is.short) refl
value_walk Json word q rows is t = absurd (cc t)
value_walk Summaries word q rows is t = absurd (cc t)
value_walk History word q rows is t = absurd (cc t)
value_walk Containers word q rows is t = absurd (cc t)
value_walk Typed word q rows is t = absurd (cc t)
