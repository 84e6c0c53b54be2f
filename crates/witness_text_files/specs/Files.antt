-- A contract of a public call rests on this: what a witness file says, and the first of its members that is missing or
-- otherwise.
use Rattle.std.specs.Prelude.{ℕ, ◌+◌, ◌*◌, Bool, ◌||◌, ◌==◌, List, [], ◌∷◌, Option, None, Some, Result, Ok, Err}
use Rattle.std.specs.Prelude.{codes, length, nat_le, option_map, option_and_then, if◌then◌else◌}
use Rattle.serde_json.specs.Data.{Data, Items, no_items, item}
use Rattle.serde_json.specs.Find.{as_array, as_number, as_str, as_u64, get}
use Rattle.racer_base.specs.declared.limits.TheConstants.{MAX_WAY_STEPS}
use Rattle.core_semantics.specs.declared.answer.Turn.{Turn}
use Rattle.core_semantics.specs.declared.answer.Turn.TheVariants.{Left, Right}
use Rattle.core_semantics.specs.Legs.{Leg}
use Rattle.witness_text_files.specs.declared.fault.Field.{Field}
use Rattle.witness_text_files.specs.declared.fault.Field.TheVariants.{Version, Class, Entries, Path, Objects, Legs}

-- The name of a class, the entries of thread 0 and thread 1, the path that the threads race on, start paths as texts,
-- and two legs in running order. Files of version 1 have no path.
pub record File : Type 0 where
  pub class : List ℕ
  pub first_entry : List ℕ
  pub second_entry : List ℕ
  pub path : Option (List ℕ)
  pub objects : List (List ℕ)
  pub first : Leg
  pub second : Leg

-- where a test holds
abbrev pub where_so : {X : Type 0} → Bool → X → Option X
where_so test x = if test then Some x else None

-- A number that is written as decimal digits alone, and at most this one. A number with a sign, a point or an exponent
-- is no such number, nor is one of more than 64 bits.
abbrev pub number_up_to : ℕ → Data → Option ℕ
number_up_to most d = option_and_then (λ n. where_so (nat_le n most) n) (option_and_then as_u64 (as_number d))

-- 1 or 2
abbrev pub version_of : Data → Option ℕ
version_of d = option_and_then (λ n. where_so (n == 1 || n == 2) n) (option_and_then as_u64 (as_number d))

-- texts alone
abbrev pub texts_of : Items → Option (List (List ℕ))
texts_of no_items = Some []
texts_of (item d ds) = option_and_then (λ text. option_map (λ texts. text ∷ texts) (texts_of ds)) (as_str d)

-- just two
abbrev pub two_items : Items → Option (Data × Data)
two_items (item d (item e no_items)) = Some (d, e)
two_items _ = None

abbrev pub two_texts : Data × Data → Option (List ℕ × List ℕ)
two_texts ds = option_and_then (λ first. option_map (λ second. (first, second)) (as_str ds.1)) (as_str ds.0)

abbrev pub entries_of : Data → Option (List ℕ × List ℕ)
entries_of d = option_and_then two_texts (option_and_then two_items (as_array d))

abbrev pub objects_of : Data → Option (List (List ℕ))
objects_of d =
    option_and_then (λ texts. where_so (nat_le (length texts) (MAX_WAY_STEPS * 2)) texts)
    (option_and_then texts_of (as_array d))

-- `L` (76) and `R` (82)
abbrev pub turns_of : List ℕ → Option (List Turn)
turns_of [] = Some []
turns_of (b ∷ bs) =
    if b == 76 then option_map (λ turns. Left ∷ turns) (turns_of bs)
    else if b == 82 then option_map (λ turns. Right ∷ turns) (turns_of bs) else None

-- a member of an object, as this reads it
abbrev pub member : {X : Type 0} → List ℕ → (Data → Option X) → Data → Option X
member name reads d = option_and_then reads (get name d)

abbrev pub text_turns : Data → Option (List Turn)
text_turns d =
    option_and_then (λ turns. where_so (nat_le (length turns) MAX_WAY_STEPS) turns)
    (option_and_then turns_of (as_str d))

abbrev pub leg_of : Data → Option Leg
leg_of d =
    option_and_then (λ steps.
    option_and_then (λ thread.
    option_map (λ turns. record { thread = thread; turns = turns; steps = steps })
    (member (codes "turns") text_turns d))
    (member (codes "thread") (number_up_to 1) d))
    (member (codes "steps") (number_up_to MAX_WAY_STEPS) d)

-- one leg of each thread
abbrev pub both_threads : Leg × Leg → Option (Leg × Leg)
both_threads legs = where_so (legs.0.thread + legs.1.thread == 1) legs

abbrev pub two_legs : Data × Data → Option (Leg × Leg)
two_legs ds =
    option_and_then (λ first. option_and_then (λ second. both_threads (first, second)) (leg_of ds.1)) (leg_of ds.0)

abbrev pub legs_of : Data → Option (Leg × Leg)
legs_of d = option_and_then two_legs (option_and_then two_items (as_array d))

-- the path of a file of this version: in version 2 it must be a text, and in version 1 there is none, whatever a
-- further member of that name is
abbrev pub path_of : ℕ → Data → Option (Option (List ℕ))
path_of version d = if version == 2 then option_map (λ text. Some text) (member (codes "path") as_str d) else Some None

-- what is read of a member, or that the file lacks it
abbrev pub needs : {X : Type 0} → Field → Option X → (X → Result File Field) → Result File Field
needs field None rest = Err field
needs field (Some x) rest = rest x

-- the file of these members, or the first that is missing or otherwise
abbrev pub file_from : Option ℕ → Option (List ℕ) → Option (List ℕ × List ℕ) → Option (Option (List ℕ)) →
    Option (List (List ℕ)) → Option (Leg × Leg) → Result File Field
file_from version class entries path objects legs =
    needs Version version (λ _.
    needs Class class (λ class.
    needs Entries entries (λ entries.
    needs Path path (λ path.
    needs Objects objects (λ objects.
    needs Legs legs (λ legs.
    Ok (record {
      class = class;
      first_entry = entries.0;
      second_entry = entries.1;
      path = path;
      objects = objects;
      first = legs.0;
      second = legs.1;
    })))))))

-- the witness file that a value is; further members are ignored
abbrev pub file_of : Data → Result File Field
file_of d =
    file_from (member (codes "version") version_of d) (member (codes "class") as_str d)
    (member (codes "entries") entries_of d)
    (option_and_then (λ version. path_of version d) (member (codes "version") version_of d))
    (member (codes "objects") objects_of d) (member (codes "legs") legs_of d)
