-- A contract of a public call rests on this: the value that a witness file is written as.
use Rattle.std.specs.Prelude.{ℕ, List, [], ◌∷◌, Option, None, Some, codes, map}
use Rattle.serde_json.specs.Data.{Data, array, number, object, string, unsigned, Members, no_members, put}
use Rattle.serde_json.specs.View.{items_of}
use Rattle.core_semantics.specs.declared.answer.Turn.{Turn}
use Rattle.core_semantics.specs.declared.answer.Turn.TheVariants.{Left, Right}
use Rattle.core_semantics.specs.Legs.{Leg}
use Rattle.witness_text_files.specs.Files.{File}

abbrev pub letter : Turn → ℕ
letter Left = 76
letter Right = 82

abbrev pub count : ℕ → Data
count n = number (unsigned n)

-- the members of a leg, and others
abbrev pub leg_members : Leg → Members → Members
leg_members leg others =
    put (codes "turns") (string (map letter leg.turns))
    (put (codes "thread") (count leg.thread) (put (codes "steps") (count leg.steps) others))

abbrev pub leg_data : Leg → Data
leg_data leg = object (leg_members leg no_members)

abbrev pub texts_data : List (List ℕ) → Data
texts_data texts = array (items_of (map string texts))

abbrev pub entries_data : File → Data
entries_data f = array (items_of (string f.first_entry ∷ string f.second_entry ∷ []))

abbrev pub legs_data : File → Data
legs_data f = array (items_of (leg_data f.first ∷ leg_data f.second ∷ []))

-- a file with a path is of version 2, and one without of version 1
abbrev pub version_number : Option (List ℕ) → ℕ
version_number None = 1
version_number (Some path) = 2

-- the path, where there is one, and other members
abbrev pub path_members : Option (List ℕ) → Members → Members
path_members None others = others
path_members (Some path) others = put (codes "path") (string path) others

-- the members of a file, and others
abbrev pub file_members : File → Members → Members
file_members f others =
    put (codes "version") (count (version_number f.path))
    (path_members f.path
    (put (codes "objects") (texts_data f.objects)
    (put (codes "legs") (legs_data f)
    (put (codes "entries") (entries_data f)
    (put (codes "class") (string f.class) others)))))

-- the value of a file
abbrev pub data_of : File → Data
data_of f = object (file_members f no_members)
