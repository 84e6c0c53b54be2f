-- No public contract rests on this: files as texts, on which the definitions are tried.
use Rattle.std.specs.Prelude.{ℕ, List, [], ◌++◌, None, Some, Result, Ok, Err, codes, replicate}
use Rattle.serde_json.specs.Read.{read}
use Rattle.witness_text_files.specs.declared.fault.Field.{Field}
use Rattle.witness_text_files.specs.Files.{File, file_of}

-- what a text is
pub data Answer : Type 0 where
  NoJson : Answer
  AFile : Answer
  Lacks : Field → Answer

abbrev pub answer_of : Result File Field → Answer
answer_of (Ok f) = AFile
answer_of (Err field) = Lacks field

abbrev pub answered : List ℕ → Answer
answered text = elim (read text) [ None ↦ NoJson | Some d ↦ answer_of (file_of d) ]

-- the text of a file, from those of its members
abbrev pub file_text : List ℕ → List ℕ → List ℕ → List ℕ → List ℕ → List ℕ
file_text version class entries objects legs =
    codes "{\"version\":" ++ version ++ codes ",\"class\":" ++ class ++ codes ",\"entries\":" ++ entries
    ++ codes ",\"objects\":" ++ objects ++ codes ",\"legs\":" ++ legs ++ codes "}"

abbrev pub leg_text : List ℕ → List ℕ → List ℕ → List ℕ
leg_text steps thread turns =
    codes "{\"steps\":" ++ steps ++ codes ",\"thread\":" ++ thread ++ codes ",\"turns\":" ++ turns ++ codes "}"

abbrev pub legs_text : List ℕ → List ℕ → List ℕ
legs_text first second = codes "[" ++ first ++ codes "," ++ second ++ codes "]"

abbrev pub one_leg : List ℕ
one_leg = leg_text (codes "9") (codes "1") (codes "\"RL\"")

abbrev pub other_leg : List ℕ
other_leg = leg_text (codes "3") (codes "0") (codes "\"\"")

-- What is answered where one member alone is this text.

abbrev pub with_version : List ℕ → Answer
with_version version =
    answered (file_text version (codes "\"A\"") (codes "[\"a/0\",\"b/0\"]") (codes "[]") (legs_text one_leg other_leg))

abbrev pub with_class : List ℕ → Answer
with_class class =
    answered (file_text (codes "1") class (codes "[\"a/0\",\"b/0\"]") (codes "[]") (legs_text one_leg other_leg))

abbrev pub with_entries : List ℕ → Answer
with_entries entries =
    answered (file_text (codes "1") (codes "\"A\"") entries (codes "[]") (legs_text one_leg other_leg))

-- the path behind the entries, in a file of this version
abbrev pub with_path : List ℕ → List ℕ → Answer
with_path version path =
    answered (file_text version (codes "\"A\"") (codes "[\"a/0\",\"b/0\"],\"path\":" ++ path) (codes "[]")
    (legs_text one_leg other_leg))

abbrev pub with_objects : List ℕ → Answer
with_objects objects =
    answered (file_text (codes "1") (codes "\"A\"") (codes "[\"a/0\",\"b/0\"]") objects (legs_text one_leg other_leg))

abbrev pub with_legs : List ℕ → Answer
with_legs legs =
    answered (file_text (codes "1") (codes "\"A\"") (codes "[\"a/0\",\"b/0\"]") (codes "[]") legs)

-- the second leg beside one of thread 1
abbrev pub with_leg : List ℕ → List ℕ → List ℕ → Answer
with_leg steps thread turns = with_legs (legs_text one_leg (leg_text steps thread turns))

-- so many brackets around nothing
abbrev pub nested : ℕ → List ℕ
nested n = replicate n 91 ++ replicate n 93

-- a file of two locked methods, and its text; and the same of version 1
abbrev pub gate : File
gate =
    record {
      class = codes "Gate";
      first_entry = codes "b/0";
      second_entry = codes "a/0";
      path = Some (codes "this.c");
      objects = [];
      first = record { thread = 1; turns = []; steps = 9 };
      second = record { thread = 0; turns = []; steps = 3 };
    }

abbrev pub gate_text : List ℕ
gate_text =
    codes "{\"class\":\"Gate\",\"entries\":[\"b/0\",\"a/0\"],\"legs\":[{\"steps\":9,\"thread\":1,\"turns\":\"\"},"
    ++ codes "{\"steps\":3,\"thread\":0,\"turns\":\"\"}],\"objects\":[],\"path\":\"this.c\",\"version\":2}"

abbrev pub gate_without_path : File
gate_without_path = record gate { path = None }

abbrev pub gate_text_without_path : List ℕ
gate_text_without_path =
    codes "{\"class\":\"Gate\",\"entries\":[\"b/0\",\"a/0\"],\"legs\":[{\"steps\":9,\"thread\":1,\"turns\":\"\"},"
    ++ codes "{\"steps\":3,\"thread\":0,\"turns\":\"\"}],\"objects\":[],\"version\":1}"
