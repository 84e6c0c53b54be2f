-- A contract of a public call rests on this: what is seen of a witness file, and what is answered of bytes.
use Rattle.std.specs.Prelude.{◌≡◌, ℕ, List, Some, Result, Ok, Err, IsUtf8}
use Rattle.serde_json.specs.Data.{Data}
use Rattle.serde_json.specs.Read.{read}
use Rattle.core_ways.specs.Marks.{leg_of}
use Rattle.witness_text_files.specs.declared.fault.Field.{Field}
use Rattle.witness_text_files.specs.declared.fault.WitnessFault.{WitnessFault}
use Rattle.witness_text_files.specs.declared.fault.WitnessFault.TheVariants.{Memory, NotAWitness, NotJson}
use Rattle.witness_text_files.specs.declared.file.WitnessFile.{WitnessFile}
use Rattle.witness_text_files.specs.Files.{File, file_of}

-- what a witness file says
abbrev pub seen : WitnessFile → File
seen f =
    record {
      class = f.class;
      first_entry = f.first_entry;
      second_entry = f.second_entry;
      path = f.path;
      objects = f.objects;
      first = leg_of f.first;
      second = leg_of f.second;
    }

-- the bytes are a text that is this value in JSON (RFC 8259), nested at most 127 deep
abbrev pub IsJson : List ℕ → Data → Type 0
IsJson bytes d = IsUtf8 bytes × (read bytes ≡ Some d)

-- why bytes are no witness file
abbrev pub IsWitnessFault : List ℕ → WitnessFault → Type 0
IsWitnessFault bytes NotJson = (d : Data) → IsJson bytes d → ⊥
IsWitnessFault bytes (NotAWitness field) = (d : Data) × IsJson bytes d × (file_of d ≡ Err field)
IsWitnessFault bytes Memory = Unit {0}

-- the bytes are this witness file
abbrev pub IsFileOf : List ℕ → File → Type 0
IsFileOf bytes f = (d : Data) × IsJson bytes d × (file_of d ≡ Ok f)

abbrev pub IsFile : List ℕ → WitnessFile → Type 0
IsFile bytes f = IsFileOf bytes (seen f)

-- what is answered of a value
abbrev pub Judges : Result File Field → Result WitnessFile WitnessFault → Type 0
Judges said (Ok f) = said ≡ Ok (seen f)
Judges said (Err NotJson) = ⊥
Judges said (Err (NotAWitness field)) = said ≡ Err field
Judges said (Err Memory) = Unit {0}
