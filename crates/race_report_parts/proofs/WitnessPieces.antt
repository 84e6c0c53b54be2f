-- The pieces of the text of a confirmed mark, which has the file of its run.
use Rattle.std.proofs.Common.{◌≡◌, ℕ, List, [], ◌∷◌, ◌++◌, codes, refl, ap, ◌∙◌, append_assoc, map}
use Rattle.std.specs.List.{flat_map}
use Rattle.std.specs.Fmt.{decimal}
use Rattle.serde_json.specs.Data.{Data, array, object, put, string, no_members}
use Rattle.serde_json.specs.View.{items_of}
use Rattle.serde_json.specs.Written.{compact_text}
use Rattle.serde_json.proofs.OnLiterals.{serde_json_on_literals}
use Rattle.core_code.specs.Core.{Core}
use Rattle.core_semantics.specs.declared.answer.Turn.{Turn}
use Rattle.core_semantics.specs.declared.answer.Turn.TheVariants.{Left, Right}
use Rattle.core_semantics.specs.declared.object.StartPath.{StartPath}
use Rattle.core_semantics.specs.Legs.{Leg}
use Rattle.witness_text_files.specs.Written.{data_of, leg_data, letter, texts_data}
use Rattle.access_paths.specs.Text.{name_at}
use Rattle.race_report_parts.specs.Json.{count}
use Rattle.race_report_parts.specs.Marks.{start_text, turn_text}
use Rattle.race_report_parts.specs.Texts.{class_names, path_text}
use Rattle.race_report_parts.specs.Told.{Sides}
use Rattle.race_report_parts.specs.WitnessFiles.{entry_text, file_of_run}
use Rattle.race_report_parts.specs.Pieces.{leg_numbers, leg_object, witness_member, witness_object}
use Rattle.race_report_parts.proofs.JsonPieces.{two_told}

letters_alone : (turns : List Turn) → map letter turns ≡ flat_map turn_text turns
letters_alone [] = refl
letters_alone (Left ∷ turns) = ap (λ (t : List ℕ). 76 ∷ t) (letters_alone turns)
letters_alone (Right ∷ turns) = ap (λ (t : List ℕ). 82 ∷ t) (letters_alone turns)

leg_pieces : (s t w : Data) →
    compact_text (object (put (codes "turns") w (put (codes "thread") t (put (codes "steps") s no_members)))) ≡
    codes "{\"steps\":" ++ compact_text s ++ codes ",\"thread\":" ++ compact_text t ++ codes ",\"turns\":"
    ++ compact_text w ++ codes "}"
unfolding serde_json_on_literals
leg_pieces s t w = simp append_assoc

leg_grouped : (steps s thread t turns w end : List ℕ) →
    steps ++ s ++ thread ++ t ++ turns ++ w ++ end ≡ steps ++ s ++ thread ++ t ++ (turns ++ w) ++ end
leg_grouped steps s thread t turns w end = simp append_assoc

leg_told : (leg : Leg) → compact_text (leg_data leg) ≡ leg_object leg
leg_told leg =
    let turns : Data = string (map letter leg.turns) in
    leg_pieces (count leg.steps) (count leg.thread) turns
    ∙ leg_grouped (codes "{\"steps\":") (decimal leg.steps) (codes ",\"thread\":") (decimal leg.thread)
    (codes ",\"turns\":") (compact_text turns) (codes "}")
    ∙ ap (λ (t : List ℕ). leg_numbers leg ++ (codes ",\"turns\":" ++ compact_text (string t)) ++ codes "}")
    (letters_alone leg.turns)

file_pieces : (c e f l m o p : Data) →
    compact_text (object (put (codes "version") (count 2) (put (codes "path") p (put (codes "objects") o
    (put (codes "legs") (array (items_of (l ∷ m ∷ []))) (put (codes "entries") (array (items_of (e ∷ f ∷ [])))
    (put (codes "class") c no_members))))))) ≡
    codes "{\"class\":" ++ compact_text c ++ codes ",\"entries\":[" ++ compact_text e ++ codes ","
    ++ compact_text f ++ codes "]" ++ codes ",\"legs\":[" ++ compact_text l ++ codes "," ++ compact_text m
    ++ codes "]" ++ codes ",\"objects\":" ++ compact_text o ++ codes ",\"path\":" ++ compact_text p
    ++ codes ",\"version\":2}"
unfolding serde_json_on_literals
file_pieces c e f l m o p = simp (two_told, append_assoc)

file_grouped : (class c entries e comma f bracket legs l m objects o path p version : List ℕ) →
    class ++ c ++ entries ++ e ++ comma ++ f ++ bracket ++ legs ++ l ++ comma ++ m ++ bracket ++ objects ++ o
    ++ path ++ p ++ version ≡
    (class ++ c) ++ ((entries ++ e) ++ (comma ++ f) ++ bracket) ++ ((legs ++ l) ++ (comma ++ m) ++ bracket)
    ++ (objects ++ o) ++ (path ++ p) ++ version
file_grouped class c entries e comma f bracket legs l m objects o path p version = simp append_assoc

-- the witness file of a run
pub file_told : (core : Core) (sides : Sides) (objects : List StartPath) (first second : Leg) →
    compact_text (data_of (file_of_run core sides objects first second)) ≡
    witness_object core sides objects first second
file_told core sides objects first second =
    let class : Data = string (name_at (class_names core) sides.first.method.class.0) in
    let entry : Data = string (entry_text sides.first.method) in
    let partner : Data = string (entry_text sides.partner.method) in
    let starts : Data = texts_data (map (start_text core) objects) in
    let path : Data = string (path_text core sides.first.access.path) in
    let whole : List ℕ → List ℕ → List ℕ = λ (l : List ℕ) (m : List ℕ).
    codes "{\"class\":" ++ compact_text class ++ codes ",\"entries\":[" ++ compact_text entry ++ codes ","
    ++ compact_text partner ++ codes "]" ++ codes ",\"legs\":[" ++ l ++ codes "," ++ m ++ codes "]"
    ++ codes ",\"objects\":" ++ compact_text starts ++ codes ",\"path\":" ++ compact_text path
    ++ codes ",\"version\":2}" in
    file_pieces class entry partner (leg_data first) (leg_data second) starts path
    ∙ (λ i. whole (leg_told first i) (leg_told second i))
    ∙ file_grouped (codes "{\"class\":") (compact_text class) (codes ",\"entries\":[") (compact_text entry)
    (codes ",") (compact_text partner) (codes "]") (codes ",\"legs\":[") (leg_object first) (leg_object second)
    (codes ",\"objects\":") (compact_text starts) (codes ",\"path\":") (compact_text path)
    (codes ",\"version\":2}")

mark_pieces : (file word : Data) →
    compact_text (object (put (codes "witness") file (put (codes "word") word no_members))) ≡
    codes "{" ++ codes "\"witness\":" ++ compact_text file ++ codes "," ++ codes "\"word\":" ++ compact_text word
    ++ codes "}"
unfolding serde_json_on_literals
mark_pieces file word = simp append_assoc

pub word_after : (a b c d e f g : List ℕ) → a ++ b ++ c ++ d ++ e ++ f ++ g ≡ a ++ (b ++ c ++ d) ++ (e ++ f) ++ g
word_after a b c d e f g = simp append_assoc

-- the object of a confirmed mark
pub witness_told : (core : Core) (sides : Sides) (objects : List StartPath) (first second : Leg) (word : Data) →
    compact_text (object (put (codes "witness") (data_of (file_of_run core sides objects first second))
    (put (codes "word") word no_members))) ≡
    codes "{" ++ witness_member core sides objects first second ++ (codes "\"word\":" ++ compact_text word)
    ++ codes "}"
witness_told core sides objects first second word =
    let file : Data = data_of (file_of_run core sides objects first second) in
    mark_pieces file word
    ∙ word_after (codes "{") (codes "\"witness\":") (compact_text file) (codes ",") (codes "\"word\":")
    (compact_text word) (codes "}")
