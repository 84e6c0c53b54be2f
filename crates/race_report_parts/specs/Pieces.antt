-- No public contract rests on this: the pieces of the text of a report's object, as they are put behind one another.
use Rattle.std.specs.Prelude.{◌≡◌, ℕ, Bool, true, false, List, [], ◌∷◌, ◌++◌, codes, length, map, string_bytes}
use Rattle.std.specs.List.{flat_map, enumerate_from}
use Rattle.std.specs.Fmt.{decimal}
use Rattle.serde_json.specs.Data.{Data, Members, string, boolean}
use Rattle.serde_json.specs.View.{items_of}
use Rattle.serde_json.specs.Written.{compact_text, items_text, members_text}
use Rattle.racer_base.specs.declared.ids.ClassId.{ClassId}
use Rattle.racer_base.specs.declared.ids.Place.{Place}
use Rattle.access_paths.specs.declared.path.Path.{Path}
use Rattle.access_paths.specs.Text.{name_at}
use Rattle.owner_domain.specs.declared.value.Value.{Value}
use Rattle.core_code.specs.Core.{Core, Method}
use Rattle.access_domain.specs.declared.access.Access.{Access}
use Rattle.race_pairs.specs.declared.warning.Warning.{Warning}
use Rattle.core_semantics.specs.declared.object.StartPath.{StartPath}
use Rattle.core_semantics.specs.Legs.{Leg}
use Rattle.core_ways.specs.Marks.{Said, Unstable, Unread, Long, Blocked, Confirmed}
use Rattle.witness_text_files.specs.Written.{data_of}
use Rattle.race_report_parts.specs.declared.written.Written.{Written}
use Rattle.race_report_parts.specs.Written.{Lasts}
use Rattle.race_report_parts.specs.Marks.{mark_word, start_text, turn_text}
use Rattle.race_report_parts.specs.Texts.{class_names, place_text, method_text, path_text, touch_text, value_text}
use Rattle.race_report_parts.specs.Told.{access_text, Side, Sides}
use Rattle.race_report_parts.specs.WitnessFiles.{entry_text, file_of_run}
use Rattle.race_report_parts.specs.Json.{values, not_analysed_values, summary_values, place_value, warning_values}

-- Items of an array were put, where no piece was left out: `later` says whether one stands before them, and `behind`
-- whether one stands before what follows.
pub record PutsItems (later behind : Bool) (items : List Data) (old new : Written) : Type 0 where
  pub lasts : Lasts old new
  pub text : new.is_cut ≡ false → (rest : List Data) →
      string_bytes new.so_far ++ items_text behind (items_of rest) ≡
      string_bytes old.so_far ++ items_text later (items_of (items ++ rest))

-- members were put before others, where no piece was left out
pub record PutsMembers (more : Members → Members) (old new : Written) : Type 0 where
  pub lasts : Lasts old new
  pub text : new.is_cut ≡ false → (others : Members) →
      string_bytes new.so_far ++ members_text true others ≡ string_bytes old.so_far ++ members_text true (more others)

-- of a whole array and what stands before it, the items that are left, where no piece was left out so far
abbrev pub LeavesItems : (before : List ℕ) (whole : List Data) (later : Bool) (left : List Data) → Written → Written →
    Type 0
LeavesItems before whole later left old new =
    new.is_cut ≡ false →
    string_bytes new.so_far ++ items_text later (items_of left) ≡
    string_bytes old.so_far ++ (before ++ compact_text (values whole))

abbrev pub strings : List (List ℕ) → List ℕ
strings all = compact_text (values (map string all))

-- the records of the method of this number
abbrev pub records_strings : Core → ℕ → List Access → List ℕ
records_strings core number records = strings (map (access_text core (record { 0 = number })) records)

abbrev pub method_string : Core → Method → List ℕ
method_string core method = compact_text (string (method_text core method))

abbrev pub class_string : Core → ClassId → List ℕ
class_string core class = compact_text (string (name_at (class_names core) class.0))

abbrev pub path_string : Core → Side → List ℕ
path_string core side = compact_text (string (path_text core side.access.path))

abbrev pub places_strings : Core → List Place → List ℕ
places_strings core places = strings (map (place_text core) places)

-- the object of a method that has no summary
abbrev pub reason_object : Core → Method → List ℕ → List ℕ
reason_object core method reason =
    (codes "{\"method\":" ++ method_string core method)
    ++ (codes ",\"place\":" ++ compact_text (place_value core method.place))
    ++ (codes ",\"reason\":" ++ compact_text (string reason)) ++ codes "}"

-- the object of the summary of a method
abbrev pub summary_object : Core → ℕ × Method → List Access → List (List ℕ) → Value → List ℕ
summary_object core e records wobbly result =
    (codes "{\"accesses\":" ++ records_strings core e.0 records)
    ++ (codes ",\"method\":" ++ method_string core e.1)
    ++ (codes ",\"result\":" ++ compact_text (string (value_text core result)))
    ++ (codes ",\"wobbly\":" ++ strings wobbly) ++ codes "}"

-- the members of one of the two records of a warning: those before the mark, and those behind it
abbrev pub side_first : Core → Side → List ℕ
side_first core side =
    (codes "{\"at\":" ++ places_strings core side.places)
    ++ (codes ",\"kind\":" ++ compact_text (string (touch_text side.access.kind)))
    ++ (codes ",\"locked\":" ++ compact_text (boolean side.access.locked))
    ++ (codes ",\"main\":" ++ compact_text (boolean side.access.main))

abbrev pub side_last : Core → Side → List ℕ
side_last core side =
    (codes ",\"method\":" ++ method_string core side.method) ++ (codes ",\"path\":" ++ path_string core side)

-- members before others
abbrev pub path_member : Core → Path → List ℕ
path_member core path = codes "\"path\":" ++ compact_text (string (path_text core path)) ++ codes ","

abbrev pub place_member : Core → Place → List ℕ
place_member core place = codes "\"place\":" ++ compact_text (place_value core place) ++ codes ","

abbrev pub number_member : List ℕ → ℕ → List ℕ
number_member name number = name ++ decimal number ++ codes ","

abbrev pub entry_string : Method → List ℕ
entry_string method = compact_text (string (entry_text method))

abbrev pub leg_numbers : Leg → List ℕ
leg_numbers leg = codes "{\"steps\":" ++ decimal leg.steps ++ codes ",\"thread\":" ++ decimal leg.thread

-- the object of a leg
abbrev pub leg_object : Leg → List ℕ
leg_object leg =
    leg_numbers leg ++ (codes ",\"turns\":" ++ compact_text (string (flat_map turn_text leg.turns))) ++ codes "}"

abbrev pub starts_strings : Core → List StartPath → List ℕ
starts_strings core objects = strings (map (start_text core) objects)

-- the entries of a run
abbrev pub entries_member : Method → Method → List ℕ
entries_member first second =
    (codes ",\"entries\":[" ++ entry_string first) ++ (codes "," ++ entry_string second) ++ codes "]"

-- the legs of a run
abbrev pub legs_member : Leg → Leg → List ℕ
legs_member first second =
    (codes ",\"legs\":[" ++ leg_object first) ++ (codes "," ++ leg_object second) ++ codes "]"

-- the witness file of a run
abbrev pub witness_object : Core → Sides → List StartPath → Leg → Leg → List ℕ
witness_object core sides objects first second =
    (codes "{\"class\":" ++ class_string core sides.first.method.class)
    ++ entries_member sides.first.method sides.partner.method ++ legs_member first second
    ++ (codes ",\"objects\":" ++ starts_strings core objects)
    ++ (codes ",\"path\":" ++ path_string core sides.first) ++ codes ",\"version\":2}"

-- the member of a mark that is this file
abbrev pub witness_member : Core → Sides → List StartPath → Leg → Leg → List ℕ
witness_member core sides objects first second =
    codes "\"witness\":" ++ compact_text (data_of (file_of_run core sides objects first second)) ++ codes ","

-- the members of the mark of a warning before its word
abbrev pub detail_text : Core → Sides → Said → List ℕ
detail_text core sides (Unstable before) = path_member core before
detail_text core sides (Unread at) = place_member core at
detail_text core sides (Long steps) = number_member (codes "\"steps\":") steps
detail_text core sides (Blocked thread at) =
    place_member core at ++ number_member (codes "\"thread\":") thread
detail_text core sides (Confirmed objects (first ∷ second ∷ [])) = witness_member core sides objects first second
detail_text core sides _ = []

-- the mark of a warning, behind other members
abbrev pub mark_member : Core → Sides → Said → List ℕ
mark_member core sides said =
    codes ",\"mark\":{" ++ detail_text core sides said
    ++ (codes "\"word\":" ++ compact_text (string (mark_word said))) ++ codes "}"

-- the partner of a warning, and the end of its object
abbrev pub partner_member : Core → Side → List ℕ
partner_member core side = codes ",\"with\":" ++ side_first core side ++ side_last core side ++ codes "}}"

-- the object of a warning
abbrev pub warning_object : Core → Said → Sides → List ℕ
warning_object core mark sides =
    side_first core sides.first ++ mark_member core sides mark ++ side_last core sides.first
    ++ partner_member core sides.partner

abbrev pub counts_text : Core → List ℕ
counts_text core =
    codes "{\"classes\":" ++ decimal (length core.classes) ++ codes ",\"files\":" ++ decimal (length core.files)
    ++ codes ",\"methods\":" ++ decimal (length core.methods)

abbrev pub not_analysed_text : Core → List ℕ
not_analysed_text core =
    compact_text (values (flat_map (not_analysed_values core) (enumerate_from 0 core.methods)))

abbrev pub summaries_text : Core → List ℕ
summaries_text core = compact_text (values (flat_map (summary_values core) (enumerate_from 0 core.methods)))

abbrev pub warnings_text : Core → List Warning → List ℕ
warnings_text core found = compact_text (values (flat_map (warning_values core) found))

-- the members before the summaries
abbrev pub first_text : Core → List ℕ
first_text core =
    counts_text core ++ codes ",\"not_analysed\":" ++ not_analysed_text core
    ++ (codes ",\"profile\":5,\"skipped\":" ++ places_strings core core.skipped)

-- the last member, and the end
abbrev pub last_text : Core → List Warning → List ℕ
last_text core found = codes ",\"warnings\":" ++ warnings_text core found ++ codes "}"
