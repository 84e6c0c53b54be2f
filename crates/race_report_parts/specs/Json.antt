-- A contract of a public call rests on this: the object of a report.
use Rattle.std.specs.Prelude.{ℕ, List, [], ◌∷◌, Option, None, Some, Bool, codes, length, map, if◌then◌else◌}
use Rattle.std.specs.List.{flat_map, enumerate_from}
use Rattle.serde_json.specs.Data.{Data, boolean, number, string, array, object, unsigned}
use Rattle.serde_json.specs.Data.{put, Members, no_members, member}
use Rattle.serde_json.specs.View.{items_of}
use Rattle.racer_base.specs.declared.ids.Place.{Place}
use Rattle.core_code.specs.Core.{Core, Method}
use Rattle.access_domain.specs.Findings.{Findings}
use Rattle.race_pairs.specs.declared.warning.Warning.{Warning}
use Rattle.race_pairs.specs.Warnings.{warnings}
use Rattle.core_ways.specs.Marks.{Said, Unstable, Unread, Long, Blocked, Confirmed}
use Rattle.witness_build_laws.specs.Warned.{warning_mark}
use Rattle.witness_text_files.specs.Written.{data_of}
use Rattle.race_report_parts.specs.Marks.{mark_word}
use Rattle.race_report_parts.specs.Texts.{place_text, method_text, path_text, touch_text, value_text}
use Rattle.race_report_parts.specs.Told.{reason_of, found_of, access_text, wobbly_texts, Side, Sides, sides_of}
use Rattle.race_report_parts.specs.WitnessFiles.{file_of_run}

abbrev pub values : List Data → Data
values all = array (items_of all)

abbrev pub texts : List (List ℕ) → Data
texts all = values (map string all)

abbrev pub count : ℕ → Data
count n = number (unsigned n)

abbrev pub place_value : Core → Place → Data
place_value core place = string (place_text core place)

-- why a method has no summary, where there is a reason
abbrev pub reason_values : Core → Method → Option (List ℕ) → List Data
reason_values core method None = []
reason_values core method (Some reason) =
    object
    (put (codes "method") (string (method_text core method))
    (put (codes "place") (place_value core method.place)
    (put (codes "reason") (string reason) no_members))) ∷ []

abbrev pub not_analysed_values : Core → ℕ × Method → List Data
not_analysed_values core e = reason_values core e.1 (reason_of core e)

-- the summary of a method that has one
abbrev pub found_values : Core → ℕ × Method → Option Findings → List Data
found_values core e None = []
found_values core e (Some found) =
    object
    (put (codes "accesses") (texts (map (access_text core (record { 0 = e.0 })) found.records))
    (put (codes "method") (string (method_text core e.1))
    (put (codes "result") (string (value_text core found.result))
    (put (codes "wobbly") (texts (wobbly_texts core found)) no_members)))) ∷ []

abbrev pub summary_values : Core → ℕ × Method → List Data
summary_values core e = found_values core e (found_of core (record { 0 = e.0 }))

-- the members of one of the two records of a warning, and others
abbrev pub side_members : Core → Side → Members → Members
side_members core side others =
    put (codes "at") (texts (map (place_text core) side.places))
    (put (codes "kind") (string (touch_text side.access.kind))
    (put (codes "locked") (boolean side.access.locked)
    (put (codes "main") (boolean side.access.main)
    (put (codes "method") (string (method_text core side.method))
    (put (codes "path") (string (path_text core side.access.path)) others)))))

-- the members of the mark of a warning beside its word, and others; a run that confirms a warning has two legs
abbrev pub detail_members : Core → Sides → Said → Members → Members
detail_members core sides (Unstable before) others = put (codes "path") (string (path_text core before)) others
detail_members core sides (Unread at) others = put (codes "place") (place_value core at) others
detail_members core sides (Long steps) others = put (codes "steps") (count steps) others
detail_members core sides (Blocked thread at) others =
    put (codes "place") (place_value core at) (put (codes "thread") (count thread) others)
detail_members core sides (Confirmed objects (first ∷ second ∷ [])) others =
    put (codes "witness") (data_of (file_of_run core sides objects first second)) others
detail_members core sides _ others = others

abbrev pub mark_value : Core → Sides → Said → Data
mark_value core sides said =
    object (detail_members core sides said (put (codes "word") (string (mark_word said)) no_members))

-- the object of a warning with these records and this mark
abbrev pub marked_values : Core → Said → Option Sides → List Data
marked_values core mark None = []
marked_values core mark (Some sides) =
    object
    (side_members core sides.first
    (put (codes "mark") (mark_value core sides mark)
    (put (codes "with") (object (side_members core sides.partner no_members)) no_members))) ∷ []

abbrev pub warning_values : Core → Warning → List Data
warning_values core w = marked_values core (warning_mark core w) (sides_of core w)

-- the summaries, where they are asked for, before other members
abbrev pub with_summaries : Bool → Core → Members → Members
with_summaries asked core others =
    if asked then
    member (codes "summaries") (values (flat_map (summary_values core) (enumerate_from 0 core.methods))) others
    else others

-- members in byte order of their names
abbrev pub report_value : Bool → Core → Data
report_value summaries core =
    object
    (member (codes "classes") (count (length core.classes))
    (member (codes "files") (count (length core.files))
    (member (codes "methods") (count (length core.methods))
    (member (codes "not_analysed") (values (flat_map (not_analysed_values core) (enumerate_from 0 core.methods)))
    (member (codes "profile") (count 5)
    (member (codes "skipped") (values (map (place_value core) core.skipped))
    (with_summaries summaries core
    (member (codes "warnings") (values (flat_map (warning_values core) (warnings core))) no_members))))))))
