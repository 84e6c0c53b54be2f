-- A contract of a public call rests on this: the text of a report, a line a function.
use Rattle.std.specs.Prelude.{ℕ, List, [], ◌∷◌, ◌++◌, Option, None, Some, Bool, true, false, codes, count_by, length}
use Rattle.std.specs.Prelude.{if◌then◌else◌}
use Rattle.std.specs.List.{flat_map, enumerate_from}
use Rattle.std.specs.Fmt.{decimal}
use Rattle.racer_base.specs.declared.ids.MethodId.{MethodId}
use Rattle.racer_base.specs.declared.ids.Place.{Place}
use Rattle.owner_domain.specs.declared.value.Value.{Value}
use Rattle.core_code.specs.Core.{Core, Method}
use Rattle.access_domain.specs.declared.access.Access.{Access}
use Rattle.access_domain.specs.Findings.{Findings}
use Rattle.race_pairs.specs.declared.warning.Warning.{Warning}
use Rattle.race_pairs.specs.Warnings.{warnings}
use Rattle.core_semantics.specs.declared.object.StartPath.{StartPath}
use Rattle.core_semantics.specs.Legs.{Leg}
use Rattle.core_ways.specs.Marks.{Said, Confirmed}
use Rattle.witness_build_laws.specs.Warned.{warning_mark}
use Rattle.race_report_parts.specs.Marks.{mark_text, start_text, leg_text}
use Rattle.race_report_parts.specs.Texts.{place_text, method_text, record_text, value_text}
use Rattle.race_report_parts.specs.Told.{reason_of, found_of, access_text, wobbly_texts, Side, Sides, sides_of}

abbrev pub line : List ℕ → List ℕ
line text = text ++ codes "\n"

-- files N classes N methods N
abbrev pub counts_line : Core → List ℕ
counts_line core =
    let files = decimal (length core.files) in
    let classes = decimal (length core.classes) in
    let methods = decimal (length core.methods) in
    line (codes "files " ++ files ++ codes " classes " ++ classes ++ codes " methods " ++ methods)

-- skipped PLACE
abbrev pub skipped_line : Core → Place → List ℕ
skipped_line core place = line (codes "skipped " ++ place_text core place)

-- METHOD PLACE
abbrev pub method_place : Core → Method → List ℕ
method_place core method = method_text core method ++ codes " " ++ place_text core method.place

-- not analysed METHOD PLACE REASON, where there is a reason
abbrev pub reason_line : Core → Method → Option (List ℕ) → List ℕ
reason_line core method None = []
reason_line core method (Some reason) =
    line (codes "not analysed " ++ method_place core method ++ codes " " ++ reason)

abbrev pub not_analysed_line : Core → ℕ × Method → List ℕ
not_analysed_line core e = reason_line core e.1 (reason_of core e)

--  RECORD at LINE:COLUMN
abbrev pub access_line : Core → MethodId → Access → List ℕ
access_line core m access = line (codes " " ++ access_text core m access)

--  wobbly PATH
abbrev pub wobbly_line : List ℕ → List ℕ
wobbly_line path = line (codes " wobbly " ++ path)

-- summary METHOD
--  RECORD at LINE:COLUMN
--  wobbly PATH
--  result VALUE
abbrev pub summary_text : Core → ℕ × Method → List Access → List (List ℕ) → Value → List ℕ
summary_text core e records wobbly result =
    line (codes "summary " ++ method_text core e.1)
    ++ flat_map (access_line core (record { 0 = e.0 })) records
    ++ flat_map wobbly_line wobbly
    ++ line (codes " result " ++ value_text core result)

-- the same of a method that has a summary
abbrev pub found_lines : Core → ℕ × Method → Option Findings → List ℕ
found_lines core e None = []
found_lines core e (Some found) = summary_text core e found.records (wobbly_texts core found) found.result

abbrev pub summary_lines : Core → ℕ × Method → List ℕ
summary_lines core e = found_lines core e (found_of core (record { 0 = e.0 }))

--  at PLACE
abbrev pub at_line : Core → Place → List ℕ
at_line core place = line (codes " at " ++ place_text core place)

-- METHOD RECORD, and below it the places from the record's site down to its access
abbrev pub side_lines : Core → Side → List ℕ
side_lines core side =
    line (method_text core side.method ++ codes " " ++ record_text core side.access)
    ++ flat_map (at_line core) side.places

-- warning METHOD RECORD
--  at PLACE
--  with METHOD RECORD
--  at PLACE
abbrev pub sides_lines : Core → Option Sides → List ℕ
sides_lines core None = []
sides_lines core (Some sides) =
    codes "warning " ++ side_lines core sides.first ++ codes " with " ++ side_lines core sides.partner

--  mark MARK
abbrev pub mark_line : Core → Said → List ℕ
mark_line core said = line (codes " mark " ++ mark_text core said)

--  object PATH
abbrev pub object_line : Core → StartPath → List ℕ
object_line core start = line (codes " object " ++ start_text core start)

--  first THREAD turns TURNS steps N
--  second THREAD turns TURNS steps N
abbrev pub legs_lines : List Leg → List ℕ
legs_lines [] = []
legs_lines (first ∷ later) =
    line (codes " first " ++ leg_text first) ++ flat_map (λ leg. line (codes " second " ++ leg_text leg)) later

-- what confirms a warning: the objects and the legs of a run
abbrev pub run_lines : Core → Said → List ℕ
run_lines core (Confirmed objects legs) = flat_map (object_line core) objects ++ legs_lines legs
run_lines core _ = []

abbrev pub mark_lines : Core → Said → List ℕ
mark_lines core said = mark_line core said ++ run_lines core said

-- the records of a warning, and its mark
abbrev pub warning_lines : Core → Warning → List ℕ
warning_lines core w = sides_lines core (sides_of core w) ++ mark_lines core (warning_mark core w)

abbrev pub is_confirmed : Said → Bool
is_confirmed (Confirmed objects legs) = true
is_confirmed _ = false

-- how many of these warnings are confirmed
abbrev pub confirmed : Core → List Warning → ℕ
confirmed core found = count_by (λ w. is_confirmed (warning_mark core w)) found

-- warnings N confirmed N
abbrev pub last_line : Core → List Warning → List ℕ
last_line core found =
    line (codes "warnings " ++ decimal (length found) ++ codes " confirmed " ++ decimal (confirmed core found))

-- the summaries, where they are asked for
abbrev pub summaries_lines : Bool → Core → List ℕ
summaries_lines asked core = if asked then flat_map (summary_lines core) (enumerate_from 0 core.methods) else []

-- racer report 1, and the counts
abbrev pub head_lines : Core → List ℕ
head_lines core = line (codes "racer report 1") ++ counts_line core

-- what stands of places and methods
abbrev pub method_lines : Bool → Core → List ℕ
method_lines summaries core =
    flat_map (skipped_line core) core.skipped
    ++ flat_map (not_analysed_line core) (enumerate_from 0 core.methods)
    ++ summaries_lines summaries core

abbrev pub report_text : Bool → Core → List ℕ
report_text summaries core =
    head_lines core ++ method_lines summaries core ++ flat_map (warning_lines core) (warnings core)
    ++ last_line core (warnings core)
