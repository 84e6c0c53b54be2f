-- Each witness in a JSON report is a witness file that replays.
use Rattle.std.proofs.Common.{◌≡◌, List, [], ◌∷◌, Some, codes, refl, sym, ap, ◌∙◌}
use Rattle.std.proofs.lemmas.Option.{same_Some}
use Rattle.serde_json.specs.Data.{Data}
use Rattle.serde_json.specs.Find.{get}
use Rattle.serde_json.proofs.OnLiterals.{serde_json_on_literals}
use Rattle.core_code.specs.Core.{Core}
use Rattle.core_semantics.specs.declared.object.StartPath.{StartPath}
use Rattle.core_semantics.specs.Legs.{Leg}
use Rattle.core_ways.specs.Marks.{Said, Unnamed, Unstable, Unread, Long, Blocked, Confirmed}
use Rattle.race_pairs.specs.declared.warning.Warning.{Warning}
use Rattle.witness_build_laws.specs.Warned.{warning_mark}
use Rattle.race_report_parts.specs.Json.{mark_value}
use Rattle.race_report_parts.specs.Texts.{path_text}
use Rattle.race_report_parts.specs.Told.{Sides}
use Rattle.race_report_parts.specs.WitnessFiles.{file_of_run}
use Rattle.witness_text_files.specs.Files.{File, file_of}
use Rattle.witness_text_files.specs.Written.{data_of}
use Rattle.witness_text_files.proofs.ReadBack.{IsWithin, written-is-read}
use Rattle.witness_text.specs.declared.verdict.Verdict.TheVariants.{Races}
use Rattle.witness_text.specs.Replaying.{IsRacing}
use Rattle.witness_text.specs.Verdicts.{verdict}
use Rattle.witness_text.proofs.WithinLimits.{witness-within}

-- what is known of the witness of a warning
abbrev pub Replays : Core → Warning → Sides → Type 0
Replays core w sides =
    (objects : List StartPath) (a b : Leg) → warning_mark core w ≡ Confirmed objects (a ∷ b ∷ []) →
    verdict core (file_of_run core sides objects a b) ≡ Races

run-races : (core : Core) (w : Warning) (sides : Sides) (objects : List StartPath) (a b : Leg) (d : Data) →
    warning_mark core w ≡ Confirmed objects (a ∷ b ∷ []) → Replays core w sides →
    Some (data_of (file_of_run core sides objects a b)) ≡ Some d → IsRacing core sides.first.access.path d
run-races core w sides objects a b d confirmed replays is =
    let file : File = file_of_run core sides objects a b in
    let value : data_of file ≡ d = same_Some (data_of file) d is in
    let within : IsWithin file =
    witness-within core w sides.first.method sides.partner.method (path_text core sides.first.access.path) objects a b
    confirmed in (
      file,
      ap file_of (sym value) ∙ written-is-read file within,
      refl,
      replays objects a b confirmed,
    )

pub member-races : (core : Core) (w : Warning) (sides : Sides) (d : Data) (said : Said) →
    warning_mark core w ≡ said → Replays core w sides → get (codes "witness") (mark_value core sides said) ≡ Some d →
    IsRacing core sides.first.access.path d
unfolding serde_json_on_literals
member-races core w sides d Unnamed is replays got = absurd cc
member-races core w sides d (Unstable before) is replays got = absurd cc
member-races core w sides d (Unread at) is replays got = absurd cc
member-races core w sides d (Long steps) is replays got = absurd cc
member-races core w sides d (Blocked thread at) is replays got = absurd cc
member-races core w sides d (Confirmed objects []) is replays got = absurd cc
member-races core w sides d (Confirmed objects (a ∷ [])) is replays got = absurd cc
member-races core w sides d (Confirmed objects (a ∷ b ∷ [])) is replays got =
    run-races core w sides objects a b d is replays got
member-races core w sides d (Confirmed objects (a ∷ b ∷ c ∷ legs)) is replays got = absurd cc
