-- A contract of a public call rests on this: `cut_witnesses_replay`. A witness that a user cuts out of a JSON report,
-- and replays over the same sources.
use Rattle.std.specs.Prelude.{◌≡◌, ◌≢◌, ◌≤◌, ℕ, List, Some, codes, length}
use Rattle.std.specs.List.{Contains}
use Rattle.std.specs.FinMap.{get}
use Rattle.serde_json.specs.Data.{Data}
use Rattle.serde_json.specs.Find.{get as member}
use Rattle.container_cells.specs.declared.cell.Containers.{Containers}
use Rattle.racer_base.specs.Outside.{Told, Files}
use Rattle.racer_base.specs.declared.limits.TheConstants.{MAX_FILE_BYTES}
use Rattle.core_code.specs.Core.{Core}
use Rattle.race_pairs.specs.declared.warning.Warning.{Warning}
use Rattle.race_pairs.specs.Warnings.{warnings}
use Rattle.witness_build_laws.specs.Warned.{warning_mark}
use Rattle.race_report_parts.specs.Json.{mark_value}
use Rattle.race_report_parts.specs.Told.{Sides, sides_of}
use Rattle.witness_text_files.specs.Answers.{IsJson}
use Rattle.racer_sources.specs.Sources.{source_names, contents}
use Rattle.racer_sources.specs.Programs.{Accepted, IsSource}
use Rattle.racer_run.specs.declared.status.Status.{Status}
use Rattle.racer_run.specs.declared.status.Status.TheVariants.{Memory}
use Rattle.racer_words.specs.Words.{Request, request_of}
use Rattle.racer_run.specs.Causes.{Invocation, Wrote, IsCause, IsFor}

-- a call that makes this request of a folder that tells this; nothing failed, and memory was not refused
pub record IsCall (request : Request) (told : Told) (status : Status) (asked : Invocation)
    (wrote : Wrote) : Type 0 where
  pub asks : request_of asked.words ≡ Some request
  pub tells : asked.told ≡ Some told
  pub can : IsFor request told
  pub folder_holds : asked.after ≡ asked.before
  pub sink_holds : wrote.after ≡ wrote.before
  pub has_memory : status ≢ Memory
  pub cause : IsCause status asked wrote

-- bytes that are, in JSON, the member `witness` of a mark in the JSON report on a program
pub record IsReportedWitness (program : Core) (bytes : List ℕ) : Type 0 where
  pub warning : Warning
  pub sides : Sides
  pub value : Data
  pub listed : Contains (warnings program) warning
  pub has_sides : sides_of program warning ≡ Some sides
  pub is_member : member (codes "witness") (mark_value program sides (warning_mark program warning)) ≡ Some value
  pub is_json : IsJson bytes value

-- a witness that is cut out of the report on one folder, where containers are this, and stands in another that has the
-- same sources
pub record IsCutOut (containers : Containers) (from to : Files) (name : List ℕ) : Type 0 where
  pub program : Core
  pub accepted : IsSource containers from (Accepted program)
  pub bytes : List ℕ
  pub reported : IsReportedWitness program bytes
  pub short : length bytes ≤ MAX_FILE_BYTES
  pub stands : get to name ≡ Some bytes
  pub same_names : source_names to ≡ source_names from
  pub same_contents : contents to ≡ contents from
