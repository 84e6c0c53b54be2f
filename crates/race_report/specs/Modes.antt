-- A contract of a public call rests on this: the report in each mode.
use Rattle.std.specs.Prelude.{ℕ, Bool, List, ◌++◌, codes}
use Rattle.std.specs.Fmt.{decimal}
use Rattle.serde_json.specs.Written.{compact_text}
use Rattle.core_code.specs.Core.{Core}
use Rattle.race_report_modes.specs.declared.Format.{Format}
use Rattle.race_report_modes.specs.declared.Format.TheVariants.{Text, Json}
use Rattle.race_report_modes.specs.declared.Mode.{Mode}
use Rattle.race_pairs.specs.Warnings.{warnings}
use Rattle.race_report_parts.specs.Report.{line, counts_line, last_line, report_text}
use Rattle.race_report_parts.specs.Json.{report_value}

-- with summaries or without
abbrev pub formed : Format → Bool → Core → List ℕ
formed Text summaries core = report_text summaries core
formed Json summaries core = line (compact_text (report_value summaries core))

abbrev pub report : Mode → Core → List ℕ
report mode core = formed mode.format mode.summaries core

-- the report on a folder made of so many classes: their number, the counts, and how many warnings there are
abbrev pub made_report : ℕ → Core → List ℕ
made_report number core =
    line (codes "made " ++ decimal number) ++ counts_line core ++ last_line core (warnings core)
