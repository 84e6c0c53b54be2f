-- Where the sources of a folder are one thing, a session says of each edit what a fresh run says of the files then.
use Rattle.std.proofs.Common.{◌≡◌, Bool, true, false, List, [], ◌∷◌, refl, sym, ap, subst, ◌∙◌}
use Rattle.container_cells.specs.declared.cell.Containers.{Containers}
use Rattle.container_cells.specs.declared.cell.Containers.TheVariants.{Opaque}
use Rattle.core_code.specs.Core.{Core}
use Rattle.race_report_modes.specs.declared.Mode.{Mode}
use Rattle.racer_base.specs.Outside.{Files}
use Rattle.racer_sources.specs.OneReading.{OneSource}
use Rattle.racer_sources.specs.Programs.{Source, Refusal, Accepted, IsSource}
use Rattle.racer_words.specs.Words.{WantedReport}
use Rattle.racer_run.specs.declared.output.RunOutput.{RunOutput}
use Rattle.racer_run_edits.specs.Edits.{Edit}
use Rattle.racer_run.specs.Fresh.{IsPlain, TellsFresh, TellFresh}
use Rattle.racer_run.specs.RunOutputs.{SaysReport, said_from, said_with, typings_behind, with_tail}
use Rattle.racer_run.specs.Sessions.{AreSources, edited, edit_line, plain_mode, program_behind, said_behind}
use Rattle.racer_run.proofs.OneReport.{nothing_behind}
use Rattle.racer_run.proofs.Tails.{no_tail}

-- no lines of classes stand behind where none are asked for
no_typings : (asked : Bool) (source : Source) → asked ≡ false → typings_behind asked source ≡ []
no_typings asked (Refusal line) e = refl
no_typings false (Accepted program) e = refl
no_typings true (Accepted program) e = absurd (cc e)

-- a plain report says what is said of the sources, and no more
plain_report : OneSource → (files : Files) (source : Source) (wanted : WantedReport) (fresh : RunOutput)
    → IsSource Opaque files source → IsPlain wanted → SaysReport wanted files fresh
    → fresh ≡ said_from plain_mode source
plain_report one files source wanted fresh is plain says =
    says.said_so
    ∙ ap (with_tail (said_with wanted says.source))
    (nothing_behind wanted says.source says.tail plain.history says.is_behind)
    ∙ sym (no_tail (said_with wanted says.source))
    ∙ ap (with_tail (said_from wanted.mode says.source)) (no_typings wanted.typed says.source plain.typed)
    ∙ sym (no_tail (said_from wanted.mode says.source))
    ∙ ap (λ (mode : Mode). said_from mode says.source) plain.mode
    ∙ ap (said_from plain_mode)
    (one Opaque files says.source source
    (subst (λ (containers : Containers). IsSource containers files says.source) plain.containers says.is) is)

tells_fresh : OneSource → (files : Files) (last : Core) (edit : Edit) (source : Source) → IsSource Opaque files source
    → TellsFresh files last edit source
tells_fresh one files last edit source is wanted fresh plain says =
    ap (said_behind (edit_line last edit source)) (sym (plain_report one files source wanted fresh is plain says))

pub tell_fresh : OneSource → (folder now : Files) (last : Core) (edits : List Edit) (sources : List Source)
    → AreSources folder now last edits sources → TellFresh folder now last edits sources
tell_fresh one folder now last [] sources are = tt
tell_fresh one folder now last (edit ∷ edits) [] are = are
tell_fresh one folder now last (edit ∷ edits) (source ∷ sources) are =
    let next = edited folder now edit in (
      tells_fresh one next last edit source are.0.is,
      tell_fresh one folder next (program_behind last source) edits sources are.1,
    )
