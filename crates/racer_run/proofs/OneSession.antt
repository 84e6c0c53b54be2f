-- Where the sources of a folder are one thing, what is said of a session of edits is one.
use Rattle.std.proofs.Common.{◌≡◌, ℕ, List, [], ◌∷◌, Result, Ok, Err, Some, refl, sym, ap, subst, ◌∙◌}
use Rattle.container_cells.specs.declared.cell.Containers.TheVariants.{Opaque}
use Rattle.core_code.specs.Core.{Core}
use Rattle.racer_base.specs.Outside.{Files}
use Rattle.racer_sources.specs.OneReading.{OneSource}
use Rattle.racer_sources.specs.Programs.{Source, Refusal, Accepted}
use Rattle.racer_sources.specs.Sources.{source_names}
use Rattle.racer_words.specs.Words.{WantedEdits}
use Rattle.racer_run.specs.declared.output.RunOutput.{RunOutput}
use Rattle.racer_run_edits.specs.Edits.{Edit, NoEdits, edits_in}
use Rattle.racer_run.specs.RunOutputs.{said_from}
use Rattle.racer_run.specs.Sessions.{AreSources, AreEditsSaid, IsSessionSaid, IsEditsSaid, SaysEdits, edited}
use Rattle.racer_run.specs.Sessions.{plain_mode, program_behind, session_text}

-- the sources behind each edit are one list
sources_only : OneSource → (folder now : Files) (last : Core) (edits : List Edit) (a b : List Source)
    → AreSources folder now last edits a → AreSources folder now last edits b → a ≡ b
sources_only one folder now last [] [] [] f g = refl
sources_only one folder now last [] [] (t ∷ ts) f g = absurd g
sources_only one folder now last [] (s ∷ ss) b f g = absurd f
sources_only one folder now last (edit ∷ edits) [] b f g = absurd f
sources_only one folder now last (edit ∷ edits) (s ∷ ss) [] f g = absurd g
sources_only one folder now last (edit ∷ edits) (s ∷ ss) (t ∷ ts) f g =
    let next = edited folder now edit in
    let same : s ≡ t = one Opaque next s t f.0.is g.0.is in
    let rest = subst (λ (source : Source). AreSources folder next (program_behind last source) edits ss) same f.1 in
    ap (λ (source : Source). source ∷ ss) same
    ∙ ap (λ (sources : List Source). t ∷ sources)
    (sources_only one folder next (program_behind last t) edits ss ts rest g.1)

said_only : OneSource → (folder : Files) (program : Core) (edits : List Edit) (a b : RunOutput)
    → AreEditsSaid folder program edits a → AreEditsSaid folder program edits b → a ≡ b
said_only one folder program edits a b f g =
    f.2
    ∙ ap (session_text (said_from plain_mode (Accepted program)) program edits)
    (sources_only one folder folder program edits f.0 g.0 f.1 g.1)
    ∙ sym g.2

session_only : OneSource → (folder : Files) (program : Core) (answer : Result (List Edit) NoEdits) (a b : RunOutput)
    → IsSessionSaid folder program answer a → IsSessionSaid folder program answer b → a ≡ b
session_only one folder program (Err why) a b f g = f ∙ sym g
session_only one folder program (Ok edits) a b f g = said_only one folder program edits a b f g

same_edits : OneSource → (wanted : WantedEdits) (files : Files) (source : Source) (a b : RunOutput)
    → IsEditsSaid wanted files source a → IsEditsSaid wanted files source b → a ≡ b
same_edits one wanted files (Refusal line) a b f g = f ∙ sym g
same_edits one wanted files (Accepted program) a b f g =
    let bytes : g.0 ≡ f.0 = let e : Some g.0 ≡ Some f.0 = sym g.1 ∙ f.1 in cc in
    session_only one files program (edits_in (source_names files) f.0) a b f.2
    (subst (λ (read : List ℕ). IsSessionSaid files program (edits_in (source_names files) read) b) bytes g.2)

pub edits_only : OneSource → (files : Files) (wanted : WantedEdits) (a b : RunOutput) → SaysEdits wanted files a
    → SaysEdits wanted files b → a ≡ b
edits_only one files wanted a b f g =
    same_edits one wanted files g.source a b
    (subst (λ (source : Source). IsEditsSaid wanted files source a) (one Opaque files f.source g.source f.is g.is)
    f.said_so)
    g.said_so
