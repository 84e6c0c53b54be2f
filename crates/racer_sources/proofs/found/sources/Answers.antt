use Rattle.std.proofs.Common.{◌≡◌, List, length, map, string_bytes, sym, subst, Option, String, Global}
use Rattle.std.specs.Option.{IfSome}
use Rattle.racer_base.specs.Outside.{Told}
use Rattle.racer_sources.specs.declared.fault.SourceFault.TheVariants.{Failed}
use Rattle.racer_sources.specs.Sources.{source_names}
use Rattle.racer_sources.specs.Finding.{AreKnown}
use Rattle.racer_sources.specs.Reading.{AreThere}
use Rattle.racer_sources.specs.Contents.{AreInLimits}
use Rattle.racer_sources.proofs.ReadContents.{in_limits, found_there}
use Rattle.racer_sources.proofs.There.{steady_sources}
use Rattle.racer_sources.proofs.Faults.{keeps_on, steady_answer, refused_known, on_ok_anyhow}
use Rattle.racer_sources.proofs.found.sources.Goals as goal

pub returns-in-Err-clause-steady : goal.returns-in-Err-clause-steady
returns-in-Err-clause-steady g c = λ steady.
    let told = g.F.Folder.told c.args.folder.now in
    let names = c.as_slice.result.now in
    let Never : Type 0 = c.in-Err.fault ≡ Failed → ⊥ in
    let there = subst (λ (o : Option Told). IfSome o
    (λ (t : Told). AreThere t.files (map string_bytes names) → Never)) c.in_ok-names.ensures.keeps.told
    (c.in-Err.ensures.steady (c.in_ok-names.ensures.keeps.stays steady)) in
    let named = subst (λ (ns : List (String Global)). IfSome told
    (λ (t : Told). map string_bytes ns ≡ source_names t.files))
    (sym c.as_slice.ensures.value) c.in_ok-names.ensures.names in
    steady_answer _ _ c.refused.result (λ t. c.args.name.now ≡ t.name) told c.refused.ensures
    (steady_sources Never told names there named)

pub returns-in-Ok-clause-keeps : goal.returns-in-Ok-clause-keeps
returns-in-Ok-clause-keeps g c = keeps_on c.in_ok-names.ensures.keeps c.in-Ok.ensures.keeps

pub returns-in-Err-clause-keeps : goal.returns-in-Err-clause-keeps
returns-in-Err-clause-keeps g c = keeps_on c.in_ok-names.ensures.keeps c.in-Err.ensures.keeps

pub returns-in-Err-clause-entered : goal.returns-in-Err-clause-entered
returns-in-Err-clause-entered g c = on_ok_anyhow _ c.refused.result c.in_ok-names.ensures.entered

pub returns-in-Ok-clause-known : goal.returns-in-Ok-clause-known
returns-in-Ok-clause-known g c = (
  subst (λ (ns : List (String Global)). AreKnown
      (map string_bytes ns) c.in-Ok.declared.units.items c.in-Ok.declared.table)
      c.as_slice.ensures.value c.in-Ok.ensures.known,
  subst (λ (ns : List (String Global)). AreInLimits (length ns) c.declared.new.contents.items)
      c.as_slice.ensures.value
      (in_limits (length c.as_slice.result.now) c.new-contents.result c.declared.new.contents
      c.new-contents.ensures.items c.in-Ok.ensures.kept_any),
)

pub returns-in-Ok-clause-found : goal.returns-in-Ok-clause-found
returns-in-Ok-clause-found g c =
    found_there (g.F.Folder.told c.args.folder.now) _ c.as_slice.result.now (record {
      names = c.in_ok-names.names;
      contents = c.declared.new.contents;
      units = c.in-Ok.declared.units;
      table = c.in-Ok.declared.table;
    }) c.new-contents.result
    c.in_ok-names.ensures.keeps.told c.new-contents.ensures.items c.as_slice.ensures.value c.in_ok-names.ensures.names
    c.in-Ok.ensures.read c.in-Ok.ensures.kept

pub returns-in-Err-clause-known : goal.returns-in-Err-clause-known
returns-in-Err-clause-known g c = refused_known _ c.in-Err.fault c.refused.result c.refused.ensures
