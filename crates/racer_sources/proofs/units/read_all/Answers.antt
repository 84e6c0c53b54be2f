use Rattle.std.proofs.Common.{◌≡◌, ◌∙◌, ap, map, subst, arith, List, ℕ, Option, string_bytes, get_or}
use Rattle.std.specs.Option.{IfSome}
use Rattle.racer_base.specs.Outside.{Told}
use Rattle.racer_sources.specs.declared.fault.SourceFault.TheVariants.{Failed}
use Rattle.racer_sources.specs.Sources.{bytes_of}
use Rattle.racer_sources.specs.Reading.{IsAdded, IsNextRefused, IfRefused, AreThere}
use Rattle.racer_sources.proofs.Added.{steady_there, counted_more, somehow_more, leads_more, read_all_told}
use Rattle.racer_sources.proofs.Added.{refused_there}
use Rattle.racer_sources.specs.ReadContents.{AddsContent}
use Rattle.racer_sources.proofs.ReadContents.{many_more, most_more, keeps_more, keeps_all}
use Rattle.racer_sources.proofs.Faults.{anyhow, keeps_on}
use Rattle.racer_sources.proofs.units.read_all.Goals as goal

pub returns-in-Err-clause-steady : goal.returns-in-Err-clause-steady
returns-in-Err-clause-steady g c = λ steady.
    let name = c.name-item.result in
    steady_there (g.F.Folder.told c.args.folder.now) (g.F.Folder.told c.loop-name.folder) c.args.names.now
    c.loop-name.name-index name c.as_str.result.now (c.in-Err.fault ≡ Failed → ⊥) c.loop-name-test.true
    (c.as_str.ensures.value ∙ ap string_bytes c.name-item.is) c.loop-name.invariant.keeps.told
    (c.in-Err.ensures.steady (c.loop-name.invariant.keeps.stays steady))

pub loop-name-preserved : goal.loop-name-preserved
loop-name-preserved g c =
    let name = c.name-item.result in
    let before = c.loop-name.invariant in
    let after = c.in_default.ensures in
    let old = c.loop-name.read in
    let new = c.add_source.new.read in
    let text = c.as_str.ensures.value ∙ ap string_bytes c.name-item.is in
    record {
      few = after.few;
      count = after.count ∙ before.count;
      keeps = keeps_on before.keeps after.keeps;
      counted = counted_more old new c.loop-name.name-index before.counted after.any;
      any = somehow_more old new before.any after.any;
      leads = leads_more (g.F.Folder.told c.args.folder.now) c.args.names.now c.loop-name.name-index name old new
          c.loop-name-test.true before.leads
          (subst (λ (o : Option Told). IfSome o
          (λ (t : Told). IsAdded (bytes_of t.files
          (string_bytes (get_or c.args.names.now c.loop-name.name-index name))) old new)) before.keeps.told
          (subst (λ (bytes : List ℕ). IfSome (g.F.Folder.told c.loop-name.folder)
          (λ (t : Told). IsAdded (bytes_of t.files bytes) old new)) text after.read));
      as_many = many_more c.args.contents.now c.loop-name.contents c.add_source.new.contents c.loop-name.name-index
          before.as_many after.kept_any;
      most = λ most. most_more c.loop-name.contents c.add_source.new.contents (before.most most) after.kept_any;
      kept = keeps_more (g.F.Folder.told c.args.folder.now) c.args.names.now c.loop-name.name-index name
          c.args.contents.now c.loop-name.contents c.add_source.new.contents c.loop-name-test.true before.kept
          (subst (λ (o : Option Told). IfSome o (λ (t : Told). AddsContent (bytes_of t.files
          (string_bytes (get_or c.args.names.now c.loop-name.name-index name))) c.loop-name.contents
          c.add_source.new.contents)) before.keeps.told
          (subst (λ (bytes : List ℕ). IfSome (g.F.Folder.told c.loop-name.folder)
          (λ (t : Told). AddsContent (bytes_of t.files bytes) c.loop-name.contents c.add_source.new.contents)) text
          after.kept));
    }

pub returns-clause-kept_any : goal.returns-clause-kept_any
returns-clause-kept_any g c =
    record {
      as_many = let h = c.loop-name-test.false in
          omega (arith, c.loop-name.invariant.as_many, c.loop-name.auto.name-index-end);
      few = c.requires;
      most = c.loop-name.invariant.most;
    }

pub returns-clause-kept : goal.returns-clause-kept
returns-clause-kept g c =
    keeps_all (g.F.Folder.told c.args.folder.now) c.args.names.now c.loop-name.name-index c.args.contents.now
    c.loop-name.contents (let h = c.loop-name-test.false in omega arith) c.loop-name.invariant.kept

pub returns-clause-read : goal.returns-clause-read
returns-clause-read g c =
    read_all_told (g.F.Folder.told c.args.folder.now) c.args.names.now c.loop-name.name-index c.loop-name.read
    (let h = c.loop-name-test.false in omega arith) c.loop-name.invariant.leads

pub returns-clause-steady : goal.returns-clause-steady
returns-clause-steady g c = λ _.
    anyhow (Unit {0}) (λ t. AreThere t.files (map string_bytes c.args.names.now)) (g.F.Folder.told c.args.folder.now) tt

pub returns-in-Err-clause-keeps : goal.returns-in-Err-clause-keeps
returns-in-Err-clause-keeps g c = keeps_on c.loop-name.invariant.keeps c.in-Err.ensures.keeps

pub returns-in-Err-clause-refused : goal.returns-in-Err-clause-refused
returns-in-Err-clause-refused g c =
    let names = c.args.names.now in
    let i = c.loop-name.name-index in
    let name = c.name-item.result in
    let read = c.loop-name.read in
    let fault = c.in-Err.fault in
    let text = c.as_str.ensures.value ∙ ap string_bytes c.name-item.is in
    refused_there (g.F.Folder.told c.args.folder.now) names i name read fault c.loop-name-test.true
    c.loop-name.invariant.leads
    (subst (λ (o : Option Told). IfSome o (λ (t : Told). IfRefused fault
    (IsNextRefused (bytes_of t.files (string_bytes (get_or names i name))) read))) c.loop-name.invariant.keeps.told
    (subst (λ (bytes : List ℕ). IfSome (g.F.Folder.told c.loop-name.folder)
    (λ (t : Told). IfRefused fault (IsNextRefused (bytes_of t.files bytes) read))) text c.in-Err.ensures.refused))
