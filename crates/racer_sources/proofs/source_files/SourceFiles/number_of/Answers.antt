use Rattle.std.proofs.Common.{sym, ◌∙◌, map, string_bytes, arith}
use Rattle.std.proofs.lemmas.List.{at_drop_all}
use Rattle.std.specs.List.{list_any}
use Rattle.racer_base.specs.Outside.{same_name}
use Rattle.racer_sources.proofs.Replaced.{number_here, number_step}
use Rattle.racer_sources.proofs.source_files.SourceFiles.number_of.Goals as goal

pub returns-then-eq : goal.returns-then-eq
returns-then-eq c =
    let names = c.args.self.now.names in
    number_here names.items c.loop-number.number c.args.name.now c.as_str.result.now c.index.result.now
    (let h = c.loop-number-test.true in omega (arith, names.ok.0, c.len-number-end.ensures)) c.index.ensures
    c.as_str.ensures.value c.if-eq.ensures

pub loop-number-preserved : goal.loop-number-preserved
loop-number-preserved c =
    let names = c.args.self.now.names in
    number_step names.items c.loop-number.number c.args.name.now c.as_str.result.now c.index.result.now _
    (let h = c.loop-number-test.true in omega (arith, names.ok.0, c.len-number-end.ensures)) c.index.ensures
    c.as_str.ensures.value c.if-eq.ensures c.loop-number.invariant

pub returns : goal.returns
returns c =
    let names = c.args.self.now.names in
    let name = c.args.name.now in
    sym c.loop-number.invariant
    ∙ at_drop_all (λ ns. list_any (same_name name) (map string_bytes ns)) names.items c.loop-number.number
    (let h = c.loop-number-test.false in omega (arith, names.ok.0, c.len-number-end.ensures))
