use Rattle.std.proofs.Common.{◌+◌, ℕ, List, [], ◌∷◌, length, sym, ap, ◌∙◌}
use Rattle.std.proofs.lemmas.List.{length-append}
use Rattle.core_code.specs.Core.{method_of}
use Rattle.core_code.specs.Program.{core}
use Rattle.core_semantics.specs.declared.object.StartPath.{StartPath}
use Rattle.witness_text_names.specs.declared.objects.Named.TheVariants.{All}
use Rattle.witness_text_names.specs.Objects.{object_named, objects_named}
use Rattle.witness_text_names.proofs.PathsGathered.{after, after_none, ended, gathered, stopped}
use Rattle.witness_text_names.proofs.objects.all_named.Goals as goal

pub loop-index-init : goal.loop-index-init
loop-index-init c =
    let p = core c.args.program.now in
    let f = method_of c.args.first.now in
    let g = method_of c.args.second.now in
    record {
      count = ap (λ (ps : List StartPath). length ps) c.new-paths.ensures.items;
      goes_on =
          ap (λ (ps : List StartPath). after ps (objects_named p f g c.args.texts.now)) c.new-paths.ensures.items
          ∙ after_none (objects_named p f g c.args.texts.now);
    }

pub loop-index-preserved : goal.loop-index-preserved
loop-index-preserved c =
    let p = core c.args.program.now in
    let f = method_of c.args.first.now in
    let g = method_of c.args.second.now in
    let paths = c.loop-index.paths.items in
    let path : StartPath = c.in-Some.path in
    record {
      count =
          ap (λ (ps : List StartPath). length ps) c.in_ok-push.ensures.items ∙ length-append paths (path ∷ [])
          ∙ ap (λ (n : ℕ). n + 1) c.loop-index.invariant.count;
      goes_on =
          gathered p f g paths c.push.new.self.items path c.args.texts.now c.loop-index.index
          c.index-texts-index.result c.loop-index-test.true c.index-texts-index.is
          (sym c.in-Some.is ∙ c.in_ok-path.ensures ∙ ap (object_named p f g) c.as_str-text.ensures)
          c.in_ok-push.ensures.items
          ∙ c.loop-index.invariant.goes_on;
    }

pub returns-in_default : goal.returns-in_default
returns-in_default c =
    let p = core c.args.program.now in
    let f = method_of c.args.first.now in
    let g = method_of c.args.second.now in
    stopped p f g c.loop-index.paths.items c.args.texts.now c.loop-index.index c.in_ok-number.number
    c.index-texts-index.result c.loop-index-test.true c.index-texts-index.is
    (sym c.in_default.is ∙ c.in_ok-path.ensures ∙ ap (object_named p f g) c.as_str-text.ensures)
    c.loop-index.invariant.count c.in_ok-number.ensures
    ∙ c.loop-index.invariant.goes_on

pub returns : goal.returns
returns c =
    let p = core c.args.program.now in
    let f = method_of c.args.first.now in
    let g = method_of c.args.second.now in
    ap (λ (ps : List StartPath). All ps) c.from.ensures
    ∙ ended p f g c.loop-index.paths.items c.args.texts.now c.loop-index.index c.loop-index-test.false
    ∙ c.loop-index.invariant.goes_on
