use Rattle.std.proofs.Common.{◌≡◌, List, ◌++◌, map, refl, sym, ap, ◌∙◌, rules, append_assoc}
use Rattle.std.proofs.lemmas.List.{map-append}
use Rattle.core_code.specs.declared.code.Code.{Code}
use Rattle.core_code.specs.declared.code.Code.TheFolds.{the_lemmas}
use Rattle.core_code.specs.Tree.{Tree, Choice, tree_of, in_sequence, steps_of}
use Rattle.race_report_parts.specs.declared.tables.Site.{Site}
use Rattle.race_report_parts.specs.Sites.{site_of, sites_of}
use Rattle.racer_base.proofs.Lists.{at_end, one_turn}
use Rattle.race_report_parts.proofs.tables.+push_sites.Goals as goal

pub loop-part-preserved : goal.loop-part-preserved
loop-part-preserved n c =
    one_turn (λ (parts : List Code). sites_of (in_sequence (map tree_of parts)))
    (λ (part : Code). sites_of (tree_of part)) c.as_slice-part-items.result.now c.loop-part.part-index
    c.part-item.result c.loop-part.sites.items c.push_sites.new.sites.items
    (λ part parts. map-append site_of (steps_of (tree_of part)) (steps_of (in_sequence (map tree_of parts))))
    c.loop-part-test.true c.part-item.is c.in_ok-push_sites-in-Seq.ensures
    ∙ c.loop-part.invariant

pub returns-in_ok-push_sites-in-Choice-2 : goal.returns-in_ok-push_sites-in-Choice-2
returns-in_ok-push_sites-in-Choice-2 n c =
    let before = c.args.sites.now.items in
    let left = tree_of c.deref.result.now in
    let right = tree_of c.deref-in-Choice.result.now in
    let sides : tree_of c.args.code.now ≡ Choice left right = search (rules, the_lemmas) in
    c.in_ok-push_sites-in-Choice-2.ensures
    ∙ ap (λ (front : List Site). front ++ sites_of right) c.in_ok-push_sites-in-Choice.ensures
    ∙ append_assoc before (sites_of left) (sites_of right)
    ∙ ap (λ (ss : List Site). before ++ ss) (sym (map-append site_of (steps_of left) (steps_of right)))
    ∙ ap (λ (code : Tree). before ++ sites_of code) (sym sides)

pub returns-after-loop-part : goal.returns-after-loop-part
returns-after-loop-part n c =
    at_end (λ (parts : List Code). sites_of (in_sequence (map tree_of parts))) c.as_slice-part-items.result.now
    c.loop-part.part-index c.loop-part.sites.items refl c.loop-part-test.false
    ∙ c.loop-part.invariant
