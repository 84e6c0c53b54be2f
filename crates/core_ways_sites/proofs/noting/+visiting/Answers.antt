use Rattle.std.proofs.Common.{◌≡◌, ℕ, ◌+◌, ◌&&◌, not, List, length, map, drop, rules, sym, ap, subst, ◌∙◌}
use Rattle.std.specs.BTreeSet.{contains}
use Rattle.std.specs.Ordering.{nat_cmp}
use Rattle.std.proofs.lemmas.Bool.{and_left}
use Rattle.core_code.specs.Program.{core}
use Rattle.core_code.specs.declared.code.Code.TheFolds.{the_lemmas}
use Rattle.core_code.specs.Tree.{Tree, Op, Seq, Choice, Loop, in_sequence, tree_of}
use Rattle.core_code.proofs.PartsLeft.{parts-turn}
use Rattle.core_semantics.specs.declared.answer.Turn.{Turn}
use Rattle.core_semantics.specs.declared.answer.Turn.TheVariants.{Right}
use Rattle.core_ways.specs.Ways.{has_site, passed, trip_along, trip_of}
use Rattle.core_ways_sites.specs.Gone.{IsLonger, one_turn}
use Rattle.core_ways_sites.specs.Sites.{AreLed, AreLeft}
use Rattle.core_ways_sites.proofs.LeadsOn.{cut-back, longer-then}
use Rattle.core_ways_sites.proofs.SiteLeads.{Onward, led-again, led-first, led-left, led-rest, led-right}
use Rattle.core_ways_sites.proofs.SiteLeads.{left-both, left-step, none-wanted}
use Rattle.racer_base.proofs.Lists.{on_ok}
use Rattle.core_ways_sites.proofs.noting.+visiting.Goals as goal

pub visit-returns-in-Op-clause-found : goal.visit-returns-in-Op-clause-found
visit-returns-in-Op-clause-found t c = λ whole led right.
    let program = core c.args.program.now in
    let is : tree_of c.args.code.now ≡ Op c.in-Op.site c.in-Op.place c.in-Op.op = search (rules, the_lemmas) in
    let here = subst (λ (code : Tree).
    AreLed program whole c.args.locks code c.args.sites.now.wanted c.args.count c.args.turns.now.items) is led in
    c.visit_op.ensures.found program whole c.args.locks
    (subst (λ (turns : List Turn). AreLed program whole c.args.locks
    (Op c.in-Op.site c.in-Op.place c.in-Op.op) c.args.sites.now.wanted c.args.count turns)
    (sym c.as_slice.ensures.value) here)
    right

pub visit-returns-in-Ok-turn-clause-longer : goal.visit-returns-in-Ok-turn-clause-longer
visit-returns-in-Ok-turn-clause-longer t c =
    let old = c.args.turns.now.items in
    let all = c.visit-in-Choice.new.turns.items in
    let count : c.len-before.result ≡ length old = search rules in
    let cut : c.truncate.new.self.items ≡ old =
    cut-back old c.visit.new.turns.items c.truncate.new.self.items c.len-before.result count
    (longer-then old c.to_left.new.turns.items c.visit.new.turns.items c.in-Ok.ensures.longer
    c.in-Ok-visit.ensures.longer) c.truncate.ensures.items in
    on_ok c.visit-in-Choice.result (IsLonger c.turn.new.turns.items all) (IsLonger old all)
    (longer-then old c.turn.new.turns.items all
    (subst (λ (turns : List Turn). IsLonger turns c.turn.new.turns.items) cut
    c.in-Ok-turn.ensures.longer)) c.visit-in-Choice.ensures.longer

pub visit-returns-in-Ok-turn-clause-left : goal.visit-returns-in-Ok-turn-clause-left
visit-returns-in-Ok-turn-clause-left t c =
    let left = tree_of c.deref.result.now in
    let right = tree_of c.deref-in-Choice.result.now in
    let old = c.args.sites.now.wanted in
    let mid = c.visit.new.sites.wanted in
    let new = c.visit-in-Choice.new.sites.wanted in
    let sides : tree_of c.args.code.now ≡ Choice left right = search (rules, the_lemmas) in
    on_ok c.visit-in-Choice.result (AreLeft right mid new) (AreLeft (tree_of c.args.code.now) old new)
    (λ out. subst (λ (code : Tree). AreLeft code old new) (sym sides)
    (left-both left right old mid new c.in-Ok-visit.ensures.left out)) c.visit-in-Choice.ensures.left

pub visit-returns-in-Ok-turn-clause-found : goal.visit-returns-in-Ok-turn-clause-found
visit-returns-in-Ok-turn-clause-found t c = λ whole led noted.
    let program = core c.args.program.now in
    let locks = c.args.locks in
    let count = c.args.count in
    let left = tree_of c.deref.result.now in
    let right = tree_of c.deref-in-Choice.result.now in
    let old = c.args.turns.now.items in
    let wanted = c.args.sites.now.wanted in
    let mid = c.visit.new.sites.wanted in
    let length_of : c.len-before.result ≡ length old = search rules in
    let sides : tree_of c.args.code.now ≡ Choice left right = search (rules, the_lemmas) in
    let cut : c.truncate.new.self.items ≡ old =
    cut-back old c.visit.new.turns.items c.truncate.new.self.items c.len-before.result length_of
    (longer-then old c.to_left.new.turns.items c.visit.new.turns.items c.in-Ok.ensures.longer
    c.in-Ok-visit.ensures.longer) c.truncate.ensures.items in
    let here = subst (λ (code : Tree). AreLed program whole locks code wanted count old) sides led in
    c.visit-in-Choice.ensures.found whole
    (led-right program whole locks left right wanted mid count c.in-Ok-turn.there old c.turn.new.turns.items
    here c.in-Ok-visit.ensures.left
    (subst (λ (turns : List Turn).
    Onward count turns c.in-Ok-turn.there c.turn.new.turns.items (one_turn Right)) cut
    c.in-Ok-turn.ensures.leads))
    (c.in-Ok-visit.ensures.found whole
    (led-left program whole locks left right wanted count c.in-Ok.there old c.to_left.new.turns.items here
    c.in-Ok.ensures.leads) noted)

pub visit-returns-in-Ok-to_left-clause-found : goal.visit-returns-in-Ok-to_left-clause-found
visit-returns-in-Ok-to_left-clause-found t c = λ whole led noted.
    let program = core c.args.program.now in
    let body = tree_of c.deref-in-Loop.result.now in
    let is : tree_of c.args.code.now ≡ Loop body = search (rules, the_lemmas) in
    c.visit-in-Loop.ensures.found whole
    (led-again program whole c.args.locks body c.args.sites.now.wanted c.args.count c.in-Ok-to_left.there
    c.args.turns.now.items c.to_left-in-Loop.new.turns.items
    (subst (λ (code : Tree).
    AreLed program whole c.args.locks code c.args.sites.now.wanted c.args.count c.args.turns.now.items) is led)
    c.in-Ok-to_left.ensures.leads) noted

pub visit_through-returns-then-is_empty-clause-left : goal.visit_through-returns-then-is_empty-clause-left
visit_through-returns-then-is_empty-clause-left t c = λ s.
    let codes = c.args.codes.now in
    let at = c.loop-code in
    let new = c.visit.new.sites.wanted in
    let first = tree_of c.code-item.result in
    let rest = in_sequence (map tree_of (drop (at.code-index + 1) codes)) in
    let left = in_sequence (map tree_of (drop at.code-index codes)) in
    let is : left ≡ Seq first rest =
    parts-turn codes at.code-index c.code-item.result c.loop-code-test.true c.code-item.is in
    let none = none-wanted new s.0 (c.is_empty.ensures.0 c.if-is_empty.true) in
    none
    ∙ sym (and_left (contains nat_cmp new s.0) (not (has_site rest s)) none)
    ∙ left-step first rest s at.sites.wanted new c.in-Ok.ensures.left
    ∙ ap (λ (code : Tree). contains nat_cmp at.sites.wanted s.0 && not (has_site code s)) (sym is)
    ∙ at.invariant.left s

pub visit_through-returns-then-is_empty-clause-found : goal.visit_through-returns-then-is_empty-clause-found
visit_through-returns-then-is_empty-clause-found t c = λ whole led noted.
    let program = core c.args.program.now in
    let codes = c.args.codes.now in
    let at = c.loop-code in
    let first = tree_of c.code-item.result in
    let rest = in_sequence (map tree_of (drop (at.code-index + 1) codes)) in
    let left = in_sequence (map tree_of (drop at.code-index codes)) in
    let is : left ≡ Seq first rest =
    parts-turn codes at.code-index c.code-item.result c.loop-code-test.true c.code-item.is in
    let both = at.invariant.found whole led noted in
    c.in-Ok.ensures.found whole
    (led-first program whole c.args.locks first rest at.sites.wanted at.count at.turns.items
    (subst (λ (code : Tree). AreLed program whole c.args.locks code at.sites.wanted at.count at.turns.items) is both.0))
    both.1

pub visit_through-loop-code-preserved : goal.visit_through-loop-code-preserved
visit_through-loop-code-preserved t c =
    let program = core c.args.program.now in
    let codes = c.args.codes.now in
    let locks = c.args.locks in
    let at = c.loop-code in
    let new = c.visit.new.sites.wanted in
    let old = at.turns.items in
    let more = c.past.new.turns.items in
    let first = tree_of c.code-item.result in
    let rest = in_sequence (map tree_of (drop (at.code-index + 1) codes)) in
    let left = in_sequence (map tree_of (drop at.code-index codes)) in
    let is : left ≡ Seq first rest =
    parts-turn codes at.code-index c.code-item.result c.loop-code-test.true c.code-item.is in
    let length_of : c.len-before.result ≡ length old = search rules in
    let cut : c.truncate.new.self.items ≡ old =
    cut-back old c.visit.new.turns.items c.truncate.new.self.items c.len-before.result length_of
    c.in-Ok.ensures.longer c.truncate.ensures.items in
    record {
      table = c.in-Ok-past.ensures.table;
      longer =
          longer-then c.args.turns.now.items old more at.invariant.longer
          (subst (λ (turns : List Turn). IsLonger turns more) cut c.in-Ok-past.ensures.longer);
      left = λ s.
          left-step first rest s at.sites.wanted new c.in-Ok.ensures.left
          ∙ ap (λ (code : Tree). contains nat_cmp at.sites.wanted s.0 && not (has_site code s)) (sym is)
          ∙ at.invariant.left s;
      found = λ whole led noted.
          let both = at.invariant.found whole led noted in
          let here = subst (λ (code : Tree).
          AreLed program whole locks code at.sites.wanted at.count old) is both.0 in (
            led-rest program whole locks first rest at.sites.wanted new at.count c.in-Ok-past.now old more here
                c.in-Ok.ensures.left
                (subst (λ (turns : List Turn). Onward at.count turns c.in-Ok-past.now more
                (trip_along (trip_of program) (passed locks first))) cut c.in-Ok-past.ensures.leads),
            c.in-Ok.ensures.found whole
                (led-first program whole locks first rest at.sites.wanted at.count old here) both.1,
          );
    }
