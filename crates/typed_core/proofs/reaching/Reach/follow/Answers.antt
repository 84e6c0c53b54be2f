use Rattle.std.proofs.Common.{List, append-nil, refl, sym, subst, ◌∙◌, arith}
use Rattle.std.proofs.lemmas.List.{nil_from_length}
use Rattle.racer_base.specs.declared.ids.MethodId.{MethodId}
use Rattle.core_code.specs.CalleeRows.{rows_in}
use Rattle.typed_core.specs.declared.reaching.Reach.{Reach}
use Rattle.typed_core.specs.Reaching.{ComesToAll}
use Rattle.typed_core.proofs.Coming.{follow-begins, follow-turn, follow-ended, none-left, popped-low}
use Rattle.typed_core.proofs.reaching.Reach.follow.Goals as goal

pub loop-followed-init : goal.loop-followed-init
loop-followed-init c = follow-begins (rows_in c.args.rows.now) c.args.self.now c.requires.come

pub row-requires : goal.row-requires
row-requires c =
    let at = c.loop-followed in
    popped-low (rows_in c.args.rows.now) at.followed c.args.self.now at.self c.pop.new.self.items c.in-Some.m
    c.in-Some.ensures.items at.invariant c.requires.rows

pub loop-followed-preserved : goal.loop-followed-preserved
loop-followed-preserved c =
    let at = c.loop-followed in
    let mid : Reach = record { flags = at.self.flags; todo = c.pop.new.self } in
    let new = c.come_to_all.new.self in
    follow-turn (rows_in c.args.rows.now) at.followed c.args.self.now at.self mid new c.in-Some.m refl
    c.in-Some.ensures.items
    (subst (λ (row : List MethodId). ComesToAll row mid new) c.row.ensures c.in_ok-come_to_all-in-Some.ensures) at.invariant

pub returns-in-None : goal.returns-in-None
returns-in-None c =
    let at = c.loop-followed in
    let new : Reach = record { flags = at.self.flags; todo = c.pop.new.self } in
    follow-ended (rows_in c.args.rows.now) at.followed c.args.count c.args.self.now at.self new refl
    (sym (c.in-None.ensures.items ∙ append-nil c.pop.new.self.items)) at.invariant
    (λ e few. nil_from_length at.self.todo.items (sym at.self.todo.ok.0 ∙ c.in-None.ensures.cases.0))

pub returns : goal.returns
returns c =
    let at = c.loop-followed in
    follow-ended (rows_in c.args.rows.now) at.followed c.args.count c.args.self.now at.self at.self refl refl
    at.invariant
    (none-left (rows_in c.args.rows.now) at.followed c.args.count c.args.self.now at.self at.invariant
    (omega (arith, c.loop-followed-test.false)))
