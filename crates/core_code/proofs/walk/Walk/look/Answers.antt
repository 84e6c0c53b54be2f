use Rattle.std.proofs.Common.{◌≡◌, List, ℕ, sym, ap, ◌∙◌, subst, ◌-◌}
use Rattle.racer_base.specs.declared.ids.MethodId.{MethodId}
use Rattle.core_code.specs.Falling.{number_of}
use Rattle.core_code.specs.Walks.{IsEntered}
use Rattle.core_code.proofs.WalkParts.{done_kept, entered_kept, entered_less, can_merge, met_kept, on_ok}
use Rattle.core_code.proofs.walk.Walk.look.Goals as goal

pub returns-then-is_done-clause-kept : goal.returns-then-is_done-clause-kept
returns-then-is_done-clause-kept c =
    done_kept c.args.rows.now c.args.self.now c.pop_method.new.self c.args.m c.requires.kept c.requires.next
    (c.is_done.ensures.yes c.if-is_done.true) c.pop_method.ensures

pub returns-then-place-eq0-clause-kept : goal.returns-then-place-eq0-clause-kept
returns-then-place-eq0-clause-kept c =
    let rows = c.args.rows.now in
    let m = c.args.m in
    let open_yet = c.is_done.ensures.no c.if-is_done.false in
    let no_place : number_of c.args.self.now.places.items m ≡ 0 =
    ap (λ (ns : List ℕ). number_of ns m) (sym c.as_slice.ensures.value) ∙ sym c.entry-place.ensures
    ∙ c.if-place-eq0.true in
    on_ok c.enter.result
    (λ (e : IsEntered m c.row.result.now c.args.self.now c.enter.new.self).
    entered_kept rows c.args.self.now c.enter.new.self m c.requires.kept c.requires.next open_yet.0 open_yet.1 no_place
    (subst (λ (calls : List MethodId). IsEntered m calls c.args.self.now c.enter.new.self) c.row.ensures e))
    c.enter.ensures

pub returns-then-place-eq0-clause-less : goal.returns-then-place-eq0-clause-less
returns-then-place-eq0-clause-less c =
    let rows = c.args.rows.now in
    let m = c.args.m in
    let open_yet = c.is_done.ensures.no c.if-is_done.false in
    let no_place : number_of c.args.self.now.places.items m ≡ 0 =
    ap (λ (ns : List ℕ). number_of ns m) (sym c.as_slice.ensures.value) ∙ sym c.entry-place.ensures
    ∙ c.if-place-eq0.true in
    on_ok c.enter.result
    (λ (e : IsEntered m c.row.result.now c.args.self.now c.enter.new.self).
    entered_less rows c.args.self.now c.enter.new.self m c.requires.kept c.requires.next open_yet.0 no_place
    (subst (λ (calls : List MethodId). IsEntered m calls c.args.self.now c.enter.new.self) c.row.ensures e))
    c.enter.ensures

pub returns-clause-kept : goal.returns-clause-kept
returns-clause-kept c =
    let rows = c.args.rows.now in
    let m = c.args.m in
    let self = c.args.self.now in
    let open_yet = c.is_done.ensures.no c.if-is_done.false in
    let place : number_of self.places.items m ≡ c.entry-place.result =
    ap (λ (ns : List ℕ). number_of ns m) (sym c.as_slice.ensures.value) ∙ sym c.entry-place.ensures in
    let can =
    c.merge.ensures.merged.merged rows c.requires.next.0 m
    (can_merge rows self c.pop_method-2.new.self m c.requires.kept c.requires.next c.entry-place.result place
    c.if-place-eq0.false open_yet.1) in
    met_kept rows (c.entry-place.result - 1) c.requires.next.0 m c.merge.new.self c.pop_method-2.new.self can
    (c.merge.ensures.before rows can.kept) c.pop_method-2.ensures
