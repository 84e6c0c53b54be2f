use Rattle.std.proofs.Common.{◌≡◌, ◌≤◌, ◌||◌, not, List, length, take, drop, nat_lt, sym, ap, ◌∙◌, arith}
use Rattle.std.proofs.lemmas.Bool.{ltb-true, ltb-false}
use Rattle.std.proofs.lemmas.List.{drop_all}
use Rattle.std.proofs.Math.Bool.{or-false}
use Rattle.typed_core.specs.declared.kinds.TypedKind.{TypedKind}
use Rattle.typed_core.specs.States.{joined_kinds}
use Rattle.typed_core.specs.States.{same_kinds}
use Rattle.typed_core.proofs.MetKinds.{changed_places, changed-is, cut-joined, cut-changed, cut-long, made-all}
use Rattle.typed_core.proofs.states.meet_kinds.Goals as goal

pub loop-slot-init : goal.loop-slot-init
loop-slot-init c =
    let old = c.args.mine.now.items in
    let others = c.args.others.now in
    let longer = nat_lt (length others) c.len.result in
    let cut : c.truncate.new.self.items ≡ take (length others) old = c.truncate.ensures.items in
    let count : c.len.result ≡ length old = c.len.ensures ∙ c.args.mine.now.ok.0 in
    record {
      kinds = ap (λ (xs : List TypedKind). joined_kinds xs others) cut ∙ cut-joined old others;
      changed =
          ap (λ (xs : List TypedKind). longer || changed_places xs others) cut
          ∙ cut-changed old others longer
          (λ e. let l = ltb-true (length others) c.len.result e in omega arith)
          (λ e. let l = ltb-false (length others) c.len.result e in omega arith);
      room =
          (let l : length (take (length others) old) ≤ length others = cut-long old (length others) in
          let same : length c.truncate.new.self.items ≡ length (take (length others) old) = ap length cut in
          omega arith);
      end = c.len-slot-end.ensures ∙ c.truncate.new.self.ok.0;
    }

pub returns-clause-changed : goal.returns-clause-changed
returns-clause-changed c =
    let at = c.loop-slot in
    let old = c.args.mine.now.items in
    let others = c.args.others.now in
    let long : length at.mine.items ≤ at.slot = omega arith in
    let whole : at.mine.items ≡ joined_kinds old others =
    sym (made-all at.mine.items others at.slot long) ∙ at.invariant.kinds in
    sym (or-false at.changed)
    ∙ sym (ap (λ (xs : List TypedKind). at.changed || changed_places xs (drop at.slot others))
    (drop_all at.slot at.mine.items long))
    ∙ at.invariant.changed
    ∙ changed-is old others
    ∙ sym (ap (λ (xs : List TypedKind). not (same_kinds xs old)) whole)
