use Rattle.std.proofs.Common.{◌≡◌, ◌≤◌, ◌||◌, not, List, length, take, drop, nat_lt, sym, ap, ◌∙◌, arith}
use Rattle.std.proofs.lemmas.Bool.{ltb-true, ltb-false}
use Rattle.std.proofs.lemmas.List.{drop_all}
use Rattle.std.proofs.Math.Bool.{or-false}
use Rattle.owner_domain.specs.declared.numbered.NumberedValue.{NumberedValue}
use Rattle.owner_domain.specs.Numbered.{joined_numbers}
use Rattle.owner_domain.specs.Slots.{same_numbers}
use Rattle.owner_domain.proofs.MetValues.{changed_slots, changed-is, cut-joined, cut-changed, cut-long, made-all}
use Rattle.owner_domain.proofs.meeting.meet_values.Goals as goal

pub loop-slot-init : goal.loop-slot-init
loop-slot-init c =
    let old = c.args.mine.now.items in
    let others = c.args.others.now in
    let longer = nat_lt (length others) c.len.result in
    let cut : c.truncate.new.self.items ≡ take (length others) old = c.truncate.ensures.items in
    let count : c.len.result ≡ length old = c.len.ensures ∙ c.args.mine.now.ok.0 in
    record {
      values = ap (λ (xs : List NumberedValue). joined_numbers xs others) cut ∙ cut-joined old others;
      changed =
          ap (λ (xs : List NumberedValue). longer || changed_slots xs others) cut
          ∙ cut-changed old others longer
          (λ e. let l = ltb-true (length others) c.len.result e in omega arith)
          (λ e. let l = ltb-false (length others) c.len.result e in omega arith);
      room =
          (let l : length (take (length others) old) ≤ length others = cut-long old (length others) in
          let same : length c.truncate.new.self.items ≡ length (take (length others) old) = ap length cut in
          omega arith);
      end = c.len-slot-end.ensures ∙ c.truncate.new.self.ok.0;
    }

pub returns-clause-changed : goal.returns-clause-changed
returns-clause-changed c =
    let at = c.loop-slot in
    let old = c.args.mine.now.items in
    let others = c.args.others.now in
    let long : length at.mine.items ≤ at.slot = omega arith in
    let whole : at.mine.items ≡ joined_numbers old others =
    sym (made-all at.mine.items others at.slot long) ∙ at.invariant.values in
    sym (or-false at.changed)
    ∙ sym (ap (λ (xs : List NumberedValue). at.changed || changed_slots xs (drop at.slot others))
    (drop_all at.slot at.mine.items long))
    ∙ at.invariant.changed
    ∙ changed-is old others
    ∙ sym (ap (λ (xs : List NumberedValue). not (same_numbers xs old)) whole)
