use Rattle.std.proofs.Common.{Bool, List, ℕ, ◌∷◌, [], ◌++◌, cond, sym, ap, ◌∙◌, arith}
use Rattle.access_paths.proofs.Numbers.{goes_on-same}
use Rattle.call_subst.proofs.NumberedSets.{wobbly-still}
use Rattle.transfer_steps.proofs.FoundNumbers.{number-noted, number-full}
use Rattle.transfer_steps.proofs.numbered_found.NumberedFound.note_number.Goals as goal

pub returns-then-contains-clause-found : goal.returns-then-contains-clause-found
returns-then-contains-clause-found c = λ table once numbers low.
    let keys : List ℕ = c.args.self.now.wobbly.keys in
    number-noted table once c.args.self.now numbers c.args.number low keys
    (sym (ap (λ (b : Bool). cond b keys (keys ++ c.args.number ∷ []))
    (sym c.contains.ensures ∙ c.if-contains.true)))

pub returns-clause-found : goal.returns-clause-found
returns-clause-found c = λ table once numbers low.
    number-noted table once c.args.self.now numbers c.args.number low c.insert.new.self.keys
    c.in-Ok.ensures.keys

pub returns-clause-numbers : goal.returns-clause-numbers
returns-clause-numbers c = λ table once numbers low.
    record {
      records = numbers.records;
      wobbly =
          wobbly-still table table (goes_on-same table) once c.args.self.now.wobbly.keys c.insert.new.self.keys
          numbers.wobbly c.args.number low c.in-Ok.ensures.keys;
      result = numbers.result;
    }

pub returns-then-len-ge-MAX_SUMMARY_KEYS-clause-found : goal.returns-then-len-ge-MAX_SUMMARY_KEYS-clause-found
returns-then-len-ge-MAX_SUMMARY_KEYS-clause-found c = λ table once numbers low.
    number-full table once c.args.self.now numbers c.args.number low
    (sym c.contains.ensures ∙ c.if-contains.false) (omega (arith, c.len.ensures))
