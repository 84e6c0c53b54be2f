use Rattle.racer_sources.proofs.OneReading.{same_tokens}
use Rattle.racer_sources.proofs.laws.one_reading.Goals as goal

pub returns : goal.returns
returns c = λ files us vs first second.
    let tokens = same_tokens 0 0 files us vs first second in
    let same = c.one_program_of_tokens.ensures.same tokens.tokens us vs tokens.first tokens.second in
    record {
      refusals = c.one_program.ensures.refused us vs same;
      programs = λ containers names is_recursive.
          c.one_program.ensures.program us vs same containers names is_recursive;
    }
