use Rattle.racer_words.proofs.Finished.{words_are_read}
use Rattle.racer_words.proofs.laws.words_are_read.Goals as goal

pub returns : goal.returns
returns c = words_are_read
