use Rattle.access_domain.proofs.NumberedReading.{any-read}
use Rattle.access_domain.proofs.laws.numbers_keep_keys.Goals as goal

pub returns : goal.returns
returns c = λ table records a once low last. any-read table once records a low last
