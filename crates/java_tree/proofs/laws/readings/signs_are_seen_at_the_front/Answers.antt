use Rattle.java_tree.proofs.SignedFronts.{signed_front}
use Rattle.java_tree.proofs.laws.readings.signs_are_seen_at_the_front.Goals as goal

pub returns : goal.returns
returns c = signed_front
