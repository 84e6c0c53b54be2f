-- No public contract rests on this: what is seen of what is sought, in the words of the lowering.
use Rattle.core_lowering_rules.specs.Sought.{Sought, Unlocking, Storing}
use Rattle.core_lowering_locks.specs.declared.sought_values.Sought as code
use Rattle.core_lowering_locks.specs.declared.sought_values.Sought.TheVariants as sought

abbrev pub sought_seen : code.Sought → Sought
sought_seen sought.Unlocking = Unlocking
sought_seen (sought.Storing x) = Storing x.now.text
