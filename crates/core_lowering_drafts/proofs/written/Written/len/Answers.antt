use Rattle.std.proofs.Common.{rules}
use Rattle.std.proofs.lemmas.List.{length-map}
use Rattle.core_lowering_drafts.specs.Written.{code_of}
use Rattle.core_lowering_drafts.proofs.written.Written.len.Goals as goal

pub returns : goal.returns
unfolding code_of
returns c = search (rules, length-map)
