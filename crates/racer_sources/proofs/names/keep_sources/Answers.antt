use Rattle.std.proofs.Common.{string_bytes, rules}
use Rattle.std.proofs.lemmas.List.Elements.{filter_from_retain}
use Rattle.racer_sources.specs.Sources.{is_java}
use Rattle.racer_sources.proofs.names.keep_sources.Goals as goal

pub returns : goal.returns
returns c = filter_from_retain _ (λ name. is_java (string_bytes name))
    (λ p x b q h. search rules) _ _ _ c.retain.ensures.filtered
