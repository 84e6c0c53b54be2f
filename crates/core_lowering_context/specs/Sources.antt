-- A contract of a public call rests on this: what a method is made of, in the words of the lowering.
use Rattle.core_lowering_rules.specs.Methods as plain
use Rattle.core_lowering_rules.specs.Methods.{Default, Spelled, Unspelled}
use Rattle.core_lowering_context.specs.declared.sources.Body.{Body}
use Rattle.core_lowering_context.specs.declared.sources.Body.TheVariants as body
use Rattle.core_lowering_context.specs.declared.sources.Source.{Source}

abbrev pub body_of : Body → plain.Body
body_of body.Default = Default
body_of (body.Spelled m) = Spelled m.now
body_of body.Unspelled = Unspelled

abbrev pub source_of : Source → plain.Source
source_of s = record { info = s.info.now; members = s.members.now; body = body_of s.body }
