use Rattle.std.proofs.Common.{◌≡◌, drop}
use Rattle.std.specs.List.{list_any}
use Rattle.java_resolver.specs.Words.{is_modifier_named}
use Rattle.java_resolver.proofs.words.is_annotated.Given as goal

abbrev pub invariant-loop-modifier : goal.invariant-loop-modifier
invariant-loop-modifier l =
    let test = is_modifier_named l.name in
    list_any test (drop l.modifier-index l.modifiers) ≡ list_any test l.modifiers
