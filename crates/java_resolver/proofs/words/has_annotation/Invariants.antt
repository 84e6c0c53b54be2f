use Rattle.std.proofs.Common.{◌≡◌, drop}
use Rattle.std.specs.List.{list_any}
use Rattle.java_resolver.specs.Words.{is_annotation_named}
use Rattle.java_resolver.proofs.words.has_annotation.Given as goal

abbrev pub invariant-loop-annotation : goal.invariant-loop-annotation
invariant-loop-annotation l =
    let test = is_annotation_named l.name in
    list_any test (drop l.annotation-index l.annotations) ≡ list_any test l.annotations
