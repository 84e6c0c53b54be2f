use Rattle.std.proofs.Common.{◌≡◌, drop, length}
use Rattle.core_code.specs.Core.{method_of}
use Rattle.core_code.specs.Program.{core}
use Rattle.witness_text_names.proofs.PathsGathered.{after, named_of}
use Rattle.witness_text_names.proofs.objects.all_named.Given as goal

-- what was made, and then what is left
abbrev pub invariant-loop-index : goal.invariant-loop-index
invariant-loop-index l =
    let texts = named_of (core l.program) (method_of l.first) (method_of l.second) in
    record {
      count : length l.paths.items ≡ l.index;
      goes_on : after l.paths.items (texts (drop l.index l.texts)) ≡ texts l.texts;
    }
