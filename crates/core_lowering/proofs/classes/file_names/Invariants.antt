use Rattle.std.proofs.Common.{◌≡◌, ◌++◌, map, drop, string_bytes}
use Rattle.core_lowering.proofs.classes.file_names.Given as goal

abbrev pub invariant-loop-file : goal.invariant-loop-file
invariant-loop-file l =
    l.names ++ map (λ file. string_bytes file) (drop l.file-index l.files) ≡ map (λ file. string_bytes file) l.files
