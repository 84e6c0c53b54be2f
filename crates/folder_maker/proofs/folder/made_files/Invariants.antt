-- The files so far are those of the first classes.
use Rattle.std.proofs.Common.{◌≡◌, map, string_bytes}
use Rattle.std.specs.List.{range_with_len}
use Rattle.folder_maker.specs.Folders.{made_file}
use Rattle.folder_maker.proofs.folder.made_files.Given as goal

abbrev pub invariant-loop-k : goal.invariant-loop-k
invariant-loop-k l =
    map (λ file. (string_bytes file.0, file.1.items)) l.files.items ≡ map (made_file l.number) (range_with_len 0 l.k)
