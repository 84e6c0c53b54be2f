use Rattle.std.proofs.Common.{length}
use Rattle.racer_disk.proofs.dir_folder.DirFolder.is_file.Given as goal

-- each folder's name is shorter than what it was cut from
abbrev pub decreases-loop-folder : goal.decreases-loop-folder
decreases-loop-folder g l = length l.rest
