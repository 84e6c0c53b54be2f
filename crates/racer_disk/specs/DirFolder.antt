-- A contract of a public call rests on this: `DirFolder`. What is seen of a folder of the file system, over a runtime
-- with its types of open files and open folders.
use Rattle.std.specs.Prelude.{ℕ}
use Rattle.racer_disk.specs.declared.dir_folder.DirFolder.{DirFolder}

-- how many faults there were
abbrev pub faults_of : {R F D : Type 0} → DirFolder R F D → ℕ
faults_of folder = folder.faults
