use Rattle.witness_text_files.proofs.WholeFile.{file-read}
use Rattle.witness_text_files.proofs.laws.written_files_are_read.Goals as goal

pub returns : goal.returns
returns c = file-read
