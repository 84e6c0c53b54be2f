-- Each turn of the loop puts the file of one class behind the others.
use Rattle.std.proofs.Common.{◌∙◌, ap}
use Rattle.folder_maker.proofs.Files.{one_more}
use Rattle.folder_maker.proofs.folder.made_files.Goals as goal

pub loop-k-preserved : goal.loop-k-preserved
loop-k-preserved c =
    one_more c.args.number c.loop-k.k c.loop-k.files.items c.push.new.self.items c.in_ok-name.name c.into_bytes.result
    c.in_ok-push.ensures.items c.in_ok-name.ensures
    (ap (λ v. v.items) c.into_bytes.ensures.value ∙ c.in_ok-text.ensures) c.loop-k.invariant
