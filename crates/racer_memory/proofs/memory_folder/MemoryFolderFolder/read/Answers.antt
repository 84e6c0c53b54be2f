use Rattle.std.proofs.Common.{sym, ap, ◌∙◌, Some, arith}
use Rattle.std.specs.FinMap.{get}
use Rattle.racer_memory.specs.FileList.{files_of}
use Rattle.racer_memory.proofs.ReadLemmas.{is_within, is_read, if_any}
use Rattle.racer_memory.proofs.memory_folder.MemoryFolderFolder.read.Goals as goal

pub returns-in_ok-to_vec-in-Some-clause-bytes : goal.returns-in_ok-to_vec-in-Some-clause-bytes
returns-in_ok-to_vec-in-Some-clause-bytes c =
    is_read _ c.deref.result.now _ c.args.most c.len.result c.min.result
    (ap Some c.deref.ensures.value ∙ c.in-Some.ensures
    ∙ ap (λ files. get (files_of files) c.args.name.now) c.as_slice.ensures.value)
    (c.len.ensures ∙ sym c.deref.ensures.len) c.min.ensures
    (c.in_ok-to_vec-in-Some.ensures.items_if_clones_equal (λ x y e. e))

pub returns-in_ok-to_vec-in-Some-clause-most : goal.returns-in_ok-to_vec-in-Some-clause-most
returns-in_ok-to_vec-in-Some-clause-most c =
    let cut = is_within c.deref.result.now c.args.most c.len.result c.min.result
    (c.len.ensures ∙ sym c.deref.ensures.len) c.min.ensures in
    let len = c.in_ok-to_vec-in-Some.ensures.len in let least = c.min.ensures in
    omega (arith, cut, len, least)

pub slice_bounds-to_vec-end : goal.slice_bounds-to_vec-end
slice_bounds-to_vec-end c =
    is_within c.deref.result.now c.args.most c.len.result c.min.result (c.len.ensures ∙ sym c.deref.ensures.len)
    c.min.ensures

pub returns-in_ok-to_vec-in-Some-clause-steady : goal.returns-in_ok-to_vec-in-Some-clause-steady
returns-in_ok-to_vec-in-Some-clause-steady c = λ steady. if_any _ _ (λ x. tt)
