use Rattle.std.proofs.Common.{◌≡◌, ℕ, List, length, min, take, sym, ap, ◌∙◌}
use Rattle.std.proofs.lemmas.List.{take_min}
use Rattle.racer_base.specs.declared.ids.FieldId.{FieldId}
use Rattle.access_paths.specs.declared.path.Path.{Path}
use Rattle.access_paths.proofs.path.Path.front.Goals as goal

pub returns : goal.returns
returns c =
    let all = c.as_slice-all.result.now in
    let whole : List FieldId → Path = λ fields. record { root = c.args.self.now.root; fields = fields } in
    let count : c.len.result ≡ length all =
    c.len.ensures.count ∙ sym (ap (λ (fields : List FieldId). length fields) c.as_slice-all.ensures) in
    let kept : c.from_vec.result ≡ take c.min-count.result all = c.from_vec.ensures
    ∙ c.in_ok-from_slice.ensures.items in
    ap whole
    (kept
    ∙ ap (λ (n : ℕ). take n all) (c.min-count.ensures ∙ ap (λ (n : ℕ). min c.args.fields n) count)
    ∙ take_min c.args.fields all
    ∙ ap (take c.args.fields) c.as_slice-all.ensures)
