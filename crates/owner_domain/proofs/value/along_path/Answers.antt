use Rattle.std.proofs.Common.{◌≡◌, ◌<◌, ◌++◌, List, length, sym, ap, ◌∙◌, arith}
use Rattle.racer_base.specs.declared.ids.FieldId.{FieldId}
use Rattle.owner_domain.specs.declared.value.Value.TheVariants.{Named}
use Rattle.owner_domain.proofs.Along.{path_of, along-short, along-many, along-none, not_none}
use Rattle.owner_domain.proofs.value.along_path.Goals as goal

pub returns-then-fields-room : goal.returns-then-fields-room
returns-then-fields-room c =
    sym (along-many c.args.path.now.root c.args.path.now.fields c.args.fields.now (omega arith) (omega arith))

pub returns : goal.returns
returns c =
    let some : 0 < length c.args.fields.now = not_none (length c.args.fields.now) c.if-is_empty.ensures in
    let own = c.args.path.now.fields in
    let fields = c.args.fields.now in
    let made : c.from_vec.result ≡ own ++ fields =
    c.from_vec.ensures
    ∙ c.in_ok-extend_from_slice-2.ensures.items
    ∙ ap (λ (fs : List FieldId). fs ++ fields)
    (c.in_ok-extend_from_slice.ensures.items
    ∙ ap (λ (fs : List FieldId). fs ++ c.as_slice.result.now) c.in_ok-longer.ensures.items
    ∙ c.as_slice.ensures) in
    ap (λ (fs : List FieldId). Named (path_of c.args.path.now.root fs)) made
    ∙ sym (along-short c.args.path.now.root own fields (omega arith))

pub returns-then-is_empty : goal.returns-then-is_empty
returns-then-is_empty c =
    ap Named c.in_ok-copied.ensures ∙ along-none (Named c.args.path.now) c.args.fields.now c.if-is_empty.ensures
