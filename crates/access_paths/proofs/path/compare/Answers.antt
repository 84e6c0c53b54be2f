use Rattle.std.proofs.Common.{◌≡◌, nat_cmp, List, map, sym, ap, ◌∙◌}
use Rattle.std.specs.Cmp.Lexicographic.{slice_cmp}
use Rattle.std.specs.Cmp.Derive.Mapped.{lex_map}
use Rattle.racer_base.specs.declared.ids.FieldId.{FieldId}
use Rattle.access_paths.proofs.path.compare.Goals as goal

pub returns : goal.returns
returns c =
    let p : List FieldId = c.args.p.now.fields in
    let q : List FieldId = c.args.q.now.fields in
    let fields : c.cmp.result ≡ slice_cmp nat_cmp (map (λ (f : FieldId). f.0) p) (map (λ (f : FieldId). f.0) q) =
    c.cmp.ensures
    ∙ ap (λ (fs : List FieldId). slice_cmp (λ (a b : FieldId). nat_cmp a.0 b.0) fs c.as_slice-2.result.now)
    c.as_slice.ensures
    ∙ ap (λ (fs : List FieldId). slice_cmp (λ (a b : FieldId). nat_cmp a.0 b.0) p fs) c.as_slice-2.ensures
    ∙ sym (lex_map (λ (f : FieldId). f.0) nat_cmp p q) in
    cc
