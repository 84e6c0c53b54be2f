use Rattle.core_code.specs.declared.parts.FieldCore.{FieldCore}
use Rattle.core_code.proofs.Named.{is_within, is_seen}
use Rattle.core_code.proofs.program.ProgramNames.field_name.Goals as goal

pub bounds-as_slice-f : goal.bounds-as_slice-f
bounds-as_slice-f c =
    is_within (λ (f : FieldCore). f.name) c.args.self.now.parts.fields c.as_slice.result.now c.args.f.0
    c.as_slice.ensures c.requires

pub returns : goal.returns
returns c =
    is_seen (λ (f : FieldCore). f.name) c.args.self.now.parts.fields c.as_slice.result.now c.args.f.0
    c.as_slice.ensures c.index-as_slice-f.result c.as_str.result.now c.requires c.as_str.ensures
