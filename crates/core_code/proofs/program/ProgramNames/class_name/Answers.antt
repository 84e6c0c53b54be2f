use Rattle.core_code.specs.declared.parts.ClassCore.{ClassCore}
use Rattle.core_code.proofs.Named.{is_within, is_seen}
use Rattle.core_code.proofs.program.ProgramNames.class_name.Goals as goal

pub bounds-as_slice-c : goal.bounds-as_slice-c
bounds-as_slice-c c =
    is_within (λ (d : ClassCore). d.name) c.args.self.now.parts.classes c.as_slice.result.now c.args.c.0
    c.as_slice.ensures c.requires

pub returns : goal.returns
returns c =
    is_seen (λ (d : ClassCore). d.name) c.args.self.now.parts.classes c.as_slice.result.now c.args.c.0
    c.as_slice.ensures c.index-as_slice-c.result c.as_str.result.now c.requires c.as_str.ensures
