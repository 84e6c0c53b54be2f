use Rattle.core_code.specs.declared.parts.ClassCore.{ClassCore}
use Rattle.core_code.specs.Program.{classes}
use Rattle.race_report_parts.proofs.LookUps.{name_found, no_name}
use Rattle.race_report_parts.proofs.texts.class_name.Goals as goal

pub returns-in-Some : goal.returns-in-Some
returns-in-Some c =
    name_found (λ (class : ClassCore). class.name) c.classes.result.now (classes c.args.program.now) c.args.class.0
    c.in-Some.class.now c.as_str.result.now c.classes.ensures c.in-Some.ensures.lookup.0 c.in-Some.ensures.lookup.1
    c.as_str.ensures

pub returns-in-None : goal.returns-in-None
returns-in-None c =
    no_name (λ (class : ClassCore). class.name) c.classes.result.now (classes c.args.program.now) c.args.class.0
    c.classes.ensures c.in-None.ensures.lookup.0
