use Rattle.std.proofs.Common.{map}
use Rattle.java_tree.specs.View.{modifier_of}
use Rattle.java_parser.proofs.ClassSteps.{no_modifiers, head_read, no_name}
use Rattle.java_parser.proofs.classes.class_head.Goals as goal

pub returns-in-Err-Unformed : goal.returns-in-Err-Unformed
returns-in-Err-Unformed c =
    no_modifiers c.args.tokens.now (rw c.in-Err-Unformed.field-0-is at c.in-Err-Unformed.ensures.gives)

pub returns-in-Some : goal.returns-in-Some
returns-in-Some c =
    head_read c.args.tokens.now c.cut.result.1.now c.in-Ok.read.1.now (map modifier_of c.in-Ok.read.0.items)
    c.in-Ok.ensures.gives c.cut.ensures.rest c.in-Some.name.now c.in-Some.ensures

pub returns-in-None : goal.returns-in-None
returns-in-None c =
    no_name c.args.tokens.now c.cut.result.1.now c.in-Ok.read.1.now (map modifier_of c.in-Ok.read.0.items)
    c.in-Ok.ensures.gives c.cut.ensures.rest c.in-None.ensures
