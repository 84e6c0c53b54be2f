use Rattle.std.proofs.Common.{Bool, false, None, Some, length, refl, sym, ap}
use Rattle.std.specs.Prelude.{Option}
use Rattle.std.proofs.lemmas.Option.{slice_get_past, slice_get_read}
use Rattle.java_resolver.specs.declared.infos.ClassInfo.{ClassInfo}
use Rattle.core_lowering_surveys.proofs.program_methods.is_checked.Goals as goal

abbrev is_read : Option ClassInfo → Bool
is_read None = false
is_read (Some class) = class.checked

pub returns-in-None : goal.returns-in-None
returns-in-None c =
    ap is_read (sym (slice_get_past c.args.classes.now c.args.c.0 c.in-None.ensures.lookup.3))

pub returns-in-Some : goal.returns-in-Some
returns-in-Some c =
    let classes = c.args.classes.now in
    let found = c.in-Some.ensures.lookup in
    ap is_read (sym (slice_get_read classes (length classes) c.args.c.0 c.in-Some.class.now refl found.3.0 found.1))
