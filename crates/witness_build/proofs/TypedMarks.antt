-- Marks of warnings of typed classes are those of which the law speaks.
use Rattle.std.proofs.Common.{◌≡◌, List, sym, subst, map}
use Rattle.std.specs.Prelude.{Result, Ok, Err, IfOk}
use Rattle.std.specs.Global.{Global}
use Rattle.std.specs.declared.vec.Vec.{Vec}
use Rattle.core_code.specs.declared.program.Program.{Program}
use Rattle.core_code.specs.Program.{core as core_of}
use Rattle.race_pairs.specs.declared.warning.Warning.{Warning}
use Rattle.core_ways.specs.declared.mark.Mark.{Mark}
use Rattle.core_ways.specs.Marks.{said_by}
use Rattle.witness_build_laws.specs.Warned.{warning_mark}
use Rattle.typed_core_laws.specs.Promise.{IsNeverBlocked}
use Rattle.typed_core_laws.proofs.TypedWarnings.{never-blocked}
use Rattle.witness_build.specs.TypedMarks.{HaveNeverBlocked}
use Rattle.witness_build.proofs.ReplayedRuns.{mark-there}

pub marked-never-blocked : {E : Type 0} (p : Program) (found : List Warning) (r : Result (Vec Mark Global) E)
    → IfOk r (λ marks. map said_by marks.items ≡ map (warning_mark (core_of p)) found)
    → IfOk r (λ marks. HaveNeverBlocked (core_of p) found marks.items)
marked-never-blocked p found (Ok marks) are = λ k w mark of is listed typed.
    subst (IsNeverBlocked (core_of p) w) (sym (mark-there (core_of p) found marks.items are k w mark of is))
    (never-blocked p w listed typed)
marked-never-blocked p found (Err error) are = are
