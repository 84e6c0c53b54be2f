-- A contract of a public call rests on this: the entries of two threads.
use Rattle.std.specs.Prelude.{ℕ, nat_eq, if◌then◌else◌}
use Rattle.racer_base.specs.declared.ids.MethodId.{MethodId}

-- the entry of a thread, of those of thread 0 and thread 1
abbrev pub entry_of : ℕ → MethodId → MethodId → MethodId
entry_of t m1 m2 = if nat_eq t 0 then m1 else m2
