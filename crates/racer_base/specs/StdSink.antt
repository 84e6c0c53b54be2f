-- A contract of a public call rests on this: `StdSink`. What is seen of standard output as a sink.
use Rattle.std.specs.Prelude.{ℕ}
use Rattle.racer_base.specs.declared.std_sink.StdSink.{StdSink}

-- how many faults there were
abbrev pub faults_of : {P : Type 0} → StdSink P → ℕ
faults_of sink = sink.faults
