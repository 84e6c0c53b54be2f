-- No public contract rests on this: the records that the search for warnings goes over, as its clauses name them.
use Rattle.std.specs.Prelude.{List, map}
use Rattle.race_pairs.specs.declared.method_access.MethodAccess.{MethodAccess}
use Rattle.race_pairs.specs.Warnings.{MethodRecord}

abbrev pub record_of : MethodAccess → MethodRecord
record_of p = record { method = p.method; index = p.index; access = p.access.now }

abbrev pub all_records : List MethodAccess → List MethodRecord
all_records = map record_of
