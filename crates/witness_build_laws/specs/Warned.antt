-- A contract of a public call rests on this: the mark of a warning of the list of warnings.
use Rattle.std.specs.Prelude.{None, Some}
use Rattle.core_code.specs.Core.{Core}
use Rattle.race_pairs.specs.declared.warning.Warning.{Warning}
use Rattle.core_ways.specs.Marks.{Pair, Said, Unnamed, mark_of}
use Rattle.access_domain.specs.OutcomeRecords.{record_at}

-- the two records of a warning
abbrev pub pair_of : Warning → Pair
pair_of w = record { m1 = w.entry; i = w.access; m2 = w.partner; j = w.partner_access }

-- the mark on the path of the entry's record; where there is no such record nothing is known
abbrev pub warning_mark : Core → Warning → Said
warning_mark core w =
    elim (record_at core w.entry w.access) [ None ↦ Unnamed | Some r ↦ mark_of core (pair_of w) r.path ]
