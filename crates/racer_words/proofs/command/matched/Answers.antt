use Rattle.std.proofs.Common.{map, string_bytes}
use Rattle.racer_words.proofs.Answered.{rows_by, no_faults, some_fault}
use Rattle.racer_words.proofs.command.matched.Goals as goal

pub returns-in-Ok-try_get_matches_from-clause-rows : goal.returns-in-Ok-try_get_matches_from-clause-rows
returns-in-Ok-try_get_matches_from-clause-rows c =
    rows_by _ (map string_bytes c.args.words.now) c.in-Ok-try_get_matches_from.matches c.in-Ok.ensures
    c.in-Ok-try_get_matches_from.ensures.matches

pub returns-in-Ok-try_get_matches_from-clause-taken : goal.returns-in-Ok-try_get_matches_from-clause-taken
returns-in-Ok-try_get_matches_from-clause-taken c =
    no_faults _ (map string_bytes c.args.words.now) c.in-Ok.ensures c.in-Ok-try_get_matches_from.ensures.kinds

pub returns : goal.returns
returns c =
    record {
      rows = tt;
      taken = tt;
      none =
          some_fault _ (map string_bytes c.args.words.now) c.kind.result c.in-Err.error.kind c.in-Ok.ensures
          c.in-Err.ensures.kinds c.kind.ensures c.in_default-kind.not-OutOfMemory;
    }
