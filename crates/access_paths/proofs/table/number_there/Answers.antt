use Rattle.std.proofs.Common.{sym}
use Rattle.access_paths.proofs.Numbers.{found_at, interned-there}
use Rattle.access_paths.proofs.table.number_there.Goals as goal

pub returns-in-Some : goal.returns-in-Some
returns-in-Some c =
    let paths = c.args.paths.now.keys in
    let path = c.args.path.now in
    let found = found_at paths path c.in-Some.number (sym c.in-Some.ensures.index) in
    record { number = found; table = sym (interned-there paths path c.in-Some.number found) }
