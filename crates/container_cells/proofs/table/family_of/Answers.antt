use Rattle.container_cells.proofs.Misses.{no-family}
use Rattle.container_cells.proofs.table.family_of.Goals as goal

pub returns-in_default : goal.returns-in_default
returns-in_default c =
    let w = c.in_default in
    no-family c.args.last_name.now w.not-Map w.not-HashMap w.not-LinkedHashMap w.not-TreeMap w.not-List w.not-ArrayList
    w.not-LinkedList w.not-Set w.not-HashSet w.not-LinkedHashSet w.not-TreeSet
