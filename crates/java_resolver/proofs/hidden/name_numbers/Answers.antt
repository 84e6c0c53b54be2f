use Rattle.std.proofs.Common.{ℕ, List, refl}
use Rattle.java_resolver.specs.NameNumbers.{name_at}
use Rattle.java_resolver.proofs.FirstOnes.{finds_next, element_added}
use Rattle.java_resolver.proofs.hidden.name_numbers.Goals as goal

pub loop-index-preserved : goal.loop-index-preserved
loop-index-preserved c =
    let name : List ℕ = c.index-names-index.result in
    let index = c.loop-index.index in
    finds_next name_at c.loop-index.numbers c.add_number.new.numbers c.args.names.now index name
    c.loop-index-test.true c.index-names-index.is c.loop-index.invariant
    (element_added name_at c.loop-index.numbers c.add_number.new.numbers name index c.as_str.result.now name (0, 0)
    c.as_str.ensures (λ other k. refl) c.in_ok-add_number.ensures)
