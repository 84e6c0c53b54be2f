use Rattle.std.proofs.Common.{[]}
use Rattle.witness_build_apart_laws.proofs.Prefixes.{ends-on, goes-on, looks-go-on, reads-go-on, stores-go-on}
use Rattle.witness_build_apart_laws.proofs.laws.legs_go_on.Goals as goal

pub returns-clause-ends : goal.returns-clause-ends
returns-clause-ends c = λ core t m n first rest s to. ends-on core t m n first rest s to []

pub returns-clause-reads : goal.returns-clause-reads
returns-clause-reads c = λ core t m n first rest s to. reads-go-on core t m n first rest s to []

pub returns-clause-goes : goal.returns-clause-goes
returns-clause-goes c = λ core t m n first rest s to. goes-on core t m n first rest s to []

pub returns-clause-looks : goal.returns-clause-looks
returns-clause-looks c = λ core t m n first rest s to. looks-go-on core t m n first rest s to []

pub returns-clause-stores : goal.returns-clause-stores
returns-clause-stores c = λ core t m n first rest s to. stores-go-on core t m n first rest s to []
