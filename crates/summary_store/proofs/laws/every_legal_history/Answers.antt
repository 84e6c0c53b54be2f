use Rattle.summary_store.proofs.Ends.{published_once, parked_once, takes_bounded, all_done, left_once, complete}
use Rattle.summary_store.proofs.Ends.{events_bounded}
use Rattle.summary_store.proofs.laws.every_legal_history.Goals as goal

pub returns-clause-published_once : goal.returns-clause-published_once
returns-clause-published_once c = λ u history setup legal.
    published_once u setup.rank history setup.some setup.ranked legal

pub returns-clause-parked_once : goal.returns-clause-parked_once
returns-clause-parked_once c = λ u history setup legal. parked_once u setup.rank history setup.some setup.ranked legal

pub returns-clause-takes_bounded : goal.returns-clause-takes_bounded
returns-clause-takes_bounded c = λ u history setup legal.
    takes_bounded u setup.rank history setup.some setup.ranked legal

pub returns-clause-all_done : goal.returns-clause-all_done
returns-clause-all_done c = λ u history setup legal. all_done u setup.rank history setup.some setup.ranked legal

pub returns-clause-left_once : goal.returns-clause-left_once
returns-clause-left_once c = λ u history setup legal. left_once u setup.rank history setup.some setup.ranked legal

pub returns-clause-complete : goal.returns-clause-complete
returns-clause-complete c = λ u history setup legal. complete u setup.rank history setup.some setup.ranked legal

pub returns-clause-events_bounded : goal.returns-clause-events_bounded
returns-clause-events_bounded c = λ u history setup legal.
    events_bounded u setup.rank history setup.some setup.ranked legal
