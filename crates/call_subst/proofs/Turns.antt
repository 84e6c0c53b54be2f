-- One more record, and one more path, of a callee.
use Rattle.std.proofs.Common.{◌≡◌, ℕ, ◌+◌, ◌<◌, List, ◌∷◌, length, drop, get_or}
use Rattle.std.proofs.Common.{sym, ap, ◌∙◌}
use Rattle.std.proofs.lemmas.List.{drop_more}
use Rattle.access_paths.specs.declared.path.Path.{Path}
use Rattle.access_paths.specs.Order.{PathSet}
use Rattle.access_domain.specs.declared.access.Access.{Access}
use Rattle.access_domain.specs.Additions.{keys_added, paths_added}
use Rattle.access_domain.proofs.AdditionLemmas.{keys_added-append, paths_added-append}
use Rattle.call_subst.specs.declared.naming.Call.{Call}
use Rattle.call_subst.specs.Calls.{substituted_at, records_at, name_at, paths_at}

pub record_turn : (call : Call) (kept records : List Access) (i : ℕ) (r : Access) → i < length records →
    r ≡ get_or records i r →
    keys_added (keys_added kept (substituted_at call (i, r))) (records_at call (i + 1) (drop (i + 1) records)) ≡
    keys_added kept (records_at call i (drop i records))
record_turn call kept records i r within is =
    let rest : List Access = drop (i + 1) records in
    sym (keys_added-append kept (substituted_at call (i, r)) (records_at call (i + 1) rest))
    ∙ ap (λ (x : Access). keys_added kept (records_at call i (x ∷ rest))) is
    ∙ ap (λ (xs : List Access). keys_added kept (records_at call i xs)) (sym (drop_more records i r within))

pub path_turn : (call : Call) (kept : PathSet) (paths : List Path) (i : ℕ) (p : Path) → i < length paths →
    p ≡ get_or paths i p →
    paths_added (paths_added kept (name_at call p)) (paths_at call (drop (i + 1) paths)) ≡
    paths_added kept (paths_at call (drop i paths))
path_turn call kept paths i p within is =
    let rest : List Path = drop (i + 1) paths in
    sym (paths_added-append kept (name_at call p) (paths_at call rest))
    ∙ ap (λ (x : Path). paths_added kept (paths_at call (x ∷ rest))) is
    ∙ ap (λ (xs : List Path). paths_added kept (paths_at call xs)) (sym (drop_more paths i p within))
