-- The first item of statements, and the statements behind it.
use Rattle.std.proofs.Common.{◌≡◌, List, ◌∷◌, Some, map, sym, ap, ◌∙◌, subst, arith}
use Rattle.java_tree.specs.declared.statements.Statement.{Statement}
use Rattle.java_tree.specs.declared.statements.TryTree.{size-TryTree}
use Rattle.core_lowering_rules.specs.Trees.{Stmt, put_before, pack_stmts}
use Rattle.core_lowering_rules.specs.TreesOf.{stmt_of, try_of}
use Rattle.core_lowering_locks_pairs.specs.declared.pairs.Locked as pair
use Rattle.core_lowering_locks_pairs.specs.Seen.{lock_seen, lock_behind, locked_seen, IsLocked, IsCut}
use Rattle.core_lowering_locks_pairs.proofs.JoinedStatements.{locked}

cut-two : (first next : Statement) (rest : List Statement) (two : pair.Locked) → IsLocked first next two →
    IsCut (first ∷ next ∷ rest) (locked_seen two) (size-TryTree two.tried.now) rest
cut-two first next rest two h =
    let left = pack_stmts (map stmt_of rest) in
    let t = two.tried.now in
    let lock : lock_behind (stmt_of first) (try_of t) ≡ Some (lock_seen two.lock) =
    sym (ap (lock_behind (stmt_of first)) h.same) ∙ h.is in
    record {
      is =
          ap (λ (s : Stmt). put_before (stmt_of first) (put_before s left)) h.same
          ∙ locked (stmt_of first) t left (lock_seen two.lock) lock;
      shorter = omega arith;
      one_fits = omega (arith, h.fits);
      rest_fits = omega arith;
    }

pub cut-locked : (first next : Statement) (rest behind : List Statement) (two : pair.Locked) →
    behind ≡ next ∷ rest → IsLocked first next two →
    IsCut (first ∷ behind) (locked_seen two) (size-TryTree two.tried.now) rest
cut-locked first next rest behind two is h =
    subst (λ (ss : List Statement). IsCut (first ∷ ss) (locked_seen two) (size-TryTree two.tried.now) rest) (sym is)
    (cut-two first next rest two h)
