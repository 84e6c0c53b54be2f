-- The code of statements out of the steps in which it is made.
use Rattle.std.proofs.Common.{◌≡◌, ℕ, Bool, ◌&&◌, ◌++◌, length, take, drop, ap, ◌∙◌}
use Rattle.racer_base.specs.declared.ids.Place.{Place}
use Rattle.core_code.specs.declared.code.LockKind.{LockKind}
use Rattle.core_lowering_drafts.specs.Drafts.{has, Exit}
use Rattle.core_lowering_rules.specs.Context.{Context, Code, ends_of, held}
use Rattle.core_lowering_rules.specs.Statements.{broken, closed}
use Rattle.core_lowering_parts.specs.StatementParts.{Becomes, closed_from, broken_at}
use Rattle.core_lowering_parts.proofs.Becoming.{becomes, grown-behind}
use Rattle.core_lowering_parts.proofs.Inside.{Inside}
use Rattle.core_lowering_methods.proofs.InsideStatements.{closed-there}

-- ---- loops

pub broken-there : (context : Context) (exit : ℕ) (is_endless has_break : Bool) (body loop : Code) →
    exit ≡ context.exits → has_break ≡ has (ends_of body) (Exit context.exits) →
    broken_at exit (is_endless && has_break) loop ≡ broken context is_endless body loop
broken-there context exit is_endless has_break body loop p q =
    ap (λ (e : ℕ). broken_at e (is_endless && has_break) loop) p
    ∙ ap (λ (b : Bool). broken_at context.exits (is_endless && b) loop) q

-- ---- ends of blocks

-- what a block closes that is there from a part on
pub block-made : (before inside a : Context) (old second new body : Code) (n at : ℕ) →
    n ≡ length before.scope.variables → a ≡ inside → Inside before inside → at ≡ length old → second ≡ old ++ body →
    Becomes at (closed_from n a) second new → new ≡ old ++ closed before inside body
block-made before inside a old second new body n at k p i here is made =
    made old body here is
    ∙ ap (λ (m : ℕ). old ++ closed_from m a body) k
    ∙ ap (λ (x : Context). old ++ closed_from (length before.scope.variables) x body) p
    ∙ ap (λ (x : Code). old ++ x) (closed-there before inside body i)

-- ---- locks

-- what stands under a lock behind the code of its object
pub held-made : (kind : LockKind) (place : Place) (old one second new object body : Code) (at : ℕ) →
    one ≡ old ++ object → at ≡ length one → second ≡ one ++ body →
    new ≡ take at second ++ held kind place (drop at second) → new ≡ old ++ (object ++ held kind place body)
held-made kind place old one second new object body at p here q made =
    grown-behind (held kind place) old one second new object body at p here q
    (becomes at (held kind place) second new made)

-- and nothing is kept of what comes behind it
pub locked-made : (kind : LockKind) (place : Place) (old one second third new object body : Code) (at : ℕ) →
    one ≡ old ++ object → at ≡ length one → second ≡ one ++ body →
    third ≡ take at second ++ held kind place (drop at second) → new ≡ third →
    new ≡ old ++ (object ++ held kind place body)
locked-made kind place old one second third new object body at p here q made kept =
    kept ∙ held-made kind place old one second third object body at p here q made
