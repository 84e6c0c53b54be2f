-- The code of loops out of the steps in which it is made.
use Rattle.std.proofs.Common.{◌≡◌, ℕ, suc, false, ◌++◌, Option, length, take, drop, sym, ap}
use Rattle.std.proofs.Common.{◌∙◌}
use Rattle.std.proofs.Common.{append_assoc}
use Rattle.racer_base.specs.declared.ids.VarId.{VarId}
use Rattle.java_tree.specs.Trees.{Ty}
use Rattle.java_tree.specs.declared.words.Ident.{Ident}
use Rattle.core_lowering_drafts.specs.Drafts.{has, Exit}
use Rattle.core_lowering_rules.specs.Trees.{Expr, Exprs, Condition, Start, Stmt, While, Do, For, ForEach}
use Rattle.core_lowering_rules.specs.Context.{Context, Code, ends_of, repeated, again, within}
use Rattle.core_lowering_rules.specs.Scopes.{of_type, next_variable, started, in_loop, in_labelled}
use Rattle.core_lowering_rules.specs.Scopes.{back_from, after}
use Rattle.core_lowering_rules.specs.Statements.{run, run_all, gone_over, tested, is_endless, broken, one_round, stmt}
use Rattle.core_lowering_parts.specs.declared.rounds.Round.{Round}
use Rattle.core_lowering_parts.specs.StatementParts.{Becomes, closed_from, entered_for, turned, broken_at, while_loop}
use Rattle.core_lowering_parts.specs.StatementParts.{do_loop, for_loop, each_loop, next_element}
use Rattle.core_lowering_methods.specs.StatementSteps.{elements}
use Rattle.core_lowering_parts.proofs.Becoming.{becomes, grown, grown-behind}
use Rattle.core_lowering_context.proofs.Pieces.{two_pieces, behind_seam}
use Rattle.core_lowering_methods.proofs.StatementCode.{broken-there, block-made}
use Rattle.core_lowering_methods.proofs.StatementContexts.{inside-for, inside-each}

-- ---- the body of a loop

pub body-made : (a inside : Context) (s : Stmt) (old second : Code) (at : ℕ) → inside ≡ in_loop a →
    at ≡ length old → second ≡ old ++ stmt inside s → drop at second ≡ stmt (in_loop a) s
body-made a inside s old second at p here is =
    ap (λ (n : ℕ). drop n second) here ∙ behind_seam old second (stmt inside s) is
    ∙ ap (λ (x : Context). stmt x s) p

pub round-made : (a inside : Context) (s : Stmt) (old second new : Code) (at n : ℕ) → inside ≡ in_loop a →
    at ≡ length old → second ≡ old ++ stmt inside s → n ≡ suc a.exits →
    new ≡ take at second ++ within n (drop at second) → new ≡ old ++ one_round a (stmt (in_loop a) s)
round-made a inside s old second new at n p here is e made =
    grown (within n) old second new (stmt inside s) at here is (becomes at (within n) second new made)
    ∙ ap (λ (k : ℕ). old ++ within k (stmt inside s)) e
    ∙ ap (λ (x : Context). old ++ within (suc a.exits) (stmt x s)) p

-- what is known of a body
abbrev pub IsRound : Context → Stmt → Round → Type 0
IsRound a s round =
    (round.break_to.0 ≡ a.exits) × (round.has_break ≡ has (ends_of (stmt (in_loop a) s)) (Exit a.exits))

-- ---- loops

pub while-made : (a inside : Context) (round : Round) (c : Condition) (s : Stmt) (old one second new : Code) (at : ℕ) →
    IsRound a s round → inside ≡ after (in_loop a) s → one ≡ old ++ run a c.on → at ≡ length one →
    second ≡ one ++ one_round a (stmt (in_loop a) s) → Becomes at (while_loop round inside c) second new →
    new ≡ old ++ stmt a (While c s)
while-made a inside round c s old one second new at known p first here is made =
    let body = stmt (in_loop a) s in
    let round_code = one_round a body in
    grown-behind (while_loop round inside c) old one second new (run a c.on) round_code at first here is made
    ∙ ap (λ (x : Context). old ++ (run a c.on ++ while_loop round x c round_code)) p
    ∙ ap (λ (x : Code). old ++ (run a c.on ++ x))
    (broken-there a round.break_to.0 c.is_true round.has_break body
    (repeated (round_code ++ run (after (in_loop a) s) c.on)) known.0 known.1)

pub do-made : (a inside : Context) (round : Round) (c : Condition) (s : Stmt) (old second new : Code) (at : ℕ) →
    IsRound a s round → inside ≡ after (in_loop a) s → at ≡ length old →
    second ≡ old ++ one_round a (stmt (in_loop a) s) → Becomes at (do_loop round inside c) second new →
    new ≡ old ++ stmt a (Do s c)
do-made a inside round c s old second new at known p here is made =
    let body = stmt (in_loop a) s in
    let round_code = one_round a body in
    grown (do_loop round inside c) old second new round_code at here is made
    ∙ ap (λ (x : Context). old ++ do_loop round x c round_code) p
    ∙ ap (λ (x : Code). old ++ x)
    (broken-there a round.break_to.0 c.is_true round.has_break body
    (again (round_code ++ run (after (in_loop a) s) c.on)) known.0 known.1)

pub for-made : (a b inside behind : Context) (round : Round) (i : Start) (c : Option Condition) (updates : Exprs)
    (s : Stmt) (old one second third new : Code) (n first at : ℕ) → n ≡ length a.scope.variables →
    first ≡ length old → b ≡ started a i → one ≡ old ++ entered_for a i c → at ≡ length one → IsRound b s round →
    inside ≡ after (in_loop b) s → second ≡ one ++ one_round b (stmt (in_loop b) s) →
    Becomes at (for_loop round inside c updates) second third →
    behind ≡ back_from b (after (in_loop b) s) → Becomes first (closed_from n behind) third new →
    new ≡ old ++ stmt a (For i c updates s)
for-made a b inside behind round i c updates s old one second third new n first at k start p entered here known q is
    made left closes =
    let body = stmt (in_loop b) s in
    let round_code = one_round b body in
    let last = after (in_loop b) s in
    let whole : Context → Code =
    λ x. entered_for a i c ++ broken x (is_endless c) (stmt (in_loop x) s)
    (repeated (one_round x (stmt (in_loop x) s) ++ run_all (after (in_loop x) s) updates
    ++ tested (after (in_loop x) s) c)) in
    let loop : third ≡ old ++ whole b =
    grown-behind (for_loop round inside c updates) old one second third (entered_for a i c) round_code at entered here
    is made
    ∙ ap (λ (x : Context). old ++ (entered_for a i c ++ for_loop round x c updates round_code)) q
    ∙ ap (λ (x : Code). old ++ (entered_for a i c ++ x))
    (broken-there b round.break_to.0 (is_endless c) round.has_break body
    (repeated (round_code ++ turned last c updates)) known.0 known.1
    ∙ ap (λ (x : Code). broken b (is_endless c) body (repeated x))
    (sym (append_assoc round_code (run_all last updates) (tested last c)))) in
    let first_in = started a i in
    block-made a (back_from first_in (after (in_loop first_in) s)) behind old third new (whole first_in) n first k
    (left ∙ ap (λ (x : Context). back_from x (after (in_loop x) s)) p) (inside-for a i s) start
    (loop ∙ ap (λ (x : Context). old ++ whole x) p) closes

-- ---- `for` over elements

pub elements-made : (a : Context) (round : Round) (v : VarId) (s : Stmt) (old one second new : Code) (at : ℕ) →
    IsRound a s round → at ≡ length old → one ≡ old ++ next_element a v →
    second ≡ one ++ one_round a (stmt (in_loop a) s) → Becomes at (each_loop round) second new →
    new ≡ old ++ elements a v s
elements-made a round v s old one second new at known here next is made =
    let round_code = one_round a (stmt (in_loop a) s) in
    grown (each_loop round) old second new (next_element a v ++ round_code) at here
    (two_pieces old one second (next_element a v) round_code next is) made
    ∙ ap (λ (e : ℕ). old ++ broken_at e false (repeated (next_element a v ++ round_code))) known.0

pub each-made : (a b behind : Context) (t : Ty) (x : Ident) (e : Expr) (s : Stmt) (v : VarId)
    (old one second new : Code) (n first : ℕ) → n ≡ length a.scope.variables → first ≡ length old →
    one ≡ old ++ gone_over a e → v ≡ next_variable a → b ≡ of_type a t 0 x → second ≡ one ++ elements b v s →
    behind ≡ back_from b (after (in_loop b) s) → Becomes first (closed_from n behind) second new →
    new ≡ old ++ stmt a (ForEach t x e s)
each-made a b behind t x e s v old one second new n first k start runs h p is left closes =
    let inside = of_type a t 0 x in
    block-made a (back_from inside (after (in_loop inside) s)) behind old second new
    (gone_over a e ++ elements inside (next_variable a) s) n first k
    (left ∙ ap (λ (y : Context). back_from y (after (in_loop y) s)) p) (inside-each a t x s) start
    (two_pieces old one second (gone_over a e) (elements inside (next_variable a) s) runs
    (is ∙ ap (λ (y : Context). one ++ elements y v s) p ∙ ap (λ (w : VarId). one ++ elements inside w s) h))
    closes

-- ---- labels

pub named-made : (a inside : Context) (s : Stmt) (x : Ident) (exit : ℕ) (old second new : Code) (at : ℕ) →
    exit ≡ a.exits → inside ≡ in_labelled a x → at ≡ length old → second ≡ old ++ stmt inside s →
    new ≡ take at second ++ within exit (drop at second) → new ≡ old ++ within a.exits (stmt (in_labelled a x) s)
named-made a inside s x exit old second new at e p here is made =
    grown (within exit) old second new (stmt inside s) at here is (becomes at (within exit) second new made)
    ∙ ap (λ (n : ℕ). old ++ within n (stmt inside s)) e
    ∙ ap (λ (y : Context). old ++ within a.exits (stmt y s)) p
