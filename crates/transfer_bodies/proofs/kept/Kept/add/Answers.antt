use Rattle.std.proofs.Common.{◌≡◌, true, refl}
use Rattle.std.proofs.lemmas.Bool.{false≢true, not-false}
use Rattle.transfer_bodies.proofs.KeptParts.{run-more, kept-more}
use Rattle.core_code.specs.Tree.{tree_of}
use Rattle.std.proofs.Common.{map}
use Rattle.transfer_bodies.proofs.kept.Kept.add.Goals as goal

pub returns-then-not-part-clause-kept : goal.returns-then-not-part-clause-kept
returns-then-not-part-clause-kept c = λ from to parts code k p.
    kept-more from to parts code c.args.self.now _ c.args.part c.in-Ok.ensures.items refl
    (λ e. absurd (false≢true e)) (λ run still. tt) k p

pub returns-else-not-part-clause-kept : goal.returns-else-not-part-clause-kept
returns-else-not-part-clause-kept c = λ from to parts code k p.
    let yes : c.args.part.is_still ≡ true = not-false c.args.part.is_still c.if-not-part.false in
    kept-more from to parts code c.args.self.now _ c.args.part c.in-Ok.ensures.items refl (λ e. (e, yes))
    (λ run still.
    run-more from (map tree_of c.args.self.now.parts.items) c.args.self.now.still_from (tree_of c.args.part.code)
    (still yes) run) k p
