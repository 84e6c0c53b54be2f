-- The code that stores what a field begins with, of the pieces in which it is made.
use Rattle.std.proofs.Common.{◌≡◌, ◌++◌, sym, ap, ◌∙◌}
use Rattle.core_lowering_rules.specs.ValueKinds.{ValueKind}
use Rattle.core_lowering_rules.specs.Context.{Context, Code}
use Rattle.core_lowering_rules.specs.Assignments.{Storage, assigned}
use Rattle.core_lowering_expressions.specs.declared.storage.Storage.{Storage as CodeStorage}
use Rattle.core_lowering_expressions.specs.Parts.{base_of, without_base, then_assigned}
use Rattle.core_lowering_expressions.proofs.AccessParts.{assigned-parts}
use Rattle.core_lowering_context.proofs.Pieces.{two_pieces}

pub assigned-made : (context : Context) (s : Storage) (t : CodeStorage) (k given : ValueKind)
    (old one second new e : Code) →
    one ≡ old ++ base_of s → t ≡ without_base s → second ≡ one ++ e → given ≡ k →
    new ≡ second ++ then_assigned context t given → new ≡ old ++ assigned context s k e
assigned-made context s t k given old one second new e p same q kinds r =
    let last : new ≡ second ++ then_assigned context (without_base s) k =
    r ∙ ap (λ u. second ++ then_assigned context u given) same
    ∙ ap (λ g. second ++ then_assigned context (without_base s) g) kinds in
    two_pieces old one new (base_of s) (e ++ then_assigned context (without_base s) k) p
    (two_pieces one second new e (then_assigned context (without_base s) k) q last)
    ∙ ap (λ x. old ++ x) (sym (assigned-parts context s k e))
