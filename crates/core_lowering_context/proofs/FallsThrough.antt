-- Whether there is no end but the normal one depends on the members of a set alone.
use Rattle.std.proofs.Common.{◌≡◌, ℕ, Bool, true, false, not, ◌&&◌, ◌||◌, cond, [], ◌∷◌, ◌++◌, refl, sym, ap, ◌∙◌}
use Rattle.std.specs.List.{list_any, list_all}
use Rattle.core_lowering_drafts.specs.Drafts.{End, Ends, Normal, SameEnds, is_same, Behind, in_order}
use Rattle.core_lowering_drafts.proofs.SameEnds.{any-same}
use Rattle.core_lowering_rules.specs.Context.{Code, ends_of, guarded}
use Rattle.core_lowering_context.proofs.Pieces.{two_pieces}

one-step : (a b c : Bool) → b ≡ not c → (a && b) ≡ not (not a || c)
one-step true b c h = h
one-step false b c h = refl

all-by-any : (test : End → Bool) (A : Ends) → list_all test A ≡ not (list_any (λ e. not (test e)) A)
all-by-any test [] = refl
all-by-any test (e ∷ A) =
    one-step (test e) (list_all test A) (list_any (λ f. not (test f)) A) (all-by-any test A)

pub all-same : (test : End → Bool) (A B : Ends) → SameEnds A B → list_all test A ≡ list_all test B
all-same test A B s =
    all-by-any test A ∙ ap not (any-same (λ e. not (test e)) A B s) ∙ sym (all-by-any test B)

-- ---- a body with a `finally`

pub guarded-ends : (old new body finally last : Code) (k : ℕ) (E : Ends) (b : Bool) → b ≡ list_all (is_same Normal) E →
    SameEnds E (ends_of body) → b ≡ false →
    new ≡ old ++ Behind (in_order body) (in_order finally) k (in_order last) ∷ [] →
    new ≡ old ++ guarded k body finally last
guarded-ends old new body finally last k E b is same h made =
    let other : list_all (is_same Normal) (ends_of body) ≡ false =
    sym (all-same (is_same Normal) E (ends_of body) same) ∙ sym is ∙ h in
    made
    ∙ ap (λ t. old ++ cond t (body ++ finally) (Behind (in_order body) (in_order finally) k (in_order last) ∷ []))
    (sym other)

pub guarded-through : (old one new body finally last : Code) (k : ℕ) (E : Ends) (b : Bool) →
    b ≡ list_all (is_same Normal) E → SameEnds E (ends_of body) → b ≡ true → one ≡ old ++ body →
    new ≡ one ++ finally → new ≡ old ++ guarded k body finally last
guarded-through old one new body finally last k E b is same h first second =
    let through : list_all (is_same Normal) (ends_of body) ≡ true =
    sym (all-same (is_same Normal) E (ends_of body) same) ∙ sym is ∙ h in
    two_pieces old one new body finally first second
    ∙ ap (λ t. old ++ cond t (body ++ finally) (Behind (in_order body) (in_order finally) k (in_order last) ∷ []))
    (sym through)
