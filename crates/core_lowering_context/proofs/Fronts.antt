-- Code that stands in front of code.
use Rattle.std.proofs.Common.{◌≡◌, ◌++◌, length, take, drop, Result, Ok, Err, OnErr, sym, ap, ◌∙◌, append_assoc}
use Rattle.std.proofs.lemmas.List.{take-append-drop}
use Rattle.std.proofs.Math.Seq.{take-append_seam, take-length}
use Rattle.core_lowering_rules.specs.Context.{Code}
use Rattle.core_lowering_context.specs.Drafts.{IsFrontOf}

pub front-same : (old new : Code) → new ≡ old → IsFrontOf old new
front-same old new e = ap (take (length old)) e ∙ take-length old

pub front-more : (old new more : Code) → new ≡ old ++ more → IsFrontOf old new
front-more old new more e = ap (take (length old)) e ∙ take-append_seam old more

behind : (old new : Code) → IsFrontOf old new → new ≡ old ++ drop (length old) new
behind old new p =
    sym (take-append-drop (length old) new) ∙ ap (λ (x : Code). x ++ drop (length old) new) p

pub front-then : (old one new : Code) → IsFrontOf old one → IsFrontOf one new → IsFrontOf old new
front-then old one new p q =
    let first = drop (length old) one in
    let second = drop (length one) new in
    front-more old new (first ++ second)
    (behind one new q ∙ ap (λ (x : Code). x ++ second) (behind old one p) ∙ append_assoc old first second)

pub front-grown : (old one new more : Code) → one ≡ old ++ more → new ≡ one → IsFrontOf old new
front-grown old one new more p q = front-more old new more (q ∙ p)

pub front-twice : (old one second new a b : Code) → one ≡ old ++ a → second ≡ one ++ b → new ≡ second →
    IsFrontOf old new
front-twice old one second new a b p q r =
    front-then old one new (front-more old one a p) (front-more one new b (r ∙ q))

-- what holds in any case holds after a refusal
pub on_any_err : {T E P : Type 0} (r : Result T E) → P → OnErr r P
on_any_err (Ok x) p = tt
on_any_err (Err e) p = p
