-- The frames behind a call.
use Rattle.std.proofs.Common.{◌≡◌, List, [], ◌∷◌, ◌++◌, map, reverse, ap, ◌∙◌}
use Rattle.std.proofs.lemmas.List.{reverse-append}
use Rattle.core_semantics.specs.declared.frame.Frame.{Frame as CodeFrame}
use Rattle.core_semantics.specs.State.{Frame}
use Rattle.core_semantics.specs.View.{frame_of}

pub entered_frames : (frame callee caller : CodeFrame) (inner outer : Frame) (callers before after : List CodeFrame) →
    frame ≡ callee → frame_of callee ≡ inner → frame_of caller ≡ outer → after ≡ before ++ caller ∷ [] →
    before ≡ callers →
    frame_of frame ∷ map frame_of (reverse after) ≡ inner ∷ outer ∷ map frame_of (reverse callers)
entered_frames frame callee caller inner outer callers before after is is_inner is_outer put same =
    let first : frame_of frame ≡ inner = ap frame_of is ∙ is_inner in
    let rest : map frame_of (reverse after) ≡ outer ∷ map frame_of (reverse callers) =
    ap (λ (fs : List CodeFrame). map frame_of (reverse fs))
    (put ∙ ap (λ (fs : List CodeFrame). fs ++ caller ∷ []) same)
    ∙ ap (map frame_of) (reverse-append callers (caller ∷ []))
    ∙ ap (λ (f : Frame). f ∷ map frame_of (reverse callers)) is_outer in
    λ i. first i ∷ rest i
