-- The code of `try` with `finally` out of the steps in which it is made.
use Rattle.std.proofs.Common.{◌≡◌, ℕ, ◌++◌, [], ◌∷◌, Option, None, Some, length, take, drop, refl, sym, ap, ◌∙◌}
use Rattle.racer_base.specs.declared.ids.Place.{Place}
use Rattle.racer_base.specs.declared.ids.VarId.{VarId}
use Rattle.core_lowering_rules.specs.Context.{Context, Code, ending, guarded}
use Rattle.core_lowering_rules.specs.Scopes.{after_last}
use Rattle.core_lowering_rules.specs.Statements.{kept_null, last_of}
use Rattle.core_lowering_parts.specs.StatementParts.{Becomes}
use Rattle.core_lowering_methods.specs.StatementSteps.{BothBecome, guarded_by}
use Rattle.core_lowering_parts.proofs.Inside.{inside-same}
use Rattle.core_lowering_methods.proofs.InsideStatements.{inside-after_last}
use Rattle.core_lowering_context.proofs.Pieces.{before_seam, behind_seam}

null-alike : (p q : Place) → p ≡ q → (a b : Context) → a.place ≡ p → b.place ≡ q → (o : Option VarId) (x : Code) →
    kept_null a o x ≡ kept_null b o x
null-alike p q e a b h k None x = refl
null-alike p q e a b h k (Some v) x = ap (λ (place : Place). ending place (v ∷ []) x) (h ∙ e ∙ sym k)

pub null-there : (a b : Context) (o : Option VarId) (x : Code) → a.place ≡ b.place → kept_null a o x ≡ kept_null b o x
null-there a b o x e = null-alike a.place b.place e a b refl refl o x

-- a `try` with its `finally`, of what was made of both
pub finally-made : (context behind : Context) (variable : Option VarId) (exit at middle end : ℕ)
    (old one second third fourth fifth new first finally last : Code) →
    end ≡ length old → one ≡ old ++ last_of context variable → behind ≡ after_last variable context →
    second ≡ take end one → last ≡ drop end one →
    third ≡ take middle second → finally ≡ drop middle second →
    fourth ≡ take at third → first ≡ drop at third →
    fifth ≡ fourth ++ guarded exit first finally last →
    Becomes at (kept_null behind variable) fifth new →
    BothBecome at middle (guarded_by context exit variable) old new
finally-made context behind variable exit at middle end old one second third fourth fifth new first finally last
    ends one_is behind_is second_is last_is third_is finally_is fourth_is first_is fifth_is made
    left body cleanup here there is =
    let done = last_of context variable in
    let last_code : last ≡ done =
    last_is ∙ ap (λ (n : ℕ). drop n one) ends ∙ behind_seam old one done one_is in
    let kept : second ≡ (left ++ body) ++ cleanup =
    second_is ∙ ap (λ (n : ℕ). take n one) ends ∙ before_seam old one done one_is ∙ is in
    let finally_code : finally ≡ cleanup =
    finally_is ∙ ap (λ (n : ℕ). drop n second) there ∙ behind_seam (left ++ body) second cleanup kept in
    let front : third ≡ left ++ body =
    third_is ∙ ap (λ (n : ℕ). take n second) there ∙ before_seam (left ++ body) second cleanup kept in
    let first_code : first ≡ body =
    first_is ∙ ap (λ (n : ℕ). drop n third) here ∙ behind_seam left third body front in
    let start : fourth ≡ left =
    fourth_is ∙ ap (λ (n : ℕ). take n third) here ∙ before_seam left third body front in
    let whole : fifth ≡ left ++ guarded exit body cleanup done =
    fifth_is ∙ ap (λ (x : Code). x ++ guarded exit first finally last) start
    ∙ ap (λ (x : Code). left ++ guarded exit x finally last) first_code
    ∙ ap (λ (x : Code). left ++ guarded exit body x last) finally_code
    ∙ ap (λ (x : Code). left ++ guarded exit body cleanup x) last_code in
    made left (guarded exit body cleanup done) here whole
    ∙ ap (λ (x : Code). left ++ x)
    (null-there behind context variable (guarded exit body cleanup done)
    (ap (λ (x : Context). x.place) behind_is
    ∙ (inside-after_last context context variable (inside-same context)).place))
