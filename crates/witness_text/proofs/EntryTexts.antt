-- The text of an entry tells its name and how many parameters it has.
use Rattle.std.proofs.Common.{◌≡◌, ℕ, ◌+◌, ◌<◌, ◌%◌, ◌^◌, List, [], ◌∷◌, ◌++◌, codes, length}
use Rattle.std.proofs.Common.{refl, sym, subst, ◌∙◌, arith, append_assoc}
use Rattle.std.specs.Fmt.{decimal}
use Rattle.std.proofs.lemmas.Fmt.{decimal_by_steps, decimal_injective}
use Rattle.core_code.specs.Core.{Method}
use Rattle.race_report_parts.specs.WitnessFiles.{entry_text}

-- no byte is a slash (47)
abbrev NoSlash : List ℕ → Type 0
NoSlash [] = Unit {0}
NoSlash (b ∷ bs) = (b ≡ 47 → ⊥) × NoSlash bs

no-slash-append : (bs cs : List ℕ) → NoSlash bs → NoSlash cs → NoSlash (bs ++ cs)
no-slash-append [] cs h more = more
no-slash-append (b ∷ bs) cs h more = (h.0, no-slash-append bs cs h.1 more)

slash-there : (bs cs : List ℕ) → NoSlash (bs ++ 47 ∷ cs) → ⊥
slash-there [] cs h = h.0 refl
slash-there (b ∷ bs) cs h = slash-there bs cs h.1

digits : (n : ℕ) → n < 2 ^ 64 → NoSlash (decimal n)
digits n small =
    decimal_by_steps (λ m ds. NoSlash ds)
    (λ m below. (λ e. absurd (omega (arith, e)), tt))
    (λ m ds some h. no-slash-append ds ((48 + m % 10) ∷ []) h (λ e. absurd (omega (arith, e)), tt))
    n small

head_of : List ℕ → ℕ
head_of [] = 0
head_of (b ∷ bs) = b

tail_of : List ℕ → List ℕ
tail_of [] = []
tail_of (b ∷ bs) = bs

cut : (a c b d : List ℕ) → NoSlash b → NoSlash d → a ++ 47 ∷ b ≡ c ++ 47 ∷ d → (a ≡ c) × (b ≡ d)
cut [] [] b d nb nd e = (refl, let same : b ≡ d = cc in same)
cut [] (x ∷ c) b d nb nd e =
    let same : b ≡ c ++ 47 ∷ d = cc in absurd (slash-there c d (subst NoSlash same nb))
cut (x ∷ a) [] b d nb nd e =
    let same : a ++ 47 ∷ b ≡ d = cc in absurd (slash-there a b (subst NoSlash (sym same) nd))
cut (x ∷ a) (y ∷ c) b d nb nd e =
    let head : x ≡ y = cc in
    let rest : a ++ 47 ∷ b ≡ c ++ 47 ∷ d = cc in
    let both = cut a c b d nb nd rest in
    ((λ i. head i ∷ both.0 i), both.1)

pub entry-told : (f g : Method) → length f.parameters < 2 ^ 64 → length g.parameters < 2 ^ 64 →
    entry_text f ≡ entry_text g → (f.name ≡ g.name) × (length f.parameters ≡ length g.parameters)
entry-told f g few_f few_g e =
    let parts = cut f.name g.name (decimal (length f.parameters)) (decimal (length g.parameters))
    (digits (length f.parameters) few_f) (digits (length g.parameters) few_g)
    (sym (append_assoc f.name (codes "/") (decimal (length f.parameters))) ∙ e
    ∙ append_assoc g.name (codes "/") (decimal (length g.parameters))) in
    (parts.0, decimal_injective (length f.parameters) (length g.parameters) few_f few_g parts.1)
