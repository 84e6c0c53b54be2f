-- Values that join one after another: the join, and the names that are lost, do not depend on how they are grouped.
use Rattle.std.proofs.Common.{◌≡◌, Bool, true, false, cond, ◌||◌, [], ◌++◌, Option, None, Some, refl, sym, ap}
use Rattle.std.proofs.Common.{◌∙◌}
use Rattle.std.specs.List.{list_any}
use Rattle.std.proofs.Math.Bool.{or-false}
use Rattle.access_paths.specs.declared.path.Path.{Path}
use Rattle.owner_domain.specs.declared.value.Value.{Value}
use Rattle.owner_domain.specs.declared.value.Value.TheVariants.{Owned, Named, Unnamed}
use Rattle.owner_domain.specs.SameValue.{equal_of_same_value}
use Rattle.owner_domain.specs.Values.{names_of, same_value, joined, lost}
use Rattle.owner_domain.proofs.Joins.{joined-itself}
use Rattle.access_domain.specs.Flow.{joined_result, lost_result}
use Rattle.call_subst.proofs.SameSets.{any-append}
use Rattle.transfer_loops.proofs.Monotone.{joined-unnamed, unnamed-joined}

-- ---- joins

joined-again : (b c : Value) → joined b c ≡ joined b (joined b c)
joined-again b c =
    elim (same_value b c) as (λ t. cond t b Unnamed ≡ joined b (cond t b Unnamed)) [
      | true ↦ sym (joined-itself b)
      | false ↦ sym (joined-unnamed b)
    ]

joined-other : (a b c : Value) → same_value a b ≡ false → Unnamed ≡ joined a (joined b c)
joined-other a b c e =
    elim (same_value b c) as (λ t. Unnamed ≡ joined a (cond t b Unnamed)) [
      | true ↦ sym (ap (λ (t : Bool). cond t a Unnamed) e)
      | false ↦ sym (joined-unnamed a)
    ]

pub joined-assoc : (a b c : Value) → joined (joined a b) c ≡ joined a (joined b c)
joined-assoc a b c =
    elim (same_value a b) as (λ t. same_value a b ≡ t → joined (cond t a Unnamed) c ≡ joined a (joined b c)) [
      | true ↦ λ e.
          let same : a ≡ b = equal_of_same_value a b e in
          ap (λ (v : Value). joined v c) same ∙ joined-again b c ∙ ap (λ (v : Value). joined v (joined b c)) (sym same)
      | false ↦ λ e. unnamed-joined c ∙ joined-other a b c e
    ] refl

-- ---- lost names, one test of them at a time

abbrev has_name : (Path → Bool) → Value → Bool
has_name test v = list_any test (names_of v)

abbrev loses : (Path → Bool) → Value → Value → Bool
loses test a b = list_any test (lost a b)

loses-different : (test : Path → Bool) (a b : Value) → same_value a b ≡ false →
    loses test a b ≡ (has_name test a || has_name test b)
loses-different test a b e =
    ap (λ (t : Bool). list_any test (cond t [] (names_of a ++ names_of b))) e
    ∙ any-append test (names_of a) (names_of b)

loses-same : (test : Path → Bool) (a b : Value) → same_value a b ≡ true → loses test a b ≡ false
loses-same test a b e = ap (λ (t : Bool). list_any test (cond t [] (names_of a ++ names_of b))) e

loses-unnamed : (test : Path → Bool) (a : Value) → loses test a Unnamed ≡ has_name test a
loses-unnamed test Owned = refl
loses-unnamed test Unnamed = refl
loses-unnamed test (Named p) = refl

unnamed-loses : (test : Path → Bool) (a : Value) → loses test Unnamed a ≡ has_name test a
unnamed-loses test Owned = refl
unnamed-loses test Unnamed = refl
unnamed-loses test (Named p) = refl

joined-same : (a b : Value) → same_value a b ≡ true → joined a b ≡ a
joined-same a b e = ap (λ (t : Bool). cond t a Unnamed) e

joined-different : (a b : Value) → same_value a b ≡ false → joined a b ≡ Unnamed
joined-different a b e = ap (λ (t : Bool). cond t a Unnamed) e

or-back : (p q : Bool) → (p || q) ≡ ((p || q) || p)
or-back true q = refl
or-back false true = refl
or-back false false = refl

or-twice : (p q r : Bool) → r ≡ q → ((p || q) || r) ≡ (p || q)
or-twice true q r e = refl
or-twice false true r e = refl
or-twice false false r e = e

or-turn : (p q r : Bool) → ((p || q) || r) ≡ ((q || r) || p)
or-turn true true r = refl
or-turn true false true = refl
or-turn true false false = refl
or-turn false true r = refl
or-turn false false true = refl
or-turn false false false = refl

loses-itself : (test : Path → Bool) (b c : Value) → same_value b c ≡ true → loses test b (joined b c) ≡ loses test b c
loses-itself test b c e =
    let same : b ≡ c = equal_of_same_value b c e in
    ap (loses test b) (joined-same b c e ∙ same)

-- where the first two are the same
loses-again : (test : Path → Bool) (b c : Value) →
    loses test b c ≡ (loses test b c || loses test b (joined b c))
loses-again test b c =
    elim (same_value b c) as (λ t. same_value b c ≡ t →
    loses test b c ≡ (loses test b c || loses test b (joined b c))) [
      | true ↦ λ e.
          loses-same test b c e
          ∙ sym (loses-itself test b c e ∙ loses-same test b c e)
          ∙ ap (λ (t : Bool). t || loses test b (joined b c)) (sym (loses-same test b c e))
      | false ↦ λ e.
          let here : loses test b c ≡ (has_name test b || has_name test c) = loses-different test b c e in
          let later : loses test b (joined b c) ≡ has_name test b =
          ap (loses test b) (joined-different b c e) ∙ loses-unnamed test b in
          here ∙ or-back (has_name test b) (has_name test c) ∙ (λ i. sym here i || sym later i)
    ] refl

-- where they differ
loses-other : (test : Path → Bool) (a b c : Value) → same_value a b ≡ false →
    ((has_name test a || has_name test b) || has_name test c) ≡ (loses test b c || loses test a (joined b c))
loses-other test a b c other =
    elim (same_value b c) as (λ t. same_value b c ≡ t →
    ((has_name test a || has_name test b) || has_name test c) ≡ (loses test b c || loses test a (joined b c))) [
      | true ↦ λ e.
          let same : c ≡ b = sym (equal_of_same_value b c e) in
          let first : loses test b c ≡ false = loses-same test b c e in
          let then : loses test a (joined b c) ≡ (has_name test a || has_name test b) =
          ap (loses test a) (joined-same b c e) ∙ loses-different test a b other in
          or-twice (has_name test a) (has_name test b) (has_name test c) (ap (has_name test) same)
          ∙ (λ i. sym first i || sym then i)
      | false ↦ λ e.
          let first : loses test b c ≡ (has_name test b || has_name test c) = loses-different test b c e in
          let then : loses test a (joined b c) ≡ has_name test a =
          ap (loses test a) (joined-different b c e) ∙ loses-unnamed test a in
          or-turn (has_name test a) (has_name test b) (has_name test c) ∙ (λ i. sym first i || sym then i)
    ] refl

pub lost-assoc : (test : Path → Bool) (a b c : Value) →
    (loses test a b || loses test (joined a b) c) ≡ (loses test b c || loses test a (joined b c))
lost-assoc test a b c =
    elim (same_value a b) as (λ t. same_value a b ≡ t →
    (loses test a b || loses test (joined a b) c) ≡ (loses test b c || loses test a (joined b c))) [
      | true ↦ λ e.
          let same : a ≡ b = equal_of_same_value a b e in
          ap (λ (t : Bool). t || loses test (joined a b) c) (loses-same test a b e)
          ∙ ap (λ (v : Value). loses test v c) (joined-same a b e ∙ same)
          ∙ loses-again test b c
          ∙ ap (λ (v : Value). loses test b c || loses test v (joined b c)) (sym same)
      | false ↦ λ e.
          let here : loses test a b ≡ (has_name test a || has_name test b) = loses-different test a b e in
          let later : loses test (joined a b) c ≡ has_name test c =
          ap (λ (v : Value). loses test v c) (joined-different a b e) ∙ unnamed-loses test c in
          (λ i. here i || later i) ∙ loses-other test a b c e
    ] refl

-- ---- returned values

pub joined_result-none : (a : Option Value) → joined_result a None ≡ a
joined_result-none None = refl
joined_result-none (Some a) = refl

pub lost_result-none : (a : Option Value) → lost_result a None ≡ []
lost_result-none None = refl
lost_result-none (Some a) = refl

pub joined_result-assoc : (a b c : Option Value) →
    joined_result (joined_result a b) c ≡ joined_result a (joined_result b c)
joined_result-assoc None b c = refl
joined_result-assoc (Some a) None c = refl
joined_result-assoc (Some a) (Some b) None = refl
joined_result-assoc (Some a) (Some b) (Some c) = ap Some (joined-assoc a b c)

pub lost_result-assoc : (test : Path → Bool) (a b c : Option Value) →
    (list_any test (lost_result a b) || list_any test (lost_result (joined_result a b) c)) ≡
    (list_any test (lost_result b c) || list_any test (lost_result a (joined_result b c)))
lost_result-assoc test None b c = sym (or-false (list_any test (lost_result b c)))
lost_result-assoc test (Some a) None c = refl
lost_result-assoc test (Some a) (Some b) None = or-false (list_any test (lost a b))
lost_result-assoc test (Some a) (Some b) (Some c) = lost-assoc test a b c
