-- The sources of a folder are files of it.
use Rattle.std.proofs.Common.{◌≡◌, ℕ, Bool, true, false, cond, ◌||◌, List, [], ◌∷◌, ◌++◌, filter, map, refl, sym, ap}
use Rattle.std.proofs.Common.{subst, ◌∙◌, append_assoc, String, Global, string_bytes, Option, None, Some}
use Rattle.std.specs.Option.{is_some, IfSome}
use Rattle.std.specs.List.{list_all, list_any}
use Rattle.std.specs.Cmp.Lexicographic.{nat_list_cmp_total}
use Rattle.std.proofs.lemmas.Cmp.{eq_by_cmp_equiv}
use Rattle.std.specs.FinMap.{get, keys, contains_key-keys}
use Rattle.std.proofs.lemmas.Bool.{and_from}
use Rattle.racer_base.specs.Outside.{Files, Told, same_name}
use Rattle.racer_sources.specs.Sources.{is_java, source_names}
use Rattle.racer_sources.specs.Reading.{AreThere}

any_there : {A : Type 0} (q : A → Bool) (done xs : List A) (x : A) → q x ≡ true → list_any q (done ++ x ∷ xs) ≡ true
any_there q [] xs x e = ap (λ b. b || list_any q xs) e
any_there q (y ∷ done) xs x e =
    elim (q y) as (λ b. (b || list_any q (done ++ x ∷ xs)) ≡ true) [ true ↦ refl | false ↦ any_there q done xs x e ]

there_from : (files : Files) (done xs : List (List ℕ)) → keys files ≡ done ++ xs → AreThere files (filter is_java xs)
there_from files done [] e = refl
there_from files done (x ∷ xs) e =
    let rest = there_from files (done ++ x ∷ []) xs (e ∙ sym (append_assoc done (x ∷ []) xs)) in
    let here : is_some (get files x) ≡ true =
    contains_key-keys files x ∙ ap (list_any (same_name x)) e
    ∙ any_there (same_name x) done xs x ((eq_by_cmp_equiv nat_list_cmp_total).refl x) in
    elim (is_java x) as (λ b. AreThere files (cond b (x ∷ filter is_java xs) (filter is_java xs))) [
      | true ↦ and_from (is_some (get files x)) (list_all (λ name. is_some (get files name)) (filter is_java xs)) here
          rest
      | false ↦ rest
    ]

pub sources_there : (files : Files) → AreThere files (source_names files)
sources_there files = there_from files [] (keys files) refl

-- what holds where the files of these names are there holds of the sources
pub steady_sources : (P : Type 0) (o : Option Told) (names : List (String Global))
    → IfSome o (λ (t : Told). AreThere t.files (map string_bytes names) → P)
    → IfSome o (λ (t : Told). map string_bytes names ≡ source_names t.files) → IfSome o (λ (t : Told). P)
steady_sources P None names h e = tt
steady_sources P (Some t) names h e = h (subst (AreThere t.files) (sym e) (sources_there t.files))
