-- How many marks confirm their warnings.
use Rattle.std.proofs.Common.{◌≡◌, ℕ, ◌+◌, Bool, cond, List, [], ◌∷◌, map}
use Rattle.std.proofs.Common.{sym, ap, refl, ◌∙◌}
use Rattle.std.specs.List.{count_by}
use Rattle.std.proofs.lemmas.List.Sums.{sum_by-cons}
use Rattle.core_code.specs.Core.{Core}
use Rattle.race_pairs.specs.declared.warning.Warning.{Warning}
use Rattle.core_ways.specs.declared.mark.Mark.{Mark}
use Rattle.core_ways.specs.Marks.{Said, said_by}
use Rattle.witness_build_laws.specs.Warned.{warning_mark}
use Rattle.race_report_parts.specs.Report.{is_confirmed}

count_mapped : {X Y : Type 0} (f : X → Y) (p : Y → Bool) (xs : List X) →
    count_by (λ x. p (f x)) xs ≡ count_by p (map f xs)
count_mapped f p [] = refl
count_mapped f p (x ∷ xs) =
    sum_by-cons (λ y. cond (p (f y)) 1 0) x xs
    ∙ ap (λ (n : ℕ). cond (p (f x)) 1 0 + n) (count_mapped f p xs)
    ∙ sym (sum_by-cons (λ y. cond (p y) 1 0) (f x) (map f xs))

-- as many marks confirm as warnings are confirmed
pub as_many : (core : Core) (found : List Warning) (marks : List Mark) →
    map said_by marks ≡ map (warning_mark core) found →
    count_by (λ mark. is_confirmed (said_by mark)) marks ≡ count_by (λ w. is_confirmed (warning_mark core w)) found
as_many core found marks are =
    count_mapped said_by is_confirmed marks
    ∙ ap (λ (ms : List Said). count_by is_confirmed ms) are
    ∙ sym (count_mapped (warning_mark core) is_confirmed found)
