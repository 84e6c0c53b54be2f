-- What one turn of the loop over a method's records adds.
use Rattle.std.proofs.Common.{◌≡◌, ℕ, ◌+◌, ◌<◌, List, [], ◌∷◌, ◌++◌, length, get_or, map, drop}
use Rattle.std.proofs.Common.{sym, ap, ◌∙◌, append_assoc}
use Rattle.std.specs.List.{enumerate_from}
use Rattle.std.proofs.lemmas.List.{map-append}
use Rattle.racer_base.specs.declared.ids.MethodId.{MethodId}
use Rattle.access_domain.specs.declared.access.Access.{Access}
use Rattle.race_pairs.specs.declared.method_access.MethodAccess.{MethodAccess}
use Rattle.race_pairs.specs.Warnings.{MethodRecord, numbered_record}
use Rattle.race_pairs.specs.MethodRecords.{record_of, all_records}
use Rattle.race_pairs.proofs.Turns.{rest_of}

-- the record of the next access was added
pub record_turn : (p : MethodAccess) (m : MethodId) (accesses : List Access) (i j : ℕ) (a : Access)
    (made more : List MethodAccess) → i < length accesses → a ≡ get_or accesses i a → j ≡ i →
    more ≡ made ++ p ∷ [] → record_of p ≡ numbered_record m (j, a) →
    all_records more ++ map (numbered_record m) (enumerate_from (i + 1) (drop (i + 1) accesses))
    ≡ all_records made ++ map (numbered_record m) (enumerate_from i (drop i accesses))
record_turn p m accesses i j a made more within is at adds same =
    let rest = map (numbered_record m) (enumerate_from (i + 1) (drop (i + 1) accesses)) in
    let had : List MethodRecord = all_records made in
    let here : record_of p ≡ numbered_record m (i, a) = same ∙ ap (λ k. numbered_record m (k, a)) at in
    ap (λ ys. all_records ys ++ rest) adds
    ∙ ap (λ ys. ys ++ rest) (map-append record_of made (p ∷ []) ∙ ap (λ r. had ++ r ∷ []) here)
    ∙ append_assoc had (numbered_record m (i, a) ∷ []) rest
    ∙ ap (λ ys. had ++ map (numbered_record m) (enumerate_from i ys)) (sym (rest_of accesses i a within is))
