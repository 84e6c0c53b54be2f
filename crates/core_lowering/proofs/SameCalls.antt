-- The calls that are gathered are those of the operations.
use Rattle.std.proofs.Common.{◌≡◌, ℕ, suc, Bool, List, [], ◌∷◌, map, length, refl, ap}
use Rattle.std.proofs.Common.{arith}
use Rattle.std.specs.Prelude.{sum_by}
use Rattle.std.proofs.lemmas.List.Sums.{sum_by-cons}
use Rattle.racer_base.specs.declared.ids.MethodId.{MethodId}
use Rattle.core_code.specs.Core.{Method}
use Rattle.core_code.specs.Recursion.{all_calls_in}
use Rattle.core_code.specs.CalleeRows.{different}
use Rattle.core_lowering_rules.specs.Context.{Folder}
use Rattle.core_lowering_rules.specs.Methods.{Source}
use Rattle.core_lowering_rules.specs.Programs.{method_cores, statuses_from}
use Rattle.core_lowering_surveys.specs.Surveys.{code_in, row_in}
use Rattle.core_lowering.specs.Calls.{edges}

abbrev all_calls : Method → List MethodId
all_calls m = all_calls_in m.code

-- the rows of methods that have statuses
pub rows-same : (folder declared : Folder) (is_recursive : MethodId → Bool) (n : ℕ) (sources : List Source) →
    map (row_in folder) sources ≡
    map all_calls (method_cores folder sources (statuses_from declared is_recursive n sources))
rows-same folder declared is_recursive n [] = refl
rows-same folder declared is_recursive n (s ∷ sources) =
    ap (λ (rows : List (List MethodId)). all_calls_in (code_in folder s) ∷ rows)
    (rows-same folder declared is_recursive (suc n) sources)

pub edges-same : (methods : List Method) →
    edges (map all_calls methods) ≡ sum_by (λ (m : Method). length (different (all_calls_in m.code))) methods
edges-same [] = refl
edges-same (m ∷ ms) =
    let next = sum_by-cons (λ (k : Method). length (different (all_calls_in k.code))) m ms in
    let rest = edges-same ms in omega arith
