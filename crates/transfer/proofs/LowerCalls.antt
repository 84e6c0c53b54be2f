-- The methods that an analysed method calls are of smaller ranks.
use Rattle.std.proofs.Common.{◌≡◌, ℕ, Bool, true, ◌||◌, Some, is_none, is_some, nat_lt, sym, ap, ◌∙◌}
use Rattle.std.proofs.Math.Nat.{zero-add}
use Rattle.std.specs.List.{list_all}
use Rattle.racer_base.specs.declared.ids.MethodId.{MethodId}
use Rattle.core_code.specs.Calls.{calls_in, method_at, rank_of}
use Rattle.core_code.specs.CallFacts.{has_ranks, is_above}
use Rattle.core_code.specs.Core.{Core, Method}
use Rattle.core_code.proofs.KindLemmas.{where_analysed}
use Rattle.core_code.proofs.NoCycles.{numbered}

abbrev pub is_lower : Core → MethodId → MethodId → Bool
is_lower core m n = nat_lt (rank_of core n) (rank_of core m)

pub calls_lower : (core : Core) (m : MethodId) (method : Method) → has_ranks core ≡ true →
    method_at core m ≡ Some method → is_none method.status ≡ true →
    list_all (is_lower core m) (calls_in method.code) ≡ true
calls_lower core m method ranks there analysed =
    let above : (is_some method.status || list_all (is_lower core m) (calls_in method.code)) ≡ true =
    ap (λ (n : ℕ). is_above (rank_of core) (n, method)) (sym (zero-add m.0))
    ∙ numbered (is_above (rank_of core)) 0 m.0 core.methods method ranks there in
    where_analysed method.status (list_all (is_lower core m) (calls_in method.code)) analysed above
