-- What an entry adds to the records of its class, and another method.
use Rattle.std.proofs.Common.{◌≡◌, ℕ, true, false, cond, [], sym, ap, ◌∙◌}
use Rattle.racer_base.specs.declared.ids.ClassId.{ClassId}
use Rattle.racer_base.specs.declared.ids.MethodId.{MethodId}
use Rattle.core_code.specs.Core.{Core, Method}
use Rattle.access_domain.specs.OutcomeRecords.{records_of}
use Rattle.race_pairs.specs.Warnings.{numbered_records, is_entry_of, entry_records}

abbrev number : ℕ → MethodId
number i = record { 0 = i }

-- an entry adds its records
pub entry_adds : (core : Core) (c : ClassId) (m : ℕ) (method : Method) (id : MethodId) →
    is_entry_of c method ≡ true → id.0 ≡ m →
    numbered_records id (records_of core id) ≡ entry_records core c (m, method)
entry_adds core c m method id entry is =
    let test : entry_records core c (m, method) ≡ numbered_records (number m) (records_of core (number m)) =
    ap (λ b. cond b (numbered_records (number m) (records_of core (number m))) []) entry in
    (λ i. numbered_records (number (is i)) (records_of core (number (is i)))) ∙ sym test

-- another method has none
pub other_adds : (core : Core) (c : ClassId) (m : ℕ) (method : Method) → is_entry_of c method ≡ false →
    [] ≡ entry_records core c (m, method)
other_adds core c m method other = sym (ap
    (λ b. cond b (numbered_records (number m) (records_of core (number m))) []) other)
