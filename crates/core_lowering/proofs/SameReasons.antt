-- Why methods are not analysed: the reasons apart from recursion, with recursion last, are their statuses.
use Rattle.std.proofs.Common.{◌≡◌, ℕ, suc, Bool, List, [], ◌∷◌, Option, map, length, refl, sym, ap, ◌∙◌}
use Rattle.std.proofs.Common.{nat_lt}
use Rattle.std.specs.Option.{option_or}
use Rattle.racer_base.specs.declared.ids.MethodId.{MethodId}
use Rattle.racer_base.specs.declared.limits.TheConstants.{MAX_PARAMETERS, MAX_LOCALS}
use Rattle.racer_base.proofs.Lists.{option_or-assoc}
use Rattle.core_code.specs.declared.code.Reason.{Reason}
use Rattle.core_code.specs.declared.code.Reason.TheVariants.{Overload, Outside, Parameters, Locals, Operations}
use Rattle.core_code.specs.declared.code.Reason.TheVariants.{Recursive}
use Rattle.core_lowering_rules.specs.Context.{Folder}
use Rattle.core_lowering_rules.specs.Methods.{Source, is_past_limit}
use Rattle.core_lowering_rules.specs.Programs.{is_outside, is_overloaded, local_count, where_so, status_of}
use Rattle.core_lowering_rules.specs.Programs.{statuses_from}
use Rattle.core_lowering_surveys.specs.Reasons.{own_reason, with_recursion, with_recursive}

status-same : (folder : Folder) (b : Bool) (s : Source) →
    status_of folder b s ≡ with_recursion (own_reason folder s) b
status-same folder b s =
    let overload = where_so (is_overloaded folder.methods s.info) Overload in
    let outside = where_so (is_outside folder s) Outside in
    let parameters = where_so (nat_lt MAX_PARAMETERS (length s.info.parameters)) Parameters in
    let locals = where_so (nat_lt MAX_LOCALS (local_count folder s)) Locals in
    let operations = where_so (is_past_limit folder s) Operations in
    let last = where_so b Recursive in
    ap (λ (o : Option Reason). option_or overload (option_or outside (option_or parameters o)))
    (option_or-assoc locals operations last)
    ∙ ap (λ (o : Option Reason). option_or overload (option_or outside o))
    (option_or-assoc parameters (option_or locals operations) last)
    ∙ ap (λ (o : Option Reason). option_or overload o)
    (option_or-assoc outside (option_or parameters (option_or locals operations)) last)
    ∙ option_or-assoc overload (option_or outside (option_or parameters (option_or locals operations))) last

pub statuses-same : (folder : Folder) (is_recursive : MethodId → Bool) (n : ℕ) (sources : List Source) →
    with_recursive is_recursive n (map (own_reason folder) sources) ≡
    statuses_from folder is_recursive n sources
statuses-same folder is_recursive n [] = refl
statuses-same folder is_recursive n (s ∷ sources) =
    let rest = with_recursive is_recursive (suc n) (map (own_reason folder) sources) in
    ap (λ (status : Option Reason). status ∷ rest) (sym (status-same folder (is_recursive (record { 0 = n })) s))
    ∙ ap (λ (statuses : List (Option Reason)). status_of folder (is_recursive (record { 0 = n })) s ∷ statuses)
    (statuses-same folder is_recursive (suc n) sources)
