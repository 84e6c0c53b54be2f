-- One more of the values that are passed to a method, and their end.
use Rattle.std.proofs.Common.{◌≡◌, ℕ, ◌+◌, ◌<◌, ◌≤◌, List, [], ◌∷◌, ◌++◌, length, get_or, drop, sym, ap, ◌∙◌}
use Rattle.std.proofs.Common.{append-nil, add-one}
use Rattle.std.proofs.lemmas.List.{at_drop_more, at_drop_all, append_assoc}
use Rattle.racer_base.specs.declared.ids.Kind.{Kind}
use Rattle.owner_domain.specs.declared.value.Value.{Value}
use Rattle.access_domain.specs.Summaries.{parameter_value, parameter_values}

pub one_parameter : (i : ℕ) (kinds : List Kind) (made more all : List Value) (kind : Kind) (x : Value) →
    i < length kinds → x ≡ parameter_value i (get_or kinds i kind) → more ≡ made ++ x ∷ [] →
    made ++ parameter_values i (drop i kinds) ≡ all → more ++ parameter_values (i + 1) (drop (i + 1) kinds) ≡ all
one_parameter i kinds made more all kind x within shown gives whole =
    let rest = drop (i + 1) kinds in
    ap (λ ys. ys ++ parameter_values (i + 1) rest) gives
    ∙ append_assoc made (x ∷ []) (parameter_values (i + 1) rest)
    ∙ ap (λ v. made ++ v ∷ parameter_values (i + 1) rest) shown
    ∙ ap (λ n. made ++ parameter_value i (get_or kinds i kind) ∷ parameter_values n rest) (add-one i)
    ∙ sym (at_drop_more (λ ks. made ++ parameter_values i ks) kinds i kind within)
    ∙ whole

pub all_parameters : (i : ℕ) (kinds : List Kind) (made all : List Value) → length kinds ≤ i →
    made ++ parameter_values i (drop i kinds) ≡ all → made ≡ all
all_parameters i kinds made all past whole =
    sym (append-nil made) ∙ sym (at_drop_all (λ ks. made ++ parameter_values i ks) kinds i past) ∙ whole
