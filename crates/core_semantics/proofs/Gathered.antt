-- One more of what a loop gathers, and its end.
use Rattle.std.proofs.Common.{◌≡◌, ℕ, ◌+◌, ◌<◌, ◌≤◌, List, [], ◌∷◌, ◌++◌, length, get_or, drop, sym, ap, ◌∙◌}
use Rattle.std.proofs.Common.{append-nil, add-one}
use Rattle.std.proofs.lemmas.List.{at_drop_more, at_drop_all, append_assoc}
use Rattle.racer_base.specs.declared.ids.Kind.{Kind}
use Rattle.core_semantics.specs.declared.object.Value.{Value}
use Rattle.core_semantics.specs.Runs.{parameter, parameters_from}

pub one_put : {A : Type 0} (xs made more all : List A) (i : ℕ) (x y : A) → i < length xs → x ≡ get_or xs i x → y ≡ x →
    more ≡ made ++ y ∷ [] → made ++ drop i xs ≡ all → more ++ drop (i + 1) xs ≡ all
one_put xs made more all i x y within is same gives whole =
    let rest = drop (i + 1) xs in
    ap (λ ys. ys ++ rest) gives
    ∙ append_assoc made (y ∷ []) rest
    ∙ ap (λ z. made ++ z ∷ rest) (same ∙ is)
    ∙ sym (at_drop_more (λ ys. made ++ ys) xs i x within)
    ∙ whole

pub all_put : {A : Type 0} (xs made all : List A) (i : ℕ) → length xs ≤ i → made ++ drop i xs ≡ all → made ≡ all
all_put xs made all i past whole =
    sym (append-nil made) ∙ sym (at_drop_all (λ ys. made ++ ys) xs i past) ∙ whole

-- the same of the parameters of a thread's entry
pub one_parameter : (t i : ℕ) (kinds : List Kind) (made more all : List Value) (kind : Kind) (x : Value) →
    i < length kinds → x ≡ parameter t i (get_or kinds i kind) → more ≡ made ++ x ∷ [] →
    made ++ parameters_from t i (drop i kinds) ≡ all → more ++ parameters_from t (i + 1) (drop (i + 1) kinds) ≡ all
one_parameter t i kinds made more all kind x within shown gives whole =
    let rest = drop (i + 1) kinds in
    ap (λ ys. ys ++ parameters_from t (i + 1) rest) gives
    ∙ append_assoc made (x ∷ []) (parameters_from t (i + 1) rest)
    ∙ ap (λ v. made ++ v ∷ parameters_from t (i + 1) rest) shown
    ∙ ap (λ n. made ++ parameter t i (get_or kinds i kind) ∷ parameters_from t n rest) (add-one i)
    ∙ sym (at_drop_more (λ ks. made ++ parameters_from t i ks) kinds i kind within)
    ∙ whole

pub all_parameters : (t i : ℕ) (kinds : List Kind) (made all : List Value) → length kinds ≤ i →
    made ++ parameters_from t i (drop i kinds) ≡ all → made ≡ all
all_parameters t i kinds made all past whole =
    sym (append-nil made) ∙ sym (at_drop_all (λ ks. made ++ parameters_from t i ks) kinds i past) ∙ whole
