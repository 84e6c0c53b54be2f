-- Two methods with one tree without places, that keep places of the same tokens, are lowered from the same trees.
use Rattle.std.proofs.Common.{◌≡◌, ℕ, List, [], ◌∷◌, ◌++◌, None, map, refl, ap, sym, ◌∙◌}
use Rattle.std.proofs.Common.{suc, Option, Some}
use Rattle.std.specs.Prelude.{option_map, if◌then◌else◌}
use Rattle.java_tree.specs.declared.words.Ident.{Ident}
use Rattle.java_tree.specs.declared.expressions.Initialiser.{Initialiser}
use Rattle.java_tree.specs.declared.methods.TypeParameterTree.{TypeParameterTree}
use Rattle.java_tree.specs.declared.methods.TypeParametersTree.{TypeParametersTree}
use Rattle.java_tree.specs.declared.methods.ResultTree.{ResultTree}
use Rattle.java_tree.specs.declared.methods.ResultTree.TheVariants as result
use Rattle.java_tree.specs.declared.methods.ParameterTree.{ParameterTree}
use Rattle.java_tree.specs.declared.methods.MethodTree.{MethodTree}
use Rattle.java_tree.specs.KeptPlaces.{Places, all_places, each_puts, ty_places, init_places, stmt_places}
use Rattle.java_tree.specs.KeptPlaces.{Marks, some_onto, each_marks, maybe_marks, annotation_marks, modifier_marks}
use Rattle.java_tree.specs.MethodPlaces.{result_places, parameter_marks, type_parameter_marks, type_parameters_marks}
use Rattle.java_tree.specs.MethodPlaces.{method_marks}
use Rattle.java_tree.specs.Trees.{Ty}
use Rattle.java_tree.specs.Trees as view
use Rattle.java_tree.specs.View.{ty_of, parameter_of, result_of, method_of, type_parameter_of, type_parameters_of}
use Rattle.java_tree.specs.View as viewed
use Rattle.java_tree.proofs.TypeCounts.{ty_count}
use Rattle.java_resolver.specs.Declarations.{further_arrays}
use Rattle.core_lowering_rules.specs.Conditions.{kept_of}
use Rattle.core_lowering_rules.specs.Methods.{body_of}
use Rattle.core_lowering_rules.specs.Trees.{Init, Stmts}
use Rattle.core_lowering_rules.specs.TreesOf.{init_of}
use Rattle.core_lowering_rules.proofs.FilledTrees.{Filled, filled, ident, behind, skip, skip_types, one, one-is, two-is}
use Rattle.core_lowering_rules.proofs.FilledTrees.{each, init, stmts}
use Rattle.core_lowering_rules.proofs.FilledExpressions.{behind-type, init-is}
use Rattle.core_lowering_rules.proofs.FilledExpressions.{types-behind}
use Rattle.core_lowering_rules.proofs.FilledStatements.{stmts-are}
use Rattle.core_lowering_rules.proofs.KeptMarks.{some-kept, each-passed, annotation-passed, modifier-passed}

-- the places of an initialiser that are kept make it
pub same_initialiser : (i j : Initialiser) → viewed.init_of i ≡ viewed.init_of j → init_places i [] ≡ init_places j []
    → init_of i ≡ init_of j
same_initialiser i j v p =
    let e : filled (init_of i) [] ≡ filled (init_of j) [] =
    sym (init-is i []) ∙ ap (λ x. init x (kept_of (init_places i []))) v
    ∙ ap (λ marks. init (viewed.init_of j) (kept_of marks)) p ∙ init-is j [] in
    ap (λ (g : Filled Init). g.tree) e

-- ---- what is seen of a method, beside its modifiers, its result and its body

pub record SeenParameter : Type 0 where
  pub kind : Ty
  pub further : ℕ
  pub name : Ident

pub record Seen : Type 0 where
  pub name : Ident
  pub parameters : List SeenParameter

abbrev pub seen_parameter : ParameterTree → SeenParameter
seen_parameter p = record { kind = ty_of p.kind; further = further_arrays p; name = p.name }

abbrev pub seen : MethodTree → Seen
seen m = record { name = m.name; parameters = map seen_parameter m.parameters }

-- ---- made from the tree without places

abbrev further_seen : view.Parameter → ℕ
further_seen p = if p.any_number then suc p.arrays else p.arrays

abbrev parameter : view.Parameter → Places → Filled SeenParameter
parameter p ps =
    filled (record { kind = p.kind; further = further_seen p; name = ident p.name (skip (ty_count p.kind) ps) })
    (behind (skip (ty_count p.kind) ps))

abbrev result_count : view.Result → ℕ
result_count view.NoResult = 0
result_count view.VoidResult = 0
result_count (view.TypeResult t) = ty_count t

abbrev made : Ident → List SeenParameter → Seen
made x ps = record { name = x; parameters = ps }

abbrev from_name : view.Method → Places → Filled Seen
from_name m ps = one (made (ident m.name ps)) (each parameter m.parameters (behind ps))

abbrev skip_listed : List view.TypeParameter → Places → Places
skip_listed [] ps = ps
skip_listed (p ∷ more) ps = skip_listed more (skip_types p.bounds (behind ps))

abbrev skip_parameters : Option view.TypeParameters → Places → Places
skip_parameters None ps = ps
skip_parameters (Some listed) ps = skip_listed listed.items ps

abbrev head : view.Method → Places → Filled Seen
head m ps = from_name m (skip (result_count m.result) (skip_parameters m.type_parameters ps))

-- behind the parameters
abbrev body : view.Method → Places → Filled Stmts
body m ps = stmts m.body (skip_types m.throws ps)

-- ---- the places that are kept

abbrev parameter_places : ParameterTree → Places → Places
parameter_places p rest = ty_places p.kind ++ (p.name.place ∷ rest)

abbrev each_of : {A : Type 0} → (A → Places → Places) → List A → Places → Places
each_of f [] rest = rest
each_of f (x ∷ xs) rest = f x (each_of f xs rest)

abbrev type_parameter_places : TypeParameterTree → Places → Places
type_parameter_places p rest = p.name.place ∷ (all_places (map ty_places p.bounds) ++ rest)

abbrev maybe_places : Option TypeParametersTree → Places → Places
maybe_places None rest = rest
maybe_places (Some ps) rest = each_of type_parameter_places ps.items rest

abbrev ends_of : MethodTree → Places
ends_of m = all_places (map ty_places m.throws) ++ kept_of (each_puts (map stmt_places m.body) [])

abbrev method_places : MethodTree → Places
method_places m =
    maybe_places m.type_parameters
    (result_places m.result ++ (m.name.place ∷ each_of parameter_places m.parameters (ends_of m)))

parameter-kept : (p : ParameterTree) (rest : Marks)
    → kept_of (parameter_marks p rest) ≡ parameter_places p (kept_of rest)
parameter-kept p rest =
    each-passed modifier_marks modifier-passed p.modifiers (some_onto (ty_places p.kind) (Some p.name.place ∷ rest))
    ∙ some-kept (ty_places p.kind) (Some p.name.place ∷ rest)

parameters-kept : (ps : List ParameterTree) (rest : Marks)
    → kept_of (each_marks parameter_marks ps rest) ≡ each_of parameter_places ps (kept_of rest)
parameters-kept [] rest = refl
parameters-kept (p ∷ ps) rest =
    parameter-kept p (each_marks parameter_marks ps rest) ∙ ap (parameter_places p) (parameters-kept ps rest)

type_parameter-kept : (p : TypeParameterTree) (rest : Marks)
    → kept_of (type_parameter_marks p rest) ≡ type_parameter_places p (kept_of rest)
type_parameter-kept p rest =
    let bounds = all_places (map ty_places p.bounds) in
    each-passed annotation_marks annotation-passed p.annotations (Some p.name.place ∷ some_onto bounds rest)
    ∙ ap (λ qs. p.name.place ∷ qs) (some-kept bounds rest)

listed-kept : (ps : List TypeParameterTree) (rest : Marks)
    → kept_of (each_marks type_parameter_marks ps rest) ≡ each_of type_parameter_places ps (kept_of rest)
listed-kept [] rest = refl
listed-kept (p ∷ ps) rest =
    type_parameter-kept p (each_marks type_parameter_marks ps rest)
    ∙ ap (type_parameter_places p) (listed-kept ps rest)

type_parameters-kept : (o : Option TypeParametersTree) (rest : Marks)
    → kept_of (maybe_marks type_parameters_marks o rest) ≡ maybe_places o (kept_of rest)
type_parameters-kept None rest = refl
type_parameters-kept (Some ps) rest =
    listed-kept ps.items (each_marks modifier_marks ps.modifiers rest)
    ∙ ap (each_of type_parameter_places ps.items) (each-passed modifier_marks modifier-passed ps.modifiers rest)

method-kept : (m : MethodTree) → kept_of (method_marks m) ≡ method_places m
method-kept m =
    let body = each_puts (map stmt_places m.body) [] in
    let throws = all_places (map ty_places m.throws) in
    let ends = some_onto throws body in
    let parameters = each_marks parameter_marks m.parameters ends in
    let behind_result = some_onto (result_places m.result) (Some m.name.place ∷ parameters) in
    each-passed modifier_marks modifier-passed m.modifiers
    (maybe_marks type_parameters_marks m.type_parameters behind_result)
    ∙ type_parameters-kept m.type_parameters behind_result
    ∙ ap (maybe_places m.type_parameters)
    (some-kept (result_places m.result) (Some m.name.place ∷ parameters)
    ∙ ap (λ qs. result_places m.result ++ (m.name.place ∷ qs))
    (parameters-kept m.parameters ends ∙ ap (each_of parameter_places m.parameters) (some-kept throws body)))

-- ---- a method is made from these

parameter-is : (p : ParameterTree) (rest : Places)
    → parameter (parameter_of p) (parameter_places p rest) ≡ filled (seen_parameter p) rest
parameter-is p rest =
    behind-type p.kind
    (λ ps.
    filled {A = SeenParameter}
    (record { kind = ty_of p.kind; further = further_arrays p; name = ident p.name.text ps }) (behind ps))
    (p.name.place ∷ rest) refl

parameters-are : (ps : List ParameterTree) (rest : Places)
    → each parameter (map parameter_of ps) (each_of parameter_places ps rest)
    ≡ filled (map seen_parameter ps) rest
parameters-are [] rest = refl
parameters-are (p ∷ ps) rest =
    two-is (λ (x : SeenParameter) xs. x ∷ xs) (each parameter (map parameter_of ps))
    (parameter-is p (each_of parameter_places ps rest)) (parameters-are ps rest)

result-behind : (r : ResultTree) (ps : Places) → skip (result_count (result_of r)) (result_places r ++ ps) ≡ ps
result-behind result.Constructor ps = refl
result-behind result.Void ps = refl
result-behind (result.Of t) ps = ap (λ (g : Filled Places). g.tree) (behind-type t (λ qs. filled qs []) ps refl)

listed-behind : (ps : List TypeParameterTree) (rest : Places)
    → skip_listed (map type_parameter_of ps) (each_of type_parameter_places ps rest) ≡ rest
listed-behind [] rest = refl
listed-behind (p ∷ ps) rest =
    ap (skip_listed (map type_parameter_of ps)) (types-behind p.bounds (each_of type_parameter_places ps rest))
    ∙ listed-behind ps rest

parameters-behind : (o : Option TypeParametersTree) (rest : Places)
    → skip_parameters (option_map type_parameters_of o) (maybe_places o rest) ≡ rest
parameters-behind None rest = refl
parameters-behind (Some ps) rest = listed-behind ps.items rest

head-is : (m : MethodTree) → head (method_of m) (method_places m) ≡ filled (seen m) (ends_of m)
head-is m =
    let v = method_of m in
    let from = m.name.place ∷ each_of parameter_places m.parameters (ends_of m) in
    ap (from_name v)
    (ap (skip (result_count v.result)) (parameters-behind m.type_parameters (result_places m.result ++ from))
    ∙ result-behind m.result from)
    ∙ one-is (made m.name) (parameters-are m.parameters (ends_of m))

heads-alike : (m n : MethodTree) → method_of m ≡ method_of n → method_marks m ≡ method_marks n
    → filled (seen m) (ends_of m) ≡ filled (seen n) (ends_of n)
heads-alike m n v k =
    let places : method_places m ≡ method_places n = sym (method-kept m) ∙ ap kept_of k ∙ method-kept n in
    sym (head-is m) ∙ ap (λ x. head x (method_places m)) v ∙ ap (head (method_of n)) places ∙ head-is n

pub same_seen : (m n : MethodTree) → method_of m ≡ method_of n → method_marks m ≡ method_marks n → seen m ≡ seen n
same_seen m n v k = ap (λ (g : Filled Seen). g.tree) (heads-alike m n v k)

-- ---- the body

body-is : (m : MethodTree) → body (method_of m) (ends_of m) ≡ filled (body_of m) []
body-is m =
    let v = method_of m in
    ap (stmts v.body) (types-behind m.throws (kept_of (each_puts (map stmt_places m.body) [])))
    ∙ stmts-are m.body []

pub same_body : (m n : MethodTree) → method_of m ≡ method_of n → method_marks m ≡ method_marks n
    → body_of m ≡ body_of n
same_body m n v k =
    let ends : ends_of m ≡ ends_of n = ap (λ (g : Filled Seen). g.left) (heads-alike m n v k) in
    let e : filled (body_of m) [] ≡ filled (body_of n) [] =
    sym (body-is m) ∙ ap (λ x. body x (ends_of m)) v ∙ ap (body (method_of n)) ends ∙ body-is n in
    ap (λ (g : Filled Stmts). g.tree) e
