-- The places that are kept among marks: a tree is made from these alone.
use Rattle.std.proofs.Common.{◌≡◌, Bool, true, false, cond, List, [], ◌∷◌, ◌++◌, None, refl, ap, ◌∙◌}
use Rattle.java_tree.specs.declared.words.Spelled.{Spelled}
use Rattle.java_tree.specs.declared.methods.AnnotationTree.{AnnotationTree}
use Rattle.java_tree.specs.declared.methods.ModifierTree as modifiers
use Rattle.java_tree.specs.declared.methods.ModifierTree.TheVariants as modifier
use Rattle.java_tree.specs.KeptPlaces.{Places, Marks, is_kept, some_onto, each_marks, no_place, no_places, no_name}
use Rattle.java_tree.specs.KeptPlaces.{annotation_marks, modifier_marks}
use Rattle.java_tree.specs.Words.{keyword}
use Rattle.core_lowering_rules.specs.Conditions.{kept_of}

pub some-kept : (ps : Places) (rest : Marks) → kept_of (some_onto ps rest) ≡ ps ++ kept_of rest
some-kept [] rest = refl
some-kept (p ∷ ps) rest = ap (λ qs. p ∷ qs) (some-kept ps rest)

pub each-passed : {A : Type 0} (f : A → Marks → Marks) → ((x : A) (rest : Marks) → kept_of (f x rest) ≡ kept_of rest)
    → (xs : List A) (rest : Marks) → kept_of (each_marks f xs rest) ≡ kept_of rest
each-passed f step [] rest = refl
each-passed f step (x ∷ xs) rest = step x (each_marks f xs rest) ∙ each-passed f step xs rest

unkept : (b : Bool) (rest : Marks) → kept_of (cond b (None ∷ rest) rest) ≡ kept_of rest
unkept true rest = refl
unkept false rest = refl

-- what is held as tokens keeps none
pub token-passed : (t : Spelled) (rest : Marks) → kept_of (no_place t rest) ≡ kept_of rest
token-passed t rest = unkept (is_kept t.kind t.text) rest

pub tokens-passed : (ts : List Spelled) (rest : Marks) → kept_of (no_places ts rest) ≡ kept_of rest
tokens-passed ts rest = each-passed no_place token-passed ts rest

pub annotation-passed : (n : AnnotationTree) (rest : Marks) → kept_of (annotation_marks n rest) ≡ kept_of rest
annotation-passed n rest =
    each-passed no_name (λ x more. refl) n.names (each_marks no_place n.arguments rest)
    ∙ tokens-passed n.arguments rest

pub modifier-passed : (m : modifiers.ModifierTree) (rest : Marks) → kept_of (modifier_marks m rest) ≡ kept_of rest
modifier-passed (modifier.Word text) rest = token-passed (keyword text) rest
modifier-passed (modifier.Annotated n) rest = annotation-passed n rest
