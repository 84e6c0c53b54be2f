-- Two methods with one view keep the places of the same tokens.
use Rattle.std.proofs.Common.{◌≡◌, true, [], ◌∷◌, Some, map, sym, ap, refl, ◌∙◌}
use Rattle.java_tree.specs.declared.methods.ResultTree.{ResultTree}
use Rattle.java_tree.specs.declared.methods.ResultTree.TheVariants as result
use Rattle.java_tree.specs.declared.methods.ParameterTree.{ParameterTree}
use Rattle.java_tree.specs.declared.methods.TypeParameterTree.{TypeParameterTree}
use Rattle.java_tree.specs.declared.methods.TypeParametersTree.{TypeParametersTree}
use Rattle.java_tree.specs.declared.methods.MethodTree.{MethodTree}
use Rattle.java_tree.specs.KeptPlaces.{Places, AreAt, some_onto, each_marks, maybe_marks, each_puts}
use Rattle.java_tree.specs.KeptPlaces.{ty_places, types_places, annotation_marks, modifier_marks, stmt_places}
use Rattle.java_tree.specs.MethodPlaces.{result_places, parameter_marks, type_parameter_marks, type_parameters_marks}
use Rattle.java_tree.specs.MethodPlaces.{method_marks}
use Rattle.java_tree.specs.Trees.{Result, NoResult, VoidResult, TypeResult, Parameter, TypeParameter, TypeParameters}
use Rattle.java_tree.specs.Trees.{Method}
use Rattle.java_tree.specs.View.{annotation_of, modifier_of, result_of, parameter_of, type_parameter_of}
use Rattle.java_tree.specs.View.{type_parameters_of, method_of}
use Rattle.java_parser_expressions.proofs.MarkShapes.{Shape, shape_of, one_at, Fits, each_shape, maybe_shape}
use Rattle.java_parser_expressions.proofs.MarkShapes.{annotation_shape, modifier_shape, ty_shape, ty_fits, tys_fit}
use Rattle.java_parser_expressions.proofs.MarkShapes.{annotation_fits, modifiers_fit, each_mark_fits, maybe_mark_fits}
use Rattle.java_parser_methods.proofs.StatementShapes.{stmts_shape, all_stmts_fit}

-- ---- shapes

abbrev result_shape : Result → Shape → Shape
result_shape NoResult rest = rest
result_shape VoidResult rest = rest
result_shape (TypeResult t) rest = ty_shape t rest

abbrev parameter_shape : Parameter → Shape → Shape
parameter_shape p rest = each_shape modifier_shape p.modifiers (ty_shape p.kind (true ∷ rest))

abbrev type_parameter_shape : TypeParameter → Shape → Shape
type_parameter_shape p rest =
    each_shape annotation_shape p.annotations (true ∷ each_shape ty_shape p.bounds rest)

abbrev type_parameters_shape : TypeParameters → Shape → Shape
type_parameters_shape ps rest =
    each_shape type_parameter_shape ps.items (each_shape modifier_shape ps.modifiers rest)

abbrev signature_shape : Method → Shape → Shape
signature_shape m rest =
    true ∷ each_shape parameter_shape m.parameters (each_shape ty_shape m.throws (stmts_shape m.body rest))

abbrev method_shape : Method → Shape
method_shape m =
    each_shape modifier_shape m.modifiers (maybe_shape type_parameters_shape m.type_parameters
    (result_shape m.result (signature_shape m [])))

-- ---- the marks of a method have its shape

result_fits : (r : ResultTree) → Fits (some_onto (result_places r)) (result_shape (result_of r))
result_fits result.Constructor rest = refl
result_fits result.Void rest = refl
result_fits (result.Of t) rest = ty_fits t rest

parameter_fits : (p : ParameterTree) → Fits (parameter_marks p) (parameter_shape (parameter_of p))
parameter_fits p rest =
    modifiers_fit p.modifiers (some_onto (ty_places p.kind) (Some p.name.place ∷ rest))
    ∙ ap (each_shape modifier_shape (map modifier_of p.modifiers)) (ty_fits p.kind (Some p.name.place ∷ rest))

type_parameter_fits : (p : TypeParameterTree)
    → Fits (type_parameter_marks p) (type_parameter_shape (type_parameter_of p))
type_parameter_fits p rest =
    each_mark_fits annotation_of annotation_marks annotation_shape annotation_fits p.annotations
    (Some p.name.place ∷ types_places p.bounds rest)
    ∙ ap (λ (s : Shape). each_shape annotation_shape (map annotation_of p.annotations) (true ∷ s))
    (tys_fit p.bounds rest)

type_parameters_fit : (ps : TypeParametersTree)
    → Fits (type_parameters_marks ps) (type_parameters_shape (type_parameters_of ps))
type_parameters_fit ps rest =
    each_mark_fits type_parameter_of type_parameter_marks type_parameter_shape type_parameter_fits ps.items
    (each_marks modifier_marks ps.modifiers rest)
    ∙ ap (each_shape type_parameter_shape (map type_parameter_of ps.items)) (modifiers_fit ps.modifiers rest)

method_fits : (m : MethodTree) → shape_of (method_marks m) ≡ method_shape (method_of m)
method_fits m =
    let body = each_puts (map stmt_places m.body) [] in
    let thrown = types_places m.throws body in
    let signature = Some m.name.place ∷ each_marks parameter_marks m.parameters thrown in
    let given = some_onto (result_places m.result) signature in
    let v = method_of m in
    modifiers_fit m.modifiers (maybe_marks type_parameters_marks m.type_parameters given)
    ∙ ap (each_shape modifier_shape v.modifiers) (maybe_mark_fits type_parameters_of type_parameters_marks
    type_parameters_shape type_parameters_fit m.type_parameters given
    ∙ ap (maybe_shape type_parameters_shape v.type_parameters) (result_fits m.result signature
    ∙ ap (λ (s : Shape). result_shape v.result (true ∷ s)) (each_mark_fits parameter_of parameter_marks parameter_shape
    parameter_fits m.parameters thrown ∙ ap (each_shape parameter_shape v.parameters) (tys_fit m.throws body
    ∙ ap (each_shape ty_shape v.throws) (all_stmts_fit m.body [])))))

pub same_marks : (a b : MethodTree) (ps : Places) → method_of a ≡ method_of b → AreAt (method_marks a) ps
    → AreAt (method_marks b) ps → method_marks a ≡ method_marks b
same_marks a b ps e x y =
    one_at (method_marks a) (method_marks b) ps (method_fits a ∙ (ap method_shape e ∙ sym (method_fits b))) x y
