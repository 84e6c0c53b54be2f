-- A contract of a public call rests on this: the places that the tree of a method keeps, in the order of its tokens. It
-- keeps none of what stands in its modifiers and annotations.
use Rattle.std.specs.Prelude.{[], ◌∷◌, Some, map}
use Rattle.java_tree.specs.declared.methods.ResultTree.{ResultTree}
use Rattle.java_tree.specs.declared.methods.ResultTree.TheVariants as result
use Rattle.java_tree.specs.declared.methods.ParameterTree.{ParameterTree}
use Rattle.java_tree.specs.declared.methods.TypeParameterTree.{TypeParameterTree}
use Rattle.java_tree.specs.declared.methods.TypeParametersTree.{TypeParametersTree}
use Rattle.java_tree.specs.declared.methods.MethodTree.{MethodTree}
use Rattle.java_tree.specs.KeptPlaces.{Places, Marks, some_onto, each_marks, maybe_marks, annotation_marks}
use Rattle.java_tree.specs.KeptPlaces.{modifier_marks, all_places, each_puts, ty_places, stmt_places}

abbrev pub result_places : ResultTree → Places
result_places result.Constructor = []
result_places result.Void = []
result_places (result.Of t) = ty_places t

abbrev pub parameter_marks : ParameterTree → Marks → Marks
parameter_marks p rest =
    each_marks modifier_marks p.modifiers (some_onto (ty_places p.kind) (Some p.name.place ∷ rest))

abbrev pub type_parameter_marks : TypeParameterTree → Marks → Marks
type_parameter_marks p rest =
    each_marks annotation_marks p.annotations (Some p.name.place ∷ some_onto (all_places (map ty_places p.bounds)) rest)

abbrev pub type_parameters_marks : TypeParametersTree → Marks → Marks
type_parameters_marks ps rest =
    each_marks type_parameter_marks ps.items (each_marks modifier_marks ps.modifiers rest)

-- those of a method, in the order of its tokens
abbrev pub method_marks : MethodTree → Marks
method_marks m =
    each_marks modifier_marks m.modifiers (maybe_marks type_parameters_marks m.type_parameters
    (some_onto (result_places m.result) (Some m.name.place ∷
    each_marks parameter_marks m.parameters
    (some_onto (all_places (map ty_places m.throws)) (each_puts (map stmt_places m.body) [])))))
