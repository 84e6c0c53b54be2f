-- A contract of a public call rests on this: the names of type parameters (JLS 8.4.4).
use Rattle.std.specs.Prelude.{ℕ, List, [], Option, Some, None, map}
use Rattle.java_tree.specs.declared.methods.TypeParameterTree.{TypeParameterTree}
use Rattle.java_tree.specs.declared.methods.TypeParametersTree.{TypeParametersTree}

abbrev pub parameter_name : TypeParameterTree → List ℕ
parameter_name p = p.name.text

abbrev pub parameter_names : Option TypeParametersTree → List (List ℕ)
parameter_names None = []
parameter_names (Some ps) = map parameter_name ps.items
