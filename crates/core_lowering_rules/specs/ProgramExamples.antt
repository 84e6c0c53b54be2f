-- No public contract rests on this: small units, and what their programs are.
use Rattle.std.specs.Prelude.{ℕ, false, List, [], ◌∷◌, Option, codes, map, replicate}
use Rattle.java_tree.specs.declared.methods.ResultTree.{ResultTree}
use Rattle.java_tree.specs.declared.methods.ResultTree.TheVariants.{Void}
use Rattle.java_tree.specs.declared.unit.Unit.{Unit}
use Rattle.java_tree.specs.declared.unit.Member.{Member}
use Rattle.java_tree.specs.declared.unit.ClassTree.{ClassTree}
use Rattle.java_tree.specs.declared.unit.HeadResult.TheVariants as head
use Rattle.java_tree.specs.declared.unit.Member.TheVariants.{Method, Field, Skipped}
use Rattle.java_resolver.specs.NameExamples.{annotation, tree, words, method_tree, parameter, int, unit, at, ints}
use Rattle.java_resolver.specs.NameExamples.{absent, outside}
use Rattle.core_code.specs.declared.code.Reason.{Reason}
use Rattle.core_code.specs.Core as core
use Rattle.core_code.specs.Tree.{Tree}
use Rattle.container_cells.specs.declared.cell.Containers.TheVariants.{Opaque}
use Rattle.core_lowering_rules.specs.Programs.{program_of}

-- a class A that is checked, with these members
abbrev pub checked_class : List Member → List Unit
checked_class members = unit (tree (codes "A") 7 (annotation (codes "ThreadSafe" ∷ []) ∷ []) members ∷ []) ∷ []

-- a method with an empty body, with these words and so many parameters
abbrev pub empty_method : List (List ℕ) → ResultTree → List ℕ → ℕ → Member
empty_method modifiers result name parameters =
    Method (method_tree (words modifiers) result name (replicate parameters (parameter (int 0))))

abbrev pub void_method : List ℕ → Member
void_method name = empty_method [] Void name 0

-- the methods of the program of one file, where none is recursive
abbrev pub methods_of : List Unit → List core.Method
methods_of units = (program_of Opaque (codes "A.java" ∷ []) units (λ m. false)).methods

abbrev pub statuses_of : List Unit → List (Option Reason)
statuses_of units = map (λ (m : core.Method). m.status) (methods_of units)

abbrev pub codes_of : List Unit → List Tree
codes_of units = map (λ (m : core.Method). m.code) (methods_of units)

-- a class with a member of each form, each of its places at another column
abbrev pub placed_class : ClassTree
placed_class =
    tree (codes "A") 7 []
    (void_method (codes "f") ∷ Field (ints [] (absent (codes "x") 3 ∷ [])) ∷ outside (codes "g") 5 head.Void false
    ∷ Skipped (at 6) ∷ [])

abbrev pub placed_unit : Unit
placed_unit = unit (placed_class ∷ [])
