-- No public contract rests on this: small classes, fields, methods and scopes for worked rows.
use Rattle.std.specs.Prelude.{ℕ, Bool, true, false, List, [], None, codes, length, replicate, map}
use Rattle.racer_base.specs.declared.ids.ClassId.{ClassId}
use Rattle.racer_base.specs.declared.ids.Kind.TheVariants as kind
use Rattle.racer_base.specs.declared.ids.Place.{Place}
use Rattle.java_tree.specs.declared.types.TypeTree.{TypeTree}
use Rattle.java_tree.specs.declared.types.BaseType as base
use Rattle.java_tree.specs.declared.words.Ident.{Ident}
use Rattle.java_tree.specs.declared.methods.AnnotationTree.{AnnotationTree}
use Rattle.java_tree.specs.declared.methods.ModifierTree.{ModifierTree}
use Rattle.java_tree.specs.declared.methods.ModifierTree.TheVariants.{Word}
use Rattle.java_tree.specs.declared.methods.FieldInitialiser.TheVariants.{Absent}
use Rattle.java_tree.specs.declared.methods.FieldTree.{FieldTree}
use Rattle.java_tree.specs.declared.methods.FieldVariable.{FieldVariable}
use Rattle.java_tree.specs.declared.methods.MethodTree.{MethodTree}
use Rattle.java_tree.specs.declared.methods.ParameterTree.{ParameterTree}
use Rattle.java_tree.specs.declared.methods.ResultTree.{ResultTree}
use Rattle.java_tree.specs.Spelling.{spelling}
use Rattle.java_tree.specs.Trees.{Ty, Typed, Named, no_part, part_then, Part}
use Rattle.java_tree.specs.View.{method_of}
use Rattle.java_tree.specs.declared.unit.Unit.{Unit}
use Rattle.java_tree.specs.declared.unit.ClassTree.{ClassTree}
use Rattle.java_tree.specs.declared.unit.Member.{Member}
use Rattle.java_tree.specs.declared.unit.Member.TheVariants.{Outside}
use Rattle.java_tree.specs.declared.unit.HeadResult.{HeadResult}
use Rattle.java_resolver.specs.Words.{has_word}
use Rattle.java_resolver.specs.declared.infos.ClassInfo.{ClassInfo}
use Rattle.java_resolver.specs.declared.infos.FieldInfo.{FieldInfo}
use Rattle.java_resolver.specs.declared.infos.MethodInfo.{MethodInfo}
use Rattle.java_resolver.specs.declared.scope.Scope.{Scope}
use Rattle.java_resolver.specs.declared.scope.ScopeVariable.{ScopeVariable}

abbrev pub at : ℕ → Place
at column = record { file = record { 0 = 0 }; line = 1; column = column }

abbrev pub class : ℕ → ClassId
class n = record { 0 = n }

-- ---- types

abbrev pub named_type : Part → Ty
named_type part = Typed (Named (part_then part no_part)) 0

-- ---- trees

abbrev pub annotation : List (List ℕ) → AnnotationTree
annotation names = record { names = names; arguments = [] }

-- a class of these annotations and members, named at this column
abbrev pub tree : List ℕ → ℕ → List AnnotationTree → List Member → ClassTree
tree name column annotations members =
    record { name = name; place = at column; annotations = annotations; members = members }

-- an `int`, or more, with so many `[ ]`
abbrev pub int : ℕ → TypeTree
int arrays = record { base = base.Plain (codes "int"); arrays = arrays }

abbrev pub words : List (List ℕ) → List ModifierTree
words = map Word

abbrev pub ident : List ℕ → ℕ → Ident
ident name column = record { text = name; place = at column }

-- fields of type `int` with these modifiers
abbrev pub ints : List (List ℕ) → List FieldVariable → FieldTree
ints modifiers variables = record { modifiers = words modifiers; kind = int 0; variables = variables }

abbrev pub absent : List ℕ → ℕ → FieldVariable
absent name column = record { name = ident name column; initialiser = Absent }

-- with this count of tokens
abbrev counted_tree : List ModifierTree → ResultTree → List ℕ → List ParameterTree → ℕ → MethodTree
counted_tree modifiers result name parameters count =
    record {
      modifiers = modifiers;
      type_parameters = None;
      result = result;
      name = ident name 9;
      parameters = parameters;
      arrays = 0;
      throws = [];
      body = [];
      has_synchronized = has_word (codes "synchronized") modifiers;
      tokens = count;
    }

-- a method or constructor with an empty body: `synchronized` stands in it where it is one of the modifiers
abbrev pub method_tree : List ModifierTree → ResultTree → List ℕ → List ParameterTree → MethodTree
method_tree modifiers result name parameters =
    counted_tree modifiers result name parameters
    (length (spelling (method_of (counted_tree modifiers result name parameters 0))))

abbrev pub parameter : TypeTree → ParameterTree
parameter kind =
    record { modifiers = []; kind = kind; any_number = false; name = ident (codes "p") 12; arrays = 0 }

-- a method that no tree spells, with or without the word `synchronized` in it
abbrev pub outside : List ℕ → ℕ → HeadResult → Bool → Member
outside name column result locks =
    Outside (record {
      name = name;
      place = at column;
      is_static = true;
      has_synchronized = locks;
      result = result;
      parameters = 2;
    })

abbrev pub unit : List ClassTree → Unit
unit classes = record { classes = classes; skipped = [] }

-- ---- what is known

abbrev pub info : List ℕ → ℕ → ClassInfo
info name column = record { name = name; place = at column; checked = false }

abbrev pub field : ℕ → List ℕ → ℕ → Bool → FieldInfo
field c name column is_static =
    record {
      class = class c;
      name = name;
      place = at column;
      kind = kind.Plain;
      is_static = is_static;
      is_final = false;
      is_volatile = false;
      is_lock = false;
      family = None;
    }

abbrev pub method : ℕ → List ℕ → ℕ → ℕ → MethodInfo
method c name column parameters =
    record {
      class = class c;
      name = name;
      place = at column;
      parameters = replicate parameters kind.Plain;
      any_number = false;
      result = kind.Plain;
      is_static = false;
      is_private = false;
      is_constructor = false;
      main = false;
      not_thread_safe = false;
      hidden = [];
    }

-- whose last parameter takes any number of arguments
abbrev pub method_with_any : ℕ → List ℕ → ℕ → ℕ → MethodInfo
method_with_any c name column parameters = record (method c name column parameters) { any_number = true }

-- ---- scopes

abbrev pub variable : List ℕ → ℕ → ScopeVariable
variable name n = record { name = name; id = record { 0 = n }; kind = kind.Plain; is_lock = false }

abbrev pub scope : ℕ → Bool → List ScopeVariable → Scope
scope c is_static variables = record { class = class c; is_static = is_static; hidden = []; variables = variables }
