-- A contract of a public call rests on this: what is seen of a program, lists of files, skipped places, classes,
-- fields and methods, code being plain trees.
use Rattle.std.specs.Prelude.{ℕ, Bool, List, Option, map}
use Rattle.racer_base.specs.declared.ids.ClassId.{ClassId}
use Rattle.racer_base.specs.declared.ids.Kind.{Kind}
use Rattle.racer_base.specs.declared.ids.Place.{Place}
use Rattle.core_code.specs.declared.code.Reason.{Reason}
use Rattle.core_code.specs.declared.parts.ClassCore.{ClassCore}
use Rattle.core_code.specs.declared.parts.FieldCore.{FieldCore}
use Rattle.core_code.specs.declared.parts.MethodCore.{MethodCore}
use Rattle.core_code.specs.declared.parts.Parts.{Parts}
use Rattle.core_code.specs.Tree.{Tree, tree_of}

-- a method, as its type in the code has it, with its code as a tree
pub record Method : Type 0 where
  pub class : ClassId
  pub name : List ℕ
  pub place : Place
  pub parameters : List Kind
  pub result : Kind
  pub variables : List Kind
  pub is_static : Bool
  pub entry : Bool
  pub main : Bool
  pub status : Option Reason
  pub code : Tree

pub record Core : Type 0 where
  pub files : List (List ℕ)
  pub skipped : List Place
  pub classes : List ClassCore
  pub fields : List FieldCore
  pub methods : List Method

abbrev pub method_of : MethodCore → Method
method_of m =
    record {
      class = m.class;
      name = m.name;
      place = m.place;
      parameters = m.parameters;
      result = m.result;
      variables = m.variables;
      is_static = m.is_static;
      entry = m.entry;
      main = m.main;
      status = m.status;
      code = tree_of m.code;
    }

-- what is seen of a program of these parts
abbrev pub core_of : Parts → Core
core_of parts =
    record {
      files = parts.files;
      skipped = parts.skipped;
      classes = parts.classes;
      fields = parts.fields;
      methods = map method_of parts.methods;
    }
