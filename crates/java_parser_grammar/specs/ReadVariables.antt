-- A contract of a public call rests on this: a field without the places in its tree.
use Rattle.std.specs.Prelude.{ℕ, List, Option, Some, None}
use Rattle.racer_base.specs.declared.ids.Place.{Place}
use Rattle.java_tree.specs.declared.methods.FieldVariable.{FieldVariable}
use Rattle.java_tree.specs.declared.methods.FieldInitialiser.{FieldInitialiser}
use Rattle.java_tree.specs.declared.methods.FieldInitialiser.TheVariants.{Absent, Formed, Unread}
use Rattle.java_tree.specs.Trees.{Init}
use Rattle.java_tree.specs.View.{init_of}

-- what it begins with, where it has a tree; one that is not read and one with nothing have none here
abbrev pub initialiser_of : FieldInitialiser → Option Init
initialiser_of Absent = None
initialiser_of (Formed i) = Some (init_of i)
initialiser_of Unread = None

-- one that is read is its name, the place of this, and its tree
pub record ReadVariable : Type 0 where
  pub name : List ℕ
  pub place : Place
  pub initialiser : Option Init

abbrev pub read_of : FieldVariable → ReadVariable
read_of v = record { name = v.name.text; place = v.name.place; initialiser = initialiser_of v.initialiser }
