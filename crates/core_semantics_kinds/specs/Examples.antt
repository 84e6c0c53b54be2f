-- No public contract rests on this: a small program, lowered by hand, on which the definitions are tried:
--     class Box {
--       Card card;
--       static Card shared;
--       int n;
--       void take(Card given, int count) { }
--     }
--     class Card {
--       Box owner;
--       Object other;
--     }
use Rattle.std.specs.Prelude.{Bool, true, false, List, [], ◌∷◌, codes}
use Rattle.racer_base.specs.declared.ids.ClassId.{ClassId}
use Rattle.racer_base.specs.declared.ids.FieldId.{FieldId}
use Rattle.racer_base.specs.declared.ids.Kind.{Kind}
use Rattle.racer_base.specs.declared.ids.Kind.TheVariants.{Plain, Declared, Other}
use Rattle.core_code.specs.declared.parts.FieldCore.{FieldCore}
use Rattle.core_code.specs.Core.{Core, Method}
use Rattle.core_code.specs.Pair.{class_pair, method_put}
use Rattle.core_semantics.specs.declared.object.Object.TheVariants.{Start as StartOf}
use Rattle.core_semantics.specs.declared.object.StartPath.{StartPath}
use Rattle.core_semantics.specs.declared.object.StartRoot.{StartRoot}
use Rattle.core_semantics.specs.declared.object.Value.{Value}
use Rattle.core_semantics.specs.declared.object.Value.TheVariants.{Object as Ref}
use Rattle.core_semantics_kinds.specs.Reached.{Roots, roots_of}

abbrev pub box : ClassId
box = record { 0 = 0 }

abbrev pub card : ClassId
card = record { 0 = 1 }

-- the fields of the two classes, in this order, and one that there is not
abbrev pub card_of : FieldId
card_of = record { 0 = 0 }

abbrev pub shared : FieldId
shared = record { 0 = 1 }

abbrev pub n_of : FieldId
n_of = record { 0 = 2 }

abbrev pub owner : FieldId
owner = record { 0 = 3 }

abbrev pub other : FieldId
other = record { 0 = 4 }

abbrev pub no_field : FieldId
no_field = record { 0 = 5 }

abbrev field_in : ClassId → Kind → Bool → FieldCore
field_in class kind is_static = record { class = class; name = []; kind = kind; is_static = is_static; recorded = true }

abbrev pub take : Method
take = record method_put { parameters = Declared card ∷ Plain ∷ [] }

abbrev pub boxes : Core
boxes =
    record {
      files = codes "Box.java" ∷ [];
      skipped = [];
      classes = record class_pair { name = codes "Box" } ∷ record class_pair { name = codes "Card" } ∷ [];
      fields =
          field_in box (Declared card) false ∷ field_in box (Declared card) true ∷ field_in box Plain false
          ∷ field_in card (Declared box) false ∷ field_in card Other false ∷ [];
      methods = take ∷ [];
    }

-- two threads enter the method
abbrev pub taking : Roots
taking = roots_of take take

abbrev pub from : StartRoot → List FieldId → StartPath
from root fields = record { root = root; fields = fields }

abbrev pub object_from : StartRoot → List FieldId → Value
object_from root fields = Ref (StartOf (from root fields))
