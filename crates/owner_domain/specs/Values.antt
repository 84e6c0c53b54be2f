-- A contract of a public call rests on this: values, and what is left of two where two ways meet.
use Rattle.std.specs.Prelude.{Bool, true, false, not, List, [], ◌∷◌, ◌++◌, Option, None, Some, if◌then◌else◌}
use Rattle.racer_base.specs.declared.ids.FieldId.{FieldId}
use Rattle.access_paths.specs.declared.path.Path.{Path}
use Rattle.access_paths.specs.Paths.{same_path, extended, is_some_root}
use Rattle.owner_domain.specs.declared.value.Value.{Value}
use Rattle.owner_domain.specs.declared.value.Value.TheVariants.{Owned, Named, Unnamed}
use Rattle.owner_domain.specs.declared.value.State.{State}

-- the path of a named value, and no path of another
abbrev pub names_of : Value → List Path
names_of (Named p) = p ∷ []
names_of Owned = []
names_of Unnamed = []

-- whether a value has no path, or one that begins at something known and not at some object of a class
abbrev pub has_known_root : Value → Bool
has_known_root (Named p) = not (is_some_root p.root)
has_known_root Owned = true
has_known_root Unnamed = true

-- what a path names that exists; a path that would be too long names nothing
abbrev pub named_or_unnamed : Option Path → Value
named_or_unnamed None = Unnamed
named_or_unnamed (Some p) = Named p

-- the value of a field of a value: a named one lengthens its path
abbrev pub field_value : Value → FieldId → Value
field_value Owned f = Owned
field_value Unnamed f = Unnamed
field_value (Named p) f = named_or_unnamed (extended p f)

-- the same by these fields in turn
abbrev pub along : Value → List FieldId → Value
along v [] = v
along v (f ∷ fs) = along (field_value v f) fs

abbrev pub same_value : Value → Value → Bool
same_value Owned Owned = true
same_value Unnamed Unnamed = true
same_value (Named p) (Named q) = same_path p q
same_value _ _ = false

-- Two equal values join to themselves. Two different ones join to Unnamed, and each name among them is lost.
abbrev pub joined : Value → Value → Value
joined a b = if same_value a b then a else Unnamed

abbrev pub lost : Value → Value → List Path
lost a b = if same_value a b then [] else names_of a ++ names_of b

-- lists of values slot by slot
abbrev pub joined_values : List Value → List Value → List Value
joined_values (a ∷ rest) (b ∷ others) = joined a b ∷ joined_values rest others
joined_values _ _ = []

abbrev pub lost_values : List Value → List Value → List Path
lost_values (a ∷ rest) (b ∷ others) = lost a b ++ lost_values rest others
lost_values _ _ = []

-- states slot by slot
abbrev pub joined_state : State → State → State
joined_state s t = record { vars = joined_values s.vars t.vars; stack = joined_values s.stack t.stack }

abbrev pub lost_state : State → State → List Path
lost_state s t = lost_values s.vars t.vars ++ lost_values s.stack t.stack
