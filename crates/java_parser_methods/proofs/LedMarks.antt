-- From the places of some tokens to those behind what was read of a method or of a variable.
use Rattle.std.proofs.Common.{◌≡◌, [], ◌∷◌, ◌++◌, Some, ◌∙◌, sym, subst}
use Rattle.racer_base.specs.declared.ids.Place.{Place}
use Rattle.java_tree.specs.KeptPlaces.{Places, Marks, some_onto, AreAt}
use Rattle.java_parser_types.specs.LedPlaces.{Leads, LeadsOn}
use Rattle.java_parser_types.proofs.LedMarks.{some_led}

-- ---- methods

-- the modifiers of a method, its type parameters and what it gives
pub front_led : (modifiers types : Marks → Marks) (qs : Places) (here at on left : Places) → Leads modifiers here at
    → Leads types at on → qs ++ left ≡ on → Leads (λ rest. modifiers (types (some_onto qs rest))) here left
front_led modifiers types qs here at on left first second given =
    λ rest a. first (types (some_onto qs rest)) (second (some_onto qs rest) (some_led qs left on given rest a))

-- what was read between two tokens whose places are not kept
pub enclosed_led : (read : Marks → Marks) (here at left end : Places) → at ≡ here → Leads read at left → end ≡ left
    → Leads read here end
enclosed_led read here at left end opening led closing =
    λ rest a. subst (λ (ps : Places). AreAt (read rest) ps) opening (led rest
    (subst (λ (ps : Places). AreAt rest ps) closing a))

-- a method's name, its parameters and its exceptions
pub signature_led : (parameters : Marks → Marks) (p : Place) (thrown here opened closed arrayed left : Places)
    → p ∷ opened ≡ here → Leads parameters opened closed → arrayed ≡ closed → thrown ++ left ≡ arrayed
    → Leads (λ rest. Some p ∷ parameters (some_onto thrown rest)) here left
signature_led parameters p thrown here opened closed arrayed left name given brackets exceptions =
    λ rest a. some_led (p ∷ []) opened here name (parameters (some_onto thrown rest)) (given (some_onto thrown rest)
    (some_led thrown left closed (exceptions ∙ brackets) rest a))

-- what stands up to a method's body, and its body with nothing behind it
pub whole_at : (read signature : Marks → Marks) (body : Marks) (here at left : Places) → Leads read here at
    → Leads signature at left → AreAt body left → AreAt (read (signature body)) here
whole_at read signature body here at left so_far signed ended = so_far (signature body) (signed body ended)

-- ---- variables

-- a name behind what was read before
pub named_led : (front whole : Marks → Marks) (p : Place) (here left : Places) → p ∷ left ≡ here
    → ((rest : Marks) → whole rest ≡ front (Some p ∷ rest)) → LeadsOn front whole here left
named_led front whole p here left name same =
    λ start given rest a. subst (λ (ms : Marks). AreAt ms start) (sym (same rest)) (given (Some p ∷ rest)
    (some_led (p ∷ []) left here name rest a))
