-- Sides that are made of their parts, or of none.
use Rattle.std.proofs.Common.{◌≡◌, List, Option, None, Some, option_map, sym, ap, ◌∙◌}
use Rattle.racer_base.specs.declared.ids.Place.{Place}
use Rattle.core_code.specs.Core.{Core, Method}
use Rattle.race_report_sides.specs.declared.sides.Side as side
use Rattle.race_report_parts.specs.Places.{OwnedRecord, places_of}
use Rattle.race_report_parts.specs.Sides.{side_told, sides_told}
use Rattle.race_report_parts.specs.Told.{Side, side_from, sides_from}

abbrev side_with : Method → OwnedRecord → List Place → Side
side_with method held places = record { method = method; access = held.access; places = places }

pub side_made : (core : Core) (m : Option Method) (h : Option OwnedRecord) (method : Method) (held : OwnedRecord)
    (places : List Place) → Some method ≡ m → Some held ≡ h → places ≡ places_of core held →
    Some (side_with method held places) ≡ side_from core m h
side_made core m h method held places is has at =
    ap (λ (ps : List Place). Some (side_with method held ps)) at
    ∙ ap (λ (o : Option Method). side_from core o (Some held)) is
    ∙ ap (λ (o : Option OwnedRecord). side_from core m o) has

pub no_method : (core : Core) (m : Option Method) (h : Option OwnedRecord) → None ≡ m → None ≡ side_from core m h
no_method core m h is = ap (λ (o : Option Method). side_from core o h) is

pub no_record : (core : Core) (m : Option Method) (h : Option OwnedRecord) (method : Method) → Some method ≡ m →
    None ≡ h →
    None ≡ side_from core m h
no_record core m h method is none =
    ap (λ (o : Option Method). side_from core o None) is ∙ ap (λ (o : Option OwnedRecord). side_from core m o) none

pub both_told : (o p : Option side.Side) (first partner : side.Side) (a b : Option Side) → option_map side_told o ≡ a →
    o ≡ Some first → option_map side_told p ≡ b → p ≡ Some partner →
    Some (sides_told (record { first = first; partner = partner })) ≡ sides_from a b
both_told o p first partner a b told_first is_first told_partner is_partner =
    ap (λ (s : Option Side). sides_from s (Some (side_told partner)))
    (sym (ap (option_map side_told) is_first) ∙ told_first)
    ∙ ap (λ (s : Option Side). sides_from a s) (sym (ap (option_map side_told) is_partner) ∙ told_partner)

pub no_first : (o : Option side.Side) (a b : Option Side) → option_map side_told o ≡ a → o ≡ None →
    None ≡ sides_from a b
no_first o a b told none = ap (λ (s : Option Side). sides_from s b) (sym (ap (option_map side_told) none) ∙ told)

pub no_partner : (o p : Option side.Side) (first : side.Side) (a b : Option Side) → option_map side_told o ≡ a →
    o ≡ Some first → option_map side_told p ≡ b → p ≡ None → None ≡ sides_from a b
no_partner o p first a b told_first is_first told_partner none =
    ap (λ (s : Option Side). sides_from s None) (sym (ap (option_map side_told) is_first) ∙ told_first)
    ∙ ap (λ (s : Option Side). sides_from a s) (sym (ap (option_map side_told) none) ∙ told_partner)
