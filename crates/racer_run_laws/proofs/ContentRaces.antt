-- The run of a confirmed warning on the content of a container ends at that content.
use Rattle.std.proofs.Common.{◌≡◌, ◌⊎◌, inl, inr, ℕ, suc, ◌+◌, true, ◌&&◌, ◌||◌, List, [], ◌∷◌, Some, refl, sym}
use Rattle.std.proofs.Common.{ap, ap₂, ◌∙◌, length}
use Rattle.std.specs.Prelude.{IsTrue}
use Rattle.std.proofs.lemmas.Bool.{and_parts}
use Rattle.std.proofs.lemmas.Option.{same_Some}
use Rattle.racer_base.specs.declared.ids.FieldId.{FieldId}
use Rattle.racer_base.specs.declared.ids.Touch.{Touch}
use Rattle.racer_base.specs.declared.ids.Touch.TheVariants.{Read, Write}
use Rattle.java_tree.specs.declared.unit.Unit as unit
use Rattle.java_resolver.specs.declared.infos.FieldInfo.{FieldInfo}
use Rattle.access_paths.specs.declared.path.Path.{Path}
use Rattle.access_paths.specs.Paths.{last_of, same_field}
use Rattle.core_code.specs.Core.{Core}
use Rattle.core_code.specs.Touches.{is_write}
use Rattle.core_code.specs.declared.parts.FieldCore.{FieldCore}
use Rattle.core_lowering_conditions.specs.FromTokens.{AreFromTokens}
use Rattle.core_lowering_rules.specs.Conditions.{are_named}
use Rattle.core_lowering_rules.specs.Contents.{IsContentOf}
use Rattle.core_semantics.specs.declared.object.Object.{Object}
use Rattle.core_semantics.specs.declared.object.Object.TheVariants.{Start as StartOf}
use Rattle.core_semantics.specs.declared.object.StartPath.{StartPath}
use Rattle.core_semantics.specs.Legs.{Leg}
use Rattle.core_semantics.specs.Objects.{same_object}
use Rattle.core_semantics.specs.Runs.{do_meet, next_touch, races}
use Rattle.core_semantics.specs.State.{State}
use Rattle.core_ways_laws.specs.Meets.{base_path}
use Rattle.core_ways_laws.specs.Quiet.{start_path}
use Rattle.race_pairs.specs.declared.warning.Warning.{Warning}
use Rattle.racer_sources.specs.Sources.{AreReadFrom}
use Rattle.witness_build_laws.specs.Races.{RacesOn, Touches}
use Rattle.racer_run_laws.specs.Containers.{MeetAtContent}

-- ---- units of a folder are read from tokens

from-tokens : (n sum : ℕ) (files : List (List ℕ)) (us : List unit.Unit) → AreReadFrom n sum files us →
    AreFromTokens n us
from-tokens n sum [] [] h = tt
from-tokens n sum [] (u ∷ us) h = absurd h
from-tokens n sum (bytes ∷ files) [] h = absurd h
from-tokens n sum (bytes ∷ files) (u ∷ us) h = (
  record { bytes = bytes; lexed = h.0.lexed; tokens = h.0.tokens; unit = h.0.unit },
  from-tokens (suc n) (sum + length bytes) files us h.1,
)

pub units-named : ((units : List unit.Unit) → AreFromTokens 0 units → IsTrue (are_named units)) →
    (files : List (List ℕ)) (units : List unit.Unit) → AreReadFrom 0 0 files units → IsTrue (are_named units)
units-named law files units read = law units (from-tokens 0 0 files units read)

-- ---- the race

one-writes : (first second : Touch) → (is_write first || is_write second) ≡ true →
    (first ≡ Write) ⊎ (second ≡ Write)
one-writes Write second h = inl refl
one-writes Read Write h = inr refl
one-writes Read Read h = absurd cc

-- where both threads are at this field of one object, and race, one of them writes
meeting : (end : State) (object : Object) (f : FieldId) (first second : Touch) →
    next_touch end 0 ≡ Some (object, f, first) → next_touch end 1 ≡ Some (object, f, second) → races end ≡ true →
    (first ≡ Write) ⊎ (second ≡ Write)
meeting end object f first second entry partner race =
    let met : do_meet (Some (object, f, first)) (Some (object, f, second)) ≡ true =
    sym (ap₂ do_meet entry partner) ∙ race in
    one-writes first second (and_parts (same_object object object && same_field f f) _ met).1

-- the last field of a path is one
at-field : (end : State) (t : ℕ) (p : Path) (f : FieldId) → last_of p.fields ≡ Some f → (touches : Touches end t p) →
    next_touch end t ≡ Some (StartOf (start_path (base_path p)), f, touches.kind)
at-field end t p f last touches =
    touches.is ∙ ap (λ (g : FieldId). Some (StartOf (start_path (base_path p)), g, touches.kind))
    (same_Some _ _ (sym touches.last ∙ last))

pub meet-at-content : (core : Core) (w : Warning) (objects : List StartPath) (legs : List Leg) (p : Path)
    (f : FieldId) (fields : List FieldInfo) (name : List ℕ) (field : FieldCore) → RacesOn core w objects legs p →
    last_of p.fields ≡ Some f → IsContentOf fields name field →
    MeetAtContent core w objects legs f fields name field
meet-at-content core w objects legs p f fields name field race last content =
    let object = StartOf (start_path (base_path p)) in
    let entry = at-field race.end 0 p f last race.entry in
    let partner = at-field race.end 1 p f last race.partner in
    record {
      end = race.end;
      runs = race.runs;
      object = object;
      first = race.entry.kind;
      second = race.partner.kind;
      entry = entry;
      partner = partner;
      changes = meeting race.end object f race.entry.kind race.partner.kind entry partner race.race;
      content = content;
    }
