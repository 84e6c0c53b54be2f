-- Walks that are copied where ways part.
use Rattle.std.proofs.Common.{◌≡◌, Bool, true, false, List, [], Option, None, Some, sym, ap}
use Rattle.std.proofs.Common.{subst, ◌∙◌}
use Rattle.std.specs.BTreeSet.{BTreeSet}
use Rattle.racer_base.specs.declared.ids.FieldId.{FieldId}
use Rattle.core_code.specs.Core.{Core}
use Rattle.core_semantics.specs.declared.object.Start.TheVariants.{All}
use Rattle.core_semantics.specs.Changes.{Spot}
use Rattle.core_semantics.specs.Runs.{begun}
use Rattle.core_semantics.specs.State.{State}
use Rattle.core_semantics.specs.Advances.{Going}
use Rattle.core_ways.specs.Ends.{leg_reads}
use Rattle.core_ways.specs.Gathered.{gathered}
use Rattle.core_ways.proofs.Gathering.{gathered-again}
use Rattle.witness_build_apart_laws.specs.Goes.{leg_goes}
use Rattle.witness_build_apart_laws.specs.Looks.{leg_looks}
use Rattle.witness_build_apart_laws.specs.Stores.{leg_stores}
use Rattle.witness_build_walks.specs.declared.walk.Walk.{Walk}
use Rattle.witness_build_walks.specs.Walks.{AreKept, IsNoted, IsSame, IsWalk, entry_state, fields_of}
use Rattle.witness_build_walks.proofs.KeptFields.{same-kept}

noted-copied : (loud : Bool) (old new : BTreeSet FieldId) (o : Option (List Spot)) →
    ((fields : List FieldId) → AreKept old fields → AreKept new fields) → IsNoted loud old o → IsNoted loud new o
noted-copied true old new o keeps noted = tt
noted-copied false old new None keeps noted = absurd noted
noted-copied false old new (Some spots) keeps noted = keeps (fields_of spots) noted

abbrev there : State → Option Going
there s = Some (s, [])

-- a copy of a walk is a walk
pub same-walk : (core : Core) (w copy : Walk) → IsSame w copy → IsWalk core w → IsWalk core copy
same-walk core w copy same walk =
    let entry : entry_state core copy ≡ entry_state core w =
    (λ i. begun core (same.method i) (same.method i) All) in
    record {
      goes =
          (λ i. leg_goes core (same.thread i) (same.steps i) (same.turns i) (entry i))
          ∙ walk.goes
          ∙ ap there (sym same.machine);
      given =
          same.given
          ∙ ap (gathered []) walk.given
          ∙ gathered-again [] (leg_reads core w.thread w.steps w.turns.items (entry_state core w))
          ∙ sym (λ i. gathered [] (leg_reads core (same.thread i) (same.steps i) (same.turns i) (entry i)));
      reads =
          same-kept copy.reads (fields_of (leg_looks core w.thread w.steps w.turns.items (entry_state core w)))
          (fields_of (leg_looks core copy.thread copy.steps copy.turns.items (entry_state core copy)))
          (sym (λ i. fields_of (leg_looks core (same.thread i) (same.steps i) (same.turns i) (entry i))))
          (same.reads (fields_of (leg_looks core w.thread w.steps w.turns.items (entry_state core w))) walk.reads);
      writes =
          subst (λ (o : Option (List Spot)). IsNoted copy.is_loud copy.writes o)
          (sym (λ i. leg_stores core (same.thread i) (same.steps i) (same.turns i) (entry i)))
          (subst (λ (loud : Bool). IsNoted loud copy.writes
          (leg_stores core w.thread w.steps w.turns.items (entry_state core w))) (sym same.loud)
          (noted-copied w.is_loud w.writes copy.writes
          (leg_stores core w.thread w.steps w.turns.items (entry_state core w)) same.writes walk.writes));
    }
