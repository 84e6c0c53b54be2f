-- The state before a loop is weaker in the last round, where no quiet path is lost in the rounds.
use Rattle.std.proofs.Common.{◌≡◌, ℕ, zero, suc, List, ◌++◌, None, Some, refl, sym, ◌∙◌}
use Rattle.access_paths.specs.declared.path.Path.{Path}
use Rattle.owner_domain.specs.declared.value.State.{State}
use Rattle.owner_domain.specs.Values.{joined_state, lost_state}
use Rattle.core_code.specs.Core.{Core, Method}
use Rattle.core_code.specs.Kinds.{StackKind}
use Rattle.access_domain.specs.Operations.{Effects}
use Rattle.access_domain.specs.Flow.{rounds}
use Rattle.core_ways_laws.specs.Names.{Naming}
use Rattle.core_ways_laws.specs.Quiet.{Quietness}
use Rattle.core_ways_laws.specs.Places.{AreHushed}
use Rattle.core_ways_laws.specs.Weaker.{IsWeakerState}
use Rattle.core_ways_laws.proofs.FlowLengths.{IsShaped, shape_joined}
use Rattle.core_ways_laws.proofs.Hushing.{hush-first, hush-second}
use Rattle.core_ways_laws.proofs.Joining.{joined_state-first, state-weaker-itself, state-weaker-then}

pub entry_weaker : (core : Core) (quiet : Quietness core) (n : Naming) (method : Method) (ks : List StackKind)
    (body : State → Effects) →
    ((s t : State) → IsShaped method ks s → (body s).next ≡ Some t → IsShaped method ks t) → (count : ℕ) (s : State) →
    IsShaped method ks s → AreHushed core quiet n (rounds body count s).1 →
    IsWeakerState core quiet n s (rounds body count s).0
entry_weaker core quiet n method ks body keeps zero s p hush = state-weaker-itself core quiet n s
entry_weaker core quiet n method ks body keeps (suc count) s p hush =
    elim (body s).next as (λ o. (body s).next ≡ o →
    AreHushed core quiet n (elim o as (λ _. State × List Path) [
      | None ↦ rounds body count s
      | Some end ↦
          ((rounds body count (joined_state s end)).0, lost_state s end ++ (rounds body count (joined_state s end)).1)
    ]).1 →
    IsWeakerState core quiet n s (elim o as (λ _. State × List Path) [
      | None ↦ rounds body count s
      | Some end ↦
          ((rounds body count (joined_state s end)).0, lost_state s end ++ (rounds body count (joined_state s end)).1)
    ]).0) [
      | None ↦ λ is quietly. entry_weaker core quiet n method ks body keeps count s p quietly
      | Some end ↦ λ is quietly.
          let later : List Path = (rounds body count (joined_state s end)).1 in
          let q : IsShaped method ks end = keeps s end p is in
          state-weaker-then core quiet n s (joined_state s end) (rounds body count (joined_state s end)).0
          (joined_state-first core quiet n s end (p.vars ∙ sym q.vars) (p.stack ∙ sym q.stack)
          (hush-first core quiet n (lost_state s end) later quietly))
          (entry_weaker core quiet n method ks body keeps count (joined_state s end)
          (shape_joined method ks s end p q)
          (hush-second core quiet n (lost_state s end) later quietly))
    ] refl hush
