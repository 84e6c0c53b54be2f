-- How faults of the folder and of a file are counted, and that these refuse nothing, or what they say.
use Rattle.std.proofs.Common.{◌≡◌, ℕ, List, Option, None, Some, refl, sym, ap, subst, ◌∙◌}
use Rattle.std.specs.Prelude.{Result, Ok, Err, IfOk, IfErr, OnOk}
use Rattle.std.specs.Option.{IfSome}
use Rattle.racer_base.specs.Outside.{Told}
use Rattle.racer_base.specs.Causes.{IsCause}
use Rattle.racer_base.specs.declared.ids.FileId.{FileId}
use Rattle.racer_base.specs.declared.outside.FolderFault.{FolderFault}
use Rattle.racer_base.specs.declared.outside.FolderFault.TheVariants as folder
use Rattle.racer_sources.specs.declared.refusal.Refusal.{Refusal}
use Rattle.racer_sources.specs.declared.fault.SourceFault.{SourceFault}
use Rattle.racer_sources.specs.declared.fault.SourceFault.TheVariants.{Refused, Failed, Memory}
use Rattle.racer_sources.specs.declared.found.FolderSources.{FolderSources}
use Rattle.racer_sources.specs.Reading.{as_source_fault, MovesCount, IfRefused, IsFileFault, Counts, NeverFails}
use Rattle.racer_sources.specs.Declaring.{IsRefusedOr}
use Rattle.racer_sources.specs.Finding.{FailsByMemory, IsKnown, KeepsMeaning}

-- what two calls on a folder leave of it, one after the other
pub keeps_on : {F : Type 0} {tells : F → Option Told} {IsSteady : F → Type 0} {old mid new : F} →
    KeepsMeaning tells IsSteady old mid → KeepsMeaning tells IsSteady mid new → KeepsMeaning tells IsSteady old new
keeps_on first next =
    record { told = next.told ∙ first.told; stays = λ steady. next.stays (first.stays steady) }

by_fault : (fault : FolderFault) (old new : ℕ) → IsCause fault old new → MovesCount (as_source_fault fault) old new
by_fault folder.Failed old new h = h
by_fault folder.Memory old new h = h

pub moved : (fault : FolderFault) (given : SourceFault) (old new : ℕ) → given ≡ as_source_fault fault
    → IsCause fault old new → MovesCount given old new
moved fault given old new e h = subst (λ (f : SourceFault). MovesCount f old new) (sym e) (by_fault fault old new h)

memory_not_failed : (given : SourceFault) → given ≡ Memory → given ≡ Failed → ⊥
memory_not_failed given e f = let bad : ◌≡◌ {A = SourceFault} Memory Failed = sym e ∙ f in cc

pub memory_alone : (fault : FolderFault) (given : SourceFault) → given ≡ as_source_fault fault → fault ≡ folder.Memory
    → given ≡ Failed → ⊥
memory_alone fault given e m = memory_not_failed given (e ∙ ap as_source_fault m)

-- a fault of the folder refuses nothing
nothing : (fault : FolderFault) (P : Refusal → Type 0) → IfRefused (as_source_fault fault) P
nothing folder.Failed P = tt
nothing folder.Memory P = tt

pub for_each : (P : Told → Type 0) (o : Option Told) → ((t : Told) → P t) → IfSome o P
for_each P None each = tt
for_each P (Some t) each = each t

pub refuses_nothing : (fault : FolderFault) (given : SourceFault) (P : Told → Refusal → Type 0) (o : Option Told)
    → given ≡ as_source_fault fault → IfSome o (λ t. IfRefused given (P t))
refuses_nothing fault given P o e =
    for_each (λ t. IfRefused given (P t)) o
    (λ t. subst (λ (f : SourceFault). IfRefused f (P t)) (sym e) (nothing fault (P t)))

module _ (file : FileId) (sum : ℕ) (bytes : List ℕ) where
  pub file_moves : (fault : SourceFault) (old new : ℕ) → IsFileFault file sum bytes fault → new ≡ old
      → MovesCount fault old new
  file_moves (Refused r) old new is e = e
  file_moves Failed old new is e = absurd is
  file_moves Memory old new is e = e

  pub file_never_fails : (fault : SourceFault) → IsFileFault file sum bytes fault → fault ≡ Failed → ⊥
  file_never_fails (Refused r) is e = let bad : ◌≡◌ {A = SourceFault} (Refused r) Failed = e in cc
  file_never_fails Failed is e = is
  file_never_fails Memory is e = let bad : ◌≡◌ {A = SourceFault} Memory Failed = e in cc

  pub file_counts : {T : Type 0} (r : Result T SourceFault) (old new : ℕ) → IfErr r (IsFileFault file sum bytes)
      → new ≡ old → Counts r old new
  file_counts (Ok x) old new is e = e
  file_counts (Err f) old new is e = file_moves f old new is e

  pub file_steady : {T : Type 0} (r : Result T SourceFault) → IfErr r (IsFileFault file sum bytes) → NeverFails r
  file_steady (Ok x) is = tt
  file_steady (Err f) is = file_never_fails f is

-- what holds anyhow holds of a folder that tells its files
pub anyhow : (P : Type 0) (Q : Told → Type 0) (o : Option Told) → P → IfSome o (λ t. Q t → P)
anyhow P Q None p = tt
anyhow P Q (Some t) p = λ _. p

-- ---- where sources are refused

pub answers_by_memory : (names : List (List ℕ)) (fault : SourceFault) (r : Result FolderSources FolderFault)
    → IsRefusedOr names fault r → (fault ≡ Failed → ⊥) → FailsByMemory r
answers_by_memory names (Refused x) (Ok answer) is never = tt
answers_by_memory names (Refused x) (Err f) is never = is
answers_by_memory names Failed r is never = absurd (never refl)
answers_by_memory names Memory r is never =
    subst (λ (x : Result FolderSources FolderFault). FailsByMemory x) (sym is) refl

pub steady_answer : (names : List (List ℕ)) (fault : SourceFault) (r : Result FolderSources FolderFault)
    (Q : Told → Type 0)
    (o : Option Told) → IsRefusedOr names fault r → IfSome o (λ t. fault ≡ Failed → ⊥) →
    IfSome o (λ t. Q t → FailsByMemory r)
steady_answer names fault r Q None is never = tt
steady_answer names fault r Q (Some t) is never = λ _. answers_by_memory names fault r is never

-- what is refused has nothing that is to be known of it
pub refused_known : (names : List (List ℕ)) (fault : SourceFault) (r : Result FolderSources FolderFault)
    → IsRefusedOr names fault r → IfOk r IsKnown
refused_known names (Refused x) (Ok answer) is = subst (λ (found : FolderSources). IsKnown found) (sym is) tt
refused_known names (Refused x) (Err f) is = tt
refused_known names Failed r is = subst (λ (x : Result FolderSources FolderFault). IfOk x IsKnown) (sym is) tt
refused_known names Memory r is = subst (λ (x : Result FolderSources FolderFault). IfOk x IsKnown) (sym is) tt

pub on_ok_anyhow : {T E : Type 0} (P : Type 0) (r : Result T E) → P → OnOk r P
on_ok_anyhow P (Ok x) p = p
on_ok_anyhow P (Err e) p = tt
