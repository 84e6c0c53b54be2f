-- Whether sets of ends meet, told by the sets that they are made of.
use Rattle.std.proofs.Common.{◌≡◌, ℕ, Bool, true, false, ◌&&◌, ◌||◌, ◌∷◌, cond, refl, sym, ap, ◌∙◌, true≢false}
use Rattle.racer_base.proofs.Tests.{same_truth}
use Rattle.core_lowering_drafts.specs.Drafts.{Normal, Exit, Ends, do_meet, ends_within, has, without}
use Rattle.core_lowering_drafts.proofs.Sets.{do_meet-found, do_meet-from, without-from, without-parts}

-- without an exit that is not asked for
meet-without : (k : ℕ) (E A : Ends) → has A (Exit k) ≡ false → do_meet E A ≡ do_meet (without (Exit k) E) A
meet-without k E A none = same_truth (do_meet E A) (do_meet (without (Exit k) E) A)
    (λ h. let found = do_meet-found E A h in
    do_meet-from (without (Exit k) E) A found.0
    (without-from (Exit k) E found.0 found.1 (λ i. true≢false (sym found.2 ∙ ap (has A) i ∙ none))) found.2)
    (λ h. let found = do_meet-found (without (Exit k) E) A h in
    do_meet-from E A found.0 (without-parts (Exit k) E found.0 found.1).0 found.2)

-- of a body behind which that exit leads
pub within-meets : (k : ℕ) (E A : Ends) → has A (Exit k) ≡ false →
    ((has E (Exit k) && has A Normal) || do_meet E A) ≡ do_meet (ends_within k E) A
within-meets k E A none = by (has E (Exit k))
  where
    by : (b : Bool) → ((b && has A Normal) || do_meet E A) ≡ do_meet (cond b (Normal ∷ without (Exit k) E) E) A
    by true = ap (λ b. has A Normal || b) (meet-without k E A none)
    by false = refl

pub within-told : (k : ℕ) (E A : Ends) (leaves comes_out normal met told : Bool) → has A (Exit k) ≡ false →
    leaves ≡ has E (Exit k) → normal ≡ has A Normal → comes_out ≡ (leaves && normal) → met ≡ do_meet E A →
    told ≡ (comes_out || met) → told ≡ do_meet (ends_within k E) A
within-told k E A leaves comes_out normal met told none l n c m t =
    t ∙ ap (λ b. b || met) (c ∙ ap (λ b. b && normal) l ∙ ap (λ b. has E (Exit k) && b) n)
    ∙ ap (λ b. (has E (Exit k) && has A Normal) || b) m ∙ within-meets k E A none
