-- One step of a walk, with the turn that it used.
use Rattle.std.proofs.Common.{◌≡◌, ℕ, Bool, true, false, cond, List, [], ◌∷◌, ◌++◌, Option, None, Some, slice_get}
use Rattle.std.proofs.Common.{sym, ap, ◌∙◌}
use Rattle.std.proofs.lemmas.List.{append-nil}
use Rattle.std.specs.Borrow.{Bor}
use Rattle.core_code.specs.Core.{Core}
use Rattle.core_semantics.specs.declared.answer.Turn.{Turn}
use Rattle.core_semantics.specs.declared.answer.Turn.TheVariants.{Right}
use Rattle.core_semantics.specs.Advances.{Going, IsAdvance, made_of, one_step, straight, turned, with_turns}
use Rattle.core_semantics.specs.Runs.{wants_turn}
use Rattle.core_semantics.specs.State.{State}
use Rattle.core_semantics.specs.Steps.{step}
use Rattle.witness_build_walks.specs.Walks.{HasTurned}
use Rattle.core_ways.proofs.LegSteps.{made-of}

-- the step by whether it takes a turn
by-wants : (core : Core) (t : ℕ) (turns : List Turn) (s : State) (b : Bool) → wants_turn s t ≡ b →
    one_step core t turns s ≡ cond b (turned core t turns s) (straight core t turns s)
by-wants core t turns s b is = ap (λ (c : Bool). cond c (turned core t turns s) (straight core t turns s)) is

split : (turns left : List Turn) (o : Option State) (new : State) → with_turns turns o ≡ Some (new, left) →
    (o ≡ Some new) × (turns ≡ left)
split turns left None new e = absurd cc
split turns left (Some s) new e =
    let both : ◌≡◌ {A = Going} (s, turns) (new, left) = cc in
    (ap (λ (g : Going). Some g.0) both, ap (λ (g : Going). g.1) both)

-- it takes one
pub took-turn : (core : Core) (t : ℕ) (rest : List Turn) (old new : State) (o : Option (Bor (List Turn)))
    (left : Bor (List Turn)) (turn : Turn) (before after : List Turn) (takes : Bool) → takes ≡ wants_turn old t →
    takes ≡ true → IsAdvance (one_step core t rest old) old new o → o ≡ Some left → slice_get rest 0 ≡ Some turn →
    after ≡ before ++ turn ∷ [] → HasTurned core t rest left.now old new before after
took-turn core t [] old new o left turn before after takes wants so is some first behind = absurd cc
took-turn core t (x ∷ xs) old new o left turn before after takes wants so is some first behind =
    let same : x ≡ turn = cc in
    let takes_one : wants_turn old t ≡ true = sym wants ∙ so in
    let parts =
    split xs left.now (made_of (step core old t x)) new
    (sym (by-wants core t (x ∷ xs) old true takes_one) ∙ made-of (one_step core t (x ∷ xs) old) old new o left is some)
    in
    record {
      used = x ∷ [];
      behind = behind ∙ ap (λ (y : Turn). before ++ y ∷ []) (sym same);
      front = ap (λ (ys : List Turn). x ∷ ys) parts.1;
      made = by-wants core t (x ∷ []) old true takes_one ∙ ap (with_turns []) parts.0;
    }

-- it takes none
pub took-none : (core : Core) (t : ℕ) (rest : List Turn) (old new : State) (o : Option (Bor (List Turn)))
    (left : Bor (List Turn)) (before : List Turn) (takes : Bool) → takes ≡ wants_turn old t → takes ≡ false →
    IsAdvance (one_step core t rest old) old new o → o ≡ Some left →
    HasTurned core t rest left.now old new before before
took-none core t rest old new o left before takes wants so is some =
    let takes_none : wants_turn old t ≡ false = sym wants ∙ so in
    let parts =
    split rest left.now (made_of (step core old t Right)) new
    (sym (by-wants core t rest old false takes_none) ∙ made-of (one_step core t rest old) old new o left is some) in
    record {
      used = [];
      behind = sym (append-nil before);
      front = parts.1;
      made = by-wants core t [] old false takes_none ∙ ap (with_turns []) parts.0;
    }
