-- Code that cannot end and has no throw comes to a return as code is passed.
use Rattle.std.proofs.Common.{◌≡◌, ℕ, suc, Bool, true, false, cond, ◌&&◌, ◌||◌, not, List, [], ◌∷◌, ◌++◌}
use Rattle.std.proofs.Common.{refl, sym, ap, ◌∙◌}
use Rattle.std.proofs.lemmas.Bool.{or_parts, and_parts}
use Rattle.std.proofs.lemmas.List.{append-nil}
use Rattle.core_code.specs.declared.code.Op.{Op as CoreOp}
use Rattle.core_code.specs.declared.code.Op.TheVariants.{Ret, Throw}
use Rattle.core_code.specs.Tree.{Tree, Op, Skip, Seq, Choice, Loop, Sync, can_end, can_return, is_return, stops}
use Rattle.core_semantics.specs.declared.answer.Turn.TheVariants.{Left, Right}
use Rattle.core_ways.specs.declared.part.WayPart.{WayPart}
use Rattle.core_ways.specs.declared.part.WayPart.TheVariants.{Step, Branched}
use Rattle.core_ways.specs.Alone.{is_throwless, is_throwless_op}
use Rattle.core_ways.specs.Ways.{passed, to_return}
use Rattle.racer_base.proofs.Tests.{or_second}

-- ---- it ends or returns

op-exits : (op : CoreOp) → is_throwless_op op ≡ true → (not (stops op) || is_return op) ≡ true
op-exits Ret none = refl
op-exits Throw none = absurd cc
op-exits _ none = refl

then-exits : (a b r q : Bool) → (a || r) ≡ true → (b || q) ≡ true → ((a && b) || (r || (a && q))) ≡ true
then-exits true true r q one two = refl
then-exits true false true q one two = refl
then-exits true false false true one two = refl
then-exits true false false false one two = absurd cc
then-exits false b true q one two = refl
then-exits false b false q one two = absurd cc

either-exits : (a b r q : Bool) → (a || r) ≡ true → ((a || b) || (r || q)) ≡ true
either-exits true b r q one = refl
either-exits false true r q one = refl
either-exits false false true q one = refl
either-exits false false false q one = absurd cc

throwless-exits : (code : Tree) → is_throwless code ≡ true → (can_end code || can_return code) ≡ true
throwless-exits (Op site place op) none = op-exits op none
throwless-exits Skip none = refl
throwless-exits (Seq first rest) none =
    then-exits (can_end first) (can_end rest) (can_return first) (can_return rest)
    (throwless-exits first (and_parts (is_throwless first) (is_throwless rest) none).0)
    (throwless-exits rest (and_parts (is_throwless first) (is_throwless rest) none).1)
throwless-exits (Choice left right) none =
    either-exits (can_end left) (can_end right) (can_return left) (can_return right)
    (throwless-exits left (and_parts (is_throwless left) (is_throwless right) none).0)
throwless-exits (Loop body) none = refl
throwless-exits (Sync lock body) none = throwless-exits body none

pub throwless-returns : (code : Tree) → is_throwless code ≡ true → can_end code ≡ false → can_return code ≡ true
throwless-returns code none ends = or_second (can_end code) (can_return code) ends (throwless-exits code none)

-- ---- the two ways

past-then : (locks : ℕ) (first rest : Tree) (a b q r : Bool) → (a && b) ≡ false → (b ≡ false → q ≡ true) →
    (a ≡ false → to_return locks first ≡ passed locks first) → (b ≡ false → to_return locks rest ≡ passed locks rest) →
    cond (a && (q || not r)) (passed locks first ++ to_return locks rest) (to_return locks first)
    ≡ passed locks first ++ cond a (passed locks rest) []
past-then locks first rest true true q r ends back one two = absurd cc
past-then locks first rest true false q r ends back one two =
    ap (λ (x : Bool). cond (x || not r) (passed locks first ++ to_return locks rest) (to_return locks first))
    (back refl)
    ∙ ap (λ (ps : List WayPart). passed locks first ++ ps) (two refl)
past-then locks first rest false b q r ends back one two = one refl ∙ sym (append-nil (passed locks first))

pub returns-as-passed : (locks : ℕ) (code : Tree) → is_throwless code ≡ true → can_end code ≡ false →
    to_return locks code ≡ passed locks code
returns-as-passed locks (Op site place op) none ends = refl
returns-as-passed locks Skip none ends = absurd cc
returns-as-passed locks (Seq first rest) none ends =
    let early = (and_parts (is_throwless first) (is_throwless rest) none).0 in
    let late = (and_parts (is_throwless first) (is_throwless rest) none).1 in
    past-then locks first rest (can_end first) (can_end rest) (can_return rest) (can_return first) ends
    (throwless-returns rest late)
    (returns-as-passed locks first early) (returns-as-passed locks rest late)
returns-as-passed locks (Choice left right) none ends =
    let early = (and_parts (is_throwless left) (is_throwless right) none).0 in
    let off = or_parts (can_end left) (can_end right) ends in
    ap (λ (b : Bool). cond b (Branched Left ∷ to_return locks left) (Branched Right ∷ to_return locks right))
    (throwless-returns left early off.0)
    ∙ ap (λ (ps : List WayPart). Branched Left ∷ ps) (returns-as-passed locks left early off.0)
    ∙ sym (ap (λ (b : Bool). cond b (Branched Right ∷ passed locks right) (Branched Left ∷ passed locks left)) off.1)
returns-as-passed locks (Loop body) none ends = absurd cc
returns-as-passed locks (Sync lock body) none ends =
    ap (λ (ps : List WayPart). Step ∷ ps)
    (returns-as-passed (suc locks) body none ends
    ∙ sym (append-nil (passed (suc locks) body))
    ∙ sym (ap (λ (b : Bool). passed (suc locks) body ++ cond b (Step ∷ []) []) ends))
