-- The path to where code is left, and what is passed along it.
use Rattle.std.proofs.Common.{◌≡◌, ℕ, suc, Bool, true, false, cond, ◌&&◌, ◌||◌, not, List, [], ◌∷◌, ◌++◌, refl, sym, ap}
use Rattle.std.proofs.Common.{◌∙◌, reverse}
use Rattle.std.proofs.lemmas.List.{reverse-append}
use Rattle.core_code.specs.Exits.{exits_either, exits_then}
use Rattle.core_code.specs.Tree.{Tree, Op, Skip, Seq, Choice, Loop, Sync, can_return}
use Rattle.core_semantics.specs.declared.answer.Turn.TheVariants.{Left, Right}
use Rattle.core_ways.specs.declared.part.WayPart.{WayPart}
use Rattle.core_ways.specs.declared.part.WayPart.TheVariants.{Step, Branched}
use Rattle.core_ways.specs.declared.passing.PathEnd.TheVariants.{Behind}
use Rattle.core_ways.specs.declared.returning.Exit.{Exit}
use Rattle.core_ways.specs.Exits.{IsExit, exit_path}
use Rattle.core_ways.specs.Paths.{followed}
use Rattle.core_ways.specs.Ways.{goes_past, passed, to_return}

-- what is passed along the path to where code is left, and behind it, is the way to a return
pub exit-followed : (locks : ℕ) (code : Tree) → followed Behind locks (exit_path code) code ≡ to_return locks code
exit-followed locks (Op site place op) = refl
exit-followed locks Skip = refl
exit-followed locks (Seq first rest) =
    elim (goes_past first rest) as (λ b.
    followed Behind locks (cond b (false ∷ exit_path rest) (true ∷ exit_path first)) (Seq first rest) ≡
    cond b (passed locks first ++ to_return locks rest) (to_return locks first)) [
      | true ↦ ap (λ (ps : List WayPart). passed locks first ++ ps) (exit-followed locks rest)
      | false ↦ exit-followed locks first
    ]
exit-followed locks (Choice left right) =
    elim (can_return left) as (λ b.
    followed Behind locks (cond b (true ∷ exit_path left) (false ∷ exit_path right)) (Choice left right) ≡
    cond b (Branched Left ∷ to_return locks left) (Branched Right ∷ to_return locks right)) [
      | true ↦ ap (λ (ps : List WayPart). Branched Left ∷ ps) (exit-followed locks left)
      | false ↦ ap (λ (ps : List WayPart). Branched Right ∷ ps) (exit-followed locks right)
    ]
exit-followed locks (Loop body) = ap (λ (ps : List WayPart). Branched Left ∷ ps) (exit-followed locks body)
exit-followed locks (Sync lock body) = ap (λ (ps : List WayPart). Step ∷ ps) (exit-followed (suc locks) body)

-- ---- paths, from the inside

abbrev Into : Bool → List Bool → List Bool → List Bool
Into is_first first second = (cond is_first first second) ++ is_first ∷ []

into-past : (past : Bool) (first second : List Bool) →
    Into (not past) (reverse first) (reverse second) ≡ reverse (cond past (false ∷ second) (true ∷ first))
into-past true first second = sym (reverse-append (false ∷ []) second)
into-past false first second = sym (reverse-append (true ∷ []) first)

into-left : (is_left : Bool) (left right : List Bool) →
    Into is_left (reverse left) (reverse right) ≡ reverse (cond is_left (true ∷ left) (false ∷ right))
into-left true left right = sym (reverse-append (true ∷ []) left)
into-left false left right = sym (reverse-append (false ∷ []) right)

pub exit-then : (a b : Tree) (first rest exit : Exit) (past : Bool) → IsExit a first → IsExit b rest →
    past ≡ (first.exits.ends && (rest.exits.returns || not first.exits.returns)) →
    exit.exits ≡ exits_then first.exits rest.exits →
    exit.path.items ≡ Into (not past) first.path.items rest.path.items → IsExit (Seq a b) exit
exit-then a b first rest exit past of_a of_b goes exits path =
    let both : past ≡ goes_past a b =
    goes ∙ (λ i. (of_a.exits i).ends && ((of_b.exits i).returns || not (of_a.exits i).returns)) in
    record {
      exits = exits ∙ (λ i. exits_then (of_a.exits i) (of_b.exits i));
      path =
          path ∙ (λ i. Into (not (both i)) (of_a.path i) (of_b.path i))
          ∙ into-past (goes_past a b) (exit_path a) (exit_path b);
    }

pub exit-either : (a b : Tree) (left right exit : Exit) → IsExit a left → IsExit b right →
    exit.exits ≡ exits_either left.exits right.exits →
    exit.path.items ≡ Into left.exits.returns left.path.items right.path.items → IsExit (Choice a b) exit
exit-either a b left right exit of_a of_b exits path =
    record {
      exits = exits ∙ (λ i. exits_either (of_a.exits i) (of_b.exits i));
      path =
          path ∙ (λ i. Into (of_a.exits i).returns (of_a.path i) (of_b.path i))
          ∙ into-left (can_return a) (exit_path a) (exit_path b);
    }
