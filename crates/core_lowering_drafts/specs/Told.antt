-- Drafts as trees of numbers, by which a proof tells them apart.
use Rattle.std.specs.Prelude.{◌≡◌, ℕ, List, refl}
use Rattle.std.proofs.Common.{sym, ap, ◌∙◌, subst}
use Rattle.std.specs.Coded.{Coded, coded_list}
use base.Stored.{Gv, gnil, gnum, gcons, coded_via}
use Rattle.racer_base.specs.declared.ids.Place.{Place}
use Rattle.racer_base.specs.declared.ids.VarId.{VarId}
use Rattle.core_code.specs.declared.code.Op.{Op as CoreOp}
use Rattle.core_code.specs.Tree.{LockAt}
use Rattle.core_lowering_drafts.specs.Drafts.{Part, Draft, Op, Choice, Loop, Sync, Leave, Within, Never, Ending, Behind}
use Rattle.core_lowering_drafts.specs.Drafts.{no_part, part_then}

-- a part without the drafts in it
pub data Label : Type 0 where
  AnOp : Place → CoreOp → Label
  AChoice : Label
  ALoop : Label
  ALock : LockAt → Label
  AnExit : ℕ → Label
  AWithin : ℕ → Label
  ANever : Label
  AnEnding : Place → List VarId → Label
  ABehind : ℕ → Label
  APart : Label

-- labels, and at most three trees below each
data Told : Type 0 where
  Nothing : Told
  Node : Label → Told → Told → Told → Told

abbrev head : Gv → Gv
head gnil = gnil
head (gnum n) = gnil
head (gcons a b) = a

abbrev tail : Gv → Gv
tail gnil = gnil
tail (gnum n) = gnil
tail (gcons a b) = b

abbrev IsCons : Gv → Type 0
IsCons gnil = ⊥
IsCons (gnum n) = ⊥
IsCons (gcons a b) = Unit {0}

module _ (label : Coded Label) where
  abbrev code_told : Told → Gv
  code_told Nothing = gnil
  code_told (Node l a b c) = gcons (label.code l) (gcons (code_told a) (gcons (code_told b) (code_told c)))

  inj_told : (x y : Told) → code_told x ≡ code_told y → x ≡ y
  inj_told Nothing Nothing p = refl
  inj_told Nothing (Node l a b c) p = absurd (subst IsCons (sym p) tt)
  inj_told (Node l a b c) Nothing p = absurd (subst IsCons p tt)
  inj_told (Node l a b c) (Node m d e f) p =
      λ i. Node (label.inj l m (ap head p) i) (inj_told a d (ap (λ g. head (tail g)) p) i)
      (inj_told b e (ap (λ g. head (tail (tail g))) p) i) (inj_told c f (ap (λ g. tail (tail (tail g))) p) i)

  abbrev coded_told : Coded Told
  coded_told = record { code = code_told; inj = inj_told }

abbrev mutual
  told_part : Part → Told
  told_part (Op place op) = Node (AnOp place op) Nothing Nothing Nothing
  told_part (Choice left right) = Node AChoice (told left) (told right) Nothing
  told_part (Loop body) = Node ALoop (told body) Nothing Nothing
  told_part (Sync lock body) = Node (ALock lock) (told body) Nothing Nothing
  told_part (Leave k) = Node (AnExit k) Nothing Nothing Nothing
  told_part (Within k body) = Node (AWithin k) (told body) Nothing Nothing
  told_part Never = Node ANever Nothing Nothing Nothing
  told_part (Ending body place variables) = Node (AnEnding place variables) (told body) Nothing Nothing
  told_part (Behind body finally k last) = Node (ABehind k) (told body) (told finally) (told last)

  told : Draft → Told
  told no_part = Nothing
  told (part_then part rest) = Node APart (told_part part) (told rest) Nothing

abbrev made : Label → Draft → Draft → Draft → Part
made (AnOp place op) x y z = Op place op
made AChoice x y z = Choice x y
made ALoop x y z = Loop x
made (ALock lock) x y z = Sync lock x
made (AnExit k) x y z = Leave k
made (AWithin k) x y z = Within k x
made ANever x y z = Never
made (AnEnding place variables) x y z = Ending x place variables
made (ABehind k) x y z = Behind x y k z
made APart x y z = Never

abbrev mutual
  part_from : Told → Part
  part_from Nothing = Never
  part_from (Node l a b c) = made l (from a) (from b) (from c)

  from : Told → Draft
  from Nothing = no_part
  from (Node l a b c) = part_then (part_from a) (from b)

mutual
  part-back : (p : Part) → part_from (told_part p) ≡ p
  part-back (Op place op) = refl
  part-back (Choice left right) = λ i. Choice (back left i) (back right i)
  part-back (Loop body) = λ i. Loop (back body i)
  part-back (Sync lock body) = λ i. Sync lock (back body i)
  part-back (Leave k) = refl
  part-back (Within k body) = λ i. Within k (back body i)
  part-back Never = refl
  part-back (Ending body place variables) = λ i. Ending (back body i) place variables
  part-back (Behind body finally k last) = λ i. Behind (back body i) (back finally i) k (back last i)

  back : (d : Draft) → from (told d) ≡ d
  back no_part = refl
  back (part_then part rest) = λ i. part_then (part-back part i) (back rest i)

pub coded_part : Coded Label → Coded Part
coded_part label =
    coded_via (coded_told label) told_part (λ x y p. sym (part-back x) ∙ ap part_from p ∙ part-back y)

pub coded_parts : Coded Label → Coded (List Part)
coded_parts label = coded_list (coded_part label)

pub coded_groups : Coded Label → Coded (List (List Part))
coded_groups label = coded_list (coded_parts label)
