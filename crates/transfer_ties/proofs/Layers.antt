-- Code, one layer of it, beside other code.
use Rattle.std.proofs.Common.{◌≡◌, Bool, false, ◌&&◌, ◌||◌, List, [], ◌∷◌, Some, None, map, nat_eq, refl, sym, ap}
use Rattle.std.specs.Cmp.Lexicographic.{pointwise}
use Rattle.std.proofs.Math.Bool.{or-false}
use Rattle.std.proofs.lemmas.Bool.{true≢false}
use Rattle.std.proofs.lemmas.Option.{none-some, same_Some, some_pair_parts}
use Rattle.racer_base.specs.declared.ids.SiteId.{SiteId}
use Rattle.racer_base.specs.declared.ids.Place.{Place}
use Rattle.core_code.specs.declared.code.Code.{Code}
use Rattle.core_code.specs.declared.code.LockKind.{LockKind}
use Rattle.core_code.specs.declared.code.Op.{Op as CoreOp}
use Rattle.core_code.specs.declared.code.Op.TheVariants.{Push, PushClass, PushPrim, PushNull, New, Dup, Drop, Get, Put}
use Rattle.core_code.specs.declared.code.Op.TheVariants.{Set, Prim, Outside, Call, Unread, Ret, Throw}
use Rattle.core_code.specs.Core.{Core}
use Rattle.core_code.specs.Tree.{LockAt, Tree, Op, Skip, Seq, Choice, Loop, Sync, in_sequence, tree_of}
use Rattle.transfer_ties.specs.Forms.{same_code, same_lock, same_op}
use Rattle.transfer_ties.specs.Names.{same_names, same_plain}
use Rattle.transfer_ties.specs.Shapes.{is_sequence, is_step, locked, looped, operation, sides}

module _ (p q : Core) where
  pub same_by_kind : (a b : CoreOp) → (same_plain a b || same_names p q a b) ≡ same_op p q a b
  same_by_kind (Push v) (Push w) = or-false (nat_eq v.0 w.0)
  same_by_kind (Set v) (Set w) = or-false (nat_eq v.0 w.0)
  same_by_kind (Prim k) (Prim l) = or-false (nat_eq k l)
  same_by_kind (Outside k) (Outside l) = or-false (nat_eq k l)
  same_by_kind PushPrim PushPrim = refl
  same_by_kind PushNull PushNull = refl
  same_by_kind Dup Dup = refl
  same_by_kind Drop Drop = refl
  same_by_kind Ret Ret = refl
  same_by_kind Throw Throw = refl
  same_by_kind (PushClass c) (PushClass d) = refl
  same_by_kind (New c) (New d) = refl
  same_by_kind (Get f) (Get g) = refl
  same_by_kind (Put f) (Put g) = refl
  same_by_kind (Call m k) (Call n l) = refl
  same_by_kind (Unread m k) (Unread n l) = refl
  same_by_kind _ _ = refl

  pub step_some : (site other : SiteId) (op more : CoreOp) (u : Tree) → operation u ≡ Some (other, more) →
      is_step p q site op u ≡ (nat_eq site.0 other.0 && same_op p q op more)
  step_some site other op more (Op x place y) e =
      let parts = some_pair_parts x other y more e in
      (λ i. nat_eq site.0 (ap (λ (s : SiteId). s.0) parts.0 i) && same_op p q op (parts.1 i))
  step_some site other op more Skip e = absurd (none-some _ e)
  step_some site other op more (Seq a b) e = absurd (none-some _ e)
  step_some site other op more (Choice a b) e = absurd (none-some _ e)
  step_some site other op more (Loop a) e = absurd (none-some _ e)
  step_some site other op more (Sync l a) e = absurd (none-some _ e)

  pub step_none : (site : SiteId) (op : CoreOp) (u : Tree) → operation u ≡ None → is_step p q site op u ≡ false
  step_none site op (Op x place y) e = absurd (none-some _ (sym e))
  step_none site op Skip e = refl
  step_none site op (Seq a b) e = refl
  step_none site op (Choice a b) e = refl
  step_none site op (Loop a) e = refl
  step_none site op (Sync l a) e = refl

  pub op_same : (site : SiteId) (place : Place) (op : CoreOp) (u : Tree) →
      same_code p q (Op site place op) u ≡ is_step p q site op u
  op_same site place op (Op x y z) = refl
  op_same site place op Skip = refl
  op_same site place op (Seq a b) = refl
  op_same site place op (Choice a b) = refl
  op_same site place op (Loop a) = refl
  op_same site place op (Sync l a) = refl

  pub sequence_none : (ts : List Tree) (u : Tree) → is_sequence u ≡ false → same_code p q (in_sequence ts) u ≡ false
  sequence_none [] (Op x y z) e = refl
  sequence_none [] Skip e = absurd (true≢false e)
  sequence_none [] (Seq a b) e = absurd (true≢false e)
  sequence_none [] (Choice a b) e = refl
  sequence_none [] (Loop a) e = refl
  sequence_none [] (Sync l a) e = refl
  sequence_none (t ∷ ts) (Op x y z) e = refl
  sequence_none (t ∷ ts) Skip e = absurd (true≢false e)
  sequence_none (t ∷ ts) (Seq a b) e = absurd (true≢false e)
  sequence_none (t ∷ ts) (Choice a b) e = refl
  sequence_none (t ∷ ts) (Loop a) e = refl
  sequence_none (t ∷ ts) (Sync l a) e = refl

  pub choice_some : (s t v w : Tree) (u : Tree) → sides u ≡ Some (v, w) →
      same_code p q (Choice s t) u ≡ (same_code p q s v && same_code p q t w)
  choice_some s t v w (Choice a b) e =
      let parts = some_pair_parts a v b w e in
      (λ i. same_code p q s (parts.0 i) && same_code p q t (parts.1 i))
  choice_some s t v w (Op x y z) e = absurd (none-some _ e)
  choice_some s t v w Skip e = absurd (none-some _ e)
  choice_some s t v w (Seq a b) e = absurd (none-some _ e)
  choice_some s t v w (Loop a) e = absurd (none-some _ e)
  choice_some s t v w (Sync l a) e = absurd (none-some _ e)

  pub choice_none : (s t : Tree) (u : Tree) → sides u ≡ None → same_code p q (Choice s t) u ≡ false
  choice_none s t (Choice a b) e = absurd (none-some _ (sym e))
  choice_none s t (Op x y z) e = refl
  choice_none s t Skip e = refl
  choice_none s t (Seq a b) e = refl
  choice_none s t (Loop a) e = refl
  choice_none s t (Sync l a) e = refl

  pub loop_some : (t v : Tree) (u : Tree) → looped u ≡ Some v → same_code p q (Loop t) u ≡ same_code p q t v
  loop_some t v (Loop a) e = ap (same_code p q t) (same_Some a v e)
  loop_some t v (Op x y z) e = absurd (none-some _ e)
  loop_some t v Skip e = absurd (none-some _ e)
  loop_some t v (Seq a b) e = absurd (none-some _ e)
  loop_some t v (Choice a b) e = absurd (none-some _ e)
  loop_some t v (Sync l a) e = absurd (none-some _ e)

  pub loop_none : (t : Tree) (u : Tree) → looped u ≡ None → same_code p q (Loop t) u ≡ false
  loop_none t (Loop a) e = absurd (none-some _ (sym e))
  loop_none t (Op x y z) e = refl
  loop_none t Skip e = refl
  loop_none t (Seq a b) e = refl
  loop_none t (Choice a b) e = refl
  loop_none t (Sync l a) e = refl

  pub sync_some : (lock : LockAt) (t : Tree) (kind : LockKind) (v : Tree) (u : Tree) → locked u ≡ Some (kind, v) →
      same_code p q (Sync lock t) u ≡ (same_lock lock.kind kind && same_code p q t v)
  sync_some lock t kind v (Sync l a) e =
      let parts = some_pair_parts l.kind kind a v e in
      (λ i. same_lock lock.kind (parts.0 i) && same_code p q t (parts.1 i))
  sync_some lock t kind v (Op x y z) e = absurd (none-some _ e)
  sync_some lock t kind v Skip e = absurd (none-some _ e)
  sync_some lock t kind v (Seq a b) e = absurd (none-some _ e)
  sync_some lock t kind v (Choice a b) e = absurd (none-some _ e)
  sync_some lock t kind v (Loop a) e = absurd (none-some _ e)

  pub sync_none : (lock : LockAt) (t : Tree) (u : Tree) → locked u ≡ None → same_code p q (Sync lock t) u ≡ false
  sync_none lock t (Sync l a) e = absurd (none-some _ (sym e))
  sync_none lock t (Op x y z) e = refl
  sync_none lock t Skip e = refl
  sync_none lock t (Seq a b) e = refl
  sync_none lock t (Choice a b) e = refl
  sync_none lock t (Loop a) e = refl

  abbrev pub same_part : Code → Code → Bool
  same_part a b = same_code p q (tree_of a) (tree_of b)

  -- the parts of two sequences, one by one
  pub parts_same : (xs ys : List Code) →
      pointwise same_part xs ys ≡ same_code p q (in_sequence (map tree_of xs)) (in_sequence (map tree_of ys))
  parts_same [] [] = refl
  parts_same [] (y ∷ ys) = refl
  parts_same (x ∷ xs) [] = refl
  parts_same (x ∷ xs) (y ∷ ys) = ap (λ b. same_part x y && b) (parts_same xs ys)

-- the parts of a sequence are no other code
pub not_operation : (ts : List Tree) → None ≡ operation (in_sequence ts)
not_operation [] = refl
not_operation (t ∷ ts) = refl

pub not_sides : (ts : List Tree) → None ≡ sides (in_sequence ts)
not_sides [] = refl
not_sides (t ∷ ts) = refl

pub not_looped : (ts : List Tree) → None ≡ looped (in_sequence ts)
not_looped [] = refl
not_looped (t ∷ ts) = refl

pub not_locked : (ts : List Tree) → None ≡ locked (in_sequence ts)
not_locked [] = refl
not_locked (t ∷ ts) = refl
