-- A contract of a public call rests on this: drafts, which are core code whose paths can leave for an exit, and how
-- their paths end.
use Rattle.std.specs.Prelude.{◌≡◌, ℕ, Bool, true, false, not, ◌&&◌, nat_eq, List, [], ◌∷◌, ◌++◌, filter}
use Rattle.std.specs.Prelude.{if◌then◌else◌}
use Rattle.std.specs.List.{list_any}
use Rattle.racer_base.specs.declared.ids.Place.{Place}
use Rattle.racer_base.specs.declared.ids.VarId.{VarId}
use Rattle.core_code.specs.declared.code.Op.{Op as CoreOp}
use Rattle.core_code.specs.declared.code.Op.TheVariants.{Ret, Throw}
use Rattle.core_code.specs.Tree.{LockAt}

-- ---- ends

-- a path ends normally, so that what stands behind it is done; by a return; by an exception; or for an exit
pub data End : Type 0 where
  Normal : End
  Return : End
  Exception : End
  Exit : ℕ → End

abbrev pub is_same : End → End → Bool
is_same Normal Normal = true
is_same Return Return = true
is_same Exception Exception = true
is_same (Exit k) (Exit l) = nat_eq k l
is_same _ _ = false

-- sets of ends, as lists in which the order and how often an end stands do not count
abbrev pub Ends : Type 0
Ends = List End

abbrev pub has : Ends → End → Bool
has ends e = list_any (is_same e) ends

abbrev pub without : End → Ends → Ends
without e ends = filter (λ f. not (is_same e f)) ends

-- two that are the same set
abbrev pub SameEnds : Ends → Ends → Type 0
SameEnds first second = (e : End) → has first e ≡ has second e

-- whether two sets have an end in common
abbrev pub do_meet : Ends → Ends → Bool
do_meet ends asked = list_any (has asked) ends

-- nothing stands behind a return and an exception
abbrev pub is_final : End → Bool
is_final Return = true
is_final Exception = true
is_final _ = false

abbrev pub is_exit : End → Bool
is_exit (Exit k) = true
is_exit _ = false

abbrev pub final_ends : Ends → Ends
final_ends ends = filter is_final ends

abbrev pub exits : Ends → Ends
exits ends = filter is_exit ends

-- normal, and those that nothing stands behind
abbrev pub on : Ends → Ends
on ends = Normal ∷ final_ends ends

-- ---- drafts

mutual
  pub data Part : Type 0 where
    Op : (place : Place) (op : CoreOp) → Part
    Choice : (left right : Draft) → Part
    Loop : (body : Draft) → Part
    Sync : (lock : LockAt) (body : Draft) → Part
    -- leaves for an exit
    Leave : (exit : ℕ) → Part
    -- what leaves the body for the exit comes out behind it
    Within : (exit : ℕ) (body : Draft) → Part
    -- nothing comes here
    Never : Part
    -- behind each path of the body that neither returns nor throws these variables are null
    Ending : (body : Draft) (place : Place) (variables : List VarId) → Part
    -- behind each path of the body that does not throw `finally` is done, and behind those that left the body for the
    -- exit, then the last
    Behind : (body finally : Draft) (exit : ℕ) (last : Draft) → Part

  -- parts, one after another
  pub data Draft : Type 0 where
    no_part : Draft
    part_then : Part → Draft → Draft

abbrev pub in_order : List Part → Draft
in_order [] = no_part
in_order (part ∷ parts) = part_then part (in_order parts)

-- ---- the ends of a draft

abbrev pub op_end : CoreOp → End
op_end Ret = Return
op_end Throw = Exception
op_end _ = Normal

-- of a part and what stands behind it
abbrev pub ends_then : Ends → Ends → Ends
ends_then first rest = if has first Normal then without Normal first ++ rest else first

abbrev pub ends_within : ℕ → Ends → Ends
ends_within k body = if has body (Exit k) then Normal ∷ without (Exit k) body else body

-- whether `finally` is done behind this end, and the path ends so where `finally` ends normally
abbrev pub is_kept : ℕ → End → Bool
is_kept k e = not (is_same Exception e) && not (is_same (Exit k) e)

-- behind a `finally` that ends normally
abbrev pub ends_last : ℕ → (body last : Ends) → Ends
ends_last k body last = (if has body (Exit k) then last else []) ++ filter (is_kept k) body

abbrev pub ends_finally : ℕ → (body finally last : Ends) → Ends
ends_finally k body finally last =
    without Normal finally ++ (if has finally Normal then ends_last k body last else [])

abbrev pub ends_behind : ℕ → (body finally last : Ends) → Ends
ends_behind k body finally last =
    filter (is_same Exception) body
    ++ (if list_any (λ e. not (is_same Exception e)) body then ends_finally k body finally last else [])

abbrev mutual
  pub part_ends : Part → Ends
  part_ends (Op place op) = op_end op ∷ []
  part_ends (Choice left right) = ends left ++ ends right
  part_ends (Loop body) = Normal ∷ ends body
  part_ends (Sync lock body) = ends body
  part_ends (Leave k) = Exit k ∷ []
  part_ends (Within k body) = ends_within k (ends body)
  part_ends Never = []
  part_ends (Ending body place variables) = ends body
  part_ends (Behind body finally k last) = ends_behind k (ends body) (ends finally) (ends last)

  pub ends : Draft → Ends
  ends no_part = Normal ∷ []
  ends (part_then part rest) = ends_then (part_ends part) (ends rest)

-- whether a draft has a path that ends by one of these
abbrev pub meets : Draft → Ends → Bool
meets draft asked = do_meet (ends draft) asked
