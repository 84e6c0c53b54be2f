-- The states in which loops were left, read through a table.
use Rattle.std.proofs.Common.{◌≡◌, ℕ, zero, suc, ◌<◌, ◌+◌, arith, ◌&&◌, List, [], ◌∷◌, ◌++◌, Option, None, Some}
use Rattle.std.proofs.Common.{option_map, length, replicate, refl, sym, ap, subst, ◌∙◌}
use Rattle.std.specs.Prelude.{slice_index_or, slice_set}
use Rattle.std.proofs.lemmas.List.{length-map}
use Rattle.access_paths.specs.declared.path.Path.{Path}
use Rattle.access_paths.specs.Table.{IsTable, GoesOn}
use Rattle.access_paths.proofs.Numbers.{equal_numbers}
use Rattle.owner_domain.specs.declared.numbered.NumberedValue.{NumberedValue}
use Rattle.owner_domain.specs.declared.numbered.NumberedValue.TheVariants.{Owned, Named, Unnamed}
use Rattle.owner_domain.specs.declared.numbered.NumberedState.{NumberedState}
use Rattle.owner_domain.specs.Numbered.{read_value, read_state, same_number, IsInRange, AllInRange, AreInRange}
use Rattle.owner_domain.specs.Values.{same_value}
use Rattle.call_subst.specs.Numbered.{read_values}
use Rattle.owner_domain.specs.declared.value.State.{State}
use Rattle.transfer_loops.specs.Resuming.{entered}
use Rattle.transfer_loops.specs.Rounds.{same_values, same_state, rounds_of}
use Rattle.transfer_steps.specs.Numbered.{read_heads, IsHeadInRange, AreHeadsInRange}
use Rattle.owner_domain.specs.Slots.{same_numbers, same_numbered}
use Rattle.transfer_steps.proofs.Readings.{state-longer, state-still}

abbrev Left : Type 0
Left = Option NumberedState

module _ (old new : List Path) (on : GoesOn old new) where
  head-longer : (h : Left) → IsHeadInRange old h → option_map (read_state new) h ≡ option_map (read_state old) h
  head-longer None low = refl
  head-longer (Some s) low = ap Some (state-longer old new on s low)

  head-still : (h : Left) → IsHeadInRange old h → IsHeadInRange new h
  head-still None low = tt
  head-still (Some s) low = state-still old new on s low

  pub heads-longer : (hs : List Left) → AreHeadsInRange old hs → read_heads new hs ≡ read_heads old hs
  heads-longer [] low = refl
  heads-longer (h ∷ hs) low = λ i. head-longer h low.0 i ∷ heads-longer hs low.1 i

  pub heads-still : (hs : List Left) → AreHeadsInRange old hs → AreHeadsInRange new hs
  heads-still [] low = tt
  heads-still (h ∷ hs) low = (head-still h low.0, heads-still hs low.1)

module _ (table : List Path) where
  pub heads-long : (hs : List Left) → length (read_heads table hs) ≡ length hs
  heads-long hs = length-map hs (option_map (read_state table))

  pub head-at : (hs : List Left) (k : ℕ) →
      slice_index_or (read_heads table hs) k None ≡ option_map (read_state table) (slice_index_or hs k None)
  head-at [] k = refl
  head-at (h ∷ hs) zero = refl
  head-at (h ∷ hs) (suc k) = head-at hs k

  pub head-in : (hs : List Left) (k : ℕ) → AreHeadsInRange table hs → IsHeadInRange table (slice_index_or hs k None)
  head-in [] k low = tt
  head-in (h ∷ hs) zero low = low.0
  head-in (h ∷ hs) (suc k) low = head-in hs k low.1

  pub heads-put : (hs : List Left) (k : ℕ) (s : NumberedState) →
      read_heads table (slice_set hs k (Some s)) ≡ slice_set (read_heads table hs) k (Some (read_state table s))
  heads-put [] k s = refl
  heads-put (h ∷ hs) zero s = refl
  heads-put (h ∷ hs) (suc k) s = ap (λ os. option_map (read_state table) h ∷ os) (heads-put hs k s)

  pub heads-put-in : (hs : List Left) (k : ℕ) (s : NumberedState) → AreHeadsInRange table hs → AreInRange table s →
      AreHeadsInRange table (slice_set hs k (Some s))
  heads-put-in [] k s low last = tt
  heads-put-in (h ∷ hs) zero s low last = (last, low.1)
  heads-put-in (h ∷ hs) (suc k) s low last = (low.0, heads-put-in hs k s low.1 last)

  pub none-read : (n : ℕ) → read_heads table (replicate n None) ≡ replicate n None
  none-read zero = refl
  none-read (suc n) = ap (λ os. None ∷ os) (none-read n)

  pub none-in : (n : ℕ) → AreHeadsInRange table (replicate n None)
  none-in zero = tt
  none-in (suc n) = (tt, none-in n)

  -- as many rounds
  pub rounds-read : (s : NumberedState) (n : ℕ) → n ≡ length s.vars + length s.stack + 1 →
      n ≡ rounds_of (read_state table s)
  rounds-read s n e = e
      ∙ (λ i. sym (length-map s.vars (read_value table)) i + sym (length-map s.stack (read_value table)) i + 1)

-- the element of an index that is in range does not depend on what stands for none
pub any_left : (hs : List Left) (i : ℕ) (d e : Left) → i < length hs → slice_index_or hs i d ≡ slice_index_or hs i e
any_left [] i d e low = absurd (omega arith)
any_left (h ∷ hs) zero d e low = refl
any_left (h ∷ hs) (suc i) d e low =
    let l : suc i < suc (length hs) = low in any_left hs i d e (omega arith)

-- one more loop that was not come to
pub one_more_left : (n : ℕ) → (replicate n (let o : Left = None in o) ++ None ∷ []) ≡ replicate (n + 1)
    (let o : Left = None in o)
one_more_left n = more n ∙ ap (λ k. replicate k (let o : Left = None in o))
    (let e : suc n ≡ n + 1 = omega arith in e)
  where
    more : (n : ℕ) →
        (replicate n (let o : Left = None in o) ++ None ∷ []) ≡ replicate (suc n) (let o : Left = None in o)
    more zero = refl
    more (suc n) = ap (λ xs. None ∷ xs) (more n)

-- ---- the same states

module _ (table : List Path) (once : IsTable table) where
  same-value : (a b : NumberedValue) → IsInRange table a → IsInRange table b →
      same_number a b ≡ same_value (read_value table a) (read_value table b)
  same-value Owned Owned p q = refl
  same-value Owned (Named n) p q = refl
  same-value Owned Unnamed p q = refl
  same-value (Named m) Owned p q = refl
  same-value (Named m) (Named n) p q = sym (equal_numbers table m n once p q)
  same-value (Named m) Unnamed p q = refl
  same-value Unnamed Owned p q = refl
  same-value Unnamed (Named n) p q = refl
  same-value Unnamed Unnamed p q = refl

  same-values : (xs ys : List NumberedValue) → AllInRange table xs → AllInRange table ys →
      same_numbers xs ys ≡ same_values (read_values table xs) (read_values table ys)
  same-values [] [] p q = refl
  same-values [] (y ∷ ys) p q = refl
  same-values (x ∷ xs) [] p q = refl
  same-values (x ∷ xs) (y ∷ ys) p q = λ i. same-value x y p.0 q.0 i && same-values xs ys p.1 q.1 i

  pub same-state : (s t : NumberedState) → AreInRange table s → AreInRange table t →
      same_numbered s t ≡ same_state (read_state table s) (read_state table t)
  same-state s t p q = λ i. same-values s.vars t.vars p.0 q.0 i && same-values s.stack t.stack p.1 q.1 i

-- lists of heads that are as long in two tables
pub long-back : (old new : List Path) (hs later : List Left) →
    length (read_heads new later) ≡ length (read_heads old hs) → length later ≡ length hs
long-back old new hs later e = sym (heads-long new later) ∙ e ∙ heads-long old hs

pub long-read : (old new : List Path) (hs later : List Left) → length later ≡ length hs →
    length (read_heads new later) ≡ length (read_heads old hs)
long-read old new hs later e = heads-long new later ∙ e ∙ sym (heads-long old hs)

-- ---- where a loop was left

module _ (table : List Path) (hs : List Left) (k : ℕ) (low : AreHeadsInRange table hs) where
  pub left-in : (left : Left) → k < length hs → left ≡ slice_index_or hs k left → IsHeadInRange table left
  left-in left within is =
      subst (IsHeadInRange table) (sym (is ∙ any_left hs k left None within)) (head-in table hs k low)

  pub loop-begun : (left : Left) (s x : NumberedState) → k < length hs → left ≡ slice_index_or hs k left →
      read_state table x ≡ entered (option_map (read_state table) left) (read_state table s) →
      read_state table x ≡ entered (slice_index_or (read_heads table hs) k None) (read_state table s)
  loop-begun left s x within is begun =
      begun
      ∙ ap (λ (o : Option State). entered o (read_state table s))
      (ap (option_map (read_state table)) (is ∙ any_left hs k left None within) ∙ sym (head-at table hs k))
