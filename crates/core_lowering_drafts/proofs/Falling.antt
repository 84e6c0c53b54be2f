-- Groups of a `switch`, each of which goes on in the next one.
use Rattle.std.proofs.Common.{◌≡◌, ℕ, suc, Bool, true, false, not, ◌&&◌, ◌||◌, List, [], ◌∷◌, ◌++◌, cond, refl, sym, ap}
use Rattle.std.proofs.Common.{◌∙◌, ◌<◌, ◌≤◌, ◌+◌, ◌-◌, ◌⊎◌, ⊎_elim, length, take, get_or, subst, arith}
use Rattle.std.proofs.Common.{length-append}
use Rattle.std.proofs.Math.ListN.{get_or-append}
use Rattle.std.proofs.Math.Seq.{get_or-append_seam, take-length}
use Rattle.std.proofs.lemmas.List.{take-append-le, take_more}
use Rattle.core_lowering_drafts.specs.declared.ends.Ends.{Ends as EndSet}
use Rattle.core_lowering_drafts.specs.Drafts.{End, Normal, Return, Exception, Exit, Ends, SameEnds, is_same, has}
use Rattle.core_lowering_drafts.specs.Drafts.{Choice, ends_then, in_order, no_part}
use Rattle.core_lowering_drafts.specs.EndSets.{listed, seen}
use Rattle.core_lowering_drafts.specs.Groups.{AreEnds, entered, fall_in, fallen}
use Rattle.core_lowering_drafts.specs.Lists.{Parts, ends_of}
use Rattle.core_lowering_drafts.proofs.EndSets.{told, has-listed}
use Rattle.core_lowering_drafts.proofs.Sets.{has-append}
use Rattle.core_lowering_drafts.proofs.SameEnds.{append-same, then-same}
use Rattle.core_lowering_drafts.proofs.DraftEnds.{copy-same, has-then, same-trans}

-- ---- one more group

fall_in-last : (before group : Parts) (groups : List Parts) →
    fall_in before (groups ++ group ∷ []) ≡ Choice (in_order (fall_in before groups)) no_part ∷ group
fall_in-last before group [] = refl
fall_in-last before group (next ∷ groups) = fall_in-last (Choice (in_order before) no_part ∷ next) group groups

pub fallen-last : (groups : List Parts) (group : Parts) → fallen (groups ++ group ∷ []) ≡ entered groups ++ group
fallen-last [] group = refl
fallen-last (first ∷ groups) group = fall_in-last first group groups

-- ---- how they end

abbrev pub so_far : List Parts → Ends
so_far [] = []
so_far (group ∷ groups) = ends_of (fallen (group ∷ groups))

-- a group in which others go on and come in
pub gone-on : (m n r t : Bool) (xs : List ℕ) (F R : Ends) → m ≡ has F Normal →
    SameEnds (listed n r t xs) (R ++ F) → SameEnds (listed m r t xs) (ends_then (R ++ Normal ∷ []) F)
gone-on m n r t xs F R normal put e =
    has-listed m r t xs e ∙ by e
    ∙ sym (has-then (R ++ Normal ∷ []) F e
    ∙ ap (λ b. cond b ((has (R ++ Normal ∷ []) e && not (is_same Normal e)) || has F e) (has (R ++ Normal ∷ []) e))
    goes_on
    ∙ ap (λ b. (b && not (is_same Normal e)) || has F e) (has-append R (Normal ∷ []) e))
  where
    ever : (b : Bool) → (b || true) ≡ true
    ever true = refl
    ever false = refl

    goes_on : has (R ++ Normal ∷ []) Normal ≡ true
    goes_on = has-append R (Normal ∷ []) Normal ∙ ever (has R Normal)

    from : (e : End) → told n r t xs e ≡ (has R e || has F e)
    from e = sym (has-listed n r t xs e) ∙ put e ∙ has-append R F e

    alone : (b c : Bool) → c ≡ (((b || true) && false) || c)
    alone true c = refl
    alone false c = refl

    other : (b c : Bool) → (b || c) ≡ (((b || false) && true) || c)
    other true c = refl
    other false c = refl

    by : (e : End) → told m r t xs e ≡ (((has R e || has (Normal ∷ []) e) && not (is_same Normal e)) || has F e)
    by Normal = normal ∙ alone (has R Normal) (has F Normal)
    by Return = from Return ∙ other (has R Return) (has F Return)
    by Exception = from Exception ∙ other (has R Exception) (has F Exception)
    by (Exit k) = from (Exit k) ∙ other (has R (Exit k)) (has F (Exit k))

-- of the next group
pub so_far-next : (groups : List Parts) (group : Parts) →
    SameEnds (ends_then (so_far groups ++ Normal ∷ []) (ends_of group)) (ends_of (fallen (groups ++ group ∷ [])))
so_far-next [] group = λ e. refl
so_far-next (first ∷ groups) group =
    λ e. ap (λ (parts : Parts). has (ends_of parts) e) (sym (fallen-last (first ∷ groups) group))

pub next-ends : (old new here : Ends) (groups : List Parts) (group : Parts) → SameEnds old (so_far groups) →
    SameEnds here (ends_of group) → SameEnds new (ends_then (old ++ Normal ∷ []) here) →
    SameEnds new (ends_of (fallen (groups ++ group ∷ [])))
next-ends old new here groups group so this made =
    same-trans new (ends_then (old ++ Normal ∷ []) here) (ends_of (fallen (groups ++ group ∷ []))) made
    (same-trans (ends_then (old ++ Normal ∷ []) here) (ends_then (so_far groups ++ Normal ∷ []) (ends_of group))
    (ends_of (fallen (groups ++ group ∷ [])))
    (then-same (old ++ Normal ∷ []) (so_far groups ++ Normal ∷ []) here (ends_of group)
    (append-same old (so_far groups) (Normal ∷ []) (Normal ∷ []) so (λ e. refl)) this) (so_far-next groups group))

cases : (i n : ℕ) → i < n + 1 → (i < n) ⊎ (i ≡ n)
cases i n h = grind (arith, h)

pub one-more-end : (ends : List EndSet) (groups : List Parts) (next : EndSet) (group : Parts) → AreEnds ends groups →
    SameEnds (seen next) (ends_of (fallen (groups ++ group ∷ []))) → AreEnds (ends ++ next ∷ []) (groups ++ group ∷ [])
one-more-end ends groups next group are last = (
  length-append ends (next ∷ []) ∙ ap (λ n. n + 1) are.0 ∙ sym (length-append groups (group ∷ [])),
  λ i d within. ⊎_elim (before i d) (here i d)
      (cases i (length groups) (omega (arith, within, length-append groups (group ∷ [])))),
)
  where
    before : (i : ℕ) (d : EndSet) → i < length groups →
        SameEnds (seen (get_or (ends ++ next ∷ []) i d)) (ends_of (fallen (take (suc i) (groups ++ group ∷ []))))
    before i d within e =
        let there : i < length ends = omega (arith, within, are.0) in
        ap (λ (x : EndSet). has (seen x) e) (get_or-append ends (next ∷ []) d i there) ∙ are.1 i d within e
        ∙ ap (λ (all : List Parts). has (ends_of (fallen all)) e)
        (sym (take-append-le (suc i) groups (group ∷ []) (omega (arith, within))))

    here : (i : ℕ) (d : EndSet) → i ≡ length groups →
        SameEnds (seen (get_or (ends ++ next ∷ []) i d)) (ends_of (fallen (take (suc i) (groups ++ group ∷ []))))
    here i d at e =
        let all : length (groups ++ group ∷ []) ≡ suc i = length-append groups (group ∷ []) ∙ omega (arith, at) in
        ap (λ (n : ℕ). has (seen (get_or (ends ++ next ∷ []) n d)) e) (at ∙ sym are.0)
        ∙ ap (λ (x : EndSet). has (seen x) e) (get_or-append_seam ends next [] d) ∙ last e
        ∙ ap (λ (gs : List Parts). has (ends_of (fallen gs)) e) (sym (take-length (groups ++ group ∷ [])))
        ∙ ap (λ n. has (ends_of (fallen (take n (groups ++ group ∷ [])))) e) all

-- of the first so many groups
pub ends-at : (ends read : List EndSet) (groups view : List Parts) (count last : ℕ) (kept : EndSet) →
    AreEnds ends groups → groups ≡ view → read ≡ ends → 1 ≤ count → last ≡ count - 1 → last < length read →
    kept ≡ get_or read last kept → SameEnds (seen kept) (ends_of (fallen (take count view)))
ends-at ends read groups view count last kept are same whole some is within at e =
    let long : length read ≡ length ends = ap (λ (xs : List EndSet). length xs) whole in
    let there : last < length groups = omega (arith, within, long, are.0) in
    let counted : suc last ≡ count = omega (arith, some, is) in
    ap (λ (x : EndSet). has (seen x) e) (at ∙ ap (λ (xs : List EndSet). get_or xs last kept) whole)
    ∙ are.1 last kept there e ∙ ap (λ n. has (ends_of (fallen (take n groups))) e) counted
    ∙ ap (λ (gs : List Parts). has (ends_of (fallen (take count gs))) e) same

turned : (a b : Bool) → (a || b) ≡ (b || (a || false))
turned true true = refl
turned true false = refl
turned false true = refl
turned false false = refl

-- these, or nothing
pub or-nothing : (put old E : Ends) → SameEnds put (Normal ∷ old) → SameEnds old E → SameEnds put (E ++ Normal ∷ [])
or-nothing put old E made s e =
    made e ∙ ap (λ b. is_same e Normal || b) (s e) ∙ by (is_same e Normal) (has E e)
    ∙ sym (has-append E (Normal ∷ []) e)
  where
    by : (a b : Bool) → (a || b) ≡ (b || (a || false))
    by a b = turned a b

so_far-last : (groups : List Parts) (group : Parts) →
    so_far (groups ++ group ∷ []) ≡ ends_of (fallen (groups ++ group ∷ []))
so_far-last [] group = refl
so_far-last (first ∷ groups) group = refl

one-here : (drafts : List Parts) (i : ℕ) (x : Parts) → i < length drafts → x ≡ get_or drafts i x →
    take i drafts ++ x ∷ [] ≡ take (i + 1) drafts
one-here drafts i x there is = sym (take_more drafts i x there ∙ ap (λ (y : Parts). take i drafts ++ y ∷ []) (sym is))

-- a step of the loop that finds the ends through each group
module _ (drafts : List Parts) (i : ℕ) (x : Parts) (there : i < length drafts) (is : x ≡ get_or drafts i x)
    (old new here : Ends) (so : SameEnds old (so_far (take i drafts))) (this : SameEnds here (ends_of x))
    (made : SameEnds new (ends_then (old ++ Normal ∷ []) here)) where
  next : SameEnds new (ends_of (fallen (take i drafts ++ x ∷ [])))
  next = next-ends old new here (take i drafts) x so this made

  pub so_far-step : SameEnds new (so_far (take (i + 1) drafts))
  so_far-step = subst (λ (gs : List Parts). SameEnds new (so_far gs)) (one-here drafts i x there is)
      (λ e. next e ∙ ap (λ (es : Ends). has es e) (sym (so_far-last (take i drafts) x)))

  pub ends-step : (all pushed : List EndSet) (copy : EndSet) → AreEnds all (take i drafts) →
      pushed ≡ all ++ copy ∷ [] → seen copy ≡ new → AreEnds pushed (take (i + 1) drafts)
  ends-step all pushed copy are put copied =
      subst (λ (xs : List EndSet). AreEnds xs (take (i + 1) drafts)) (sym put)
      (subst (λ (gs : List Parts). AreEnds (all ++ copy ∷ []) gs) (one-here drafts i x there is)
      (one-more-end all (take i drafts) copy x are
      (copy-same (seen copy) new (ends_of (fallen (take i drafts ++ x ∷ []))) copied next)))
