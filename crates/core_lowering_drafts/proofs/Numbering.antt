-- Code whose sites count from 0, and the same code without sites.
use Rattle.std.proofs.Common.{◌≡◌, ℕ, ◌+◌, true, ◌&&◌, ◌||◌, List, [], ◌∷◌, ◌++◌, length, map, take, drop}
use Rattle.std.proofs.Common.{nat_eq, refl, sym, ap, ◌∙◌, append_assoc, length-append, zero-add}
use Rattle.std.proofs.lemmas.List.{map-append, length-map, take-append-drop, append-nil, take-map, drop-map}
use borrow.Author.Tests.{eqb-true}
use Rattle.std.proofs.lemmas.Bool.{eq-eqb, and_from, and_parts}
use Rattle.racer_base.specs.declared.ids.SiteId.{SiteId}
use Rattle.racer_base.specs.declared.ids.Place.{Place}
use Rattle.core_code.specs.declared.code.LockKind.{LockKind}
use Rattle.core_code.specs.declared.code.Code.{Code}
use Rattle.core_code.specs.declared.code.Op.{Op as CoreOp}
use Rattle.core_code.specs.Tree.{Tree, Op, Skip, Seq, Choice, Loop, Sync, Operation, steps_of, in_sequence}
use Rattle.core_code.specs.Tree.{tree_of, can_end}
use Rattle.core_code.specs.Facts.{sites_of, counts_from}
use Rattle.core_code.proofs.Sites.{counts_from-append, sites_of-then, sites_go_on}
use Rattle.core_lowering_drafts.specs.Only.{one, fork, loop_of}
use Rattle.core_lowering_drafts.specs.Sites.{AreNumbered, erased, erased_of, lock_at, locked, numbered, whole_of}

-- ---- numbering gives the sites back

steps-two : (a b : Tree) → length (steps_of (erased a)) ≡ length (steps_of a) → length (steps_of (erased b)) ≡ length
    (steps_of b) → length (steps_of (erased a) ++ steps_of (erased b)) ≡ length (steps_of a ++ steps_of b)
steps-two a b p q =
    length-append (steps_of (erased a)) (steps_of (erased b)) ∙ ap (λ n. n + length (steps_of (erased b))) p
    ∙ ap (λ n. length (steps_of a) + n) q ∙ sym (length-append (steps_of a) (steps_of b))

steps-erased : (t : Tree) → length (steps_of (erased t)) ≡ length (steps_of t)
steps-erased (Op site place op) = refl
steps-erased Skip = refl
steps-erased (Seq first rest) = steps-two first rest (steps-erased first) (steps-erased rest)
steps-erased (Choice left right) = steps-two left right (steps-erased left) (steps-erased right)
steps-erased (Loop body) = steps-erased body
steps-erased (Sync place body) = steps-erased body

site-here : (n : ℕ) (site : SiteId) → (nat_eq site.0 n && true) ≡ true → site.0 ≡ n
site-here n site h = eqb-true site.0 n (and_parts (nat_eq site.0 n) true h).0

abbrev count : Tree → ℕ
count t = length (steps_of t)

-- the sites of one part, and of another behind it
parts-count : (n : ℕ) (first rest : Tree) → counts_from n (sites_of (Seq first rest)) ≡ true →
    (counts_from n (sites_of first) ≡ true) × (counts_from (n + count first) (sites_of rest) ≡ true)
parts-count n first rest h =
    let b = sym (ap (counts_from n) (sites_of-then first rest)
    ∙ counts_from-append n (sites_of first) (sites_of rest)) ∙ h in
    let many : length (sites_of first) ≡ count first =
    length-map (steps_of first) (λ (o : Operation). o.site) in (
      (and_parts (counts_from n (sites_of first)) (counts_from (n + length (sites_of first)) (sites_of rest)) b).0,
      ap (λ k. counts_from (n + k) (sites_of rest)) (sym many)
          ∙ (and_parts (counts_from n (sites_of first)) (counts_from (n + length (sites_of first)) (sites_of rest))
          b).1,
    )

pub numbered-erased : (t : Tree) (n : ℕ) → counts_from n (sites_of t) ≡ true → numbered n (erased t) ≡ t
numbered-erased (Op site place op) n h =
    ap (λ k. Op (record { 0 = k }) place op) (sym (site-here n site h))
numbered-erased Skip n h = refl
numbered-erased (Seq first rest) n h =
    let p = parts-count n first rest h in
    ap (λ x. Seq x (numbered (n + count (erased first)) (erased rest))) (numbered-erased first n p.0)
    ∙ ap (λ k. Seq first (numbered (n + k) (erased rest))) (steps-erased first)
    ∙ ap (Seq first) (numbered-erased rest (n + count first) p.1)
numbered-erased (Choice left right) n h =
    let p = parts-count n left right h in
    ap (λ x. Choice x (numbered (n + count (erased left)) (erased right))) (numbered-erased left n p.0)
    ∙ ap (λ k. Choice left (numbered (n + k) (erased right))) (steps-erased left)
    ∙ ap (Choice left) (numbered-erased right (n + count left) p.1)
numbered-erased (Loop body) n h = ap Loop (numbered-erased body n h)
numbered-erased (Sync lock body) n h = ap (Sync lock) (numbered-erased body n h)

pub erased-sequence : (ts : List Tree) → erased (in_sequence ts) ≡ in_sequence (map erased ts)
erased-sequence [] = refl
erased-sequence (t ∷ ts) = ap (Seq (erased t)) (erased-sequence ts)

pub can_end-erased : (t : Tree) → can_end (erased t) ≡ can_end t
can_end-erased (Op site place op) = refl
can_end-erased Skip = refl
can_end-erased (Seq first rest) =
    ap (λ x. x && can_end (erased rest)) (can_end-erased first) ∙ ap (λ x. can_end first && x) (can_end-erased rest)
can_end-erased (Choice left right) =
    ap (λ x. x || can_end (erased right)) (can_end-erased left) ∙ ap (λ x. can_end left || x) (can_end-erased right)
can_end-erased (Loop body) = refl
can_end-erased (Sync place body) = can_end-erased body

-- ---- parts

abbrev pub trees_of : List Code → List Tree
trees_of parts = map tree_of parts

parts-erased : (parts : List Code) → map erased (trees_of parts) ≡ map erased_of parts
parts-erased [] = refl
parts-erased (c ∷ parts) = ap (λ ts. erased (tree_of c) ∷ ts) (parts-erased parts)

whole-erased : (parts : List Code) → erased (whole_of parts) ≡ in_sequence (map erased_of parts)
whole-erased parts = erased-sequence (trees_of parts) ∙ ap in_sequence (parts-erased parts)

-- the whole is the numbered code
pub whole-numbered : (parts : List Code) (next : ℕ) → AreNumbered parts next →
    whole_of parts ≡ numbered 0 (in_sequence (map erased_of parts))
whole-numbered parts next h =
    sym (numbered-erased (whole_of parts) 0 h.0) ∙ ap (numbered 0) (whole-erased parts)

pub whole-ends : (parts : List Code) → can_end (whole_of parts) ≡ can_end (in_sequence (map erased_of parts))
whole-ends parts = sym (can_end-erased (whole_of parts)) ∙ ap can_end (whole-erased parts)

-- the operations of parts one after another
pub steps-append : (a b : List Tree) → steps_of (in_sequence (a ++ b)) ≡ steps_of (in_sequence a) ++ steps_of
    (in_sequence b)
steps-append [] b = refl
steps-append (t ∷ a) b =
    ap (λ ops. steps_of t ++ ops) (steps-append a b)
    ∙ sym (append_assoc (steps_of t) (steps_of (in_sequence a)) (steps_of (in_sequence b)))

-- code with the same operations has the same sites
pub numbered-same : (old new : List Code) (next : ℕ) → AreNumbered old next →
    steps_of (whole_of new) ≡ steps_of (whole_of old) → AreNumbered new next
numbered-same old new next h same = (
  ap (λ (ops : List Operation). counts_from 0 (map (λ (o : Operation). o.site) ops)) same ∙ h.0,
  h.1 ∙ ap (λ (ops : List Operation). length ops) (sym same),
)

-- ---- what is put at the end of parts

op-counts : (old new more : List Operation) (next : ℕ) →
    (counts_from 0 (map (λ (o : Operation). o.site) old) ≡ true) × (next ≡ length old) → new ≡ old ++ more →
    counts_from next (map (λ (o : Operation). o.site) more) ≡ true →
    counts_from 0 (map (λ (o : Operation). o.site) new) ≡ true
op-counts old new more next h e there =
    let site = λ (o : Operation). o.site in
    let many : 0 + length (map site old) ≡ next = zero-add (length (map site old)) ∙ length-map old site ∙ sym h.1 in
    ap (λ (ops : List Operation). counts_from 0 (map site ops)) e
    ∙ ap (counts_from 0) (map-append site old more)
    ∙ sites_go_on 0 (map site old) (map site more) h.0 (ap (λ k. counts_from k (map site more)) many ∙ there)

-- an operation with the next site
pub op-numbered : (old new : List Code) (next after : ℕ) (place : Place) (op : CoreOp) (code : Code) →
    AreNumbered old next → new ≡ old ++ code ∷ [] → tree_of code ≡ Op (record { 0 = next }) place op →
    after ≡ next + 1 → AreNumbered new after
op-numbered old new next after place op code h e made more =
    let step = Op (record { 0 = next }) place op in
    let trees : trees_of new ≡ trees_of old ++ step ∷ [] =
    ap trees_of e ∙ map-append tree_of old (code ∷ []) ∙ ap (λ t. trees_of old ++ t ∷ []) made in
    let steps : steps_of (whole_of new) ≡ steps_of (whole_of old) ++ steps_of step =
    ap (λ ts. steps_of (in_sequence ts)) trees ∙ steps-append (trees_of old) (step ∷ []) in (
      op-counts (steps_of (whole_of old)) (steps_of (whole_of new)) (steps_of step) next h steps
          (and_from (nat_eq next next) true (eq-eqb next next refl) refl),
      more ∙ ap (λ k. k + 1) h.1 ∙ sym (length-append (steps_of (whole_of old)) (steps_of step))
          ∙ ap (λ (ops : List Operation). length ops) (sym steps),
    )

pub op-put : (old new : List Code) (n : SiteId) (place : Place) (op : CoreOp) (code : Code) →
    new ≡ old ++ code ∷ [] → tree_of code ≡ Op n place op →
    map erased_of new ≡ map erased_of old ++ one place op
op-put old new n place op code e made =
    ap (map erased_of) e ∙ map-append erased_of old (code ∷ []) ∙ ap (λ t. map erased_of old ++ erased t ∷ []) made

-- parts in three groups, of which the last are made one part with the same operations
regrouped : (parts : List Code) (l r : ℕ) →
    trees_of parts ≡ (trees_of (take l (take r parts)) ++ trees_of (drop l (take r parts))) ++ trees_of (drop r parts)
regrouped parts l r =
    ap trees_of (sym (ap (λ x. x ++ drop r parts) (take-append-drop l (take r parts)) ∙ take-append-drop r parts))
    ∙ map-append tree_of (take l (take r parts) ++ drop l (take r parts)) (drop r parts)
    ∙ ap (λ ts. ts ++ trees_of (drop r parts)) (map-append tree_of (take l (take r parts)) (drop l (take r parts)))

grouped : (parts : List Code) (at : ℕ) → trees_of parts ≡ trees_of (take at parts) ++ trees_of (drop at parts)
grouped parts at = ap trees_of (sym (take-append-drop at parts)) ∙ map-append tree_of (take at parts) (drop at parts)

steps-three : (a b c : List Tree) →
    steps_of (in_sequence (a ++ fork b c)) ≡ steps_of (in_sequence ((a ++ b) ++ c))
steps-three a b c =
    steps-append a (fork b c)
    ∙ ap (λ ops. steps_of (in_sequence a) ++ ops) (append-nil (steps_of (in_sequence b) ++ steps_of (in_sequence c)))
    ∙ sym (append_assoc (steps_of (in_sequence a)) (steps_of (in_sequence b)) (steps_of (in_sequence c)))
    ∙ sym (ap (λ ops. ops ++ steps_of (in_sequence c)) (steps-append a b)) ∙ sym (steps-append (a ++ b) c)

-- one part with the operations of those from one on
steps-last : (a b : List Tree) (t : Tree) → steps_of t ≡ steps_of (in_sequence b) →
    steps_of (in_sequence (a ++ t ∷ [])) ≡ steps_of (in_sequence (a ++ b))
steps-last a b t same =
    steps-append a (t ∷ [])
    ∙ ap (λ ops. steps_of (in_sequence a) ++ ops) (append-nil (steps_of t) ∙ same) ∙ sym (steps-append a b)

pub chosen-numbered : (old new : List Code) (next l r : ℕ) → AreNumbered old next →
    trees_of new
    ≡ trees_of (take l (take r old)) ++ fork (trees_of (drop l (take r old))) (trees_of (drop r old)) →
    AreNumbered new next
chosen-numbered old new next l r h e =
    numbered-same old new next h
    (ap (λ ts. steps_of (in_sequence ts)) e
    ∙ steps-three (trees_of (take l (take r old))) (trees_of (drop l (take r old))) (trees_of (drop r old))
    ∙ ap (λ ts. steps_of (in_sequence ts)) (sym (regrouped old l r)))

pub repeated-numbered : (old new : List Code) (next at : ℕ) → AreNumbered old next →
    trees_of new ≡ trees_of (take at old) ++ loop_of (trees_of (drop at old)) → AreNumbered new next
repeated-numbered old new next at h e =
    numbered-same old new next h
    (ap (λ ts. steps_of (in_sequence ts)) e
    ∙ steps-last (trees_of (take at old)) (trees_of (drop at old)) (Loop (in_sequence (trees_of (drop at old)))) refl
    ∙ ap (λ ts. steps_of (in_sequence ts)) (sym (grouped old at)))

pub held-numbered : (old new : List Code) (next at : ℕ) (kind : LockKind) (place : Place) → AreNumbered old next →
    trees_of new ≡ trees_of (take at old) ++ locked kind place (trees_of (drop at old)) → AreNumbered new next
held-numbered old new next at kind place h e =
    numbered-same old new next h
    (ap (λ ts. steps_of (in_sequence ts)) e
    ∙ steps-last (trees_of (take at old)) (trees_of (drop at old))
    (Sync (lock_at kind place) (in_sequence (trees_of (drop at old)))) refl
    ∙ ap (λ ts. steps_of (in_sequence ts)) (sym (grouped old at)))

-- the same code without sites
last-erased : (new a : List Code) (t u : Tree) → trees_of new ≡ trees_of a ++ t ∷ [] → erased t ≡ u →
    map erased_of new ≡ map erased_of a ++ u ∷ []
last-erased new a t u e same =
    sym (parts-erased new) ∙ ap (map erased) e ∙ map-append erased (trees_of a) (t ∷ [])
    ∙ ap (λ ts. ts ++ erased t ∷ []) (parts-erased a) ∙ ap (λ x. map erased_of a ++ x ∷ []) same

pub chosen-put : (old new : List Code) (l r : ℕ) →
    trees_of new
    ≡ trees_of (take l (take r old)) ++ fork (trees_of (drop l (take r old))) (trees_of (drop r old)) →
    map erased_of new
    ≡ take l (take r (map erased_of old)) ++ fork (drop l (take r (map erased_of old))) (drop r (map erased_of old))
chosen-put old new l r e =
    let a = take l (take r old) in
    let b = drop l (take r old) in
    let c = drop r old in
    last-erased new a (Choice (whole_of b) (whole_of c)) (Choice (in_sequence (map erased_of b)) (in_sequence
    (map erased_of c))) e
    (ap (λ t. Choice t (erased (whole_of c))) (whole-erased b)
    ∙ ap (λ t. Choice (in_sequence (map erased_of b)) t) (whole-erased c))
    ∙ ap (λ ts. ts ++ fork (map erased_of b) (map erased_of c)) (sym (take-map erased_of l (take r old)))
    ∙ ap (λ ts. take l (map erased_of (take r old)) ++ fork ts (map erased_of c))
    (sym (drop-map erased_of l (take r old)))
    ∙ ap (λ ts. take l ts ++ fork (drop l ts) (map erased_of c)) (sym (take-map erased_of r old))
    ∙ ap (λ ts. take l (take r (map erased_of old)) ++ fork (drop l (take r (map erased_of old))) ts)
    (sym (drop-map erased_of r old))

pub repeated-put : (old new : List Code) (at : ℕ) →
    trees_of new ≡ trees_of (take at old) ++ loop_of (trees_of (drop at old)) →
    map erased_of new ≡ take at (map erased_of old) ++ loop_of (drop at (map erased_of old))
repeated-put old new at e =
    last-erased new (take at old) (Loop (whole_of (drop at old))) (Loop (in_sequence (map erased_of (drop at old)))) e
    (ap Loop (whole-erased (drop at old)))
    ∙ ap (λ ts. ts ++ loop_of (map erased_of (drop at old))) (sym (take-map erased_of at old))
    ∙ ap (λ ts. take at (map erased_of old) ++ loop_of ts) (sym (drop-map erased_of at old))

pub held-put : (old new : List Code) (at : ℕ) (kind : LockKind) (place : Place) →
    trees_of new ≡ trees_of (take at old) ++ locked kind place (trees_of (drop at old)) →
    map erased_of new ≡ take at (map erased_of old) ++ locked kind place (drop at (map erased_of old))
held-put old new at kind place e =
    last-erased new (take at old) (Sync (lock_at kind place) (whole_of (drop at old)))
    (Sync (lock_at kind place) (in_sequence (map erased_of (drop at old)))) e
    (ap (Sync (lock_at kind place)) (whole-erased (drop at old)))
    ∙ ap (λ ts. ts ++ locked kind place (map erased_of (drop at old))) (sym (take-map erased_of at old))
    ∙ ap (λ ts. take at (map erased_of old) ++ locked kind place ts) (sym (drop-map erased_of at old))
