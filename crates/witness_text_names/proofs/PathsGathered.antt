-- Start paths are gathered up to the first text that is none.
use Rattle.std.proofs.Common.{◌≡◌, ◌<◌, ◌≤◌, ℕ, suc, ◌+◌, List, [], ◌∷◌, ◌++◌, Option, None, Some, drop, get_or, length}
use Rattle.std.proofs.Common.{refl, sym, ap, ◌∙◌, arith, append_assoc, append-nil}
use Rattle.std.proofs.lemmas.List.{at_drop_all, at_drop_more, length-append}
use Rattle.core_code.specs.Core.{Core, Method}
use Rattle.core_semantics.specs.declared.object.StartPath.{StartPath}
use Rattle.witness_text_names.specs.declared.objects.Named.{Named}
use Rattle.witness_text_names.specs.declared.objects.Named.TheVariants.{All, NoneAt}
use Rattle.witness_text_names.specs.Objects.{before, object_named, objects_named}

-- start paths so far, and then what texts are
abbrev pub after : List StartPath → Named → Named
after ps (All qs) = All (ps ++ qs)
after ps (NoneAt i) = NoneAt (length ps + i)

pub after_none : (named : Named) → after [] named ≡ named
after_none (All qs) = refl
after_none (NoneAt i) =
    let same : 0 + i ≡ i = omega arith in
    ap NoneAt same

one_more : (ps : List StartPath) (p : StartPath) (named : Named) →
    after (ps ++ p ∷ []) named ≡ after ps (before p named)
one_more ps p (All qs) = ap All (append_assoc ps (p ∷ []) qs)
one_more ps p (NoneAt i) =
    let size : length (ps ++ p ∷ []) ≡ length ps + 1 = length-append ps (p ∷ []) in
    let moved : length (ps ++ p ∷ []) + i ≡ length ps + suc i = omega (arith, size) in
    ap NoneAt moved

module _ (core : Core) (f g : Method) where
  abbrev pub named_of : List (List ℕ) → Named
  named_of = objects_named core f g

  abbrev first_of : List (List ℕ) → Option StartPath → Named
  first_of texts o = elim o [ None ↦ NoneAt 0 | Some p ↦ before p (named_of texts) ]

  at_next : (texts : List (List ℕ)) (i : ℕ) (text : List ℕ) (o : Option StartPath) → i < length texts →
      text ≡ get_or texts i text → o ≡ object_named core f g text →
      named_of (drop i texts) ≡ first_of (drop (i + 1) texts) o
  at_next texts i text o within is found =
      at_drop_more named_of texts i text within
      ∙ ap (λ (t : List ℕ). named_of (t ∷ drop (i + 1) texts)) (sym is)
      ∙ ap (first_of (drop (i + 1) texts)) (sym found)

  pub gathered : (ps more : List StartPath) (p : StartPath) (texts : List (List ℕ)) (i : ℕ) (text : List ℕ) →
      i < length texts → text ≡ get_or texts i text → Some p ≡ object_named core f g text → more ≡ ps ++ p ∷ [] →
      after more (named_of (drop (i + 1) texts)) ≡ after ps (named_of (drop i texts))
  gathered ps more p texts i text within is found grown =
      ap (λ (qs : List StartPath). after qs (named_of (drop (i + 1) texts))) grown
      ∙ one_more ps p (named_of (drop (i + 1) texts))
      ∙ sym (ap (after ps) (at_next texts i text (Some p) within is found))

  pub stopped : (ps : List StartPath) (texts : List (List ℕ)) (i number : ℕ) (text : List ℕ) → i < length texts →
      text ≡ get_or texts i text → None ≡ object_named core f g text → length ps ≡ i → number ≡ i →
      NoneAt number ≡ after ps (named_of (drop i texts))
  stopped ps texts i number text within is found size counts =
      let same : number ≡ length ps + 0 = omega (arith, size, counts) in
      ap NoneAt same ∙ sym (ap (after ps) (at_next texts i text None within is found))

  pub ended : (ps : List StartPath) (texts : List (List ℕ)) (i : ℕ) → length texts ≤ i →
      All ps ≡ after ps (named_of (drop i texts))
  ended ps texts i past =
      ap All (sym (append-nil ps)) ∙ sym (ap (after ps) (at_drop_all named_of texts i past))
