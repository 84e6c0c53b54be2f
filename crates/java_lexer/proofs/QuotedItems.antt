-- What is closed on its line is items between quotes.
use Rattle.std.proofs.Common.{◌≡◌, ◌≢◌, ◌↔◌, ℕ, Bool, true, false, cond, ◌&&◌, ◌||◌, not, List, [], ◌∷◌, ◌++◌, inl, inr}
use Rattle.std.proofs.Common.{refl, sym, ap, ◌∙◌, arith, All, IsTrue, eqb-true, append_assoc}
use Rattle.std.specs.Prelude.{◌==◌}
use Rattle.std.specs.List.{concat}
use Rattle.std.proofs.lemmas.Bool.{false≢true, eq-eqb, and_parts, false_from_ne_true}
use Rattle.std.proofs.lemmas.List.Elements.{All-head, All-tail, All-cons}
use Rattle.java_lexer.specs.Kinds.{is_nothing}
use Rattle.java_lexer.specs.Comments.{is_line_end, is_inline}
use Rattle.java_lexer.specs.Literals.{ends_quoted, ends_behind_one, is_quoted}
use Rattle.java_lexer.specs.Items.{is_plain, IsQuotedItem, QuotedOfItems}

pub no_items : (P : List ℕ → Type 0) → All P []
no_items P k d less = absurd (omega arith)

-- none of three tests passes
pub none_of : (x y z : Bool) → not (x || y || z) ≡ true → (x ≡ false) × (y ≡ false) × (z ≡ false)
none_of true y z h = absurd (false≢true h)
none_of false true z h = absurd (false≢true h)
none_of false false true h = absurd (false≢true h)
none_of false false false h = (refl, refl, refl)

pub all_fail : (x y z : Bool) → x ≡ false → y ≡ false → not z ≡ true → not (x || y || z) ≡ true
all_fail x y z e f h = rw (e, f) h

nothing_is : (bs : List ℕ) → is_nothing bs ≡ true → bs ≡ []
nothing_is [] h = refl
nothing_is (b ∷ bs) h = absurd (false≢true h)

module _ (q : ℕ) where
  pub plain_goes : (b : ℕ) (bs : List ℕ) → is_plain q b ≡ true → ends_quoted q (b ∷ bs) ≡ ends_quoted q bs
  plain_goes b bs p = let n = none_of (b == q) (b == 92) (is_line_end b) p in rw (n.0, n.1, n.2) refl

  pub escaped_goes : (b : ℕ) (bs : List ℕ) → q ≢ 92 → is_inline b ≡ true →
      ends_quoted q (92 ∷ b ∷ bs) ≡ ends_quoted q bs
  escaped_goes b bs other p =
      let no : (92 == q) ≡ false = false_from_ne_true (92 == q) (λ e. other (sym (eqb-true 92 q e))) in
      rw (no, p) refl

  pub quote_ends : ends_quoted q (q ∷ []) ≡ true
  quote_ends = let same : (q == q) ≡ true = eq-eqb q q refl in rw same refl

  -- ---- items end at the quote

  items_end : (items : List (List ℕ)) → q ≢ 92 → All (IsQuotedItem q) items →
      ends_quoted q (concat items ++ (q ∷ [])) ≡ true
  items_end [] other all = quote_ends
  items_end (item ∷ items) other all =
      let ih = items_end items other (All-tail (IsQuotedItem q) item items all) in
      elim (All-head (IsQuotedItem q) item items all) [
        | inl p ↦ rw p.1 (plain_goes p.0 (concat items ++ (q ∷ [])) p.2 ∙ ih)
        | inr p ↦ rw p.1 (escaped_goes p.0 (concat items ++ (q ∷ [])) other p.2 ∙ ih)
      ]

  -- ---- what ends at the quote is items

  HasItems : List ℕ → Type 0
  HasItems bs = (items : List (List ℕ)) × All (IsQuotedItem q) items × (bs ≡ concat items ++ (q ∷ []))

  one_item : (item bs : List ℕ) → IsQuotedItem q item → HasItems bs → HasItems (item ++ bs)
  unfolding HasItems
  one_item item bs is h = (
    item ∷ h.0,
    All-cons (IsQuotedItem q) item h.0 is h.1,
    ap (λ (t : List ℕ). item ++ t) h.2
        ∙ sym (append_assoc item (concat h.0) (q ∷ [])),
  )

  last_one : (b : ℕ) (bs : List ℕ) → b ≡ q → bs ≡ [] → HasItems (b ∷ bs)
  unfolding HasItems
  last_one b bs is none = ([], no_items (IsQuotedItem q), rw (is, none) refl)

  ends_case : (b : ℕ) (bs : List ℕ) (v w : Bool) → (b == q) ≡ v → (b == 92) ≡ w →
      cond v (is_nothing bs) (cond w (ends_behind_one q bs) (not (is_line_end b) && ends_quoted q bs)) ≡ true →
      (ends_quoted q bs ≡ true → HasItems bs) → (ends_behind_one q bs ≡ true → HasItems (92 ∷ bs)) → HasItems (b ∷ bs)
  ends_case b bs true w e f h ends behind = last_one b bs (eqb-true b q e) (nothing_is bs h)
  ends_case b bs false true e f h ends behind = let is : b ≡ 92 = eqb-true b 92 f in rw is (behind h)
  ends_case b bs false false e f h ends behind =
      one_item (b ∷ []) bs (inl (b, refl, all_fail (b == q) (b == 92) (is_line_end b) e f (and_parts _ _ h).0))
      (ends (and_parts (not (is_line_end b)) (ends_quoted q bs) h).1)

  both_items : (bs : List ℕ) → (ends_quoted q bs ≡ true → HasItems bs)
      × (ends_behind_one q bs ≡ true → HasItems (92 ∷ bs))
  both_items [] = (λ h. absurd (false≢true h), λ h. absurd (false≢true h))
  both_items (b ∷ bs) =
      let ih = both_items bs in (
        λ h. ends_case b bs (b == q) (b == 92) refl refl h ih.0 ih.1,
        λ h. one_item (92 ∷ b ∷ []) bs (inr (b, refl, (and_parts _ _ h).0))
            (ih.0 (and_parts (not (is_line_end b)) (ends_quoted q bs) h).1),
      )

  pub ends_items : (bs : List ℕ) → ends_quoted q bs ≡ true → (items : List (List ℕ)) × All (IsQuotedItem q) items
      × (bs ≡ concat items ++ (q ∷ []))
  unfolding HasItems
  ends_items bs = (both_items bs).0

  -- ---- the quote in front

  pub quoted_is : (bs : List ℕ) → ends_quoted q bs ≡ true → is_quoted q (q ∷ bs) ≡ true
  quoted_is bs h = let same : (q == q) ≡ true = eq-eqb q q refl in rw (same, h) refl

  of_quoted : (bytes : List ℕ) → is_quoted q bytes ≡ true → QuotedOfItems q bytes
  of_quoted [] h = absurd (false≢true h)
  of_quoted (b ∷ bs) h =
      let is : b ≡ q = eqb-true b q (and_parts _ _ h).0 in
      let f = ends_items bs (and_parts (b == q) (ends_quoted q bs) h).1 in
      (f.0, f.1, ap (λ c. c ∷ bs) is ∙ ap (λ (t : List ℕ). q ∷ t) f.2)

  to_quoted : (bytes : List ℕ) → q ≢ 92 → QuotedOfItems q bytes → is_quoted q bytes ≡ true
  to_quoted bytes other h = rw h.2 (quoted_is (concat h.0 ++ (q ∷ [])) (items_end h.0 other h.1))

pub quoted_items : (quote : ℕ) (bytes : List ℕ) → quote ≢ 92 →
    (IsTrue (is_quoted quote bytes) ↔ QuotedOfItems quote bytes)
quoted_items quote bytes other = (of_quoted quote bytes, to_quoted quote bytes other)
