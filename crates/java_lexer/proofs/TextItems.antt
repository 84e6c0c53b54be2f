-- A text literal is plain bytes and escapes between quotes.
use Rattle.std.proofs.Common.{◌≡◌, ◌≢◌, ◌↔◌, ℕ, zero, suc, ◌-◌, ◌≤◌, ◌<◌, Bool, true, false, cond, ◌&&◌, ◌||◌, not}
use Rattle.std.proofs.Common.{List, [], ◌∷◌, ◌++◌, length, take, drop, inl, inr, refl, sym, ap, ◌∙◌, subst, arith, All}
use Rattle.std.proofs.Common.{IsTrue, eqb-true, append_assoc, length-append, length-drop, take_at, take-append-drop}
use Rattle.std.specs.Prelude.{◌==◌}
use Rattle.std.specs.List.{concat, list_all}
use Rattle.std.proofs.lemmas.Bool.{false≢true, and_parts, not_from_false, or_cases}
use Rattle.std.proofs.lemmas.Bool.Decides.{nat_tests}
use Rattle.std.proofs.lemmas.List.Elements.{All-head, All-tail, All-cons}
use Rattle.java_lexer.specs.Kinds.{is_nothing}
use Rattle.java_lexer.specs.Comments.{is_line_end, is_inline}
use Rattle.java_lexer.specs.Literals.{is_simple, is_simple_escape, is_octal, is_octal_escape, is_hex, is_allowed_unit}
use Rattle.java_lexer.specs.Literals.{behind_u_run, is_unicode_escape, is_escape, ends_quoted, ends_behind_one}
use Rattle.java_lexer.specs.Literals.{is_quoted, between_quotes, escapes_hold, hold_behind_one, is_text}
use Rattle.java_lexer.specs.Items.{is_plain, IsTextItem, TextOfItems}
use Rattle.java_lexer.specs.Fronts.{some_front}
use Rattle.java_lexer.proofs.Bytes.{never_both}
use Rattle.java_lexer.proofs.SomeFronts.{front_is, front_found}
use Rattle.java_lexer.proofs.QuotedItems.{no_items, none_of, all_fail, plain_goes, escaped_goes, quoted_is, ends_items}

-- ---- the bytes of an escape behind its first are plain

simple_below : (b : ℕ) → is_simple b ≡ true → b < 128
simple_below b h = grind (arith, nat_tests)

octal_below : (b : ℕ) → is_octal b ≡ true → b < 128
octal_below b h = grind (arith, nat_tests)

hex_below : (b : ℕ) → is_hex b ≡ true → b < 128
hex_below b h = grind (arith, nat_tests)

abbrev is_special : ℕ → Bool
is_special b = b == 34 || b == 92 || is_line_end b

simple_inline : (b : ℕ) → is_simple b ≡ true → is_inline b ≡ true
simple_inline b h = not_from_false (is_line_end b) (never_both is_simple is_line_end refl b (simple_below b h) h)

octal_inline : (b : ℕ) → is_octal b ≡ true → is_inline b ≡ true
octal_inline b h = not_from_false (is_line_end b) (never_both is_octal is_line_end refl b (octal_below b h) h)

octal_plain : (b : ℕ) → is_octal b ≡ true → is_plain 34 b ≡ true
octal_plain b h = not_from_false (is_special b) (never_both is_octal is_special refl b (octal_below b h) h)

hex_plain : (b : ℕ) → is_hex b ≡ true → is_plain 34 b ≡ true
hex_plain b h = not_from_false (is_special b) (never_both is_hex is_special refl b (hex_below b h) h)

abbrev ArePlain : List ℕ → Type 0
ArePlain bs = list_all (is_plain 34) bs ≡ true

all_plain : (test : ℕ → Bool) → ((b : ℕ) → test b ≡ true → is_plain 34 b ≡ true) → (bs : List ℕ) →
    list_all test bs ≡ true → ArePlain bs
all_plain test plain [] h = refl
all_plain test plain (b ∷ bs) h = rw (plain b (and_parts _ _ h).0) (all_plain test plain bs (and_parts _ _ h).1)

u_run_case : (b : ℕ) (bs : List ℕ) (v : Bool) → (b == 117) ≡ v → ArePlain (cond v (behind_u_run bs) (b ∷ bs)) →
    (ArePlain (behind_u_run bs) → ArePlain bs) → ArePlain (b ∷ bs)
u_run_case b bs true e h ih = let is : b ≡ 117 = eqb-true b 117 e in rw is (ih h)
u_run_case b bs false e h ih = h

u_run_plain : (bs : List ℕ) → ArePlain (behind_u_run bs) → ArePlain bs
u_run_plain [] h = refl
u_run_plain (b ∷ bs) h = u_run_case b bs (b == 117) refl h (u_run_plain bs)

nothing_plain : (bs : List ℕ) → is_nothing bs ≡ true → ArePlain bs
nothing_plain [] h = refl
nothing_plain (b ∷ bs) h = absurd (false≢true h)

escape_plain : (b : ℕ) (bs : List ℕ) → is_escape 34 (b ∷ bs) ≡ true → (is_inline b ≡ true) × ArePlain bs
escape_plain b bs h =
    elim (or_cases (is_simple_escape (b ∷ bs) || is_octal_escape (b ∷ bs)) (is_unicode_escape 34 (b ∷ bs)) h) [
      | inl e ↦ elim (or_cases (is_simple_escape (b ∷ bs)) (is_octal_escape (b ∷ bs)) e) [
        | inl simple ↦ (simple_inline b (and_parts _ _ simple).0, nothing_plain bs (and_parts (is_simple b) _ simple).1)
        | inr octal ↦ (
          octal_inline b (and_parts _ _ (and_parts _ _ octal).0).0,
          all_plain is_octal octal_plain bs
              (and_parts (is_octal b) _ (and_parts _ _ octal).0).1,
        )
      ]
      | inr e ↦
          let is : b ≡ 117 = eqb-true b 117 (and_parts _ _ e).0 in
          let unit : is_allowed_unit 34 (behind_u_run bs) ≡ true = (and_parts (b == 117) _ e).1 in (
            rw is refl,
            u_run_plain bs (all_plain is_hex hex_plain (behind_u_run bs)
                (and_parts _ _ (and_parts _ _ unit).0).1),
          )
    ]

-- ---- plain bytes are passed

plain_holds : (b : ℕ) (bs : List ℕ) → is_plain 34 b ≡ true → escapes_hold (b ∷ bs) ≡ escapes_hold bs
plain_holds b bs p = let n = none_of (b == 34) (b == 92) (is_line_end b) p in rw n.1 refl

plains_end : (ps bs : List ℕ) → ArePlain ps → ends_quoted 34 (ps ++ bs) ≡ ends_quoted 34 bs
plains_end [] bs h = refl
plains_end (p ∷ ps) bs h = plain_goes 34 p (ps ++ bs) (and_parts _ _ h).0
    ∙ plains_end ps bs (and_parts (is_plain 34 p) _ h).1

plains_hold : (ps bs : List ℕ) → ArePlain ps → escapes_hold (ps ++ bs) ≡ escapes_hold bs
plains_hold [] bs h = refl
plains_hold (p ∷ ps) bs h = plain_holds p (ps ++ bs) (and_parts _ _ h).0
    ∙ plains_hold ps bs (and_parts (is_plain 34 p) _ h).1

-- ---- items are a text literal

Holds : List ℕ → Type 0
Holds bs = (ends_quoted 34 (bs ++ (34 ∷ [])) ≡ true) × (escapes_hold bs ≡ true)

both_hold : (bs : List ℕ) → ends_quoted 34 (bs ++ (34 ∷ [])) ≡ true → escapes_hold bs ≡ true → Holds bs
unfolding Holds
both_hold bs ends hold = (ends, hold)

plain_item : (b : ℕ) (bs : List ℕ) → is_plain 34 b ≡ true → Holds bs → Holds (b ∷ bs)
unfolding Holds
plain_item b bs p h = (plain_goes 34 b (bs ++ (34 ∷ [])) p ∙ h.0, plain_holds b bs p ∙ h.1)

other_quote : ◌≢◌ {A = ℕ} 34 92
other_quote e = omega arith

escape_item : (escape bs : List ℕ) → is_escape 34 escape ≡ true → Holds bs → Holds (92 ∷ (escape ++ bs))
unfolding Holds
escape_item [] bs is h = absurd (false≢true is)
escape_item (c ∷ ps) bs is h =
    let plain = escape_plain c ps is in
    let front : take (suc (length ps)) (c ∷ (ps ++ bs)) ≡ c ∷ ps = take_at (c ∷ ps) bs (suc (length ps)) refl in
    let fits : suc (length ps) ≤ length (c ∷ (ps ++ bs)) = omega (arith, length-append ps bs) in
    let some : some_front (is_escape 34) (c ∷ (ps ++ bs)) ≡ true =
    front_is (is_escape 34) (c ∷ (ps ++ bs)) (suc (length ps)) (omega arith) fits (ap (is_escape 34) front ∙ is) in (
      escaped_goes 34 c ((ps ++ bs) ++ (34 ∷ [])) other_quote plain.0
          ∙ ap (ends_quoted 34) (append_assoc ps bs (34 ∷ [])) ∙ plains_end ps (bs ++ (34 ∷ [])) plain.1 ∙ h.0,
      rw some (plains_hold ps bs plain.1 ∙ h.1),
    )

items_hold : (items : List (List ℕ)) → All IsTextItem items → Holds (concat items)
items_hold [] all = both_hold [] refl refl
items_hold (item ∷ items) all =
    let ih = items_hold items (All-tail IsTextItem item items all) in
    elim (All-head IsTextItem item items all) [
      | inl p ↦ rw p.1 (plain_item p.0 (concat items) p.2 ih)
      | inr p ↦ rw p.1 (escape_item p.0 (concat items) p.2 ih)
    ]

between : (content : List ℕ) → between_quotes (34 ∷ (content ++ (34 ∷ []))) ≡ content
between content = take_at content (34 ∷ []) (length (34 ∷ (content ++ (34 ∷ []))) - 2)
    (omega (arith, length-append content (34 ∷ [])))

to_text : (bytes : List ℕ) → TextOfItems bytes → is_text bytes ≡ true
unfolding Holds
to_text bytes h =
    let holds = items_hold h.0 h.1 in
    rw h.2 (rw (quoted_is 34 (concat h.0 ++ (34 ∷ [])) holds.0, between (concat h.0)) holds.1)

-- ---- a text literal is items

HasText : List ℕ → Type 0
HasText bs = (items : List (List ℕ)) × All IsTextItem items × (bs ≡ concat items)

one_item : (item bs : List ℕ) → IsTextItem item → HasText bs → HasText (item ++ bs)
unfolding HasText
one_item item bs is h = (item ∷ h.0, All-cons IsTextItem item h.0 is h.1, ap (λ (t : List ℕ). item ++ t) h.2)

no_more : (bs : List ℕ) → is_nothing (bs ++ (34 ∷ [])) ≡ true → ⊥
no_more [] h = false≢true h
no_more (b ∷ bs) h = false≢true h

-- a backslash, and what an escape behind it takes along
behind_backslash : (n : ℕ) (bs : List ℕ) → length bs ≤ n → some_front (is_escape 34) bs ≡ true →
    ends_behind_one 34 (bs ++ (34 ∷ [])) ≡ true → hold_behind_one bs ≡ true →
    ((rest : List ℕ) → length rest ≤ n → Holds rest → HasText rest) → HasText (92 ∷ bs)
behind_backslash n [] le some ends hold more =
    absurd (let f = front_found (is_escape 34) [] some in omega (arith, f.1, f.2))
behind_backslash n (c ∷ cs) le some ends hold more = let f = front_found (is_escape 34) (c ∷ cs) some in at f.0 f.1 f.3
  where
    at : (k : ℕ) → 0 < k → is_escape 34 (take k (c ∷ cs)) ≡ true → HasText (92 ∷ c ∷ cs)
    at zero pos is = absurd (omega arith)
    at (suc j) pos is =
        let plain = escape_plain c (take j cs) is in
        let whole : take j cs ++ drop j cs ≡ cs = take-append-drop j cs in
        let split : cs ++ (34 ∷ []) ≡ take j cs ++ (drop j cs ++ (34 ∷ [])) =
        ap (λ (t : List ℕ). t ++ (34 ∷ [])) (sym whole) ∙ append_assoc (take j cs) (drop j cs) (34 ∷ []) in
        let ends_rest : ends_quoted 34 (drop j cs ++ (34 ∷ [])) ≡ true =
        sym (plains_end (take j cs) (drop j cs ++ (34 ∷ [])) plain.1) ∙ sym (ap (ends_quoted 34) split)
        ∙ (and_parts (not (is_line_end c)) (ends_quoted 34 (cs ++ (34 ∷ []))) ends).1 in
        let hold_rest : escapes_hold (drop j cs) ≡ true =
        sym (plains_hold (take j cs) (drop j cs) plain.1) ∙ ap escapes_hold whole ∙ hold in
        let rest : HasText (drop j cs) = more (drop j cs) (omega (arith, length-drop j cs))
        (both_hold (drop j cs) ends_rest hold_rest) in
        subst (λ (t : List ℕ). HasText (92 ∷ c ∷ t)) whole
        (one_item (92 ∷ c ∷ take j cs) (drop j cs) (inr (c ∷ take j cs, refl, is)) rest)

text_case : (n b : ℕ) (bs : List ℕ) (v w : Bool) → length bs ≤ n → (b == 34) ≡ v → (b == 92) ≡ w →
    cond v (is_nothing (bs ++ (34 ∷ []))) (cond w (ends_behind_one 34 (bs ++ (34 ∷ [])))
    (not (is_line_end b) && ends_quoted 34 (bs ++ (34 ∷ [])))) ≡ true →
    cond w (some_front (is_escape 34) bs && hold_behind_one bs) (escapes_hold bs) ≡ true →
    ((rest : List ℕ) → length rest ≤ n → Holds rest → HasText rest) → HasText (b ∷ bs)
text_case n b bs true w le e f ends hold more = absurd (no_more bs ends)
text_case n b bs false true le e f ends hold more =
    let is : b ≡ 92 = eqb-true b 92 f in
    rw is (behind_backslash n bs le (and_parts _ _ hold).0 ends (and_parts (some_front (is_escape 34) bs) _ hold).1
    more)
text_case n b bs false false le e f ends hold more =
    one_item (b ∷ []) bs (inl (b, refl, all_fail (b == 34) (b == 92) (is_line_end b) e f (and_parts _ _ ends).0))
    (more bs le (both_hold bs (and_parts (not (is_line_end b)) (ends_quoted 34 (bs ++ (34 ∷ []))) ends).1 hold))

text_upto : (n : ℕ) (bs : List ℕ) → length bs ≤ n → Holds bs → HasText bs
unfolding Holds HasText
text_upto n [] le h = ([], no_items IsTextItem, refl)
text_upto zero (b ∷ bs) le h = absurd (omega arith)
text_upto (suc n) (b ∷ bs) le h = text_case n b bs (b == 34) (b == 92) (omega arith) refl refl h.0 h.1 (text_upto n)

of_content : (b : ℕ) (bs content : List ℕ) → b ≡ 34 → bs ≡ content ++ (34 ∷ []) → ends_quoted 34 bs ≡ true →
    escapes_hold (between_quotes (b ∷ bs)) ≡ true → TextOfItems (b ∷ bs)
unfolding Holds HasText
of_content b bs content is e ends hold =
    let same : between_quotes (b ∷ bs) ≡ content = ap (λ (t : List ℕ). between_quotes (b ∷ t)) e ∙ between content in
    let t = text_upto (length content) content (omega arith)
    (sym (ap (ends_quoted 34) e) ∙ ends, sym (ap escapes_hold same) ∙ hold) in
    (t.0, t.1, ap (λ c. c ∷ bs) is ∙ ap (λ (t : List ℕ). 34 ∷ t) (e ∙ ap (λ (t : List ℕ). t ++ (34 ∷ [])) t.2))

of_text : (bytes : List ℕ) → is_text bytes ≡ true → TextOfItems bytes
of_text [] h = absurd (false≢true h)
of_text (b ∷ bs) h =
    let quoted : is_quoted 34 (b ∷ bs) ≡ true = (and_parts _ _ h).0 in
    let ends : ends_quoted 34 bs ≡ true = (and_parts (b == 34) (ends_quoted 34 bs) quoted).1 in
    let f = ends_items 34 bs ends in
    of_content b bs (concat f.0) (eqb-true b 34 (and_parts _ _ quoted).0) f.2 ends
    (and_parts (is_quoted 34 (b ∷ bs)) _ h).1

pub text_items : (bytes : List ℕ) → (IsTrue (is_text bytes) ↔ TextOfItems bytes)
text_items bytes = (of_text bytes, to_text bytes)
